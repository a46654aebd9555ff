-- A text is replayed alike over two stocks of which each has enough for its lines.
use Rattle.std.proofs.Common.{◌≡◌, ℕ, suc, ◌≤◌, List, [], ◌∷◌, ◌++◌, length, Option, Some}
use Rattle.std.proofs.Common.{None, refl, sym, ap, subst, ◌∙◌, inl, inr, ◌⊎◌, arith}
use Rattle.std.specs.Prelude.{option_map, min, nat_le, Result, Err}
use Rattle.std.specs.Option.{option_map_or}
use Rattle.std.proofs.Math.Nat.{le-min, min-eq_right}
use Rattle.std.proofs.lemmas.Bool.{cases_Bool}
use Rattle.std.proofs.lemmas.Bool.Decides.{nat_tests}
use Rattle.std.proofs.lemmas.Option.{same_Some}
use Rattle.cm_document.specs.Lines.{raw_lines, without_last}
use Rattle.cm_document.specs.Reading.{◌>>=◌}
use Rattle.cm_document.specs.ScriptLaws.{MeetsRules}
use Rattle.cm_document.specs.declared.call.Call.{Call}
use Rattle.cm_document.specs.declared.document.Document.{Document}
use Rattle.cm_model.proofs.BlankLemmas.{count_is}
use Rattle.cm_model.proofs.LegalLemmas.{Leads, Leads-step}
use Rattle.cm_model.specs.Blanks.{blanks_of}
use Rattle.cm_model.specs.Machine.{step}
use Rattle.cm_model.specs.State.{State, boot}
use Rattle.cm_model.specs.declared.blanks.Blanks.{Blanks}
use Rattle.cm_model.specs.declared.entry.Entry.{Entry}
use Rattle.cm_model.specs.declared.reply.Reply.{Reply}
use Rattle.trace_laws.specs.Judged.{if_it_prints, told_by, replayed, through_behind, judged}
use Rattle.trace_laws.specs.Next.{caller_named, first_word, next_of, state_of, entry_of}
use Rattle.trace_laws.specs.Next.{entry_by, entry_line, entry_named, expected_at}
use Rattle.trace_laws.specs.Stocks.{at_most}
use Rattle.trace_laws.specs.Told.{WrongLine}
use Rattle.trace_laws.proofs.ReplayLemmas.{telling}
use Rattle.trace_laws.proofs.StockLemmas.{AreAlike, StepAlike, neither, both, step_alike}

module _ (document : Document) (all some : Blanks) (rules : MeetsRules document.script) where
  -- a history leads to states that are alike for so many loads
  pub record LeadsAlike (history : List Entry) (loads : ℕ) : Type 0 where
    pub s : State
    pub t : State
    pub to_s : Leads (boot document.description all (length document.script.sessions)) history s
    pub to_t : Leads (boot document.description some (length document.script.sessions)) history t
    pub alike : AreAlike loads s t

  -- an entry of this call with the reply of a step
  abbrev entry_made : ℕ → Call → Option (State × Reply) → Option Entry
  entry_made who call o = option_map (λ (made : State × Reply). record { who = who; call = call; reply = made.1 }) o

  step_made : (loads : ℕ) (who : ℕ) (call : Call) (o p : Option (State × Reply)) → StepAlike loads o p
      → entry_made who call p ≡ entry_made who call o
  step_made loads who call o p (neither none nor) = rw (none, nor) refl
  step_made loads who call o p (both s t r first second alike) = rw (first, second) refl

  entry_alike : (history : List Entry) (loads who : ℕ) (c : Option Call) → LeadsAlike history (suc loads)
      → entry_of document some history who c ≡ entry_of document all history who c
  entry_alike history loads who None leads = refl
  entry_alike history loads who (Some call) leads =
      ap (λ (t : State). entry_made who call (step t who call)) leads.to_t.ends
      ∙ step_made loads who call (step leads.s who call) (step leads.t who call)
      (step_alike loads leads.s leads.t who call leads.alike)
      ∙ ap (λ (s : State). entry_made who call (step s who call)) (sym leads.to_s.ends)

  by_alike : (history : List Entry) (loads : ℕ) (o : Option ℕ) → LeadsAlike history (suc loads)
      → entry_by document some history o ≡ entry_by document all history o
  by_alike history loads None leads = refl
  by_alike history loads (Some who) leads = entry_alike history loads who (next_of document history who) leads

  named_alike : (history : List Entry) (loads : ℕ) (line : List ℕ) → LeadsAlike history (suc loads)
      → entry_named document some history line ≡ entry_named document all history line
  named_alike history loads line leads =
      by_alike history loads (caller_named document.script.sessions (first_word line)) leads

  -- one entry more leads on alike
  leads_on : (history : List Entry) (loads : ℕ) (e : Entry) (after : State)
      → step (state_of document all history) e.who e.call ≡ Some (after, e.reply) → LeadsAlike history (suc loads)
      → LeadsAlike (history ++ e ∷ []) loads
  leads_on history loads e after stepped leads =
      go (step leads.s e.who e.call) (step leads.t e.who e.call) refl refl
      (step_alike loads leads.s leads.t e.who e.call leads.alike)
    where
      here : step leads.s e.who e.call ≡ Some (after, e.reply)
      here = ap (λ (s : State). step s e.who e.call) (sym leads.to_s.ends) ∙ stepped

      go : (o p : Option (State × Reply)) → step leads.s e.who e.call ≡ o → step leads.t e.who e.call ≡ p
          → StepAlike loads o p → LeadsAlike (history ++ e ∷ []) loads
      go o p at bt (neither none nor) = let nothing = sym here ∙ at ∙ none in cc
      go o p at bt (both s t r first second alike) =
          let made : Some (s, r) ≡ Some (after, e.reply) = sym (at ∙ first) ∙ here in
          let reply : r ≡ e.reply = ap (λ (p : State × Reply). p.1) (same_Some (s, r) (after, e.reply) made) in
          record {
            s = s;
            t = t;
            to_s = Leads-step history (boot document.description all (length document.script.sessions)) leads.s e.who
                e.call s e.reply leads.to_s
                (subst (λ (x : Reply). step leads.s e.who e.call ≡ Some (s, x)) reply (at ∙ first));
            to_t = Leads-step history (boot document.description some (length document.script.sessions)) leads.t e.who
                e.call t e.reply leads.to_t
                (subst (λ (x : Reply). step leads.t e.who e.call ≡ Some (t, x)) reply (bt ∙ second));
            alike = alike;
          }

  -- what is made of a line that tells this entry, or none
  abbrev on_line : Blanks → List Entry → ℕ → List ℕ → List (List ℕ) → Option Entry → Result (List Entry) WrongLine
  on_line blanks history number line lines o = elim o [
    | None ↦ Err (record { line = number; expected = expected_at document blanks history line })
    | Some e ↦ replayed document blanks (history ++ e ∷ []) (suc number) lines
  ]

  replay_alike : (lines : List (List ℕ)) (history : List Entry) (number : ℕ) → LeadsAlike history (length lines)
      → replayed document some history number lines ≡ replayed document all history number lines
  replay_alike [] history number leads = refl
  replay_alike (line ∷ lines) history number leads =
      let named = named_alike history (length lines) line leads in
      ap (on_line some history number line lines) (ap (if_it_prints document history line) named)
      ∙ go (λ e leads. replay_alike lines (history ++ e ∷ []) (suc number) leads) (told_by document all history line)
      refl named
    where
      go : ((e : Entry) → LeadsAlike (history ++ e ∷ []) (length lines)
          → replayed document some (history ++ e ∷ []) (suc number) lines
          ≡ replayed document all (history ++ e ∷ []) (suc number) lines) → (o : Option Entry)
          → told_by document all history line ≡ o
          → entry_named document some history line ≡ entry_named document all history line
          → on_line some history number line lines (told_by document all history line)
          ≡ on_line all history number line lines (told_by document all history line)
      go rest None told named =
          let expected : expected_at document some history line ≡ expected_at document all history line =
          ap (λ (o : Option Entry). option_map_or (λ e. without_last 10 (entry_line document history e)) o []) named in
          rw told (ap (λ text. Err (record { line = number; expected = text })) expected)
      go rest (Some e) told named =
          let tells = telling document all rules history line e told in
          rw told (rest e (leads_on history (length lines) e tells.after tells.stepped leads))

  pub judged_alike : (text : List ℕ) → LeadsAlike [] (length (raw_lines text))
      → judged document some text ≡ judged document all text
  unfolding judged
  judged_alike text leads =
      ap (λ (r : Result (List Entry) WrongLine). r >>= λ history. through_behind document (length (raw_lines text))
      history) (replay_alike (raw_lines text) [] 1 leads)

-- the lesser of two numbers
lesser : (most n : ℕ) → (min most n ≡ n) ⊎ ((most ≤ min most n) × (most ≤ n))
lesser most n = elim (cases_Bool (nat_le most n)) [
  | inl under ↦
      let less : most ≤ n = grind (arith, nat_tests, under) in
      let own : most ≤ most = omega arith in inr (le-min own less, less)
  | inr over ↦ let less : n ≤ most = grind (arith, nat_tests, over) in inl (min-eq_right less)
]

-- A stock that has at most as many blanks of each kind as a text has lines has enough for it.
pub few_are_enough : (document : Document) (blanks : Blanks) (text : List ℕ) → MeetsRules document.script
    → judged document (at_most (length (raw_lines text)) blanks) text ≡ judged document blanks text
few_are_enough document blanks text rules =
    let n = length (raw_lines text) in
    judged_alike document blanks (at_most n blanks) rules text (record {
      s = boot document.description blanks (length document.script.sessions);
      t = boot document.description (at_most n blanks) (length document.script.sessions);
      to_s = record { legal = tt; ends = refl };
      to_t = record { legal = tt; ends = refl };
      alike = record {
        blanks = at_most n blanks;
        same = refl;
        enough = λ k. subst (λ few. (few ≡ blanks_of blanks k) ⊎ ((n ≤ few) × (n ≤ blanks_of blanks k)))
            (sym (count_is (λ kind. min n (blanks_of blanks kind)) k)) (lesser n (blanks_of blanks k));
      };
    })
