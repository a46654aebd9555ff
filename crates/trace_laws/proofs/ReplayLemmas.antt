-- Lines that are replayed: those of a history on its way tell it, and what lines tell is such a history.
use Rattle.std.proofs.Common.{◌≡◌, ℕ, suc, ◌≤◌, ◌<◌, Bool, true, false, List, [], ◌∷◌, ◌++◌, length, map, Option}
use Rattle.std.proofs.Common.{Some, None, refl, sym, ap, ap₂, subst, ◌∙◌, append_assoc, append-nil, arith, ltb-true}
use Rattle.std.specs.Prelude.{flat_map, codes, option_map, position, if◌then◌else◌, nat_eq, Result, Ok, Err}
use Rattle.std.specs.List.{position_or_len}
use Rattle.std.specs.Cmp.Lexicographic.{pointwise}
use Rattle.std.proofs.lemmas.Cmp.{nat_list_eq_equiv}
use Rattle.std.proofs.lemmas.Grind.{flat_map-append}
use Rattle.std.proofs.lemmas.Option.{cond_some, same_Some}
use Rattle.std.proofs.lemmas.Slice.Eq.{bytes_eq-Decides}
use Rattle.iface_names.specs.Names.{same_name}
use Rattle.cm_document.specs.CallText.{call_text}
use Rattle.cm_document.specs.Lines.{joined}
use Rattle.cm_document.specs.ScriptLaws.{MeetsRules}
use Rattle.cm_document.specs.declared.call.Call.{Call}
use Rattle.cm_document.specs.declared.document.Document.{Document}
use Rattle.cm_model.proofs.LegalLemmas.{Leads-step, step_of}
use Rattle.cm_model.specs.Machine.{LegalFrom, IsLegal, state_after, step}
use Rattle.cm_model.specs.State.{State, boot}
use Rattle.cm_model.specs.Trace.{caller_text, line_text, names_in, reply_text}
use Rattle.cm_model.specs.declared.blanks.Blanks.{Blanks}
use Rattle.cm_model.specs.declared.entry.Entry.{Entry}
use Rattle.cm_model.specs.declared.reply.Reply.{Reply}
use Rattle.trace_laws.specs.Judged.{if_it_prints, told_by, replayed}
use Rattle.trace_laws.specs.Next.{caller_named, first_word, next_of, state_of, entry_of}
use Rattle.trace_laws.specs.Next.{next_entry, entry_line, entry_by, entry_named, expected_at}
use Rattle.trace_laws.specs.OnTheWay.{IsOnItsWay}
use Rattle.trace_laws.specs.Told.{WrongLine}
use Rattle.trace_laws.proofs.LineLemmas.{caller_is, caller_shown, first_word_is}
use Rattle.trace_laws.proofs.SameLineLemmas.{line_stays}
use Rattle.trace_laws.proofs.ThroughLemmas.{way_more}
use Rattle.trace_laws.proofs.WayLemmas.{all_at, next_is}

-- ---- Legal histories in parts

pub legal_front : (xs ys : List Entry) (s : State) → LegalFrom s (xs ++ ys) → LegalFrom s xs
legal_front [] ys s legal = tt
legal_front (x ∷ xs) ys s legal =
    let first = step_of (step s x.who x.call) x.reply (λ after. LegalFrom after (xs ++ ys)) legal in
    rw (first.1, LegalFrom) (refl, legal_front xs ys first.0 first.2)

pub legal_rest : (xs ys : List Entry) (s : State) → LegalFrom s (xs ++ ys) → LegalFrom (state_after s xs) ys
legal_rest [] ys s legal = legal
legal_rest (x ∷ xs) ys s legal =
    let first = step_of (step s x.who x.call) x.reply (λ after. LegalFrom after (xs ++ ys)) legal in
    rw (first.1, state_after) (legal_rest xs ys first.0 first.2)

-- a line is its caller, and what stands behind the space
caller_first : (caller call r : List ℕ)
    → caller ++ codes " " ++ call ++ codes ": " ++ r ++ codes "\n"
    ≡ caller ++ (32 ∷ (call ++ codes ": " ++ r ++ codes "\n"))
caller_first caller call r =
    ap (λ text. text ++ codes ": " ++ r ++ codes "\n") (append_assoc caller (codes " ") call)
    ∙ ap (λ text. text ++ r ++ codes "\n") (append_assoc caller (codes " " ++ call) (codes ": "))
    ∙ ap (λ text. text ++ codes "\n") (append_assoc caller (codes " " ++ call ++ codes ": ") r)
    ∙ append_assoc caller (codes " " ++ call ++ codes ": " ++ r) (codes "\n")

module _ (document : Document) (blanks : Blanks) (rules : MeetsRules document.script) where
  -- legal for the document over these blanks
  abbrev Legal : List Entry → Type 0
  Legal history = IsLegal document.description blanks (length document.script.sessions) history

  -- an entry's line in the trace of this history
  abbrev pub line_in : List Entry → Entry → List ℕ
  line_in history e = line_text document.script.sessions (names_in document.description history) e

  -- ---- A line that an entry prints tells it

  line_names : (history : List Entry) (e : Entry) → e.who ≤ length document.script.sessions
      → caller_named document.script.sessions (first_word (entry_line document history e)) ≡ Some e.who
  line_names history e few =
      let caller = caller_text document.script.sessions e.who in
      let r = reply_text (names_in document.description (history ++ e ∷ [])) e.reply in
      ap (λ text. caller_named document.script.sessions (first_word text)) (caller_first caller (call_text e.call) r)
      ∙ ap (caller_named document.script.sessions)
      (first_word_is caller (call_text e.call ++ codes ": " ++ r ++ codes "\n")
      (caller_shown document.script rules e.who few))
      ∙ caller_is document.script rules e.who few

  next_made : (history later : List Entry) (e : Entry) → Legal (history ++ e ∷ later)
      → IsOnItsWay document (history ++ e ∷ later) → next_entry document blanks history e.who ≡ Some e
  next_made history later e legal way =
      let rest = legal_rest history (e ∷ later) (boot document.description blanks (length document.script.sessions))
      legal in
      let first = step_of (step (state_of document blanks history) e.who e.call) e.reply
      (λ after. LegalFrom after later) rest in
      ap (entry_of document blanks history e.who) (next_is document history later e way)
      ∙ ap (option_map (λ (made : State × Reply). record { who = e.who; call = e.call; reply = made.1 })) first.1

  prints : (b : Bool) (e : Entry) → b ≡ true → (if b then Some e else None) ≡ Some e
  prints true e is = refl
  prints false e is = cc

  pub told_is : (history later : List Entry) (e : Entry) → Legal (history ++ e ∷ later)
      → IsOnItsWay document (history ++ e ∷ later)
      → told_by document blanks history (entry_line document history e) ≡ Some e
  told_is history later e legal way =
      let line = entry_line document history e in
      let few = all_at (λ (each : Entry). each.who ≤ length document.script.sessions) history later e way.nobody_else in
      let named : entry_named document blanks history line ≡ Some e =
      ap (entry_by document blanks history) (line_names history e few) ∙ next_made history later e legal way in
      ap (if_it_prints document history line) named
      ∙ prints (pointwise nat_eq line line) e (nat_list_eq_equiv.refl line)

  -- what is made of a line that tells this entry, or none
  abbrev on : List Entry → ℕ → List ℕ → List (List ℕ) → Option Entry → Result (List Entry) WrongLine
  on history number line lines o = elim o [
    | None ↦ Err (record { line = number; expected = expected_at document blanks history line })
    | Some e ↦ replayed document blanks (history ++ e ∷ []) (suc number) lines
  ]

  -- the lines of a history on its way tell it
  pub replay_tells : (history later : List Entry) (number : ℕ) → Legal (history ++ later)
      → IsOnItsWay document (history ++ later)
      → replayed document blanks history number (map (line_in (history ++ later)) later) ≡ Ok (history ++ later)
  replay_tells history [] number legal way = ap (λ (l : List Entry). Ok l) (sym (append-nil history))
  replay_tells history (e ∷ later) number legal way =
      let whole = history ++ e ∷ later in
      let lines = map (line_in whole) later in
      let same : line_in whole e ≡ entry_line document history e =
      line_stays document.description blanks document.script.sessions history later e legal in
      let told : told_by document blanks history (line_in whole e) ≡ Some e =
      ap (told_by document blanks history) same ∙ told_is history later e legal way in
      let on_line = line_in whole e in
      let further : (history ++ e ∷ []) ++ later ≡ whole = append_assoc history (e ∷ []) later in
      let rest : replayed document blanks (history ++ e ∷ []) (suc number)
      (map (line_in ((history ++ e ∷ []) ++ later)) later) ≡ Ok ((history ++ e ∷ []) ++ later) =
      replay_tells (history ++ e ∷ []) later (suc number) (subst Legal (sym further) legal)
      (subst (IsOnItsWay document) (sym further) way) in
      ap (on history number on_line lines) told
      ∙ subst (λ (l : List Entry). replayed document blanks (history ++ e ∷ []) (suc number) (map (line_in l) later)
      ≡ Ok l) further rest

  -- ---- What lines tell

  -- What it says of an entry that a line tells it behind this history.
  pub record Tells (history : List Entry) (line : List ℕ) (e : Entry) : Type 0 where
    pub few : e.who ≤ length document.script.sessions
    pub next : next_of document history e.who ≡ Some e.call
    pub after : State
    pub stepped : step (state_of document blanks history) e.who e.call ≡ Some (after, e.reply)
    pub prints_so : entry_line document history e ≡ line

  printed_from : (history : List Entry) (line : List ℕ) (o : Option Entry) (e : Entry)
      → if_it_prints document history line o ≡ Some e → (o ≡ Some e) × (entry_line document history e ≡ line)
  printed_from history line None e told = cc
  printed_from history line (Some f) e told = either (pointwise nat_eq (entry_line document history f) line) refl told
    where
      either : (b : Bool) → pointwise nat_eq (entry_line document history f) line ≡ b
          → (if b then Some f else None) ≡ Some e → (Some f ≡ Some e) × (entry_line document history e ≡ line)
      either true same told =
          let is : f ≡ e = same_Some f e told in (
            told,
            subst (λ (x : Entry). entry_line document history x ≡ line) is
                ((bytes_eq-Decides (entry_line document history f) line).0 same),
          )
      either false other told = cc

  pub caller_few : (name : List ℕ) (who : ℕ) → caller_named document.script.sessions name ≡ Some who
      → who ≤ length document.script.sessions
  caller_few name who named = either (same_name name (codes "loop")) named
    where
      either : (b : Bool)
          → (if b then Some (length document.script.sessions)
          else position (λ s. same_name name s.name) document.script.sessions) ≡ Some who
          → who ≤ length document.script.sessions
      either true at =
          let same : length document.script.sessions ≡ who = same_Some (length document.script.sessions) who at in
          omega (arith, same)
      either false at =
          let found = cond_some _ _ _ at in
          let within : position_or_len (λ s. same_name name s.name) document.script.sessions
          < length document.script.sessions = ltb-true _ _ found.0 in
          let same : position_or_len (λ s. same_name name s.name) document.script.sessions ≡ who = found.1 in
          omega (arith, within, same)

  made_from : (history : List Entry) (line : List ℕ) (who : ℕ) (e : Entry) (c : Option Call)
      → entry_line document history e ≡ line → who ≤ length document.script.sessions
      → next_of document history who ≡ c → entry_of document blanks history who c ≡ Some e → Tells history line e
  made_from history line who e None prints few next made = cc
  made_from history line who e (Some call) prints few next made =
      stepped (step (state_of document blanks history) who call) refl made
    where
      stepped : (o : Option (State × Reply)) → step (state_of document blanks history) who call ≡ o
          → option_map (λ (made : State × Reply). record { who = who; call = call; reply = made.1 }) o ≡ Some e
          → Tells history line e
      stepped None at made = cc
      stepped (Some reached) at made =
          let is : record { who = who; call = call; reply = reached.1 } ≡ e =
          same_Some (record { who = who; call = call; reply = reached.1 }) e made in
          subst (λ (x : Entry). entry_line document history x ≡ line → Tells history line x) is
          (λ its. record { few = few; next = next; after = reached.0; stepped = at; prints_so = its }) prints

  named_from : (history : List Entry) (line : List ℕ) (e : Entry) (o : Option ℕ)
      → caller_named document.script.sessions (first_word line) ≡ o → entry_line document history e ≡ line
      → entry_by document blanks history o ≡ Some e → Tells history line e
  named_from history line e None named prints made = cc
  named_from history line e (Some who) named prints made =
      made_from history line who e (next_of document history who) prints (caller_few (first_word line) who named) refl
      made

  pub telling : (history : List Entry) (line : List ℕ) (e : Entry) → told_by document blanks history line ≡ Some e
      → Tells history line e
  telling history line e told =
      let from = printed_from history line (entry_named document blanks history line) e told in
      named_from history line e (caller_named document.script.sessions (first_word line)) refl from.1 from.0

  -- the text of a history
  abbrev pub text_of : List Entry → List ℕ
  text_of history = flat_map (line_in history) history

  -- entries print the same when others come behind them
  lines_stay : (xs ys later : List Entry) → Legal ((xs ++ ys) ++ later)
      → flat_map (line_in ((xs ++ ys) ++ later)) ys ≡ flat_map (line_in (xs ++ ys)) ys
  lines_stay xs [] later legal = refl
  lines_stay xs (y ∷ ys) later legal =
      let whole = (xs ++ y ∷ ys) ++ later in
      let around : whole ≡ xs ++ y ∷ (ys ++ later) = append_assoc xs (y ∷ ys) later in
      let own : Legal (xs ++ y ∷ ys) =
      legal_front (xs ++ y ∷ ys) later (boot document.description blanks (length document.script.sessions)) legal in
      let first : line_in whole y ≡ line_in (xs ++ y ∷ ys) y =
      ap (λ (l : List Entry). line_in l y) around
      ∙ line_stays document.description blanks document.script.sessions xs (ys ++ later) y (subst Legal around legal)
      ∙ sym (line_stays document.description blanks document.script.sessions xs ys y own) in
      let further : (xs ++ y ∷ []) ++ ys ≡ xs ++ y ∷ ys = append_assoc xs (y ∷ []) ys in
      let rest : flat_map (line_in (((xs ++ y ∷ []) ++ ys) ++ later)) ys
      ≡ flat_map (line_in ((xs ++ y ∷ []) ++ ys)) ys =
      lines_stay (xs ++ y ∷ []) ys later (subst (λ (l : List Entry). Legal (l ++ later)) (sym further) legal) in
      ap₂ (λ text texts. text ++ texts) first
      (subst (λ (l : List Entry). flat_map (line_in (l ++ later)) ys ≡ flat_map (line_in l) ys) further rest)

  -- What a replay keeps of the history so far: it is legal and on its way.
  pub record IsReplayed (history : List Entry) (text : List ℕ) : Type 0 where
    pub legal : Legal history
    pub way : IsOnItsWay document history
    pub printed : text_of history ≡ text

  step_more : (history : List Entry) (text line : List ℕ) (e : Entry) → IsReplayed history text → Tells history line e
      → IsReplayed (history ++ e ∷ []) (text ++ line)
  step_more history text line e so_far tells =
      let opening = boot document.description blanks (length document.script.sessions) in
      let leads = Leads-step history opening (state_of document blanks history) e.who e.call tells.after e.reply
      (record { legal = so_far.legal; ends = refl }) tells.stepped in
      let legal : Legal (history ++ e ∷ []) = leads.legal in
      record {
        legal = legal;
        way = way_more document rules history e so_far.way tells.few tells.next;
        printed =
            flat_map-append (line_in (history ++ e ∷ [])) history (e ∷ [])
            ∙ ap₂ (λ first last. first ++ last) (lines_stay [] history (e ∷ []) legal ∙ so_far.printed)
            (append-nil (entry_line document history e) ∙ tells.prints_so);
      }

  -- lines that are replayed tell a history on its way, and are its text
  pub replay_is : (lines : List (List ℕ)) (history h : List Entry) (number : ℕ) (text : List ℕ)
      → IsReplayed history text → replayed document blanks history number lines ≡ Ok h
      → IsReplayed h (text ++ joined lines)
  replay_is [] history h number text so_far replay =
      let same : history ≡ h = same_Ok history h replay in
      subst (λ (l : List Entry). IsReplayed l (text ++ [])) same
      (subst (IsReplayed history) (sym (append-nil text)) so_far)
    where
      same_Ok : (a b : List Entry) → ◌≡◌ {A = Result (List Entry) WrongLine} (Ok a) (Ok b) → a ≡ b
      same_Ok a b e = cc
  replay_is (line ∷ lines) history h number text so_far replay =
      go (λ e so_far on_it. replay_is lines (history ++ e ∷ []) h (suc number) (text ++ line) so_far on_it)
      (told_by document blanks history line) refl replay
    where
      go : ((e : Entry) → IsReplayed (history ++ e ∷ []) (text ++ line)
          → replayed document blanks (history ++ e ∷ []) (suc number) lines ≡ Ok h
          → IsReplayed h ((text ++ line) ++ joined lines))
          → (o : Option Entry) → told_by document blanks history line ≡ o → on history number line lines o ≡ Ok h
          → IsReplayed h (text ++ joined (line ∷ lines))
      go rest None told on_it = cc
      go rest (Some e) told on_it =
          subst (IsReplayed h) (append_assoc text line (joined lines))
          (rest e (step_more history text line e so_far (telling history line e told)) on_it)

  -- before the first entry
  pub nothing_replayed : IsOnItsWay document [] → IsReplayed [] []
  nothing_replayed way = record { legal = tt; way = way; printed = refl }
