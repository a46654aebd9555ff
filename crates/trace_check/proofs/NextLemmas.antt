-- What a caller's next call makes of a run: the next entry of that caller, or nothing.
use Rattle.std.proofs.Common.{◌≡◌, ℕ, zero, suc, ◌+◌, ◌<◌, ◌≤◌, Bool, true, false, List, [], ◌∷◌, ◌++◌}
use Rattle.std.proofs.Common.{length, Option, Some, None, refl, sym, ap, subst, ◌∙◌, inl, inr, arith}
use Rattle.std.specs.Prelude.{◌==◌, slice_get, option_map, if◌then◌else◌}
use Rattle.std.proofs.lemmas.Bool.{cases_Bool, eqb-true, ne_eqb}
use Rattle.std.proofs.lemmas.Bool.Decides.{nat_tests}
use Rattle.std.proofs.lemmas.Option.{slice_get_past}
use Rattle.sequence.proofs.ListLemmas.{all_at}
use Rattle.cm_document.specs.ScriptLaws.{CanBeWritten, IsSession, MeetsRules}
use Rattle.cm_document.specs.declared.call.Call.{Call}
use Rattle.cm_document.specs.declared.description.Description.{Description}
use Rattle.cm_document.specs.declared.document.Document.{Document}
use Rattle.cm_document.specs.declared.script.SessionText.{SessionText}
use Rattle.cm_document.specs.declared.script.Turn.TheVariants as turn
use Rattle.cm_model.proofs.HistoryLemmas.{description_stays, sessions_stay}
use Rattle.cm_model.proofs.LegalLemmas.{Leads, Leads-step}
use Rattle.cm_model.proofs.StayLemmas.{step-IsStep, effect-SameLoop}
use Rattle.cm_model.specs.Histories.{SameLoop}
use Rattle.cm_model.specs.Machine.{IsLegal, step}
use Rattle.cm_model.specs.Scheduled.{Session, Advanced, Progress, next_call, after_call, stepped_on, called_on}
use Rattle.cm_model.specs.Scheduled.{advance, looped, with_advance, advanced_once, turned, with_entry}
use Rattle.cm_model.specs.Sessions.{IsConsole, asked, entries_by}
use Rattle.cm_model.specs.State.{State, boot}
use Rattle.cm_model.specs.declared.blanks.Blanks.{Blanks}
use Rattle.cm_model.specs.declared.entry.Entry.{Entry}
use Rattle.cm_model.specs.declared.reply.Reply.{Reply}
use Rattle.desk_turns.specs.Jobs.{JobFacts, GoesOn, progress_of, loop_call, looped_on}
use Rattle.trace_laws.proofs.StateTextLemmas.{all_drop}
use Rattle.trace_laws.specs.Next.{stands_after, next_of_loop, next_by, state_of, entry_of, next_entry}
use Rattle.trace_laws.proofs.ThroughLemmas.{other_split, written_none}
use Rattle.trace_laws.proofs.WayLemmas.{own_split}
use Rattle.trace_check.specs.Standing.{standing_from, progress_at, LoopStands, LoopStandsAt}
use Rattle.trace_check.specs.Steps.{IsDescribed, made_next}
use Rattle.trace_check.proofs.SessionStandLemmas.{stands_on}
use Rattle.trace_check.proofs.StandLemmas.{GoesSo, HasGone, closed_waits, described_entry, differs, differs_above}
use Rattle.trace_check.proofs.StandLemmas.{loop_on, loop_same, looped_none, looped_some, next_console, none_left}
use Rattle.trace_check.proofs.StandLemmas.{one_left, own_test, same_progress, standing_at, standing_on, standing_past}

-- ---- Callers

module _ (document : Document) (blanks : Blanks) (rules : MeetsRules document.script) (history : List Entry)
    (legal : IsLegal document.description blanks (length document.script.sessions) history)
    (looped_so : LoopStandsAt document blanks history) where
  abbrev opening : State
  opening = boot document.description blanks (length document.script.sessions)

  abbrev now : State
  now = state_of document blanks history

  many : now.sessions ≡ length document.script.sessions
  many = sessions_stay history opening

  cycles_same : now.description.cycles ≡ document.description.cycles
  cycles_same = ap (λ (d : Description). d.cycles) (description_stays history opening)

  leads_on : (who : ℕ) (call : Call) (next : State) (r : Reply) → step now who call ≡ Some (next, r)
      → Leads opening (history ++ record { who = who; call = call; reply = r } ∷ []) next
  leads_on who call next r stepped =
      Leads-step history opening now who call next r (record { legal = legal; ends = refl }) stepped

  entry_described : (who : ℕ) (call : Call) (next : State) (r : Reply) → step now who call ≡ Some (next, r)
      → IsDescribed document.description (record { who = who; call = call; reply = r })
  entry_described who call next r stepped =
      subst (λ (d : Description). IsDescribed d (record { who = who; call = call; reply = r }))
      (description_stays history opening)
      (described_entry now who call r (step-IsStep now who call (next, r) stepped).replied)

  -- a session
  module _ (who : ℕ) (text : SessionText) (at : slice_get document.script.sessions who ≡ Some text)
      (less : who < length document.script.sessions) (is : IsSession text) where
    abbrev stands : Session
    stands = stands_after text.lines (entries_by who history)

    abbrev advancing : Advanced
    advancing = record { state = now; made = history; session = stands }

    is_console : (call : Call) → next_call stands.ticket stands.lines ≡ Some call → IsConsole call
    is_console call next =
        next_console stands.ticket stands.lines call
        (all_drop CanBeWritten (length (asked (entries_by who history))) text.lines is.written) next

    session_made : (call : Call) (next : State) (r : Reply) → next_call stands.ticket stands.lines ≡ Some call
        → step now who call ≡ Some (next, r)
        → GoesSo document blanks history
        (with_advance who (progress_at document blanks history) (stepped_on who advancing call (Some (next, r))))
        (Some (record { who = who; call = call; reply = r }))
    session_made call next r its stepped =
        let e : Entry = record { who = who; call = call; reply = r } in
        let leads = leads_on who call next r stepped in
        let n = length document.script.sessions in
        let made = step-IsStep now who call (next, r) stepped in
        let stays : SameLoop now next =
        subst (SameLoop now) (sym made.next) (effect-SameLoop now call r (is_console call its)) in
        let other : entries_by n (history ++ e ∷ []) ≡ entries_by n history =
        other_split n history e (differs who n less) in
        let left : stands_after text.lines (entries_by who history ++ e ∷ [])
        ≡ after_call stands.ticket stands.lines r =
        stands_on text.lines (entries_by who history) who call r stands.ticket refl (written_none text.lines is.written)
        its in
        let sessions =
        standing_on 0 document.script.sessions history who text e
        (after_call stands.ticket stands.lines r) at (omega arith)
        (subst (λ k. stands_after text.lines (entries_by k history ++ e ∷ []) ≡ after_call stands.ticket stands.lines r)
        (zero_more who) left) in
        record {
          progress_is =
              same_progress next (state_of document blanks (history ++ e ∷ [])) (history ++ e ∷ []) _ _ (sym leads.ends)
              (sym sessions);
          legal = leads.legal;
          looped =
              subst (λ (t : State). LoopStands document.description.cycles t (entries_by n (history ++ e ∷ [])))
              (sym leads.ends)
              (subst (LoopStands document.description.cycles next) (sym other)
              (loop_same document.description.cycles now next (entries_by n history) stays looped_so));
          described = entry_described who call next r stepped;
        }
      where
        zero_more : (k : ℕ) → k ≡ 0 + k
        zero_more k = omega arith

    by_step : (call : Call) (o : Option (State × Reply)) → next_call stands.ticket stands.lines ≡ Some call
        → step now who call ≡ o
        → GoesSo document blanks history
        (with_advance who (progress_at document blanks history) (stepped_on who advancing call o))
        (option_map (λ (made : State × Reply). record { who = who; call = call; reply = made.1 }) o)
    by_step call None its stepped = refl
    by_step call (Some (next, r)) its stepped = session_made call next r its stepped

    by_call : (o : Option Call) → next_call stands.ticket stands.lines ≡ o
        → GoesSo document blanks history
        (with_advance who (progress_at document blanks history) (called_on who advancing o))
        (entry_of document blanks history who o)
    by_call None its = refl
    by_call (Some call) its = by_step call (step now who call) its refl

    session_goes : GoesSo document blanks history (turned (turn.Step who) (progress_at document blanks history))
        (next_entry document blanks history who)
    unfolding advance
    session_goes =
        let stood : slice_get (standing_from 0 document.script.sessions history) who ≡ Some stands =
        standing_at 0 document.script.sessions history who text at
        ∙ ap (λ k. Some (stands_after text.lines (entries_by k history))) (zero_less who) in
        let first : turned (turn.Step who) (progress_at document blanks history)
        ≡ with_advance who (progress_at document blanks history)
        (called_on who advancing (next_call stands.ticket stands.lines)) =
        ap (advanced_once who (progress_at document blanks history)) stood in
        let second : next_entry document blanks history who
        ≡ entry_of document blanks history who (next_call stands.ticket stands.lines) =
        ap (λ (o : Option SessionText). entry_of document blanks history who (next_by document history who o)) at in
        subst (λ (p : Progress). GoesSo document blanks history p (next_entry document blanks history who)) (sym first)
        (subst (GoesSo document blanks history
        (with_advance who (progress_at document blanks history)
        (called_on who advancing (next_call stands.ticket stands.lines)))) (sym second)
        (by_call (next_call stands.ticket stands.lines) refl))
      where
        zero_less : (k : ℕ) → 0 + k ≡ k
        zero_less k = omega arith

  -- the loop
  abbrev n : ℕ
  n = length document.script.sessions

  loop_made : (next : State) (r : Reply) → now.closed ≡ false → step now now.sessions (loop_call now) ≡ Some (next, r)
      → HasGone document blanks history
      (record {
        state = next;
        made = with_entry history now.sessions (loop_call now) r;
        sessions =
            standing_from 0 document.script.sessions history;
      })
      (record { who = n; call = loop_call now; reply = r })
  loop_made next r shut stepped =
      let e : Entry = record { who = n; call = loop_call now; reply = r } in
      let own : step now n (loop_call now) ≡ Some (next, r) =
      ap (λ k. step now k (loop_call now)) (sym many) ∙ stepped in
      let leads = leads_on n (loop_call now) next r own in
      let more : entries_by n (history ++ e ∷ []) ≡ entries_by n history ++ e ∷ [] =
      own_split n history [] e (own_test n) in
      let sessions =
      standing_past 0 document.script.sessions history e (λ k less. differs_above n (0 + k) (omega (arith, less))) in
      record {
        progress_is =
            ap (λ k. record {
              state = next;
              made = with_entry history k (loop_call now) r;
              sessions =
                  standing_from 0 document.script.sessions history;
            }) many
            ∙ same_progress next (state_of document blanks (history ++ e ∷ [])) (history ++ e ∷ []) _ _ (sym leads.ends)
            (sym sessions);
        legal = leads.legal;
        looped =
            subst (λ (t : State). LoopStands document.description.cycles t (entries_by n (history ++ e ∷ [])))
            (sym leads.ends)
            (subst (LoopStands document.description.cycles next) (sym more)
            (loop_on document.description.cycles now (entries_by n history) looped_so cycles_same e next r shut
            stepped));
        described = entry_described n (loop_call now) next r own;
      }

  loop_by_step : (o : Option (State × Reply)) → now.closed ≡ false → step now now.sessions (loop_call now) ≡ o
      → GoesSo document blanks history (looped_on (progress_at document blanks history))
      (option_map (λ (made : State × Reply). record { who = n; call = loop_call now; reply = made.1 }) o)
  loop_by_step None shut stepped = looped_none (loop_call now) (progress_at document blanks history) stepped
  loop_by_step (Some (next, r)) shut stepped =
      subst (λ (p : Progress). HasGone document blanks history p (record { who = n; call = loop_call now; reply = r }))
      (sym (looped_some (loop_call now) (progress_at document blanks history) next r stepped))
      (loop_made next r shut stepped)

  loop_goes : GoesSo document blanks history (looped_on (progress_at document blanks history))
      (entry_of document blanks history n (next_of_loop document.description.cycles (entries_by n history)))
  loop_goes = elim (cases_Bool now.closed) [
    | inl shut ↦
        subst (λ (o : Option Call). GoesSo document blanks history (looped_on (progress_at document blanks history))
        (entry_of document blanks history n o))
        (sym (none_left document.description.cycles now (entries_by n history) looped_so cycles_same shut))
        (looped_none (loop_call now) (progress_at document blanks history)
        (closed_waits document.description.cycles now (entries_by n history) looped_so cycles_same shut now.sessions))
    | inr shut ↦
        subst (λ (o : Option Call). GoesSo document blanks history (looped_on (progress_at document blanks history))
        (entry_of document blanks history n o))
        (sym (one_left document.description.cycles now (entries_by n history) looped_so cycles_same shut))
        (subst (λ (o : Option (State × Reply)). GoesSo document blanks history
        (looped_on (progress_at document blanks history))
        (option_map (λ (made : State × Reply). record { who = n; call = loop_call now; reply = made.1 }) o))
        (ap (λ k. step now k (loop_call now)) many) (loop_by_step (step now now.sessions (loop_call now)) shut refl))
  ]

  -- A caller that is there goes on so.
  pub next_goes : (who : ℕ) → who ≤ length document.script.sessions
      → GoesSo document blanks history (made_next who (progress_at document blanks history))
      (next_entry document blanks history who)
  next_goes who few = elim (cases_Bool (who == now.sessions)) [
    | inl own ↦
        let same : who ≡ n = eqb-true who now.sessions own ∙ many in
        let past : slice_get document.script.sessions n ≡ None =
        slice_get_past document.script.sessions n (omega arith) in
        let mine : (n == n) ≡ true = own_test n in
        let entry : next_entry document blanks history n
        ≡ entry_of document blanks history n (next_of_loop document.description.cycles (entries_by n history)) =
        ap (λ (o : Option SessionText). entry_of document blanks history n (next_by document history n o)) past
        ∙ ap (λ (b : Bool). entry_of document blanks history n
        (if b then next_of_loop document.description.cycles (entries_by n history) else None)) mine in
        subst (λ (p : Progress). GoesSo document blanks history p (next_entry document blanks history who))
        (sym (chosen own))
        (subst (λ k. GoesSo document blanks history (looped_on (progress_at document blanks history))
        (next_entry document blanks history k)) (sym same)
        (subst (GoesSo document blanks history (looped_on (progress_at document blanks history))) (sym entry)
        loop_goes))
    | inr other ↦
        let less : who < length document.script.sessions = grind (arith, nat_tests, other, many, few) in
        let got = slice_get_within_some document.script.sessions who less in
        subst (λ (p : Progress). GoesSo document blanks history p (next_entry document blanks history who))
        (sym (chosen_other other))
        (session_goes who got.0 got.1 less (all_at IsSession document.script.sessions who got.0 rules.sessions got.1))
  ]
    where
      chosen : (who == now.sessions) ≡ true
          → made_next who (progress_at document blanks history) ≡ looped_on (progress_at document blanks history)
      chosen own =
          ap (λ (b : Bool). if b then looped_on (progress_at document blanks history)
          else turned (turn.Step who) (progress_at document blanks history)) own

      chosen_other : (who == now.sessions) ≡ false
          → made_next who (progress_at document blanks history)
          ≡ turned (turn.Step who) (progress_at document blanks history)
      chosen_other other =
          ap (λ (b : Bool). if b then looped_on (progress_at document blanks history)
          else turned (turn.Step who) (progress_at document blanks history)) other

      slice_get_within_some : (texts : List SessionText) (k : ℕ) → k < length texts
          → (text : SessionText) × (slice_get texts k ≡ Some text)
      slice_get_within_some [] k less = absurd (omega (arith, less))
      slice_get_within_some (t ∷ texts) zero less = (t, refl)
      slice_get_within_some (t ∷ texts) (suc k) less = slice_get_within_some texts k (omega (arith, less))

-- ---- Whose call it is

-- the loop's call, if it is asked for the number behind the sessions
pub goes_by_loop : (who : ℕ) (old new : JobFacts) → who ≡ old.desk.opening.sessions → GoesOn looped_on old new
    → GoesOn (made_next who) old new
goes_by_loop who old new is goes =
    let stays : (progress_of old).state.sessions ≡ old.desk.opening.sessions =
    sessions_stay old.desk.made old.desk.opening in
    let test : (who == (progress_of old).state.sessions) ≡ true = grind (arith, nat_tests, is, stays) in
    record {
      opening = goes.opening;
      moved = goes.moved
          ∙ sym (ap (λ (b : Bool). if b then looped_on (progress_of old) else turned (turn.Step who) (progress_of old))
          test);
    }

-- else a session's
pub goes_by_turn : (who : ℕ) (old new : JobFacts) → (who ≡ old.desk.opening.sessions → ⊥)
    → GoesOn (turned (turn.Step who)) old new → GoesOn (made_next who) old new
goes_by_turn who old new is_not goes =
    let stays : (progress_of old).state.sessions ≡ old.desk.opening.sessions =
    sessions_stay old.desk.made old.desk.opening in
    let test : (who == (progress_of old).state.sessions) ≡ false =
    ne_eqb who (progress_of old).state.sessions (λ e. is_not (e ∙ stays)) in
    record {
      opening = goes.opening;
      moved = goes.moved
          ∙ sym (ap (λ (b : Bool). if b then looped_on (progress_of old) else turned (turn.Step who) (progress_of old))
          test);
    }
