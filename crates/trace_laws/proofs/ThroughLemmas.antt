-- One entry more on the way, and the end of the way: a history after which nobody has a call left is whole.
use Rattle.std.proofs.Common.{◌≡◌, ℕ, zero, suc, ◌+◌, ◌≤◌, Bool, true, false, List, [], ◌∷◌, ◌++◌, length, drop, Option}
use Rattle.std.proofs.Common.{Some, None, refl, sym, ap, subst, ◌∙◌, inl, inr, append_assoc, append-nil, arith}
use Rattle.std.specs.Prelude.{◌==◌, slice_get, is_none, if◌then◌else◌, IfSome}
use Rattle.std.specs.List.{AllByRecursion}
use Rattle.std.proofs.lemmas.Bool.{and_parts, and_from, cases_Bool}
use Rattle.std.proofs.lemmas.Bool.Decides.{nat_tests}
use Rattle.std.proofs.lemmas.List.{map-append}
use Rattle.std.proofs.lemmas.List.Elements.{filter-append}
use Rattle.std.proofs.lemmas.Option.{same_Some, slice_get_past}
use Rattle.cm_document.specs.ScriptLaws.{CanBeWritten, IsSession, MeetsRules}
use Rattle.cm_document.specs.declared.call.Call.{Call}
use Rattle.cm_document.specs.declared.call.Call.TheVariants.{Told}
use Rattle.cm_document.specs.declared.document.Document.{Document}
use Rattle.cm_document.specs.declared.script.SessionText.{SessionText}
use Rattle.cm_model.specs.Scheduled.{next_call}
use Rattle.cm_model.specs.Sessions.{calls_of, entries_by, is_told, asked, loop_calls, Follows, IsWhole}
use Rattle.cm_model.specs.declared.entry.Entry.{Entry}
use Rattle.trace_laws.specs.Judged.{sessions_are_through, is_through}
use Rattle.trace_laws.specs.Next.{ticket_after, next_of_session, next_of_loop, next_past, next_by, next_of}
use Rattle.trace_laws.specs.OnTheWay.{BeginsWith, CanFollow, IsOnItsWay}
use Rattle.trace_laws.proofs.GoesLemmas.{Goes, asked_first, asked_past, goes_join, none_left, told_each}
use Rattle.trace_laws.proofs.WayLemmas.{Stands, HaveNoTold, all_more, calls_split}
use Rattle.trace_laws.proofs.WayLemmas.{can_stand, left_lines, own_split, stands_can}

-- ---- One entry more of a session

-- no line of a script is a Told
written_no_told : (call : Call) → CanBeWritten call → is_told call ≡ false
written_no_told (Told ticket) written = absurd written
written_no_told _ written = refl

pub written_none : (calls : List Call) → AllByRecursion CanBeWritten calls → HaveNoTold calls
written_none [] written = tt
written_none (call ∷ calls) written = (written_no_told call written.0, written_none calls written.1)

none_dropped : (n : ℕ) (calls : List Call) → HaveNoTold calls → HaveNoTold (drop n calls)
none_dropped zero calls none = none
none_dropped (suc n) [] none = tt
none_dropped (suc n) (call ∷ calls) none = none_dropped n calls none.1

-- a session stands where these are the lines behind those that it has made
stands_of : (lines rest : List Call) (es : List Entry) → Goes es None → calls_of (asked es) ++ rest ≡ lines
    → Stands lines es
stands_of lines rest es goes same =
    record {
      goes = goes;
      in_order =
          ap (λ left. calls_of (asked es) ++ left) (left_lines (asked es) rest lines same) ∙ same;
    }

session_more_at : (lines left : List Call) (es : List Entry) (e : Entry) (ticket : Option ℕ)
    → ticket_after None es ≡ ticket → calls_of (asked es) ++ left ≡ lines → HaveNoTold left
    → Goes es None → next_call ticket left ≡ Some e.call → Stands lines (es ++ e ∷ [])
session_more_at lines left es e (Some ticket) given order none goes next =
    let told : e.call ≡ Told ticket = sym (same_Some (Told ticket) e.call next) in
    let past : calls_of (asked (es ++ e ∷ [])) ≡ calls_of (asked es) =
    calls_split es (e ∷ [])
    ∙ ap (λ (l : List Entry). calls_of (asked es) ++ calls_of l) (asked_past e [] (ap is_told told))
    ∙ append-nil (calls_of (asked es)) in
    stands_of lines left (es ++ e ∷ []) (goes_join es (e ∷ []) None goes (subst (Goes (e ∷ [])) (sym given) (told, tt)))
    (ap (λ calls. calls ++ left) past ∙ order)
session_more_at lines [] es e None given order none goes next = cc
session_more_at lines (call ∷ rest) es e None given order none goes next =
    let same : call ≡ e.call = same_Some call e.call next in
    let other : is_told e.call ≡ false = ap is_told (sym same) ∙ none.0 in
    let more : calls_of (asked (es ++ e ∷ [])) ≡ calls_of (asked es) ++ e.call ∷ [] =
    calls_split es (e ∷ []) ∙ ap (λ (l : List Entry). calls_of (asked es) ++ calls_of l) (asked_first e [] other) in
    stands_of lines rest (es ++ e ∷ [])
    (goes_join es (e ∷ []) None goes (subst (Goes (e ∷ [])) (sym given) (other, tt)))
    (ap (λ calls. calls ++ rest) more ∙ append_assoc (calls_of (asked es)) (e.call ∷ []) rest
    ∙ ap (λ c. calls_of (asked es) ++ c ∷ rest) (sym same) ∙ order)

session_more : (lines : List Call) (es : List Entry) (e : Entry) → HaveNoTold lines → CanFollow lines es
    → next_of_session lines es ≡ Some e.call → CanFollow lines (es ++ e ∷ [])
session_more lines es e none can next =
    let stands = can_stand lines es can in
    let left = drop (length (asked es)) lines in
    stands_can lines (es ++ e ∷ []) (none_dropped (length (asked (es ++ e ∷ []))) lines none)
    (session_more_at lines left es e (ticket_after None es) refl stands.in_order
    (none_dropped (length (asked es)) lines none) stands.goes next)

-- ---- One entry more of the loop

slice_past : (xs : List Entry) (more : List Call) → slice_get (calls_of xs ++ more) (length xs) ≡ slice_get more 0
slice_past [] more = refl
slice_past (x ∷ xs) more = slice_past xs more

loop_more_at : (all rest : List Call) (es : List Entry) (e : Entry) → calls_of es ++ rest ≡ all
    → slice_get rest 0 ≡ Some e.call → BeginsWith all (calls_of (es ++ e ∷ []))
loop_more_at all [] es e same next = cc
loop_more_at all (call ∷ rest) es e same next =
    let is : call ≡ e.call = same_Some call e.call next in (
      rest,
      ap (λ calls. calls ++ rest) (map-append (λ (each : Entry). each.call) es (e ∷ []))
          ∙ append_assoc (calls_of es) (e.call ∷ []) rest ∙ ap (λ c. calls_of es ++ c ∷ rest) (sym is) ∙ same,
    )

loop_more : (cycles : ℕ) (es : List Entry) (e : Entry) → BeginsWith (loop_calls cycles) (calls_of es)
    → next_of_loop cycles es ≡ Some e.call → BeginsWith (loop_calls cycles) (calls_of (es ++ e ∷ []))
loop_more cycles es e begins next =
    loop_more_at (loop_calls cycles) begins.0 es e begins.1
    (sym (slice_past es begins.0) ∙ ap (λ calls. slice_get calls (length es)) begins.1 ∙ next)

-- ---- One entry more

-- the entries of another caller stay
pub other_split : (k : ℕ) (history : List Entry) (e : Entry) → (e.who == k) ≡ false
    → entries_by k (history ++ e ∷ []) ≡ entries_by k history
other_split k history e other =
    filter-append (λ (each : Entry). each.who == k) history (e ∷ [])
    ∙ ap (λ (l : List Entry). entries_by k history ++ l) (left_out (e.who == k) other)
    ∙ append-nil (entries_by k history)
  where
    left_out : (b : Bool) → b ≡ false → (if b then e ∷ [] else []) ≡ []
    left_out false other = refl
    left_out true other = cc

module _ (document : Document) (rules : MeetsRules document.script) (history : List Entry) (e : Entry)
    (way : IsOnItsWay document history)
    (few : e.who ≤ length document.script.sessions) (next : next_of document history e.who ≡ Some e.call) where
  of_session : (k : ℕ) (o : Option SessionText) → slice_get document.script.sessions k ≡ o
      → IfSome o (λ s. CanFollow s.lines (entries_by k history)) → IfSome o (λ s. IsSession s)
      → IfSome o (λ s. CanFollow s.lines (entries_by k (history ++ e ∷ [])))
  of_session k None at can is = tt
  of_session k (Some s) at can is = elim (cases_Bool (e.who == k)) [
    | inl own ↦
        let same : e.who ≡ k = grind (arith, nat_tests, own) in
        let here : slice_get document.script.sessions e.who ≡ Some s =
        subst (λ n. slice_get document.script.sessions n ≡ Some s) (sym same) at in
        let its : next_of_session s.lines (entries_by e.who history) ≡ Some e.call =
        ap (next_by document history e.who) (sym here) ∙ next in
        let more : CanFollow s.lines (entries_by k history ++ e ∷ []) =
        session_more s.lines (entries_by k history) e (written_none s.lines is.written) can
        (subst (λ n. next_of_session s.lines (entries_by n history) ≡ Some e.call) same its) in
        subst (CanFollow s.lines)
        (sym (subst (λ n. entries_by n (history ++ e ∷ []) ≡ entries_by n history ++ e ∷ []) same
        (own_split e.who history [] e (own_test e.who)))) more
    | inr other ↦ subst (CanFollow s.lines) (sym (other_split k history e other)) can
  ]
    where
      own_test : (n : ℕ) → (n == n) ≡ true
      own_test n = grind (arith, nat_tests)

  of_loop : BeginsWith (loop_calls document.description.cycles)
      (calls_of (entries_by (length document.script.sessions) (history ++ e ∷ [])))
  of_loop = elim (cases_Bool (e.who == length document.script.sessions)) [
    | inl own ↦
        let n = length document.script.sessions in
        let same : e.who ≡ n = grind (arith, nat_tests, own) in
        let past : n ≤ e.who = omega (arith, same) in
        let none : slice_get document.script.sessions e.who ≡ None =
        slice_get_past document.script.sessions e.who past in
        let its : next_past document history e.who ≡ Some e.call =
        ap (next_by document history e.who) (sym none) ∙ next in
        let loops : next_of_loop document.description.cycles (entries_by e.who history) ≡ Some e.call = rw own at its in
        let more : BeginsWith (loop_calls document.description.cycles) (calls_of (entries_by n history ++ e ∷ [])) =
        loop_more document.description.cycles (entries_by n history) e way.cycles
        (subst (λ k. next_of_loop document.description.cycles (entries_by k history) ≡ Some e.call) same loops) in
        subst (λ (l : List Entry). BeginsWith (loop_calls document.description.cycles) (calls_of l))
        (sym (subst (λ k. entries_by k (history ++ e ∷ []) ≡ entries_by k history ++ e ∷ []) same
        (own_split e.who history [] e (own_test e.who)))) more
    | inr other ↦
        subst (λ (l : List Entry). BeginsWith (loop_calls document.description.cycles) (calls_of l))
        (sym (other_split (length document.script.sessions) history e other)) way.cycles
  ]
    where
      own_test : (n : ℕ) → (n == n) ≡ true
      own_test n = grind (arith, nat_tests)

  session_rules : (sessions : List SessionText) (k : ℕ) → AllByRecursion IsSession sessions
      → IfSome (slice_get sessions k) (λ s. IsSession s)
  session_rules [] k all = tt
  session_rules (s ∷ sessions) zero all = all.0
  session_rules (s ∷ sessions) (suc k) all = session_rules sessions k all.1

  pub way_more : IsOnItsWay document (history ++ e ∷ [])
  way_more = record {
    sessions = λ k. of_session k (slice_get document.script.sessions k) refl (way.sessions k)
        (session_rules document.script.sessions k rules.sessions);
    cycles = of_loop;
    nobody_else = all_more (λ (each : Entry). each.who ≤ length document.script.sessions) history e way.nobody_else few;
  }

-- ---- The end of the way

next_none : (ticket : Option ℕ) (left : List Call) → next_call ticket left ≡ None → (ticket ≡ None) × (left ≡ [])
next_none (Some ticket) left none = cc
next_none None [] none = (refl, refl)
next_none None (call ∷ left) none = cc

follows_through : (lines : List Call) (es : List Entry) → Follows lines es → next_of_session lines es ≡ None
follows_through lines es follows =
    let none = none_left es None follows.each_told in
    let left : drop (length (asked es)) lines ≡ [] =
    left_lines (asked es) [] lines (append-nil (calls_of (asked es)) ∙ follows.in_order) in
    ap (λ ticket. next_call ticket (drop (length (asked es)) lines)) none ∙ ap (next_call None) left

through_follows : (lines : List Call) (es : List Entry) → CanFollow lines es → next_of_session lines es ≡ None
    → Follows lines es
through_follows lines es can none =
    let stands = can_stand lines es can in
    let ended = next_none (ticket_after None es) (drop (length (asked es)) lines) none in
    record {
      in_order = sym (append-nil (calls_of (asked es))) ∙ ap (λ left. calls_of (asked es) ++ left) (sym ended.1)
          ∙ stands.in_order;
      each_told = told_each es None stands.goes ended.0;
    }

is_none_is : {A : Type 0} (o : Option A) → is_none o ≡ true → o ≡ None
is_none_is None none = refl
is_none_is (Some x) none = cc

-- each of these sessions, of which the first has this number, has no call left
abbrev EachThrough : ℕ → List SessionText → List Entry → Type 0
EachThrough who sessions history =
    (k : ℕ) → IfSome (slice_get sessions k) (λ s. next_of_session s.lines (entries_by (who + k) history) ≡ None)

all_through : (who : ℕ) (sessions : List SessionText) (history : List Entry) → EachThrough who sessions history
    → sessions_are_through who sessions history ≡ true
all_through who [] history each = refl
all_through who (s ∷ sessions) history each =
    let first : next_of_session s.lines (entries_by who history) ≡ None =
    subst (λ n. next_of_session s.lines (entries_by n history) ≡ None) (same_zero who) (each 0) in
    and_from (is_none (next_of_session s.lines (entries_by who history)))
    (sessions_are_through (suc who) sessions history) (ap is_none first)
    (all_through (suc who) sessions history (λ k. moved k (slice_get sessions k) (each (suc k))))
  where
    same_zero : (n : ℕ) → n + 0 ≡ n
    same_zero n = omega arith

    moved : (k : ℕ) (o : Option SessionText)
        → IfSome o (λ s. next_of_session s.lines (entries_by (who + suc k) history) ≡ None)
        → IfSome o (λ s. next_of_session s.lines (entries_by (suc who + k) history) ≡ None)
    moved k None none = tt
    moved k (Some s) none =
        let e : who + suc k ≡ suc who + k = omega arith in
        subst (λ n. next_of_session s.lines (entries_by n history) ≡ None) e none

each_through : (who : ℕ) (sessions : List SessionText) (history : List Entry)
    → sessions_are_through who sessions history ≡ true → EachThrough who sessions history
each_through who [] history all k = tt
each_through who (s ∷ sessions) history all zero =
    let parts = and_parts (is_none (next_of_session s.lines (entries_by who history)))
    (sessions_are_through (suc who) sessions history) all in
    let e : who ≡ who + 0 = omega arith in
    subst (λ n. next_of_session s.lines (entries_by n history) ≡ None) e
    (is_none_is (next_of_session s.lines (entries_by who history)) parts.0)
each_through who (s ∷ sessions) history all (suc k) =
    let parts = and_parts (is_none (next_of_session s.lines (entries_by who history)))
    (sessions_are_through (suc who) sessions history) all in
    moved (slice_get sessions k) (each_through (suc who) sessions history parts.1 k)
  where
    moved : (o : Option SessionText) → IfSome o (λ s. next_of_session s.lines (entries_by (suc who + k) history) ≡ None)
        → IfSome o (λ s. next_of_session s.lines (entries_by (who + suc k) history) ≡ None)
    moved None none = tt
    moved (Some t) none =
        let e : suc who + k ≡ who + suc k = omega arith in
        subst (λ n. next_of_session t.lines (entries_by n history) ≡ None) e none

-- calls that are all of those have none behind them
loop_through : (all rest : List Call) (es : List Entry) → calls_of es ++ rest ≡ all → slice_get all (length es) ≡ None
    → calls_of es ≡ all
loop_through all [] es same none = sym (append-nil (calls_of es)) ∙ same
loop_through all (call ∷ rest) es same none =
    let some : Some call ≡ None =
    sym (slice_past es (call ∷ rest)) ∙ ap (λ calls. slice_get calls (length es)) same ∙ none in cc

-- a whole history leaves nobody a call
pub whole_through : (document : Document) (history : List Entry) → IsWhole document history
    → is_through document history ≡ true
whole_through document history whole =
    let n = length document.script.sessions in
    let es = entries_by n history in
    let loops : next_of_loop document.description.cycles es ≡ None =
    ap (λ calls. slice_get calls (length es)) (sym (append-nil (calls_of es) ∙ whole.cycles)) ∙ slice_past es [] in
    and_from (sessions_are_through 0 document.script.sessions history)
    (is_none (next_of_loop document.description.cycles es))
    (all_through 0 document.script.sessions history
    (λ k. at k (slice_get document.script.sessions k) (whole.sessions k))) (ap is_none loops)
  where
    at : (k : ℕ) (o : Option SessionText) → IfSome o (λ s. Follows s.lines (entries_by k history))
        → IfSome o (λ s. next_of_session s.lines (entries_by (0 + k) history) ≡ None)
    at k None follows = tt
    at k (Some s) follows =
        let e : k ≡ 0 + k = omega arith in
        subst (λ n. next_of_session s.lines (entries_by n history) ≡ None) e
        (follows_through s.lines (entries_by k history) follows)

-- and one on its way after which nobody has a call left is whole
pub through_whole : (document : Document) (history : List Entry) → IsOnItsWay document history
    → is_through document history ≡ true → IsWhole document history
through_whole document history way through =
    let es = entries_by (length document.script.sessions) history in
    let parts = and_parts (sessions_are_through 0 document.script.sessions history)
    (is_none (next_of_loop document.description.cycles es)) through in
    record {
      sessions = λ k. at k (slice_get document.script.sessions k) (way.sessions k)
          (each_through 0 document.script.sessions history parts.0 k);
      cycles = loop_through (loop_calls document.description.cycles) way.cycles.0 es way.cycles.1
          (is_none_is (next_of_loop document.description.cycles es) parts.1);
      nobody_else = way.nobody_else;
    }
  where
    at : (k : ℕ) (o : Option SessionText) → IfSome o (λ s. CanFollow s.lines (entries_by k history))
        → IfSome o (λ s. next_of_session s.lines (entries_by (0 + k) history) ≡ None)
        → IfSome o (λ s. Follows s.lines (entries_by k history))
    at k None can none = tt
    at k (Some s) can none =
        let e : 0 + k ≡ k = omega arith in
        through_follows s.lines (entries_by k history) can
        (subst (λ n. next_of_session s.lines (entries_by n history) ≡ None) e none)
