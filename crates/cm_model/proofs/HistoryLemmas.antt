-- What a history leaves: the description as it was, and where it is whole, the loop closed.
use Rattle.std.proofs.Common.{◌≡◌, ℕ, List, [], ◌∷◌, ◌++◌, Bool, true, false, Some, length, refl, ◌∙◌, inl, inr}
use Rattle.std.specs.Prelude.{cond, ◌||◌, ◌==◌}
use Rattle.std.specs.List.{list_any}
use Rattle.std.proofs.lemmas.Bool.{cases_Bool}
use Rattle.std.proofs.Math.Bool.{or-true}
use Rattle.cm_document.proofs.ReadingLemmas.{cases_Option}
use Rattle.cm_document.specs.declared.call.Call.{Call}
use Rattle.cm_document.specs.declared.call.Call.TheVariants.{Load, Configure, Cleanup, Unload, Rate}
use Rattle.cm_document.specs.declared.call.Call.TheVariants.{Send, Switch, Hardware, Begin, Close}
use Rattle.cm_document.specs.declared.document.Document.{Document}
use Rattle.cm_model.specs.Commit.{commit}
use Rattle.cm_model.specs.Cycle.{after_cycle}
use Rattle.cm_model.specs.Machine.{effect, step, LegalFrom, state_after}
use Rattle.cm_model.specs.Sessions.{entries_by, calls_of, cycle_calls, IsWhole}
use Rattle.cm_model.specs.State.{State}
use Rattle.cm_model.specs.declared.entry.Entry.{Entry}
use Rattle.cm_model.specs.declared.reply.Reply.{Reply}
use Rattle.cm_model.proofs.LegalLemmas.{step_of}
use Rattle.cm_model.proofs.StayLemmas.{effect-SameLoop, boundary-SameLoop, step-IsStep, step-Stands}

-- ---- Descriptions and sessions

-- no history changes the description
pub description_stays : (made : List Entry) (s : State) → (state_after s made).description ≡ s.description
description_stays [] s = refl
description_stays (e ∷ made) s = elim (cases_Option (step s e.who e.call)) [
  | inl none ↦ rw (none, state_after) refl
  | inr (next, some) ↦ rw (some, state_after)
      (description_stays made next.0 ∙ (step-Stands s e.who e.call next some).description)
]

-- nor the number of sessions
pub sessions_stay : (made : List Entry) (s : State) → (state_after s made).sessions ≡ s.sessions
sessions_stay [] s = refl
sessions_stay (e ∷ made) s = elim (cases_Option (step s e.who e.call)) [
  | inl none ↦ rw (none, state_after) refl
  | inr (next, some) ↦ rw (some, state_after)
      (sessions_stay made next.0 ∙ (step-Stands s e.who e.call next some).sessions)
]

-- ---- A closed loop stays closed

effect-closed : (s : State) (call : Call) (r : Reply) → s.closed ≡ true → (effect s call r).closed ≡ true
unfolding after_cycle commit
effect-closed s (Load name) r closed = (effect-SameLoop s (Load name) r tt).closed ∙ closed
effect-closed s (Configure name) r closed = (effect-SameLoop s (Configure name) r tt).closed ∙ closed
effect-closed s (Cleanup name) r closed = (effect-SameLoop s (Cleanup name) r tt).closed ∙ closed
effect-closed s (Unload name) r closed = (effect-SameLoop s (Unload name) r tt).closed ∙ closed
effect-closed s (Rate name hz) r closed = (effect-SameLoop s (Rate name hz) r tt).closed ∙ closed
effect-closed s (Send name mail) r closed = (effect-SameLoop s (Send name mail) r tt).closed ∙ closed
effect-closed s (Switch asked) r closed = (effect-SameLoop s (Switch asked) r tt).closed ∙ closed
effect-closed s (Hardware component target) r closed =
    (effect-SameLoop s (Hardware component target) r tt).closed ∙ closed
effect-closed s (Begin cycle) r closed = (boundary-SameLoop s).closed ∙ closed
effect-closed s Close r closed = refl
effect-closed s _ r closed = closed

step-closed : (s : State) (who : ℕ) (call : Call) (q : State × Reply) → step s who call ≡ Some q → s.closed ≡ true
    → q.0.closed ≡ true
step-closed s who call q stepped closed =
    let is = step-IsStep s who call q stepped in rw is.next (effect-closed s call q.1 closed)

after-closed : (made : List Entry) (s : State) → s.closed ≡ true → (state_after s made).closed ≡ true
after-closed [] s closed = closed
after-closed (e ∷ made) s closed = elim (cases_Option (step s e.who e.call)) [
  | inl none ↦ rw (none, state_after) closed
  | inr (q, some) ↦ rw (some, state_after) (after-closed made q.0 (step-closed s e.who e.call q some closed))
]

-- ---- A close closes it

-- the call is a close
abbrev is_close : Call → Bool
is_close Close = true
is_close _ = false

-- one of these calls is
abbrev has_close : List Call → Bool
has_close calls = list_any is_close calls

close-closes : (s : State) (call : Call) (r : Reply) → is_close call ≡ true → (effect s call r).closed ≡ true
close-closes s Close r close = refl
close-closes s _ r close = let no : false ≡ true = close in cc

-- a legal history with a close leaves the loop closed
closes : (made : List Entry) (s : State) → LegalFrom s made → has_close (calls_of made) ≡ true
    → (state_after s made).closed ≡ true
closes [] s legal close = let no : false ≡ true = close in cc
closes (e ∷ made) s legal close =
    let first = step_of (step s e.who e.call) e.reply (λ m. LegalFrom m made) legal in
    let is = step-IsStep s e.who e.call (first.0, e.reply) first.1 in
    rw (first.1, state_after) (elim (cases_Bool (is_close e.call)) [
      | inl is_one ↦ after-closed made first.0 (rw is.next (close-closes s e.call e.reply is_one))
      | inr is_none ↦ closes made first.0 first.2 (rw is_none at close)
    ])

-- ---- A whole history has one

last_close : (calls : List Call) → has_close (calls ++ Close ∷ []) ≡ true
last_close [] = refl
last_close (c ∷ calls) = rw (last_close calls) (or-true (is_close c))

-- a close among some of two lists is one among all
or_same : (b x y : Bool) → (x ≡ true → y ≡ true) → (b || x) ≡ true → (b || y) ≡ true
or_same true x y more close = refl
or_same false x y more close = more close

kept_or_not : (kept : Bool) (e : Entry) (some all : List Entry)
    → (has_close (calls_of some) ≡ true → has_close (calls_of all) ≡ true)
    → has_close (calls_of (cond kept (e ∷ some) some)) ≡ true → has_close (calls_of (e ∷ all)) ≡ true
kept_or_not true e some all more close =
    or_same (is_close e.call) (has_close (calls_of some)) (has_close (calls_of all)) more close
kept_or_not false e some all more close = rw (more close) (or-true (is_close e.call))

-- a close of one caller is a close of all
one_of_all : (who : ℕ) (made : List Entry) → has_close (calls_of (entries_by who made)) ≡ true
    → has_close (calls_of made) ≡ true
one_of_all who [] close = close
one_of_all who (e ∷ made) close = kept_or_not (e.who == who) e (entries_by who made) made (one_of_all who made) close

-- a whole history that is legal leaves the loop closed
pub whole-closed : (d : Document) (made : List Entry) (s : State) → LegalFrom s made → IsWhole d made
    → (state_after s made).closed ≡ true
whole-closed d made s legal whole =
    closes made s legal
    (one_of_all (length d.script.sessions) made (rw whole.cycles (last_close (cycle_calls d.description.cycles))))
