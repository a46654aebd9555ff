-- How many calls and turns stand, after one more.
use Rattle.std.proofs.Common.{◌≡◌, ℕ, ◌+◌, false, Option, List, [], ◌∷◌, ◌++◌, length, arith, length-append}
use Rattle.std.specs.Prelude.{◌==◌, sum_by}
use Rattle.std.proofs.lemmas.List.Sums.{sum_by_push, sum_by-cons}
use Rattle.cm_document.specs.ScriptRules.{script_in, calls_and_turns, then_calling}
use Rattle.cm_document.specs.declared.call.Call.{Call}
use Rattle.cm_document.specs.declared.script.SessionText.{SessionText}
use Rattle.cm_document.specs.declared.script.Turn.{Turn}
use Rattle.sequence.specs.Last.{in_last}
use Rattle.sequence.proofs.ListLemmas.{not_empty, length_in_last}

-- a new session has no calls
pub new_session : (sessions : List SessionText) (name : List ℕ)
    → sum_by (λ t. length t.lines) (sessions ++ record { name = name; lines = [] } ∷ [])
    ≡ sum_by (λ t. length t.lines) sessions
new_session sessions name =
    let sum = sum_by_push (λ t. length t.lines) sessions (record { name = name; lines = [] }) in omega arith

pub ruleset session_counts = (new_session)

-- one call more in the last session
pub count_calling : (made : Call) (sessions : List SessionText) → (length sessions == 0) ≡ false
    → sum_by (λ t. length t.lines) (in_last (then_calling made) sessions) ≡ sum_by (λ t. length t.lines) sessions + 1
count_calling made [] some = cc
count_calling made (s ∷ []) some =
    let more = length-append s.lines (made ∷ []) in
    let before = sum_by-cons (λ t. length t.lines) s [] in
    let after = sum_by-cons (λ t. length t.lines) (then_calling made s) [] in
    omega arith
count_calling made (s ∷ t ∷ sessions) some =
    let more = count_calling made (t ∷ sessions) (not_empty (t ∷ sessions) (omega arith)) in
    let before = sum_by-cons (λ t. length t.lines) s (t ∷ sessions) in
    let after = sum_by-cons (λ t. length t.lines) s (in_last (then_calling made) (t ∷ sessions)) in
    omega arith

-- so one more stands in all, and as many sessions
pub calling_counts : (made : Call) (sessions more : List SessionText) (turns : Option (List Turn)) (count : ℕ)
    → in_last (then_calling made) sessions ≡ more → (length sessions == 0) ≡ false
    → calls_and_turns (script_in (record { sessions = sessions; turns = turns })) ≡ count
    → (length more ≡ length sessions)
    × (calls_and_turns (script_in (record { sessions = more; turns = turns })) ≡ count + 1)
calling_counts made sessions more turns count is some counted =
    let one = count_calling made sessions some in
    rw (← is) (length_in_last (then_calling made) sessions, omega arith)
