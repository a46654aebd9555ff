-- Worked rows of fallbacks, computed from the definitions alone: calls, with the replies that were written down for
-- them by hand.
use Rattle.std.proofs.Common.{◌≡◌, ℕ, true, false, List, [], ◌∷◌, length, Some, None, refl, ap, true≢false, arith}
use Rattle.std.specs.Prelude.{codes, is_some}
use Rattle.std.specs.Fmt.{digits}
use Rattle.fixed_num.specs.Bodies.{stepped}
use Rattle.fixed_num.specs.Text.{spelled}
use Rattle.cm_document.specs.Described.{a_description, a_controller, a_headed}
use Rattle.cm_document.specs.declared.call.Call.{Call}
use Rattle.cm_document.specs.declared.call.Call.TheVariants.{Told, ListControllers, Begin, End, Close}
use Rattle.cm_document.specs.declared.description.Description.{Description}
use Rattle.cm_document.specs.declared.description.Params.TheVariants.{Forward, Mock}
use Rattle.cm_model.specs.BestEffort.{stays_within}
use Rattle.cm_model.specs.Boundary.{all_concluded}
use Rattle.cm_model.specs.Commit.{commit}
use Rattle.cm_model.specs.Cycle.{reaches, cycle, after_cycle}
use Rattle.cm_model.specs.Order.{rank_within}
use Rattle.cm_model.specs.Sound.{IsLed}
use Rattle.cm_model.specs.State.{boot}
use Rattle.cm_model.specs.Trace.{names_in}
use Rattle.cm_model.specs.declared.cause.Decision.{Decision}
use Rattle.cm_model.specs.declared.cause.Outcome.TheVariants as outcome
use Rattle.cm_model.proofs.Worked.{arm, j1_position, stock}
use Rattle.cm_model.proofs.WorkedCalls.{strictly, ready, replies, after}

-- a mock that fails in cycle 1, for which a forward stands in, and another one that fails then, for which two do
abbrev robot : Description
robot = a_description 1 100 4 (arm ∷ []) (
    a_headed (record { name = codes "mk"; rate = 0; fallback = codes "fwd" ∷ [] }) [] [] (Mock 0 false [] (1 ∷ []))
    ∷ a_controller (codes "fwd") 0 (j1_position ∷ []) [] (Forward 1)
    ∷ a_headed (record { name = codes "mk2"; rate = 0; fallback = codes "nobody" ∷ codes "fwd" ∷ [] }) [] []
    (Mock 0 false [] (1 ∷ []))
    ∷ a_controller (codes "nobody") 0 [] [] (Mock 0 false [] []) ∷ [])

-- the replies from boot on, once these are ready
abbrev once_ready : List (List ℕ) → List Call → List (List ℕ)
once_ready names calls =
    replies (record (names_in robot []) { controllers = names }) (after (boot robot stock 1) (ready names)) calls

-- the forward comes at the begin behind the end in which the mock failed, and at no later one
it_stands_in : once_ready (codes "mk" ∷ codes "fwd" ∷ []) (
    strictly [] (codes "mk" ∷ []) ∷ Begin 0 ∷ End 0 ∷ Begin 1 ∷ End 1 ∷ Begin 2 ∷ End 2 ∷ ListControllers ∷ Begin 3
    ∷ [])
    ≡ codes "queued 0" ∷ codes "0 done" ∷ codes "run mk ok; joint j1 0.000000 0.000000 0.000000" ∷ codes "none"
    ∷ codes "run mk error; joint j1 0.000000 0.000000 0.000000; stop mk" ∷ codes "fallback done"
    ∷ codes "run fwd ok unset; joint j1 0.000000 0.000000 0.000000"
    ∷ codes "mk mock inactive 0 every 1; fwd forward active 1 every 1" ∷ codes "none" ∷ []
unfolding digits rank_within stays_within reaches all_concluded commit spelled stepped cycle after_cycle
it_stands_in = refl

-- one that is active already
it_is_active_already : once_ready (codes "mk" ∷ codes "fwd" ∷ []) (
    strictly [] (codes "mk" ∷ codes "fwd" ∷ []) ∷ Begin 0 ∷ End 0 ∷ Begin 1 ∷ End 1 ∷ Begin 2 ∷ [])
    ≡ codes "queued 0" ∷ codes "0 done" ∷ codes "run mk ok; run fwd ok unset; joint j1 0.000000 0.000000 0.000000"
    ∷ codes "none"
    ∷ codes "run mk error; run fwd ok unset; joint j1 0.000000 0.000000 0.000000; stop mk"
    ∷ codes "fallback done dropped fwd already_active" ∷ []
unfolding digits rank_within stays_within reaches all_concluded commit spelled stepped cycle after_cycle
it_is_active_already = refl

-- the close asks for nobody
the_close_asks_for_none : once_ready (codes "mk" ∷ codes "fwd" ∷ []) (
    strictly [] (codes "mk" ∷ []) ∷ Begin 0 ∷ End 0 ∷ Begin 1 ∷ End 1 ∷ Close ∷ [])
    ≡ codes "queued 0" ∷ codes "0 done" ∷ codes "run mk ok; joint j1 0.000000 0.000000 0.000000" ∷ codes "none"
    ∷ codes "run mk error; joint j1 0.000000 0.000000 0.000000; stop mk" ∷ codes "none" ∷ []
unfolding digits rank_within stays_within reaches all_concluded commit spelled stepped cycle after_cycle
the_close_asks_for_none = refl

-- it is asked for before the requests: a switch of the same begin finds it active, and the ticket counts requests alone
requests_come_after : once_ready (codes "mk" ∷ codes "fwd" ∷ []) (
    strictly [] (codes "mk" ∷ []) ∷ Begin 0 ∷ End 0 ∷ Begin 1 ∷ End 1 ∷ strictly (codes "fwd" ∷ []) [] ∷ Begin 2
    ∷ Told 1 ∷ ListControllers ∷ [])
    ≡ codes "queued 0" ∷ codes "0 done" ∷ codes "run mk ok; joint j1 0.000000 0.000000 0.000000" ∷ codes "none"
    ∷ codes "run mk error; joint j1 0.000000 0.000000 0.000000; stop mk" ∷ codes "queued 1"
    ∷ codes "fallback done; 1 done" ∷ codes "done"
    ∷ codes "mk mock inactive 0 every 1; fwd forward inactive 1 every 1" ∷ []
unfolding digits rank_within stays_within reaches all_concluded commit spelled stepped cycle after_cycle
requests_come_after = refl

-- one that is not loaded is dropped, and so is one that stands a second time: the lists of both that failed are one
lists_one_after_the_other : once_ready (codes "mk" ∷ codes "mk2" ∷ codes "fwd" ∷ []) (
    strictly [] (codes "mk" ∷ codes "mk2" ∷ []) ∷ Begin 0 ∷ End 0 ∷ Begin 1 ∷ End 1 ∷ Begin 2 ∷ ListControllers ∷ [])
    ≡ codes "queued 0" ∷ codes "0 done" ∷ codes "run mk ok; run mk2 ok; joint j1 0.000000 0.000000 0.000000"
    ∷ codes "none"
    ∷ codes "run mk error; run mk2 error; joint j1 0.000000 0.000000 0.000000; stop mk; stop mk2"
    ∷ codes "fallback done dropped nobody unknown, fwd twice"
    ∷ codes "mk mock inactive 0 every 1; mk2 mock inactive 1 every 1; fwd forward active 2 every 1" ∷ []
unfolding digits rank_within stays_within reaches all_concluded commit spelled stepped cycle after_cycle
lists_one_after_the_other = refl

-- a controller that stops because its component failed brings none
abbrev failing : Description
failing = a_description 1 100 4 (record arm { fail_read = 1 ∷ [] } ∷ []) (
    a_headed (record { name = codes "fwd"; rate = 0; fallback = codes "mk" ∷ [] }) (j1_position ∷ []) [] (Forward 1)
    ∷ a_controller (codes "mk") 0 [] [] (Mock 0 false [] []) ∷ [])

another_stop_brings_none : replies (record (names_in failing []) { controllers = codes "fwd" ∷ codes "mk" ∷ [] })
    (after (boot failing stock 1) (ready (codes "fwd" ∷ codes "mk" ∷ [])))
    (strictly [] (codes "fwd" ∷ []) ∷ Begin 0 ∷ End 0 ∷ Begin 1 ∷ End 1 ∷ Begin 2 ∷ [])
    ≡ codes "queued 0" ∷ codes "0 done" ∷ codes "run fwd ok unset; joint j1 0.000000 0.000000 0.000000" ∷ codes "none"
    ∷ codes "fail arm read; joint j1 0.000000 0.000000 0.000000; stop fwd" ∷ codes "none" ∷ []
unfolding digits rank_within stays_within reaches all_concluded commit spelled stepped cycle after_cycle
another_stop_brings_none = refl

-- ---- What is told where they are owed

abbrev of_fallbacks : Decision
of_fallbacks = record { ticket = None; outcome = outcome.Done [] }

abbrev of_a_request : Decision
of_a_request = record { ticket = Some 0; outcome = outcome.Done [] }

told_first : IsLed true (of_fallbacks ∷ of_a_request ∷ [])
told_first = (refl, ([], refl), refl)

owed_and_not_told : IsLed true (of_a_request ∷ []) → ⊥
owed_and_not_told led = true≢false (ap (λ ticket. is_some ticket) led.0)

told_behind_a_request : IsLed true (of_fallbacks ∷ of_fallbacks ∷ []) → ⊥
told_behind_a_request led =
    let fewer : ◌≡◌ {A = ℕ} 0 1 = ap (λ decisions. length decisions) led.2 in omega (arith, fewer)

told_and_not_owed : IsLed false (of_fallbacks ∷ []) → ⊥
told_and_not_owed led = let fewer : ◌≡◌ {A = ℕ} 0 1 = ap (λ decisions. length decisions) led in omega (arith, fewer)
