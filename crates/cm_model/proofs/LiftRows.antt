-- Worked rows of calls and cycles on the second robot, computed from the definitions alone: the replies were worked
-- out by hand, as the comment above each row tells.
use Rattle.std.proofs.Common.{◌≡◌, ℕ, List, [], ◌∷◌, ◌++◌, pos, refl}
use Rattle.std.specs.Prelude.{codes, neg_ℤ}
use Rattle.std.specs.Fmt.{digits}
use Rattle.fixed_num.specs.Arithmetic.{within, floor_div}
use Rattle.fixed_num.specs.Bodies.{stepped}
use Rattle.fixed_num.specs.Micro.{clamped}
use Rattle.fixed_num.specs.Text.{spelled}
use Rattle.cm_document.specs.declared.call.Call.{Call}
use Rattle.cm_document.specs.declared.call.Call.TheVariants.{Load, Configure, Unload, Send, Hardware, ListControllers}
use Rattle.cm_document.specs.declared.call.Call.TheVariants.{ListInterfaces, ListComponents, Begin, End}
use Rattle.cm_document.specs.declared.call.Mail.TheVariants.{Values, Points}
use Rattle.cm_document.specs.declared.life.Life.TheVariants.{Unconfigured, Inactive, Active, Finalized}
use Rattle.cm_model.proofs.WorkedCalls.{strictly}
use Rattle.cm_model.proofs.WorkedLift.{once_ready, once_ready_in, having_moved}
use Rattle.cm_model.specs.Boundary.{all_concluded}
use Rattle.cm_model.specs.Commit.{commit}
use Rattle.cm_model.specs.Cycle.{reaches, cycle, after_cycle}
use Rattle.cm_model.specs.Order.{rank_within}

-- a strict switch that brings these on
abbrev on : List (List ℕ) → Call
on names = strictly [] names

-- ---- What prints in several rows

-- the joints where they are described to be, and at rest
abbrev standing : List ℕ
standing =
    codes "joint l1 0.300000 0.000000 0.000000; joint l2 -0.200000 0.000000 0.000000; "
    ++ codes "joint w1 1.100000 0.000000 0.000000; joint w2 0.700000 0.000000 0.000000"

-- and where they have come to
abbrev standing_there : List ℕ
standing_there =
    codes "joint l1 0.450000 0.000000 0.000000; joint l2 0.150000 0.000000 0.000000; "
    ++ codes "joint w1 1.250000 0.000000 0.000000; joint w2 0.650000 0.000000 0.000000"

-- what was read of the joints where they are described to be, and at rest
abbrev standing_states : List ℕ
standing_states =
    codes "state l1/velocity 0.000000; state l1/position 0.300000; state l2/position -0.200000; "
    ++ codes "state w1/effort 0.000000; state w1/position 1.100000; state w1/velocity 0.000000; "
    ++ codes "state w2/position 0.700000"

-- no command interface of a component is claimed, and none holds a number
abbrev all_free : List ℕ
all_free =
    codes "command l1/position unset free; command l1/velocity unset free; "
    ++ codes "command l2/position unset free; command w1/effort unset free; "
    ++ codes "command w1/position unset free; command w2/position unset free"

-- no controller that exports a reference is active
abbrev no_references : List ℕ
no_references =
    codes "command damp/l1/velocity unavailable; command damp/w2/position unavailable; "
    ++ codes "command pass/l1/position unavailable; command pass/l2/position unavailable; "
    ++ codes "command servo/l1/position unavailable"

-- ---- Calls and requests

-- `hold` is loaded and not loaded again. The stock has one blank of a mock, and `deny` takes it, which refuses to be
-- configured.
loads : once_ready [] (
    Load (codes "hold") ∷ Load (codes "hold") ∷ Load (codes "scope") ∷ Load (codes "nosuch") ∷ Load (codes "deny")
    ∷ Load (codes "aim") ∷ Configure (codes "deny") ∷ Configure (codes "hold") ∷ ListControllers ∷ [])
    ≡ codes "ok 0" ∷ codes "loaded" ∷ codes "ok 1" ∷ codes "not_described" ∷ codes "ok 2" ∷ codes "stock_empty"
    ∷ codes "refused" ∷ codes "ok"
    ∷ (codes "hold forward inactive 0 every 1; scope broadcaster unconfigured 1; "
    ++ codes "deny mock unconfigured 2") ∷ []
unfolding digits
loads = refl

-- What is asked for while a cycle is aloft is decided when the next one begins, and not before; an active controller
-- is not unloaded. Nobody commands a joint in cycle 0, so all stand where they are described to be.
requests_wait : once_ready (codes "jog" ∷ []) (
    Begin 0 ∷ on (codes "jog" ∷ []) ∷ End 0 ∷ ListControllers ∷ Begin 1 ∷ Unload (codes "jog") ∷ ListControllers ∷ [])
    ≡ codes "none" ∷ codes "queued 0"
    ∷ standing
    ∷ codes "jog forward inactive 0 every 1" ∷ codes "0 done" ∷ codes "active"
    ∷ codes "jog forward active 0 every 1" ∷ []
unfolding digits rank_within all_concluded commit spelled reaches stepped cycle after_cycle
requests_wait = refl

-- All three of the chain use the lift. By order `plan` comes first, though it was loaded last. `scope`, which reads
-- the wrist, is inactive, and none of the others uses the wrist, so that is finalized.
the_user_of_a_component : once_ready (codes "servo" ∷ codes "pass" ∷ codes "plan" ∷ codes "scope" ∷ []) (
    on (codes "servo" ∷ codes "pass" ∷ codes "plan" ∷ []) ∷ Hardware (codes "lift") Unconfigured
    ∷ Hardware (codes "wrist") Finalized
    ∷ Begin 0 ∷ ListComponents ∷ [])
    ≡ codes "queued 0" ∷ codes "queued 1" ∷ codes "queued 2" ∷ codes "0 done; 1 refused lift in_use plan; 2 done"
    ∷ codes "lift system active; wrist system finalized" ∷ []
unfolding digits rank_within all_concluded commit
the_user_of_a_component = refl

-- `hold` is sent a value for each component while cycle 0 is aloft, and gives them out in cycle 1. l2 goes from -0.2 to
-- -0.199 in 5 ms, 0.2 a second; w1 goes from 1.1 to 1.09, 2 a second. Then `hold` leaves, and nothing of what it gave
-- out stays. The states are those that were read in cycle 1, before the joints moved.
sent_to_both_components : once_ready (codes "hold" ∷ []) (
    Hardware (codes "wrist") Active ∷ on (codes "hold" ∷ []) ∷ Begin 0
    ∷ Send (codes "hold") (Values (neg_ℤ (pos 199000) ∷ pos 1090000 ∷ [])) ∷ End 0
    ∷ Begin 1 ∷ End 1 ∷ strictly (codes "hold" ∷ []) [] ∷ Begin 2 ∷ ListInterfaces ∷ [])
    ≡ codes "queued 0" ∷ codes "queued 1" ∷ codes "0 done; 1 done" ∷ codes "ok"
    ∷ (codes "run hold ok unset unset; " ++ standing)
    ∷ codes "none"
    ∷ (codes "run hold ok -0.199000 1.090000; joint l1 0.300000 0.000000 0.000000; "
    ++ codes "joint l2 -0.199000 0.200000 0.000000; joint w1 1.090000 -2.000000 0.000000; "
    ++ codes "joint w2 0.700000 0.000000 0.000000")
    ∷ codes "queued 2" ∷ codes "2 done"
    ∷ (standing_states ++ codes "; " ++ all_free ++ codes "; " ++ no_references)
    ∷ []
unfolding digits rank_within all_concluded commit spelled stepped within clamped floor_div reaches cycle after_cycle
sent_to_both_components = refl

-- `pass` gives out 0.35 to the reference of `servo` and -0.1 to l2, in cycle 1, in which `servo` is not due. Then
-- `servo` restarts by name: what it claims and its reference are unset, though `pass` stays above it, and what `pass`
-- gave to l2 stays.
a_named_restart : once_ready (codes "servo" ∷ codes "pass" ∷ []) (
    on (codes "servo" ∷ codes "pass" ∷ []) ∷ Begin 0
    ∷ Send (codes "pass") (Values (pos 350000 ∷ neg_ℤ (pos 100000) ∷ [])) ∷ End 0 ∷ Begin 1 ∷ End 1
    ∷ strictly (codes "servo" ∷ []) (codes "servo" ∷ []) ∷ Begin 2 ∷ ListInterfaces ∷ [])
    ≡ codes "queued 0" ∷ codes "0 done" ∷ codes "ok"
    ∷ (codes "run pass ok unset unset; run servo ok unset; " ++ standing)
    ∷ codes "none"
    ∷ (codes "run pass ok 0.350000 -0.100000; joint l1 0.300000 0.000000 0.000000; "
    ++ codes "joint l2 -0.197500 0.500000 0.000000; joint w1 1.100000 0.000000 0.000000; "
    ++ codes "joint w2 0.700000 0.000000 0.000000")
    ∷ codes "queued 1" ∷ codes "1 done"
    ∷ (standing_states ++ codes "; command l1/position unset free; command l1/velocity unset servo; "
    ++ codes "command l2/position -0.100000 pass; command w1/effort unset free; "
    ++ codes "command w1/position unset free; command w2/position unset free; "
    ++ codes "command damp/l1/velocity unavailable; command damp/w2/position unavailable; "
    ++ codes "command pass/l1/position unset free; command pass/l2/position unset free; "
    ++ codes "command servo/l1/position unset pass")
    ∷ []
unfolding digits rank_within all_concluded commit spelled stepped within clamped floor_div reaches cycle after_cycle
a_named_restart = refl

-- The mail that waits for `hold` when it restarts is gone, so it gives out nothing in cycle 1.
a_restart_empties_the_mail : once_ready (codes "hold" ∷ []) (
    on (codes "hold" ∷ []) ∷ Begin 0 ∷ Send (codes "hold") (Values (neg_ℤ (pos 199000) ∷ pos 1090000 ∷ []))
    ∷ strictly (codes "hold" ∷ []) (codes "hold" ∷ []) ∷ End 0 ∷ Begin 1 ∷ End 1 ∷ [])
    ≡ codes "queued 0" ∷ codes "0 done" ∷ codes "ok" ∷ codes "queued 1"
    ∷ (codes "run hold ok unset unset; " ++ standing)
    ∷ codes "1 done"
    ∷ (codes "run hold ok unset unset; " ++ standing)
    ∷ []
unfolding digits rank_within all_concluded commit spelled stepped within clamped floor_div reaches cycle after_cycle
a_restart_empties_the_mail = refl

-- ---- Cycles

-- `plan` holds what it read at activation, 0.3 and -0.2, until cycle 1 takes its points at 5 ms: 10 ms later 0.32 and
-- -0.19. In cycle 2 it is half way there, 0.31 and -0.195, and the others take that in the same cycle. `servo` is
-- updated in every second cycle, so its time is 10 ms: the error is 0.01, its integral 0.0001, and it changed by 1 a
-- second; 2 * 0.01 + 3 * 0.0001 + 0.01 * 1 = 0.0303. l1 has that velocity, and goes 0.0001515 in 5 ms, rounded down
-- to 0.000151. l2 goes 0.0025.
a_chain_of_three : once_ready (codes "servo" ∷ codes "pass" ∷ codes "plan" ∷ []) (
    on (codes "servo" ∷ codes "pass" ∷ codes "plan" ∷ []) ∷ Begin 0 ∷ ListControllers ∷ End 0
    ∷ Send (codes "plan") (Points (record { at_us = 10000; values = pos 320000 ∷ neg_ℤ (pos 190000) ∷ [] }
    ∷ record { at_us = 20000; values = pos 290000 ∷ neg_ℤ (pos 230000) ∷ [] } ∷ []))
    ∷ Begin 1 ∷ End 1 ∷ Begin 2 ∷ End 2 ∷ [])
    ≡ codes "queued 0" ∷ codes "0 done"
    ∷ (codes "servo pid active 0 every 2 chained; pass passthrough active 1 every 1 chained; "
    ++ codes "plan trajectory active 2 every 1")
    ∷ (codes "run plan ok 0.300000 -0.200000; run pass ok 0.300000 -0.200000; run servo ok 0.000000; "
    ++ standing)
    ∷ codes "ok" ∷ codes "none"
    ∷ (codes "run plan ok 0.300000 -0.200000; run pass ok 0.300000 -0.200000; " ++ standing)
    ∷ codes "none"
    ∷ (codes "run plan ok 0.310000 -0.195000; run pass ok 0.310000 -0.195000; run servo ok 0.030300; "
    ++ codes "joint l1 0.300151 0.030300 0.000000; joint l2 -0.197500 0.500000 0.000000; "
    ++ codes "joint w1 1.100000 0.000000 0.000000; joint w2 0.700000 0.000000 0.000000")
    ∷ []
unfolding digits rank_within all_concluded commit spelled stepped within clamped floor_div reaches cycle after_cycle
a_chain_of_three = refl

-- `plan` is activated where the joints have come to 0.45 and 0.15, and holds them there, not where they are described
-- to be.
states_of_the_moment : once_ready_in (having_moved 4) (codes "servo" ∷ codes "pass" ∷ codes "plan" ∷ []) (
    on (codes "servo" ∷ codes "pass" ∷ codes "plan" ∷ []) ∷ Begin 4 ∷ End 4 ∷ [])
    ≡ codes "queued 0" ∷ codes "0 done"
    ∷ (codes "run plan ok 0.450000 0.150000; run pass ok 0.450000 0.150000; run servo ok 0.000000; "
    ++ standing_there)
    ∷ []
unfolding digits rank_within all_concluded commit spelled stepped within clamped floor_div reaches cycle after_cycle
states_of_the_moment = refl

-- The lift goes and comes back, and its states are those of its bodies as they stand, not as they are described.
measured_again : once_ready_in (having_moved 4) [] (Hardware (codes "lift") Unconfigured
    ∷ Hardware (codes "lift") Inactive ∷ Begin 4 ∷ ListInterfaces ∷ [])
    ≡ codes "queued 0" ∷ codes "queued 1" ∷ codes "0 done; 1 done"
    ∷ (codes "state l1/velocity 0.250000; state l1/position 0.450000; state l2/position 0.150000; "
    ++ codes "state w1/effort 0.150000; state w1/position 1.250000; state w1/velocity -0.350000; "
    ++ codes "state w2/position 0.650000; " ++ all_free ++ codes "; " ++ no_references)
    ∷ []
unfolding digits rank_within all_concluded spelled
measured_again = refl

-- ---- Failures

-- In cycle 6 the read of the wrist and the write of the lift fail: the read is told first, though the lift is
-- described first. `scope` reads the wrist and is held off. `servo` is 0.05 above what it is to reach, 0.4; in 10 ms
-- the integral comes to -0.0005, and 2 * -0.05 + 3 * -0.0005 = -0.1015. The lift is not written, so its joints stand.
-- All three used what failed, and stop in their order.
both_components_fail : once_ready_in (having_moved 5) (codes "servo" ∷ codes "scope" ∷ codes "pass" ∷ []) (
    on (codes "servo" ∷ codes "scope" ∷ codes "pass" ∷ []) ∷ Begin 5 ∷ End 5
    ∷ Send (codes "pass") (Values (pos 400000 ∷ pos 100000 ∷ []))
    ∷ Begin 6 ∷ End 6 ∷ ListComponents ∷ ListControllers ∷ [])
    ≡ codes "queued 0" ∷ codes "0 done"
    ∷ (codes "run pass ok unset unset; " ++ standing_there)
    ∷ codes "ok" ∷ codes "none"
    ∷ (codes "fail wrist read; fail lift write; run pass ok 0.400000 0.100000; "
    ++ codes "run servo ok -0.101500; " ++ standing_there ++ codes "; stop scope; stop pass; stop servo")
    ∷ codes "lift system unconfigured; wrist system finalized"
    ∷ (codes "servo pid inactive 0 every 2; scope broadcaster inactive 1 every 3; "
    ++ codes "pass passthrough inactive 2 every 1")
    ∷ []
unfolding digits rank_within all_concluded commit spelled stepped within clamped floor_div reaches cycle after_cycle
both_components_fail = refl

-- In cycle 9 the read of the lift fails. `damp` uses it: it is held off, and stops. `aim` precedes `damp`, so it
-- stops too, though it uses the wrist alone, and is updated. `scope` uses the wrist alone and commands nobody: it
-- tells its three states, each as it reads it, and stays.
one_component_fails : once_ready_in (having_moved 9) (codes "damp" ∷ codes "scope" ∷ codes "aim" ∷ []) (
    on (codes "damp" ∷ codes "scope" ∷ codes "aim" ∷ []) ∷ Begin 9 ∷ End 9 ∷ ListControllers ∷ [])
    ≡ codes "queued 0" ∷ codes "0 done"
    ∷ (codes "fail lift read; run scope ok -0.350000 0.650000 1.250000; run aim ok unset unset; "
    ++ standing_there ++ codes "; stop aim; stop damp")
    ∷ (codes "damp passthrough inactive 0 every 1; scope broadcaster active 1 every 3; "
    ++ codes "aim mock inactive 2 every 1")
    ∷ []
unfolding digits rank_within all_concluded commit spelled stepped within clamped floor_div reaches cycle after_cycle
one_component_fails = refl

-- `aim` is not ready in cycle 1, so nothing comes. In cycle 3 it gives out 0.2 to the reference of `damp`, which
-- drives l1 with it, and 0.6 to w1: 0.6 * 3 = 1.8 a second each second, 0.009 in 5 ms, and 0.000045 of way. In cycle
-- 4 its update fails, so all hold what they held: w1 gains (1.8 - 0.5 * 0.009) * 0.005 = 0.0089775, rounded down, and
-- goes 0.017977 * 0.005, rounded down. `aim` stops and `damp` stays.
a_mock_fails : once_ready_in (having_moved 1) (codes "damp" ∷ codes "aim" ∷ []) (
    on (codes "damp" ∷ codes "aim" ∷ []) ∷ Hardware (codes "wrist") Active ∷ Begin 1 ∷ End 1
    ∷ on (codes "damp" ∷ codes "aim" ∷ []) ∷ Begin 2 ∷ End 2
    ∷ Send (codes "aim") (Values (pos 200000 ∷ pos 600000 ∷ [])) ∷ Begin 3 ∷ End 3 ∷ Begin 4 ∷ End 4
    ∷ ListControllers ∷ [])
    ≡ codes "queued 0" ∷ codes "queued 1" ∷ codes "0 refused aim not_ready; 1 done"
    ∷ standing_there
    ∷ codes "queued 2" ∷ codes "2 done"
    ∷ (codes "run aim ok unset unset; run damp ok unset unset; " ++ standing_there)
    ∷ codes "ok" ∷ codes "none"
    ∷ (codes "run aim ok 0.200000 0.600000; run damp ok 0.200000 unset; "
    ++ codes "joint l1 0.451000 0.200000 0.000000; joint l2 0.150000 0.000000 0.000000; "
    ++ codes "joint w1 1.250045 0.009000 0.600000; joint w2 0.650000 0.000000 0.000000")
    ∷ codes "none"
    ∷ (codes "run aim error; run damp ok 0.200000 unset; joint l1 0.452000 0.200000 0.000000; "
    ++ codes "joint l2 0.150000 0.000000 0.000000; joint w1 1.250134 0.017977 0.600000; "
    ++ codes "joint w2 0.650000 0.000000 0.000000; stop aim")
    ∷ codes "damp passthrough active 0 every 1; aim mock inactive 1 every 1"
    ∷ []
unfolding digits rank_within all_concluded commit spelled stepped within clamped floor_div reaches cycle after_cycle
a_mock_fails = refl
