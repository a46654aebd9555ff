-- Worked rows of requests, computed from the definitions alone: calls, with the replies that were written down for them
-- by hand.
use Rattle.std.proofs.Common.{◌≡◌, [], ◌∷◌, pos, refl}
use Rattle.std.specs.Prelude.{codes}
use Rattle.std.specs.Fmt.{digits}
use Rattle.fixed_num.specs.Bodies.{stepped}
use Rattle.fixed_num.specs.Text.{spelled}
use Rattle.cm_document.specs.declared.call.Call.TheVariants.{Send, Hardware, Told, ListControllers}
use Rattle.cm_document.specs.declared.call.Call.TheVariants.{ListInterfaces, ListComponents, Begin, End, Close}
use Rattle.cm_document.specs.declared.call.Mail.TheVariants.{Values}
use Rattle.cm_document.specs.declared.life.Life.TheVariants.{Unconfigured, Inactive, Active, Finalized}
use Rattle.cm_model.specs.BestEffort.{stays_within}
use Rattle.cm_model.specs.Boundary.{all_concluded}
use Rattle.cm_model.specs.Commit.{commit}
use Rattle.cm_model.specs.Cycle.{reaches, cycle, after_cycle}
use Rattle.cm_model.specs.Order.{rank_within}
use Rattle.cm_model.proofs.Worked.{once_ready}
use Rattle.cm_model.proofs.WorkedCalls.{strictly, at_best}

-- a forward comes, and moves nothing before mail is sent
first_switch : once_ready (codes "fwd" ∷ [])
    (strictly [] (codes "fwd" ∷ []) ∷ Begin 0 ∷ Told 0 ∷ ListControllers ∷ Send (codes "fwd") (Values (pos 500000 ∷ []))
    ∷ ListInterfaces ∷ [])
    ≡ codes "queued 0" ∷ codes "0 done" ∷ codes "done" ∷ codes "fwd forward active 0 every 1" ∷ codes "ok"
    ∷ codes "state j1/position 0.000000; state j1/velocity 0.000000; command j1/position unset fwd; command j1/velocity unset free; command pid/j1/position unavailable; command pt/j1/position unavailable" ∷ []
unfolding digits rank_within stays_within reaches all_concluded commit spelled stepped cycle after_cycle
first_switch = refl

-- a trajectory without its follower is refused, and comes with it
followers : once_ready (codes "pid" ∷ codes "traj" ∷ []) (
    strictly [] (codes "traj" ∷ []) ∷ strictly [] (codes "pid" ∷ codes "traj" ∷ []) ∷ Begin 0 ∷ ListControllers ∷ Told 0
    ∷ Told 1 ∷ [])
    ≡ codes "queued 0" ∷ codes "queued 1" ∷ codes "0 refused traj missing_follower pid/j1/position; 1 done"
    ∷ codes "pid pid active 0 every 1 chained; traj trajectory active 1 every 1"
    ∷ codes "refused traj missing_follower pid/j1/position" ∷ codes "done" ∷ []
unfolding digits rank_within stays_within reaches all_concluded commit spelled stepped cycle after_cycle
followers = refl

-- a follower does not leave alone, neither strictly nor by best effort; both leave together, and both come again
a_follower_stays : once_ready (codes "pid" ∷ codes "traj" ∷ []) (
    strictly [] (codes "pid" ∷ codes "traj" ∷ []) ∷ strictly (codes "pid" ∷ []) [] ∷ at_best (codes "pid" ∷ []) []
    ∷ strictly (codes "pid" ∷ codes "traj" ∷ []) [] ∷ Begin 0 ∷ End 0 ∷ at_best [] (codes "traj" ∷ codes "pid" ∷ [])
    ∷ Begin 1 ∷ ListControllers ∷ [])
    ≡ codes "queued 0" ∷ codes "queued 1" ∷ codes "queued 2" ∷ codes "queued 3"
    ∷ codes "0 done; 1 refused traj missing_follower pid/j1/position; 2 done dropped pid missing_follower pid/j1/position; 3 done" ∷ codes "joint j1 0.000000 0.000000 0.000000" ∷ codes "queued 4" ∷ codes "4 done" ∷ codes "pid pid active 0 every 1 chained; traj trajectory active 1 every 1" ∷ []
unfolding digits rank_within stays_within reaches all_concluded commit spelled stepped cycle after_cycle
a_follower_stays = refl

-- each request is decided in the state that the one before left: a conflict, two kinds on one joint, and an exchange
conflicts : once_ready (codes "fwd" ∷ codes "traj2" ∷ codes "pid" ∷ []) (
    strictly [] (codes "fwd" ∷ []) ∷ strictly [] (codes "traj2" ∷ []) ∷ strictly [] (codes "pid" ∷ [])
    ∷ strictly (codes "fwd" ∷ []) (codes "traj2" ∷ []) ∷ Begin 0 ∷ ListControllers ∷ [])
    ≡ codes "queued 0" ∷ codes "queued 1" ∷ codes "queued 2" ∷ codes "queued 3"
    ∷ codes "0 done; 1 refused traj2 conflict j1/position fwd; 2 refused pid mode_refused j1; 3 done"
    ∷ codes "fwd forward inactive 0 every 1; traj2 trajectory active 1 every 1; pid pid inactive 2 every 1" ∷ []
unfolding digits rank_within stays_within reaches all_concluded commit spelled stepped cycle after_cycle
conflicts = refl

-- by best effort what can be done is done
what_can_be_done : once_ready (codes "fwd" ∷ codes "traj2" ∷ codes "jsb" ∷ []) (
    strictly [] (codes "fwd" ∷ []) ∷ at_best [] (codes "nosuch" ∷ codes "traj2" ∷ codes "jsb" ∷ []) ∷ Begin 0
    ∷ ListControllers ∷ [])
    ≡ codes "queued 0" ∷ codes "queued 1"
    ∷ codes "0 done; 1 done dropped nosuch unknown, traj2 conflict j1/position fwd"
    ∷ codes "fwd forward active 0 every 1; traj2 trajectory inactive 1 every 1; jsb broadcaster active 2 every 1" ∷ []
unfolding digits rank_within stays_within reaches all_concluded commit spelled stepped cycle after_cycle
what_can_be_done = refl

-- nothing asked, a name twice, and the same by best effort
twice : once_ready (codes "fwd" ∷ []) (
    strictly [] [] ∷ strictly [] (codes "fwd" ∷ codes "fwd" ∷ []) ∷ at_best [] (codes "fwd" ∷ codes "fwd" ∷ [])
    ∷ Begin 0 ∷ ListControllers ∷ [])
    ≡ codes "queued 0" ∷ codes "queued 1" ∷ codes "queued 2"
    ∷ codes "0 done; 1 refused fwd twice; 2 done dropped fwd twice" ∷ codes "fwd forward active 0 every 1" ∷ []
unfolding digits rank_within stays_within reaches all_concluded commit spelled stepped cycle after_cycle
twice = refl

-- what is not ready is named, though it is last, and nothing changes; in the next cycle it is
not_ready : once_ready (codes "fwd" ∷ codes "jsb" ∷ codes "mk" ∷ []) (
    Begin 0 ∷ End 0 ∷ Begin 1 ∷ End 1 ∷ strictly [] (codes "fwd" ∷ codes "jsb" ∷ codes "mk" ∷ []) ∷ Begin 2
    ∷ ListControllers ∷ End 2 ∷ strictly [] (codes "fwd" ∷ codes "jsb" ∷ codes "mk" ∷ []) ∷ Begin 3 ∷ ListControllers
    ∷ [])
    ≡ codes "none" ∷ codes "joint j1 0.000000 0.000000 0.000000" ∷ codes "none"
    ∷ codes "joint j1 0.000000 0.000000 0.000000" ∷ codes "queued 0" ∷ codes "0 refused mk not_ready"
    ∷ codes "fwd forward inactive 0 every 1; jsb broadcaster inactive 1 every 1; mk mock inactive 2 every 1"
    ∷ codes "joint j1 0.000000 0.000000 0.000000" ∷ codes "queued 1" ∷ codes "1 done"
    ∷ codes "fwd forward active 0 every 1; jsb broadcaster active 1 every 1; mk mock active 2 every 1" ∷ []
unfolding digits rank_within stays_within reaches all_concluded commit spelled stepped cycle after_cycle
not_ready = refl

-- a restart empties the mail, and so does a trajectory that comes above a pid, which is chained then
a_restart_takes_the_mail : once_ready (codes "pid" ∷ codes "traj" ∷ []) (
    strictly [] (codes "pid" ∷ []) ∷ Begin 0 ∷ End 0 ∷ Send (codes "pid") (Values (pos 500000 ∷ []))
    ∷ strictly [] (codes "traj" ∷ []) ∷ Begin 1 ∷ ListControllers ∷ Send (codes "pid") (Values (pos 500000 ∷ [])) ∷ [])
    ≡ codes "queued 0" ∷ codes "0 done" ∷ codes "run pid ok unset; joint j1 0.000000 0.000000 0.000000" ∷ codes "ok"
    ∷ codes "queued 1" ∷ codes "1 done" ∷ codes "pid pid active 0 every 1 chained; traj trajectory active 1 every 1"
    ∷ codes "chained" ∷ []
unfolding digits rank_within stays_within reaches all_concluded commit spelled stepped cycle after_cycle
a_restart_takes_the_mail = refl

-- four requests wait at most, and none is taken after the close
four_wait : once_ready ([]) (
    strictly [] [] ∷ strictly [] [] ∷ strictly [] [] ∷ strictly [] [] ∷ strictly [] [] ∷ Begin 0 ∷ strictly [] []
    ∷ End 0 ∷ Close ∷ Told 3 ∷ Told 4 ∷ strictly [] [] ∷ [])
    ≡ codes "queued 0" ∷ codes "queued 1" ∷ codes "queued 2" ∷ codes "queued 3" ∷ codes "queue_full"
    ∷ codes "0 done; 1 done; 2 done; 3 done" ∷ codes "queued 4" ∷ codes "joint j1 0.000000 0.000000 0.000000"
    ∷ codes "4 loop_ended" ∷ codes "done" ∷ codes "loop_ended" ∷ codes "loop_ended" ∷ []
unfolding digits rank_within stays_within reaches all_concluded commit spelled stepped cycle after_cycle
four_wait = refl

-- a component that is in use moves only where it stays available; from finalized nothing moves it
a_component_in_use : once_ready (codes "fwd" ∷ []) (
    strictly [] (codes "fwd" ∷ []) ∷ Hardware (codes "arm") Unconfigured ∷ Hardware (codes "arm") Inactive
    ∷ strictly (codes "fwd" ∷ []) [] ∷ Begin 0 ∷ ListComponents ∷ End 0 ∷ Hardware (codes "arm") Finalized
    ∷ Hardware (codes "arm") Active ∷ Begin 1 ∷ ListComponents ∷ End 1 ∷ strictly [] (codes "fwd" ∷ []) ∷ Close ∷ Told 6
    ∷ [])
    ≡ codes "queued 0" ∷ codes "queued 1" ∷ codes "queued 2" ∷ codes "queued 3"
    ∷ codes "0 done; 1 refused arm in_use fwd; 2 done; 3 done" ∷ codes "arm system inactive"
    ∷ codes "joint j1 0.000000 0.000000 0.000000" ∷ codes "queued 4" ∷ codes "queued 5"
    ∷ codes "4 done; 5 refused arm no_such_move" ∷ codes "arm system finalized"
    ∷ codes "joint j1 0.000000 0.000000 0.000000" ∷ codes "queued 6" ∷ codes "6 loop_ended" ∷ codes "loop_ended" ∷ []
unfolding digits rank_within stays_within reaches all_concluded commit spelled stepped cycle after_cycle
a_component_in_use = refl

-- no controller comes to a component that is not there, and one does once it is; an unknown component is told
a_component_is_there_again : once_ready (codes "fwd" ∷ []) (
    Hardware (codes "arm") Unconfigured ∷ strictly [] (codes "fwd" ∷ []) ∷ Hardware (codes "arm") Active
    ∷ strictly [] (codes "fwd" ∷ []) ∷ Begin 0 ∷ ListInterfaces ∷ End 0 ∷ Hardware (codes "nosuch") Active ∷ Begin 1
    ∷ [])
    ≡ codes "queued 0" ∷ codes "queued 1" ∷ codes "queued 2" ∷ codes "queued 3"
    ∷ codes "0 done; 1 refused fwd unavailable j1/position; 2 done; 3 done"
    ∷ codes "state j1/position 0.000000; state j1/velocity 0.000000; command j1/position unset fwd; command j1/velocity unset free; command pid/j1/position unavailable; command pt/j1/position unavailable" ∷ codes "run fwd ok unset; joint j1 0.000000 0.000000 0.000000" ∷ codes "queued 4" ∷ codes "4 refused nosuch unknown" ∷ []
unfolding digits rank_within stays_within reaches all_concluded commit spelled stepped cycle after_cycle
a_component_is_there_again = refl
