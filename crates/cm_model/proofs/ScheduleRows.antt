-- Worked rows of whole runs with requests and awaits, computed from the definitions alone: scripts, with the traces
-- that were written down for them by hand.
use Rattle.std.proofs.Common.{◌≡◌, ℕ, List, [], ◌∷◌, pos, refl}
use Rattle.std.specs.Prelude.{codes, map}
use Rattle.std.specs.Fmt.{digits}
use Rattle.fixed_num.specs.Arithmetic.{floor_div, within}
use Rattle.fixed_num.specs.Bodies.{stepped}
use Rattle.fixed_num.specs.Micro.{clamped}
use Rattle.fixed_num.specs.Text.{spelled}
use Rattle.iface_names.specs.declared.kind.Kind.TheVariants.{Position}
use Rattle.cm_document.specs.Described.{a_controller, a_description, a_joint, a_component}
use Rattle.cm_document.specs.declared.call.Call.{Call}
use Rattle.cm_document.specs.declared.call.Call.TheVariants.{Load, Configure, Send, Hardware, Await}
use Rattle.cm_document.specs.declared.call.Mail.TheVariants.{Values}
use Rattle.cm_document.specs.declared.description.CompKind.TheVariants.{Actuator}
use Rattle.cm_document.specs.declared.description.Description.{Description}
use Rattle.cm_document.specs.declared.description.Params.TheVariants.{Forward}
use Rattle.cm_document.specs.declared.document.Document.{Document}
use Rattle.cm_document.specs.declared.life.Life.TheVariants.{Unconfigured, Inactive, Active, Finalized}
use Rattle.cm_model.specs.BestEffort.{stays_within}
use Rattle.cm_model.specs.Boundary.{all_concluded}
use Rattle.cm_model.specs.Commit.{commit}
use Rattle.cm_model.specs.Cycle.{reaches, cycle, after_cycle}
use Rattle.cm_model.specs.Machine.{step}
use Rattle.cm_model.specs.Order.{rank_within}
use Rattle.cm_model.specs.Scheduled.{advance, settle, settle_all, looped, with_cycle, finish, start, scheduled}
use Rattle.cm_model.specs.Trace.{output}
use Rattle.cm_model.proofs.Worked.{j1_position, robot, stock}
use Rattle.cm_model.proofs.WorkedCalls.{strictly, at_best}

-- what is printed of the run of these sessions, each with its name and its lines
abbrev printed : Description → List (List ℕ × List Call) → List ℕ
printed d sessions =
    let document : Document = record {
      description = d;
      script = record {
        sessions =
            map (λ (session : List ℕ × List Call). record { name = session.0; lines = session.1 }) sessions;
        schedule = [];
      };
    } in output document (scheduled document stock)

-- one controller on one joint, which is switched on and then sent a value; the session waits for its switch
one_joint : printed
    (a_description 1 100 3
    (a_component (codes "arm") Actuator Active Unconfigured [] []
    (a_joint (codes "j1") (pos 1000000) (pos 1000000) (pos 0) (pos 0) (pos 0) (Position ∷ []) (Position ∷ []) ∷ [])
    ∷ [])
    (a_controller (codes "fwd") 0 (j1_position ∷ []) [] (Forward 1) ∷ []))
    ((
      codes "a",
      Load (codes "fwd") ∷ Configure (codes "fwd") ∷ strictly [] (codes "fwd" ∷ [])
          ∷ Send (codes "fwd") (Values (pos 500000 ∷ [])) ∷ [],
    ) ∷ [])
    ≡ codes "a load fwd: ok 0\na configure fwd: ok\na switch strict +fwd: queued 0\nloop begin 0: 0 done\nloop end 0: run fwd ok unset; joint j1 0.000000 0.000000 0.000000\na told 0: done\na send fwd 0.500000: ok\nloop begin 1: none\nloop end 1: run fwd ok 0.500000; joint j1 0.010000 1.000000 0.000000\nloop begin 2: none\nloop end 2: run fwd ok 0.500000; joint j1 0.020000 1.000000 0.000000\nloop close: none\n"
unfolding digits rank_within stays_within reaches all_concluded commit spelled stepped within clamped floor_div cycle
    after_cycle step advance settle settle_all looped with_cycle finish start scheduled output
one_joint = refl

-- five sessions ask at once, of which four can wait; one goes on when the loop has closed
five_sessions : printed (a_description 1 100 1 [] [])
    ((codes "a", strictly [] [] ∷ []) ∷ (codes "b", strictly [] [] ∷ []) ∷ (codes "c", strictly [] [] ∷ [])
    ∷ (codes "d", strictly [] [] ∷ []) ∷ (codes "e", strictly [] [] ∷ Await 9 ∷ strictly [] [] ∷ []) ∷ [])
    ≡ codes "a switch strict: queued 0\nb switch strict: queued 1\nc switch strict: queued 2\nd switch strict: queued 3\ne switch strict: queue_full\nloop begin 0: 0 done; 1 done; 2 done; 3 done\nloop end 0: none\na told 0: done\nb told 1: done\nc told 2: done\nd told 3: done\nloop close: none\ne await 9: ok\ne switch strict: loop_ended\n"
unfolding digits rank_within stays_within reaches all_concluded commit spelled stepped cycle after_cycle step advance
    settle settle_all looped with_cycle finish start scheduled output
five_sessions = refl

-- a component that is in use, and is finalized once it is not; the last request ends with the loop
a_component_in_use : printed robot
    ((
      codes "a",
      Load (codes "fwd") ∷ Configure (codes "fwd") ∷ strictly [] (codes "fwd" ∷ [])
          ∷ Hardware (codes "arm") Unconfigured ∷ Hardware (codes "arm") Inactive
          ∷ strictly (codes "fwd" ∷ []) [] ∷ Hardware (codes "arm") Finalized ∷ Hardware (codes "arm") Active
          ∷ strictly [] (codes "fwd" ∷ []) ∷ [],
    ) ∷ [])
    ≡ codes "a load fwd: ok 0\na configure fwd: ok\na switch strict +fwd: queued 0\nloop begin 0: 0 done\nloop end 0: run fwd ok unset; joint j1 0.000000 0.000000 0.000000\na told 0: done\na hw arm unconfigured: queued 1\nloop begin 1: 1 refused arm in_use fwd\nloop end 1: run fwd ok unset; joint j1 0.000000 0.000000 0.000000\na told 1: refused arm in_use fwd\na hw arm inactive: queued 2\nloop begin 2: 2 done\nloop end 2: run fwd ok unset; joint j1 0.000000 0.000000 0.000000\na told 2: done\na switch strict -fwd: queued 3\nloop begin 3: 3 done\nloop end 3: joint j1 0.000000 0.000000 0.000000\na told 3: done\na hw arm finalized: queued 4\nloop begin 4: 4 done\nloop end 4: joint j1 0.000000 0.000000 0.000000\na told 4: done\na hw arm active: queued 5\nloop begin 5: 5 refused arm no_such_move\nloop end 5: joint j1 0.000000 0.000000 0.000000\na told 5: refused arm no_such_move\na switch strict +fwd: queued 6\nloop close: 6 loop_ended\na told 6: loop_ended\n"
unfolding digits rank_within stays_within reaches all_concluded commit spelled stepped cycle after_cycle step advance
    settle settle_all looped with_cycle finish start scheduled output
a_component_in_use = refl

-- a controller that is not ready in one cycle, and fails in a later one
not_ready_and_then_failed : printed robot
    ((
      codes "a",
      Load (codes "fwd") ∷ Load (codes "jsb") ∷ Load (codes "mk") ∷ Configure (codes "fwd") ∷ Configure (codes "jsb")
          ∷ Configure (codes "mk") ∷ Await 2
          ∷ strictly [] (codes "fwd" ∷ codes "jsb" ∷ codes "mk" ∷ [])
          ∷ strictly [] (codes "fwd" ∷ codes "jsb" ∷ codes "mk" ∷ []) ∷ [],
    ) ∷ [])
    ≡ codes "a load fwd: ok 0\na load jsb: ok 1\na load mk: ok 2\na configure fwd: ok\na configure jsb: ok\na configure mk: ok\nloop begin 0: none\nloop end 0: joint j1 0.000000 0.000000 0.000000\nloop begin 1: none\nloop end 1: joint j1 0.000000 0.000000 0.000000\na await 2: ok\na switch strict +fwd +jsb +mk: queued 0\nloop begin 2: 0 refused mk not_ready\nloop end 2: joint j1 0.000000 0.000000 0.000000\na told 0: refused mk not_ready\na switch strict +fwd +jsb +mk: queued 1\nloop begin 3: 1 done\nloop end 3: run fwd ok unset; run jsb ok 0.000000 0.000000; run mk ok; joint j1 0.000000 0.000000 0.000000\na told 1: done\nloop begin 4: none\nloop end 4: run fwd ok unset; run jsb ok 0.000000 0.000000; run mk ok; joint j1 0.000000 0.000000 0.000000\nloop begin 5: none\nloop end 5: run fwd ok unset; run jsb ok 0.000000 0.000000; run mk error; joint j1 0.000000 0.000000 0.000000; stop mk\nloop close: none\n"
unfolding digits rank_within stays_within reaches all_concluded commit spelled stepped cycle after_cycle step advance
    settle settle_all looped with_cycle finish start scheduled output
not_ready_and_then_failed = refl

-- two sessions: one waits for its switch of best effort, the other for a cycle, and each is told of its own
two_sessions : printed (record robot { cycles = 2 })
    ((
      codes "a",
      Load (codes "fwd") ∷ Configure (codes "fwd") ∷ Load (codes "traj2") ∷ Configure (codes "traj2")
          ∷ Load (codes "jsb") ∷ Configure (codes "jsb") ∷ strictly [] (codes "fwd" ∷ [])
          ∷ at_best (codes "pid" ∷ []) (codes "nosuch" ∷ codes "traj2" ∷ codes "jsb" ∷ []) ∷ [],
    )
    ∷ (codes "b", Await 1 ∷ Hardware (codes "arm") Finalized ∷ []) ∷ [])
    ≡ codes "a load fwd: ok 0\na configure fwd: ok\na load traj2: ok 1\na configure traj2: ok\na load jsb: ok 2\na configure jsb: ok\na switch strict +fwd: queued 0\nloop begin 0: 0 done\nloop end 0: run fwd ok unset; joint j1 0.000000 0.000000 0.000000\na told 0: done\na switch best -pid +nosuch +traj2 +jsb: queued 1\nb await 1: ok\nb hw arm finalized: queued 2\nloop begin 1: 1 done dropped pid unknown, nosuch unknown, traj2 conflict j1/position fwd; 2 refused arm in_use fwd\nloop end 1: run fwd ok unset; run jsb ok 0.000000 0.000000; joint j1 0.000000 0.000000 0.000000\na told 1: done dropped pid unknown, nosuch unknown, traj2 conflict j1/position fwd\nb told 2: refused arm in_use fwd\nloop close: none\n"
unfolding digits rank_within stays_within reaches all_concluded commit spelled stepped cycle after_cycle step advance
    settle settle_all looped with_cycle finish start scheduled output
two_sessions = refl
