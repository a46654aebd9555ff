-- Worked rows of the job `steps`, computed from the definitions alone: scripts with a schedule, and the traces that
-- were written down for them by hand.
use Rattle.std.proofs.Common.{◌≡◌, ℕ, List, [], ◌∷◌, refl}
use Rattle.std.specs.Prelude.{codes, map}
use Rattle.std.specs.Fmt.{digits}
use Rattle.fixed_num.specs.Text.{spelled}
use Rattle.cm_document.specs.declared.call.Call.{Call}
use Rattle.cm_document.specs.declared.description.Description.{Description}
use Rattle.cm_document.specs.declared.document.Document.{Document}
use Rattle.cm_model.specs.BestEffort.{stays_within}
use Rattle.cm_model.specs.Boundary.{all_concluded}
use Rattle.cm_model.specs.Commit.{commit}
use Rattle.cm_model.specs.Cycle.{reaches, cycle, after_cycle}
use Rattle.cm_model.specs.Machine.{step}
use Rattle.cm_model.specs.Order.{rank_within}
use Rattle.cm_model.specs.Trace.{output}
use Rattle.fixed_num.specs.Bodies.{stepped}
use Rattle.cm_document.specs.Described.{a_description}
use Rattle.cm_document.specs.declared.call.Call.TheVariants.{Load, Configure, Unload}
use Rattle.cm_document.specs.declared.script.Turn.{Turn}
use Rattle.cm_document.specs.declared.script.Turn.TheVariants as turn
use Rattle.cm_model.specs.Scheduled.{advance, settle, settle_all, looped, with_cycle, finish, start, scheduled_in_steps}
use Rattle.cm_model.proofs.Worked.{robot, stock}
use Rattle.cm_model.proofs.WorkedCalls.{strictly}

-- what is printed of the run of these sessions by these turns
abbrev printed_in_steps : Description → List (List ℕ × List Call) → List Turn → List ℕ
printed_in_steps d sessions turns =
    let document : Document = record {
      description = d;
      script = record {
        sessions =
            map (λ (session : List ℕ × List Call). record { name = session.0; lines = session.1 }) sessions;
        schedule = turns;
      };
    } in output document (scheduled_in_steps document stock)

-- two operators in ten turns: the unload of the active controller is refused, that of the other is done, and each
-- request is told
two_operators : printed_in_steps (record robot { cycles = 1 })
    ((
      codes "a",
      Load (codes "fwd") ∷ Configure (codes "fwd") ∷ strictly [] (codes "fwd" ∷ []) ∷ Unload (codes "fwd") ∷ [],
    )
    ∷ (codes "b", Load (codes "traj2") ∷ Configure (codes "traj2") ∷ Unload (codes "traj2") ∷ []) ∷ [])
    (turn.Step 0 ∷ turn.Step 0 ∷ turn.Step 0 ∷ turn.Step 1 ∷ turn.Step 1 ∷ turn.Begin ∷ turn.Step 0 ∷ turn.Step 0
    ∷ turn.Step 1 ∷ turn.End ∷ [])
    ≡ codes "a load fwd: ok 0\na configure fwd: ok\na switch strict +fwd: queued 0\nb load traj2: ok 1\nb configure traj2: ok\nloop begin 0: 0 done\na told 0: done\na unload fwd: active\nb unload traj2: ok\nloop end 0: run fwd ok unset; joint j1 0.000000 0.000000 0.000000\nloop close: none\n"
unfolding digits rank_within stays_within reaches all_concluded commit spelled stepped cycle after_cycle step advance
    settle settle_all looped with_cycle finish start scheduled_in_steps output
two_operators = refl

-- turns that cannot be made do nothing; a cycle that is aloft after the last turn ends, and the others follow
idle_turns : printed_in_steps (a_description 1 100 2 [] []) ((codes "a", []) ∷ [])
    (turn.End ∷ turn.Step 0 ∷ turn.Begin ∷ turn.Begin ∷ [])
    ≡ codes "loop begin 0: none\nloop end 0: none\nloop begin 1: none\nloop end 1: none\nloop close: none\n"
unfolding digits rank_within stays_within reaches all_concluded commit spelled stepped cycle after_cycle step advance
    settle settle_all looped with_cycle finish start scheduled_in_steps output
idle_turns = refl
