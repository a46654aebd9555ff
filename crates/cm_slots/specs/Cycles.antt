-- Which cycle is aloft in a state.
use Rattle.std.specs.Prelude.{◌≡◌}
use Rattle.cm_model.specs.Cycle.{period}
use Rattle.cm_model.specs.State.{State}
use Rattle.cm_hardware.specs.Holding.{reads_failed_in}
use Rattle.cm_places.specs.Placed.{placed_of}
use Rattle.switch_plan.specs.Relations.{relations_of}
use Rattle.cm_slots.specs.Updates.{Aloft}

-- This is the cycle that is aloft in the state.
pub record IsAloftOf (s : State) (a : Aloft) : Type 0 where
  pub number : a.number ≡ s.ended
  pub period : a.period_us ≡ period s.description
  pub placed : a.placed ≡ placed_of s.description
  pub related : a.related ≡ relations_of s.description
  pub failed : a.failed ≡ reads_failed_in s
