-- A record of a cycle as it is kept stands for what happened.
use Rattle.std.specs.Prelude.{ℕ, ◌==◌, Bool, ◌&&◌, List, [], length}
use Rattle.fixed_num.specs.declared.value.BodyState.{BodyState}
use Rattle.cm_storage.specs.Happened.{Happened}
use Rattle.cm_storage.specs.declared.record.CycleParts.{CycleParts}
use Rattle.cm_storage.specs.declared.record.Held.{Held}
use Rattle.cm_storage.specs.declared.record.Held.TheVariants.{Quiet, Whole, Bodies}

-- nothing happened in this cycle but that it ended
abbrev pub nothing_in : ℕ → Happened
nothing_in cycle = record { cycle = cycle; failed = []; ran = []; bodies = []; stops = [] }

-- nothing is told of this cycle but these bodies
abbrev pub bodies_in : ℕ → List BodyState → Happened
bodies_in cycle bodies = record { cycle = cycle; failed = []; ran = []; bodies = bodies; stops = [] }

-- there is nothing to tell of a cycle but its number
abbrev pub tells_nothing : Happened → Bool
tells_nothing happened =
    ((length happened.failed == 0 && length happened.ran == 0) && length happened.bodies == 0)
    && length happened.stops == 0

-- what these parts tell
abbrev pub happened_in_parts : CycleParts → Happened
happened_in_parts parts = record {
  cycle = parts.cycle;
  failed = parts.failed;
  ran = parts.ran;
  bodies = parts.bodies;
  stops = parts.stops;
}

-- what a record that is kept so tells
abbrev pub happened : Held → Happened
happened (Quiet cycle) = nothing_in cycle
happened (Whole parts) = happened_in_parts parts.value
happened (Bodies cycle bodies) = bodies_in cycle bodies
