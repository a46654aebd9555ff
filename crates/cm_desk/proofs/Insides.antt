-- What contracts see of what the desk keeps.
use Rattle.std.specs.Prelude.{vec_capacity}
use Rattle.cm_model.specs.State.{State}
use Rattle.cm_resources.specs.CycleResources.{Base, base_of}
use Rattle.cm_desk.specs.Works.{state_with}
use Rattle.cm_desk.specs.declared.works.Works.TheInside.{Inside}

-- What the state stands on besides the controllers,
abbrev pub base_in : {C : Type 0} → Inside C → Base
base_in w = base_of w.resources (vec_capacity w.boxes)

-- and the state itself
abbrev pub state_of : {C : Type 0} → Inside C → State
state_of w = state_with w.checked w.blanks w.sessions w.loads w.slots w.requests (base_in w) w.ended w.closed
