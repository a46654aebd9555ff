-- What a read of a component asks.
use Rattle.std.specs.Prelude.{◌≡◌, true, List, length}
use Rattle.fixed_num.specs.declared.value.Value.{Value}
use Rattle.cm_model.specs.Components.{read_runs, state_interfaces}
use Rattle.hw_component.specs.Hardware.{Hardware}

-- It is in a state in which it is read, and there is a place for each of its state interfaces.
pub record CanRead (h : Hardware) (states : List Value) : Type 0 where
  pub runs : read_runs h.life ≡ true
  pub places : length states ≡ length (state_interfaces h.description)
