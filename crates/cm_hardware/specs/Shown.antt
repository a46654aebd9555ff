-- The lists of hardware, written down.
use Rattle.std.specs.Prelude.{◌≡◌, ◌≤◌, length, vec_len, vec_capacity}
use Rattle.cm_model.specs.State.{State, component_lines}
use Rattle.cm_hardware.specs.Holding.{IsHardwareOf}
use Rattle.cm_hardware.specs.Wiring.{Wired}
use Rattle.cm_hardware.specs.declared.lists.Lists.{Lists}

-- There is room for a line for each component of this hardware, and for what its board keeps of each interface.
pub record HasLinesFor (w : Wired) (l : Lists) : Type 0 where
  pub components : length w.components ≤ vec_capacity l.components
  pub loans : vec_len l.loans ≡ length w.loans

-- The lists are those of this hardware: of components those of each state whose it is, and what its board keeps.
pub record Shows (w : Wired) (l : Lists) : Type 0 where
  pub components : (s : State) → IsHardwareOf s w → l.components.items ≡ component_lines s
  pub loans : l.loans.items ≡ w.loans
