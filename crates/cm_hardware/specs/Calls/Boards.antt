-- What calls that change a board ask.
use Rattle.std.specs.Prelude.{ℕ, ◌<◌, ◌≤◌, List, length, Option}
use Rattle.loan_board.specs.declared.board.Loan.{Loan}
use Rattle.cm_places.specs.Placed.{Placed}
use Rattle.cm_hardware.specs.Wiring.{Mounted, all_states, AreFree}

-- The board has this place, and it is told who claims what stands there and who exports it.
pub record IsPlaceOf (at : ℕ) (loans : List Loan) (placed : Placed) : Type 0 where
  pub place : at < length loans
  pub claimers : at < length placed.claimers
  pub exporters : at < length placed.exporters

-- One of the components has this place; the board has each place of which the component is told, and one for each state
-- interface.
pub record CanSettle (at : ℕ) (ms : List Mounted) (cs : List (Option ℕ)) (loans : List Loan) : Type 0 where
  pub place : at < length ms
  pub places : length cs ≤ length loans
  pub states : all_states ms ≤ length loans

-- The board has each place of which the component is told, and nobody claims any.
pub record CanOpen (cs : List (Option ℕ)) (loans : List Loan) : Type 0 where
  pub places : length cs ≤ length loans
  pub free : AreFree loans
