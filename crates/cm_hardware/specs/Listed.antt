-- What is read off hardware at work: the state of the manager that it stands for, and the lines of interfaces.
use Rattle.std.specs.Prelude.{ℕ, ◌+◌, List, [], ◌∷◌, map, zip}
use Rattle.cm_document.specs.Places.{Interface, interfaces_of}
use Rattle.cm_model.specs.State.{State}
use Rattle.cm_model.specs.Values.{InterfaceValue}
use Rattle.cm_model.specs.declared.lines.IfaceLine.{IfaceLine}
use Rattle.loan_board.specs.declared.board.Loan.{Loan}
use Rattle.cm_hardware.specs.Wiring.{Wired, all_bodies}

-- the interface and what the board holds at its place
abbrev pub held : Interface × Loan → InterfaceValue
held p = record { interface = p.0; value = p.1.value }

-- A state with the lifecycle states and the bodies of these components, and with the interfaces that are described,
-- each with what the board holds at its place.
abbrev pub with_hardware : State → Wired → State
with_hardware s w = record s {
  lives = map (λ m. m.hardware.life) w.components;
  bodies = all_bodies w.components;
  values = map held (zip (interfaces_of s.description) w.loans);
}

-- the line of what the board keeps at a place
abbrev pub loan_line : ℕ → Loan → IfaceLine
loan_line place loan = record {
  value = loan.value;
  place = place;
  owner = loan.owner;
  command = loan.is_command;
  available = loan.is_available;
}

-- those of all places, the first of which is this one
abbrev pub loan_lines_from : ℕ → List Loan → List IfaceLine
loan_lines_from place [] = []
loan_lines_from place (loan ∷ loans) = loan_line place loan ∷ loan_lines_from (place + 1) loans
