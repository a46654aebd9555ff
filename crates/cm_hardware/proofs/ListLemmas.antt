-- What is read off the hardware of a state is what the state holds.
use Rattle.std.proofs.Common.{◌≡◌, ℕ, ◌+◌, Bool, List, [], ◌∷◌, map, Option, refl, sym, ap, ap₂, ◌∙◌}
use Rattle.std.specs.Prelude.{zip}
use Rattle.fixed_num.specs.declared.value.BodyState.{BodyState}
use Rattle.cm_document.specs.Places.{Interface, interfaces_of}
use Rattle.cm_document.specs.declared.life.Life.{Life}
use Rattle.cm_model.specs.State.{State, owner, available, interface_line, interface_lines_from}
use Rattle.cm_model.specs.State.{interface_lines, component_lines_from, component_lines}
use Rattle.cm_model.specs.Values.{InterfaceValue}
use Rattle.loan_board.specs.declared.board.Loan.{Loan}
use Rattle.cm_hardware.specs.Holding.{IsHardwareOf}
use Rattle.cm_hardware.specs.Shown.{Shows}
use Rattle.cm_hardware.specs.declared.lists.Lists.{Lists}
use Rattle.cm_hardware.specs.Listed.{held, with_hardware, loan_lines_from}
use Rattle.cm_hardware.specs.Wiring.{Mounted, Wired, loan_of}

-- ---- The state

-- what is held of interfaces is told by their loans
held_values : (own : Interface → Option ℕ) (there : Interface → Bool) (vs : List InterfaceValue)
    → map held (zip (map (λ (v : InterfaceValue). v.interface) vs) (map (loan_of own there) vs)) ≡ vs
held_values own there [] = refl
held_values own there (v ∷ vs) = ap (λ ws. v ∷ ws) (held_values own there vs)

-- a state whose lifecycle states, bodies and values are these
with_parts : (s : State) (lives : List Life) (bodies : List BodyState) (values : List InterfaceValue) → s.lives ≡ lives
    → s.bodies ≡ bodies → s.values ≡ values
    → s ≡ record s { lives = lives; bodies = bodies; values = values }
with_parts s lives bodies values same_lives same_bodies same_values =
    ap (λ (l : List Life). record s { lives = l }) same_lives
    ∙ ap (λ (b : List BodyState). record s { lives = lives; bodies = b }) same_bodies
    ∙ ap (λ (v : List InterfaceValue). record s { lives = lives; bodies = bodies; values = v }) same_values

-- A state is what its hardware tells, and all else of it.
pub state_is : (s : State) (w : Wired) → IsHardwareOf s w → s ≡ with_hardware s w
state_is s w is =
    let told : map held (zip (interfaces_of s.description) w.loans) ≡ s.values =
    ap₂ (λ (is' : List Interface) (loans : List Loan). map held (zip is' loans)) (sym is.wired.interfaces) is.loans
    ∙ held_values (owner s) (available s) s.values in
    with_parts s _ _ _ is.wired.lives is.wired.bodies (sym told)

-- ---- The lists

-- the lines of a state's interfaces are those of the board
lines_from : (s : State) (place : ℕ) (vs : List InterfaceValue)
    → loan_lines_from place (map (loan_of (owner s) (available s)) vs) ≡ interface_lines_from s place vs
lines_from s place [] = refl
lines_from s place (v ∷ vs) = ap (λ lines. interface_line s place v ∷ lines) (lines_from s (place + 1) vs)

pub interfaces_agree : (s : State) (w : Wired) → IsHardwareOf s w → loan_lines_from 0 w.loans ≡ interface_lines s
interfaces_agree s w is = ap (loan_lines_from 0) is.loans ∙ lines_from s 0 s.values

-- so are those of lists that show it
pub shown_interfaces : (s : State) (w : Wired) (l : Lists) → Shows w l → IsHardwareOf s w
    → loan_lines_from 0 l.loans.items ≡ interface_lines s
shown_interfaces s w l shows is = ap (loan_lines_from 0) shows.loans ∙ interfaces_agree s w is

pub components_agree : (s : State) (w : Wired) → IsHardwareOf s w
    → component_lines_from 0 (map (λ (m : Mounted). m.hardware.life) w.components) ≡ component_lines s
components_agree s w is = ap (component_lines_from 0) (sym is.wired.lives)

pub ruleset lists_agree = (interfaces_agree, components_agree)
