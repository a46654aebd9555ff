-- Interfaces that nobody claims stay so at start, when they become available.
use Rattle.std.proofs.Common.{◌≡◌, ℕ, zero, suc, false, List, [], ◌∷◌, None, refl}
use Rattle.loan_board.specs.Loans.{loan_at, with_loan, made_available}
use Rattle.loan_board.specs.declared.board.Loan.{Loan}
use Rattle.cm_hardware.specs.Wiring.{AreFree}

pub free_at : (loans : List Loan) (place : ℕ) → AreFree loans → (loan_at loans place).owner ≡ None
free_at [] place free = refl
free_at (l ∷ loans) zero free = free.0
free_at (l ∷ loans) (suc place) free = free_at loans place free.1

pub free_with : (loans : List Loan) (place : ℕ) → AreFree loans → AreFree (with_loan loans place (made_available false))
free_with [] place free = tt
free_with (l ∷ loans) zero free = free
free_with (l ∷ loans) (suc place) free = (free.0, free_with loans place free.1)

pub ruleset staying_free = (free_at, free_with)
