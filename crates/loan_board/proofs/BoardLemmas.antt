-- Every place of a board is sound, and stays so where one is changed.
use Rattle.std.proofs.Common.{◌≡◌, ℕ, zero, suc, ◌<◌, ◌^◌, Bool, false, List, [], ◌∷◌, None, map, length, get_or}
use Rattle.std.proofs.lemmas.List.{length-set, length-map}
use Rattle.cm_document.specs.Places.{Interface}
use Rattle.std.specs.List.{AllByRecursion}
use Rattle.sequence.proofs.ListLemmas.{all_set}
use Rattle.fixed_num.specs.declared.value.Value.{Value}
use Rattle.loan_board.specs.Loans.{IsSound, IsBoard, CanBeClaimed, idle, idle_of, loan_at, with_loan, set, claimed}
use Rattle.loan_board.specs.declared.board.Loan.{Loan}

-- ---- Lists

-- what holds of each item and of the default holds of what stands at any place
all_at : {A : Type 0} (P : A → Type 0) (xs : List A) (i : ℕ) (d : A) → AllByRecursion P xs → P d → P (get_or xs i d)
all_at P [] i d all default = default
all_at P (x ∷ xs) zero d all default = all.0
all_at P (x ∷ xs) (suc i) d all default = all_at P xs i d all.1 default

-- ---- Loans

-- nobody has an idle one
pub idle-IsSound : (is_command : Bool) → IsSound (idle is_command)
idle-IsSound is_command = record { command = λ e. cc; available = λ e. cc }

-- so each place is sound, those past the end too
pub sound_at : (loans : List Loan) (place : ℕ) → IsBoard loans → IsSound (loan_at loans place)
sound_at loans place board = all_at IsSound loans place (idle false) board.sound (idle-IsSound false)

-- a board with one place changed that is sound then
pub with_loan-IsBoard : (loans : List Loan) (place : ℕ) (change : Loan → Loan) → IsBoard loans
    → IsSound (change (loan_at loans place)) → IsBoard (with_loan loans place change)
with_loan-IsBoard loans place change board one = record {
  sound = all_set IsSound loans place (change (loan_at loans place)) board.sound one;
  few = rw (length-set loans place (change (loan_at loans place))) board.few;
}

-- one that holds another value
pub set-IsSound : (value : Value) (loan : Loan) → IsSound loan → IsSound (set value loan)
set-IsSound value loan sound = record { command = sound.command; available = sound.available }

-- one that could be claimed and is
pub claimed-IsSound : (serial : ℕ) (loan : Loan) → CanBeClaimed loan → IsSound (claimed serial loan)
claimed-IsSound serial loan can = record { command = λ e. can.command; available = λ e. can.available }

-- one that nobody has
pub free-IsSound : (loan : Loan) → loan.owner ≡ None → IsSound loan
free-IsSound loan free =
    record { command = λ e. let bad = rw free at e in cc; available = λ e. let bad = rw free at e in cc }

-- every place of these is idle
pub idle-IsBoard : (interfaces : List Interface) → length interfaces < 2 ^ 32 → IsBoard (map idle_of interfaces)
idle-IsBoard interfaces few = record { sound = all_idle interfaces; few = rw (length-map interfaces idle_of) few }
  where
    all_idle : (is : List Interface) → AllByRecursion IsSound (map idle_of is)
    all_idle [] = tt
    all_idle (i ∷ is) = (idle-IsSound i.called.is_command, all_idle is)

pub ruleset changes = (sound_at, with_loan-IsBoard, set-IsSound, claimed-IsSound, free-IsSound)
