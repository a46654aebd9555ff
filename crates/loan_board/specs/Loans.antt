-- A board: what is kept of each interface, and what its calls make of one place.
use Rattle.std.specs.Prelude.{◌≡◌, ℕ, ◌<◌, ◌^◌, Bool, true, false, if◌then◌else◌, List, length, Option, Some, None}
use Rattle.std.specs.Prelude.{is_some, slice_index_or, slice_set}
use Rattle.std.specs.List.{AllByRecursion}
use Rattle.fixed_num.specs.declared.value.Value.{Value}
use Rattle.fixed_num.specs.declared.value.Value.TheVariants.{Unset}
use Rattle.cm_document.specs.Places.{Interface}
use Rattle.loan_board.specs.declared.board.Loan.{Loan}

-- of a state interface, or of a command interface or reference, that is free, unavailable and Unset
abbrev pub idle : Bool → Loan
idle is_command = record { value = Unset; owner = None; is_command = is_command; is_available = false }

-- at first every interface is so
abbrev pub idle_of : Interface → Loan
idle_of i = idle i.called.is_command

-- what is kept of the interface at this place
abbrev pub loan_at : List Loan → ℕ → Loan
loan_at loans place = slice_index_or loans place (idle false)

-- Only a command interface or a reference that is available can have an owner.
pub record IsSound (loan : Loan) : Type 0 where
  pub command : is_some loan.owner ≡ true → loan.is_command ≡ true
  pub available : is_some loan.owner ≡ true → loan.is_available ≡ true

-- Every place is so, and each has a number of 32 bits.
pub record IsBoard (loans : List Loan) : Type 0 where
  pub sound : AllByRecursion IsSound loans
  pub few : length loans < 2 ^ 32

-- a command interface or a reference that is free and available
pub record CanBeClaimed (loan : Loan) : Type 0 where
  pub command : loan.is_command ≡ true
  pub available : loan.is_available ≡ true
  pub free : loan.owner ≡ None

-- ---- Changes

-- it holds this value
abbrev pub set : Value → Loan → Loan
set value loan = record loan { value = value }

-- the controller of this serial claims it
abbrev pub claimed : ℕ → Loan → Loan
claimed serial loan = record loan { owner = Some serial }

-- Nobody claims it any more, and it is Unset.
abbrev pub released : Loan → Loan
released loan = record loan { owner = None; value = Unset }

-- It becomes available, or else unavailable and Unset.
abbrev pub made_available : Bool → Loan → Loan
made_available is_available loan = record loan {
  is_available = is_available;
  value = if is_available then loan.value else Unset;
}

-- This controller has it, or nobody; it is available or not; and it keeps what it holds, or becomes Unset.
abbrev pub lent : Option ℕ → Bool → Bool → Loan → Loan
lent owner is_available keeps loan =
    record {
      value = if keeps then loan.value else Unset;
      owner = owner;
      is_command = loan.is_command;
      is_available = is_available;
    }

-- One place changes so, and every other place stays as it was.
abbrev pub with_loan : List Loan → ℕ → (Loan → Loan) → List Loan
with_loan loans place change = slice_set loans place (change (loan_at loans place))
