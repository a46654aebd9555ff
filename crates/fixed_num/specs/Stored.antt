-- A value as one number: a mark that is no number of micro-units stands for a value that nobody has set.
use Rattle.std.specs.Prelude.{◌≡◌, ℤ, pos, negsuc, ◌≤ℤ◌, Bool, true, false, cond, if◌then◌else◌, ◌⊎◌, refl}
use Rattle.std.specs.Ordering.{int_eq}
use Rattle.std.specs.Cmp.{signed_Decides}
use Rattle.std.proofs.Common.{inl, inr, arith}
use Rattle.std.proofs.lemmas.Int.{ints, clamps}
use Rattle.fixed_num.specs.Micro.{smallest, largest, IsInRange, clamped}
use Rattle.fixed_num.specs.declared.value.Value.{Value}
use Rattle.fixed_num.specs.declared.value.Value.TheVariants.{Unset, Num}

-- the smallest number of 64 bits
abbrev pub unset_mark : ℤ
unset_mark = negsuc 9223372036854775807

-- the mark stands for Unset, any other number for itself
unfoldable pub held : ℤ → Value
held n = if int_eq n unset_mark then Unset else Num n

-- the number that stands for a value
abbrev pub stored_as : Value → ℤ
stored_as Unset = unset_mark
stored_as (Num n) = n

-- a number that stands for a value: the mark, or one in the range
abbrev pub IsStored : ℤ → Type 0
IsStored n = (n ≡ unset_mark) ⊎ IsInRange n

-- the mark is not in the range
mark_is_outside : (n : ℤ) → IsInRange n → n ≡ unset_mark → ⊥
mark_is_outside n range mark = omega (arith, ints, range.0, range.1, mark)

pub held-mark : held unset_mark ≡ Unset
unfolding held
held-mark = refl

held_other : (n : ℤ) (b : Bool) → int_eq n unset_mark ≡ b → IsInRange n → held n ≡ Num n
unfolding held
held_other n true same range = absurd (mark_is_outside n range ((signed_Decides n unset_mark).0 same))
held_other n false other range = rw other refl

pub held-number : (n : ℤ) → IsInRange n → held n ≡ Num n
held-number n range = held_other n (int_eq n unset_mark) refl range

-- a number in the range is the nearest one to itself
pub clamped-number : (n : ℤ) → IsInRange n → clamped n ≡ n
unfolding clamped
clamped-number n range = omega (arith, ints, clamps, range.0, range.1)

-- a number that is not the mark is in the range
pub stored-number : (n : ℤ) → IsStored n → (n ≡ unset_mark → ⊥) → IsInRange n
stored-number n (inl mark) other = absurd (other mark)
stored-number n (inr range) other = range

pub stored_as-held : (n : ℤ) → IsStored n → stored_as (held n) ≡ n
stored_as-held n (inl mark) = rw (mark, held-mark) refl
stored_as-held n (inr range) = rw (held-number n range) refl

pub ruleset storing = (held-mark, held-number, clamped-number, stored-number)
