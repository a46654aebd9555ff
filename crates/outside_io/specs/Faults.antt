-- How often the outside failed, and what an answer says of that count.
use Rattle.std.specs.Prelude.{◌≡◌, ◌≢◌, ℕ, ◌+◌, ◌-◌, ◌^◌, ◌≤◌, min, Result, OnOk, OnErr}

-- A count goes up by one, and stands still at its type's end.
abbrev pub one_more : ℕ → ℕ
one_more count = min (count + 1) (2 ^ 64 - 1)

-- The count rose, or stands at its type's end.
abbrev pub Rose : ℕ → ℕ → Type 0
Rose before now = one_more before ≤ now

-- A call's count never falls. A call that failed has counted one fault, and one that went well has counted none.
pub record HasCause {T E : Type 0} (before now : ℕ) (result : Result T E) : Type 0 where
  pub later : before ≤ now
  pub counted : OnErr result (now ≡ one_more before)
  pub uncounted : OnOk result (now ≡ before)

-- How a call of many reads or writes ended, where one end of it stands for their failure: it came to that end exactly
-- where one of them failed, which is then counted once. The count never falls.
pub record IsToldAs {A : Type 0} (fault ended : A) (before now : ℕ) : Type 0 where
  pub later : before ≤ now
  pub counted : ended ≡ fault → now ≡ one_more before
  pub uncounted : ended ≢ fault → now ≡ before
