-- What a cycle tells of a controller that it updated, and a list of these while it is filled.
use Rattle.std.specs.Prelude.{◌≡◌, ℕ, ℤ, ◌-◌, ◌<◌, ◌≤◌, ◌^◌, List, length}
use Rattle.fixed_num.specs.declared.value.Value.{Value}
use Rattle.cm_storage.specs.declared.ran.Done.{Done}

-- One updated controller: its serial, how the update went, what it gave out and what it published.
pub record Ran : Type 0 where
  pub serial : ℕ
  pub done : Done
  pub outs : List Value
  pub published : List ℤ

-- the controllers so far, and for how many more controllers, values and numbers there is room
pub record Filling : Type 0 where
  pub rans : List Ran
  pub heads : ℕ
  pub values : ℕ
  pub numbers : ℕ

-- there is room for one more, which gives out and publishes fewer than 256 each
pub record Fits (room : Filling) (outs : List Value) (published : List ℤ) : Type 0 where
  pub heads : 0 < room.heads
  pub values : length outs ≤ room.values
  pub numbers : length published ≤ room.numbers
  pub few_values : length outs < 2 ^ 8
  pub few_numbers : length published < 2 ^ 8

-- there is room for one controller less, and for as many values and numbers less as it gave out and published
pub record TakesRoom (old new : Filling) (outs : List Value) (published : List ℤ) : Type 0 where
  pub heads : new.heads ≡ old.heads - 1
  pub values : new.values ≡ old.values - length outs
  pub numbers : new.numbers ≡ old.numbers - length published
