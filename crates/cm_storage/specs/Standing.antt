-- Bodies that stand, and what is kept for the records of the cycles in which they do.
use Rattle.std.specs.Prelude.{◌≡◌, Bool, List, Option, IfSome}
use Rattle.fixed_num.specs.declared.value.BodyState.{BodyState}

-- The bodies that were told last where nothing else was, and whether a list of them is ready for the next record.
pub record StandingFacts : Type 0 where
  pub told : List BodyState
  pub is_ready : Bool

-- the lists that are held are those of these bodies
pub record HoldsThem (told : List BodyState) (list next : Option (List BodyState)) : Type 0 where
  pub kept : IfSome list (λ bodies. bodies ≡ told)
  pub ready : IfSome next (λ bodies. bodies ≡ told)
