-- What happened in one cycle, as contracts see it.
use Rattle.std.specs.Prelude.{ℕ, List}
use Rattle.fixed_num.specs.declared.value.BodyState.{BodyState}
use Rattle.cm_storage.specs.Ran.{Ran}
use Rattle.cm_storage.specs.declared.record.FailedPart.{FailedPart}

-- The cycle's number; the components that failed, reads before writes; the controllers that were updated, in order; the
-- bodies of the joints after it; and the serials of the controllers that were stopped.
pub record Happened : Type 0 where
  pub cycle : ℕ
  pub failed : List FailedPart
  pub ran : List Ran
  pub bodies : List BodyState
  pub stops : List ℕ
