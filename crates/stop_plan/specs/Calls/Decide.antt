-- What `decide` promises.
use Rattle.std.specs.Prelude.{◌≡◌, ℕ, List, ◌++◌}
use Rattle.cm_document.specs.Valid.{IsValid}
use Rattle.cm_model.specs.Cycle.{stops}
use Rattle.cm_model.specs.State.{State}
use Rattle.cm_model.specs.Steady.{IsSteady}
use Rattle.stop_plan.specs.Ending.{IsReportOf, IsEndingOf, HasFlags, told_in}
use Rattle.stop_plan.specs.Reports.{count_in}
use Rattle.stop_plan.specs.declared.ending.Ending.{Ending}
use Rattle.stop_plan.specs.declared.report.Report.{Report}

-- The end of the cycle of a report: a flag for each described controller stays in each set; told are those that stop at
-- the end of the cycle; and the sets are those of the commit that follows.
pub record Decides (r : Report) (after : Ending) (serials serials' : List ℕ) : Type 0 where
  pub flags : HasFlags (count_in r) after
  pub stops : (s : State) → IsValid s.description → IsReportOf s r → serials' ≡ serials ++ stops s (told_in s)
  pub sets : (s : State) → IsValid s.description → IsSteady s → IsReportOf s r → IsEndingOf s after
