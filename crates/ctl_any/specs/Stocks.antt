-- Blanks of several kinds.
use Rattle.std.specs.Prelude.{◌+◌, List, if◌then◌else◌, sum_by}
use Rattle.cm_document.specs.Params.{same_controller_kind}
use Rattle.cm_document.specs.declared.description.CtlKind.{CtlKind}
use Rattle.cm_model.specs.Blanks.{blanks_of, counted_by}
use Rattle.cm_model.specs.declared.blanks.Blanks.{Blanks}

-- these blanks, and of each kind as many more as are counted of it, once for each time that it is listed
abbrev pub with_some_of : Blanks → Blanks → List CtlKind → Blanks
with_some_of counts b kinds =
    counted_by (λ kind. blanks_of b kind
    + sum_by (λ other. if same_controller_kind kind other then blanks_of counts other else 0) kinds)
