-- Stocks of which no more is counted than a run can load.
use Rattle.std.specs.Prelude.{ℕ, List, if◌then◌else◌, min}
use Rattle.std.specs.List.{list_any}
use Rattle.cm_document.specs.Params.{same_controller_kind}
use Rattle.cm_document.specs.declared.description.CtlKind.{CtlKind}
use Rattle.cm_model.specs.Blanks.{blanks_of, counted_by}
use Rattle.cm_model.specs.declared.blanks.Blanks.{Blanks}

-- the same counts, but at most so many of each kind
abbrev pub at_most : ℕ → Blanks → Blanks
at_most most blanks = counted_by (λ kind. min most (blanks_of blanks kind))

-- the same of the kinds that are listed, and none of the others
abbrev pub at_most_of : ℕ → Blanks → List CtlKind → Blanks
at_most_of most blanks kinds =
    counted_by (λ kind. if list_any (same_controller_kind kind) kinds then min most (blanks_of blanks kind) else 0)
