-- The data of a mock.
use Rattle.std.specs.Prelude.{false, length, Option, Some, None}
use Rattle.cm_document.specs.declared.description.CtlKind.TheVariants as kind
use Rattle.cm_document.specs.declared.description.Params.TheVariants as params
use Rattle.cm_model.specs.State.{fresh}
use Rattle.cm_model.specs.declared.data.CtlData.{CtlData}
use Rattle.ctl_trait.specs.Parts.{running_of}
use Rattle.ctl_mock.specs.declared.mock.Kept.{Kept}

-- A mock that was configured did not refuse.
abbrev pub mock_data : Option Kept → CtlData
mock_data None = fresh kind.Mock
mock_data (Some kept) = record {
  kind = kind.Mock;
  params = Some (params.Mock (length kept.part.set) false kept.not_ready kept.fail_update);
  run = running_of kept.part;
}
