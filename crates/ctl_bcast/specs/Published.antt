-- What a broadcaster keeps, seen as the data of a controller.
use Rattle.std.specs.Prelude.{if◌then◌else◌, length, Option, Some, None}
use Rattle.cm_document.specs.declared.description.CtlKind.TheVariants as kind
use Rattle.cm_document.specs.declared.description.Params.TheVariants as params
use Rattle.cm_model.specs.State.{fresh}
use Rattle.cm_model.specs.declared.data.CtlData.{CtlData}
use Rattle.cm_model.specs.declared.data.RunData.{RunData}
use Rattle.cm_model.specs.declared.data.RunData.TheVariants as run
use Rattle.ctl_bcast.specs.declared.broadcaster.Kept.{Kept}

-- its running part, while it runs: the numbers that were published last
abbrev pub running_of : Kept → Option RunData
running_of kept = if kept.runs then Some (run.Broadcaster kept.last.items) else None

-- its data
abbrev pub broadcaster_data : Option Kept → CtlData
broadcaster_data None = fresh kind.Broadcaster
broadcaster_data (Some kept) = record {
  kind = kind.Broadcaster;
  params = Some (params.Broadcaster (length kept.last.items));
  run = running_of kept;
}
