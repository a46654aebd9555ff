-- What mail a controller may be handed.
use Rattle.std.specs.Prelude.{Bool, true, false}
use Rattle.cm_document.specs.declared.call.Mail.{Mail}
use Rattle.cm_model.specs.Kinds.{publishes}
use Rattle.cm_model.specs.Controllers.{CanBeMailed}
use Rattle.cm_model.specs.declared.data.CtlData.{CtlData}

-- it may be handed the mail, where it publishes or where it does not
abbrev pub CanTakeIf : Bool → CtlData → Mail → Type 0
CanTakeIf true ctl mail = Unit {0}
CanTakeIf false ctl mail = CanBeMailed ctl mail

-- It may be handed mail that fits, where it runs unchained. A controller that publishes has nothing to go for, and may
-- be handed any.
abbrev pub CanTake : CtlData → Mail → Type 0
CanTake ctl mail = CanTakeIf (publishes ctl.kind) ctl mail
