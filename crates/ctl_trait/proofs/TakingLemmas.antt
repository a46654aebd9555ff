-- Mail that fits may be handed to every kind.
use Rattle.std.specs.Prelude.{Bool, true, false}
use Rattle.cm_document.specs.declared.call.Mail.{Mail}
use Rattle.cm_model.specs.Controllers.{CanBeMailed}
use Rattle.cm_model.specs.Kinds.{publishes}
use Rattle.cm_model.specs.declared.data.CtlData.{CtlData}
use Rattle.ctl_trait.specs.Taking.{CanTakeIf, CanTake}

pub can_take_if : (publishing : Bool) (ctl : CtlData) (mail : Mail) → CanBeMailed ctl mail
    → CanTakeIf publishing ctl mail
can_take_if true ctl mail fits = tt
can_take_if false ctl mail fits = fits

pub can_take : (ctl : CtlData) (mail : Mail) → CanBeMailed ctl mail → CanTake ctl mail
can_take ctl mail fits = can_take_if (publishes ctl.kind) ctl mail fits
