-- No step of a controller changes whether it is chained, nor its parameters.
use Rattle.std.proofs.Common.{◌≡◌, ℤ, List, refl, ap, ◌∙◌}
use Rattle.std.specs.Prelude.{Option, Some, None, option_map}
use Rattle.fixed_num.specs.declared.value.Value.{Value}
use Rattle.cm_document.specs.declared.call.Mail.{Mail}
use Rattle.cm_document.specs.declared.description.Params.{Params}
use Rattle.cm_model.specs.Controllers.{runs_chained, update_step, mailed, step_with, ctl_step}
use Rattle.cm_model.specs.declared.data.CtlData.{CtlData}
use Rattle.cm_model.specs.declared.data.RunData.{RunData}
use Rattle.cm_model.specs.declared.tick.Tick.{Tick}
use Rattle.cm_model.proofs.KindLemmas.{mail_keeps, update_gives}

-- ---- A step

step_keeps_chained : (ctl : CtlData) (params : Option Params) (part : Option RunData) (tick : Tick) (states : List ℤ)
    (refs : List Value)
    → ctl.run ≡ part
    → option_map runs_chained (step_with ctl params part tick states refs).after.run ≡ option_map runs_chained ctl.run
step_keeps_chained ctl (Some params) (Some part) tick states refs is =
    rw is (ap Some (update_gives params part tick states refs).sort.chained)
step_keeps_chained ctl None part tick states refs is = refl
step_keeps_chained ctl (Some params) None tick states refs is = refl

mailed_keeps_chained : (ctl : CtlData) (part : Option RunData) (mail : Mail) → ctl.run ≡ part
    → option_map runs_chained (mailed ctl mail).run ≡ option_map runs_chained ctl.run
mailed_keeps_chained ctl None mail is = rw is refl
mailed_keeps_chained ctl (Some part) mail is = rw is (ap Some (mail_keeps part mail).chained)

pub ctl_step_keeps_chained : (ctl : CtlData) (tick : Tick) (states : List ℤ) (refs : List Value) (mail : Option Mail)
    → option_map runs_chained (ctl_step ctl tick states refs mail).after.run ≡ option_map runs_chained ctl.run
ctl_step_keeps_chained ctl tick states refs None = step_keeps_chained ctl ctl.params ctl.run tick states refs refl
ctl_step_keeps_chained ctl tick states refs (Some mail) =
    step_keeps_chained (mailed ctl mail) (mailed ctl mail).params (mailed ctl mail).run tick states refs refl
    ∙ mailed_keeps_chained ctl ctl.run mail refl

-- ---- Parameters

-- a step keeps the parameters,
pub step_keeps_params : (ctl : CtlData) (params : Option Params) (r : Option RunData) (tick : Tick) (states : List ℤ)
    (refs : List Value)
    → (step_with ctl params r tick states refs).after.params ≡ ctl.params
step_keeps_params ctl (Some params) (Some r) tick states refs = refl
step_keeps_params ctl None r tick states refs = refl
step_keeps_params ctl (Some params) None tick states refs = refl

-- and so does an update
pub update_step_keeps_params : (ctl : CtlData) (tick : Tick) (states : List ℤ) (refs : List Value)
    → (update_step ctl tick states refs).after.params ≡ ctl.params
update_step_keeps_params ctl tick states refs = step_keeps_params ctl ctl.params ctl.run tick states refs

pub update_step_keeps_chained : (ctl : CtlData) (tick : Tick) (states : List ℤ) (refs : List Value)
    → option_map runs_chained (update_step ctl tick states refs).after.run ≡ option_map runs_chained ctl.run
update_step_keeps_chained ctl tick states refs = ctl_step_keeps_chained ctl tick states refs None

-- what an update leaves
pub ruleset updating = (update_step_keeps_params, update_step_keeps_chained)
