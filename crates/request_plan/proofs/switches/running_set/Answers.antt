use Rattle.std.proofs.Common.{length, ◌∙◌}
use Rattle.cm_model.specs.Scene.{is_running}
use Rattle.request_plan.proofs.SetLemmas.{listed_within, listed_set}
use Rattle.request_plan.proofs.switches.running_set.Goals as goal

pub as_set-requires : goal.as_set-requires
as_set-requires c =
    listed_within (length c.args.checked.now.controllers) (λ l. is_running l.life) c.args.loaded.now c.deref.result.now
    (c.deref.ensures.value ∙ c.in_ok-members.ensures) c.requires

pub returns-clause-set : goal.returns-clause-set
returns-clause-set c =
    c.in_ok-set.ensures.set
    ∙ listed_set (λ l. is_running l.life) c.args.loaded.now c.deref.result.now
    (c.deref.ensures.value ∙ c.in_ok-members.ensures)
