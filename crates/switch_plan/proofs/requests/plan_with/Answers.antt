use Rattle.std.proofs.Common.{◌∙◌, ap}
use Rattle.switch_plan.specs.Relations.{Related}
use Rattle.switch_plan.proofs.requests.plan_with.Goals as goal

pub plan_over-requires-clause-leaders : goal.plan_over-requires-clause-leaders
plan_over-requires-clause-leaders c = c.leaders.ensures ∙ ap (λ (w : Related). w.leaders) c.requires.relations
