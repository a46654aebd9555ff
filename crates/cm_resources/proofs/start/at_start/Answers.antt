use Rattle.std.proofs.Common.{ap, length, ◌∙◌}
use Rattle.cm_document.specs.declared.description.Description.{Description}
use Rattle.cm_resources.proofs.start.at_start.Goals as goal

pub returns-clause-active_set : goal.returns-clause-active_set
returns-clause-active_set c = record {
  counted = c.in_ok-active_set.ensures.counted ∙ ap length c.as_slice-count.ensures
      ∙ ap (λ (d : Description). length d.controllers) c.description.ensures.same;
  nobody = c.in_ok-active_set.ensures.nobody;
  order = c.in_ok-active_set.ensures.order.0;
  run = c.in_ok-active_set.ensures.order.1;
}
