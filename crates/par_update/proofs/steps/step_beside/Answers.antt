use Rattle.std.proofs.Common.{sym, ap, ◌∙◌}
use Rattle.rt_flight.specs.Cells.{cell_run, post_of}
use Rattle.par_update.proofs.MappedLemmas.{all_mapped, told_alike}
use Rattle.par_update.proofs.steps.step_beside.Goals as goal

-- what each place holds a call left there
pub returns : goal.returns
returns g c =
    let before = c.args.cells.now in
    let after = c.for_each_mut.new.s in
    record {
      cells = all_mapped cell_run before after c.for_each_mut.auto.s
          (λ i d within. let it = (c.for_each_mut.ensures i d within).1 in
          sym it.left ∙ it.call.cell ∙ ap cell_run it.argument_is);
      posts = told_alike post_of before after c.for_each_mut.auto.s
          (λ i d within. let it = (c.for_each_mut.ensures i d within).1 in
          ap post_of (sym it.left) ∙ it.call.post ∙ ap post_of it.argument_is);
    }
