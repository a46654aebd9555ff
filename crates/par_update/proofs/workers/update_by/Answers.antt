use Rattle.rt_flight.proofs.PartsLemmas.{had_turns, may_scatter, some_and, steps_there, waits}
use Rattle.par_update.proofs.workers.update_by.Goals as goal

pub cells-requires : goal.cells-requires
cells-requires g c =
    let known = some_and c.args.flight.now.progress _ c.requires.1 in
    waits c.args.depth known.0 c.args.flight.now c.gather.new.self c.requires (c.gather.ensures known.0 known.1.0)
    known.1.0

pub step_among-requires : goal.step_among-requires
step_among-requires g c =
    let known = some_and c.args.flight.now.progress _ c.requires.1 in (
      c.type_bounds.send-C,
      (
        c.type_bounds.sync-R,
        steps_there c.args.depth known.0 c.args.flight.now c.gather.new.self c.requires
            (c.gather.ensures known.0 known.1.0) c.cells.result.now c.cells.ensures.value c.cells.ensures.steps,
      ),
    )

pub scatter-requires-clause-waits : goal.scatter-requires-clause-waits
scatter-requires-clause-waits g c =
    let known = some_and c.args.flight.now.progress _ c.requires.1 in
    waits c.args.depth known.0 c.args.flight.now c.gather.new.self c.requires (c.gather.ensures known.0 known.1.0)
    known.1.0

pub scatter-requires-clause-stepped : goal.scatter-requires-clause-stepped
scatter-requires-clause-stepped g c =
    let known = some_and c.args.flight.now.progress _ c.requires.1 in
    may_scatter c.args.depth known.0 c.args.flight.now c.gather.new.self c.requires (c.gather.ensures known.0 known.1.0)
    c.cells.result.now c.step_among.new.cells c.cells.ensures.value
    c.step_among.ensures

pub returns : goal.returns
returns g c = λ p is.
    had_turns c.args.depth p c.args.flight.now c.gather.new.self c.requires (c.gather.ensures p is) c.cells.result.now
    c.step_among.new.cells c.cells.ensures.value c.step_among.ensures
    c.scatter.new.self c.scatter.ensures
