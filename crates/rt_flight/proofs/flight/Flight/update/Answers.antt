use Rattle.rt_flight.proofs.PartsLemmas.{had_turns, may_scatter, some_and, steps_there, waits}
use Rattle.rt_flight.proofs.flight.Flight.update.Goals as goal

pub cells-requires : goal.cells-requires
cells-requires g c =
    let known = some_and c.args.self.now.progress _ c.requires.1 in
    waits c.args.depth known.0 c.args.self.now c.gather.new.self c.requires (c.gather.ensures known.0 known.1.0)
    known.1.0

pub step_in_turn-requires : goal.step_in_turn-requires
step_in_turn-requires g c =
    let known = some_and c.args.self.now.progress _ c.requires.1 in
    steps_there c.args.depth known.0 c.args.self.now c.gather.new.self c.requires (c.gather.ensures known.0 known.1.0)
    c.cells.result.now c.cells.ensures.value c.cells.ensures.steps

pub scatter-requires-clause-waits : goal.scatter-requires-clause-waits
scatter-requires-clause-waits g c =
    let known = some_and c.args.self.now.progress _ c.requires.1 in
    waits c.args.depth known.0 c.args.self.now c.gather.new.self c.requires (c.gather.ensures known.0 known.1.0)
    known.1.0

pub scatter-requires-clause-stepped : goal.scatter-requires-clause-stepped
scatter-requires-clause-stepped g c =
    let known = some_and c.args.self.now.progress _ c.requires.1 in
    may_scatter c.args.depth known.0 c.args.self.now c.gather.new.self c.requires (c.gather.ensures known.0 known.1.0)
    c.cells.result.now c.step_in_turn.new.cells c.cells.ensures.value
    c.step_in_turn.ensures

pub returns : goal.returns
returns g c = λ p is.
    had_turns c.args.depth p c.args.self.now c.gather.new.self c.requires (c.gather.ensures p is) c.cells.result.now
    c.step_in_turn.new.cells c.cells.ensures.value c.step_in_turn.ensures
    c.scatter.new.self c.scatter.ensures
