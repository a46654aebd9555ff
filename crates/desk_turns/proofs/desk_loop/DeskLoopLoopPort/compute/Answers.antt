use Rattle.desk_turns.proofs.desk_loop.DeskLoopLoopPort.compute.Goals as goal

-- a flight at hand that is not computed was not started
pub compute-requires : goal.compute-requires
compute-requires g c = (c.requires.0.before c.requires.1).not_yet.0
