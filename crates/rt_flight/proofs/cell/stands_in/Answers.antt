use Rattle.std.proofs.Common.{sym, ◌∙◌}
use Rattle.rt_flight.proofs.FlagLemmas.{flag_tells}
use Rattle.rt_flight.proofs.cell.stands_in.Goals as goal

-- by its flag
pub returns-in-Some : goal.returns-in-Some
returns-in-Some g c =
    flag_tells c.args.layer.now.flags c.args.cells.now c.args.place c.in-Some.stands c.requires
    (sym c.flag.ensures ∙ c.in-Some.is)
