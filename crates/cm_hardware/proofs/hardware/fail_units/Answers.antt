use Rattle.std.proofs.Common.{sym, ◌∙◌}
use Rattle.cm_hardware.proofs.SoundLemmas.{none_failed-board}
use Rattle.cm_hardware.proofs.hardware.fail_units.Goals as goal

-- where none failed, no place changes
pub returns-else-any_failed-clause-board : goal.returns-else-any_failed-clause-board
returns-else-any_failed-clause-board c =
    sym (none_failed-board c.args.units.now 0 c.args.places.now c.args.board.now
    (sym c.any_failed.ensures ∙ c.if-any_failed.false))
