use Rattle.std.proofs.Common.{◌*◌}
use Rattle.make_document.specs.declared.TheConstants.{CYCLES_A_ROUND}
use Rattle.make_document.proofs.TextLemmas.{running_text}
use Rattle.make_document.proofs.document.push_robot.Goals as goal

pub returns : goal.returns
returns c = running_text c.push_robot_lines.result _ _ _ _ (CYCLES_A_ROUND * c.args.rounds)
    c.in_ok-push_str.ensures.bytes c.in_ok-push_cycles.ensures c.push_robot_lines.ensures
