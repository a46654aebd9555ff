use Rattle.make_document.proofs.TextLemmas.{robot_lines_text}
use Rattle.make_document.proofs.document.push_robot_lines.Goals as goal

pub returns : goal.returns
returns c = robot_lines_text c.push_controllers.result _ _ _ _ c.in_ok-push_str.ensures.bytes
    c.in_ok-push_joints.ensures c.push_controllers.ensures
