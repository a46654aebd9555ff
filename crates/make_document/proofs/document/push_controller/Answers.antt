use Rattle.make_document.proofs.TextLemmas.{controller_text}
use Rattle.make_document.proofs.document.push_controller.Goals as goal

pub returns : goal.returns
returns c = controller_text _ _ _ _ _ _ c.args.i c.in_ok-push_str.ensures.bytes c.in_ok-push_controller_name.ensures
    c.in_ok-push_str-2.ensures.bytes c.in_ok-push_joint_name.ensures c.in_ok-push_str-3.ensures.bytes
