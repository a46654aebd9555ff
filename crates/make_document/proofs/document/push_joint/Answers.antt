use Rattle.make_document.proofs.TextLemmas.{joint_text}
use Rattle.make_document.proofs.document.push_joint.Goals as goal

pub returns : goal.returns
returns c = joint_text _ _ _ _ c.args.i c.in_ok-push_str.ensures.bytes c.in_ok-push_joint_name.ensures
    c.in_ok-push_str-2.ensures.bytes
