use Rattle.std.proofs.Common.{sym, ◌∙◌, rules, tests}
use Rattle.std.proofs.lemmas.Iterator.{YieldsList-from_slice}
use Rattle.std.proofs.lemmas.Iterator.Search.{any_from_yields_List}
use Rattle.iface_names.specs.Interfaces.{same_interface}
use Rattle.iface_names.specs.declared.interface.IfaceName.TheVariants.{Joint}
use Rattle.sequence.proofs.ListLemmas.{any_map}
use Rattle.desc_check.proofs.InterfaceLemmas.{no_reference_among, no_other_joint_among}
use Rattle.desc_check.proofs.interfaces.is_interface_of.Goals as goal

pub returns-in_default : goal.returns-in_default
returns-in_default c =
    rw c.in_default.is
    (sym (no_reference_among c.in_default.field-0 c.in_default.field-1 c.args.joint.now c.in_default.field-2
    c.args.kinds.now))

pub returns : goal.returns
returns c =
    let test = same_interface (Joint c.in-Joint.named c.in-Joint.wanted) in
    rw c.in-Joint.is
    (any_from_yields_List (λ k. test (Joint c.args.joint.now k)) _ _ _ c.any.ensures.ran
    (YieldsList-from_slice c.args.kinds.now cc) (λ x b q k. search (rules, tests))
    ∙ sym (any_map test (Joint c.args.joint.now) c.args.kinds.now))

-- a joint of another name has no such interface
pub returns-then-ne : goal.returns-then-ne
returns-then-ne c =
    let other = sym c.ne.ensures ∙ c.if-ne.true in
    rw c.in-Joint.is
    (sym (no_other_joint_among c.in-Joint.named c.args.joint.now c.in-Joint.wanted c.args.kinds.now other))
