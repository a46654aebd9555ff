use Rattle.std.proofs.Common.{◌≡◌, ◌++◌, drop, map}
use Rattle.iface_names.specs.declared.interface.IfaceName.TheVariants.{Joint}
use Rattle.desc_text.proofs.states.push_joint.Given as goal

-- the states so far, and those of the kinds that are left, are those before and all of the joint
abbrev pub invariant-loop-kind : goal.invariant-loop-kind
invariant-loop-kind l =
    l.states ++ map (Joint l.joint) (drop l.kind-index l.kinds) ≡ l.fn.states ++ map (Joint l.joint) l.kinds
