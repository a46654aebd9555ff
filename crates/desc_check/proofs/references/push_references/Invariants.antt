use Rattle.std.proofs.Common.{◌≡◌, ◌++◌, map, take}
use Rattle.cm_document.specs.Links.{reference_for}
use Rattle.desc_check.proofs.references.push_references.Given as goal

-- the references before, and those for the interfaces so far
abbrev pub invariant-loop-interface : goal.invariant-loop-interface
invariant-loop-interface l =
    l.references ≡ l.fn.references ++ map (reference_for l.controller.name) (take l.interface-index l.interfaces)
