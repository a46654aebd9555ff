use Rattle.std.proofs.Common.{◌≡◌, take}
use Rattle.cm_document.specs.Links.{references_of}
use Rattle.desc_check.proofs.references.references.Given as goal

-- the references of the controllers so far
abbrev pub invariant-loop-controller : goal.invariant-loop-controller
invariant-loop-controller l = l.references ≡ references_of (take l.controller-index l.controllers)
