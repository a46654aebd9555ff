use Rattle.std.proofs.Common.{◌≡◌, length, take}
use Rattle.std.specs.Prelude.{sum_by}
use Rattle.cm_document.specs.Links.{references_of}
use Rattle.desc_check.specs.Counts.{counted}
use Rattle.desc_check.proofs.counts.count_links.Given as goal

-- what the controllers so far have
abbrev pub invariant-loop-controller : goal.invariant-loop-controller
invariant-loop-controller l = record {
  references : l.references ≡ counted (length (references_of (take l.controller-index l.controllers)));
  claims : l.claims ≡ counted (sum_by (λ c. length c.claims) (take l.controller-index l.controllers));
  reads : l.reads ≡ counted (sum_by (λ c. length c.reads) (take l.controller-index l.controllers));
}
