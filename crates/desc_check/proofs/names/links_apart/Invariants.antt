use Rattle.std.proofs.Common.{◌≡◌, drop}
use Rattle.cm_document.specs.Valid.{links_apart}
use Rattle.desc_check.proofs.names.links_apart.Given as goal

-- the controllers that are left have the first fault of all
abbrev pub invariant-loop-controller : goal.invariant-loop-controller
invariant-loop-controller l = links_apart (drop l.controller-index l.controllers) ≡ links_apart l.controllers
