use Rattle.std.proofs.Common.{◌≡◌, drop, map}
use Rattle.cm_document.specs.Valid.{fallbacks_exist}
use Rattle.desc_check.proofs.fallbacks.fallbacks_exist.Given as goal

-- the controllers that are left have the first fault of all
abbrev pub invariant-loop-controller : goal.invariant-loop-controller
invariant-loop-controller l =
    fallbacks_exist (map (λ c. c.name) l.controllers) (drop l.controller-index l.controllers)
    ≡ fallbacks_exist (map (λ c. c.name) l.controllers) l.controllers
