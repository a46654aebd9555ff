use Rattle.std.proofs.Common.{◌≡◌, ◌++◌, drop}
use Rattle.cm_document.specs.Described.{states_of}
use Rattle.cm_document.specs.Links.{commands_of}
use Rattle.cm_document.specs.Valid.{links_exist}
use Rattle.desc_check.proofs.interfaces.each_link_exists.Given as goal

-- the controllers that are left have the first fault of all
abbrev pub invariant-loop-controller : goal.invariant-loop-controller
invariant-loop-controller l =
    links_exist (commands_of l.components ++ l.references) (states_of l.components)
    (drop l.controller-index l.controllers)
    ≡ links_exist (commands_of l.components ++ l.references) (states_of l.components) l.controllers
