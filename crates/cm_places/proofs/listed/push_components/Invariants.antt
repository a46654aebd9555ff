use Rattle.std.proofs.Common.{◌≡◌, ◌++◌, drop}
use Rattle.cm_places.specs.Listing.{listed_joints}
use Rattle.cm_places.proofs.listed.push_components.Given as goal

-- those so far, and those of what is left, are all
abbrev pub invariant-loop-component : goal.invariant-loop-component
invariant-loop-component l =
    l.listed.items ++ listed_joints l.is_command (drop l.component-index l.components)
    ≡ l.fn.listed.items ++ listed_joints l.is_command l.components
