use Rattle.std.proofs.Common.{◌≡◌, ◌++◌, drop, map}
use Rattle.cm_document.specs.declared.life.Life.TheVariants.{Active}
use Rattle.spawn_plan.proofs.never.all_active.Given as goal

-- as many so far, and as many as the rest
abbrev pub invariant-each : goal.invariant-each
invariant-each l =
    l.lives.items ++ map (λ component. Active) (drop l._component-index l.components)
    ≡ map (λ component. Active) l.components
