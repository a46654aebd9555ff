use Rattle.std.proofs.Common.{◌≡◌, ◌++◌, drop, map}
use Rattle.cm_places.specs.declared.listed.ListedInterface.{ListedInterface}
use Rattle.cm_places.proofs.rows.exporters.Given as goal

-- the exporters so far, and those of the interfaces that are left, are all
abbrev pub invariant-loop-each : goal.invariant-loop-each
invariant-loop-each l =
    l.exporters ++ map (λ (each : ListedInterface). each.exporter) (drop l.each-index l.listed)
    ≡ map (λ (each : ListedInterface). each.exporter) l.listed
