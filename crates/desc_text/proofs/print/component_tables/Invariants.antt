use Rattle.std.proofs.Common.{◌≡◌, ◌++◌, drop, map}
use Rattle.std.specs.List.{AllByRecursion}
use Rattle.toml.specs.Data.{table}
use Rattle.toml.specs.View.{view}
use Rattle.desc_text.specs.Printed.{component_tree}
use Rattle.desc_text.specs.Readable.{ComponentIsReadable}
use Rattle.desc_text.proofs.print.component_tables.Given as goal

-- the tables so far, and those of the components that are left, are those of all, and those that are left can be read
-- back
abbrev pub invariant-loop-component : goal.invariant-loop-component
invariant-loop-component l = record {
  all : map view l.list.items ++ map (λ c. table (component_tree c)) (drop l.component-index l.components)
      ≡ map (λ c. table (component_tree c)) l.components;
  left : AllByRecursion ComponentIsReadable (drop l.component-index l.components);
}
