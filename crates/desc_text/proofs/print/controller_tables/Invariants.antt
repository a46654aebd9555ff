use Rattle.std.proofs.Common.{◌≡◌, ◌++◌, drop, map}
use Rattle.std.specs.List.{AllByRecursion}
use Rattle.toml.specs.Data.{table}
use Rattle.toml.specs.View.{view}
use Rattle.desc_text.specs.Printed.{controller_tree}
use Rattle.desc_text.specs.Readable.{ControllerIsReadable}
use Rattle.desc_text.proofs.print.controller_tables.Given as goal

-- the tables so far, and those of the controllers that are left, are those of all, and those that are left can be read
-- back
abbrev pub invariant-loop-controller : goal.invariant-loop-controller
invariant-loop-controller l = record {
  all : map view l.list.items ++ map (λ c. table (controller_tree c)) (drop l.controller-index l.controllers)
      ≡ map (λ c. table (controller_tree c)) l.controllers;
  left : AllByRecursion ControllerIsReadable (drop l.controller-index l.controllers);
}
