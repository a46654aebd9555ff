use Rattle.std.proofs.Common.{◌≡◌, length}
use Rattle.std.specs.List.{All}
use Rattle.cm_model.specs.Controllers.{IsBlank}
use Rattle.cm_bench.proofs.working.blanks.Given as goal

-- those so far are blank
abbrev pub invariant-loop-made : goal.invariant-loop-made
invariant-loop-made l = record {
  blank : All IsBlank l.blanks.items;
  count : length l.blanks.items ≡ l._made;
}
