use Rattle.std.proofs.Common.{◌≡◌, ◌++◌, pos, drop, map}
use Rattle.toml.specs.Data.{integer}
use Rattle.toml.specs.View.{view}
use Rattle.cm_document.specs.Given.{AreWholes}
use Rattle.desc_text.proofs.print.rows.numbers.Given as goal

-- the numbers so far, and those of the cycles that are left, are those of all, and those that are left are wholes
abbrev pub invariant-loop-cycle : goal.invariant-loop-cycle
invariant-loop-cycle l = record {
  all : map view l.list.items ++ map (λ n. integer (pos n)) (drop l.cycle-index l.cycles)
      ≡ map (λ n. integer (pos n)) l.cycles;
  left : AreWholes (drop l.cycle-index l.cycles);
}
