use Rattle.std.specs.Prelude.{length}
use Rattle.std.specs.List.{All}
use Rattle.cm_model.specs.Controllers.{IsBlank}
use Rattle.rows_program.proofs.jobs.watching.all_watching.Given as goal

-- those that are left are blank, and so are those that watch
abbrev pub invariant-loop-blank : goal.invariant-loop-blank
invariant-loop-blank g l = record {
  left : All (λ b. IsBlank (g.C.Controller.meaning b)) l.blanks.items;
  watching : All IsBlank l.all.items;
}

abbrev pub decreases-loop-blank : goal.decreases-loop-blank
decreases-loop-blank g l = length l.blanks.items
