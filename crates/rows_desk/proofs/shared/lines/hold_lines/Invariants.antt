use Rattle.std.specs.List.{All}
use Rattle.shared_desk.specs.Passes.{IsSessionPass}
use Rattle.rows_desk.specs.Shared.{IsLoopOf}
use Rattle.rows_desk.proofs.shared.lines.hold_lines.Given as goal

-- the passes are those of the sessions, and of the loop, which stands as is said
abbrev pub invariant-loop-line : goal.invariant-loop-line
invariant-loop-line g l = record {
  looping : IsLoopOf l.desk.lock l.desk.at_first.value l.looping.pass.pass l.looping.stand
      l.looping.flight;
  passes : All (IsSessionPass l.desk.lock l.desk.at_first.value) l.passes.items;
}
