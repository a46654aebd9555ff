use Rattle.std.proofs.Common.{◌≡◌, map, take}
use Rattle.desk_turns.specs.Jobs.{AreAtFirst}
use Rattle.desk_turns.proofs.sessions.waiting.Given as goal

-- the sessions so far
abbrev pub invariant-loop-text : goal.invariant-loop-text
invariant-loop-text l = record {
  first : AreAtFirst 0 l.sessions.items;
  lines : map (λ x. x.lines) l.sessions.items ≡ map (λ s. s.lines) (take l.text-index l.texts);
}
