use Rattle.std.proofs.Common.{◌≡◌, map, take}
use Rattle.cm_desk.proofs.works.Works.lives.Given as goal

-- those of the lines so far
abbrev pub invariant-loop-line : goal.invariant-loop-line
invariant-loop-line g l = l.lives.items ≡ map (λ line. line.life) (take l.line-index l.line-items)
