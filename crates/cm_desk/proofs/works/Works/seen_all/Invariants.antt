use Rattle.std.proofs.Common.{◌≡◌, map, take}
use Rattle.cm_model.specs.Commit.{seen}
use Rattle.cm_desk.proofs.works.Works.seen_all.Given as goal

-- those that were seen so far
abbrev pub invariant-loop-index : goal.invariant-loop-index
invariant-loop-index g l = l.list.items ≡ map (seen l.self) (take l.index l.self.loaded)
