use Rattle.shared_desk.specs.Ports.{Watches}
use Rattle.shared_desk.proofs.shared.SharedDesk.watch_drowsily.Given as goal

-- it has only looked
abbrev pub invariant-loop : goal.invariant-loop
invariant-loop g l = Watches l.self.lock l.self.at_first.value l.fn.pass l.pass
