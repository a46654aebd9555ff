use Rattle.std.proofs.Common.{◌≡◌, ◌<◌, [], length, arith}
use Rattle.std.proofs.lemmas.Result.{on_ok_weaker}
use Rattle.outside_io.specs.declared.gathered.TheConstants.{MOST_GATHERED}
use Rattle.outside_io.proofs.std_edge.StdSink.make_room.Goals as goal

-- where nothing waits there is room
pub returns-then-is_full-clause-room : goal.returns-then-is_full-clause-room
returns-then-is_full-clause-room g c =
    let room : c.send.new.self.gathered ≡ []
    → length c.send.new.self.gathered < MOST_GATHERED = λ none. rw none (omega arith) in
    on_ok_weaker c.send.result room c.send.ensures.sent
