use Rattle.std.proofs.Common.{◌≡◌, ◌<◌, ◌∙◌, length, get_or, arith}
use Rattle.desk_turns.proofs.NumberLemmas.{number_at, sessions_set}
use Rattle.desk_turns.proofs.SettleLemmas.{settle_from_next}
use Rattle.desk_turns.proofs.jobs.settle_each.Goals as goal

-- a session's number is its place, so the desk has it
pub settle-requires : goal.settle-requires
settle-requires g c =
    let these = c.loop-who.invariant.these in
    let less : c.loop-who.who < length c.loop-who.sessions =
    omega (arith, c.loop-who-test.true, c.loop-who.auto.sessions) in
    omega (
      arith,
      number_at 0 c.loop-who.sessions c.loop-who.who c.index-sessions-who.result these.numbered less,
      less,
      these.many,
    )

-- this session settles, and then those after it
pub loop-who-preserved : goal.loop-who-preserved
loop-who-preserved g c =
    let these = c.loop-who.invariant.these in
    let less : c.loop-who.who < length c.loop-who.sessions =
    omega (arith, c.loop-who-test.true, c.loop-who.auto.sessions) in
    let number : (get_or c.loop-who.sessions c.loop-who.who c.index-sessions-who.result).who ≡ c.loop-who.who =
    omega (arith, number_at 0 c.loop-who.sessions c.loop-who.who c.index-sessions-who.result these.numbered less) in
    record {
      settled = settle_from_next c.loop-who.who c.loop-who.sessions c.loop-who.who c.index-sessions-who.result
          c.settle.new.session c.loop-who.desk c.settle.new.desk
          less (rw number at c.in_ok-settle.ensures.settled) ∙ c.loop-who.invariant.settled;
      opening = c.settle.ensures.desk.opening ∙ c.loop-who.invariant.opening;
      aloft = record {
        begun = c.settle.ensures.desk.aloft.begun ∙ c.loop-who.invariant.aloft.begun;
        aloft = c.settle.ensures.desk.aloft.aloft ∙ c.loop-who.invariant.aloft.aloft;
      };
      these = sessions_set c.loop-who.desk c.settle.new.desk c.loop-who.sessions c.loop-who.who
          c.index-sessions-who.result c.settle.new.session
          c.settle.ensures.desk.opening c.settle.ensures.number these;
    }

-- one that wants memory has its number too
pub returns-in_err-settle-clause-numbered : goal.returns-in_err-settle-clause-numbered
returns-in_err-settle-clause-numbered g c =
    sessions_set c.loop-who.desk c.settle.new.desk c.loop-who.sessions c.loop-who.who c.index-sessions-who.result
    c.settle.new.session
    c.settle.ensures.desk.opening c.settle.ensures.number c.loop-who.invariant.these
