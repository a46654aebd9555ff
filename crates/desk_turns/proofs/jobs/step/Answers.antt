use Rattle.std.proofs.Common.{rules, ap, arith}
use Rattle.std.proofs.lemmas.Result.{err_from_is_err_and}
use Rattle.desk_turns.specs.Ports.{DeskGround}
use Rattle.desk_turns.proofs.NumberLemmas.{advanced-who, sessions_over_port, stopped_over_port}
use Rattle.desk_turns.proofs.SettleLemmas.{step_over}
use Rattle.desk_turns.proofs.jobs.step.Goals as goal

-- whatever the advance came to, that is the turn
pub returns-clause-stepped : goal.returns-clause-stepped
returns-clause-stepped g c =
    let who = ap (λ (k : DeskGround). k.who) c.in_ok-advance.ensures.still in
    let opening = ap (λ (k : DeskGround). k.opening) c.in_ok-advance.ensures.still in
    step_over c.in_ok-advance.field-0 c.args.who c.over-port.result.who c.advance.new.port.who c.over-port.result.waited
    c.advance.new.port.waited
    c.args.sessions.now c.index-sessions-who.result c.advance.new.self c.args.desk.now c.over-port.result.desk.now
    c.advance.new.port.desk.now _
    (omega (arith, c.if-who-sessions.false, c.sessions.ensures, c.requires.many)) c.over-port.ensures.who.0 who
    c.over-port.ensures.desk opening
    c.in_ok-advance.ensures.advanced c.in_ok-advance.ensures.as_written (search rules)

-- and the session has its number
pub returns-clause-numbered : goal.returns-clause-numbered
returns-clause-numbered g c =
    let opening = ap (λ (k : DeskGround). k.opening) c.in_ok-advance.ensures.still in
    sessions_over_port c.args.desk.now c.over-port.result.desk.now c.advance.new.port.desk.now _
    c.args.sessions.now c.args.who c.index-sessions-who.result c.advance.new.self c.over-port.ensures.desk opening
    (search rules)
    (advanced-who c.in_ok-advance.field-0 _ _ _ c.advance.new.self c.in_ok-advance.ensures.advanced) c.requires

-- where memory ran out nothing changed
pub returns-in_err-advance-clause-stepped : goal.returns-in_err-advance-clause-stepped
returns-in_err-advance-clause-stepped g c =
    let opening = ap (λ (k : DeskGround). k.opening) c.in_err-advance.ensures.still in
    let p = err_from_is_err_and c.from_residual.result c.from_residual.ensures.1 in
    rw p.1
    (stopped_over_port c.args.desk.now c.over-port.result.desk.now c.advance.new.port.desk.now _ c.args.sessions.now
    c.args.who c.over-port.result.who c.advance.new.port.who c.over-port.result.waited c.advance.new.port.waited
    c.index-sessions-who.result c.advance.new.self c.over-port.ensures.desk opening (search rules)
    c.in_err-advance.ensures.kept)
