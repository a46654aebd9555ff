use Rattle.std.proofs.Common.{rules, refl, ap, ◌∙◌}
use Rattle.desk_turns.specs.Ports.{DeskGround}
use Rattle.desk_turns.proofs.NumberLemmas.{advanced-who}
use Rattle.desk_turns.proofs.SettleLemmas.{settle_goes_on, settle_ends, alike_ends}
use Rattle.desk_turns.proofs.jobs.settle.Goals as goal

-- to advance and then to settle is to settle
pub loop-preserved : goal.loop-preserved
loop-preserved g c =
    let lent = ap (λ (k : DeskGround). k.lent) c.in_ok-advance.ensures.still in
    let who = ap (λ (k : DeskGround). k.who) c.in_ok-advance.ensures.still in
    let opening = ap (λ (k : DeskGround). k.opening) c.in_ok-advance.ensures.still in
    record {
      lent = lent ∙ c.loop.invariant.lent;
      who = who ∙ c.loop.invariant.who;
      number = advanced-who c.in_ok-advance.field-0 _ _ c.loop.session c.advance.new.self
          c.in_ok-advance.ensures.advanced ∙ c.loop.invariant.number;
      settled = settle_goes_on c.in_ok-advance.field-0 c.args.session.now.who c.loop.port.who c.advance.new.port.who
          c.loop.port.waited c.advance.new.port.waited
          c.loop.port.desk.now c.advance.new.port.desk.now c.loop.session c.advance.new.self
          c.in-Ran.is c.loop.invariant.who who opening c.in_ok-advance.ensures.as_written ∙ c.loop.invariant.settled;
      opening = opening ∙ c.loop.invariant.opening;
      aloft = alike_ends c.args.desk.now c.loop.port.desk.now c.advance.new.port.desk.now _ c.loop.port.desk.ghost_name
          c.advance.new.port.desk.ghost_name
          c.loop.port.who c.advance.new.port.who c.in_ok-advance.ensures.still c.loop.invariant.aloft refl;
    }

-- a session that did not run is settled
pub returns : goal.returns
returns g c =
    let who = ap (λ (k : DeskGround). k.who) c.in_ok-advance.ensures.still in
    let opening = ap (λ (k : DeskGround). k.opening) c.in_ok-advance.ensures.still in
    record {
      settled = settle_ends c.in_ok-advance.field-0 c.args.session.now.who c.loop.port.who c.advance.new.port.who
          c.loop.port.waited c.advance.new.port.waited
          c.args.desk.now c.loop.port.desk.now c.advance.new.port.desk.now _ c.args.session.now c.loop.session
          c.advance.new.self
          c.in_default.not-Ran c.loop.invariant.who who opening c.in_ok-advance.ensures.as_written
          c.in_ok-advance.ensures.advanced c.loop.invariant.settled (search rules);
      desk = record {
        opening = search rules;
        aloft = alike_ends c.args.desk.now c.loop.port.desk.now c.advance.new.port.desk.now _
            c.loop.port.desk.ghost_name c.advance.new.port.desk.ghost_name
            c.loop.port.who c.advance.new.port.who c.in_ok-advance.ensures.still c.loop.invariant.aloft (search rules);
      };
      number = advanced-who c.in_ok-advance.field-0 _ _ c.loop.session c.advance.new.self
          c.in_ok-advance.ensures.advanced ∙ c.loop.invariant.number;
    }
