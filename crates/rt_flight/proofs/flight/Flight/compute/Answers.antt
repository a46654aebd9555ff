use Rattle.std.proofs.Common.{◌∙◌, arith}
use Rattle.rt_flight.proofs.PartsLemmas.{can_complete, can_gather, is_started, past_none, past_one}
use Rattle.rt_flight.proofs.flight.Flight.compute.Goals as goal

pub layers-depths-requires : goal.layers-depths-requires
layers-depths-requires g c = is_started c.args.self.now c.start.new.self c.start.ensures.starts

pub loop-depth-init : goal.loop-depth-init
loop-depth-init g c = record {
  past = past_none c.args.self.now c.start.new.self c.layers-depths.result c.start.ensures.starts
      c.start.ensures.under_way c.layers-depths.ensures;
}

pub update-requires : goal.update-requires
update-requires g c =
    can_gather c.args.self.now c.loop-depth.depth c.layers-depths.result c.loop-depth.self c.loop-depth.invariant.past
    (omega (arith, c.loop-depth-test.true))

pub loop-depth-preserved : goal.loop-depth-preserved
loop-depth-preserved g c = record {
  past = past_one c.args.self.now c.loop-depth.depth c.layers-depths.result c.loop-depth.self
      c.loop-depth.invariant.past c.update.new.self c.update.ensures;
}

-- all depths gave out
pub complete-requires : goal.complete-requires
complete-requires g c =
    can_complete c.args.self.now c.loop-depth.depth c.layers-depths.result c.loop-depth.self c.loop-depth.invariant.past
    (omega arith)

pub returns-clause-cycle : goal.returns-clause-cycle
returns-clause-cycle g c = λ s aloft. c.complete.ensures.cycle s (c.loop-depth.invariant.past.under_way s aloft)

pub returns-clause-number : goal.returns-clause-number
returns-clause-number g c = c.complete.ensures.number ∙ c.loop-depth.invariant.past.same_number
