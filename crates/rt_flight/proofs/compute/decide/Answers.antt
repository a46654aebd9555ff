use Rattle.std.proofs.Common.{refl, ◌∙◌}
use Rattle.rt_flight.proofs.compute.decide.Goals as goal

pub decide-requires-clause-report : goal.decide-requires-clause-report
decide-requires-clause-report c = record {
  followers = c.requires.can.followers;
  components = c.requires.can.components;
  within = c.requires.can.within;
}

pub decide-requires-clause-flags : goal.decide-requires-clause-flags
decide-requires-clause-flags c = c.requires.flags

pub decide-requires-clause-room : goal.decide-requires-clause-room
decide-requires-clause-room c = c.requires.can.stops

-- the report is that of each state of which this is told
pub returns : goal.returns
returns c = record {
  ending = λ s is. c.decide.ensures.sets s is.valid is.steady
      (record { relations = is.related; order = is.order; failed = c.as_slice.ensures ∙ is.failed; erred = is.erred });
  stops = λ s is. c.decide.ensures.stops s is.valid
      (record { relations = is.related; order = is.order; failed = c.as_slice.ensures ∙ is.failed; erred = is.erred });
  told = refl;
  flags = c.decide.ensures.flags;
}
