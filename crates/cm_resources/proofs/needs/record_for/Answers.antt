use Rattle.std.proofs.Common.{refl, arith}
use Rattle.cm_resources.proofs.needs.record_for.Goals as goal

-- each part is as large as was counted
pub returns : goal.returns
returns c = record {
  no_failure = rw (c.in_ok-with_room.ensures.failed) refl;
  failures = rw (c.in_ok-with_room.ensures.failed) (omega (arith, c.requires.size.failures));
  no_body = rw (c.in_ok-with_room.ensures.bodies) refl;
  bodies = rw (c.in_ok-with_room.ensures.bodies) (omega (arith, c.requires.size.joints));
  none_ran = rw (c.in_ok-with_room.ensures.ran) refl;
  heads = rw (c.in_ok-with_room.ensures.ran) (omega arith);
  values = rw (c.in_ok-with_room.ensures.ran) (omega (arith, c.in_ok-count_values.ensures));
  numbers = rw (c.in_ok-with_room.ensures.ran) (omega (arith, c.in_ok-count_numbers.ensures));
  none_stopped = rw (c.in_ok-with_room.ensures.stops) refl;
  stops = rw (c.in_ok-with_room.ensures.stops) (omega arith);
}
