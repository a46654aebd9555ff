use Rattle.std.proofs.Common.{◌≡◌, ◌++◌, drop, map}
use Rattle.cm_model.specs.Items.{stop_text}
use Rattle.trace_text.specs.Joined.{joined_on, has_started}
use Rattle.trace_text.proofs.records.push_stops.Given as goal

-- the text so far, and the items that are left, are all items
abbrev pub invariant-loop-serial : goal.invariant-loop-serial
invariant-loop-serial l = record {
  text : l.text ++ joined_on l.started (map (stop_text l.names) (drop l.serial-index l.stops))
      ≡ l.fn.text ++ joined_on l.fn.started (map (stop_text l.names) l.stops);
  started : has_started l.started (map (stop_text l.names) (drop l.serial-index l.stops))
      ≡ has_started l.fn.started (map (stop_text l.names) l.stops);
}
