use Rattle.std.proofs.Common.{◌≡◌, ◌++◌, drop, map}
use Rattle.cm_model.specs.Items.{failed_text}
use Rattle.trace_text.specs.Joined.{joined_on, has_started}
use Rattle.trace_text.proofs.records.push_failures.Given as goal

-- the text so far, and the items that are left, are all items
abbrev pub invariant-loop-part : goal.invariant-loop-part
invariant-loop-part l = record {
  text : l.text ++ joined_on l.started (map (failed_text l.names) (drop l.part-index l.failed))
      ≡ l.fn.text ++ joined_on l.fn.started (map (failed_text l.names) l.failed);
  started : has_started l.started (map (failed_text l.names) (drop l.part-index l.failed))
      ≡ has_started l.fn.started (map (failed_text l.names) l.failed);
}
