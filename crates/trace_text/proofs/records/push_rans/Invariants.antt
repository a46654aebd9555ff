use Rattle.std.proofs.Common.{◌≡◌, ◌++◌, map}
use Rattle.cm_model.specs.Items.{ran_text}
use Rattle.trace_text.specs.Joined.{joined_on, has_started}
use Rattle.trace_text.proofs.records.push_rans.Given as goal

-- the text so far, and the items that are left, are all items
abbrev pub invariant-loop-ran : goal.invariant-loop-ran
invariant-loop-ran l = record {
  text : l.text ++ joined_on l.started (map (ran_text l.names) l.ran-iterator)
      ≡ l.fn.text ++ joined_on l.fn.started (map (ran_text l.names) l.fn.rans);
  started : has_started l.started (map (ran_text l.names) l.ran-iterator)
      ≡ has_started l.fn.started (map (ran_text l.names) l.fn.rans);
}
