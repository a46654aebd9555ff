use Rattle.std.proofs.Common.{◌≡◌, ◌++◌, drop}
use Rattle.cm_model.specs.Items.{body_texts}
use Rattle.trace_text.specs.Joined.{joined_on, has_started}
use Rattle.trace_text.proofs.records.push_bodies.Given as goal

-- the text so far, and the items that are left, are all items
abbrev pub invariant-loop-place : goal.invariant-loop-place
invariant-loop-place l = record {
  text : l.text ++ joined_on l.started (body_texts l.names l.place (drop l.place l.bodies))
      ≡ l.fn.text ++ joined_on l.fn.started (body_texts l.names 0 l.bodies);
  started : has_started l.started (body_texts l.names l.place (drop l.place l.bodies))
      ≡ has_started l.fn.started (body_texts l.names 0 l.bodies);
}
