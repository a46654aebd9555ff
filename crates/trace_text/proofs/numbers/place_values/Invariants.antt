use Rattle.std.proofs.Common.{◌≡◌, ◌+◌, ◌*◌, ◌≤◌, ◌++◌, length, take, drop}
use Rattle.cm_model.specs.Items.{outs_text}
use Rattle.trace_text.proofs.numbers.place_values.Given as goal

-- what is put so far, and what is left, are all of it, and no text is longer than its room
abbrev pub invariant-loop-value : goal.invariant-loop-value
invariant-loop-value l = record {
  front : take l.at l.bytes ++ outs_text (drop l.value-index l.values) ≡ take l.fn.at l.fn.bytes ++ outs_text l.values;
  short : l.at ≤ l.fn.at + 19 * l.value-index;
  len : length l.bytes ≡ length l.fn.bytes;
}
