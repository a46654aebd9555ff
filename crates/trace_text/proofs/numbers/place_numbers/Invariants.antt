use Rattle.std.proofs.Common.{◌≡◌, ◌+◌, ◌*◌, ◌≤◌, ◌++◌, length, take, drop}
use Rattle.cm_model.specs.Items.{numbers_text}
use Rattle.trace_text.proofs.numbers.place_numbers.Given as goal

-- what is put so far, and what is left, are all of it, and no text is longer than its room
abbrev pub invariant-loop-number : goal.invariant-loop-number
invariant-loop-number l = record {
  front : take l.at l.bytes ++ numbers_text (drop l.number-index l.numbers)
      ≡ take l.fn.at l.fn.bytes ++ numbers_text l.numbers;
  short : l.at ≤ l.fn.at + 19 * l.number-index;
  len : length l.bytes ≡ length l.fn.bytes;
}
