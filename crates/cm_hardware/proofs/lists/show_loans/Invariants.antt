use Rattle.std.proofs.Common.{◌≡◌, ◌++◌, length, drop, vec_capacity}
use Rattle.cm_hardware.specs.Listed.{loan_lines_from}
use Rattle.cm_hardware.proofs.lists.show_loans.Given as goal

-- the lines so far, one for each place, and those of the places that are left, are all
abbrev pub invariant-loop-place : goal.invariant-loop-place
invariant-loop-place l = record {
  all : l.lines.items ++ loan_lines_from l.place (drop l.place l.loans) ≡ loan_lines_from 0 l.loans;
  each : length l.lines.items ≡ l.place;
  room : vec_capacity l.lines ≡ vec_capacity l.fn.lines;
}
