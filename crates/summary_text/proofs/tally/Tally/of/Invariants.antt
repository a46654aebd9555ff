use Rattle.std.proofs.Common.{◌≡◌, drop}
use Rattle.summary_text.specs.Counted.{with_entries, counted}
use Rattle.summary_text.specs.Few.{AreFew}
use Rattle.summary_text.proofs.tally.Tally.of.Given as goal

-- what is counted so far, and the entries that are left, are all that is counted
abbrev pub invariant-loop-entry : goal.invariant-loop-entry
invariant-loop-entry l = record {
  so_far : with_entries (drop l.entry-index l.history) l.tally ≡ counted l.history;
  few : AreFew l.tally;
  entries : l.tally.entries ≡ l.entry-index;
}
