use Rattle.std.proofs.Common.{ap, sym, ◌∙◌, subst}
use Rattle.summary_text.specs.Counted.{Counted, with_decisions}
use Rattle.summary_text.specs.Few.{AreFew}
use Rattle.summary_text.proofs.CountLemmas.{one_more, few_decisions, entries_decisions}
use Rattle.summary_text.proofs.tally.Tally.count_entry.Goals as goal

-- decisions are counted behind the entry
pub returns-in-Decisions-clause-few : goal.returns-in-Decisions-clause-few
returns-in-Decisions-clause-few c =
    let ds = c.as_slice.result.now in
    let counted =
    c.count_decisions.ensures.counted ∙ ap (λ (s : Counted). with_decisions ds (one_more s)) c.self.view_is in
    subst AreFew (sym counted) (few_decisions ds c.args.self.now c.requires.few c.count_decisions.ensures.fits)

pub returns-in-Decisions-clause-entries : goal.returns-in-Decisions-clause-entries
returns-in-Decisions-clause-entries c =
    let ds = c.as_slice.result.now in
    let counted =
    c.count_decisions.ensures.counted ∙ ap (λ (s : Counted). with_decisions ds (one_more s)) c.self.view_is in
    ap (λ (s : Counted). s.entries) counted ∙ entries_decisions ds c.args.self.now
