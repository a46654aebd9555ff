use Rattle.std.proofs.Common.{◌≡◌, ℕ, ◌+◌, ◌<◌, List, [], length, get_or, take, sum_by, sym, ap₂, ◌∙◌, arith}
use Rattle.std.proofs.lemmas.List.Sums.{sum_by_more}
use Rattle.cm_document.specs.declared.description.CtlKind.TheVariants.{Forward}
use Rattle.cm_model.specs.Blanks.{blanks_of}
use Rattle.trace_check.proofs.check.are_few.Goals as goal

-- with what is counted by the next row it is the sum so far
next_sum : {R : Type 0} (count : R → ℕ) (rows : List R) (i : ℕ) (d : R) (sum n : ℕ) → i < length rows
    → n ≡ count (get_or rows i d) → sum ≡ sum_by count (take i rows)
    → sum + n ≡ sum_by count (take (i + 1) rows)
next_sum count rows i d sum n within is so_far = ap₂ (λ x y. x + y) so_far is ∙ sym (sum_by_more count rows i d within)

pub loop-row-preserved : goal.loop-row-preserved
loop-row-preserved c = (
  next_sum (λ row. blanks_of c.args.counts.now row.1) c.args.kinds.now c.loop-row.row-index
      (record { ref_ptr = (0, 0); now = [] }, Forward) c.loop-row.sum c.of.result c.loop-row-test.true
      c.of.ensures c.loop-row.invariant.0,
  omega (arith, c.loop-row.invariant.1),
)
