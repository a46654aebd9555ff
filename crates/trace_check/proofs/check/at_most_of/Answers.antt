use Rattle.std.proofs.Common.{◌≡◌, ℕ, ◌+◌, ◌<◌, List, [], length, get_or, drop, map, sym, ap, subst, ◌∙◌, arith}
use Rattle.std.specs.Prelude.{min, if◌then◌else◌}
use Rattle.std.proofs.lemmas.List.{at_drop_more, drop_all}
use Rattle.cm_document.specs.Params.{same_controller_kind}
use Rattle.cm_document.specs.declared.description.CtlKind.{CtlKind}
use Rattle.cm_document.specs.declared.description.CtlKind.TheVariants.{Forward}
use Rattle.cm_model.specs.Blanks.{blanks_of, counted_by, with_count}
use Rattle.cm_model.specs.declared.blanks.Blanks.{Blanks}
use Rattle.cm_model.proofs.BlankLemmas.{counted_again}
use Rattle.trace_laws.proofs.StockLemmas.{lessened, one_lessened, none_lessened}
use Rattle.trace_check.proofs.check.at_most_of.Goals as goal

-- blanks are counted
abbrev AreCounted : Blanks → Type 0
AreCounted b = b ≡ counted_by (blanks_of b)

pub loop-row-init : goal.loop-row-init
loop-row-init c = (
  ap (λ (b : Blanks). lessened c.args.most c.args.counts.now b (map (λ row. row.1) c.args.kinds.now))
      c.of_each-few.ensures
      ∙ none_lessened c.args.most c.args.counts.now (map (λ row. row.1) c.args.kinds.now),
  subst AreCounted (sym c.of_each-few.ensures) (counted_again (λ kind. 0)),
)

-- the next row's kind, and then those after it, are those that are left
next_row : {R : Type 0} (kind_of : R → CtlKind) (most : ℕ) (counts few after : Blanks) (rows : List R) (i : ℕ) (d : R)
    (n : ℕ) → i < length rows
    → n ≡ min most (blanks_of counts (kind_of (get_or rows i d))) → after ≡ with_count few (kind_of (get_or rows i d)) n
    → lessened most counts after (map kind_of (drop (i + 1) rows))
    ≡ lessened most counts few (map kind_of (drop i rows))
next_row kind_of most counts few after rows i d n within is made =
    let kind = kind_of (get_or rows i d) in
    ap (λ (b : Blanks). lessened most counts b (map kind_of (drop (i + 1) rows))) (made ∙ ap (with_count few kind) is)
    ∙ one_lessened most counts few kind (map kind_of (drop (i + 1) rows))
    ∙ sym (at_drop_more (λ left. lessened most counts few (map kind_of left)) rows i d within)

counted_with : (few : Blanks) (kind : CtlKind) (n : ℕ) → AreCounted (with_count few kind n)
counted_with few kind n = counted_again (λ other. if same_controller_kind other kind then n else blanks_of few other)

pub loop-row-preserved : goal.loop-row-preserved
loop-row-preserved c =
    let less : c.min.result ≡ min c.args.most c.of.result = omega (arith, c.min.ensures) in (
      next_row (λ row. row.1) c.args.most c.args.counts.now c.loop-row.few c.with-few.result c.args.kinds.now
          c.loop-row.row-index (record { ref_ptr = (0, 0); now = [] }, Forward) c.min.result
          c.loop-row-test.true (less ∙ ap (min c.args.most) c.of.ensures) c.with-few.ensures
          ∙ c.loop-row.invariant.0,
      subst AreCounted (sym c.with-few.ensures) (counted_with c.loop-row.few _ c.min.result),
    )

-- no kind is left
pub returns : goal.returns
returns c =
    let none = drop_all c.loop-row.row-index c.args.kinds.now (omega (arith, c.loop-row-test.false)) in
    c.loop-row.invariant.1
    ∙ sym (ap (λ rows. lessened c.args.most c.args.counts.now c.loop-row.few (map (λ row. row.1) rows)) none)
    ∙ c.loop-row.invariant.0
