use Rattle.std.proofs.Common.{◌∙◌, sym, ap, length}
use Rattle.std.specs.List.{list_any}
use Rattle.cm_model.specs.Order.{set_of}
use Rattle.stop_plan.specs.Reports.{is_chained_by}
use Rattle.stop_plan.proofs.WhereLemmas.{next_in, next_out}
use Rattle.stop_plan.proofs.sets.gather_chained.Goals as goal
use Rattle.stop_plan.proofs.sets.gather_chained.Goals.{then-has_any, else-has_any}

pub loop-place-preserved : goal.loop-place-preserved
loop-place-preserved c =
    let test = is_chained_by c.args.leaders.now (set_of c.args.active.now) in
    let here = sym (c.has_any.ensures ∙ ap (list_any (set_of c.args.active.now)) c.row.ensures.row) in
    elim c.if-has_any.branch [
      | then-has_any w ↦ record {
        long = ap length w.set-is ∙ w.insert.ensures.length ∙ c.loop-place.invariant.long;
        so_far = λ p. ap (λ flags. set_of flags p) w.set-is ∙ ap (λ f. f p) w.insert.ensures.set
            ∙ next_in test c.loop-place.place (set_of c.loop-place.set) c.loop-place.invariant.so_far
            (here ∙ w.if-has_any.true) p;
      }
      | else-has_any w ↦ record {
        long = ap length w.set-is ∙ c.loop-place.invariant.long;
        so_far = λ p. ap (λ flags. set_of flags p) w.set-is
            ∙ next_out test c.loop-place.place (set_of c.loop-place.set) c.loop-place.invariant.so_far
            (here ∙ w.if-has_any.false) p;
      }
    ]
