use Rattle.std.proofs.Common.{◌≡◌, ◌+◌, ℤ, ◌-ℤ◌, to_z, of_z, w64, List, ◌∷◌, ◌++◌, drop, ap, sym, subst, ◌∙◌, arith}
use Rattle.std.proofs.lemmas.Int.{ints}
use Rattle.std.proofs.lemmas.List.{drop_more, drop_all}
use Rattle.fixed_num.specs.declared.value.Value.{Value}
use Rattle.cm_model.specs.Limiters.{wanted_step}
use Rattle.ctl_shape.specs.Limiters.{IsNewStep, IsRun, IsRunFrom, reach_in}
use Rattle.ctl_shape.proofs.StepLemmas.{run_begins, run_more, run_done}
use Rattle.ctl_shape.proofs.run.limit_run.Goals as goal

pub loop-value-init : goal.loop-value-init
loop-value-init c = record {
  so_far = λ more run. run_begins c.of-limiter.result c.args.start c.brought-at.result c.args.wanted.now
      c.in_ok-outs.outs.items more c.brought-at.ensures.value c.in_ok-outs.ensures.items run;
  above = c.brought-at.ensures.above;
  below = c.brought-at.ensures.below;
}

pub loop-value-preserved : goal.loop-value-preserved
loop-value-preserved c =
    let i = c.loop-value.value-index in
    let wanted = c.args.wanted.now in
    let limiter = c.of-limiter.result in
    let at : ℤ = c.loop-value.at in
    let last : ℤ = at -ℤ c.loop-value.before in
    let next : ℤ = c.advance-next.result in
    let value : Value = c.value-item.result in
    let left : drop i wanted ≡ value ∷ drop (i + 1) wanted =
    drop_more wanted i c.value-item.result c.loop-value-test.true
    ∙ ap (λ w. w ∷ drop (i + 1) wanted) (sym c.value-item.is) in
    let so_far : (more : List ℤ) → IsRun limiter at last (value ∷ drop (i + 1) wanted) more
    → IsRunFrom limiter c.args.start wanted (c.loop-value.outs.items ++ more) =
    λ more run. c.loop-value.invariant.so_far more
    (subst (λ (ws : List Value). IsRun limiter at last ws more) (sym left) run) in
    let stepped : to_z w64 (of_z w64 c.difference.result) ≡ last =
    omega (arith, ints, c.difference.ensures.small, c.difference.ensures.value) in
    let step : IsNewStep limiter at last (wanted_step limiter at value) (next -ℤ at) =
    rw stepped at c.advance-next.ensures.step in
    record {
      so_far = λ more run.
          subst (λ (xs : List ℤ). IsRunFrom limiter c.args.start wanted (xs ++ more)) (sym c.in_ok-push.ensures.items)
          (run_more limiter c.args.start at last wanted (drop (i + 1) wanted) c.loop-value.outs.items value next so_far
          step more run);
      above = c.advance-next.ensures.above;
      below = c.advance-next.ensures.below;
    }

pub returns : goal.returns
returns c =
    let i = c.loop-value.value-index in
    let wanted = c.args.wanted.now in
    let limiter = c.of-limiter.result in
    let at : ℤ = c.loop-value.at in
    let last : ℤ = at -ℤ c.loop-value.before in
    let outs = c.loop-value.outs.items in
    let none = drop_all i wanted (omega (arith, c.loop-value-test.false)) in
    run_done (reach_in c.args.limits.now) limiter c.args.start at last wanted outs c.of-limiter.ensures.value
    c.of-limiter.ensures.cut c.requires.ends
    (λ more run. c.loop-value.invariant.so_far more
    (subst (λ (ws : List Value). IsRun limiter at last ws more) (sym none) run))
