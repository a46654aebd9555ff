use Rattle.std.proofs.Common.{◌≡◌, ◌+ℤ◌, ◌-ℤ◌, sym, subst, to_z, of_z, w64, arith}
use Rattle.std.proofs.lemmas.Int.{ints, clamps}
use Rattle.cm_model.specs.Limiters.{brought}
use Rattle.ctl_shape.specs.Limiters.{IsNewStep}
use Rattle.ctl_shape.proofs.SearchLemmas.{search_finds}
use Rattle.cm_bench.specs.Shapes.{timed}
use Rattle.cm_bench.proofs.limits.looked_for.Goals as goal

pub searched-requires-clause-near : goal.searched-requires-clause-near
searched-requires-clause-near c =
    omega (
      arith,
      ints,
      clamps,
      c.max.ensures.value,
      c.min.ensures.value,
      c.micro-at.ensures.same,
      c.micro-at.ensures.range,
      c.micro.ensures.same,
      c.micro.ensures.range,
      c.args.case.now.above,
      c.args.case.now.below,
    )

pub returns : goal.returns
returns c =
    let x : to_z w64 (of_z w64 c.micro-at.result) ≡ c.args.case.now.at =
    omega (arith, ints, c.micro-at.ensures.same, c.micro-at.ensures.range) in
    let l : to_z w64 (of_z w64 c.args.case.now.last) ≡ c.args.case.now.last = omega (arith, ints) in
    let w : to_z w64 (of_z w64 (to_z w64 (of_z w64 c.max.result) -ℤ c.args.case.now.at))
    ≡ brought timed c.args.case.now.wanted -ℤ c.args.case.now.at =
    omega (
      arith,
      ints,
      clamps,
      c.max.ensures.value,
      c.min.ensures.value,
      c.micro.ensures.same,
      c.micro.ensures.range,
      c.args.case.now.above,
      c.args.case.now.below,
    ) in
    let found = rw (x, l, w) at c.searched.ensures.found in
    let s : to_z w64 (of_z w64 c.searched.result) ≡ c.searched.result = omega (arith, ints, c.searched.ensures.small) in
    let out : to_z w64 (of_z w64 (c.args.case.now.at +ℤ c.searched.result)) -ℤ c.args.case.now.at ≡ c.searched.result =
    omega (arith, ints, c.searched.ensures.small, c.args.case.now.above, c.args.case.now.below) in
    let new = search_finds timed c.args.case.now.at c.args.case.now.last
    (brought timed c.args.case.now.wanted -ℤ c.args.case.now.at) in
    rw (x, s, out)
    (subst (λ z. IsNewStep timed c.args.case.now.at c.args.case.now.last
    (brought timed c.args.case.now.wanted -ℤ c.args.case.now.at) z) (sym found) new)
