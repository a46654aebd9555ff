use Rattle.std.proofs.Common.{◌≡◌, suc, ◌+◌, ◌-◌, nat_abs, sym, ◌∙◌, ap, to_z, of_z, w64, arith}
use Rattle.std.proofs.lemmas.Int.{ints}
use Rattle.cm_bench.specs.declared.limits.TheConstants.{LONGEST}
use Rattle.cm_bench.proofs.LimitLemmas.{found_from, search_begins, search_ends}
use Rattle.cm_bench.proofs.LimitLemmas.{search_goes_on, search_stops, short_so_far}
use Rattle.cm_bench.proofs.limits.searched.Goals as goal

pub loop-far-init : goal.loop-far-init
loop-far-init c = search_begins _ _ _

pub returns-in-Some-clause-found : goal.returns-in-Some-clause-found
returns-in-Some-clause-found c =
    let x : to_z w64 (of_z w64 c.args.at) ≡ c.args.at = omega (arith, ints) in
    let l : to_z w64 (of_z w64 c.args.last) ≡ c.args.last = omega (arith, ints) in
    let w : to_z w64 (of_z w64 c.args.wanted) ≡ c.args.wanted = omega (arith, ints) in
    let so_far = rw (x, l, w) at c.loop-far.invariant in
    let one = rw (x, l, w) at (sym c.one_so_far.ensures ∙ c.in-Some.is) in
    let turns : suc (nat_abs c.args.wanted + LONGEST) - c.loop-far.far
    ≡ suc ((nat_abs c.args.wanted + LONGEST) - c.loop-far.far) =
    omega (arith, ints, c.loop-far-test.true, c.loop-far.auto.far-end, c.unsigned_abs-most.ensures.value) in
    let short = short_so_far c.args.at c.args.last c.args.wanted c.loop-far.far _ one in
    let s : to_z w64 (of_z w64 c.in-Some.step) ≡ c.in-Some.step =
    omega (
      arith,
      ints,
      short,
      c.requires.near,
      c.loop-far-test.true,
      c.loop-far.auto.far-end,
      c.unsigned_abs-most.ensures.value,
    ) in
    s ∙ sym (so_far ∙ ap (found_from c.args.at c.args.last c.args.wanted c.loop-far.far) turns
    ∙ search_ends c.args.at c.args.last c.args.wanted c.loop-far.far _ _ one)

pub returns-in-Some-clause-small : goal.returns-in-Some-clause-small
returns-in-Some-clause-small c =
    let x : to_z w64 (of_z w64 c.args.at) ≡ c.args.at = omega (arith, ints) in
    let l : to_z w64 (of_z w64 c.args.last) ≡ c.args.last = omega (arith, ints) in
    let w : to_z w64 (of_z w64 c.args.wanted) ≡ c.args.wanted = omega (arith, ints) in
    let one = rw (x, l, w) at (sym c.one_so_far.ensures ∙ c.in-Some.is) in
    let short = short_so_far c.args.at c.args.last c.args.wanted c.loop-far.far _ one in
    omega (
      arith,
      ints,
      short,
      c.requires.near,
      c.loop-far-test.true,
      c.loop-far.auto.far-end,
      c.unsigned_abs-most.ensures.value,
    )

pub loop-far-preserved : goal.loop-far-preserved
loop-far-preserved c =
    let x : to_z w64 (of_z w64 c.args.at) ≡ c.args.at = omega (arith, ints) in
    let l : to_z w64 (of_z w64 c.args.last) ≡ c.args.last = omega (arith, ints) in
    let w : to_z w64 (of_z w64 c.args.wanted) ≡ c.args.wanted = omega (arith, ints) in
    let so_far = rw (x, l, w) at c.loop-far.invariant in
    let none = rw (x, l, w) at (sym c.one_so_far.ensures ∙ c.in_default.is) in
    let turns : suc (nat_abs c.args.wanted + LONGEST) - c.loop-far.far
    ≡ suc (suc (nat_abs c.args.wanted + LONGEST) - (c.loop-far.far + 1)) =
    omega (arith, ints, c.loop-far-test.true, c.loop-far.auto.far-end, c.unsigned_abs-most.ensures.value) in
    rw (x, l, w)
    (so_far ∙ ap (found_from c.args.at c.args.last c.args.wanted c.loop-far.far) turns
    ∙ search_goes_on c.args.at c.args.last c.args.wanted c.loop-far.far _ none)

pub returns-clause-found : goal.returns-clause-found
returns-clause-found c =
    let x : to_z w64 (of_z w64 c.args.at) ≡ c.args.at = omega (arith, ints) in
    let l : to_z w64 (of_z w64 c.args.last) ≡ c.args.last = omega (arith, ints) in
    let w : to_z w64 (of_z w64 c.args.wanted) ≡ c.args.wanted = omega (arith, ints) in
    let so_far = rw (x, l, w) at c.loop-far.invariant in
    let turns : suc (nat_abs c.args.wanted + LONGEST) - c.loop-far.far ≡ 0 =
    omega (arith, ints, c.loop-far-test.false, c.loop-far.auto.far-end, c.unsigned_abs-most.ensures.value) in
    sym (so_far ∙ ap (found_from c.args.at c.args.last c.args.wanted c.loop-far.far) turns
    ∙ search_stops c.args.at c.args.last c.args.wanted c.loop-far.far)
