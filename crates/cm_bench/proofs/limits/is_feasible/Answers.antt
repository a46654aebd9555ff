use Rattle.std.proofs.Common.{◌≡◌, ◌≤◌, ◌+ℤ◌, ◌-ℤ◌, nat_abs, sym, ◌∙◌, to_z, of_z, w64, arith}
use Rattle.std.proofs.lemmas.Int.{ints}
use Rattle.cm_bench.specs.declared.limits.TheConstants.{LONGEST, CHANGE}
use Rattle.cm_bench.proofs.LimitLemmas.{as_it_stops}
use Rattle.cm_bench.proofs.limits.is_feasible.Goals as goal

pub returns-then-this-gt-CHANGE : goal.returns-then-this-gt-CHANGE
returns-then-this-gt-CHANGE c =
    let x : to_z w64 (of_z w64 c.args.at) ≡ c.args.at = omega (arith, ints) in
    let s : to_z w64 (of_z w64 c.args.step) ≡ c.args.step = omega (arith, ints) in
    let to : to_z w64 (of_z w64 (c.args.at +ℤ c.args.step)) ≡ c.args.at +ℤ c.args.step =
    omega (arith, ints, c.requires.small, c.requires.here.above, c.requires.here.below) in
    let short : nat_abs c.args.step ≤ LONGEST =
    omega (arith, ints, c.if-unsigned_abs-le-LONGEST.true, c.unsigned_abs.ensures.value) in
    let near : nat_abs (c.args.step -ℤ c.args.last) ≤ CHANGE =
    omega (
      arith,
      ints,
      c.requires.small,
      c.requires.here.short,
      c.if-unsigned_abs-le-CHANGE.true,
      c.unsigned_abs-then-unsigned_abs-le-LONGEST.ensures.value,
    ) in
    sym c.if-stops.true
    ∙ as_it_stops c.args.at c.args.last c.args.step c.stops.result short near (rw (x, s, to) at c.stops.ensures)

pub returns-else-stops : goal.returns-else-stops
returns-else-stops c =
    let x : to_z w64 (of_z w64 c.args.at) ≡ c.args.at = omega (arith, ints) in
    let s : to_z w64 (of_z w64 c.args.step) ≡ c.args.step = omega (arith, ints) in
    let to : to_z w64 (of_z w64 (c.args.at +ℤ c.args.step)) ≡ c.args.at +ℤ c.args.step =
    omega (arith, ints, c.requires.small, c.requires.here.above, c.requires.here.below) in
    let short : nat_abs c.args.step ≤ LONGEST =
    omega (arith, ints, c.if-unsigned_abs-le-LONGEST.true, c.unsigned_abs.ensures.value) in
    let near : nat_abs (c.args.step -ℤ c.args.last) ≤ CHANGE =
    omega (
      arith,
      ints,
      c.requires.small,
      c.requires.here.short,
      c.if-unsigned_abs-le-CHANGE.true,
      c.unsigned_abs-then-unsigned_abs-le-LONGEST.ensures.value,
    ) in
    as_it_stops c.args.at c.args.last c.args.step c.stops.result short near (rw (x, s, to) at c.stops.ensures)
