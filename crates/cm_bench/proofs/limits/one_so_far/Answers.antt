use Rattle.std.proofs.Common.{◌≡◌, pos, ◌+ℤ◌, ◌-ℤ◌, sym, ◌∙◌, to_z, of_z, w64, arith}
use Rattle.std.proofs.lemmas.Int.{ints}
use Rattle.cm_bench.proofs.LimitLemmas.{first_one, second_one, neither_one}
use Rattle.cm_bench.proofs.limits.one_so_far.Goals as goal

pub returns-then-is_feasible : goal.returns-then-is_feasible
returns-then-is_feasible c =
    let x : to_z w64 (of_z w64 c.args.at) ≡ c.args.at = omega (arith, ints) in
    let l : to_z w64 (of_z w64 c.args.last) ≡ c.args.last = omega (arith, ints) in
    let w : to_z w64 (of_z w64 c.args.wanted) ≡ c.args.wanted = omega (arith, ints) in
    let f : to_z w64 c.args.far ≡ pos c.args.far = omega (arith, ints, c.requires.no_farther) in
    let less : to_z w64 (of_z w64 (c.args.wanted -ℤ pos c.args.far)) ≡ c.args.wanted -ℤ pos c.args.far =
    omega (arith, ints, c.requires.near, c.requires.no_farther) in
    let low = rw (x, l, w, f, less) at (sym c.is_feasible.ensures ∙ c.if-is_feasible.true) in
    rw (w, f, less) (first_one c.args.at c.args.last c.args.wanted c.args.far low)

pub returns-then-is_feasible-2 : goal.returns-then-is_feasible-2
returns-then-is_feasible-2 c =
    let x : to_z w64 (of_z w64 c.args.at) ≡ c.args.at = omega (arith, ints) in
    let l : to_z w64 (of_z w64 c.args.last) ≡ c.args.last = omega (arith, ints) in
    let w : to_z w64 (of_z w64 c.args.wanted) ≡ c.args.wanted = omega (arith, ints) in
    let f : to_z w64 c.args.far ≡ pos c.args.far = omega (arith, ints, c.requires.no_farther) in
    let less : to_z w64 (of_z w64 (c.args.wanted -ℤ pos c.args.far)) ≡ c.args.wanted -ℤ pos c.args.far =
    omega (arith, ints, c.requires.near, c.requires.no_farther) in
    let more : to_z w64 (of_z w64 (c.args.wanted +ℤ pos c.args.far)) ≡ c.args.wanted +ℤ pos c.args.far =
    omega (arith, ints, c.requires.near, c.requires.no_farther) in
    let low = rw (x, l, w, f, less) at (sym c.is_feasible.ensures ∙ c.if-is_feasible.false) in
    let high = rw (x, l, w, f, more) at (sym c.is_feasible-else-is_feasible.ensures ∙ c.if-is_feasible-2.true) in
    rw (w, f, more) (second_one c.args.at c.args.last c.args.wanted c.args.far low high)

pub returns-else-is_feasible-2 : goal.returns-else-is_feasible-2
returns-else-is_feasible-2 c =
    let x : to_z w64 (of_z w64 c.args.at) ≡ c.args.at = omega (arith, ints) in
    let l : to_z w64 (of_z w64 c.args.last) ≡ c.args.last = omega (arith, ints) in
    let w : to_z w64 (of_z w64 c.args.wanted) ≡ c.args.wanted = omega (arith, ints) in
    let f : to_z w64 c.args.far ≡ pos c.args.far = omega (arith, ints, c.requires.no_farther) in
    let less : to_z w64 (of_z w64 (c.args.wanted -ℤ pos c.args.far)) ≡ c.args.wanted -ℤ pos c.args.far =
    omega (arith, ints, c.requires.near, c.requires.no_farther) in
    let more : to_z w64 (of_z w64 (c.args.wanted +ℤ pos c.args.far)) ≡ c.args.wanted +ℤ pos c.args.far =
    omega (arith, ints, c.requires.near, c.requires.no_farther) in
    let low = rw (x, l, w, f, less) at (sym c.is_feasible.ensures ∙ c.if-is_feasible.false) in
    let high = rw (x, l, w, f, more) at (sym c.is_feasible-else-is_feasible.ensures ∙ c.if-is_feasible-2.false) in
    neither_one c.args.at c.args.last c.args.wanted c.args.far low high
