use Rattle.std.proofs.Common.{◌≡◌, ◌+◌, rules, arith, ap, length, take-add, length-take-le, take-append-drop}
use Rattle.std.proofs.lemmas.List.{take_rest}
use Rattle.trace_text.proofs.PlaceLemmas.{Placed-then}
use Rattle.trace_text.proofs.place.place_long.Goals as goal

-- 32 bytes more
pub loop-done-preserved : goal.loop-done-preserved
loop-done-preserved c =
    let text = c.args.text.now in
    let done = c.loop-done.done in
    let both = Placed-then c.loop-done.invariant.1 (rw (take_rest text done) at c.place_front.ensures) in
    let whole = length-take-le (done + 32) text (search rules) in
    let end : c.place_front.result ≡ c.args.at + (done + 32) =
    omega (arith, both.moved, ap length (take-add done 32 text), whole) in
    (search rules, rw (take-add done 32 text, ← end) both)

-- and the rest by its ends
pub returns : goal.returns
returns c =
    let text = c.args.text.now in
    let done = c.loop-done.done in
    rw (take-append-drop done text) at (Placed-then c.loop-done.invariant.1
    (rw (take_rest text done) at c.place_ends.ensures))
