use Rattle.std.proofs.Common.{◌≡◌, ◌∙◌, ap, subst, arith}
use Rattle.std.specs.Prelude.{nat_abs}
use Rattle.std.proofs.lemmas.Int.{ints}
use mir.Val.{to_z, of_z}
use mir.Syntax.{w64}
use Rattle.trace_text.specs.Placed.{Placed}
use Rattle.trace_text.proofs.DigitLemmas.{spelled_in_parts}
use Rattle.trace_text.proofs.PlaceLemmas.{Placed-then}
use Rattle.trace_text.proofs.numbers.place_number.Goals as goal

-- a space, the sign, the units and the decimals
pub returns-clause-placed : goal.returns-clause-placed
returns-clause-placed c =
    let exact : to_z w64 (of_z w64 c.micro.result) ≡ c.micro.result = omega (arith, ints) in
    let size : c.unsigned_abs-size.result ≡ nat_abs c.args.number =
    c.unsigned_abs-size.ensures.value ∙ ap nat_abs (exact ∙ c.micro.ensures.same) in
    subst (λ l. Placed c.args.bytes.now c.place_decimals.new.bytes c.args.at l c.place_decimals.result)
    (spelled_in_parts c.args.number)
    (rw size at (Placed-then
    (Placed-then (Placed-then c.place_byte-at.ensures.placed c.place_sign-at.ensures.placed)
    c.place_whole-at.ensures.placed) c.place_decimals.ensures.placed))
