use Rattle.std.proofs.Common.{◌∷◌, ap, sym, subst}
use Rattle.trace_text.specs.Placed.{Placed}
use Rattle.trace_text.proofs.DigitLemmas.{six_by_pairs}
use Rattle.trace_text.proofs.PlaceLemmas.{Placed-then}
use Rattle.trace_text.proofs.numbers.place_decimals.Goals as goal

-- the point, and then three pairs
pub returns-clause-placed : goal.returns-clause-placed
returns-clause-placed c =
    subst (λ l. Placed c.args.bytes.now c.place_pair.new.bytes c.args.at l c.place_pair.result)
    (ap (λ l. 46 ∷ l) (sym (six_by_pairs c.args.decimals c.requires.few)))
    (Placed-then
    (Placed-then (Placed-then c.place_byte-at.ensures.placed c.place_pair-at.ensures.placed)
    c.place_pair-at-2.ensures.placed) c.place_pair.ensures.placed)
