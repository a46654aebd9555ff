use Rattle.std.proofs.Common.{◌≡◌, ◌+◌, ◌<◌, length, map, get_or, set, sym, ap, ◌∙◌, arith}
use Rattle.std.proofs.lemmas.List.{get_or-map, length-map}
use Rattle.std.proofs.lemmas.List.Edits.{paste_more}
use lib.Seq.{paste}
use Rattle.fixed_num.specs.declared.value.Value.{Value}
use Rattle.fixed_num.specs.declared.value.Value.TheVariants.{Num}
use Rattle.ctl_trait.proofs.set_part.set_numbers.Goals as goal

pub loop-i-preserved : goal.loop-i-preserved
loop-i-preserved c =
    let i = c.loop-i.i in
    let x = c.index-numbers-i.result in
    let numbers = map Num c.args.numbers.now in
    let within : i < length c.args.numbers.now = omega (arith, c.requires, c.loop-i-test.true) in
    let read : get_or numbers i (Num x) ≡ Num x =
    get_or-map Num c.args.numbers.now i x (Num x) within ∙ ap Num (sym c.index-numbers-i.is) in
    let written : set (paste c.args.places.now 0 numbers i) (0 + i) (get_or numbers i (Num x))
    ≡ paste c.args.places.now 0 numbers (i + 1) =
    paste_more c.args.places.now 0 numbers i (Num x) (omega (arith, c.loop-i-test.true))
    (omega (arith, within, length-map c.args.numbers.now Num)) in
    let from_0 : i ≡ 0 + i = omega arith in
    ap (λ l. set l i (Num x)) c.loop-i.invariant
    ∙ ap (λ k. set (paste c.args.places.now 0 numbers i) k (Num x)) from_0
    ∙ ap (λ (v : Value). set (paste c.args.places.now 0 numbers i) (0 + i) v) (sym read)
    ∙ written
