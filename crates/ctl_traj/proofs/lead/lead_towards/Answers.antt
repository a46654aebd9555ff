use Rattle.std.proofs.Common.{◌≡◌, ◌+◌, ◌<◌, [], ◌++◌, length, map, drop, get_or, set, sym, ap, ap₂, ◌∙◌, ℤ, arith}
use Rattle.std.specs.List.{zip}
use Rattle.std.proofs.lemmas.List.{get_or-map, length-map, drop_all, append-nil}
use Rattle.std.proofs.lemmas.List.Edits.{paste_more, paste_all}
use Rattle.std.proofs.lemmas.Slice.Zip.{get_or-zip, length-zip}
use lib.Seq.{paste}
use Rattle.fixed_num.specs.declared.value.Value.{Value}
use Rattle.fixed_num.specs.declared.value.Value.TheVariants.{Num}
use Rattle.cm_model.specs.Ways.{on_segment, towards}
use Rattle.ctl_traj.proofs.SegmentLemmas.{length_towards}
use Rattle.ctl_traj.proofs.lead.lead_towards.Goals as goal

pub loop-i-preserved : goal.loop-i-preserved
loop-i-preserved c =
    let i = c.loop-i.i in
    let from = c.args.from.now in
    let to = c.args.point.now.values in
    let x = c.index-from-i.result in
    let y = c.index-to-i.result in
    let f = on_segment c.args.t c.args.t0 c.args.point.now.at_us in
    let lines = map f (zip from to) in
    let values = map Num lines in
    let v : ℤ = f (x, y) in
    let in_from : i < length from = omega (arith, c.requires.whole, c.loop-i-test.true) in
    let in_to : i < length to = omega (arith, c.requires.fit, c.loop-i-test.true) in
    let in_zip : i < length (zip from to) = omega (arith, in_from, in_to, length-zip from to) in
    let in_lines : i < length lines = omega (arith, in_zip, length-map (zip from to) f) in
    let y_is : y ≡ get_or to i y = rw c.as_slice-to.ensures at c.index-to-i.is in
    let ends : get_or (zip from to) i (x, y) ≡ (x, y) =
    get_or-zip from to i (x, y) in_from in_to ∙ ap₂ (λ a b. (a, b)) (sym c.index-from-i.is) (sym y_is) in
    let read : get_or values i (Num v) ≡ Num v =
    get_or-map Num lines i v (Num v) in_lines ∙ ap Num (get_or-map f (zip from to) i (x, y) v in_zip ∙ ap f ends) in
    let long : length values ≡ length lines = length-map lines Num in
    let written : set (paste c.args.outs.now 0 values i) (0 + i) (get_or values i (Num v))
    ≡ paste c.args.outs.now 0 values (i + 1) =
    paste_more c.args.outs.now 0 values i (Num v) (omega (arith, c.loop-i-test.true)) (omega (arith, in_lines, long)) in
    let from_0 : i ≡ 0 + i = omega arith in
    ap (λ (z : ℤ). set c.loop-i.outs i (Num z)) c.on_segment.ensures
    ∙ ap (λ l. set l i (Num v)) c.loop-i.invariant
    ∙ ap (λ k. set (paste c.args.outs.now 0 values i) k (Num v)) from_0
    ∙ ap (λ (w : Value). set (paste c.args.outs.now 0 values i) (0 + i) w) (sym read)
    ∙ written

pub returns : goal.returns
returns c =
    let i = c.loop-i.i in
    let outs = c.args.outs.now in
    let point = c.args.point.now in
    let from = c.args.from.now in
    let led = towards c.args.t c.args.t0 from point in
    let values = map Num led in
    let each = length_towards c.args.t c.args.t0 from point (c.requires.whole ∙ sym c.requires.fit) in
    let long : length values ≡ length outs = omega (arith, length-map led Num, each, c.requires.whole) in
    let all : i ≡ length values = omega (arith, long, c.loop-i-test.false, c.loop-i.auto.i-end) in
    let rest : drop (0 + i) outs ≡ [] = drop_all (0 + i) outs (omega (arith, all, long)) in
    c.loop-i.invariant ∙ paste_all outs 0 values i all ∙ ap (λ l. values ++ l) rest ∙ append-nil values
