use Rattle.std.proofs.Common.{◌≡◌, ◌≤◌, pos, ◌*ℤ◌, nat_abs, ◌∙◌, arith}
use Rattle.std.proofs.lemmas.Int.{ints}
use mir.Val.{to_z, of_z}
use mir.Syntax.{w64, w128}
use Rattle.fixed_num.specs.Arithmetic.{floor_div}
use Rattle.ctl_traj.proofs.SegmentLemmas.{share_no_more}
use Rattle.ctl_traj.proofs.segment.share.Goals as goal

-- what the 128 bits hold is the share, which is no more than the way
wide_is_share : (c : goal.After-wide_share)
    → c.wide_share.result ≡ floor_div (c.args.way *ℤ pos c.args.gone) (pos c.args.time)
wide_is_share c =
    let way : to_z w64 (of_z w64 c.args.way) ≡ c.args.way = omega (arith, ints) in
    rw way at c.wide_share.ensures

wide_no_more : (c : goal.After-wide_share) → nat_abs c.wide_share.result ≤ nat_abs c.args.way
wide_no_more c = rw (wide_is_share c) (share_no_more c.args.way c.args.gone c.args.time c.requires.part)

back_again : (c : goal.After-wide_share)
    → to_z w64 (of_z w64 (to_z w128 (of_z w128 c.wide_share.result))) ≡ c.wide_share.result
back_again c = omega (arith, ints, wide_no_more c, c.requires)

pub overflow_cast-result : goal.overflow_cast-result
overflow_cast-result c = omega (arith, ints, wide_no_more c, c.requires)

pub returns-in-None-clause-value : goal.returns-in-None-clause-value
returns-in-None-clause-value c = back_again c ∙ wide_is_share c

pub returns-in-None-clause-no_more : goal.returns-in-None-clause-no_more
returns-in-None-clause-no_more c = rw (back_again c) (wide_no_more c)
