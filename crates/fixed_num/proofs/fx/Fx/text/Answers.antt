use Rattle.std.proofs.Common.{rules, ◌≤◌, nat_abs, arith}
use Rattle.std.specs.Prelude.{IsUtf8}
use Rattle.std.proofs.lemmas.Int.{ints}
use Rattle.fixed_num.specs.Micro.{IsInRange}
use Rattle.fixed_num.proofs.SpellingLemmas.{spelled_IsUtf8}
use Rattle.fixed_num.proofs.fx.Fx.text.Goals as goal

-- the spelling is text, so it is not refused as none
pub unreachable-requires : goal.unreachable-requires
unreachable-requires c =
    let range : IsInRange c.args.self = search rules in
    let small : nat_abs c.args.self ≤ 1000000000000000 = omega (arith, ints) in
    let text = spelled_IsUtf8 c.args.self small in
    let bytes : IsUtf8 c.push_text.new.text.items =
    rw (c.in_ok-push_text.ensures.bytes, c.in_ok-bytes.ensures.items) text in
    let fits = c.in-Err.ensures.succeeds bytes in
    cc
