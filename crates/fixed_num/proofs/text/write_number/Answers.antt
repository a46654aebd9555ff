use Rattle.std.proofs.Common.{rules, ◌≤◌, nat_abs, arith}
use Rattle.std.specs.Prelude.{IsUtf8}
use Rattle.std.proofs.lemmas.Int.{ints}
use Rattle.fixed_num.specs.Micro.{IsInRange}
use Rattle.fixed_num.proofs.SpellingLemmas.{spelled_IsUtf8}
use Rattle.fixed_num.proofs.text.write_number.Goals as goal

-- the spelling is text, so it is not refused as none
pub unreachable-requires : goal.unreachable-requires
unreachable-requires g c =
    let range : IsInRange c.args.number = search rules in
    let small : nat_abs c.args.number ≤ 1000000000000000 = omega (arith, ints) in
    let bytes : IsUtf8 c.bytes.result.now =
    rw (c.bytes.ensures.bytes, c.put_number.ensures) (spelled_IsUtf8 c.args.number small) in
    c.in-Err.ensures.cases.0 bytes
