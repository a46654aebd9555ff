use Rattle.std.proofs.Common.{Err, inr, sym, ap, map, ◌∙◌}
use Rattle.desc_check.proofs.MemberLemmas.{members_unknown}
use Rattle.desc_check.proofs.members.are_described.Goals as goal

pub returns-in_ok-no_member-in-Some : goal.returns-in_ok-no_member-in-Some
returns-in_ok-no_member-in-Some c =
    inr (members_unknown (map (λ each. each.name) c.args.described.now) c.args.group.now c.in-Some.name.now
    (rw c.in-Some.is at c.unknown.ensures)
    ∙ ap (λ fault. Err fault) (sym c.in_ok-no_member-in-Some.ensures))
