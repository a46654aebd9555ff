use Rattle.std.proofs.Common.{◌≡◌, ◌<◌, length, ap, ◌∙◌, arith}
use Rattle.std.specs.Prelude.{All}
use Rattle.cm_model.specs.Order.{precedes_at}
use Rattle.cm_model.specs.declared.member.Member.{Member}
use Rattle.chain_order.specs.Links.{places_below}
use Rattle.chain_order.proofs.LinkLemmas.{length-each_below}
use Rattle.stop_plan.proofs.ReportLemmas.{whole_report}
use Rattle.rows_hardware.proofs.ends.end_of.Goals as goal

-- each described controller has its relations, and each active one is described
pub decided-requires : goal.decided-requires
decided-requires c =
    let cs = c.args.checked.now.controllers in
    let n = length cs in
    let count : length c.leaders.result.now ≡ n =
    ap length c.leaders.ensures ∙ ap (λ w. length w.leaders) c.in_ok-relations.ensures
    ∙ length-each_below (λ q. places_below (λ p. precedes_at cs p q) n) n in
    let ordered : All (λ (m : Member). m.place < n) c.in_ok-order.order.items =
    λ k m below. let here = c.in_ok-order.ensures k m below in omega (arith, count, here) in
    let within : All (λ (m : Member). m.place < n) c.deref.result.now = rw c.deref.ensures.value ordered in
    whole_report c.args.checked.now _ c.in_ok-relations.ensures within
