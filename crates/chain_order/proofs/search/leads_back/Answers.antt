use Rattle.std.proofs.Common.{◌≡◌, ◌∙◌, ap, get_or, false}
use Rattle.chain_order.proofs.SearchLemmas.{IsSearch-followed, IsSearch-ended, waiting_below}
use Rattle.chain_order.proofs.search.leads_back.Goals as goal

pub row-requires-in-Some : goal.row-requires-in-Some
row-requires-in-Some c =
    waiting_below c.args.links.now c.args.start c.in-Some.place c.next.new.self.waiting c.loop-place.search
    c.loop-place.invariant c.in-Some.ensures.waiting

pub loop-place-preserved : goal.loop-place-preserved
loop-place-preserved c =
    IsSearch-followed c.args.links.now c.args.start c.in-Some.place c.loop-place.search c.next.new.self
    c.spread-in-Some.new.self c.loop-place.invariant
    c.in-Some.ensures.reached c.in-Some.ensures.waiting (rw c.row-in-Some.ensures.row at c.in_ok-spread-2.ensures)

pub returns : goal.returns
returns c =
    let e : c.has_reached.result ≡ get_or c.loop-place.search.reached c.args.start false =
    c.has_reached.ensures ∙ ap (λ r. get_or r c.args.start false) c.in_default.ensures.reached in
    rw e (IsSearch-ended c.args.links.now c.args.start c.loop-place.search c.loop-place.invariant
    c.in_default.ensures.none_waits c.args.start)
