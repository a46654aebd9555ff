use Rattle.std.proofs.Common.{◌≡◌, get_or, false, rules}
use Rattle.chain_order.proofs.SearchLemmas.{Spreads-fresh}
use Rattle.chain_order.proofs.search.Search.reach.Goals as goal

pub returns-in_ok-push : goal.returns-in_ok-push
returns-in_ok-push c =
    let unreached : get_or c.args.self.now.reached c.args.place false ≡ false = search rules in
    Spreads-fresh c.args.self.now _ c.args.place c.requires unreached (search rules) (search rules)
