use Rattle.std.proofs.Common.{◌∙◌}
use Rattle.cm_document.proofs.CycleLemmas.{found_where_listed}
use Rattle.cm_document.proofs.cycles.CycleLists.has.Goals as goal

pub returns : goal.returns
returns c =
    c.is_ok.ensures.value
    ∙ found_where_listed c.args.self.now.ascending.items c.args.cycle c.binary_search.result c.requires.ascend
    (rw c.deref.ensures.value at c.binary_search.ensures.position)
    ∙ c.requires.same.at c.args.cycle
