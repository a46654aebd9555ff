use Rattle.std.proofs.Common.{◌≡◌, rules}
use Rattle.std.proofs.lemmas.List.Sorted.{IsNonDecreasingBy-from_sort}
use Rattle.cm_document.proofs.CycleLemmas.{same_in_order}
use Rattle.cm_document.proofs.cycles.CycleLists.of.Goals as goal

pub returns-clause-look_up : goal.returns-clause-look_up
returns-clause-look_up c =
    let copied : c.in_ok-ascending.ascending.items ≡ c.args.listed.items = search rules in
    record {
      ascend = IsNonDecreasingBy-from_sort (λ n. n) c.sort_unstable.new.self.items c.sort_unstable.ensures.sorted;
      same =
          same_in_order c.args.listed.items c.sort_unstable.new.self.items
          (rw copied at c.sort_unstable.ensures.permutation);
    }
