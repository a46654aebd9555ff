use Rattle.std.proofs.Common.{ℕ, List, Some, inr, sym, ◌∙◌, ap}
use Rattle.spawn_plan.proofs.OnceLemmas.{none_once, some_twice}
use Rattle.spawn_plan.proofs.wanted.each_once.Goals as goal

pub returns-in_ok-clone-in-Some : goal.returns-in_ok-clone-in-Some
returns-in_ok-clone-in-Some c =
    inr (
    some_twice c.args.wanted.now c.in_ok-clone-in-Some.field-0
    (sym (rw c.in-Some.is at c.repeated.ensures)
    ∙ ap (λ (name : List ℕ). Some name) (sym c.in_ok-clone-in-Some.ensures.cases)))

pub returns-in-None : goal.returns-in-None
returns-in-None c = none_once c.args.wanted.now (sym (rw c.in-None.is at c.repeated.ensures))
