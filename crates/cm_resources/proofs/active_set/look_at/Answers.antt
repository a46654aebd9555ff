use Rattle.std.proofs.Common.{◌≡◌, None, length, replicate, subst, sym, ap, ◌∙◌, arith}
use Rattle.std.proofs.lemmas.List.{drop_all}
use Rattle.cm_resources.specs.ActiveSet.{noted_all, TellsActive}
use Rattle.cm_resources.proofs.ActiveSetLemmas.{told_of_all}
use Rattle.cm_resources.proofs.active_set.look_at.Goals as goal

-- all are noted
pub returns : goal.returns
returns g c =
    let ls = c.args.slots.now in
    let count = length c.args.active.now in
    let i = c.loop-slot.slot-index in
    let all : c.loop-slot.active ≡ noted_all ls (replicate count None) =
    ap (λ rest. noted_all rest c.loop-slot.active) (sym (drop_all i ls (omega (arith, c.loop-slot-test.false))))
    ∙ c.loop-slot.invariant.noted in
    subst (TellsActive count ls) (sym all) (told_of_all ls count c.requires)
