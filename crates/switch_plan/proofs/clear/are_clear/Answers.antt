use Rattle.std.proofs.Common.{◌≡◌, Bool, false, sym, ◌∙◌, subst}
use Rattle.std.specs.Prelude.{not}
use Rattle.std.specs.List.{list_any}
use Rattle.std.proofs.lemmas.Bool.{not-true}
use Rattle.cm_model.specs.Order.{set_of}
use Rattle.switch_plan.specs.View.{scene_of}
use Rattle.switch_plan.specs.Relations.{Related, is_clear}
use Rattle.switch_plan.proofs.ClearLemmas.{none_counts}
use Rattle.switch_plan.proofs.clear.are_clear.Goals as goal

pub returns : goal.returns
returns c = λ yes.
    let scene = scene_of c.args.view.now in
    let some : Related
    → Bool = λ w. list_any (λ l. not (is_clear scene w (set_of c.args.set.now) (set_of c.args.on.now) l.place))
    scene.loaded in
    none_counts scene (set_of c.args.set.now) (set_of c.args.on.now) c.requires.view
    (subst (λ w. some w ≡ false) c.requires.relations
    (not-true (some c.args.relations.now) (sym c.is_each_clear.ensures ∙ yes)))
