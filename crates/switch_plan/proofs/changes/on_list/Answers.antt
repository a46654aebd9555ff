use Rattle.std.proofs.Common.{ℕ, Bool, List, ◌∙◌, ap, sym, map}
use Rattle.std.specs.Prelude.{reverse, ◌||◌, not}
use Rattle.std.proofs.lemmas.Bool.{and_parts}
use Rattle.cm_model.specs.Order.{in_order}
use Rattle.cm_model.specs.Scene.{Scene, controllers_in, active}
use Rattle.cm_model.specs.Switches.{restarts, is_started}
use Rattle.cm_model.specs.declared.member.Member.{Member}
use Rattle.switch_plan.specs.Changes.{change_scene, after, again}
use Rattle.switch_plan.proofs.ChangeLemmas.{moved_in_order}
use Rattle.switch_plan.proofs.changes.on_list.Goals as goal

pub returns : goal.returns
returns c =
    let scene : Scene = change_scene c.args.change.now in
    let moves : ℕ → Bool = is_started scene (after c.args.change.now) (again c.args.change.now) in
    let serials : List Member → List ℕ = λ ms. reverse (map (λ m. m.serial) ms) in
    c.from_vec.ensures ∙ c.reverse.ensures.items ∙ ap reverse c.in_ok-list.ensures
    ∙ ap serials (c.deref-2.ensures.value ∙ c.in_ok-ordered.ensures.order
    ∙ ap (λ ms. in_order (controllers_in scene) (after c.args.change.now) ms)
    (c.deref.ensures.value ∙ c.in_ok-started.ensures.list)
    ∙ sym (moved_in_order (controllers_in scene) (after c.args.change.now) moves
    (λ p is. (and_parts (after c.args.change.now p)
    (not (active scene p) || restarts scene (after c.args.change.now) (again c.args.change.now) p) is).0) scene.loaded))
