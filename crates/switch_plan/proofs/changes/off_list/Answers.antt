use Rattle.std.proofs.Common.{ℕ, Bool, List, ◌∙◌, ap, sym, map}
use Rattle.std.specs.Prelude.{filter, ◌||◌, not}
use Rattle.std.proofs.lemmas.Bool.{and_parts}
use mathlib.Core.Path.{fun_ext}
use Rattle.cm_model.specs.Order.{set_of, in_order}
use Rattle.cm_model.specs.Scene.{Scene, controllers_in, active, member}
use Rattle.cm_model.specs.Switches.{restarts, is_stopped}
use Rattle.cm_model.specs.declared.member.Member.{Member}
use Rattle.switch_plan.specs.Changes.{change_scene, after, again}
use Rattle.switch_plan.proofs.ChangeLemmas.{moved_in_order}
use Rattle.switch_plan.proofs.changes.off_list.Goals as goal

pub returns : goal.returns
returns c =
    let scene : Scene = change_scene c.args.change.now in
    let moves : ℕ → Bool = is_stopped scene (after c.args.change.now) (again c.args.change.now) in
    let serials : List Member → List ℕ = λ ms. map (λ m. m.serial) ms in
    c.from_vec.ensures ∙ c.in_ok-list.ensures ∙ ap serials (c.deref-2.ensures.value ∙ c.in_ok-ordered.ensures.order
    ∙ ap (λ ms. in_order (controllers_in scene) (set_of c.args.change.now.setting.active.now) ms)
    (c.deref.ensures.value ∙ c.in_ok-stopped.ensures.list)
    ∙ ap (λ s. in_order (controllers_in scene) s (map member (filter (λ l. moves l.place) scene.loaded)))
    (fun_ext c.requires.setting.active)
    ∙ sym (moved_in_order (controllers_in scene) (active scene) moves
    (λ p is. (and_parts (active scene p)
    (not (after c.args.change.now p) || restarts scene (after c.args.change.now) (again c.args.change.now) p) is).0)
    scene.loaded))
