use Rattle.std.proofs.Common.{◌≡◌, drop}
use Rattle.std.specs.Prelude.{find}
use Rattle.iface_names.specs.Names.{same_name}
use Rattle.cm_model.specs.Scene.{described, loaded_of}
use Rattle.switch_plan.specs.View.{scene_of}
use Rattle.switch_plan.proofs.members.loaded_as_called.Given as goal

-- the controllers so far have other names
abbrev pub invariant-loop-seen : goal.invariant-loop-seen
invariant-loop-seen l =
    find (λ s. same_name (described (scene_of l.view) s.place).name l.name) (drop l.seen-index l.view.loaded.now)
    ≡ loaded_of (scene_of l.view) l.name
