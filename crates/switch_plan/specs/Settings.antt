-- What a decision rests on.
use Rattle.std.specs.Prelude.{◌≡◌, ℕ, length, IfSome}
use Rattle.cm_model.specs.Order.{set_of}
use Rattle.cm_model.specs.Scene.{Scene, controllers_in, active}
use Rattle.chain_order.specs.Links.{leaders_of}
use Rattle.switch_plan.specs.View.{scene_of, IsView, HasFlags}
use Rattle.switch_plan.specs.Relations.{relations_of}
use Rattle.switch_plan.specs.declared.setting.Setting.{Setting}

-- the scene of a setting
abbrev pub set_scene : Setting → Scene
set_scene s = scene_of s.view

-- its parts are those of its view
pub record IsSetting (s : Setting) : Type 0 where
  pub view : IsView s.view
  pub leaders : s.leaders.now ≡ leaders_of (controllers_in (scene_of s.view))
  pub rows : length s.leaders.now ≡ length (controllers_in (scene_of s.view))
  pub active : (p : ℕ) → set_of s.active.now p ≡ active (scene_of s.view) p
  pub flags : HasFlags (scene_of s.view) s.active.now
  pub relations : IfSome s.relations (λ w. w.now ≡ relations_of s.view.checked.now)
