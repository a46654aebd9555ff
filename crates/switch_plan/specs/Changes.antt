-- A decision that is done.
use Rattle.cm_model.specs.Order.{Places, set_of}
use Rattle.cm_model.specs.Scene.{Scene}
use Rattle.switch_plan.specs.View.{scene_of, HasFlags}
use Rattle.switch_plan.specs.Settings.{IsSetting}
use Rattle.switch_plan.specs.declared.changes.Change.{Change}

-- the scene of a change
abbrev pub change_scene : Change → Scene
change_scene c = scene_of c.setting.view

-- the controllers that will be active
abbrev pub after : Change → Places
after c = set_of c.set.now

-- the named restarts
abbrev pub again : Change → Places
again c = set_of c.again.now

-- it rests on what it is decided by, and its set has a flag for each place
pub record IsChange (c : Change) : Type 0 where
  pub setting : IsSetting c.setting
  pub flags : HasFlags (scene_of c.setting.view) c.set.now
