-- What calls ask of the controllers that they are given.
use Rattle.std.specs.Prelude.{◌≡◌, ℕ, Bool, List, Option, IfSome}
use Rattle.cm_model.specs.Order.{set_of}
use Rattle.cm_model.specs.Scene.{Scene, loaded_of, named}
use Rattle.cm_model.specs.declared.member.Member.{Member}
use Rattle.cm_model.specs.declared.seen.Seen.{Seen}
use Rattle.switch_plan.specs.View.{IsPlace, HavePlaces, HasFlags}
use Rattle.switch_plan.specs.Settings.{set_scene, IsSetting}
use Rattle.switch_plan.specs.declared.setting.Setting.{Setting}

-- This is the loaded controller of a name, in its place, or there is none.
pub record IsLoadedAs (scene : Scene) (name : List ℕ) (seen : Option Seen) : Type 0 where
  pub found : seen ≡ loaded_of scene name
  pub place : IfSome seen (λ l. IsPlace scene l.place)

-- These flags, one for each place, tell of the controllers that the names name.
pub record HaveMet (scene : Scene) (names : List (List ℕ)) (flags : List Bool) : Type 0 where
  pub length : HasFlags scene flags
  pub set : set_of flags ≡ named scene names

-- These can be put in the order of their updates in a set: it has a flag for each place, and each of them has its
-- place.
pub record CanOrder (s : Setting) (set : List Bool) (list : List Member) : Type 0 where
  pub setting : IsSetting s
  pub length : HasFlags (set_scene s) set
  pub within : HavePlaces (set_scene s) list

-- One more can join a set: it has its place, and the set a flag for each.
pub record CanJoin (s : Setting) (member : Member) (set : List Bool) : Type 0 where
  pub setting : IsSetting s
  pub within : IsPlace (set_scene s) member.place
  pub flags : HasFlags (set_scene s) set
