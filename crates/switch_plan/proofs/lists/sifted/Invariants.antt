use Rattle.std.proofs.Common.{◌≡◌, ◌<◌, ◌++◌, [], length, drop, take}
use Rattle.std.specs.Prelude.{All, option_map}
use Rattle.cm_document.specs.Picks.{picked_names}
use Rattle.cm_model.specs.Scene.{controllers_in, loaded_all}
use Rattle.cm_model.specs.BestEffort.{faulty, faultless}
use Rattle.switch_plan.specs.Calls.Members.{HaveMet}
use Rattle.switch_plan.specs.Lists.{list_fault}
use Rattle.switch_plan.specs.View.{scene_of}
use Rattle.switch_plan.proofs.lists.sifted.Given as goal

-- what was found so far, and what is found of the rest, are all
abbrev pub invariant-loop-index : goal.invariant-loop-index
invariant-loop-index l = record {
  met : HaveMet (scene_of l.setting.view) (picked_names (take l.index l.picks)) l.met;
  within : All (λ m. m.place < length (controllers_in (scene_of l.setting.view))) l.list.items;
  members : l.list.items
      ++ loaded_all (scene_of l.setting.view)
      (faultless (list_fault (scene_of l.setting.view) (option_map (λ set. set.now) l.leaving))
      (picked_names (take l.index l.picks)) (drop l.index l.picks))
      ≡ loaded_all (scene_of l.setting.view)
      (faultless (list_fault (scene_of l.setting.view) (option_map (λ set. set.now) l.leaving)) [] l.picks);
  dropped : l.dropped.items
      ++ faulty (list_fault (scene_of l.setting.view) (option_map (λ set. set.now) l.leaving))
      (picked_names (take l.index l.picks)) (drop l.index l.picks)
      ≡ l.fn.dropped.items
      ++ faulty (list_fault (scene_of l.setting.view) (option_map (λ set. set.now) l.leaving)) [] l.picks;
}
