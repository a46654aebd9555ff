use Rattle.std.proofs.Common.{◌≡◌, [], ◌++◌, ◌∙◌, ap, sym}
use Rattle.std.specs.Prelude.{option_map}
use Rattle.cm_model.specs.BestEffort.{faulty}
use Rattle.cm_model.specs.Scene.{loaded_all}
use Rattle.switch_plan.specs.Lists.{list_fault, first_dropped}
use Rattle.switch_plan.specs.Settings.{set_scene}
use Rattle.switch_plan.proofs.PickLemmas.{first_of_faulty, none_left_out}
use Rattle.switch_plan.proofs.lists.look_through.Goals as goal

-- the first that was dropped comes first of what speaks against the list
pub returns-in-Some : goal.returns-in-Some
returns-in-Some c =
    let scene = set_scene c.args.setting.now in
    let fault = list_fault scene (option_map (λ set. set.now) c.args.leaving) in
    let gone : c.sifted.new.dropped.items ≡ faulty fault [] c.args.picks.now =
    c.in_ok-members.ensures.dropped
    ∙ ap (λ before. before ++ faulty fault [] c.args.picks.now) c.new-dropped.ensures.items in
    first_of_faulty fault [] c.args.picks.now ∙ ap first_dropped (sym gone) ∙ sym c.first_dropped.ensures ∙ c.in-Some.is

-- none was dropped
pub returns-in-None : goal.returns-in-None
returns-in-None c =
    let scene = set_scene c.args.setting.now in
    let fault = list_fault scene (option_map (λ set. set.now) c.args.leaving) in
    let gone : c.sifted.new.dropped.items ≡ faulty fault [] c.args.picks.now =
    c.in_ok-members.ensures.dropped
    ∙ ap (λ before. before ++ faulty fault [] c.args.picks.now) c.new-dropped.ensures.items in
    let none = ap first_dropped (sym gone) ∙ sym c.first_dropped.ensures ∙ c.in-None.is in (
      first_of_faulty fault [] c.args.picks.now ∙ none,
      c.in_ok-members.ensures.members ∙ ap (loaded_all scene) (none_left_out fault [] c.args.picks.now none),
      c.in_ok-members.ensures.within,
    )
