use Rattle.std.proofs.Common.{◌≡◌, ◌+◌, ◌∙◌, ◌∷◌, ◌++◌, [], ap, refl, sym, subst, take, drop, get_or}
use Rattle.std.specs.Prelude.{option_map}
use Rattle.cm_document.specs.Picks.{picked_names}
use Rattle.cm_document.specs.declared.call.Pick.TheVariants.{One, Group}
use Rattle.cm_model.specs.BestEffort.{faulty, faultless}
use Rattle.cm_model.specs.Scene.{loaded_all}
use Rattle.cm_model.specs.Switches.{with_name}
use Rattle.cm_model.specs.declared.cause.Cause.TheVariants as cause
use Rattle.switch_plan.specs.Calls.Members.{HaveMet}
use Rattle.switch_plan.specs.Lists.{list_fault}
use Rattle.switch_plan.specs.Settings.{set_scene}
use Rattle.switch_plan.proofs.PickLemmas.{names_more, faultless_dropped, faultless_kept, faulty_dropped, faulty_kept}
use Rattle.switch_plan.proofs.PickLemmas.{names_same, faultless_group, faulty_group, dropped_more, found_more}
use Rattle.switch_plan.proofs.lists.sifted.Goals as goal
use Rattle.switch_plan.proofs.lists.sifted.Goals.{in-Some+in_ok-drop_for-in-Some, in-None+in_ok-push_seen-in-None}

pub loop-index-preserved-in-Group : goal.loop-index-preserved-in-Group
loop-index-preserved-in-Group c =
    let scene = set_scene c.args.setting.now in
    let picks = c.args.picks.now in
    let i = c.loop-index.index in
    let pick = c.index-picks-index.result in
    let name = c.in-Group.name in
    let is : get_or picks i pick ≡ Group name = sym c.index-picks-index.is ∙ c.in-Group.is in
    let within = c.loop-index-test.true in
    let fault = list_fault scene (option_map (λ set. set.now) c.args.leaving) in
    record {
      met = subst (λ names. HaveMet scene names c.loop-index.met) (sym (names_same picks i pick name within is))
          c.loop-index.invariant.met;
      within = c.loop-index.invariant.within;
      members =
          ap (λ names. c.loop-index.list.items ++ loaded_all scene names)
          (faultless_group picks i pick name within is fault)
          ∙ c.loop-index.invariant.members;
      dropped =
          dropped_more c.loop-index.dropped.items _
          (faulty fault (picked_names (take (i + 1) picks)) (drop (i + 1) picks)) (with_name name cause.NoGroup)
          c.in_ok-drop_for-in-Group.ensures
          ∙ ap (λ more. c.loop-index.dropped.items ++ more) (faulty_group picks i pick name within is fault)
          ∙ c.loop-index.invariant.dropped;
    }

pub loop-index-preserved : goal.loop-index-preserved
loop-index-preserved c =
    let scene = set_scene c.args.setting.now in
    let picks = c.args.picks.now in
    let i = c.loop-index.index in
    let pick = c.index-picks-index.result in
    let name = c.in-One.name in
    let is : get_or picks i pick ≡ One name = sym c.index-picks-index.is ∙ c.in-One.is in
    let within = c.loop-index-test.true in
    let fault = list_fault scene (option_map (λ set. set.now) c.args.leaving) in
    let met = subst (λ names. HaveMet scene names c.meet.new.met) (sym (names_more picks i pick name within is))
    c.meet.ensures in
    let names = picked_names (take (i + 1) picks) in
    let rest = drop (i + 1) picks in
    elim c.match-list_fault.branch [
      | in-Some+in_ok-drop_for-in-Some w ↦
          let reason = w.in-Some.cause in
          let some = sym c.list_fault.ensures ∙ w.in-Some.is in
          record {
            met = met;
            within = rw w.list-is c.loop-index.invariant.within;
            members =
                rw w.list-is
                (ap (λ kept. c.loop-index.list.items ++ loaded_all scene kept)
                (faultless_dropped picks i pick name within is fault reason some)
                ∙ c.loop-index.invariant.members);
            dropped =
                rw w.dropped-is
                (dropped_more c.loop-index.dropped.items _ (faulty fault names rest) (with_name name reason)
                w.in_ok-drop_for-in-Some.ensures
                ∙ ap (λ more. c.loop-index.dropped.items ++ more)
                (faulty_dropped picks i pick name within is fault reason some)
                ∙ c.loop-index.invariant.dropped);
          }
      | in-None+in_ok-push_seen-in-None w ↦
          let none = sym c.list_fault.ensures ∙ w.in-None.is in
          record {
            met = met;
            within = rw w.list-is w.in_ok-push_seen-in-None.ensures.within;
            members =
                rw w.list-is
                (found_more scene c.loop-index.list.items _ name (faultless fault names rest)
                w.in_ok-push_seen-in-None.ensures.list
                ∙ ap (λ kept. c.loop-index.list.items ++ loaded_all scene kept)
                (faultless_kept picks i pick name within is fault none)
                ∙ c.loop-index.invariant.members);
            dropped =
                rw w.dropped-is
                (ap (λ more. c.loop-index.dropped.items ++ more) (faulty_kept picks i pick name within is fault none)
                ∙ c.loop-index.invariant.dropped);
          }
    ]
