use Rattle.std.proofs.Common.{◌≡◌, ◌∙◌, ap, sym}
use Rattle.cm_model.specs.Order.{set_of}
use Rattle.cm_model.specs.Switches.{switched, done, planned}
use Rattle.switch_plan.specs.Settings.{set_scene}
use Rattle.switch_plan.proofs.StrictLemmas.{switched-made, between-refused, between-done}
use Rattle.switch_plan.proofs.strict.strict_between.Goals as goal

pub returns-in-Some : goal.returns-in-Some
returns-in-Some c =
    let scene = set_scene c.args.setting.now in
    let is : set_of c.in_ok-set.set ≡ switched scene (set_of c.args.leaving.now) (set_of c.args.coming.now) =
    switched-made scene (set_of c.in_ok-without.field-0) (set_of c.args.setting.now.active.now)
    (set_of c.args.leaving.now) (set_of c.args.coming.now) (set_of c.in_ok-set.set)
    c.requires.setting.active c.in_ok-without.ensures.set c.in_ok-set.ensures.set in
    c.in_ok-plan.ensures
    ∙ sym (between-refused scene (set_of c.args.leaving.now) (set_of c.args.coming.now) (set_of c.in_ok-set.set) is
    c.in-Some.because
    (sym c.in_ok-because.ensures ∙ c.in-Some.is))

pub returns : goal.returns
returns c =
    let scene = set_scene c.args.setting.now in
    let is : set_of c.in_ok-set.set ≡ switched scene (set_of c.args.leaving.now) (set_of c.args.coming.now) =
    switched-made scene (set_of c.in_ok-without.field-0) (set_of c.args.setting.now.active.now)
    (set_of c.args.leaving.now) (set_of c.args.coming.now) (set_of c.in_ok-set.set)
    c.requires.setting.active c.in_ok-without.ensures.set c.in_ok-set.ensures.set in
    c.in_ok-plan-2.ensures
    ∙ ap (λ d. planned scene (done d (set_of c.in_ok-set.set) (set_of c.in_ok-again.again))) c.new.ensures.items
    ∙ sym (between-done scene (set_of c.args.leaving.now) (set_of c.args.coming.now) (set_of c.in_ok-set.set) is
    (set_of c.in_ok-again.again) c.in_ok-again.ensures.set
    (sym c.in_ok-because.ensures ∙ c.in_default.is))
