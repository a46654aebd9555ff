use Rattle.std.proofs.Common.{◌≡◌, suc, ◌+◌, ◌≤◌, List, Bool, true, refl, sym, ◌∙◌, ap, length, arith}
use Rattle.std.specs.Cmp.{booleans_Decides}
use Rattle.std.proofs.lemmas.Slice.Eq.{slice_eq-Decides}
use Rattle.std.specs.Prelude.{◌&&◌, not}
use Rattle.cm_model.specs.Order.{set_of}
use Rattle.cm_model.specs.Scene.{controllers_in, is_running}
use Rattle.cm_model.specs.BestEffort.{stays_more, stays_within}
use Rattle.chain_order.specs.Links.{each_below}
use Rattle.chain_order.proofs.LinkLemmas.{length-each_below, each_below-same}
use Rattle.switch_plan.specs.Settings.{set_scene}
use Rattle.switch_plan.proofs.TestLemmas.{has_seen-past}
use Rattle.switch_plan.proofs.StayLemmas.{flags-each_below, staying_flags, one_round, settled, staying_set}
use Rattle.switch_plan.proofs.best.stays.Goals as goal

pub loop-round-init : goal.loop-round-init
unfolding stays_within
loop-round-init c =
    let scene = set_scene c.args.setting.now in
    let n = length (controllers_in scene) in
    flags-each_below c.in_ok-staying.staying n (c.in_ok-staying.ensures.length ∙ c.requires.flags)
    ∙ each_below-same (set_of c.in_ok-staying.staying) (stays_within scene (set_of c.args.leaving.now) 0) n
    (λ p _. ap (λ f. f p) c.in_ok-staying.ensures.set
    ∙ ap (λ a. a && not (set_of c.args.leaving.now p)) (c.requires.active p))

pub loop-round-preserved : goal.loop-round-preserved
loop-round-preserved c =
    let scene = set_scene c.args.setting.now in
    let more : suc c.loop-round._round ≡ c.loop-round._round + 1 = omega arith in
    c.in_ok-more.ensures
    ∙ ap (λ (flags : List Bool). each_below (stays_more scene (set_of flags)) (length (controllers_in scene)))
    c.loop-round.invariant
    ∙ one_round scene (set_of c.args.leaving.now) c.loop-round._round
    ∙ ap (staying_flags scene (set_of c.args.leaving.now)) more

pub returns-clause-length : goal.returns-clause-length
returns-clause-length c =
    let scene = set_scene c.args.setting.now in
    ap length c.loop-round.invariant
    ∙ length-each_below (stays_within scene (set_of c.args.leaving.now) c.loop-round._round)
    (length (controllers_in scene))

pub returns-then-eq-clause-length : goal.returns-then-eq-clause-length
returns-then-eq-clause-length c =
    let scene = set_scene c.args.setting.now in
    ap length c.loop-round.invariant
    ∙ length-each_below (stays_within scene (set_of c.args.leaving.now) c.loop-round._round)
    (length (controllers_in scene))

pub returns-then-eq-clause-set : goal.returns-then-eq-clause-set
returns-then-eq-clause-set c =
    let scene = set_scene c.args.setting.now in
    let away = set_of c.args.leaving.now in
    let n = length (controllers_in scene) in
    let k = c.loop-round._round in
    let same : c.in_ok-more.more ≡ c.loop-round.staying =
    sym c.flags.ensures
    ∙ (slice_eq-Decides booleans_Decides c.flags.result.now c.flags-in-loop-round.result.now true c.if-eq.ensures).0
    refl ∙ c.flags-in-loop-round.ensures in
    let settles : staying_flags scene away (suc k) ≡ staying_flags scene away k =
    sym (one_round scene away k)
    ∙ ap (λ (flags : List Bool). each_below (stays_more scene (set_of flags)) n) (sym c.loop-round.invariant)
    ∙ sym c.in_ok-more.ensures ∙ same ∙ c.loop-round.invariant in
    let most : k ≤ n = omega (arith, c.loop-round-test.true, ap length c.controllers-round-end.ensures) in
    ap set_of (c.loop-round.invariant ∙ settled scene away k most settles)
    ∙ staying_set scene away
    (λ p above. has_seen-past (λ l. is_running l.life) n c.args.setting.now.view.loaded.now c.requires.view p above)

pub returns-clause-set : goal.returns-clause-set
returns-clause-set c =
    let scene = set_scene c.args.setting.now in
    let n = length (controllers_in scene) in
    let all : c.loop-round._round ≡ n =
    omega (arith, c.loop-round-test.false, c.loop-round.auto._round-end, ap length c.controllers-round-end.ensures) in
    ap set_of (c.loop-round.invariant ∙ ap (staying_flags scene (set_of c.args.leaving.now)) all)
    ∙ staying_set scene (set_of c.args.leaving.now)
    (λ p above. has_seen-past (λ l. is_running l.life) n c.args.setting.now.view.loaded.now c.requires.view p above)
