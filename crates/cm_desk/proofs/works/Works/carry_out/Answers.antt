use Rattle.std.proofs.Common.{◌≡◌, false, refl, sym, ap, subst, ◌∙◌}
use Rattle.cm_model.specs.Boundary.{after_fallbacks, all_concluded, waiting}
use Rattle.cm_model.specs.State.{State}
use Rattle.cm_model.specs.Steady.{IsSteady}
use Rattle.request_plan.specs.Plans.{AreConclusionsOf}
use Rattle.sound_laws.proofs.BoundaryLemmas.{emptied_steady}
use Rattle.cm_desk.specs.Begin.{CanAct}
use Rattle.cm_desk.proofs.BeginLemmas.{stood_with, stood_without, stood_down}
use Rattle.cm_desk.proofs.works.Works.carry_out.Goals as goal

-- ---- Somebody is to stand in

pub act-requires-clause-down : goal.act-requires-clause-down
act-requires-clause-down g c = c.requires.down

pub act-requires-clause-steady : goal.act-requires-clause-steady
act-requires-clause-steady g c =
    let left = c.requires.can.1 in
    subst IsSteady (sym left.emptied) (emptied_steady c.requires.can.0 left.steady)

-- what was concluded of those can be done in the state in which nobody is to stand in any more,
pub act-requires-clause-can : goal.act-requires-clause-can
act-requires-clause-can g c =
    let s = c.requires.can.0 in
    let left = c.requires.can.1 in (
      after_fallbacks s,
      subst (λ (t : State). CanAct t (after_fallbacks s) c.in-Some.conclusion.act) (sym left.emptied)
          (stood_with s s.fallbacks c.in-Some.conclusion left.steady (rw (c.in-Some.is) at left.first)),
    )

-- and then the requests are decided
pub decide_all-requires-clause-down : goal.decide_all-requires-clause-down
decide_all-requires-clause-down g c =
    let s = c.requires.can.0 in
    let left = c.requires.can.1 in
    let can = subst (λ (t : State). CanAct t (after_fallbacks s) c.in-Some.conclusion.act) (sym left.emptied)
    (stood_with s s.fallbacks c.in-Some.conclusion left.steady (rw (c.in-Some.is) at left.first)) in
    let down : s.aloft ≡ false = ap (λ (t : State). t.aloft) (sym left.emptied) ∙ c.requires.down in
    ap (λ (t : State). t.aloft) (c.act.ensures (after_fallbacks s) can) ∙ stood_down s s.fallbacks down

pub decide_all-requires-clause-steady : goal.decide_all-requires-clause-steady
decide_all-requires-clause-steady g c =
    let s = c.requires.can.0 in
    let left = c.requires.can.1 in
    let can = subst (λ (t : State). CanAct t (after_fallbacks s) c.in-Some.conclusion.act) (sym left.emptied)
    (stood_with s s.fallbacks c.in-Some.conclusion left.steady (rw (c.in-Some.is) at left.first)) in
    subst IsSteady (sym (c.act.ensures (after_fallbacks s) can)) can.steady

pub decide_all-requires-clause-concluded : goal.decide_all-requires-clause-concluded
decide_all-requires-clause-concluded g c =
    let s = c.requires.can.0 in
    let left = c.requires.can.1 in
    let can = subst (λ (t : State). CanAct t (after_fallbacks s) c.in-Some.conclusion.act) (sym left.emptied)
    (stood_with s s.fallbacks c.in-Some.conclusion left.steady (rw (c.in-Some.is) at left.first)) in
    subst (λ (t : State). AreConclusionsOf t (waiting t) c.args.conclusions.items)
    (sym (c.act.ensures (after_fallbacks s) can)) left.conclusions

pub returns-in-Some : goal.returns-in-Some
returns-in-Some g c = λ s left.
    let can = subst (λ (t : State). CanAct t (after_fallbacks s) c.in-Some.conclusion.act) (sym left.emptied)
    (stood_with s s.fallbacks c.in-Some.conclusion left.steady (rw (c.in-Some.is) at left.first)) in
    c.decide_all.ensures ∙ ap (λ (t : State). all_concluded t (waiting t)) (c.act.ensures (after_fallbacks s) can)

-- ---- Nobody is

pub decide_all-requires-in-None-clause-down : goal.decide_all-requires-in-None-clause-down
decide_all-requires-in-None-clause-down g c = c.requires.down

pub decide_all-requires-in-None-clause-steady : goal.decide_all-requires-in-None-clause-steady
decide_all-requires-in-None-clause-steady g c =
    let left = c.requires.can.1 in
    subst IsSteady (sym left.emptied) (emptied_steady c.requires.can.0 left.steady)

pub decide_all-requires-in-None-clause-concluded : goal.decide_all-requires-in-None-clause-concluded
decide_all-requires-in-None-clause-concluded g c =
    let s = c.requires.can.0 in
    let left = c.requires.can.1 in
    subst (λ (t : State). AreConclusionsOf t (waiting t) c.args.conclusions.items)
    (sym (stood_without s c.args.self.now s.fallbacks left.emptied refl (rw (c.in-None.is) at left.first)))
    left.conclusions

pub returns-in-None : goal.returns-in-None
returns-in-None g c = λ s left.
    c.decide_all-in-None.ensures
    ∙ ap (λ (t : State). all_concluded t (waiting t))
    (stood_without s c.args.self.now s.fallbacks left.emptied refl (rw (c.in-None.is) at left.first))
