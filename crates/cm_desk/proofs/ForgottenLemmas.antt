-- What works in a cycle has no list of those whose update failed any more, so nobody is to stand in.
use Rattle.std.proofs.Common.{◌≡◌, ℕ, Bool, false, List, [], map, vec_capacity, refl, sym, ap, subst, ◌∙◌}
use Rattle.std.specs.List.{AllByRecursion}
use Rattle.cm_document.specs.declared.description.Description.{Description}
use Rattle.cm_model.specs.State.{State}
use Rattle.cm_model.specs.Steady.{IsSteady}
use Rattle.cm_model.specs.declared.blanks.Blanks.{Blanks}
use Rattle.cm_slots.specs.Slots.{Slotted}
use Rattle.request_plan.specs.Plans.{IsPlanOf}
use Rattle.request_plan.specs.Requests.{Asked}
use Rattle.request_plan.specs.declared.plans.Plan.{Plan}
use Rattle.rt_flight.specs.Workspaces.{IsFitted}
use Rattle.rt_flight.specs.declared.robot.Robot.{Robot}
use Rattle.cm_resources.specs.CycleResources.{Base, base_of, HasForgotten, IsMadeReady}
use Rattle.cm_desk.specs.Begin.{IsLeftOf}
use Rattle.cm_resources.specs.ActiveSet.{Listed}
use Rattle.cm_resources.specs.CycleNeeds.{AreKept, stands_for}
use Rattle.cm_desk.specs.Works.{IsKept, state_with}
use Rattle.cm_resources.specs.declared.resources.CycleResources.{CycleResources}
use Rattle.cm_resources.specs.declared.resources.CycleBuffers.{CycleBuffers}
use Rattle.cm_desk.specs.declared.works.Works.TheInside.{Inside}
use Rattle.cm_desk.proofs.AfterLemmas.{kept_idle, used_idle}
use Rattle.cm_desk.proofs.Insides.{base_in, state_of}
use Rattle.cm_desk.proofs.KeptLemmas.{kept_after_ask}

-- what is kept of a state is kept over resources that have forgotten who failed
pub kept_forgotten : (s : State) (names : List (List ℕ)) (before after : CycleResources) (m n : ℕ) (looked : Listed)
    → IsKept s names (base_of before m) looked → s.aloft ≡ false
    → AreKept before.robot.value.places before.buffers.workspaces.items before.members.value.items
    → HasForgotten before after → IsKept s names (base_of after n) looked
kept_forgotten s names before after m n looked kept down workspaces is =
    let robot : after.robot.value ≡ before.robot.value = ap (λ (b : CycleResources). b.robot.value) is.resources in
    let buffers : after.buffers ≡ before.buffers = ap (λ (b : CycleResources). b.buffers) is.resources in
    kept_idle s names (base_of before m) (base_of after n) looked kept down robot
    (ap (λ (b : CycleResources). b.ending.value) is.resources) is.home
    (ap (λ (b : CycleResources). b.lists) is.resources) (ap (λ (b : CycleResources). b.told) is.resources)
    (ap (λ (b : CycleResources). b.next_lists.value) is.resources) (ap (λ (b : CycleResources). b.size) is.resources)
    (ap (λ (b : CycleResources). b.room) is.resources)
    (subst (λ (x : CycleBuffers). AllByRecursion (IsFitted after.robot.value.places) x.workspaces.items) (sym buffers)
    (subst (λ (g : Robot). AllByRecursion (IsFitted g.places) before.buffers.workspaces.items) (sym robot)
    workspaces.fitted))
    (ap (λ (b : CycleResources). b.members.value.items) is.resources ∙ workspaces.ordered
    ∙ ap (λ (x : CycleBuffers). map stands_for x.workspaces.items) (sym buffers))

-- so the state is as before, but that nobody is to stand in
nobody_then : (d : Description) (blanks : Blanks) (sessions loads : ℕ) (slots : Slotted) (asked : Asked)
    (before after : Base) (ended : ℕ) (closed : Bool)
    → after.mails ≡ before.mails → after.robot ≡ before.robot → after.erred ≡ []
    → state_with d blanks sessions loads slots asked after ended closed
    ≡ record (state_with d blanks sessions loads slots asked before ended closed) { fallbacks = [] }
nobody_then d blanks sessions loads slots asked before after ended closed mails robot none =
    rw (mails, robot, none) refl

-- ---- After what a cycle needs is there

module _ {C : Type 0} (a : Inside C) (ready forgot : CycleResources) (box_places : ℕ)
    (made : IsMadeReady a.resources ready) (is : HasForgotten ready forgot) where
  abbrev pub state_then : State
  state_then =
      state_with a.checked a.blanks a.sessions a.loads a.slots a.requests (base_of forgot box_places) a.ended a.closed

  pub view_then : state_then ≡ record (state_of a) { fallbacks = [] }
  view_then =
      nobody_then a.checked a.blanks a.sessions a.loads a.slots a.requests (base_in a) (base_of forgot box_places)
      a.ended a.closed
      (ap (λ (b : CycleResources). b.mails.value.items) is.resources
      ∙ ap (λ (b : CycleResources). b.mails.value.items) made.resources)
      (ap (λ (b : CycleResources). b.robot.value) is.resources
      ∙ ap (λ (b : CycleResources). b.robot.value) made.resources)
      is.none_erred

  -- all is kept,
  pub kept_then : IsKept (state_of a) a.names.items (base_in a) a.active_set → a.slots.aloft ≡ false
      → IsKept state_then a.names.items (base_of forgot box_places) a.active_set
  kept_then kept down =
      let s = state_of a in
      let workspaces =
      subst (λ (g : Robot). AreKept g.places ready.buffers.workspaces.items ready.members.value.items)
      (sym (ap (λ (b : CycleResources). b.robot.value) made.resources)) made.kept in
      let used = used_idle s a.names.items a.resources ready (vec_capacity a.boxes) box_places a.active_set kept down
      made in
      let same = kept_forgotten s a.names.items ready forgot box_places box_places a.active_set used down workspaces
      is in
      subst (λ (t : State). IsKept t a.names.items (base_of forgot box_places) a.active_set) (sym view_then)
      (kept_after_ask s (record s { fallbacks = [] }) a.names.items (base_of forgot box_places) a.active_set same refl
      same.unclosed)

  -- and what was planned is left to be done
  pub left_then : (plan : Plan) → IsSteady (state_of a) → IsPlanOf (state_of a) plan
      → IsLeftOf (state_of a) state_then plan.first plan.conclusions.items
  left_then plan steady planned =
      record { emptied = view_then; steady = steady; first = planned.first; conclusions = planned.conclusions }
