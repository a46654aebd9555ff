-- What is done for a request.
use Rattle.std.specs.Prelude.{◌≡◌, ℕ, ◌<◌, Bool, true, false, not, ◌&&◌, ◌||◌, if◌then◌else◌, List, length, map}
use Rattle.std.specs.Prelude.{slice_set}
use Rattle.cm_document.specs.declared.description.Description.{Description}
use Rattle.cm_document.specs.declared.life.Life.{Life}
use Rattle.cm_document.specs.declared.life.Life.TheVariants.{Inactive, Active}
use Rattle.cm_model.specs.Boundary.{life_at, concluded}
use Rattle.cm_model.specs.Commit.{scene_of, commit}
use Rattle.cm_model.specs.Components.{has_move}
use Rattle.cm_model.specs.Cycle.{moved}
use Rattle.cm_model.specs.Order.{Places, set_of}
use Rattle.cm_model.specs.Scene.{is_chained_in}
use Rattle.cm_model.specs.Sound.{CanRunTogether}
use Rattle.cm_model.specs.State.{State}
use Rattle.cm_model.specs.Steady.{AreLoaded, AreConfigured}
use Rattle.cm_model.specs.Switches.{is_stopped, is_started}
use Rattle.cm_model.specs.declared.cause.Outcome.{Outcome}
use Rattle.cm_model.specs.declared.cause.Outcome.TheVariants as outcome
use Rattle.cm_model.specs.declared.planned.Planned.{Planned}
use Rattle.cm_model.specs.declared.request.Request.{Request}
use Rattle.cm_model.specs.declared.seen.Seen.{Seen}
use Rattle.request_plan.specs.Situations.{of_serials, running}
use Rattle.request_plan.specs.declared.acts.Act.{Act}
use Rattle.request_plan.specs.declared.acts.Act.TheVariants as act
use Rattle.request_plan.specs.declared.acts.Conclusion.{Conclusion}
use Rattle.request_plan.specs.declared.acts.Switched.{Switched}

-- ---- Sets

-- there is a flag for each of so many places, in each of the four sets
pub record HaveFlags (count : ℕ) (c : Switched) : Type 0 where
  pub set : length c.set ≡ count
  pub stopped : length c.stopped ≡ count
  pub started : length c.started ≡ count
  pub chained : length c.chained ≡ count

-- The four sets of a plan with these lists of serials: who is stopped, who is started, who is active then, and who is
-- chained.
pub record AreSetsOf (loaded : List Seen) (off on : List ℕ) (c : Switched) : Type 0 where
  pub stopped : set_of c.stopped ≡ of_serials loaded off
  pub started : set_of c.started ≡ of_serials loaded on
  pub set : set_of c.set ≡ (λ p. (running loaded p && not (of_serials loaded off p)) || of_serials loaded on p)

-- ---- What is done

-- the request was carried out
abbrev pub is_carried_out : Outcome → Bool
is_carried_out (outcome.Done dropped) = true
is_carried_out _ = false

-- A switch is done so, which leads from one state to another: the set is active after it, with some restarted by name;
-- each of the set is loaded and has parameters, and they can run together.
pub record IsSwitchOf (s after : State) (c : Switched) : Type 0 where
  pub again : Places
  pub is : after ≡ commit s (set_of c.set) again
  pub stopped : set_of c.stopped ≡ is_stopped (scene_of s) (set_of c.set) again
  pub started : set_of c.started ≡ is_started (scene_of s) (set_of c.set) again
  pub chained : set_of c.chained ≡ is_chained_in s.description.controllers (set_of c.set)
  pub flags : HaveFlags (length s.description.controllers) c
  pub loaded : AreLoaded s.loaded (set_of c.set)
  pub configured : AreConfigured s.loaded (set_of c.set)
  pub together : CanRunTogether s.description s.lives (set_of c.set)

-- The component at this place comes to the target, to which it can move.
pub record IsMoveOf (s after : State) (component : ℕ) (target : Life) : Type 0 where
  pub within : component < length s.lives
  pub possible : has_move (life_at s component) target ≡ true
  pub is : after ≡ moved s (slice_set s.lives component target)

-- This is done for the plan of a switch: nothing where it is refused, and else its sets.
abbrev pub IsPlannedAct : Description → List Seen → Planned → Act → Type 0
IsPlannedAct d loaded plan act.Nothing = is_carried_out plan.outcome ≡ false
IsPlannedAct d loaded plan (act.Switch c) =
    (is_carried_out plan.outcome ≡ true) × HaveFlags (length d.controllers) c × AreSetsOf loaded plan.off plan.on c
    × (set_of c.chained ≡ is_chained_in d.controllers (set_of c.set))
IsPlannedAct d loaded plan (act.Move component target) = ⊥

-- this is done from one state to another
abbrev pub IsActOf : State → State → Act → Type 0
IsActOf s after act.Nothing = after ≡ s
IsActOf s after (act.Switch c) = IsSwitchOf s after c
IsActOf s after (act.Move component target) = IsMoveOf s after component target

-- This is concluded of a request in a state: what becomes of it, and what is done for it.
pub record IsConclusionOf (s : State) (asked : Request) (c : Conclusion) : Type 0 where
  pub outcome : c.outcome ≡ (concluded s asked).outcome
  pub act : IsActOf s (concluded s asked).state c.act

-- ---- What is seen after it

-- a loaded controller after a switch
abbrev pub seen_after : Switched → Seen → Seen
seen_after c l = record l {
  life = if set_of c.started l.place then Active else (if set_of c.stopped l.place then Inactive else l.life);
  chained = set_of c.set l.place && set_of c.chained l.place;
}

-- the loaded controllers after this was done
abbrev pub loaded_after : Act → List Seen → List Seen
loaded_after (act.Switch c) loaded = map (seen_after c) loaded
loaded_after _ loaded = loaded

-- the lifecycle states of the components after it
abbrev pub lives_after : Act → List Life → List Life
lives_after (act.Move component target) lives = slice_set lives component target
lives_after _ lives = lives

-- a component that is moved has its place among so many
abbrev pub IsActWithin : ℕ → Act → Type 0
IsActWithin count (act.Move component target) = component < count
IsActWithin count _ = Unit {0}
