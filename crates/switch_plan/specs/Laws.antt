-- What the laws of switches speak of.
use Rattle.std.specs.Prelude.{◌≡◌, ◌≢◌, ◌⊎◌, ℕ, ◌<◌, true, not, ◌&&◌, List, [], length, take, slice_index_or, Option}
use Rattle.std.specs.Prelude.{Some, None, Contains}
use Rattle.cm_document.specs.Picks.{picked_names}
use Rattle.cm_document.specs.declared.call.Pick.{Pick}
use Rattle.cm_document.specs.declared.call.Pick.TheVariants.{Group}
use Rattle.cm_model.specs.Order.{Places, with_one, places_of, precedes_at}
use Rattle.cm_model.specs.Scene.{Scene, controllers_in, described, active, loaded_all, named, order}
use Rattle.cm_model.specs.Faults.{fault}
use Rattle.cm_model.specs.Switches.{off_fault, on_fault, counted}
pub use Rattle.cm_model.specs.CauseIsTrue.{strict_set, IsCalled, OfLoaded, StandsTwice, IsClaimant, IsDown}
pub use Rattle.cm_model.specs.CauseIsTrue.{IsTrueOfController, NamesNoGroup, IsTrueOf}
use Rattle.cm_model.specs.BestEffort.{faultless, reduced, join_all}
use Rattle.cm_model.specs.declared.cause.Cause.{Cause}
use Rattle.cm_model.specs.declared.cause.Cause.TheVariants as cause
use Rattle.cm_model.specs.declared.cause.Dropped.{Dropped}
use Rattle.cm_model.specs.declared.fault_kind.FaultKind.{FaultKind}
use Rattle.cm_model.specs.declared.member.Member.{Member}

-- ---- What counts against a strict switch

-- Nothing speaks against a flat list: it has no group, and against no controller does anything, behind those before it.
pub record IsFaultless (fault : List (List ℕ) → List ℕ → Option Cause) (picks : List Pick) : Type 0 where
  pub groupless : (name : List ℕ) → ¬ Contains picks (Group name)
  pub controllers : (i : ℕ) → i < length (picked_names picks)
      → fault (take i (picked_names picks)) (slice_index_or (picked_names picks) i []) ≡ None

-- this speaks against one of these controllers, behind those before it
abbrev pub SpeaksAgainst : (List (List ℕ) → List ℕ → Option Cause) → List (List ℕ) → Dropped → Type 0
SpeaksAgainst fault names d =
    (i : ℕ) × (i < length names) × (slice_index_or names i [] ≡ d.name) × (fault (take i names) d.name ≡ Some d.cause)

-- this speaks against a flat list: that it has a group, or what speaks against a controller
abbrev pub IsFaulty : (List (List ℕ) → List ℕ → Option Cause) → List Pick → Dropped → Type 0
IsFaulty fault picks d =
    ((d.cause ≡ cause.NoGroup) × Contains picks (Group d.name)) ⊎ SpeaksAgainst fault (picked_names picks) d

-- Nothing counts against a strict switch of two flat lists: nothing on them, and no member of the set that it leads to.
pub record CanBeDone (scene : Scene) (off on : List Pick) : Type 0 where
  pub leaving : IsFaultless (off_fault scene) off
  pub coming : IsFaultless (on_fault scene (named scene (picked_names off))) on
  pub members : (kind : FaultKind) (m : Member)
      → Contains (order scene (strict_set scene (picked_names off) (picked_names on))) m
      → counted scene (strict_set scene (picked_names off) (picked_names on)) (named scene (picked_names on)) kind
      m.place ≡ None

-- This counts against a member of the set that a strict switch of these controllers leads to.
abbrev pub CountsOfMember : Scene → List (List ℕ) → List (List ℕ) → Dropped → Type 0
CountsOfMember scene off on d = (kind : FaultKind) × (m : Member) × Contains (order scene (strict_set scene off on)) m
    × ((described scene m.place).name ≡ d.name)
    × (counted scene (strict_set scene off on) (named scene on) kind m.place ≡ Some d.cause)

-- This counts against a strict switch of two flat lists: it stands on one of them, or it counts against a member.
abbrev pub CountsAgainst : Scene → List Pick → List Pick → Dropped → Type 0
CountsAgainst scene off on d =
    IsFaulty (off_fault scene) off d
    ⊎ (IsFaulty (on_fault scene (named scene (picked_names off))) on d
    ⊎ CountsOfMember scene (picked_names off) (picked_names on) d)

-- ---- What may leave

-- These may leave of those that are asked to: each active controller that precedes one of them is among them.
pub record CanLeave (scene : Scene) (asked set : Places) : Type 0 where
  pub within : (p : ℕ) → set p ≡ true → asked p ≡ true
  pub whole : (p q : ℕ) → set p ≡ true → active scene q ≡ true → precedes_at (controllers_in scene) q p ≡ true
      → set q ≡ true

-- the controllers that a switch of best effort asks to leave: those of a flat list that have no fault of the list
abbrev pub asked_off : Scene → List Pick → Places
asked_off scene off = places_of (loaded_all scene (faultless (off_fault scene) [] off))

-- the controllers that it tries to activate: those of a flat list that have no fault of the list, where the reduced
-- ones leave
abbrev pub tried_on : Scene → List Pick → List Pick → List Member
tried_on scene off on = loaded_all scene (faultless (on_fault scene (reduced scene (asked_off scene off))) [] on)

-- ---- What could join

-- the set to which it comes, once it has tried these in turn
abbrev pub joined_of : Scene → List Pick → List Pick → List Member → Places
joined_of scene off on ms =
    (join_all scene (places_of (tried_on scene off on)) (record {
      set = λ p. active scene p && not (reduced scene (asked_off scene off) p);
      dropped = [];
    }) ms).set

-- beside these it would have a fault
abbrev pub CannotJoin : Scene → List Pick → List Pick → Places → Member → Type 0
CannotJoin scene off on set m = fault scene (with_one m.place set) (places_of (tried_on scene off on)) m.place ≢ None
