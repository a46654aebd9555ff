-- How a switch is decided of which is done what can be done.
use Rattle.std.specs.Prelude.{ℕ, zero, suc, Bool, not, ◌&&◌, ◌||◌, if◌then◌else◌, List, [], ◌∷◌, ◌++◌, length}
use Rattle.std.specs.Prelude.{filter_map, find, Option, Some, None, option_map}
use Rattle.iface_names.specs.declared.interface.IfaceName.{IfaceName}
use Rattle.cm_document.specs.Links.{refs_of}
use Rattle.cm_document.specs.Picks.{flat}
use Rattle.cm_document.specs.declared.call.Pick.{Pick}
use Rattle.cm_document.specs.declared.call.Pick.TheVariants.{One, Group}
use Rattle.cm_document.specs.declared.call.SwitchRequest.{SwitchRequest}
use Rattle.cm_model.specs.Order.{Places, places_of, with_one, height, by_rank}
use Rattle.cm_model.specs.Scene.{Scene, controllers_in, described, active, loaded_all, is_chained_in, is_claimed_by}
use Rattle.cm_model.specs.Faults.{fault}
use Rattle.cm_model.specs.Switches.{with_name, off_fault, on_fault, Decided, done, strict, planned}
use Rattle.cm_model.specs.declared.cause.Cause.{Cause}
use Rattle.cm_model.specs.declared.cause.Cause.TheVariants as cause
use Rattle.cm_model.specs.declared.cause.Dropped.{Dropped}
use Rattle.cm_model.specs.declared.member.Member.{Member}
use Rattle.cm_model.specs.declared.planned.Planned.{Planned}

-- ---- Lists without their faults

-- the names of a flat list that something speaks against, with it: each group, and controllers
abbrev pub faulty : (List (List ℕ) → List ℕ → Option Cause) → List (List ℕ) → List Pick → List Dropped
faulty fault before [] = []
faulty fault before (Group name ∷ picks) = with_name name cause.NoGroup ∷ faulty fault before picks
faulty fault before (One name ∷ picks) = elim (fault before name) [
  | Some reason ↦ with_name name reason ∷ faulty fault (before ++ name ∷ []) picks
  | None ↦ faulty fault (before ++ name ∷ []) picks
]

-- the other controllers
abbrev pub faultless : (List (List ℕ) → List ℕ → Option Cause) → List (List ℕ) → List Pick → List (List ℕ)
faultless fault before [] = []
faultless fault before (Group name ∷ picks) = faultless fault before picks
faultless fault before (One name ∷ picks) = elim (fault before name) [
  | Some reason ↦ faultless fault (before ++ name ∷ []) picks
  | None ↦ name ∷ faultless fault (before ++ name ∷ []) picks
]

-- ---- What may leave

-- a controller stays, or is active and one that stays precedes it
abbrev pub stays_more : Scene → Places → Places
stays_more scene staying p = staying p || (active scene p && is_chained_in (controllers_in scene) staying p)

-- Of the active controllers those stay that are not asked to leave, and each that one precedes which stays. This is
-- told as far as so many links lead.
unfoldable pub stays_within : Scene → Places → ℕ → Places
stays_within scene leaving zero p = active scene p && not (leaving p)
stays_within scene leaving (suc n) p = stays_more scene (stays_within scene leaving n) p

-- among all controllers
abbrev pub stays : Scene → Places → Places
stays scene leaving = stays_within scene leaving (length (controllers_in scene))

-- What may leave of those that are asked to: the greatest subset in which each active controller is that precedes a
-- member.
abbrev pub reduced : Scene → Places → Places
reduced scene leaving p = leaving p && not (stays scene leaving p)

-- the first of its references that a controller claims which stays
abbrev pub needed_reference : Scene → Places → ℕ → Option IfaceName
needed_reference scene staying p = find (is_claimed_by (controllers_in scene) staying) (refs_of (described scene p))

-- a controller that was asked to leave and stays is dropped, because it would be missing
abbrev pub kept_drop : Scene → Places → Member → Option Dropped
kept_drop scene staying m =
    if staying m.place
    then option_map (λ interface. with_name (described scene m.place).name (cause.MissingFollower interface))
    (needed_reference scene staying m.place) else None

-- ---- What can join

-- what has joined so far, and what was dropped
pub record Joined : Type 0 where
  pub set : Places
  pub dropped : List Dropped

-- it joins where it would have no fault, else it is dropped with that
abbrev pub joined_with : ℕ → List ℕ → Joined → Option Cause → Joined
joined_with p name joined None = record { set = with_one p joined.set; dropped = joined.dropped }
joined_with p name joined (Some reason) = record {
  set = joined.set;
  dropped = joined.dropped ++ with_name name reason ∷ [];
}

abbrev pub join : Scene → Places → Joined → Member → Joined
join scene on joined m =
    joined_with m.place (described scene m.place).name joined (fault scene (with_one m.place joined.set) on m.place)

-- these join one by one
abbrev pub join_all : Scene → Places → Joined → List Member → Joined
join_all scene on joined [] = joined
join_all scene on joined (m ∷ ms) = join_all scene on (join scene on joined m) ms

-- by height, and those of one height as they stand
abbrev pub by_height : Scene → List Member → List Member
by_height scene ms = by_rank (λ m. height (controllers_in scene) m.place) (suc (length (controllers_in scene))) ms

-- ---- As much as can be done

-- What comes of those that are to be activated and have no fault of the list, where these leave and these were dropped
-- before.
abbrev pub joining : Scene → Places → List Dropped → List Member → Joined
joining scene leaving dropped ms =
    join_all scene (places_of ms) (record {
      set = λ p. active scene p && not (leaving p);
      dropped = dropped;
    }) (by_height scene ms)

-- those that leave and join restart
abbrev pub best_joined : Places → Joined → Decided
best_joined leaving joined = done joined.dropped joined.set (λ p. leaving p && joined.set p)

-- the decision, once it is known which leave
abbrev pub best_leaving : Scene → Places → List Dropped → List Pick → Decided
best_leaving scene leaving dropped on =
    best_joined leaving
    (joining scene leaving (dropped ++ faulty (on_fault scene leaving) [] on)
    (loaded_all scene (faultless (on_fault scene leaving) [] on)))

-- the decision, once it is known which of those to deactivate have no fault of the list
abbrev pub best_asked : Scene → List Member → List Dropped → List Pick → Decided
best_asked scene ms dropped on =
    best_leaving scene (reduced scene (places_of ms))
    (dropped ++ filter_map (kept_drop scene (stays scene (places_of ms))) ms) on

-- Of two flat lists: what has a fault on the list to deactivate is dropped with it, and of the others the greatest
-- subset leaves. What has a fault on the list to activate is dropped with it; the others join, by height and then as
-- they stand. Those that leave and join restart.
abbrev pub best : Scene → List Pick → List Pick → Decided
best scene off on =
    best_asked scene (loaded_all scene (faultless (off_fault scene) [] off)) (faulty (off_fault scene) [] off) on

-- ---- Both

-- what becomes of a switch of two flat lists, which is to be done whole or as far as it can be
abbrev pub flat_decided : Scene → Bool → List Pick → List Pick → Decided
flat_decided scene whole off on = if whole then strict scene off on else best scene off on

-- what becomes of a request: it is decided on its lists, made flat
abbrev pub decided : Scene → SwitchRequest → Decided
decided scene request =
    flat_decided scene request.strict (flat scene.description request.off) (flat scene.description request.on)

-- the plan of a request
abbrev pub plan_of : Scene → SwitchRequest → Planned
plan_of scene request = planned scene (decided scene request)
