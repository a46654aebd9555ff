-- Who is active, as it is looked up: by place in the description, and in the order of updates.
use Rattle.std.specs.Prelude.{◌≡◌, ℕ, ◌<◌, ◌==◌, ◌&&◌, Bool, true, if◌then◌else◌, List, [], ◌∷◌, length, map, filter}
use Rattle.std.specs.Prelude.{find, slice_get, slice_index_or, slice_set, is_none, Option, None, Some, option_map}
pub use Rattle.cm_model.specs.Components.{is_listed}
pub use Rattle.cm_model.specs.Serials.{serials_of}
use Rattle.cm_model.specs.State.{State, Loaded, is_active}
use Rattle.cm_model.specs.declared.member.Member.{Member}
use Rattle.stop_plan.specs.Ending.{member_of, members_in_order}

-- the serial of the controller that is active at a place of the description among these; none where none is
abbrev pub serial_in : List Loaded → ℕ → Option ℕ
serial_in loaded place = option_map (λ l. l.serial) (find (λ l. is_active l && l.place == place) loaded)

-- What is looked up: by place in the description the serial of the controller that is active there; the active
-- controllers in the order of their updates, by serial and place, and by index among the loaded ones; and whether that
-- order is the one of now.
pub record Listed : Type 0 where
  pub active : List (Option ℕ)
  pub order : List Member
  pub run : List ℕ
  pub current : Bool

-- for each of so many described places it says which of these controllers is active there
pub record TellsActive (count : ℕ) (loaded : List Loaded) (active : List (Option ℕ)) : Type 0 where
  pub counted : length active ≡ count
  pub told : (p : ℕ) → p < count → slice_index_or active p None ≡ serial_in loaded p

-- nobody is active, of so many that are described
pub record IsOfNobody (count : ℕ) (r : Listed) : Type 0 where
  pub counted : length r.active ≡ count
  pub nobody : (p : ℕ) → slice_index_or r.active p None ≡ None
  pub order : r.order ≡ []
  pub run : r.run ≡ []

-- the active ones of these, by serial and place
abbrev pub actives : List Loaded → List Member
actives loaded = map member_of (filter is_active loaded)

-- at these indices of a list of serials stand those of these controllers
abbrev pub AreAt : List ℕ → List Member → List ℕ → Type 0
AreAt serials order run = map (slice_get serials) run ≡ map (λ m. Some m.serial) order

-- It is what is looked up of this state: of who is active always, and of their order where that is the one of now.
pub record IsListedOf (s : State) (r : Listed) : Type 0 where
  pub active : TellsActive (length s.description.controllers) s.loaded r.active
  pub order : r.current ≡ true → r.order ≡ members_in_order s
  pub run : r.current ≡ true → AreAt (serials_of s.loaded) r.order r.run

-- the flags once a controller is noted at its place, where it is active and nobody is noted there
abbrev pub noted : Loaded → List (Option ℕ) → List (Option ℕ)
noted l active =
    if is_active l && is_none (slice_index_or active l.place None) then slice_set active l.place (Some l.serial)
    else active

-- and once these are noted one after the other
abbrev pub noted_all : List Loaded → List (Option ℕ) → List (Option ℕ)
noted_all [] active = active
noted_all (l ∷ ls) active = noted_all ls (noted l active)
