-- The loaded controllers in their slots: which boxes are there, and what becomes of those that are lent for a cycle.
use Rattle.std.specs.Prelude.{◌≡◌, ℕ, ◌==◌, Bool, ◌&&◌, if◌then◌else◌, List, [], ◌∷◌, map, find, slice_get, Option}
use Rattle.std.specs.Prelude.{None, Some, option_map}
use Rattle.std.specs.List.{IsDistinct}
use Rattle.cm_document.specs.Valid.{IsValid}
use Rattle.cm_model.specs.Cycle.{active_order}
use Rattle.cm_model.specs.State.{State, Loaded, is_active}
use Rattle.cm_model.specs.declared.data.CtlData.{CtlData}

-- What is seen of the slots: the loaded controllers, by serial; whether a cycle is aloft, and with it the boxes of
-- those that run; and whether there is room for one more.
pub record Slotted : Type 0 where
  pub loaded : List Loaded
  pub aloft : Bool
  pub has_room : Bool

-- the data of the box that stands in a slot: while a cycle is aloft that of a controller that runs is away
abbrev pub box_of : Bool → Loaded → Option CtlData
box_of aloft l = if aloft && is_active l then None else Some l.ctl

-- At these indices stand the active controllers of the state in the order of updates. Its description is valid, and its
-- serials differ.
pub record IsRunOf (s : State) (ls : List Loaded) (indices : List ℕ) : Type 0 where
  pub valid : IsValid s.description
  pub once : IsDistinct (λ m n. m == n) (map (λ l. l.serial) s.loaded)
  pub loaded : ls ≡ s.loaded
  pub order : map (slice_get s.loaded) indices ≡ map Some (active_order s)

-- the data of the controller of this serial among these
abbrev pub data_under : ℕ → List Loaded → Option CtlData
data_under serial loaded = option_map (λ l. l.ctl) (find (λ l. l.serial == serial) loaded)

-- these are the data of these controllers as they are among those, one for each
abbrev pub AreDataIn : List Loaded → List Loaded → List CtlData → Type 0
AreDataIn loaded [] [] = Unit {0}
AreDataIn loaded (l ∷ ls) (ctl ∷ ctls) = (Some ctl ≡ data_under l.serial loaded) × AreDataIn loaded ls ctls
AreDataIn loaded _ _ = ⊥
