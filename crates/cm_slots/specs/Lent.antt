-- What becomes of the boxes that leave their slots and come back, by place.
use Rattle.std.specs.Prelude.{◌≡◌, ℕ, zero, suc, true, List, [], ◌∷◌, filter_map, slice_get, slice_set, Option, None}
use Rattle.std.specs.Prelude.{Some, option_map, IsSomeAnd}
use Rattle.cm_model.specs.State.{Loaded, is_active}
use Rattle.cm_model.specs.declared.data.CtlData.{CtlData}

-- ---- Boxes that leave

-- the boxes once those at these indices have left
abbrev pub without_boxes : List ℕ → List (Option CtlData) → List (Option CtlData)
without_boxes [] boxes = boxes
without_boxes (k ∷ ks) boxes = without_boxes ks (slice_set boxes k None)

-- the data of the controllers at these indices
abbrev pub ctls_at : List Loaded → List ℕ → List CtlData
ctls_at loaded ks = filter_map (λ k. option_map (λ l. l.ctl) (slice_get loaded k)) ks

-- the boxes at these indices can leave one after the other: each is there, and its controller runs
abbrev pub CanLeave : List Loaded → List ℕ → List (Option CtlData) → Type 0
CanLeave loaded [] boxes = Unit {0}
CanLeave loaded (k ∷ ks) boxes =
    IsSomeAnd (slice_get loaded k) (λ l. (is_active l ≡ true) × (slice_get boxes k ≡ Some (Some l.ctl)))
    × CanLeave loaded ks (slice_set boxes k None)

-- ---- Boxes that come back

-- the controllers once the box of the one at this index has these data
abbrev pub with_ctl : ℕ → CtlData → List Loaded → List Loaded
with_ctl k ctl [] = []
with_ctl zero ctl (l ∷ ls) = record l { ctl = ctl } ∷ ls
with_ctl (suc k) ctl (l ∷ ls) = l ∷ with_ctl k ctl ls

-- and once those of the ones at these indices have, the last first
abbrev pub with_ctls : List ℕ → List CtlData → List Loaded → List Loaded
with_ctls (k ∷ ks) (ctl ∷ ctls) loaded = with_ctl k ctl (with_ctls ks ctls loaded)
with_ctls _ _ loaded = loaded

-- the boxes once these are back at these indices
abbrev pub with_boxes : List ℕ → List CtlData → List (Option CtlData) → List (Option CtlData)
with_boxes (k ∷ ks) (ctl ∷ ctls) boxes = slice_set (with_boxes ks ctls boxes) k (Some ctl)
with_boxes _ _ boxes = boxes
