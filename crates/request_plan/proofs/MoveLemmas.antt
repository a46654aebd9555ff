-- What speaks against a move of a component, found by the places of the active controllers.
use Rattle.std.proofs.Common.{◌≡◌, ℕ, ◌<◌, Bool, true, false, List, [], ◌∷◌}
use Rattle.std.proofs.Common.{map, length, Some, None, refl, sym, ap, ◌∙◌}
use Rattle.std.specs.Prelude.{◌==◌, ◌||◌, find, option_map, filter_map, slice_get, if◌then◌else◌, All}
use Rattle.std.specs.List.{list_any}
use Rattle.std.specs.Option.{option_map_or}
use Rattle.std.proofs.lemmas.List.Elements.{All-head, All-tail}
use Rattle.std.proofs.lemmas.List.Folds.{list_any-append}
use Rattle.std.proofs.lemmas.Option.{get_or_from_slice_get}
use Rattle.cm_document.specs.declared.description.CtlDesc.{CtlDesc}
use Rattle.cm_document.specs.declared.description.Description.{Description}
use Rattle.cm_document.specs.declared.life.Life.{Life}
use Rattle.cm_model.specs.Boundary.{user_of}
use Rattle.cm_model.specs.Claims.{uses}
use Rattle.cm_model.specs.Components.{has_move, is_available}
use Rattle.cm_model.specs.Cycle.{active_order}
use Rattle.cm_model.specs.Faults.{component_with}
use Rattle.cm_model.specs.Order.{controller_at, nobody}
use Rattle.cm_model.specs.State.{State, Loaded}
use Rattle.cm_model.specs.declared.cause.Cause.TheVariants as cause
use Rattle.chain_order.specs.Links.{linked}
use Rattle.chain_order.proofs.LinkLemmas.{length-each_below, get_or-each_below}
use Rattle.switch_plan.specs.Relations.{Related, components_at, relations_of}
use Rattle.switch_plan.proofs.ClearLemmas.{any_found}
use Rattle.request_plan.specs.Moves.{IsMoveFault}

-- ---- The first that passes

find_at : {A B C : Type 0} (test : B → Bool) (f : A → B) (read : B → C) (xs : List A)
    → option_map (λ x. read (f x)) (find (λ x. test (f x)) xs) ≡ option_map read (find test (map f xs))
find_at test f read [] = refl
find_at {A} {B} {C} test f read (x ∷ xs) = either (test (f x)) (find_at test f read xs)
  where
    either : (b : Bool)
        → option_map (λ x. read (f x)) (find (λ x. test (f x)) xs) ≡ option_map read (find test (map f xs))
        → option_map (λ x. read (f x)) (if b then Some x else find (λ x. test (f x)) xs)
        ≡ option_map read (if b then Some (f x) else find test (map f xs))
    either true rest = refl
    either false rest = rest

find_same : (n : ℕ) (test test' : ℕ → Bool) → ((p : ℕ) → p < n → test p ≡ test' p) → (ps : List ℕ) → All (λ p. p < n) ps
    → find test ps ≡ find test' ps
find_same n test test' same [] within = refl
find_same n test test' same (p ∷ ps) within =
    either (test p) (test' p) (same p (All-head (λ q. q < n) p ps within))
    (find_same n test test' same ps (All-tail (λ q. q < n) p ps within))
  where
    either : (b c : Bool) → b ≡ c → find test ps ≡ find test' ps
        → (if b then Some p else find test ps) ≡ (if c then Some p else find test' ps)
    either true true e rest = refl
    either true false e rest = cc
    either false true e rest = cc
    either false false e rest = rest

-- ---- Who uses a component

-- the component is among those of a controller where the controller uses it
used_at : (d : Description) (component p : ℕ) → p < length d.controllers
    → list_any (λ used. used == component) (linked (relations_of d).components p)
    ≡ uses d.components (λ place. place == component) (controller_at d.controllers p)
used_at d component p below =
    let c = controller_at d.controllers p in
    let test = λ (place : ℕ). place == component in
    let with_it = component_with d.components in
    ap (list_any test) (get_or-each_below (components_at d) (length d.controllers) p [] below)
    ∙ list_any-append test (filter_map with_it c.claims) (filter_map with_it c.reads)
    ∙ ap (λ b. b || list_any test (filter_map with_it c.reads)) (any_found test with_it c.claims)
    ∙ ap (λ b. list_any (λ name. option_map_or test (with_it name) false) c.claims || b)
    (any_found test with_it c.reads)
    ∙ sym (list_any-append (λ name. option_map_or test (with_it name) false) c.claims c.reads)

-- that test of a place
abbrev pub uses_at : Description → ℕ → ℕ → Bool
uses_at d component p = list_any (λ used. used == component) (linked (relations_of d).components p)

user_is : (s : State) (component : ℕ) (order : List ℕ) → map (λ l. l.place) (active_order s) ≡ order
    → All (λ p. p < length s.description.controllers) order
    → user_of s component
    ≡ option_map (λ p. (controller_at s.description.controllers p).name) (find (uses_at s.description component) order)
user_is s component order is within =
    let cs = s.description.controllers in
    let used = λ (p : ℕ). uses s.description.components (λ place. place == component) (controller_at cs p) in
    find_at used (λ (l : Loaded). l.place) (λ p. (controller_at cs p).name) (active_order s)
    ∙ ap (λ ps. option_map (λ p. (controller_at cs p).name) (find used ps)) is
    ∙ ap (option_map (λ p. (controller_at cs p).name))
    (sym (find_same (length cs) (uses_at s.description component) used (used_at s.description component) order within))

-- ---- Places within

pub rows_within : (d : Description) (w : Related) (order : List ℕ) → w ≡ relations_of d
    → All (λ p. p < length d.controllers) order → All (λ p. p < length w.components) order
rows_within d w order is within =
    let same : length (relations_of d).components ≡ length d.controllers =
    length-each_below (components_at d) (length d.controllers) in
    rw (is, same) within

pub row_there : (d : Description) (w : Related) (p : ℕ) → w ≡ relations_of d → p < length w.components
    → p < length d.controllers
row_there d w p is below =
    let same : length (relations_of d).components ≡ length d.controllers =
    length-each_below (components_at d) (length d.controllers) in
    let there : p < length (relations_of d).components = rw is at below in
    rw same at there

-- ---- What speaks against a move

pub no_such_move : (d : Description) (component : ℕ) (life target : Life) (order : List ℕ)
    → has_move life target ≡ false → IsMoveFault d component life target order (Some cause.NoSuchMove)
no_such_move d component life target order e = λ s described here active. rw (here, e) refl

pub stays_available : (d : Description) (component : ℕ) (life target : Life) (order : List ℕ)
    → has_move life target ≡ true → is_available target ≡ true → IsMoveFault d component life target order None
stays_available d component life target order e up = λ s described here active. rw (here, e, up) refl

pub nobody_uses : (d : Description) (component : ℕ) (life target : Life) (order : List ℕ) → has_move life target ≡ true
    → is_available target ≡ false → All (λ p. p < length d.controllers) order
    → find (uses_at d component) order ≡ None → IsMoveFault d component life target order None
nobody_uses d component life target order e down within none = λ s described here active.
    rw (here, e, down, user_is s component order active (rw described within), described, none) refl

pub in_use : (d : Description) (component : ℕ) (life target : Life) (order : List ℕ) (p : ℕ) (c : CtlDesc)
    → has_move life target ≡ true → is_available target ≡ false
    → All (λ p. p < length d.controllers) order → find (uses_at d component) order ≡ Some p
    → slice_get d.controllers p ≡ Some c
    → IsMoveFault d component life target order (Some (cause.InUse c.name))
in_use d component life target order p c e down within found is = λ s described here active.
    rw (
      here,
      e,
      down,
      user_is s component order active (rw described within),
      described,
      found,
      get_or_from_slice_get d.controllers p c nobody is,
    ) refl
