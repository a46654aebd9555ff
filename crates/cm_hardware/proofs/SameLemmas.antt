-- The hardware of a state is that of each other state that has the same hardware, where the same interfaces are
-- available, and of the same owners: so it is where the same controllers run, and while none does.
use Rattle.std.proofs.Common.{◌≡◌, Bool, true, false, List, [], ◌∷◌, map, refl, sym, subst, ap, ap₂, ◌∙◌}
use Rattle.std.specs.Prelude.{ℕ, ◌&&◌, ◌||◌, ◌==◌, if◌then◌else◌, filter, find, slice_get, Option, None, option_map}
use Rattle.std.specs.Option.{option_map_or}
use Rattle.std.specs.List.{AllByRecursion, list_any}
use mathlib.Core.Path.{fun_ext}
use Rattle.cm_document.proofs.DistinctLemmas.{all_so}
use Rattle.iface_names.specs.declared.interface.IfaceName.{IfaceName}
use Rattle.cm_document.specs.Links.{is_among}
use Rattle.cm_document.specs.Places.{Whose, of_joint, of_controller, Interface}
use Rattle.cm_document.specs.declared.description.CtlDesc.{CtlDesc}
use Rattle.cm_document.specs.declared.description.Description.{Description}
use Rattle.cm_document.specs.declared.life.Life.{Life}
use Rattle.cm_model.specs.State.{State, Loaded, is_active, active, claims_name, owner, available, available_in}
use Rattle.cm_model.specs.Values.{InterfaceValue, running}
use Rattle.cm_hardware.specs.Wiring.{Wired, loan_of}
use Rattle.cm_hardware.specs.Holding.{IsEmptyUnlessAvailable, IsHardwareOf, IsStill, Runner, runner_of, runners}
use Rattle.cm_hardware.proofs.HeldLemmas.{claimed_alike}
use Rattle.cm_hardware.proofs.StillLemmas.{no_owner}

-- ---- From one state to another

module _ (s t : State) (owned : (i : Interface) → owner t i ≡ owner s i)
    (there : (i : Interface) → available t i ≡ available s i) where
  same_loans : (vs : List InterfaceValue)
      → map (loan_of (owner s) (available s)) vs ≡ map (loan_of (owner t) (available t)) vs
  same_loans vs =
      let own : owner s ≡ owner t = fun_ext (λ i. sym (owned i)) in
      let here : available s ≡ available t = fun_ext (λ i. sym (there i)) in
      ap₂ (λ (own : Interface → Option ℕ) (here : Interface → Bool). map (loan_of own here) vs) own here

  -- So the hardware of the one is that of the other.
  pub same_hardware : (w : Wired) → IsHardwareOf s w → t.description ≡ s.description → t.lives ≡ s.lives
      → t.bodies ≡ s.bodies → t.values ≡ s.values → IsHardwareOf t w
  same_hardware w h description lives bodies values = record {
    wired = record {
      components = rw description h.wired.components;
      lives = rw lives h.wired.lives;
      bodies = rw bodies h.wired.bodies;
      joints = h.wired.joints;
      interfaces = rw (description, values) h.wired.interfaces;
    };
    loans = h.loans ∙ same_loans s.values ∙ ap (map (loan_of (owner t) (available t))) (sym values);
    places = rw description h.places;
    claims = claimed_alike s t 0 w.components (λ i. sym (owned i))
        (ap (map (λ (v : InterfaceValue). v.interface)) (sym values)) h.claims;
    rest = h.rest;
    empty = subst (AllByRecursion (IsEmptyUnlessAvailable t)) (sym values)
        (all_so (IsEmptyUnlessAvailable s) (IsEmptyUnlessAvailable t)
        (λ v empty gone. empty (sym (there v.interface) ∙ gone)) s.values h.empty);
  }

-- ---- The same controllers run

-- the controller of this place claims what has this name
abbrev claims_place : List CtlDesc → IfaceName → ℕ → Bool
claims_place described name place = option_map_or (λ c. is_among name c.claims) (slice_get described place) false

-- who owns what has this name, by who runs
abbrev owner_among : List CtlDesc → IfaceName → List Runner → Option ℕ
owner_among described name rs = option_map (λ r. r.serial) (find (λ r. claims_place described name r.place) rs)

abbrev owner_in : List CtlDesc → IfaceName → List Loaded → Option ℕ
owner_in described name ls = option_map (λ l. l.serial) (find (λ l. is_active l && claims_name described name l) ls)

owner_is : (described : List CtlDesc) (name : IfaceName) (ls : List Loaded)
    → owner_in described name ls ≡ owner_among described name (map runner_of (filter is_active ls))
owner_is described name [] = refl
owner_is described name (l ∷ ls) =
    either (is_active l) (claims_place described name l.place) refl refl (owner_is described name ls)
  where
    either : (runs claims : Bool) → is_active l ≡ runs → claims_place described name l.place ≡ claims
        → owner_in described name ls ≡ owner_among described name (map runner_of (filter is_active ls))
        → owner_in described name (l ∷ ls) ≡ owner_among described name (map runner_of (filter is_active (l ∷ ls)))
    either true true runs claims rest = rw (runs, claims) refl
    either true false runs claims rest = rw (runs, claims) rest
    either false claims_so runs claims rest = rw runs rest

-- who runs at a place
active_is : (p : ℕ) (ls : List Loaded)
    → list_any (λ l. is_active l && l.place == p) ls
    ≡ list_any (λ (r : Runner). r.place == p) (map runner_of (filter is_active ls))
active_is p [] = refl
active_is p (l ∷ ls) = either (is_active l) refl (active_is p ls)
  where
    either : (runs : Bool) → is_active l ≡ runs
        → list_any (λ l. is_active l && l.place == p) ls
        ≡ list_any (λ (r : Runner). r.place == p) (map runner_of (filter is_active ls))
        → list_any (λ l. is_active l && l.place == p) (l ∷ ls)
        ≡ list_any (λ (r : Runner). r.place == p) (map runner_of (filter is_active (l ∷ ls)))
    either true runs rest = rw runs (ap (λ (b : Bool). l.place == p || b) rest)
    either false runs rest = rw runs rest

module _ (s t : State) (description : t.description ≡ s.description) (lives : t.lives ≡ s.lives)
    (same : runners t ≡ runners s) where
  owned_alike : (i : Interface) → owner t i ≡ owner s i
  owned_alike i =
      let name = i.called.name in
      ap (λ (o : Option ℕ). if i.called.is_command then o else None)
      (owner_is t.description.controllers name t.loaded
      ∙ ap₂ (λ (d : Description) (rs : List Runner). owner_among d.controllers name rs) description same
      ∙ sym (owner_is s.description.controllers name s.loaded))

  there_alike : (whose : Whose) → available_in t.lives (active t) whose ≡ available_in s.lives (active s) whose
  there_alike (of_joint component joint) = ap (λ (ls : List Life). running ls component) lives
  there_alike (of_controller place) =
      active_is place t.loaded ∙ ap (λ (rs : List Runner). list_any (λ (r : Runner). r.place == place) rs) same
      ∙ sym (active_is place s.loaded)

  -- The hardware of a state is that of each other state in which the same controllers run.
  pub running_hardware : (w : Wired) → IsHardwareOf s w → t.bodies ≡ s.bodies → t.values ≡ s.values → IsHardwareOf t w
  running_hardware w h bodies values =
      same_hardware s t owned_alike (λ i. there_alike i.whose) w h description lives bodies values

-- ---- While no controller is active

-- of controllers none of which is active, none is active and such
any_active : (ls : List Loaded) (test : Loaded → Bool) → AllByRecursion (λ l. is_active l ≡ false) ls
    → list_any (λ l. is_active l && test l) ls ≡ false
any_active [] test still = refl
any_active (l ∷ ls) test still = rw (still.0) (any_active ls test still.1)

-- so no reference is available
still_available : (s t : State) (whose : Whose) → IsStill s → IsStill t → t.lives ≡ s.lives
    → available_in t.lives (active t) whose ≡ available_in s.lives (active s) whose
still_available s t (of_joint component joint) one other lives = rw lives refl
still_available s t (of_controller place) one other lives =
    any_active t.loaded (λ l. l.place == place) other ∙ sym (any_active s.loaded (λ l. l.place == place) one)

-- The hardware of a state is that of each other state with the same hardware, while no controller is active.
pub still_hardware : (s t : State) (w : Wired) → IsHardwareOf s w → IsStill s → IsStill t
    → t.description ≡ s.description → t.lives ≡ s.lives → t.bodies ≡ s.bodies → t.values ≡ s.values → IsHardwareOf t w
still_hardware s t w h one other description lives bodies values =
    same_hardware s t (λ i. no_owner t i other ∙ sym (no_owner s i one))
    (λ i. still_available s t i.whose one other lives) w h description lives bodies values
