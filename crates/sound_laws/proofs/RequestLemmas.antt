-- What hardware requests keep: what an active controller uses stays available.
use Rattle.std.proofs.Common.{◌≡◌, ℕ, zero, suc, Bool, true, false, List, [], ◌∷◌, ◌++◌, Option}
use Rattle.std.proofs.Common.{Some, None, inl, inr, refl, sym, ◌∙◌, subst, ap, true≢false}
use Rattle.std.specs.Prelude.{◌==◌, ◌&&◌, not, if◌then◌else◌, find, option_map, slice_index_or, slice_set}
use Rattle.std.specs.Option.{option_map_or}
use Rattle.std.proofs.lemmas.Bool.{and_parts, eqb-true, eq-eqb, cases_eq, cases_Bool}
use Rattle.std.proofs.lemmas.List.{get_or-set_other, length-set}
use Rattle.iface_names.specs.Interfaces.{same_interface}
use Rattle.iface_names.specs.Sameness.{same_interface-Decides}
use Rattle.iface_names.specs.declared.interface.IfaceName.{IfaceName}
use Rattle.cm_document.specs.declared.description.CompDesc.{CompDesc}
use Rattle.cm_document.specs.declared.description.CtlDesc.{CtlDesc}
use Rattle.cm_document.specs.declared.life.Life.{Life}
use Rattle.cm_document.specs.declared.life.Life.TheVariants.{Unconfigured}
use Rattle.cm_model.proofs.MoveLemmas.{moved_steady}
use Rattle.cm_model.specs.Boundary.{user_of, life_at, move_fault, with_move_unless, with_move}
use Rattle.cm_model.specs.Claims.{uses}
use Rattle.cm_model.specs.Commit.{described_of}
use Rattle.cm_model.specs.Components.{is_available, has_move}
use Rattle.cm_model.specs.Cycle.{active_order}
use Rattle.cm_model.specs.Faults.{cause_if, component_with}
use Rattle.cm_model.specs.Order.{controller_at}
use Rattle.cm_model.specs.Sound.{names_at, is_there}
use Rattle.cm_model.specs.State.{State, Loaded, is_active, active}
use Rattle.cm_model.specs.Steady.{IsSteady}
use Rattle.cm_model.specs.declared.cause.Cause.{Cause}
use Rattle.cm_model.specs.declared.cause.Cause.TheVariants as cause
use Rattle.sound_laws.proofs.ActiveLemmas.{in_active_order}
use Rattle.switch_plan.proofs.ElementLemmas.{or_none, map_none, some_of, any_from, not_found}

-- ---- Who uses a component

-- a controller that claims or reads an interface uses its component
pub uses_named : (components : List CompDesc) (test : ℕ → Bool) (controllers : List CtlDesc) (p : ℕ)
    (interface : IfaceName) (k : ℕ) → names_at controllers p interface ≡ true
    → component_with components interface ≡ Some k → test k ≡ true
    → uses components test (controller_at controllers p) ≡ true
uses_named components test controllers p interface k named at passes =
    let c = controller_at controllers p in
    let r = some_of (same_interface interface) (c.claims ++ c.reads) named in
    let same : interface ≡ r.0 = (same_interface-Decides interface r.0).0 r.2 in
    any_from (λ name. option_map_or test (component_with components name) false) (c.claims ++ c.reads) r.0 r.1
    (ap (λ name. option_map_or test (component_with components name) false) (sym same)
    ∙ ap (λ o. option_map_or test o false) at ∙ passes)

-- where no user is told, no active controller uses the component
unused : (s : State) (component : ℕ) → user_of s component ≡ None → (p : ℕ) → active s p ≡ true
    → uses s.description.components (λ k. k == component) (controller_at s.description.controllers p) ≡ false
unused s component none p runs =
    let r = some_of (λ (l : Loaded). is_active l && l.place == p) s.loaded runs in
    let parts = and_parts (is_active r.0) (r.0.place == p) r.2 in
    let each = not_found (λ (l : Loaded). uses s.description.components (λ k. k == component) (described_of s l))
    (active_order s)
    (map_none (λ (l : Loaded). (described_of s l).name)
    (find (λ (l : Loaded). uses s.description.components (λ k. k == component) (described_of s l)) (active_order s))
    none)
    r.0 (in_active_order s r.0 r.1 parts.0) in
    subst (λ q. uses s.description.components (λ k. k == component) (controller_at s.description.controllers q) ≡ false)
    (eqb-true r.0.place p parts.1) each

-- ---- Lifecycle states

set_available : (lives : List Life) (k : ℕ) (target : Life) → is_available target ≡ true
    → is_available (slice_index_or lives k Unconfigured) ≡ true
    → is_available (slice_index_or (slice_set lives k target) k Unconfigured) ≡ true
set_available [] k target up was = absurd (true≢false (sym was))
set_available (life ∷ lives) zero target up was = up
set_available (life ∷ lives) (suc k) target up was = set_available lives k target up was

module _ (s : State) (steady : IsSteady s) (component : ℕ) (target : Life) (none : move_fault s component target ≡ None)
  where
    abbrev components : List CompDesc
    components = s.description.components

    -- the target is available, or no active controller uses the component
    no_user : is_available target ≡ false → user_of s component ≡ None
    no_user down =
        let second = (or_none (cause_if (not (has_move (life_at s component) target)) cause.NoSuchMove)
        (if is_available target then None else option_map (λ name. cause.InUse name) (user_of s component)) none).1 in
        map_none (λ name. cause.InUse name) (user_of s component)
        (ap (λ (b : Bool). if b then None else option_map (λ name. cause.InUse name) (user_of s component)) (sym down)
        ∙ second)

    available_at : (p : ℕ) (interface : IfaceName) (k : ℕ) → active s p ≡ true
        → names_at s.description.controllers p interface ≡ true → component_with components interface ≡ Some k
        → is_available (slice_index_or s.lives k Unconfigured) ≡ true
        → is_available (slice_index_or (slice_set s.lives component target) k Unconfigured) ≡ true
    available_at p interface k runs named at was =
        elim (cases_eq k component) [
          | inl same ↦
              elim (cases_Bool (is_available target)) [
                | inl up ↦ subst (λ c. is_available (slice_index_or (slice_set s.lives c target) k Unconfigured) ≡ true)
                    same (set_available s.lives k target up was)
                | inr down ↦ absurd
                    (true≢false (sym
                    (uses_named components (λ c. c == component) s.description.controllers p interface k
                    named at (eq-eqb k component same))
                    ∙ unused s component (no_user down) p runs))
              ]
          | inr other ↦ ap is_available (get_or-set_other s.lives component k target Unconfigured other) ∙ was
        ]

    there_after : (p : ℕ) (interface : IfaceName) → active s p ≡ true
        → names_at s.description.controllers p interface ≡ true
        → is_there s.description (slice_set s.lives component target) interface ≡ true
    there_after p interface runs named =
        of (component_with components interface) refl (steady.together.available p interface runs named)
      where
        of : (o : Option ℕ) → component_with components interface ≡ o
            → option_map_or (λ k. is_available (slice_index_or s.lives k Unconfigured)) o true ≡ true
            → option_map_or (λ k. is_available (slice_index_or (slice_set s.lives component target) k Unconfigured)) o
            true ≡ true
        of None at was = refl
        of (Some k) at was = available_at p interface k runs named at was

    move_steady : IsSteady (with_move_unless s [] component target None).state
    move_steady =
        moved_steady s (slice_set s.lives component target) steady.in_order (length-set s.lives component target)
        (record {
          exclusive = steady.together.exclusive;
          one_mode = steady.together.one_mode;
          available = there_after;
          followed = steady.together.followed;
        })

-- What becomes of a hardware request is steady, whether it is done or refused.
unless_steady : (s : State) → IsSteady s → (name : List ℕ) (component : ℕ) (target : Life) (o : Option Cause)
    → move_fault s component target ≡ o
    → IsSteady (with_move_unless s name component target o).state
unless_steady s steady name component target None none = move_steady s steady component target none
unless_steady s steady name component target (Some c) is = steady

pub hardware_steady : (s : State) → IsSteady s → (name : List ℕ) (target : Life) (place : Option ℕ)
    → IsSteady (with_move s name target place).state
hardware_steady s steady name target None = steady
hardware_steady s steady name target (Some component) =
    unless_steady s steady name component target (move_fault s component target) refl
