-- What the controllers of a valid description claim, read and export stands somewhere among its interfaces.
use Rattle.std.proofs.Common.{◌≡◌, ℕ, zero, suc, Bool, true, false, List, [], ◌∷◌, ◌++◌}
use Rattle.std.proofs.Common.{map, Option, Some, None, Result, Ok, Err, refl, sym, ap, ◌∙◌}
use Rattle.std.specs.Prelude.{not, ◌||◌}
use Rattle.std.specs.List.{AllByRecursion, IsDistinct, list_any, find}
use Rattle.std.proofs.lemmas.Bool.{not-false, or_left, or_right}
use Rattle.std.proofs.lemmas.List.Folds.{list_any-append}
use Rattle.iface_names.specs.Interfaces.{same_interface, interface_text}
use Rattle.iface_names.specs.Sameness.{same_interface-IsEquivalence}
use Rattle.iface_names.specs.declared.interface.IfaceName.{IfaceName}
use Rattle.sequence.proofs.ListLemmas.{any_map}
use Rattle.cm_document.specs.Described.{states_of}
use Rattle.cm_document.specs.Links.{commands_of, refs_of, references_of, is_among}
use Rattle.cm_document.specs.Places.{Called, a_state, a_command, interfaces_of}
use Rattle.cm_document.specs.Valid.{claimable, IsValid}
use Rattle.cm_document.specs.declared.description.CtlDesc.{CtlDesc}
use Rattle.cm_document.specs.declared.description.Description.{Description}
use Rattle.cm_document.proofs.DistinctLemmas.{all_so}
use Rattle.cm_document.proofs.PlaceLemmas.{called_by_names}
use Rattle.cm_model.specs.Claims.{is_state_named, is_command_named}
use Rattle.cm_model.specs.Order.{controller_at}
use Rattle.cm_places.specs.Placed.{state_place, command_place}
use Rattle.cm_model.proofs.LinkedLemmas.{links_of_valid}
use Rattle.cm_places.proofs.FirstLemmas.{IsFound, place_of_any}

-- ---- Names

-- whether a name is among these, in whatever order they are compared
pub among_swapped : (name : IfaceName) (names : List IfaceName)
    → list_any (λ x. same_interface x name) names ≡ list_any (same_interface name) names
among_swapped name [] = refl
among_swapped name (x ∷ xs) = rw (same_interface-IsEquivalence.symm x name, among_swapped name xs) refl

-- each of these is among these
pub among_itself : (names : List IfaceName) → AllByRecursion (λ name. is_among name names ≡ true) names
among_itself [] = tt
among_itself (x ∷ xs) = (
  or_left (same_interface x x) (is_among x xs) (same_interface-IsEquivalence.refl x),
  all_so (λ name. is_among name xs ≡ true) (λ name. is_among name (x ∷ xs) ≡ true)
      (λ name among. or_right (same_interface name x) (is_among name xs) among) xs (among_itself xs),
)

-- ---- Interfaces

-- how the interfaces are called
any_called : (d : Description) (test : Called → Bool) → list_any (λ i. test i.called) (interfaces_of d)
    ≡ (list_any (λ name. test (a_state name)) (states_of d.components)
    || list_any (λ name. test (a_command name)) (commands_of d.components ++ references_of d.controllers))
any_called d test =
    sym (any_map test (λ i. i.called) (interfaces_of d))
    ∙ ap (list_any test) (called_by_names d)
    ∙ list_any-append test (map a_state (states_of d.components))
    (map a_command (commands_of d.components ++ references_of d.controllers))
    ∙ rw (
      any_map test a_state (states_of d.components),
      any_map test a_command (commands_of d.components ++ references_of d.controllers),
    ) refl

-- a state interface that there is has a place
pub state_found : (d : Description) (name : IfaceName) → is_among name (states_of d.components) ≡ true
    → IsFound (state_place d) name
state_found d name among =
    place_of_any (λ i. is_state_named name i.called) (interfaces_of d)
    (any_called d (is_state_named name) ∙ or_left _ _ (among_swapped name (states_of d.components) ∙ among))

-- and so has what can be claimed
pub command_found : (d : Description) (name : IfaceName) → is_among name (claimable d) ≡ true
    → IsFound (command_place d) name
command_found d name among =
    place_of_any (λ i. is_command_named name i.called) (interfaces_of d)
    (any_called d (is_command_named name) ∙ or_right _ _ (among_swapped name (claimable d) ∙ among))

-- ---- Each has its place

-- what is read,
pub reads_found : (d : Description) → IsValid d → (p : ℕ)
    → AllByRecursion (IsFound (state_place d)) (controller_at d.controllers p).reads
reads_found d ok p =
    all_so _ (IsFound (state_place d)) (state_found d) (controller_at d.controllers p).reads
    (links_of_valid d ok p).read

-- what is claimed, of which nothing stands twice,
pub claims_found : (d : Description) → IsValid d → (p : ℕ)
    → AllByRecursion (IsFound (command_place d)) (controller_at d.controllers p).claims
claims_found d ok p =
    all_so _ (IsFound (command_place d)) (command_found d) (controller_at d.controllers p).claims
    (links_of_valid d ok p).claimed

pub claims_apart : (d : Description) → IsValid d → (p : ℕ)
    → IsDistinct same_interface (controller_at d.controllers p).claims
claims_apart d ok p = (links_of_valid d ok p).claims_differ

-- and each reference
references_among : (cs : List CtlDesc) (p : ℕ)
    → AllByRecursion (λ name. is_among name (references_of cs) ≡ true) (refs_of (controller_at cs p))
references_among [] p = tt
references_among (c ∷ cs) zero =
    all_so _ (λ name. is_among name (references_of (c ∷ cs)) ≡ true)
    (λ name among. list_any-append (same_interface name) (refs_of c) (references_of cs) ∙ or_left _ _ among) (refs_of c)
    (among_itself (refs_of c))
references_among (c ∷ cs) (suc p) =
    all_so _ (λ name. is_among name (references_of (c ∷ cs)) ≡ true)
    (λ name among. list_any-append (same_interface name) (refs_of c) (references_of cs) ∙ or_right _ _ among)
    (refs_of (controller_at cs p)) (references_among cs p)

pub references_found : (d : Description) (p : ℕ)
    → AllByRecursion (IsFound (command_place d)) (refs_of (controller_at d.controllers p))
references_found d p =
    all_so _ (IsFound (command_place d))
    (λ name among. command_found d name
    (list_any-append (same_interface name) (commands_of d.components) (references_of d.controllers)
    ∙ or_right _ _ among))
    (refs_of (controller_at d.controllers p)) (references_among d.controllers p)
