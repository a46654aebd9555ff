-- That a controller which does not precede another claims nothing that the other reads.
use Rattle.std.proofs.Common.{◌≡◌, ℕ, true, false, List, [], ◌∷◌, length, Option}
use Rattle.std.proofs.Common.{None, Some, refl, sym, ap, ◌∙◌, true≢false}
use Rattle.std.specs.Prelude.{◌==◌, ◌&&◌, not, filter_map}
use Rattle.std.specs.List.{list_any, AllByRecursion}
use Rattle.std.specs.Option.{option_map_or}
use Rattle.std.proofs.lemmas.Bool.{and_parts, and_from, eqb-true, eq-eqb}
use Rattle.std.proofs.lemmas.Bool.{false_from_ne_true, not-true, or_from, or_parts}
use Rattle.std.proofs.lemmas.Option.{same_Some}
use Rattle.iface_names.specs.declared.interface.IfaceName.{IfaceName}
use Rattle.cm_document.specs.Links.{is_among, refs_of}
use Rattle.cm_document.specs.Places.{Called, Interface, interfaces_of}
use Rattle.cm_document.specs.declared.description.CtlDesc.{CtlDesc}
use Rattle.cm_document.specs.declared.description.Description.{Description}
use Rattle.cm_model.specs.Claims.{is_state_named, is_command_named}
use Rattle.cm_model.specs.Components.{is_listed}
use Rattle.cm_model.specs.Order.{controller_at, precedes_at}
use Rattle.chain_order.specs.Links.{linked, leaders_of}
use Rattle.chain_order.proofs.DepthLemmas.{precedes_at-first, precedes_at-second}
use Rattle.chain_order.proofs.LinkLemmas.{linked-rows_of}
use Rattle.chain_order.proofs.PlaceLemmas.{any-places_below}
use Rattle.cm_places.specs.Placed.{placed_of, state_place, command_place}
use Rattle.cm_places.proofs.ExistLemmas.{among_itself}
use Rattle.cm_places.proofs.FirstLemmas.{found_at, found_all}
use Rattle.cm_places.proofs.PlacedLemmas.{reads_row, references_row, claims_row, called_as}
use Rattle.switch_plan.specs.Relations.{relations_of}
use Rattle.switch_plan.proofs.ClearLemmas.{any_found}
use Rattle.switch_plan.proofs.TestLemmas.{some_below-from}
use Rattle.rt_flight.specs.Cells.{TellsApart}

-- who does not stand in the row of those that precede a controller does not precede it
pub not_before : (cs : List CtlDesc) (p q : ℕ) → is_listed (linked (leaders_of cs) q) p ≡ false
    → precedes_at cs p q ≡ false
not_before cs p q none =
    false_from_ne_true (precedes_at cs p q) (λ leads.
    let first = precedes_at-first cs p q leads in
    let last = precedes_at-second cs p q leads in
    let row = linked-rows_of (precedes_at cs) (length cs) q last in
    let found = some_below-from (λ each. (each == p) && precedes_at cs each q) (length cs) p first
    (and_from (p == p) (precedes_at cs p q) (eq-eqb p p refl) leads) in
    true≢false (sym found ∙ sym (any-places_below (λ each. each == p) (λ each. precedes_at cs each q) (length cs))
    ∙ sym (ap (λ ns. is_listed ns p) row) ∙ none))

module _ (d : Description) where
  -- at one place stands one command interface or reference,
  one_place : (i j : IfaceName) (k : ℕ) → command_place d i ≡ Some k → command_place d j ≡ Some k → i ≡ j
  one_place i j k here there =
      let first = found_at (λ (x : Interface). is_command_named i x.called) (interfaces_of d) k here in
      let second = found_at (λ (x : Interface). is_command_named j x.called) (interfaces_of d) k there in
      let one : first.0 ≡ second.0 = same_Some first.0 second.0 (sym first.1 ∙ second.1) in
      ap (λ (c : Called). c.name)
      (sym (called_as i first.0.called first.2) ∙ ap (λ (x : Interface). x.called) one
      ∙ called_as j second.0.called second.2)

  -- and no state interface
  no_state : (i j : IfaceName) (k : ℕ) → command_place d i ≡ Some k → state_place d j ≡ Some k → ⊥
  no_state i j k here there =
      let first = found_at (λ (x : Interface). is_command_named i x.called) (interfaces_of d) k here in
      let second = found_at (λ (x : Interface). is_state_named j x.called) (interfaces_of d) k there in
      let one : first.0 ≡ second.0 = same_Some first.0 second.0 (sym first.1 ∙ second.1) in
      let command : first.0.called.is_command ≡ true =
      ap (λ (c : Called). c.is_command) (called_as i first.0.called first.2) in
      let state : second.0.called.is_command ≡ false =
      not-true second.0.called.is_command (and_parts (not second.0.called.is_command) _ second.2).0 in
      true≢false (sym command ∙ ap (λ (x : Interface). x.called.is_command) one ∙ state)

  -- a place at which none of these stands is not among theirs
  unlisted : (k : ℕ) (names : List IfaceName) → AllByRecursion (λ i. command_place d i ≡ Some k → ⊥) names
      → is_listed (filter_map (command_place d) names) k ≡ false
  unlisted k names none = any_found (λ each. each == k) (command_place d) names ∙ none_found names none
    where
      one : (o : Option ℕ) → (o ≡ Some k → ⊥) → option_map_or (λ each. each == k) o false ≡ false
      one None differs = refl
      one (Some n) differs = false_from_ne_true (n == k) (λ same. differs (ap Some (eqb-true n k same)))

      none_found : (names : List IfaceName) → AllByRecursion (λ i. command_place d i ≡ Some k → ⊥) names
          → list_any (λ i. option_map_or (λ each. each == k) (command_place d i) false) names ≡ false
      none_found [] none = refl
      none_found (i ∷ is) none =
          or_from (option_map_or (λ each. each == k) (command_place d i) false) _ (one (command_place d i) none.0)
          (none_found is none.1)

  -- what one claims stands at no place of a state,
  states_unlisted : (j : IfaceName) (k : ℕ) (names : List IfaceName) → state_place d j ≡ Some k
      → AllByRecursion (λ i. command_place d i ≡ Some k → ⊥) names
  states_unlisted j k [] at = tt
  states_unlisted j k (i ∷ is) at = ((λ here. no_state i j k here at), states_unlisted j k is at)

  -- and, where none of it is a reference of another, at no place of those
  references_unlisted : (refs : List IfaceName) (j : IfaceName) (k : ℕ) (names : List IfaceName)
      → is_among j refs ≡ true → command_place d j ≡ Some k
      → list_any (λ i. is_among i refs) names ≡ false → AllByRecursion (λ i. command_place d i ≡ Some k → ⊥) names
  references_unlisted refs j k [] among at none = tt
  references_unlisted refs j k (i ∷ is) among at none =
      let parts = or_parts (is_among i refs) (list_any (λ i. is_among i refs) is) none in (
        (λ here. true≢false (sym among ∙ ap (λ x. is_among x refs) (sym (one_place i j k here at)) ∙ parts.0)),
        references_unlisted refs j k is among at parts.1,
      )

  each_named : (names : List IfaceName) → AllByRecursion (λ (name : IfaceName). Unit {0}) names
  each_named [] = tt
  each_named (name ∷ names) = (tt, each_named names)

  pub tells_apart : TellsApart (placed_of d) (relations_of d)
  tells_apart p q none =
      let claims = (controller_at d.controllers p).claims in
      let reads = (controller_at d.controllers q).reads in
      let refs = refs_of (controller_at d.controllers q) in
      let leads : list_any (λ i. is_among i refs) claims ≡ false = not_before d.controllers p q none in
      record {
        reads = rw (claims_row d p, reads_row d q)
            (found_all (state_place d) (λ j. Unit {0}) (λ k. is_listed (filter_map (command_place d) claims) k ≡ false)
            (λ j k here at. unlisted k claims (states_unlisted j k claims at)) reads (each_named reads));
        references = rw (claims_row d p, references_row d q)
            (found_all (command_place d) (λ j. is_among j refs ≡ true)
            (λ k. is_listed (filter_map (command_place d) claims) k ≡ false)
            (λ j k among at. unlisted k claims (references_unlisted refs j k claims among at leads)) refs
            (among_itself refs));
      }
