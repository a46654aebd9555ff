-- What active controllers of a steady state claim is available, wherever it is listed.
use Rattle.std.proofs.Common.{◌≡◌, ℕ, ◌+◌, true, false, List, [], ◌∷◌, ◌++◌, Option, Some}
use Rattle.std.proofs.Common.{None, inl, inr, refl, sym, ◌∙◌, ap, true≢false, arith}
use Rattle.std.specs.Prelude.{not, position, slice_index_or}
use Rattle.std.specs.List.{AllByRecursion}
use Rattle.std.specs.Option.{option_map_or}
use Rattle.std.proofs.lemmas.Bool.{not-false, cases_Bool}
use Rattle.std.proofs.lemmas.List.Elements.{Contains-append_left}
use Rattle.std.proofs.lemmas.List.Quantifiers.{position-Some}
use Rattle.sequence.proofs.ListLemmas.{any_flat_map, all_append}
use Rattle.iface_names.specs.Interfaces.{same_interface}
use Rattle.iface_names.specs.Sameness.{same_interface-Decides}
use Rattle.iface_names.specs.declared.interface.IfaceName.{IfaceName}
use Rattle.iface_names.specs.declared.interface.IfaceName.TheVariants.{Joint, Reference}
use Rattle.cm_document.proofs.DistinctLemmas.{all_of, all_so}
use Rattle.cm_document.specs.Described.{a_component}
use Rattle.cm_document.specs.Links.{refs_of, exporter}
use Rattle.cm_document.specs.Places.{a_state, a_command, Whose, of_joint, Interface}
use Rattle.cm_document.specs.Places.{at_components, at_controllers, interfaces_of}
use Rattle.cm_document.specs.declared.description.CompDesc.{CompDesc}
use Rattle.cm_document.specs.declared.description.CompKind.TheVariants.{System}
use Rattle.cm_document.specs.declared.description.Description.{Description}
use Rattle.cm_document.specs.declared.life.Life.TheVariants.{Unconfigured}
use Rattle.cm_model.proofs.InterfaceLemmas.{components_all}
use Rattle.cm_model.specs.Commit.{described_of, scene_of}
use Rattle.cm_model.specs.Components.{is_available}
use Rattle.cm_model.specs.Cycle.{updated_in}
use Rattle.cm_model.specs.Order.{controller_at, nobody}
use Rattle.cm_model.specs.Scene.{claims_at}
use Rattle.cm_model.specs.Sound.{names_at, CanRunTogether}
use Rattle.cm_model.specs.State.{State, active, available_in}
use Rattle.switch_plan.proofs.CauseLemmas.{claims_from}
use Rattle.switch_plan.proofs.ElementLemmas.{any_from}
use Rattle.sound_laws.proofs.ActiveLemmas.{updated_active}
use Rattle.sound_laws.proofs.InterfaceLemmas.{is_named, has_named, components_none, interfaces_of_component}
use Rattle.sound_laws.proofs.InterfaceLemmas.{exports, references_none, references_of_controller}
use Rattle.sound_laws.proofs.LoanLemmas.{none_at, running_at}
use Rattle.sound_laws.proofs.UpdatedLemmas.{ClaimsAreThere}
use Rattle.sound_laws.proofs.ValidLemmas.{IsChecked}

-- what holds for each name of all holds of each for its own
for_its_own : (Q : IfaceName → Interface → Type 0) (xs : List Interface)
    → ((name : IfaceName) → AllByRecursion (Q name) xs) → AllByRecursion (λ x. Q x.called.name x) xs
for_its_own Q [] all = tt
for_its_own Q (x ∷ xs) all = ((all x.called.name).0, for_its_own Q xs (λ name. (all name).1))

-- a component without joints, which stands for what is past the last
abbrev no_component : CompDesc
no_component = a_component [] System Unconfigured Unconfigured [] [] []

module _ (s : State) (checked : IsChecked s.description) (together : CanRunTogether s.description s.lives (active s))
  where
    abbrev d : Description
    d = s.description

    abbrev IsThere : Whose → Type 0
    IsThere whose = available_in s.lives (active s) whose ≡ true

    -- an interface of this name is there; a command or reference of this name is
    abbrev Named : IfaceName → Interface → Type 0
    Named interface x = same_interface x.called.name interface ≡ true → IsThere x.whose

    abbrev Commanded : IfaceName → Interface → Type 0
    Commanded interface x = x.called.is_command ≡ true → Named interface x

    -- what an active controller claims: each listed interface of that name is there
    module _ (p : ℕ) (runs : active s p ≡ true) where
      claims_named : (interface : IfaceName) → claims_at d.controllers p interface ≡ true
          → names_at d.controllers p interface ≡ true
      claims_named interface claims =
          let c = controller_at d.controllers p in
          any_from (same_interface interface) (c.claims ++ c.reads) interface
          (Contains-append_left c.claims c.reads interface (claims_from (scene_of s) p interface claims))
          ((same_interface-Decides interface interface).1 refl)

      -- commands of components
      commands_there : (interface : IfaceName) → claims_at d.controllers p interface ≡ true
          → AllByRecursion (Named interface) (at_components a_command (λ j. j.commands) 0 0 d.components)
      commands_there (Reference controller joint kind) claims =
          components_all (Named (Reference controller joint kind)) a_command (λ j. j.commands)
          (λ component n other kind' same. absurd (true≢false (sym same))) 0 0 d.components
      commands_there (Joint joint kind) claims = of (position (has_named joint) d.components) refl
        where
          of : (o : Option ℕ) → position (has_named joint) d.components ≡ o
              → AllByRecursion (Named (Joint joint kind)) (at_components a_command (λ j. j.commands) 0 0 d.components)
          of None at =
              components_none joint kind IsThere true (λ j. j.commands) 0 0 d.components
              (any_flat_map (is_named joint) (λ (c : CompDesc). c.joints) d.components
              ∙ none_at (has_named joint) d.components at)
          of (Some k) at =
              let found = position-Some (has_named joint) d.components k no_component at in
              let up : is_available (slice_index_or s.lives k Unconfigured) ≡ true =
              ap (λ o. option_map_or (λ k. is_available (slice_index_or s.lives k Unconfigured)) o true) (sym at)
              ∙ together.available p (Joint joint kind) runs (claims_named (Joint joint kind) claims) in
              let first : 0 + k ≡ k = omega arith in
              interfaces_of_component joint kind IsThere true (λ j. j.commands) d.components 0 0 k no_component
              checked.joints found.0 found.1
              (λ n. ap (λ m. available_in s.lives (active s) (of_joint m n)) first ∙ running_at s.lives k ∙ up)

      -- references
      references_there : (interface : IfaceName) → claims_at d.controllers p interface ≡ true
          → AllByRecursion (Named interface) (at_controllers 0 d.controllers)
      references_there interface claims = of (exporter d.controllers interface) refl
        where
          of : (o : Option ℕ) → exporter d.controllers interface ≡ o
              → AllByRecursion (Named interface) (at_controllers 0 d.controllers)
          of None at =
              references_none interface IsThere 0 d.controllers
              (any_flat_map (same_interface interface) refs_of d.controllers
              ∙ none_at (exports interface) d.controllers at)
          of (Some q) at =
              let found = position-Some (exports interface) d.controllers q nobody at in
              let follows : active s q ≡ true = not-false (active s q)
              (ap (λ o. option_map_or (λ k. not (active s k)) o false) (sym at)
              ∙ together.followed p interface runs claims) in
              let first : 0 + q ≡ q = omega arith in
              references_of_controller interface IsThere d.controllers 0 q nobody checked.references found.0 found.1
              (ap (active s) first ∙ follows)

      all_there : (interface : IfaceName) → claims_at d.controllers p interface ≡ true
          → AllByRecursion (Commanded interface) (interfaces_of d)
      all_there interface claims =
          all_append (Commanded interface) (at_components a_state (λ j. j.states) 0 0 d.components)
          (at_components a_command (λ j. j.commands) 0 0 d.components ++ at_controllers 0 d.controllers)
          (components_all (Commanded interface) a_state (λ j. j.states)
          (λ component n joint kind command same. absurd (true≢false (sym command))) 0 0 d.components)
          (all_so (Named interface) (Commanded interface) (λ x there command. there)
          (at_components a_command (λ j. j.commands) 0 0 d.components ++ at_controllers 0 d.controllers)
          (all_append (Named interface) (at_components a_command (λ j. j.commands) 0 0 d.components)
          (at_controllers 0 d.controllers)
          (commands_there interface claims) (references_there interface claims)))

      -- what is listed under this name is so where it is claimed
      abbrev Claimed : IfaceName → Interface → Type 0
      Claimed interface x = claims_at d.controllers p interface ≡ true → Commanded interface x

      claimed_there : (interface : IfaceName) → AllByRecursion (Claimed interface) (interfaces_of d)
      claimed_there interface = elim (cases_Bool (claims_at d.controllers p interface)) [
        | inl claims ↦ all_so (Commanded interface) (Claimed interface) (λ x there again. there) (interfaces_of d)
            (all_there interface claims)
        | inr none ↦ all_of (Claimed interface) (λ x claims. absurd (true≢false (sym claims ∙ none))) (interfaces_of d)
      ]

      -- Each listed command or reference that it claims is available.
      pub claims_there : ClaimsAreThere (available_in s.lives (active s)) (controller_at d.controllers p)
          (interfaces_of d)
      claims_there =
          all_so (λ x. Claimed x.called.name x) _
          (λ x there command claims. there claims command ((same_interface-Decides x.called.name x.called.name).1 refl))
          (interfaces_of d)
          (for_its_own Claimed (interfaces_of d) claimed_there)

    -- So it is of those that a cycle updates.
    pub updated_there : AllByRecursion
        (λ l. ClaimsAreThere (available_in s.lives (active s)) (described_of s l) (interfaces_of d)) (updated_in s)
    updated_there =
        all_so (λ l. active s l.place ≡ true)
        (λ l. ClaimsAreThere (available_in s.lives (active s)) (described_of s l) (interfaces_of d))
        (λ l runs. claims_there l.place runs)
        (updated_in s) (updated_active s)
