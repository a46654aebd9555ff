-- All interfaces in their three parts.
use Rattle.std.proofs.Common.{◌≡◌, List, [], ◌∷◌, ◌++◌, map, refl, ap, sym, ◌∙◌}
use Rattle.std.proofs.lemmas.List.{map-append}
use Rattle.std.proofs.lemmas.Simd.{map-map}
use Rattle.iface_names.specs.Interfaces.{interface_text}
use Rattle.iface_names.specs.declared.interface.IfaceName.{IfaceName}
use Rattle.cm_document.specs.Described.{states_of}
use Rattle.cm_document.specs.Links.{commands_of, references_of}
use Rattle.cm_document.specs.Places.{Called, Interface, a_state, a_command, interfaces_of, called_in}
use Rattle.cm_document.specs.declared.description.Description.{Description}
use Rattle.cm_document.proofs.PlaceLemmas.{called_by_names}

texts_of_states : (names : List IfaceName)
    → map (λ (c : Called). interface_text c.name) (map a_state names) ≡ map interface_text names
texts_of_states [] = refl
texts_of_states (n ∷ names) = ap (λ l. interface_text n ∷ l) (texts_of_states names)

texts_of_commands : (names : List IfaceName)
    → map (λ (c : Called). interface_text c.name) (map a_command names) ≡ map interface_text names
texts_of_commands [] = refl
texts_of_commands (n ∷ names) = ap (λ l. interface_text n ∷ l) (texts_of_commands names)

-- an interface is told by what it is called
texts_called : (d : Description)
    → map (λ (i : Interface). interface_text i.called.name) (interfaces_of d)
    ≡ map (λ (c : Called). interface_text c.name) (called_in d)
texts_called d = sym (map-map (λ (c : Called). interface_text c.name) (λ (i : Interface). i.called) (interfaces_of d))

pub all_interfaces : (d : Description) → map (λ (i : Interface). interface_text i.called.name) (interfaces_of d)
    ≡ map interface_text (states_of d.components)
    ++ (map interface_text (commands_of d.components) ++ map interface_text (references_of d.controllers))
all_interfaces d =
    texts_called d
    ∙ ap (λ cs. map (λ (c : Called). interface_text c.name) cs) (called_by_names d)
    ∙ map-append (λ (c : Called). interface_text c.name) (map a_state (states_of d.components))
    (map a_command (commands_of d.components ++ references_of d.controllers))
    ∙ rw (
      texts_of_states (states_of d.components),
      texts_of_commands (commands_of d.components ++ references_of d.controllers),
      map-append interface_text (commands_of d.components) (references_of d.controllers),
    ) refl
