-- Worked rows, computed from the definitions alone.
use Rattle.std.proofs.Common.{◌≡◌, [], ◌∷◌, Some, None, Ok, Err, refl}
use Rattle.std.specs.Prelude.{codes}
use Rattle.iface_names.specs.Names.{name_of}
use Rattle.iface_names.specs.Interfaces.{interface_parts, interface_of, interface_text}
use Rattle.iface_names.specs.Registry.{Numbered, added, interface_place}
use Rattle.iface_names.specs.declared.interface.IfaceName.TheVariants.{Joint, Reference}
use Rattle.iface_names.specs.declared.kind.Kind.TheVariants.{Position, Velocity, Effort}
use Rattle.iface_names.specs.declared.name.NameFault.TheVariants.{BadName}
use Rattle.iface_names.specs.declared.registry.RegFault.TheVariants.{Taken, Full}

-- ---- Names

a_name : name_of (codes "j1_left") ≡ Ok (codes "j1_left")
a_name = refl

a_name_that_begins_with_a_digit : name_of (codes "1j") ≡ Err BadName
a_name_that_begins_with_a_digit = refl

-- ---- Interfaces

the_parts_of_a_text : interface_parts (codes "/a//bc") ≡ [] ∷ codes "a" ∷ [] ∷ codes "bc" ∷ []
the_parts_of_a_text = refl

a_joint : interface_of (codes "j1/position") ≡ Ok (Joint (codes "j1") Position)
unfolding interface_of
a_joint = refl

a_reference : interface_of (codes "pid/j1/effort") ≡ Ok (Reference (codes "pid") (codes "j1") Effort)
unfolding interface_of
a_reference = refl

one_part : interface_of (codes "j1") ≡ Err BadName
unfolding interface_of
one_part = refl

four_parts : interface_of (codes "a/b/c/velocity") ≡ Err BadName
unfolding interface_of
four_parts = refl

an_unknown_kind : interface_of (codes "j1/torque") ≡ Err BadName
unfolding interface_of
an_unknown_kind = refl

an_empty_controller : interface_of (codes "/j1/position") ≡ Err BadName
unfolding interface_of
an_empty_controller = refl

the_text_of_a_reference : interface_text (Reference (codes "pid") (codes "j1") Velocity) ≡ codes "pid/j1/velocity"
the_text_of_a_reference = refl

-- ---- Numbers

-- one interface is held, and two may be
abbrev one_held : Numbered
one_held = record { names = Joint (codes "a") Position ∷ []; limit = 2 }

-- two are held, and two may be
abbrev both_held : Numbered
both_held = record { names = Joint (codes "a") Position ∷ Joint (codes "a") Velocity ∷ []; limit = 2 }

a_new_interface_goes_last : added one_held (Joint (codes "a") Velocity) ≡ (Ok 1, both_held)
a_new_interface_goes_last = refl

a_held_interface_is_taken : added both_held (Joint (codes "a") Velocity) ≡ (Err (Taken 1), both_held)
a_held_interface_is_taken = refl

a_third_interface_is_refused : added both_held (Reference (codes "c") (codes "a") Velocity) ≡ (Err Full, both_held)
a_third_interface_is_refused = refl

the_place_of_a_held_interface : interface_place (Joint (codes "a") Velocity) both_held.names ≡ Some 1
the_place_of_a_held_interface = refl

no_place_of_another : interface_place (Joint (codes "b") Velocity) both_held.names ≡ None
no_place_of_another = refl
