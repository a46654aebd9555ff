-- Which controllers the words of a switch name: a group stands for its members.
use Rattle.std.specs.Prelude.{ℕ, Bool, true, false, List, [], ◌∷◌, map, flat_map, filter_map, find, Option, Some, None}
use Rattle.std.specs.Option.{option_map_or}
use Rattle.iface_names.specs.Names.{same_name}
use Rattle.cm_document.specs.declared.call.Pick.{Pick}
use Rattle.cm_document.specs.declared.call.Pick.TheVariants.{One, Group}
use Rattle.cm_document.specs.declared.description.Description.{Description}
use Rattle.cm_document.specs.declared.description.GroupDesc.{GroupDesc}

-- it is a group
abbrev pub is_group : Pick → Bool
is_group (One name) = false
is_group (Group name) = true

-- the described group of this name
abbrev pub group_of : Description → List ℕ → Option GroupDesc
group_of d name = find (λ group. same_name name group.name) d.groups

-- A group that is described stands for its members, in their order. Another stays as it is, and so does a controller.
abbrev pub flat_pick : Description → Pick → List Pick
flat_pick d (One name) = One name ∷ []
flat_pick d (Group name) = option_map_or (λ group. map One group.members) (group_of d name) (Group name ∷ [])

-- a list as a flat one: each group is replaced at its place
abbrev pub flat : Description → List Pick → List Pick
flat d picks = flat_map (flat_pick d) picks

-- the controller that is named by itself
abbrev pub controller_in : Pick → Option (List ℕ)
controller_in (One name) = Some name
controller_in (Group name) = None

-- the names of the controllers of a flat list, in their order
abbrev pub picked_names : List Pick → List (List ℕ)
picked_names picks = filter_map controller_in picks
