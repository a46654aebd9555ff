-- Flat lists of a switch.
use Rattle.std.proofs.Common.{◌≡◌, ℕ, false, List, [], ◌∷◌, map, Option, Some, None, refl, ap, subst}
use Rattle.std.specs.List.{AllByRecursion, Contains, list_any}
use Rattle.std.specs.Option.{option_map_or}
use Rattle.std.proofs.lemmas.List.Elements.{All-from_recursion}
use Rattle.sequence.proofs.ListLemmas.{all_append}
use Rattle.cm_document.specs.Picks.{is_group, group_of, flat_pick, flat, picked_names}
use Rattle.cm_document.specs.declared.call.Pick.{Pick}
use Rattle.cm_document.specs.declared.call.Pick.TheVariants.{One, Group}
use Rattle.cm_document.specs.declared.description.Description.{Description}
use Rattle.cm_document.specs.declared.description.GroupDesc.{GroupDesc}

-- a list without a group is flat
pub flat-without : (d : Description) (picks : List Pick) → list_any is_group picks ≡ false → flat d picks ≡ picks
flat-without d [] none = refl
flat-without d (One name ∷ picks) none = ap (λ more. One name ∷ more) (flat-without d picks none)
flat-without d (Group name ∷ picks) none = cc

-- and so are controllers that are named one by one
pub flat-ones : (d : Description) (names : List (List ℕ)) → flat d (map One names) ≡ map One names
flat-ones d [] = refl
flat-ones d (name ∷ names) = ap (λ more. One name ∷ more) (flat-ones d names)

-- whose names are these
pub picked_names-ones : (names : List (List ℕ)) → picked_names (map One names) ≡ names
picked_names-ones [] = refl
picked_names-ones (name ∷ names) = ap (λ more. name ∷ more) (picked_names-ones names)

-- ---- Groups that stay

-- it is no group, or one that is not described
abbrev pub Stays : Description → Pick → Type 0
Stays d (One name) = Unit {0}
Stays d (Group name) = group_of d name ≡ None

ones_stay : (d : Description) (names : List (List ℕ)) → AllByRecursion (Stays d) (map One names)
ones_stay d [] = tt
ones_stay d (name ∷ names) = (tt, ones_stay d names)

found_stays : (d : Description) (name : List ℕ) (o : Option GroupDesc) → group_of d name ≡ o
    → AllByRecursion (Stays d) (option_map_or (λ (group : GroupDesc). map One group.members) o (Group name ∷ []))
found_stays d name None is = (is, tt)
found_stays d name (Some group) is = ones_stay d group.members

each_stays : (d : Description) (picks : List Pick) → AllByRecursion (Stays d) (flat d picks)
each_stays d [] = tt
each_stays d (One name ∷ picks) = (tt, each_stays d picks)
each_stays d (Group name ∷ picks) =
    all_append (Stays d) (flat_pick d (Group name)) (flat d picks) (found_stays d name (group_of d name) refl)
    (each_stays d picks)

-- what stays as a group in a flat list is not described
pub flat-not_described : (d : Description) (picks : List Pick) (name : List ℕ) → Contains (flat d picks) (Group name)
    → group_of d name ≡ None
flat-not_described d picks name (i, below, is) =
    subst (Stays d) is (All-from_recursion (Stays d) (flat d picks) (each_stays d picks) i (Group name) below)
