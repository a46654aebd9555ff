-- How interfaces are numbered: in the order in which they are first seen.
use Rattle.std.specs.Prelude.{ℕ, ◌<◌, ◌≤◌, ◌^◌, nat_lt, if◌then◌else◌, List, [], ◌∷◌, ◌++◌, length, position, Option}
use Rattle.std.specs.Prelude.{Some, None, Result, Ok, Err}
use Rattle.std.specs.List.{IsDistinct}
use Rattle.iface_names.specs.Interfaces.{same_interface}
use Rattle.iface_names.specs.declared.interface.IfaceName.{IfaceName}
use Rattle.iface_names.specs.declared.registry.RegFault.{RegFault}
use Rattle.iface_names.specs.declared.registry.RegFault.TheVariants.{Taken, Full}

-- The names that are held, each at its place, and how many may be held.
pub record Numbered : Type 0 where
  pub names : List IfaceName
  pub limit : ℕ

-- the place of a name, where it is held
abbrev pub interface_place : IfaceName → List IfaceName → Option ℕ
interface_place name names = position (same_interface name) names

-- What adding a name that has this place, or none yet, answers and leaves: a held name is taken. A new one is refused
-- where as many as may be are held, and else stands at the end, so that its place is the number of names before it.
abbrev pub added_at : Option ℕ → Numbered → IfaceName → Result ℕ RegFault × Numbered
added_at (Some place) held name = (Err (Taken place), held)
added_at None held name =
    if nat_lt (length held.names) held.limit then (
      Ok (length held.names),
      record held {
        names = held.names ++ name ∷ [];
      },
    )
    else (Err Full, held)

-- what adding a name answers and leaves
abbrev pub added : Numbered → IfaceName → Result ℕ RegFault × Numbered
added held name = added_at (interface_place name held.names) held name

-- At most as many names are held as may be, no name is held twice, and a limit is a number of 32 bits.
pub record IsNumbered (held : Numbered) : Type 0 where
  pub few : length held.names ≤ held.limit
  pub distinct : IsDistinct same_interface held.names
  pub small : held.limit < 2 ^ 32
