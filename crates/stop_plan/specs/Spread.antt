-- How stops spread over links, against the order of updates.
use Rattle.std.specs.Prelude.{ℕ, if◌then◌else◌, List, [], ◌∷◌}
use Rattle.std.specs.List.{list_any}
use Rattle.cm_model.specs.Order.{Places, with_one}
use Rattle.cm_model.specs.declared.member.Member.{Member}

-- the set with a controller, where one that it is linked to is a member
abbrev pub spread_to : (ℕ → List ℕ) → Member → Places → Places
spread_to rows m set = if list_any set (rows m.place) then with_one m.place set else set

-- From the last to the first, each of these becomes a member that is linked to one.
abbrev pub spread : (ℕ → List ℕ) → List Member → Places → Places
spread rows [] set = set
spread rows (m ∷ ms) set = spread_to rows m (spread rows ms set)
