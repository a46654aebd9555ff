-- A registry grows at its end.
use Rattle.std.proofs.Common.{◌≡◌, ℕ, ◌+◌, ◌<◌, ◌≤◌, Bool, true, false, List, [], ◌∷◌, ◌++◌, length}
use Rattle.std.proofs.Common.{length-append, Option, Some, None, Result, Ok, Err, refl, ap, ◌∙◌, arith, lt-ltb}
use Rattle.std.specs.Prelude.{position, if◌then◌else◌, not, ◌==◌}
use Rattle.std.specs.List.{position_or_len}
use Rattle.std.proofs.lemmas.Bool.{cond_both}
use Rattle.std.proofs.lemmas.Bool.Decides.{nat_tests}
use Rattle.std.proofs.lemmas.List.Folds.{position_or_len_push, list_any_none}
use Rattle.std.proofs.lemmas.List.Sums.{prefix_len-le-length}
use Rattle.indexmap.specs.IndexSet.{insert_key}
use Rattle.iface_names.proofs.PlaceLemmas.{found_first, none_before_end, none_passes}
use Rattle.iface_names.specs.Interfaces.{same_interface}
use Rattle.iface_names.specs.Registry.{Numbered, interface_place, added_at, added}
use Rattle.iface_names.specs.Sameness.{same_interface-Decides}
use Rattle.iface_names.specs.declared.interface.IfaceName.{IfaceName}
use Rattle.iface_names.specs.declared.registry.RegFault.{RegFault}
use Rattle.iface_names.specs.declared.registry.RegFault.TheVariants.{Full}

-- a new name below the limit goes last
pub added_new : (held : Numbered) (name : IfaceName) → interface_place name held.names ≡ None
    → length held.names < held.limit
    → (added held name).1 ≡ record { names = insert_key same_interface held.names name; limit = held.limit }
added_new held name new below =
    rw (new, list_any_none _ _ (none_passes (same_interface name) held.names new), lt-ltb _ _ below) refl

-- what grows by one at most stays within a bound that it was below
pub one_more : (after before limit : ℕ) (grew : Bool) → after ≡ before + (if grew then 1 else 0) → before < limit
    → after ≤ limit
one_more after before limit true e below = omega (arith, e)
one_more after before limit false e below = omega (arith, e)

module _ {A : Type 0} (test : A → Bool) where
  -- what has a place keeps it when one is put at the end
  place_kept : (xs : List A) (y : A) (k : ℕ) → position test xs ≡ Some k → position test (xs ++ y ∷ []) ≡ Some k
  place_kept xs y k h =
      let found = found_first test xs k h in
      let below = found.0 in
      let apart : (position_or_len test xs == length xs) ≡ false = grind (arith, nat_tests) in
      let same : position_or_len test (xs ++ y ∷ []) ≡ position_or_len test xs =
      position_or_len_push test xs y ∙ rw apart refl in
      let longer : position_or_len test xs < length (xs ++ y ∷ []) = omega (arith, below, length-append xs (y ∷ [])) in
      rw (same, lt-ltb _ _ longer) (ap Some found.1)

  -- what has none gets the last
  place_given : (xs : List A) (y : A) → position test xs ≡ None → test y ≡ true
      → position test (xs ++ y ∷ []) ≡ Some (length xs)
  place_given xs y h here =
      let far = none_before_end test xs h in
      let near : position_or_len test xs ≤ length xs = prefix_len-le-length (λ x. not (test x)) xs in
      let level : (position_or_len test xs == length xs) ≡ true = grind (arith, nat_tests) in
      let none : length xs + 0 ≡ length xs = omega arith in
      let same : position_or_len test (xs ++ y ∷ []) ≡ length xs =
      position_or_len_push test xs y ∙ rw (level, here, none) refl in
      let longer : length xs < length (xs ++ y ∷ []) = omega (arith, length-append xs (y ∷ [])) in
      rw (same, lt-ltb _ _ longer) refl

-- what adding answers and leaves
abbrev Answered : Type 0
Answered = Result ℕ RegFault × Numbered

-- a held name keeps its place whatever is added
pub added_keeps : (held : Numbered) (name other : IfaceName) (place : ℕ) → interface_place name held.names ≡ Some place
    → interface_place name (added held other).1.names ≡ Some place
added_keeps held name other place h = by (interface_place other held.names)
  where
    by : (o : Option ℕ) → interface_place name (added_at o held other).1.names ≡ Some place
    by (Some _) = h
    by None = cond_both _ _ _ (λ (r : Answered). interface_place name r.1.names ≡ Some place)
        (λ _. place_kept _ held.names other place h) (λ _. h)

-- one answer has one place
one_place : (n k : ℕ) → ◌≡◌ {A = Result ℕ RegFault} (Ok n) (Ok k) → n ≡ k
one_place n k h = cc

-- an added name has the place that it was given
pub added_gives : (held : Numbered) (name : IfaceName) (place : ℕ) → (added held name).0 ≡ Ok place
    → interface_place name (added held name).1.names ≡ Some place
added_gives held name place = by (interface_place name held.names) refl
  where
    by : (o : Option ℕ) → interface_place name held.names ≡ o → (added_at o held name).0 ≡ Ok place
        → interface_place name (added_at o held name).1.names ≡ Some place
    by (Some _) e = λ h. cc
    by None e = cond_both _ _ (Err Full, held)
        (λ (r : Answered). r.0 ≡ Ok place → interface_place name r.1.names ≡ Some place)
        (λ _ h. place_given _ held.names name e ((same_interface-Decides name name).1 refl) ∙ ap Some (one_place _ _ h))
        (λ _ h. cc)

pub ruleset keeping_places = (added_keeps, added_gives)
