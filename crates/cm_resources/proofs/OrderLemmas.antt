-- The order of updates: where its controllers stand, and what holds of each of them.
use Rattle.std.proofs.Common.{◌≡◌, ℕ, zero, suc, ◌<◌, Bool, true, false, cond, List, [], ◌∷◌, length}
use Rattle.std.proofs.Common.{map, Option, Some, None, refl, sym, ap, ap₂, subst, ◌∙◌, arith}
use Rattle.std.specs.Prelude.{◌==◌, filter, slice_get, Contains}
use Rattle.std.specs.List.{All, AllByRecursion, IsDistinct}
use Rattle.std.proofs.lemmas.Bool.{eq-eqb, or_right}
use Rattle.std.proofs.lemmas.List.Elements.{All-from_recursion, recursion_from_All}
use Rattle.std.proofs.lemmas.Option.{slice_get_within, get_or_from_slice_get}
use Rattle.sequence.proofs.ListLemmas.{all_append, head_same, tail_same}
use Rattle.cm_model.specs.Cycle.{active_order}
use Rattle.cm_model.specs.Order.{by_rank, depth}
use Rattle.cm_model.specs.State.{State, Loaded, is_active, active}
use Rattle.cm_model.specs.declared.member.Member.{Member}
use Rattle.sound_laws.proofs.ActiveLemmas.{from_active_order}
use Rattle.sound_laws.proofs.RunLemmas.{one_of_serial}
use Rattle.stop_plan.specs.Ending.{member_of, members_in_order}
use Rattle.cm_resources.specs.ActiveSet.{actives, serials_of, is_listed, AreAt}
use Rattle.cm_resources.specs.Described.{IsAsDescribed}
use Rattle.cm_resources.proofs.ActiveLemmas.{order_is}
use Rattle.cm_resources.proofs.CommitLemmas.{places_within}

-- ---- What holds of each

pub all_filter : {A : Type 0} (P : A → Type 0) (test : A → Bool) (xs : List A) → AllByRecursion P xs
    → AllByRecursion P (filter test xs)
all_filter P test [] all = tt
all_filter P test (x ∷ xs) all = one (test x) (all_filter P test xs all.1)
  where
    one : (b : Bool) → AllByRecursion P (filter test xs)
        → AllByRecursion P (cond b (x ∷ filter test xs) (filter test xs))
    one true rest = (all.0, rest)
    one false rest = rest

pub all_ranked : {A : Type 0} (P : A → Type 0) (rank : A → ℕ) (n : ℕ) (xs : List A) → AllByRecursion P xs
    → AllByRecursion P (by_rank rank n xs)
all_ranked P rank zero xs all = tt
all_ranked P rank (suc n) xs all =
    all_append P (by_rank rank n xs) (filter (λ x. rank x == n) xs) (all_ranked P rank n xs all)
    (all_filter P (λ x. rank x == n) xs all)

all_active : (P : Member → Type 0) (ls : List Loaded) → AllByRecursion (λ l. P (member_of l)) ls
    → AllByRecursion P (actives ls)
all_active P [] all = tt
all_active P (l ∷ ls) all = one (filter is_active ls) (is_active l) (all_active P ls all.1)
  where
    one : (kept : List Loaded) (b : Bool) → AllByRecursion P (map member_of kept)
        → AllByRecursion P (map member_of (cond b (l ∷ kept) kept))
    one kept true rest = (all.0, rest)
    one kept false rest = rest

-- what holds of each loaded controller, by serial and place, holds of each in the order
pub all_in_order : (P : Member → Type 0) (s : State) → AllByRecursion (λ l. P (member_of l)) s.loaded
    → All P (members_in_order s)
all_in_order P s all =
    All-from_recursion P (members_in_order s)
    (subst (AllByRecursion P) (sym (order_is s))
    (all_ranked P (λ (m : Member). depth s.description.controllers (active s) m.place)
    (suc (length s.description.controllers)) (actives s.loaded) (all_active P s.loaded all)))

-- each is described,
pub order_within : (s : State) → All (IsAsDescribed s.description) s.loaded
    → All (λ m. m.place < length s.description.controllers) (members_in_order s)
order_within s described =
    all_in_order (λ m. m.place < length s.description.controllers) s
    (recursion_from_All (λ (l : Loaded). l.place < length s.description.controllers) s.loaded
    (places_within s.description s.loaded described))

-- and loaded
has_each : (ls : List Loaded) → AllByRecursion (λ l. is_listed (serials_of ls) l.serial ≡ true) ls
has_each [] = tt
has_each (l ∷ ls) = (rw (eq-eqb l.serial l.serial refl) refl, later ls (has_each ls))
  where
    later : (ks : List Loaded) → AllByRecursion (λ k. is_listed (serials_of ls) k.serial ≡ true) ks
        → AllByRecursion (λ k. is_listed (serials_of (l ∷ ls)) k.serial ≡ true) ks
    later [] each = tt
    later (k ∷ ks) each = (or_right (l.serial == k.serial) (is_listed (serials_of ls) k.serial) each.0, later ks each.1)

pub order_loaded : (s : State) → All (λ m. is_listed (serials_of s.loaded) m.serial ≡ true) (members_in_order s)
order_loaded s = all_in_order (λ m. is_listed (serials_of s.loaded) m.serial ≡ true) s (has_each s.loaded)

-- ---- Where they stand

at_serial : (ls : List Loaded) (i n : ℕ) → slice_get (serials_of ls) i ≡ Some n
    → (l : Loaded) × (slice_get ls i ≡ Some l) × (l.serial ≡ n)
at_serial [] i n there = cc
at_serial (l ∷ ls) zero n there = (l, refl, ap (λ (o : Option ℕ). elim o [ None ↦ 0 | Some k ↦ k ]) there)
at_serial (l ∷ ls) (suc i) n there = at_serial ls i n there

contains_at : {A : Type 0} (xs : List A) (i : ℕ) (x : A) → slice_get xs i ≡ Some x → Contains xs x
contains_at xs i x there = (i, slice_get_within xs i x there, get_or_from_slice_get xs i x x there)

module _ (ls : List Loaded) (once : IsDistinct (λ m n. m == n) (serials_of ls)) where
  stand_there : (xs : List Loaded) (run : List ℕ) → ((l : Loaded) → Contains xs l → Contains ls l)
      → AreAt (serials_of ls) (map member_of xs) run → map (slice_get ls) run ≡ map Some xs
  stand_there [] [] inside at = refl
  stand_there [] (i ∷ is) inside at = cc
  stand_there (x ∷ xs) [] inside at = cc
  stand_there (x ∷ xs) (i ∷ is) inside at =
      let found = at_serial ls i x.serial (head_same None _ _ _ _ at) in
      let same : found.0 ≡ x =
      one_of_serial ls once found.0 x (contains_at ls i found.0 found.1) (inside x (0, omega arith, refl)) found.2 in
      ap₂ (λ y ys. y ∷ ys) (found.1 ∙ ap Some same)
      (stand_there xs is (λ l there. inside l (suc there.0, omega (arith, there.1), there.2)) (tail_same _ _ _ _ at))

-- at the indices that are looked up stand the active controllers in the order of updates
pub run_is : (s : State) (order : List Member) (run : List ℕ) → IsDistinct (λ m n. m == n) (serials_of s.loaded)
    → order ≡ members_in_order s → AreAt (serials_of s.loaded) order run
    → map (slice_get s.loaded) run ≡ map Some (active_order s)
run_is s order run once is at =
    stand_there s.loaded once (active_order s) run (λ l inside. (from_active_order s l inside).0)
    (subst (λ ms. AreAt (serials_of s.loaded) ms run) is at)

-- ---- Each is as described

pub order_described : (s : State) → All (IsAsDescribed s.description) s.loaded
    → AllByRecursion (IsAsDescribed s.description) (active_order s)
order_described s described =
    all_ranked (IsAsDescribed s.description) (λ l. depth s.description.controllers (active s) l.place)
    (suc (length s.description.controllers)) (filter is_active s.loaded)
    (all_filter (IsAsDescribed s.description) is_active s.loaded
    (recursion_from_All (IsAsDescribed s.description) s.loaded described))
