-- Which serials a commit leaves active: at each place of its set that of the controller that is loaded there.
use Rattle.std.proofs.Common.{◌≡◌, ℕ, Bool, true, false, List, [], ◌∷◌, map, Option, Some, None, refl, sym, ap, ◌∙◌}
use Rattle.std.specs.Prelude.{◌==◌, ◌&&◌, if◌then◌else◌, find, option_map}
use Rattle.std.specs.List.{AllByRecursion}
use Rattle.std.proofs.lemmas.Bool.{eqb-true}
use Rattle.cm_document.proofs.DistinctLemmas.{all_so}
use Rattle.cm_model.proofs.CommitLemmas.{commit_active, commit_in_order}
use Rattle.cm_model.proofs.LoadedLemmas.{has_loaded-own, and_false}
use Rattle.cm_model.specs.Commit.{scene_of, coming, leaving, committed, commit}
use Rattle.cm_model.specs.Order.{Places}
use Rattle.cm_model.specs.State.{State, Loaded, is_active, active}
use Rattle.cm_model.specs.Steady.{AreLoaded, AreConfigured, IsInOrder}
use Rattle.cm_model.specs.Switches.{is_stopped, is_started}
use Rattle.cm_hardware.specs.Committed.{serial_at}
use Rattle.cm_hardware.proofs.CommitOwnerLemmas.{find_same}

-- the serial of the first of these at a place
abbrev pub loaded_at : List Loaded → ℕ → Option ℕ
loaded_at loaded place = option_map (λ (l : Loaded). l.serial) (find (λ (l : Loaded). l.place == place) loaded)

-- what keeps serials and places keeps that
found_after : (change : Loaded → Loaded) (p : ℕ)
    → ((l : Loaded) → ((change l).place ≡ l.place) × ((change l).serial ≡ l.serial)) → (ls : List Loaded)
    → loaded_at (map change ls) p ≡ loaded_at ls p
found_after change p keeps [] = refl
found_after change p keeps (l ∷ ls) = by_test (l.place == p) refl (found_after change p keeps ls)
  where
    same : ((change l).place == p) ≡ (l.place == p)
    same = ap (λ (q : ℕ). q == p) (keeps l).0

    by_test : (b : Bool) → (l.place == p) ≡ b → loaded_at (map change ls) p ≡ loaded_at ls p
        → loaded_at (map change (l ∷ ls)) p ≡ loaded_at (l ∷ ls) p
    by_test true is rest = rw (same ∙ is, is) (ap (λ (n : ℕ). Some n) (keeps l).1)
    by_test false is rest = rw (same ∙ is, is) rest

-- a member at its place is one of the set
of_set : (set : Places) (q p : ℕ) (b : Bool) → (q == p) ≡ b → (set q && b) ≡ (set p && b)
of_set set q p true same = ap (λ (r : ℕ). set r && true) (eqb-true q p same)
of_set set q p false same = and_false (set q) ∙ sym (and_false (set p))

found_in : (b : Bool) (ls : List Loaded) (p : ℕ)
    → option_map (λ (l : Loaded). l.serial) (find (λ (l : Loaded). b && l.place == p) ls)
    ≡ (if b then loaded_at ls p else None)
found_in true ls p = refl
found_in false [] p = refl
found_in false (l ∷ ls) p = found_in false ls p

module _ (s : State) (set again : Places) where
  keeps : (l : Loaded)
      → ((committed s set (is_stopped (scene_of s) set again) (is_started (scene_of s) set again) l).place ≡ l.place)
      × ((committed s set (is_stopped (scene_of s) set again) (is_started (scene_of s) set again) l).serial ≡ l.serial)
  keeps l = by_tests (is_started (scene_of s) set again l.place) (is_stopped (scene_of s) set again l.place)
    where
      by_tests : (comes goes : Bool)
          → ((if comes then coming s set l else (if goes then leaving l else l)).place ≡ l.place)
          × ((if comes then coming s set l else (if goes then leaving l else l)).serial ≡ l.serial)
      by_tests true goes = (refl, refl)
      by_tests false true = (refl, refl)
      by_tests false false = (refl, refl)

  loaded_stay : (p : ℕ) → loaded_at (commit s set again).loaded p ≡ loaded_at s.loaded p
  unfolding commit
  loaded_stay p =
      found_after (committed s set (is_stopped (scene_of s) set again) (is_started (scene_of s) set again)) p keeps
      s.loaded

  -- After a commit the controller that is loaded at a place is active where the set has it, and no other.
  pub serial_after : IsInOrder s → AreLoaded s.loaded set → AreConfigured s.loaded set → (p : ℕ)
      → serial_at (commit s set again) p ≡ (if set p then loaded_at s.loaded p else None)
  serial_after in_order loaded configured p =
      let t : State = commit s set again in
      let run : active t ≡ set = commit_active s set again in_order loaded configured in
      let own : AllByRecursion (λ (l : Loaded). active t l.place ≡ is_active l) t.loaded =
      has_loaded-own is_active t.loaded (commit_in_order s set again in_order loaded configured).once in
      let each : AllByRecursion (λ (l : Loaded). (is_active l && l.place == p) ≡ (set p && l.place == p)) t.loaded =
      all_so (λ (l : Loaded). active t l.place ≡ is_active l)
      (λ (l : Loaded). (is_active l && l.place == p) ≡ (set p && l.place == p))
      (λ l tells. ap (λ (b : Bool). b && l.place == p) (sym tells ∙ ap (λ (f : Places). f l.place) run)
      ∙ of_set set l.place p (l.place == p) refl) t.loaded own in
      ap (option_map (λ (l : Loaded). l.serial))
      (find_same (λ (l : Loaded). is_active l && l.place == p) (λ (l : Loaded). set p && l.place == p) t.loaded each)
      ∙ found_in (set p) t.loaded p
      ∙ ap (λ (o : Option ℕ). if set p then o else None) (loaded_stay p)
