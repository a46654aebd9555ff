-- That boxes which leave and come back by place are those of the controllers that run.
use lib.Dec.{eqb-zero-suc, eqb-suc-zero, eqb-suc-suc}
use Rattle.std.proofs.Common.{◌≡◌, ℕ, zero, suc, Bool, true, false, List, [], ◌∷◌, map, slice_set, Option}
use Rattle.std.proofs.Common.{Some, None, option_map, inl, inr, refl, sym, ap, ap₂, subst, ◌∙◌, true≢false}
use Rattle.std.specs.Prelude.{◌==◌, ◌||◌, if◌then◌else◌, slice_get, find}
use Rattle.std.specs.List.{AllByRecursion, IsDistinct, Contains, list_any}
use Rattle.std.proofs.lemmas.Bool.{eqb-true, eq-eqb, false_from_ne_true}
use Rattle.std.proofs.lemmas.Option.{none-some, same_Some, slice_get-map, slice_get_within, get_or_from_slice_get}
use Rattle.cm_model.specs.Cycle.{active_order}
use Rattle.cm_model.specs.State.{State, Loaded, is_active}
use Rattle.cm_model.specs.declared.data.CtlData.{CtlData}
use Rattle.switch_plan.proofs.ElementLemmas.{here, later, none_inside, first_or_later, any_from, some_of}
use Rattle.sound_laws.proofs.ActiveLemmas.{in_active_order, from_active_order}
use Rattle.sound_laws.proofs.ParamsLemmas.{all_each}
use Rattle.sound_laws.proofs.RunLemmas.{ordered_once}
use Rattle.sound_laws.proofs.ValidLemmas.{valid-IsChecked}
use Rattle.cm_slots.specs.Lent.{without_boxes, ctls_at, CanLeave}
use Rattle.cm_slots.specs.Slots.{box_of, IsRunOf}

-- ---- Lists by index

-- lists are the same where the same stands everywhere
pub same_lists : {A : Type 0} (xs ys : List A) → ((j : ℕ) → slice_get xs j ≡ slice_get ys j) → xs ≡ ys
same_lists [] [] same = refl
same_lists [] (y ∷ ys) same = absurd (none-some y (same 0))
same_lists (x ∷ xs) [] same = absurd (none-some x (sym (same 0)))
same_lists {A = A} (x ∷ xs) (y ∷ ys) same =
    ap₂ (λ (z : A) (zs : List A). z ∷ zs) (same_Some x y (same 0)) (same_lists xs ys (λ j. same (suc j)))

pub same_either : {A : Type 0} (b : Bool) (x : A) → x ≡ (if b then x else x)
same_either true x = refl
same_either false x = refl

-- what stands somewhere once an item was set
pub get_set : {A : Type 0} (xs : List A) (k j : ℕ) (x : A)
    → slice_get (slice_set xs k x) j ≡ (if k == j then option_map (λ (_ : A). x) (slice_get xs j) else slice_get xs j)
get_set {A = A} [] k j x = same_either {A = Option A} (k == j) None
get_set (y ∷ ys) zero zero x = refl
get_set (y ∷ ys) zero (suc j) x = let apart : (zero == suc j) ≡ false = eqb-zero-suc j in rw apart refl
get_set (y ∷ ys) (suc k) zero x = let apart : (suc k == zero) ≡ false = eqb-suc-zero k in rw apart refl
get_set (y ∷ ys) (suc k) (suc j) x =
    let same : (suc k == suc j) ≡ (k == j) = eqb-suc-suc k j in rw same (get_set ys k j x)

-- this index is one of these
abbrev pub is_in : List ℕ → ℕ → Bool
is_in ks j = list_any (λ k. k == j) ks

or_from_right : (a b : Bool) → b ≡ true → (a || b) ≡ true
or_from_right true b e = refl
or_from_right false b e = e

or_from_left : (a b : Bool) → a ≡ true → (a || b) ≡ true
or_from_left true b e = refl
or_from_left false b e = cc

-- ---- Serials

differ_at : (serial : ℕ) (ls : List Loaded) (k : ℕ) (l : Loaded)
    → AllByRecursion (λ n. (serial == n) ≡ false) (map (λ (m : Loaded). m.serial) ls) → slice_get ls k ≡ Some l
    → (serial == l.serial) ≡ false
differ_at serial [] k l differ at = absurd (none-some l at)
differ_at serial (m ∷ ms) zero l differ at = ap (λ (x : Loaded). serial == x.serial) (sym (same_Some m l at)) ∙ differ.0
differ_at serial (m ∷ ms) (suc k) l differ at = differ_at serial ms k l differ.1 at

clash : (m n : ℕ) → m ≡ n → (m == n) ≡ false → ⊥
clash m n same differ = true≢false (sym (eq-eqb m n same) ∙ differ)

-- a controller stands at one index alone
same_index : (ls : List Loaded) → IsDistinct (λ m n. m == n) (map (λ (l : Loaded). l.serial) ls)
    → (i j : ℕ) (l : Loaded) → slice_get ls i ≡ Some l → slice_get ls j ≡ Some l → i ≡ j
unfolding IsDistinct
same_index [] once i j l one other = absurd (none-some l one)
same_index (m ∷ ms) once zero zero l one other = refl
same_index (m ∷ ms) once zero (suc j) l one other =
    absurd (clash m.serial l.serial (ap (λ (x : Loaded). x.serial) (same_Some m l one))
    (differ_at m.serial ms j l once.0 other))
same_index (m ∷ ms) once (suc i) zero l one other =
    absurd (clash m.serial l.serial (ap (λ (x : Loaded). x.serial) (same_Some m l other))
    (differ_at m.serial ms i l once.0 one))
same_index (m ∷ ms) once (suc i) (suc j) l one other = ap suc (same_index ms once.1 i j l one other)

-- and is found there by its serial
pub find_there : (ls : List Loaded) (k : ℕ) (l : Loaded)
    → IsDistinct (λ m n. m == n) (map (λ (m : Loaded). m.serial) ls) → slice_get ls k ≡ Some l
    → find (λ (m : Loaded). m.serial == l.serial) ls ≡ Some l
unfolding IsDistinct
find_there [] k l once at = absurd (none-some l at)
find_there (m ∷ ms) zero l once at =
    let itself : (m.serial == l.serial) ≡ true =
    eq-eqb m.serial l.serial (ap (λ (x : Loaded). x.serial) (same_Some m l at)) in
    rw itself at
find_there (m ∷ ms) (suc k) l once at =
    let differ : (m.serial == l.serial) ≡ false = differ_at m.serial ms k l once.0 at in
    rw differ (find_there ms k l once.1 at)

-- ---- Who runs, and where

-- at these indices stand these
abbrev pub AreAt : List Loaded → List ℕ → List Loaded → Type 0
AreAt loaded [] [] = Unit {0}
AreAt loaded (k ∷ ks) (l ∷ ls) = (slice_get loaded k ≡ Some l) × AreAt loaded ks ls
AreAt loaded _ _ = ⊥

at_from : (loaded : List Loaded) (ks : List ℕ) (ls : List Loaded) → map (slice_get loaded) ks ≡ map Some ls
    → AreAt loaded ks ls
at_from loaded [] [] same = tt
at_from loaded [] (l ∷ ls) same = cc
at_from loaded (k ∷ ks) [] same = cc
at_from loaded (k ∷ ks) (l ∷ ls) same =
    let first : slice_get loaded k ≡ Some l = cc in
    let others : map (slice_get loaded) ks ≡ map Some ls = cc in
    (first, at_from loaded ks ls others)

-- one of these stands at one of the indices,
index_of : (loaded : List Loaded) (ks : List ℕ) (ls : List Loaded) (l : Loaded) → AreAt loaded ks ls → Contains ls l
    → (k : ℕ) × Contains ks k × (slice_get loaded k ≡ Some l)
index_of loaded [] [] l at inside = absurd (none_inside l inside)
index_of loaded [] (m ∷ ms) l at inside = absurd at
index_of loaded (k ∷ ks) [] l at inside = absurd at
index_of loaded (k ∷ ks) (m ∷ ms) l at inside = elim (first_or_later m ms l inside) [
  | inl first ↦ (k, here k ks, at.0 ∙ ap Some first)
  | inr further ↦ (let found = index_of loaded ks ms l at.1 further in (found.0, later k ks found.0 found.1, found.2))
]

-- and at each of them one of these
stands_at : (loaded : List Loaded) (ks : List ℕ) (ls : List Loaded) (k : ℕ) → AreAt loaded ks ls → Contains ks k
    → (l : Loaded) × Contains ls l × (slice_get loaded k ≡ Some l)
stands_at loaded [] [] k at inside = absurd (none_inside k inside)
stands_at loaded [] (m ∷ ms) k at inside = absurd at
stands_at loaded (i ∷ is) [] k at inside = absurd at
stands_at loaded (i ∷ is) (m ∷ ms) k at inside = elim (first_or_later i is k inside) [
  | inl first ↦ (m, here m ms, ap (slice_get loaded) (sym first) ∙ at.0)
  | inr further ↦ (let found = stands_at loaded is ms k at.1 further in (found.0, later m ms found.0 found.1, found.2))
]

-- no index comes twice
not_again : (loaded : List Loaded) (ks : List ℕ) (ls : List Loaded) (k : ℕ) (l : Loaded) → AreAt loaded ks ls
    → slice_get loaded k ≡ Some l
    → AllByRecursion (λ n. (l.serial == n) ≡ false) (map (λ (m : Loaded). m.serial) ls) → is_in ks k ≡ false
not_again loaded [] [] k l at there differ = refl
not_again loaded [] (m ∷ ms) k l at there differ = absurd at
not_again loaded (i ∷ is) [] k l at there differ = absurd at
not_again loaded (i ∷ is) (m ∷ ms) k l at there differ =
    let apart : (i == k) ≡ false = false_from_ne_true (i == k) (λ e.
    let same : m ≡ l = same_Some m l (sym at.0 ∙ ap (slice_get loaded) (eqb-true i k e) ∙ there) in
    clash l.serial m.serial (ap (λ (x : Loaded). x.serial) (sym same)) differ.0) in
    rw apart (not_again loaded is ms k l at.1 there differ.1)

module _ (s : State) (run : List ℕ) (runs : IsRunOf s s.loaded run) where
  pub order_stands : AreAt s.loaded run (active_order s)
  order_stands = at_from s.loaded run (active_order s) runs.order

  pub apart : IsDistinct (λ m n. m == n) (map (λ (l : Loaded). l.serial) (active_order s))
  apart = ordered_once s (valid-IsChecked s.description runs.valid).free runs.once

  pub all_run : AllByRecursion (λ l. is_active l ≡ true) (active_order s)
  all_run = all_each (λ l. is_active l ≡ true) (active_order s) (λ l inside. (from_active_order s l inside).1)

  -- an index is one of these exactly where the controller there runs
  pub in_run : (j : ℕ) (l : Loaded) → slice_get s.loaded j ≡ Some l → is_in run j ≡ is_active l
  in_run j l there = either (is_active l) refl
    where
      either : (b : Bool) → is_active l ≡ b → is_in run j ≡ b
      either true active =
          let found = index_of s.loaded run (active_order s) l order_stands
          (in_active_order s l (j, slice_get_within s.loaded j l there, get_or_from_slice_get s.loaded j l l there)
          active) in
          any_from (λ (k : ℕ). k == j) run found.0 found.1
          (eq-eqb found.0 j (same_index s.loaded runs.once found.0 j l found.2 there))
      either false idle = false_from_ne_true (is_in run j) (λ inside.
          let some = some_of (λ (k : ℕ). k == j) run inside in
          let found = stands_at s.loaded run (active_order s) some.0 order_stands some.1 in
          let same : found.0 ≡ l =
          same_Some found.0 l (sym found.2 ∙ ap (slice_get s.loaded) (eqb-true some.0 j some.2) ∙ there) in
          true≢false (sym (from_active_order s found.0 found.1).1 ∙ ap is_active same ∙ idle))

-- ---- Boxes that leave

abbrev gone : Option CtlData
gone = None

get_without : (ks : List ℕ) (boxes : List (Option CtlData)) (j : ℕ)
    → slice_get (without_boxes ks boxes) j
    ≡ (if is_in ks j then option_map (λ (_ : Option CtlData). gone) (slice_get boxes j) else slice_get boxes j)
get_without [] boxes j = refl
get_without (k ∷ ks) boxes j =
    get_without ks (slice_set boxes k None) j
    ∙ rw (get_set boxes k j None) (either (k == j) (is_in ks j) (slice_get boxes j))
  where
    either : (a b : Bool) (o : Option (Option CtlData))
        → (if b then option_map (λ (_ : Option CtlData). gone)
        (if a then option_map (λ (_ : Option CtlData). gone) o else o)
        else (if a then option_map (λ (_ : Option CtlData). gone) o else o))
        ≡ (if a || b then option_map (λ (_ : Option CtlData). gone) o else o)
    either true true None = refl
    either true true (Some box) = refl
    either true false o = refl
    either false true o = refl
    either false false o = refl

-- the boxes at these indices can leave, where each is there
leave_from : (loaded : List Loaded) (ks : List ℕ) (ls : List Loaded) (boxes : List (Option CtlData))
    → AreAt loaded ks ls
    → IsDistinct (λ m n. m == n) (map (λ (l : Loaded). l.serial) ls) → AllByRecursion (λ l. is_active l ≡ true) ls
    → ((j : ℕ) → is_in ks j ≡ true → slice_get boxes j ≡ option_map (box_of false) (slice_get loaded j))
    → CanLeave loaded ks boxes
unfolding IsDistinct
leave_from loaded [] [] boxes at once active there = tt
leave_from loaded [] (l ∷ ls) boxes at once active there = absurd at
leave_from loaded (k ∷ ks) [] boxes at once active there = absurd at
leave_from loaded (k ∷ ks) (l ∷ ls) boxes at once active there =
    let stands : slice_get boxes k ≡ Some (Some l.ctl) =
    there k (or_from_left (k == k) (is_in ks k) (eq-eqb k k refl)) ∙ ap (option_map (box_of false)) at.0 in (
      rw at.0 (active.0, stands),
      leave_from loaded ks ls (slice_set boxes k None) at.1 once.1 active.1 (λ j inside.
          let other : (k == j) ≡ false = false_from_ne_true (k == j) (λ e.
          true≢false (sym (ap (is_in ks) (eqb-true k j e) ∙ inside) ∙ not_again loaded ks ls k l at.1 at.0 once.0)) in
          get_set boxes k j None ∙ rw other (there j (or_from_right (k == j) (is_in ks j) inside))),
    )

-- the first of those at some indices
pub ctls_next : (loaded : List Loaded) (k : ℕ) (ks : List ℕ) (l : Loaded) → slice_get loaded k ≡ Some l
    → ctls_at loaded (k ∷ ks) ≡ l.ctl ∷ ctls_at loaded ks
ctls_next loaded k ks l there = rw there refl

ctls_from : (loaded : List Loaded) (ks : List ℕ) (ls : List Loaded) → AreAt loaded ks ls
    → ctls_at loaded ks ≡ map (λ (l : Loaded). l.ctl) ls
ctls_from loaded [] [] at = refl
ctls_from loaded [] (l ∷ ls) at = absurd at
ctls_from loaded (k ∷ ks) [] at = absurd at
ctls_from loaded (k ∷ ks) (l ∷ ls) at =
    ctls_next loaded k ks l at.0 ∙ ap (λ (ctls : List CtlData). l.ctl ∷ ctls) (ctls_from loaded ks ls at.1)

module _ (s : State) (run : List ℕ) (runs : IsRunOf s s.loaded run) where
  -- So the boxes of those that run can leave,
  pub can_leave : CanLeave s.loaded run (map (box_of false) s.loaded)
  can_leave = leave_from s.loaded run (active_order s) (map (box_of false) s.loaded) (order_stands s run runs)
      (apart s run runs) (all_run s run runs)
      (λ j inside. slice_get-map (box_of false) s.loaded j)

  -- they are theirs,
  pub ctls_in_order : ctls_at s.loaded run ≡ map (λ (l : Loaded). l.ctl) (active_order s)
  ctls_in_order = ctls_from s.loaded run (active_order s) (order_stands s run runs)

  -- and those of all others stay.
  pub others_stay : without_boxes run (map (box_of false) s.loaded) ≡ map (box_of true) s.loaded
  others_stay = same_lists (without_boxes run (map (box_of false) s.loaded)) (map (box_of true) s.loaded) (λ j.
      get_without run (map (box_of false) s.loaded) j
      ∙ rw (slice_get-map (box_of false) s.loaded j, slice_get-map (box_of true) s.loaded j)
      (at_index j (slice_get s.loaded j) refl))
    where
      away : (b : Bool) (l : Loaded)
          → (if b then Some gone else Some (Some l.ctl)) ≡ Some (if b then None else Some l.ctl)
      away true l = refl
      away false l = refl

      at_index : (j : ℕ) (o : Option Loaded) → slice_get s.loaded j ≡ o
          → (if is_in run j then option_map (λ (_ : Option CtlData). gone) (option_map (box_of false) o)
          else option_map (box_of false) o) ≡ option_map (box_of true) o
      at_index j None there = sym (same_either {A = Option (Option CtlData)} (is_in run j) None)
      at_index j (Some l) there = rw (in_run s run runs j l there) (away (is_active l) l)

-- ---- For controllers that are those of the state

pub of_state : (s : State) (loaded : List Loaded) (run : List ℕ) → IsRunOf s loaded run → IsRunOf s s.loaded run
of_state s loaded run runs = record { valid = runs.valid; once = runs.once; loaded = refl; order = runs.order }

module _ (s : State) (loaded : List Loaded) (run : List ℕ) (runs : IsRunOf s loaded run) where
  pub may_leave : CanLeave loaded run (map (box_of false) loaded)
  may_leave = subst (λ (ls : List Loaded). CanLeave ls run (map (box_of false) ls)) (sym runs.loaded)
      (can_leave s run (of_state s loaded run runs))

  pub ctls_are : ctls_at loaded run ≡ map (λ (l : Loaded). l.ctl) (active_order s)
  ctls_are = subst (λ (ls : List Loaded). ctls_at ls run ≡ map (λ (l : Loaded). l.ctl) (active_order s))
      (sym runs.loaded) (ctls_in_order s run (of_state s loaded run runs))

  pub all_others_stay : without_boxes run (map (box_of false) loaded) ≡ map (box_of true) loaded
  all_others_stay =
      subst (λ (ls : List Loaded). without_boxes run (map (box_of false) ls) ≡ map (box_of true) ls) (sym runs.loaded)
      (others_stay s run (of_state s loaded run runs))
