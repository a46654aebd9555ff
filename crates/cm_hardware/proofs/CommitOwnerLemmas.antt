-- Whom an interface belongs to: the one active controller that claims it, found by place of the description or among
-- the loaded ones.
use Rattle.std.proofs.Common.{◌≡◌, ℕ, zero, suc, ◌+◌, ◌<◌, Bool, true, false, List, [], ◌∷◌, ◌++◌, length}
use Rattle.std.proofs.Common.{Option, Some, None, inl, inr, refl, sym, subst, ap, ap₂, ◌∙◌, true≢false, arith}
use Rattle.std.specs.Prelude.{◌==◌, ◌&&◌, ◌||◌, if◌then◌else◌, find, option_map, is_some, slice_get}
use Rattle.std.specs.List.{AllByRecursion, list_any}
use Rattle.std.specs.Option.{option_map_or, option_or}
use Rattle.std.proofs.lemmas.Bool.{and_parts, and_from, or_right, eqb-true, eq-eqb, false_from_ne_true, cases_lt}
use Rattle.iface_names.specs.Interfaces.{same_interface}
use Rattle.iface_names.specs.Sameness.{same_interface-IsEquivalence}
use Rattle.iface_names.specs.declared.interface.IfaceName.{IfaceName}
use Rattle.cm_document.proofs.DistinctLemmas.{none_found, all_so}
use Rattle.cm_document.proofs.ReadingLemmas.{cases_Option}
use Rattle.cm_document.specs.Links.{is_among}
use Rattle.cm_document.specs.declared.description.CtlDesc.{CtlDesc}
use Rattle.cm_model.specs.Faults.{first_of}
use Rattle.cm_model.specs.Order.{nobody}
use Rattle.cm_model.specs.Scene.{claims_at}
use Rattle.cm_model.specs.State.{Loaded, is_active, claims_name}
use Rattle.cm_model.specs.Steady.{has_loaded}
use Rattle.chain_order.specs.Links.{places_below}

-- ---- What is found

-- tests that agree on all of a list find the same
pub find_same : {A : Type 0} (f g : A → Bool) (xs : List A) → AllByRecursion (λ x. f x ≡ g x) xs → find f xs ≡ find g xs
find_same f g [] all = refl
find_same f g (x ∷ xs) all = by_test (g x) refl (find_same f g xs all.1)
  where
    by_test : (b : Bool) → g x ≡ b → find f xs ≡ find g xs → find f (x ∷ xs) ≡ find g (x ∷ xs)
    by_test true is rest = rw (all.0 ∙ is, is) refl
    by_test false is rest = rw (all.0 ∙ is, is) rest

-- where none passes, none is found
pub find_none : {A : Type 0} (f : A → Bool) (xs : List A) → AllByRecursion (λ x. f x ≡ false) xs → find f xs ≡ None
find_none f [] all = refl
find_none f (x ∷ xs) all = rw all.0 (find_none f xs all.1)

-- what is found passes, and is one of them
pub found_passes : {A : Type 0} (f : A → Bool) (xs : List A) (y : A) → find f xs ≡ Some y
    → (f y ≡ true) × ((g : A → Bool) → g y ≡ true → list_any g xs ≡ true)
found_passes f [] y found = cc
found_passes {A = A} f (x ∷ xs) y found = by_test (f x) refl (found_passes f xs y)
  where
    by_test : (b : Bool) → f x ≡ b
        → (find f xs ≡ Some y → (f y ≡ true) × ((g : A → Bool) → g y ≡ true → list_any g xs ≡ true))
        → (f y ≡ true) × ((g : A → Bool) → g y ≡ true → list_any g (x ∷ xs) ≡ true)
    by_test true is rest =
        let here : Some x ≡ Some y = rw is at found in
        let same : x ≡ y = cc in
        (subst (λ z. f z ≡ true) same is, λ g passes. rw (subst (λ z. g z ≡ true) (sym same) passes) refl)
    by_test false is rest =
        let later = rest (rw is at found) in
        (later.0, λ g passes. or_right (g x) (list_any g xs) (later.1 g passes))

-- something is found where something passes
pub found_any : (test : Loaded → Bool) (ls : List Loaded)
    → is_some (option_map (λ (l : Loaded). l.serial) (find test ls)) ≡ list_any test ls
found_any test [] = refl
found_any test (l ∷ ls) = by_test (test l) refl (found_any test ls)
  where
    by_test : (b : Bool) → test l ≡ b
        → is_some (option_map (λ (l : Loaded). l.serial) (find test ls)) ≡ list_any test ls
        → is_some (option_map (λ (l : Loaded). l.serial) (find test (l ∷ ls))) ≡ list_any test (l ∷ ls)
    by_test true is rest = rw is refl
    by_test false is rest = rw is rest

-- ---- The first of places below a bound

first_append : {A B : Type 0} (f : A → Option B) (xs ys : List A)
    → first_of f (xs ++ ys) ≡ option_or (first_of f xs) (first_of f ys)
first_append f [] ys = refl
first_append {B = B} f (x ∷ xs) ys = either (f x) (first_append f xs ys)
  where
    either : (o : Option B) → first_of f (xs ++ ys) ≡ option_or (first_of f xs) (first_of f ys)
        → option_or o (first_of f (xs ++ ys)) ≡ option_or (option_or o (first_of f xs)) (first_of f ys)
    either None rest = rest
    either (Some y) rest = refl

module _ {B : Type 0} (f : ℕ → Option B) (test : ℕ → Bool) where
  -- the last of them alone
  last_none : (n : ℕ) → (test n ≡ true → f n ≡ None) → first_of f (if test n then n ∷ [] else []) ≡ None
  last_none n none = by_test (test n) refl
    where
      by_test : (b : Bool) → test n ≡ b → first_of f (if b then n ∷ [] else []) ≡ None
      by_test true is = rw (none is) refl
      by_test false is = refl

  -- where none of those that pass has anything, nothing is found
  below_none : (n : ℕ) → ((p : ℕ) → p < n → test p ≡ true → f p ≡ None) → first_of f (places_below test n) ≡ None
  below_none zero none = refl
  below_none (suc n) none =
      first_append f (places_below test n) (if test n then n ∷ [] else [])
      ∙ ap₂ (λ (x y : Option B). option_or x y) (below_none n (λ p less. none p (omega (arith, less))))
      (last_none n (none n (omega arith)))

  kept_first : (x y : Option B) → is_some x ≡ true → option_or x y ≡ x
  kept_first None y some = absurd (true≢false (sym some))
  kept_first (Some b) y some = refl

  none_of : (x : Option B) → (is_some x ≡ true → ⊥) → x ≡ None
  none_of None not = refl
  none_of (Some b) not = absurd (not refl)

  -- where one alone has something, that is found
  below_one : (n only : ℕ) → only < n → test only ≡ true → is_some (f only) ≡ true
      → ((p : ℕ) → p < n → test p ≡ true → is_some (f p) ≡ true → p ≡ only)
      → first_of f (places_below test n) ≡ f only
  below_one zero only less passes has alone = absurd (omega (arith, less))
  below_one (suc n) only less passes has alone =
      first_append f (places_below test n) (if test n then n ∷ [] else [])
      ∙ elim (cases_lt only n) [
        | inl before ↦
            ap (λ x. option_or x (first_of f (if test n then n ∷ [] else [])))
            (below_one n only before passes has (λ p below. alone p (omega (arith, below))))
            ∙ kept_first (f only) (first_of f (if test n then n ∷ [] else [])) has
        | inr not ↦
            (let is : n ≡ only = omega (arith, not, less) in
            let earlier : first_of f (places_below test n) ≡ None =
            below_none n
            (λ p below test. none_of (f p)
            (λ some. let same : p ≡ only = alone p (omega (arith, below)) test some in
            omega (arith, below, same, is))) in
            rw (earlier, is, passes) (either (f only)))
      ]
    where
      either : (x : Option B) → option_or x None ≡ x
      either None = refl
      either (Some b) = refl

-- ---- Claims by place

among_claims : (name : IfaceName) (claims : List IfaceName)
    → is_among name claims ≡ list_any (λ claim. same_interface claim name) claims
among_claims name [] = refl
among_claims name (claim ∷ claims) =
    ap₂ (λ (x y : Bool). x || y) (same_interface-IsEquivalence.symm name claim) (among_claims name claims)

-- a loaded controller claims what the described one at its place does
claims_there : (cs : List CtlDesc) (name : IfaceName) (p : ℕ)
    → option_map_or (λ c. is_among name c.claims) (slice_get cs p) false ≡ claims_at cs p name
claims_there [] name zero = refl
claims_there [] name (suc p) = refl
claims_there (c ∷ cs) name zero = among_claims name c.claims
claims_there (c ∷ cs) name (suc p) = claims_there cs name p

pub claims_alike : (cs : List CtlDesc) (name : IfaceName) (l : Loaded)
    → claims_name cs name l ≡ claims_at cs l.place name
claims_alike cs name l = claims_there cs name l.place

-- what is past the last claims nothing
claims_within : (cs : List CtlDesc) (p : ℕ) (name : IfaceName) → claims_at cs p name ≡ true → p < length cs
claims_within [] zero name claims = absurd (true≢false (sym claims))
claims_within [] (suc p) name claims = absurd (true≢false (sym claims))
claims_within (c ∷ cs) zero name claims = omega arith
claims_within (c ∷ cs) (suc p) name claims = let less = claims_within cs p name claims in omega (arith, less)

-- ---- The owner

-- of each loaded controller that passes it is so that one at its place passes
each_there : (test : Loaded → Bool) (ls others : List Loaded)
    → ((p : ℕ) → has_loaded test others p ≡ true → has_loaded test ls p ≡ true)
    → AllByRecursion (λ l. test l ≡ true → has_loaded test ls l.place ≡ true) others
each_there test ls [] within = tt
each_there test ls (l ∷ others) within = (
  λ passes. within l.place (rw (passes, eq-eqb l.place l.place refl) refl),
  each_there test ls others (λ p has. within p (or_right (test l && l.place == p) (has_loaded test others p) has)),
)

module _ (cs : List CtlDesc) (ls : List Loaded) (name : IfaceName) where
  -- the active ones, and those of a place
  abbrev at_place : ℕ → Loaded → Bool
  at_place p l = is_active l && l.place == p

  abbrev claims_it : Loaded → Bool
  claims_it l = is_active l && claims_name cs name l

  -- no two active ones claim it
  abbrev IsAlone : Type 0
  IsAlone = (p q : ℕ) → has_loaded is_active ls p ≡ true → has_loaded is_active ls q ≡ true → claims_at cs p name ≡ true
      → claims_at cs q name ≡ true → p ≡ q

  -- where nobody that is active claims it, nobody at the place of a claimer is active
  none_there : (p : ℕ) → claims_at cs p name ≡ true → (l : Loaded) → claims_it l ≡ false → at_place p l ≡ false
  none_there p claims l none =
      false_from_ne_true (at_place p l) (λ here.
      let parts = and_parts (is_active l) (l.place == p) here in
      let place : l.place ≡ p = eqb-true l.place p parts.1 in
      let its : claims_name cs name l ≡ true = claims_alike cs name l ∙ ap (λ q. claims_at cs q name) place ∙ claims in
      true≢false (sym (and_from (is_active l) (claims_name cs name l) parts.0 its) ∙ none))

  -- where one does, the active ones that claim it are those of its place
  same_test : (only : ℕ) → IsAlone → has_loaded is_active ls only ≡ true → claims_at cs only name ≡ true → (l : Loaded)
      → (is_active l ≡ true → has_loaded is_active ls l.place ≡ true)
      → claims_it l ≡ at_place only l
  same_test only alone runs claims l there =
      by_test (is_active l) (l.place == only) (claims_name cs name l) refl refl refl
    where
      by_test : (active here its : Bool) → is_active l ≡ active → (l.place == only) ≡ here → claims_name cs name l ≡ its
          → (active && its) ≡ (active && here)
      by_test false here its a h c = refl
      by_test true true true a h c = refl
      by_test true false false a h c = refl
      by_test true true false a h c =
          absurd (true≢false
          (sym claims ∙ ap (λ q. claims_at cs q name) (sym (eqb-true l.place only h)) ∙ sym (claims_alike cs name l)
          ∙ c))
      by_test true false true a h c =
          let same : l.place ≡ only = alone l.place only (there a) runs (sym (claims_alike cs name l) ∙ c) claims in
          absurd (true≢false (sym (eq-eqb l.place only same) ∙ h))

  -- The first active one among those that claim it, by place, is the active one that claims it.
  pub owner_by_place : (serials : ℕ → Option ℕ)
      → ((p : ℕ) → p < length cs → serials p ≡ option_map (λ (l : Loaded). l.serial) (find (at_place p) ls)) → IsAlone
      → first_of serials (places_below (λ p. claims_at cs p name) (length cs))
      ≡ option_map (λ (l : Loaded). l.serial) (find claims_it ls)
  owner_by_place serials each alone =
      elim (cases_Option (find claims_it ls)) [
        | inl none ↦
            (let nobody = none_found claims_it ls none in
            below_none serials (λ p. claims_at cs p name) (length cs)
            (λ p below claims. each p below
            ∙ ap (option_map (λ (l : Loaded). l.serial))
            (find_none (at_place p) ls (all_so _ _ (none_there p claims) ls nobody)))
            ∙ sym (ap (option_map (λ (l : Loaded). l.serial)) none))
        | inr found ↦ one found.0 found.1
      ]
    where
      one : (l : Loaded) → find claims_it ls ≡ Some l
          → first_of serials (places_below (λ p. claims_at cs p name) (length cs))
          ≡ option_map (λ (l : Loaded). l.serial) (find claims_it ls)
      one l found =
          let passes = found_passes claims_it ls l found in
          let parts = and_parts (is_active l) (claims_name cs name l) passes.0 in
          let claims : claims_at cs l.place name ≡ true = sym (claims_alike cs name l) ∙ parts.1 in
          let runs : has_loaded is_active ls l.place ≡ true =
          passes.1 (at_place l.place)
          (and_from (is_active l) (l.place == l.place) parts.0 (eq-eqb l.place l.place refl)) in
          let below : l.place < length cs = claims_within cs l.place name claims in
          let active : (p : ℕ) → p < length cs
          → is_some (serials p) ≡ has_loaded is_active ls p =
          λ p less. ap (λ (o : Option ℕ). is_some o) (each p less) ∙ found_any (at_place p) ls in
          below_one serials (λ p. claims_at cs p name) (length cs) l.place below claims (active l.place below ∙ runs)
          (λ p less its some. alone p l.place (sym (active p less) ∙ some) runs its claims)
          ∙ each l.place below
          ∙ ap (option_map (λ (l : Loaded). l.serial)) (sym (find_same claims_it (at_place l.place) ls
          (all_so _ _ (same_test l.place alone runs claims) ls (each_there is_active ls ls (λ p has. has)))))
