-- Sets of controllers that are read off the loaded ones.
use Rattle.std.proofs.Common.{◌≡◌, ℕ, Bool, true, false, List, [], ◌∷◌, map, refl, sym, ◌∙◌}
use Rattle.std.specs.Prelude.{◌==◌, ◌&&◌, ◌||◌}
use Rattle.std.specs.List.{list_any, AllByRecursion, IsDistinct}
use Rattle.std.proofs.lemmas.Bool.{eqb-true, eq-eqb}
use Rattle.cm_document.proofs.DistinctLemmas.{all_of, all_so}
use Rattle.sequence.proofs.ListLemmas.{any_map}
use Rattle.cm_model.specs.Order.{Places}
use Rattle.cm_model.specs.State.{Loaded}
use Rattle.cm_model.specs.Steady.{has_loaded, AreLoaded}

-- ---- Lists

-- tests that agree on each item
pub any_same : {A : Type 0} (f g : A → Bool) (xs : List A) → AllByRecursion (λ x. f x ≡ g x) xs
    → list_any f xs ≡ list_any g xs
any_same f g [] same = refl
any_same f g (x ∷ xs) same = rw (same.0, any_same f g xs same.1) refl

-- what follows of each that two facts hold of
pub all_from : {A : Type 0} (P Q R : A → Type 0) → ((x : A) → P x → Q x → R x) → (xs : List A) → AllByRecursion P xs
    → AllByRecursion Q xs → AllByRecursion R xs
all_from P Q R follows [] all others = tt
all_from P Q R follows (x ∷ xs) all others = (follows x all.0 others.0, all_from P Q R follows xs all.1 others.1)

-- ---- Tests

pub and_false : (b : Bool) → (b && false) ≡ false
and_false true = refl
and_false false = refl

pub and_true : (b : Bool) → (b && true) ≡ b
and_true true = refl
and_true false = refl

pub and_swapped : (first b : Bool) → (first && b) ≡ (b && first)
and_swapped true b = sym (and_true b)
and_swapped false b = sym (and_false b)

or_false : (b : Bool) → (b || false) ≡ b
or_false true = refl
or_false false = refl

-- two numbers, in whatever order they are compared
same_at : (b other : Bool) (p q : ℕ) → (p == q) ≡ b → (q == p) ≡ other → b ≡ other
same_at true true p q same swapped = refl
same_at true false p q same swapped = sym (eq-eqb q p (sym (eqb-true p q same))) ∙ swapped
same_at false true p q same swapped = sym same ∙ eq-eqb p q (sym (eqb-true q p swapped))
same_at false false p q same swapped = refl

pub eqb-sym : (p q : ℕ) → (p == q) ≡ (q == p)
eqb-sym p q = same_at (p == q) (q == p) p q refl refl

-- ---- Places

-- at a place that none of these has nothing passes
pub has_loaded-none : (test : Loaded → Bool) (ls : List Loaded) (p : ℕ)
    → AllByRecursion (λ q. (p == q) ≡ false) (map (λ l. l.place) ls) → has_loaded test ls p ≡ false
has_loaded-none test [] p other = refl
has_loaded-none test (l ∷ ls) p other =
    rw (eqb-sym l.place p, other.0, and_false (test l), has_loaded-none test ls p other.1) refl

-- at its own place a controller alone decides, where each place is loaded once
at_head : (test : Loaded → Bool) (l : Loaded) (ls : List Loaded)
    → AllByRecursion (λ q. (l.place == q) ≡ false) (map (λ each. each.place) ls)
    → has_loaded test (l ∷ ls) l.place ≡ test l
at_head test l ls other =
    rw (eq-eqb l.place l.place refl, and_true (test l), has_loaded-none test ls l.place other) (or_false (test l))

behind : (test : Loaded → Bool) (l : Loaded) (ls others : List Loaded)
    → AllByRecursion (λ q. (l.place == q) ≡ false) (map (λ each. each.place) others)
    → AllByRecursion (λ each. has_loaded test ls each.place ≡ test each) others
    → AllByRecursion (λ each. has_loaded test (l ∷ ls) each.place ≡ test each) others
behind test l ls [] other all = tt
behind test l ls (each ∷ others) other all =
    (rw (other.0, and_false (test l)) all.0, behind test l ls others other.1 all.1)

pub has_loaded-own : (test : Loaded → Bool) (ls : List Loaded) → IsDistinct (λ p q. p == q) (map (λ l. l.place) ls)
    → AllByRecursion (λ l. has_loaded test ls l.place ≡ test l) ls
unfolding IsDistinct
has_loaded-own test [] once = tt
has_loaded-own test (l ∷ ls) once =
    (at_head test l ls once.0, behind test l ls ls once.0 (has_loaded-own test ls once.1))

-- ---- Sets

-- of what stands at a place its own place tells
at_place : (set : Places) (q p : ℕ) (b : Bool) → (q == p) ≡ b → (set q && b) ≡ (set p && b)
at_place set q p true same = rw (eqb-true q p same) refl
at_place set q p false same = and_false (set q) ∙ sym (and_false (set p))

any_and : {A : Type 0} (b : Bool) (f : A → Bool) (xs : List A) → list_any (λ x. b && f x) xs ≡ (b && list_any f xs)
any_and true f xs = refl
any_and false f [] = refl
any_and false f (x ∷ xs) = any_and false f xs

within : (set test : Bool) → (set ≡ true → test ≡ true) → (set && test) ≡ set
within true test so = so refl
within false test so = refl

-- the loaded controllers that are in a set are the set
pub members_of : (set : Places) (ls : List Loaded) → AreLoaded ls set → (p : ℕ)
    → list_any (λ l. set l.place && l.place == p) ls ≡ set p
members_of set ls loaded p =
    any_same _ (λ l. set p && l.place == p) ls (all_of _ (λ l. at_place set l.place p (l.place == p) refl) ls)
    ∙ any_and (set p) (λ l. l.place == p) ls
    ∙ within (set p) (list_any (λ l. l.place == p) ls) (loaded p)

-- Where each is changed so that it passes the test exactly where it is in a set, and stays where it is, what passes is
-- that set.
pub has_loaded-changed : (test : Loaded → Bool) (change : Loaded → Loaded) (set : Places) (ls : List Loaded)
    → ((l : Loaded) → (change l).place ≡ l.place)
    → AllByRecursion (λ l. test (change l) ≡ set l.place) ls → AreLoaded ls set → (p : ℕ)
    → has_loaded test (map change ls) p ≡ set p
has_loaded-changed test change set ls stays tells loaded p =
    any_map (λ l. test l && l.place == p) change ls
    ∙ any_same (λ l. test (change l) && (change l).place == p) (λ l. set l.place && l.place == p) ls
    (all_so (λ l. test (change l) ≡ set l.place)
    (λ l. (test (change l) && (change l).place == p) ≡ (set l.place && l.place == p))
    (λ l tells. rw (tells, stays l) refl) ls tells)
    ∙ members_of set ls loaded p
