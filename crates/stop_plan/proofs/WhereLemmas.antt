-- The places of the controllers that pass a test, one controller after the other.
use Rattle.std.proofs.Common.{◌≡◌, ℕ, ◌+◌, ◌<◌, ◌≤◌, Bool, true, false, List, [], ◌∷◌, length}
use Rattle.std.proofs.Common.{take, get_or, refl, sym, ◌∙◌, ap, ap₂, inl, inr, arith}
use Rattle.std.specs.Prelude.{◌==◌, ◌&&◌, ◌||◌, nat_lt}
use Rattle.std.proofs.Math.Path.{fun_ext}
use Rattle.std.proofs.lemmas.Bool.{cases_eq, cases_lt, eqb-true, eq-eqb, ne_eqb, lt-ltb, le-ltb}
use Rattle.std.proofs.lemmas.List.{take_all}
use Rattle.std.proofs.lemmas.List.Folds.{list_any_more}
use Rattle.cm_model.specs.Order.{Places, with_one, places_of}
use Rattle.cm_model.specs.declared.member.Member.{Member}
use Rattle.stop_plan.specs.Reports.{places_where}

module _ (test : Member → Bool) (ms : List Member) (i : ℕ) (d : Member) (old : Places) (below : i < length ms)
    (so_far : (p : ℕ) → old p ≡ places_where test (take i ms) p) where
  comes : (here before passes : Bool) → passes ≡ true → (here || before) ≡ (before || (here && passes))
  comes true true passes is = refl
  comes true false passes is = sym is
  comes false true passes is = refl
  comes false false passes is = refl

  stays_out : (here before passes : Bool) → passes ≡ false → before ≡ (before || (here && passes))
  stays_out here true passes is = refl
  stays_out true false passes is = sym is
  stays_out false false passes is = refl

  -- one that passes comes in
  pub one_in : test (get_or ms i d) ≡ true → (p : ℕ)
      → with_one (get_or ms i d).place old p ≡ places_where test (take (i + 1) ms) p
  one_in passes p =
      ap (λ b. (get_or ms i d).place == p || b) (so_far p)
      ∙ comes ((get_or ms i d).place == p) (places_where test (take i ms) p) (test (get_or ms i d)) passes
      ∙ sym (list_any_more (λ m. m.place == p && test m) ms i d below)

  -- another does not
  pub one_out : test (get_or ms i d) ≡ false → (p : ℕ) → old p ≡ places_where test (take (i + 1) ms) p
  one_out fails p =
      so_far p ∙ stays_out ((get_or ms i d).place == p) (places_where test (take i ms) p) (test (get_or ms i d)) fails
      ∙ sym (list_any_more (λ m. m.place == p && test m) ms i d below)

-- all of them have been looked at
pub all_in : (test : Member → Bool) (ms : List Member) (i : ℕ) (set : Places) → length ms ≤ i
    → ((p : ℕ) → set p ≡ places_where test (take i ms) p) → set ≡ places_where test ms
all_in test ms i set past so_far = fun_ext (λ p. so_far p ∙ ap (λ xs. places_where test xs p) (take_all i ms past))

-- a test of places is one of the place that is asked for
pub where_place : (test : ℕ → Bool) (ms : List Member) (p : ℕ)
    → places_where (λ m. test m.place) ms p ≡ (places_of ms p && test p)
where_place test [] p = refl
where_place test (m ∷ ms) p =
    ap (λ b. (m.place == p && test m.place) || b) (where_place test ms p)
    ∙ both (m.place == p) (places_of ms p) (test m.place) (test p) (λ same. ap test (eqb-true m.place p same))
  where
    both : (here others first passes : Bool) → (here ≡ true → first ≡ passes)
        → ((here && first) || (others && passes)) ≡ ((here || others) && passes)
    both true others first passes same = ap (λ b. b || (others && passes)) (same refl) ∙ absorbed passes others
      where
        absorbed : (a b : Bool) → (a || (b && a)) ≡ a
        absorbed true b = refl
        absorbed false true = refl
        absorbed false false = refl
    both false others first passes same = refl

-- tests that agree on the members
pub where_same : (f g : Member → Bool) → ((m : Member) → f m ≡ g m) → (ms : List Member) (p : ℕ)
    → places_where f ms p ≡ places_where g ms p
where_same f g same [] p = refl
where_same f g same (m ∷ ms) p = ap₂ (λ a b. (m.place == p && a) || b) (same m) (where_same f g same ms p)

-- ---- Place by place

module _ (test : ℕ → Bool) (i : ℕ) (old : Places) (so_far : (p : ℕ) → old p ≡ (nat_lt p i && test p)) where
  pub next_in : test i ≡ true → (p : ℕ) → with_one i old p ≡ (nat_lt p (i + 1) && test p)
  next_in passes p = ap (λ b. i == p || b) (so_far p) ∙
      elim (cases_lt p i) [
        | inl before ↦ rw (
          ne_eqb i p (λ e. omega (arith, before, e)),
          lt-ltb p i before,
          lt-ltb p (i + 1) (omega (arith, before)),
        ) refl
        | inr above ↦
            elim (cases_eq p i) [
              | inl e ↦ rw e (rw (eq-eqb i i refl, lt-ltb i (i + 1) (omega arith), passes) refl)
              | inr other ↦
                  rw (
                    ne_eqb i p (λ e. other (sym e)),
                    le-ltb p i above,
                    le-ltb p (i + 1) (omega (arith, above, λ (e : p ≡ i). other e)),
                  ) refl
            ]
      ]

  pub next_out : test i ≡ false → (p : ℕ) → old p ≡ (nat_lt p (i + 1) && test p)
  next_out fails p = so_far p ∙
      elim (cases_lt p i) [
        | inl before ↦ rw (lt-ltb p i before, lt-ltb p (i + 1) (omega (arith, before))) refl
        | inr above ↦
            elim (cases_eq p i) [
              | inl e ↦ rw e (rw (le-ltb i i (omega arith), lt-ltb i (i + 1) (omega arith), fails) refl)
              | inr other ↦ rw (le-ltb p i above, le-ltb p (i + 1) (omega (arith, above, λ (e : p ≡ i). other e))) refl
            ]
      ]
