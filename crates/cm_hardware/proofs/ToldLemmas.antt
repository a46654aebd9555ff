-- The failures of reads that are told are those of the components whose read failed.
use Rattle.std.proofs.Common.{◌≡◌, ℕ, zero, suc, ◌+◌, ◌<◌, ◌≤◌, Bool, true, false, List, []}
use Rattle.std.proofs.Common.{◌∷◌, length, Option, None, refl, sym, ap, ◌∙◌, arith, inl, inr}
use Rattle.std.specs.Prelude.{◌==◌, ◌&&◌, filter, zip, slice_get}
use Rattle.std.specs.List.{list_any, range_with_len}
use Rattle.std.specs.Option.{option_map_or}
use Rattle.std.proofs.lemmas.Bool.{eq-eqb, eqb-true, or_left, or_right, cases_lt}
use Rattle.sequence.proofs.ListLemmas.{any_map}
use Rattle.cm_document.specs.declared.description.CompDesc.{CompDesc}
use Rattle.cm_document.specs.declared.life.Life.{Life}
use Rattle.cm_model.specs.Components.{read_fails}
use Rattle.cm_model.specs.Cycle.{component_is}
use Rattle.cm_model.specs.State.{State}
use Rattle.cm_storage.specs.declared.record.FailedPart.{FailedPart}
use Rattle.cm_model.proofs.LoadedLemmas.{and_false, and_true}
use Rattle.cm_hardware.specs.Holding.{reads_failed_in}

-- a number is among those that pass a test where it is among all, and passes
any_kept : (test : ℕ → Bool) (c : ℕ) (ks : List ℕ)
    → list_any (λ k. k == c) (filter test ks) ≡ (test c && list_any (λ k. k == c) ks)
any_kept test c [] = sym (and_false (test c))
any_kept test c (k ∷ ks) = by_test (test k) (k == c) refl refl (any_kept test c ks)
  where
    by_test : (passes here : Bool) → test k ≡ passes → (k == c) ≡ here
        → list_any (λ k. k == c) (filter test ks) ≡ (test c && list_any (λ k. k == c) ks)
        → list_any (λ k. k == c) (filter test (k ∷ ks)) ≡ (test c && list_any (λ k. k == c) (k ∷ ks))
    by_test true true passes here further =
        let also : test c ≡ true = ap test (sym (eqb-true k c here)) ∙ passes in
        rw (passes, here, also) refl
    by_test true false passes here further = rw (passes, here) further
    by_test false true passes here further =
        let not_c : test c ≡ false = ap test (sym (eqb-true k c here)) ∙ passes in
        let none : list_any (λ k. k == c) (filter test ks) ≡ false =
        further ∙ ap (λ (b : Bool). b && list_any (λ k. k == c) ks) not_c in
        rw (passes, not_c) none
    by_test false false passes here further = rw (passes, here) further

-- each number from the first of so many on is one of them
in_range : (a n c : ℕ) → a ≤ c → c < a + n → list_any (λ k. k == c) (range_with_len a n) ≡ true
in_range a zero c from below = absurd (omega (arith, from, below))
in_range a (suc n) c from below = elim (cases_lt a c) [
  | inl later ↦ or_right (a == c) (list_any (λ k. k == c) (range_with_len (a + 1) n))
      (in_range (a + 1) n c (omega (arith, later)) (omega (arith, below)))
  | inr here ↦ or_left (a == c) (list_any (λ k. k == c) (range_with_len (a + 1) n))
      (eq-eqb a c (omega (arith, from, here)))
]

-- past the end of a list no pair stands
none_past : (cs : List CompDesc) (lives : List Life) (k : ℕ) → length cs ≤ k → slice_get (zip cs lives) k ≡ None
none_past [] lives k past = refl
none_past (c ∷ cs) [] k past = refl
none_past (c ∷ cs) (life ∷ lives) zero past = absurd (omega (arith, past))
none_past (c ∷ cs) (life ∷ lives) (suc k) past = none_past cs lives k (omega (arith, past))

-- A component's failure is told among those of reads exactly where its read fails.
pub read_failures_told : (s : State) (component : ℕ)
    → list_any (λ (p : FailedPart). p.place == component) (reads_failed_in s) ≡ component_is read_fails s component
read_failures_told s c =
    let test : ℕ → Bool = component_is read_fails s in
    let all = range_with_len 0 (length s.description.components) in
    any_map (λ (p : FailedPart). p.place == c) (λ place. record { place = place; reading = true }) (filter test all)
    ∙ any_kept test c all
    ∙ elim (cases_lt c (length s.description.components)) [
      | inl within ↦ ap (λ (b : Bool). test c && b)
          (in_range 0 (length s.description.components) c (omega arith) (omega (arith, within))) ∙ and_true (test c)
      | inr past ↦
          (let none : test c ≡ false =
          ap (λ (o : Option (CompDesc × Life)). option_map_or (λ each. read_fails each.0 each.1 s.ended) o false)
          (none_past s.description.components s.lives c past) in
          ap (λ (b : Bool). b && list_any (λ k. k == c) all) none ∙ sym none)
    ]
