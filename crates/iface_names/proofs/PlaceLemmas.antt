-- Where the first that passes a test stands.
use Rattle.std.proofs.Common.{◌≡◌, ℕ, ◌<◌, ◌≤◌, Bool, true, false, cond, List}
use Rattle.std.proofs.Common.{length, Some, None, refl, arith, ltb-false, ltb-true}
use Rattle.std.specs.Prelude.{position, nat_lt}
use Rattle.std.specs.List.{position_or_len, All}
use Rattle.std.proofs.lemmas.List.Sums.{fails_before_first}
use Rattle.std.proofs.lemmas.Option.{cond_some}

-- nothing found means that the test failed
cond_none : (v : Bool) (k : ℕ) → cond v (Some k) None ≡ None → v ≡ false
cond_none true k h = cc
cond_none false k h = refl

module _ {A : Type 0} (test : A → Bool) where
  -- what is found stands in the list, and is the first
  pub found_first : (xs : List A) (k : ℕ) → position test xs ≡ Some k
      → (position_or_len test xs < length xs) × (position_or_len test xs ≡ k)
  found_first xs k h =
      let found : (nat_lt (position_or_len test xs) (length xs) ≡ true) × (position_or_len test xs ≡ k) =
      cond_some _ _ _ h in (ltb-true _ _ found.0, found.1)

  -- nothing found: the first would stand past the end
  pub none_before_end : (xs : List A) → position test xs ≡ None → length xs ≤ position_or_len test xs
  none_before_end xs h = ltb-false _ _ (cond_none _ _ h)

  -- nothing found: none passes
  pub none_passes : (xs : List A) → position test xs ≡ None → All (λ x. test x ≡ false) xs
  none_passes xs h = let far = none_before_end xs h in λ k d l. fails_before_first test xs k d (omega arith)
