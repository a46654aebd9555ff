-- Sets as flags.
use Rattle.std.proofs.Common.{◌≡◌, ℕ, zero, suc, ◌+◌, ◌<◌, ◌≤◌, Bool, true, false, List, [], ◌∷◌, length}
use Rattle.std.proofs.Common.{get_or, set, take, replicate, inl, inr, refl, sym, ◌∙◌, ap, ap₂, arith}
use Rattle.std.specs.Prelude.{◌&&◌, ◌||◌, ◌==◌}
use mathlib.Core.Path.{fun_ext}
use Rattle.std.specs.List.{list_any}
use Rattle.std.proofs.lemmas.Bool.{cases_eq, cases_lt, cases_Bool, eq-eqb, ne_eqb}
use Rattle.std.proofs.lemmas.List.{append-nil, get_or-set_same, get_or-set_other, get_or_past}
use Rattle.std.proofs.lemmas.List.Folds.{list_any_more, list_any-append}
use Rattle.cm_model.specs.Order.{Places, set_of, with_one, places_of, some_below}
use Rattle.cm_model.specs.declared.member.Member.{Member}
use Rattle.chain_order.specs.Links.{places_below, each_below}
use Rattle.chain_order.proofs.LinkLemmas.{length-each_below, get_or-each_below}

-- a flag that is set is one member more
pub set_of-set : (flags : List Bool) (p : ℕ) → p < length flags → set_of (set flags p true) ≡ with_one p (set_of flags)
set_of-set flags p below = fun_ext (λ q. elim (cases_eq q p) [
  | inl e ↦ rw (e, eq-eqb p p refl) (get_or-set_same flags p true false below)
  | inr other ↦ rw (ne_eqb p q (λ e. other (sym e))) (get_or-set_other flags p q true false other)
])

-- no flag is no member
pub set_of-none : (n p : ℕ) → set_of (replicate n false) p ≡ false
set_of-none zero p = refl
set_of-none (suc n) zero = refl
set_of-none (suc n) (suc p) = set_of-none n p

-- flags of a test that no place past the last passes are the set of what passes
pub set_of-each_below : (test : ℕ → Bool) (n : ℕ) → ((p : ℕ) → n ≤ p → test p ≡ false)
    → set_of (each_below test n) ≡ test
set_of-each_below test n past = fun_ext (λ p. elim (cases_lt p n) [
  | inl below ↦ get_or-each_below test n p false below
  | inr above ↦ get_or_past (each_below test n) p false (omega (arith, above, length-each_below test n))
      ∙ sym (past p above)
])

-- past the flags there is no member
pub set_of-past : (flags : List Bool) (p : ℕ) → length flags ≤ p → set_of flags p ≡ false
set_of-past flags p above = get_or_past flags p false above

or_exchanged : (a b : Bool) → (a || b) ≡ (b || a)
or_exchanged true true = refl
or_exchanged true false = refl
or_exchanged false true = refl
or_exchanged false false = refl

-- one member more
pub places_of-more : (ms : List Member) (i : ℕ) (d : Member) (old : Places) → i < length ms
    → ((p : ℕ) → old p ≡ places_of (take i ms) p)
    → (p : ℕ) → with_one (get_or ms i d).place old p ≡ places_of (take (i + 1) ms) p
places_of-more ms i d old below same p =
    rw (same p) (or_exchanged ((get_or ms i d).place == p) (places_of (take i ms) p))
    ∙ sym (list_any_more (λ m. m.place == p) ms i d below)

-- flags that were made place by place
pub flags-long : (flags : List Bool) (f : ℕ → Bool) (k n : ℕ) → flags ≡ each_below f k → k ≡ n → length flags ≡ n
flags-long flags f k n made all = ap length made ∙ length-each_below f k ∙ all

pub flags-set : (flags : List Bool) (f : ℕ → Bool) (k n : ℕ) → flags ≡ each_below f k → k ≡ n
    → ((p : ℕ) → n ≤ p → f p ≡ false) → set_of flags ≡ f
flags-set flags f k n made all past = rw made (set_of-each_below f k (λ p above. past p (omega (arith, above, all))))

-- one of the places that pass is a member exactly where some number below is and passes
pub any-places_below : (set test : ℕ → Bool) (n : ℕ)
    → list_any set (places_below test n) ≡ some_below (λ q. set q && test q) n
any-places_below set test zero = refl
any-places_below set test (suc n) =
    elim (cases_Bool (test n)) [
      | inl passes ↦ rw (passes, places_below)
          (list_any-append set (places_below test n) (n ∷ [])
          ∙ ap₂ (λ a b. a || b) (any-places_below set test n) (member_alone (set n)))
      | inr fails ↦ rw (fails, places_below)
          (rw (append-nil (places_below test n))
          (any-places_below set test n ∙ none_more (some_below (λ q. set q && test q) n) (set n)))
    ]
  where
    member_alone : (a : Bool) → (a || false) ≡ (a && true)
    member_alone true = refl
    member_alone false = refl

    none_more : (a b : Bool) → a ≡ (a || (b && false))
    none_more true b = refl
    none_more false true = refl
    none_more false false = refl
