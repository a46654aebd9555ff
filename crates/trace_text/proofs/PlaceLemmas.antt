-- Bytes that are put at places of one buffer, one after another.
use Rattle.std.proofs.Common.{◌≡◌, ℕ, zero, suc, ◌+◌, ◌-◌, ◌*◌, ◌/◌, ◌%◌, ◌<◌, ◌≤◌, Bool, true, ◌&&◌, T, eqb, List, []}
use Rattle.std.proofs.Common.{◌∷◌, ◌++◌, length, get_or, take, drop, refl, ap, sym, ◌∙◌, arith, inl, inr, append_assoc}
use Rattle.std.proofs.Common.{append-nil, length-append, length-take-le, length-drop, length-set, take-take, take_all}
use Rattle.std.proofs.Common.{take-append-drop, take-add, take_at, drop_at, eq-zero-or-pos, eqb→eq}
use Rattle.std.specs.Prelude.{slice_set}
use Rattle.std.proofs.lemmas.Grind.{take-set_at}
use Rattle.std.proofs.lemmas.List.{take-set, take-set-le}
use lib.Ieee.Fits.{and_l, and_r}
use Rattle.trace_text.specs.Placed.{Placed}
use Rattle.trace_text.specs.declared.place.TheConstants.{PAIRS}

-- what is put second begins where the first ends
pub Placed-then : {a b c xs ys : List ℕ} {i j k : ℕ} → Placed a b i xs j → Placed b c j ys k → Placed a c i (xs ++ ys) k
Placed-then {a} {b} {c} {xs} {ys} {i} p q = record {
  front = q.front ∙ ap (λ l. l ++ ys) p.front ∙ append_assoc (take i a) xs ys;
  moved = omega (arith, p.moved, q.moved, length-append xs ys);
  len = q.len ∙ p.len;
}

-- of what was put only the first n bytes count
Placed-less : {a b xs : List ℕ} {i j : ℕ} (n : ℕ) → i ≤ length a → n ≤ length xs → Placed a b i xs j
    → Placed a b i (take n xs) (i + n)
Placed-less {a} {b} {xs} {i} {j} n within few p =
    let front = length-take-le i a within in
    record {
      front = sym (take-take (i + n) j b (omega (arith, p.moved))) ∙ ap (take (i + n)) p.front
          ∙ take-add i n (take i a ++ xs)
          ∙ (λ k. take_at (take i a) xs i front k ++ take n (drop_at (take i a) xs i front k));
      moved = omega (arith, length-take-le n xs few);
      len = p.len;
    }

-- the first and the last `half` bytes of a text, laid over each other, are the text
pub Placed-ends : {a b c : List ℕ} {i j k : ℕ} (text : List ℕ) (half : ℕ) → i ≤ length a → half ≤ length text
    → length text ≤ half + half
    → Placed a b i (take half text) j
    → Placed b c (i + (length text - half)) (take half (drop (length text - half) text)) k → Placed a c i text k
Placed-ends {a} {b} {c} {i} {j} {k} text half within fits covers p q =
    let last = length text - half in
    let both = Placed-then (Placed-less last within (omega (arith, length-take-le half text fits)) p) q in
    let whole : take last (take half text) ++ take half (drop last text) ≡ text =
    (λ x. take-take last half text (omega arith) x
    ++ take_all half (drop last text) (omega (arith, length-drop last text)) x) ∙ take-append-drop last text in
    record {
      front = both.front ∙ ap (λ l. take i a ++ l) whole;
      moved =
          both.moved ∙ ap (λ l. i + length l) whole;
      len = both.len;
    }

-- two bytes are put one behind the other
pub two_put : (xs : List ℕ) (i a b : ℕ) → i + 2 ≤ length xs
    → Placed xs (slice_set (slice_set xs i a) (i + 1) b) i (a ∷ b ∷ []) (i + 2)
two_put xs i a b room =
    let long = length-set xs i a in
    record {
      front = take-set_at (slice_set xs i a) (i + 1) (i + 2) b (omega arith) (omega (arith, long))
          ∙ ap (λ l. l ++ b ∷ []) (take-set_at xs i (i + 1) a refl (omega arith))
          ∙ append_assoc (take i xs) (a ∷ []) (b ∷ []);
      moved = refl;
      len = length-set (slice_set xs i a) (i + 1) b ∙ long;
    }

-- two bytes are put, and do not count
pub none_put : (xs : List ℕ) (i a b : ℕ) → Placed xs (slice_set (slice_set xs i a) (i + 1) b) i [] i
none_put xs i a b = record {
  front = take-set-le i (slice_set xs i a) (i + 1) b (omega arith) ∙ take-set xs i a ∙ sym (append-nil (take i xs));
  moved = omega arith;
  len = length-set (slice_set xs i a) (i + 1) b ∙ length-set xs i a;
}

-- a byte is put at a place in front of others, so of the front alone
pub set_in_front : (end place byte : ℕ) (xs : List ℕ)
    → take end (slice_set xs place byte) ≡ slice_set (take end xs) place byte
set_in_front zero place byte xs = refl
set_in_front (suc end) place byte [] = refl
set_in_front (suc end) zero byte (x ∷ xs) = refl
set_in_front (suc end) (suc place) byte (x ∷ xs) = ap (λ l. x ∷ l) (set_in_front end place byte xs)

-- where more bytes come behind, the first ones stay
pub front_stays : (end len : ℕ) (old new : List ℕ) → end ≤ len → take len new ≡ old → take end new ≡ take end old
front_stays end len old new within same = sym (take-take end len new within) ∙ ap (take end) same

-- the table has both digits of each number below this one
abbrev are_pairs : ℕ → Bool
are_pairs zero = true
are_pairs (suc p) =
    (eqb (get_or PAIRS (p * 2) 0) (48 + p / 10) && eqb (get_or PAIRS (p * 2 + 1) 0) (48 + p % 10)) && are_pairs p

below : (n p : ℕ) → T (are_pairs n) → p < n
    → (get_or PAIRS (p * 2) 0 ≡ 48 + p / 10) × (get_or PAIRS (p * 2 + 1) 0 ≡ 48 + p % 10)
below zero p t h = absurd (omega arith)
below (suc n) p t h =
    elim (eq-zero-or-pos (n - p)) [
      | inl z ↦
          let e : p ≡ n = omega arith in
          let a = and_l _ (are_pairs n) t in
          rw e (eqb→eq _ _ (and_l _ _ a), eqb→eq _ _ (and_r _ _ a))
      | inr g ↦ below n p (and_r _ (are_pairs n) t) (omega arith)
    ]

-- the digits of a number below a hundred
pub pair_at : (p : ℕ) → p < 100 → (get_or PAIRS (p * 2) 0 ≡ 48 + p / 10) × (get_or PAIRS (p * 2 + 1) 0 ≡ 48 + p % 10)
pair_at p few = below 100 p tt few
