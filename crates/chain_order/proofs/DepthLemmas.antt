-- Depths and heights where no controller precedes itself: each is one more than the greatest that it rests on.
use Rattle.std.proofs.Common.{◌≡◌, ℕ, zero, suc, ◌<◌, ◌≤◌, Bool, true, false, List, [], ◌∷◌, ◌++◌}
use Rattle.std.proofs.Common.{length, Some, None, inl, inr, refl, sym, ◌∙◌, ap, arith, lt-ltb, get_or}
use Rattle.std.specs.Prelude.{◌&&◌, if◌then◌else◌, position}
use Rattle.std.specs.List.{Contains, position_or_len}
use Rattle.std.proofs.lemmas.Bool.{cases_lt, and_parts, and_from, true≢false}
use Rattle.std.proofs.lemmas.List.{get_or_past}
use Rattle.std.proofs.lemmas.List.Elements.{All-nil, All-cons, All-push, Contains-get_or}
use Rattle.std.proofs.lemmas.List.Folds.{list_any_none}
use Rattle.std.proofs.lemmas.List.Sums.{fails_before_first}
use Rattle.cm_document.specs.Links.{is_among, refs_of, precedes, precedes_far, IsChain, first_in_loop}
use Rattle.cm_document.specs.declared.description.CtlDesc.{CtlDesc}
use Rattle.cm_document.proofs.ChainLemmas.{HasChain, within-HasChain, HasChain-far}
use Rattle.cm_model.specs.Order.{Places, nobody, controller_at, precedes_at}
use Rattle.cm_model.specs.Order.{greatest_below, rank_within, rank, depth, height}
use Rattle.chain_order.proofs.CountLemmas.{count_below, count_below-most, count_below-less}
use Rattle.chain_order.proofs.RankLemmas.{greatest_below-same}

-- ---- The greatest below

pub greatest_below-most : (f : ℕ → ℕ) (most n : ℕ) → ((i : ℕ) → i < n → f i ≤ most) → greatest_below f n ≤ most
greatest_below-most f most zero each = omega arith
greatest_below-most f most (suc n) each =
    omega (arith, greatest_below-most f most n (λ i below. each i (omega (arith, below))), each n (omega arith))

pub greatest_below-at : (f : ℕ → ℕ) (n i : ℕ) → i < n → f i ≤ greatest_below f n
greatest_below-at f zero i below = absurd (omega (arith, below))
greatest_below-at f (suc n) i below =
    elim (cases_lt i n) [
      | inl before ↦ omega (arith, greatest_below-at f n i before)
      | inr last ↦
          let e : i ≡ n = omega (arith, last, below) in
          let same : f i ≡ f n = ap f e in
          omega (arith, same)
    ]

-- ---- Ranks

-- what a linked place gives, and another does not
given_most : (b : Bool) (r most : ℕ) → r ≤ most → (if b then suc r else 0) ≤ suc most
given_most true r most small = omega (arith, small)
given_most false r most small = omega arith

pub given_same : (b : Bool) (r s : ℕ) → (b ≡ true → r ≡ s) → (if b then suc r else 0) ≡ (if b then suc s else 0)
given_same true r s same = ap suc (same refl)
given_same false r s same = refl

given_none : (b : Bool) (r : ℕ) → (b ≡ true → ⊥) → (if b then suc r else 0) ≤ 0
given_none true r never = absurd (never refl)
given_none false r never = omega arith

pub given_one : (b : Bool) (r : ℕ) → b ≡ true → (if b then suc r else 0) ≡ suc r
given_one true r is = refl
given_one false r is = cc

module _ (linked : ℕ → ℕ → Bool) (n : ℕ) where
  -- no rank is above the number of links that were followed
  pub rank_within-most : (k p : ℕ) → rank_within linked n k p ≤ k
  unfolding rank_within
  rank_within-most zero p = omega arith
  rank_within-most (suc k) p =
      greatest_below-most (λ q. if linked q p then suc (rank_within linked n k q) else 0) (suc k) n
      (λ q below. given_most (linked q p) (rank_within linked n k q) k (rank_within-most k q))

  module _ (low : ℕ → ℕ) (rises : (q p : ℕ) → q < n → linked q p ≡ true → low q < low p) where
    -- where a number rises along each link, a rank changes no more after as many links
    settles : (k p : ℕ) → low p ≤ k → rank_within linked n (suc k) p ≡ rank_within linked n k p
    unfolding rank_within
    settles zero p small =
        let none : greatest_below (λ q. if linked q p then suc (rank_within linked n 0 q) else 0) n ≤ 0 =
        greatest_below-most (λ q. if linked q p then suc (rank_within linked n 0 q) else 0) 0 n
        (λ q below. given_none (linked q p) (rank_within linked n 0 q)
        (λ leads. omega (arith, small, rises q p below leads))) in
        omega (arith, none)
    settles (suc k) p small =
        greatest_below-same (λ q. if linked q p then suc (rank_within linked n (suc k) q) else 0)
        (λ q. if linked q p then suc (rank_within linked n k q) else 0) n
        (λ q below. given_same (linked q p) (rank_within linked n (suc k) q) (rank_within linked n k q)
        (λ leads. settles k q (omega (arith, small, rises q p below leads))))

    pub rank-settled : (p : ℕ) → low p ≤ n
        → rank linked n p ≡ greatest_below (λ q. if linked q p then suc (rank linked n q) else 0) n
    unfolding rank_within
    rank-settled p small = sym (settles n p small)

    pub rank-rises : (q p : ℕ) → q < n → low p ≤ n → linked q p ≡ true → rank linked n q < rank linked n p
    rank-rises q p below small leads =
        let at : (if linked q p then suc (rank linked n q) else 0)
        ≤ greatest_below (λ q. if linked q p then suc (rank linked n q) else 0) n =
        greatest_below-at (λ q. if linked q p then suc (rank linked n q) else 0) n q below in
        let is : (if linked q p then suc (rank linked n q) else 0) ≡ suc (rank linked n q) =
        given_one (linked q p) (rank linked n q) leads in
        let settled : rank linked n p ≡ greatest_below (λ q. if linked q p then suc (rank linked n q) else 0) n =
        rank-settled p small in
        omega (arith, at, is, settled)

-- ---- Controllers at a distance

-- where no place passes, none does
position-none : {A : Type 0} (test : A → Bool) (xs : List A) → position test xs ≡ None → (k : ℕ) (d : A) → k < length xs
    → test (get_or xs k d) ≡ false
position-none test xs none k d below =
    elim (cases_lt (position_or_len test xs) (length xs)) [
      | inl inside ↦
          (let found : position test xs ≡ Some (position_or_len test xs) =
          rw (lt-ltb (position_or_len test xs) (length xs) inside) refl in
          let no : None ≡ Some (position_or_len test xs) = sym none ∙ found in cc)
      | inr past ↦ fails_before_first test xs k d (omega (arith, past, below))
    ]

-- one controller more behind a chain
chain_on : (c d e : CtlDesc) (es : List CtlDesc) → IsChain c es d → precedes d e ≡ true → IsChain c (es ++ d ∷ []) e
chain_on c d e [] chain leads = (chain, leads)
chain_on c d e (x ∷ xs) chain leads = (chain.0, chain_on x d e xs chain.1 leads)

module _ (cs : List CtlDesc) where
  -- what precedes another is described, and so is the other
  pub precedes_at-first : (q p : ℕ) → precedes_at cs q p ≡ true → q < length cs
  precedes_at-first q p leads =
      elim (cases_lt q (length cs)) [
        | inl below ↦ below
        | inr past ↦
            let none : precedes_at cs q p ≡ false =
            ap (λ c. precedes c (controller_at cs p)) (get_or_past cs q nobody past) in
            absurd (true≢false (sym leads ∙ none))
      ]

  pub precedes_at-past : (q p : ℕ) → length cs ≤ p → precedes_at cs q p ≡ false
  precedes_at-past q p above =
      ap (λ d. precedes (controller_at cs q) d) (get_or_past cs p nobody above)
      ∙ list_any_none (λ i. is_among i (refs_of nobody)) (controller_at cs q).claims (λ k d below. refl)

  pub precedes_at-second : (q p : ℕ) → precedes_at cs q p ≡ true → p < length cs
  precedes_at-second q p leads =
      elim (cases_lt p (length cs)) [
        | inl below ↦ below
        | inr past ↦ absurd (true≢false (sym leads ∙ precedes_at-past q p past))
      ]

  -- the one precedes the other at some distance
  abbrev far : ℕ → ℕ → Bool
  far q p = precedes_far cs (controller_at cs q) (controller_at cs p)

  described : (p : ℕ) → p < length cs → Contains cs (controller_at cs p)
  described p below = Contains-get_or cs p nobody below

  far_from : (q p : ℕ) → q < length cs → HasChain cs (controller_at cs q) (controller_at cs p) → far q p ≡ true
  far_from q p below chain = HasChain-far cs (controller_at cs q) (controller_at cs p) (described q below) chain

  far_one : (q p : ℕ) → precedes_at cs q p ≡ true → far q p ≡ true
  far_one q p leads = far_from q p (precedes_at-first q p leads) ([], All-nil (Contains cs), leads)

  far_before : (r q p : ℕ) → r < length cs → far r q ≡ true → precedes_at cs q p ≡ true → far r p ≡ true
  far_before r q p below is leads =
      let chain = within-HasChain cs (length cs) (controller_at cs r) (controller_at cs q) is in
      far_from r p below (
        chain.0 ++ controller_at cs q ∷ [],
        All-push (Contains cs) chain.0 (controller_at cs q) chain.1 (described q (precedes_at-first q p leads)),
        chain_on (controller_at cs r) (controller_at cs q) (controller_at cs p) chain.0 chain.2 leads,
      )

  far_after : (q p r : ℕ) → precedes_at cs q p ≡ true → far p r ≡ true → far q r ≡ true
  far_after q p r leads is =
      let chain = within-HasChain cs (length cs) (controller_at cs p) (controller_at cs r) is in
      far_from q r (precedes_at-first q p leads) (
        controller_at cs p ∷ chain.0,
        All-cons (Contains cs) (controller_at cs p) chain.0 (described p (precedes_at-second q p leads)) chain.1,
        (leads, chain.2),
      )

  module _ (free : first_in_loop cs ≡ None) where
    no_loop : (p : ℕ) → p < length cs → far p p ≡ false
    no_loop p below = position-none (λ c. precedes_far cs c c) cs free p nobody below

    -- how many precede it at some distance, and how many it precedes
    abbrev before : ℕ → ℕ
    before p = count_below (λ r. far r p) (length cs)

    abbrev behind : ℕ → ℕ
    behind p = count_below (λ r. far p r) (length cs)

    before-rises : (q p : ℕ) → precedes_at cs q p ≡ true → before q < before p
    before-rises q p leads =
        let there = precedes_at-first q p leads in
        count_below-less (λ r. far r q) (λ r. far r p) (length cs) q (λ r below is. far_before r q p below is leads)
        there (no_loop q there) (far_one q p leads)

    behind-rises : (q p : ℕ) → precedes_at cs p q ≡ true → behind q < behind p
    behind-rises q p leads =
        let there = precedes_at-second p q leads in
        count_below-less (λ r. far q r) (λ r. far p r) (length cs) q (λ r below is. far_after p q r leads is) there
        (no_loop q there) (far_one p q leads)

    -- ---- Depths

    pub depth-settled : (set : Places) (p : ℕ)
        → depth cs set p
        ≡ greatest_below (λ q. if set q && precedes_at cs q p then suc (depth cs set q) else 0) (length cs)
    depth-settled set p =
        rank-settled (λ q r. set q && precedes_at cs q r) (length cs) before
        (λ q p below leads. before-rises q p (and_parts (set q) (precedes_at cs q p) leads).1)
        p (count_below-most (λ r. far r p) (length cs))

    pub depth-rises : (set : Places) (q p : ℕ) → set q ≡ true → precedes_at cs q p ≡ true
        → depth cs set q < depth cs set p
    depth-rises set q p member leads =
        rank-rises (λ q r. set q && precedes_at cs q r) (length cs) before
        (λ q p below leads. before-rises q p (and_parts (set q) (precedes_at cs q p) leads).1)
        q p (precedes_at-first q p leads) (count_below-most (λ r. far r p) (length cs))
        (and_from (set q) (precedes_at cs q p) member leads)

    -- ---- Heights

    pub height-settled : (p : ℕ)
        → height cs p ≡ greatest_below (λ q. if precedes_at cs p q then suc (height cs q) else 0) (length cs)
    height-settled p =
        rank-settled (λ q r. precedes_at cs r q) (length cs) behind (λ q p below leads. behind-rises q p leads) p
        (count_below-most (λ r. far p r) (length cs))

    pub height-rises : (q p : ℕ) → precedes_at cs p q ≡ true → height cs q < height cs p
    height-rises q p leads =
        rank-rises (λ q r. precedes_at cs r q) (length cs) behind (λ q p below leads. behind-rises q p leads)
        q p (precedes_at-second p q leads) (count_below-most (λ r. far p r) (length cs)) leads

-- no depth and no height is above the number of controllers
pub depth-most : (cs : List CtlDesc) (set : Places) (p : ℕ) → depth cs set p ≤ length cs
depth-most cs set p = rank_within-most (λ q r. set q && precedes_at cs q r) (length cs) (length cs) p

pub height-most : (cs : List CtlDesc) (p : ℕ) → height cs p ≤ length cs
height-most cs p = rank_within-most (λ q r. precedes_at cs r q) (length cs) (length cs) p
