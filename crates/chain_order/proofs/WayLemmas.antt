-- Ways over the links of controllers are the chains among them.
use Rattle.std.proofs.Common.{◌≡◌, ℕ, ◌<◌, ◌≤◌, true, false, List, [], ◌∷◌, length, get_or, Option}
use Rattle.std.proofs.Common.{Some, None, inl, inr, refl, sym, ◌+◌, ◌∙◌, arith, lt-ltb, le-ltb}
use Rattle.std.specs.Prelude.{◌↔◌}
use Rattle.std.specs.List.{All, Contains}
use Rattle.std.proofs.lemmas.Bool.{cases_eq, false_from_ne_true}
use Rattle.std.proofs.lemmas.List.{get_or_default}
use Rattle.std.proofs.lemmas.List.Elements.{All-nil, All-cons, All-head, All-tail, Contains-get_or}
use Rattle.std.proofs.lemmas.List.Sums.{position_or_len_is}
use Rattle.cm_document.proofs.ChainLemmas.{HasChain, far_iff_HasChain}
use Rattle.cm_document.specs.Links.{precedes_far, IsChain, first_in_loop}
use Rattle.cm_document.specs.declared.description.CtlDesc.{CtlDesc}
use Rattle.cm_model.specs.Order.{precedes_at}
use Rattle.chain_order.specs.Links.{places_below, links_of}
use Rattle.chain_order.specs.Ways.{IsWay, Leads, NoneBefore, IsFirstBack}
use Rattle.chain_order.proofs.LinkLemmas.{length-each_below, linked-precedes, precedes-linked}

module _ (cs : List CtlDesc) (other : CtlDesc) where
  -- the controller at a place
  abbrev at : ℕ → CtlDesc
  at place = get_or cs place other

  -- a way is a chain
  way_chain : (p q : ℕ) (via : List ℕ) → p < length cs → IsWay (links_of cs) p via q → HasChain cs (at p) (at q)
  way_chain p q [] below way = ([], All-nil (Contains cs), (linked-precedes cs other p q below way).1)
  way_chain p q (next ∷ more) below way =
      let first = linked-precedes cs other p next below way.0 in
      let rest = way_chain next q more first.0 way.1 in (
        at next ∷ rest.0,
        All-cons (Contains cs) (at next) rest.0 (Contains-get_or cs next other first.0) rest.1,
        (first.1, rest.2),
      )

  -- a chain is a way
  chain_way : (p q : ℕ) (c : CtlDesc) (es : List CtlDesc) → at p ≡ c → p < length cs → q < length cs
      → All (Contains cs) es → IsChain c es (at q) → Leads (links_of cs) p q
  chain_way p q c [] here below within known chain = ([], precedes-linked cs other p q below within (rw here chain))
  chain_way p q c (e ∷ es) here below within known chain =
      let next = All-head (Contains cs) e es known in
      let there : at next.0 ≡ e = get_or_default cs next.0 other e next.1 ∙ next.2 in
      let rest = chain_way next.0 q e es there next.1 within (All-tail (Contains cs) e es known) chain.1 in
      (next.0 ∷ rest.0, (precedes-linked cs other p next.0 below next.1 (rw (here, there) chain.0), rest.1))

  -- a place leads back to itself exactly where its controller precedes itself at some distance
  pub back_iff_far : (p : ℕ) → p < length cs → Leads (links_of cs) p p ↔ (precedes_far cs (at p) (at p) ≡ true)
  back_iff_far p below =
      let far = far_iff_HasChain cs (at p) (at p) (Contains-get_or cs p other below) in (
        λ (way : Leads (links_of cs) p p). far.1 (way_chain p p way.0 below way.1),
        λ (yes : precedes_far cs (at p) (at p) ≡ true). let chain =
            far.0 yes in chain_way p p (at p) chain.0 refl below below chain.1 chain.2,
      )

-- where a place does not lead back either, none before the next one does
pub none_more : (links : List (List ℕ)) (place : ℕ) → NoneBefore links place → (Leads links place place → ⊥)
    → NoneBefore links (place + 1)
none_more links place none here k before =
    elim (cases_eq k place) [
      | inl e ↦ rw e here
      | inr other ↦ none k (omega (arith, other))
    ]

-- then no controller there precedes itself
none_far : (cs : List CtlDesc) (other : CtlDesc) (place : ℕ) → place ≤ length cs → NoneBefore (links_of cs) place
    → (k : ℕ) → k < place → precedes_far cs (get_or cs k other) (get_or cs k other) ≡ false
none_far cs other place most none k before =
    false_from_ne_true _ (λ far. none k before ((back_iff_far cs other k (omega arith)).1 far))

-- the first place that leads back is the first loop
first_back : (cs : List CtlDesc) (place : ℕ) → place < length cs → NoneBefore (links_of cs) place
    → Leads (links_of cs) place place → first_in_loop cs ≡ Some place
first_back [] place below none back = absurd (omega (arith, below))
first_back (c ∷ cs) place below none back =
    let all : List CtlDesc = c ∷ cs in
    let e = position_or_len_is (λ d. precedes_far all d d) all place c (omega (arith, below))
    (none_far all c place (omega (arith, below)) none) (λ _. (back_iff_far all c place below).0 back) in
    rw (e, lt-ltb _ _ below) refl

-- where no place leads back there is no loop
none_back : (cs : List CtlDesc) → NoneBefore (links_of cs) (length cs) → first_in_loop cs ≡ None
none_back [] none = refl
none_back (c ∷ cs) none =
    let all : List CtlDesc = c ∷ cs in
    let e = position_or_len_is (λ d. precedes_far all d d) all (length all) c (omega arith)
    (none_far all c (length all) (omega arith) none) (λ beyond. absurd (omega (arith, beyond))) in
    rw (e, le-ltb (length all) (length all) (omega arith)) refl

-- what is found over the links of controllers is the first loop among them
pub first_back_in_loop : (cs : List CtlDesc) (links : List (List ℕ)) (found : Option ℕ) → links ≡ links_of cs
    → IsFirstBack links found → found ≡ first_in_loop cs
first_back_in_loop cs links found same first = by found (rw same at first)
  where
    count : length (links_of cs) ≡ length cs
    count = length-each_below (λ p. places_below (precedes_at cs p) (length cs)) (length cs)

    by : (o : Option ℕ) → IsFirstBack (links_of cs) o → o ≡ first_in_loop cs
    by None none = sym (none_back cs (λ k before. none k (omega (arith, count))))
    by (Some place) f = sym (first_back cs place (omega (arith, count, f.0)) f.2 f.1)
