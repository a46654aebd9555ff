-- A controller precedes another at some distance exactly where a chain of controllers leads from the one to the other.
use Rattle.std.proofs.Common.{◌≡◌, ℕ, zero, suc, ◌<◌, true, List, [], ◌∷◌, length, get_or, ◌∙◌, inl, inr, arith}
use Rattle.std.specs.Prelude.{◌&&◌, ◌↔◌}
use Rattle.std.specs.List.{list_any, All, Contains}
use Rattle.std.proofs.lemmas.Bool.{and_parts, and_from, or_cases, or_left, or_right, false≢true}
use Rattle.std.proofs.lemmas.List.{get_or_default}
use Rattle.std.proofs.lemmas.List.Elements.{All-nil, All-cons, All-head, All-tail}
use Rattle.std.proofs.lemmas.List.Folds.{Any-from_list_any, list_any_at}
use Rattle.cm_document.specs.Links.{precedes, precedes_within, precedes_far, IsChain}
use Rattle.cm_document.specs.declared.description.CtlDesc.{CtlDesc}
use Rattle.cm_document.proofs.RouteLemmas.{IsRoute, short_route}

-- a chain from one to another over some of these
abbrev pub HasChain : List CtlDesc → CtlDesc → CtlDesc → Type 0
HasChain cs c d = (es : List CtlDesc) × All (Contains cs) es × IsChain c es d

-- one controller more before a chain
chain_more : (cs : List CtlDesc) (c e d : CtlDesc) → precedes c e ≡ true → Contains cs e → HasChain cs e d
    → HasChain cs c d
chain_more cs c e d leads known chain = (e ∷ chain.0, All-cons (Contains cs) e chain.0 known chain.1, (leads, chain.2))

-- at most n links are a chain
pub within-HasChain : (cs : List CtlDesc) (n : ℕ) (c d : CtlDesc) → precedes_within cs n c d ≡ true → HasChain cs c d
within-HasChain cs zero c d far = absurd (false≢true far)
within-HasChain cs (suc n) c d far =
    elim (or_cases (precedes c d) (list_any (λ e. precedes c e && precedes_within cs n e d) cs) far) [
      | inl near ↦ ([], All-nil (Contains cs), near)
      | inr via ↦
          let some = Any-from_list_any (λ e. precedes c e && precedes_within cs n e d) cs via in
          let parts = and_parts (precedes c some.1) (precedes_within cs n some.1 d) some.4 in
          chain_more cs c some.1 d parts.0 (some.0, some.2, some.3) (within-HasChain cs n some.1 d parts.1)
    ]

module _ (cs : List CtlDesc) (other d : CtlDesc) where
  -- the controller at a place
  abbrev at : ℕ → CtlDesc
  at place = get_or cs place other

  -- the routes over places that stand for chains to d
  abbrev Route : ℕ → List ℕ → Type 0
  Route = IsRoute (length cs) (λ p q. precedes (at p) (at q)) (λ p. precedes (at p) d)

  -- a chain goes over places
  chain_route : (c : CtlDesc) (place : ℕ) (es : List CtlDesc) → at place ≡ c → All (Contains cs) es → IsChain c es d
      → (via : List ℕ) × Route place via
  chain_route c place [] here known chain = ([], rw here chain)
  chain_route c place (e ∷ es) here known chain =
      let next = All-head (Contains cs) e es known in
      let there : at next.0 ≡ e = get_or_default cs next.0 other e next.1 ∙ next.2 in
      let rest = chain_route e next.0 es there (All-tail (Contains cs) e es known) chain.1 in
      (next.0 ∷ rest.0, (next.1, rw (here, there) chain.0, rest.1))

  -- a route is found within any number of links above its number of places
  route_within : (n place : ℕ) (via : List ℕ) → Route place via → length via < n
      → precedes_within cs n (at place) d ≡ true
  route_within zero place via route short = absurd (omega arith)
  route_within (suc n) place [] route short = or_left _ _ route
  route_within (suc n) place (next ∷ more) route short =
      let rest = route_within n next more route.2 (omega arith) in
      or_right _ _
      (list_any_at (λ e. precedes (at place) e && precedes_within cs n e d) cs next other route.0
      (and_from _ _ route.1 rest))

-- a chain from one of these is found within as many links as there are controllers
pub HasChain-far : (cs : List CtlDesc) (c d : CtlDesc) → Contains cs c → HasChain cs c d → precedes_far cs c d ≡ true
HasChain-far cs c d known chain =
    let long = chain_route cs c d c known.0 chain.0 known.2 chain.1 chain.2 in
    let short = short_route (length cs) _ _ known.0 long.0 known.1 long.1 in
    rw known.2 at (route_within cs c d (length cs) known.0 short.0 short.1 short.2)

-- both ways
pub far_iff_HasChain : (cs : List CtlDesc) (c d : CtlDesc) → Contains cs c
    → (precedes_far cs c d ≡ true) ↔ HasChain cs c d
far_iff_HasChain cs c d known = (within-HasChain cs (length cs) c d, HasChain-far cs c d known)
