-- Routes over places: the shortest passes no place twice, so that it has fewer places between than there are places.
use Rattle.std.proofs.Common.{◌≡◌, ℕ, ◌<◌, Bool, true, false, eqb, List, [], ◌∷◌, length, inl, inr, arith}
use Rattle.std.specs.List.{list_any, IsDistinct, AllByRecursion}
use Rattle.std.proofs.lemmas.Bool.{cases_Bool, or_cases, or_parts, eqb-true, false≢true}
use Rattle.std.proofs.lemmas.Map.Keys.{IsDistinct-tail, IsDistinct-cons}
use Rattle.std.proofs.lemmas.Map.Steps.{length-le_from_distinct_below}

-- a number that is not among others differs from each
apart_from_each : (x : ℕ) (xs : List ℕ) → list_any (eqb x) xs ≡ false → AllByRecursion (λ y. eqb x y ≡ false) xs
apart_from_each x [] missing = tt
apart_from_each x (y ∷ ys) missing =
    let parts = or_parts (eqb x y) (list_any (eqb x) ys) missing in (parts.0, apart_from_each x ys parts.1)

module _ (count : ℕ) (edge : ℕ → ℕ → Bool) (last : ℕ → Bool) where
  -- From the first place an edge leads to each next of these, all below the count, and of the last of them the end is
  -- true.
  abbrev pub IsRoute : ℕ → List ℕ → Type 0
  IsRoute place [] = last place ≡ true
  IsRoute place (next ∷ more) = (next < count) × (edge place next ≡ true) × IsRoute next more

  -- a route that passes no place twice
  pub record Straight (place : ℕ) : Type 0 where
    pub via : List ℕ
    pub route : IsRoute place via
    pub distinct : IsDistinct eqb (place ∷ via)

  -- what is left of a straight route after a place on it
  rest_after : (place next : ℕ) (via : List ℕ) → IsRoute next via → IsDistinct eqb (next ∷ via)
      → list_any (eqb place) (next ∷ via) ≡ true → Straight place
  rest_after place next [] route distinct on =
      elim (or_cases (eqb place next) false on) [
        | inl here ↦ rw (eqb-true place next here) (record { via = []; route = route; distinct = distinct })
        | inr there ↦ absurd (false≢true there)
      ]
  rest_after place next (p ∷ ps) route distinct on =
      elim (or_cases (eqb place next) (list_any (eqb place) (p ∷ ps)) on) [
        | inl here ↦ rw (eqb-true place next here) (record { via = p ∷ ps; route = route; distinct = distinct })
        | inr there ↦ rest_after place p ps route.2 (IsDistinct-tail eqb next (p ∷ ps) distinct) there
      ]

  -- an edge more before a straight route: where its place stands on the route, the way round is left out
  one_more : (place next : ℕ) → next < count → edge place next ≡ true → Straight next → Straight place
  one_more place next below leads rest =
      elim (cases_Bool (list_any (eqb place) (next ∷ rest.via))) [
        | inl on ↦ rest_after place next rest.via rest.route rest.distinct on
        | inr off ↦ record {
          via = next ∷ rest.via;
          route = (below, leads, rest.route);
          distinct = IsDistinct-cons eqb place (next ∷ rest.via) (apart_from_each place (next ∷ rest.via) off)
              rest.distinct;
        }
      ]

  -- each route can be made straight
  straight : (place : ℕ) (via : List ℕ) → IsRoute place via → Straight place
  unfolding IsDistinct
  straight place [] route = record { via = []; route = route; distinct = (tt, tt) }
  straight place (next ∷ more) route = one_more place next route.0 route.1 (straight next more route.2)

  -- the places of a route that begins below the count are below it
  places_below : (place : ℕ) (via : List ℕ) → place < count → IsRoute place via → (q : ℕ)
      → list_any (eqb q) (place ∷ via) ≡ true → q < count
  places_below place [] below route q on =
      elim (or_cases (eqb q place) false on) [
        | inl here ↦ omega (arith, eqb-true q place here)
        | inr there ↦ absurd (false≢true there)
      ]
  places_below place (next ∷ more) below route q on =
      elim (or_cases (eqb q place) (list_any (eqb q) (next ∷ more)) on) [
        | inl here ↦ omega (arith, eqb-true q place here)
        | inr there ↦ places_below next more route.0 route.2 q there
      ]

  -- where there is a route there is one with fewer places between than the count
  pub short_route : (place : ℕ) (via : List ℕ) → place < count → IsRoute place via
      → (via' : List ℕ) × IsRoute place via' × (length via' < count)
  short_route place via below route =
      let s = straight place via route in
      let most = length-le_from_distinct_below (place ∷ s.via) count s.distinct
      (places_below place s.via below s.route) in
      (s.via, s.route, omega (arith, most))
