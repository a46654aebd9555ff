-- What a search has reached, step by step, and at its end.
use Rattle.std.proofs.Common.{◌≡◌, ℕ, ◌+◌, ◌<◌, true, false, not, List, [], ◌∷◌, ◌++◌}
use Rattle.std.proofs.Common.{length, get_or, set, take, replicate, ◌⊎◌, inl, inr, refl}
use Rattle.std.proofs.Common.{sym, ◌∙◌, cond, arith, length-append, length-set, zero, suc}
use Rattle.std.specs.Prelude.{◌↔◌}
use Rattle.std.specs.List.{All, Contains}
use Rattle.std.proofs.lemmas.Bool.{cases_eq, cases_lt, false≢true}
use Rattle.std.proofs.lemmas.List.{get_or-set_same, get_or-set_other, get_or_past, take_more, length-replicate}
use Rattle.std.proofs.lemmas.List.Elements.{All-nil, All-cons, All-append, All-weaker, All-contains, Contains-push}
use Rattle.std.proofs.lemmas.List.Elements.{Contains-push_cases, Contains-append_left, Contains-append_right}
use Rattle.std.proofs.lemmas.List.Sums.{sum_by-set}
use Rattle.chain_order.specs.Links.{linked}
use Rattle.chain_order.specs.Search.{Searched, IsReached, Spreads}
use Rattle.chain_order.specs.Ways.{IsWay, Leads}

-- ---- One step

-- a step to no place
pub Spreads-none : (s : Searched) → Spreads s s []
Spreads-none s = record {
  arrived = All-nil (IsReached s);
  kept = λ p was. was;
  fresh = λ p was. inl was;
  still_waiting = λ p waits. waits;
  waiting_reached = λ p waits. inl waits;
  places_kept = refl;
  turns_kept = refl;
}

-- a step to a place that was reached before
pub Spreads-known : (s : Searched) (place : ℕ) → IsReached s place → Spreads s s (place ∷ [])
Spreads-known s place was =
    let same = Spreads-none s in
    record {
      arrived = All-cons (IsReached s) place [] was (All-nil (IsReached s));
      kept = same.kept;
      fresh = λ p now. inl now;
      still_waiting = same.still_waiting;
      waiting_reached = same.waiting_reached;
      places_kept = refl;
      turns_kept = refl;
    }

-- a step to a place that was not
pub Spreads-fresh : (old new : Searched) (place : ℕ) → place < length old.reached
    → get_or old.reached place false ≡ false
    → new.reached ≡ set old.reached place true → new.waiting ≡ old.waiting ++ place ∷ [] → Spreads old new (place ∷ [])
Spreads-fresh old new place below was marked waits =
    let here : IsReached new place = rw marked (get_or-set_same old.reached place true false below) in
    let elsewhere : (p : ℕ) → (p ≡ place → ⊥) → get_or new.reached p false ≡ get_or old.reached p false
    = λ (p : ℕ) (other : p ≡ place → ⊥). rw marked (get_or-set_other old.reached place p true false other) in
    record {
      arrived = All-cons (IsReached new) place [] here (All-nil (IsReached new));
      kept = λ p before. elim (cases_eq p place) [ inl e ↦ rw e here | inr other ↦ elsewhere p other ∙ before ];
      fresh = λ p now. elim (cases_eq p place) [
        | inl e ↦ inr (rw e (0, omega arith, refl), rw (e, waits) (Contains-push old.waiting place))
        | inr other ↦ inl (sym (elsewhere p other) ∙ now)
      ];
      still_waiting = λ p waiting. rw waits (Contains-append_left old.waiting (place ∷ []) p waiting);
      waiting_reached =
          λ p waiting. elim (Contains-push_cases old.waiting place p (rw waits at waiting))
          [ inl before ↦ inl before | inr e ↦ inr (rw (← e) here) ];
      places_kept = rw marked (length-set old.reached place true);
      turns_kept =
          let moved = sum_by-set (λ b. cond (not b) 1 0) old.reached place true false below in
          rw (marked, waits) (omega (arith, rw was at moved, length-append old.waiting (place ∷ [])));
    }

-- one step and another
Spreads-trans : (a b c : Searched) (ps qs : List ℕ) → Spreads a b ps → Spreads b c qs → Spreads a c (ps ++ qs)
Spreads-trans a b c ps qs first second = record {
  arrived = All-append (IsReached c) ps qs (All-weaker (IsReached b) (IsReached c) second.kept ps first.arrived)
      second.arrived;
  kept = λ p was. second.kept p (first.kept p was);
  fresh = λ p now. elim (second.fresh p now) [
    | inl between ↦
        elim (first.fresh p between) [
          | inl was ↦ inl was
          | inr (there, waits) ↦ inr (Contains-append_left ps qs p there, second.still_waiting p waits)
        ]
    | inr (there, waits) ↦ inr (Contains-append_right ps qs p there, waits)
  ];
  still_waiting = λ p waits. second.still_waiting p (first.still_waiting p waits);
  waiting_reached = λ p waits. elim (second.waiting_reached p waits) [
    | inl between ↦ elim (first.waiting_reached p between) [ inl was ↦ inl was | inr there ↦ inr (second.kept p there) ]
    | inr there ↦ inr there
  ];
  places_kept = second.places_kept ∙ first.places_kept;
  turns_kept = second.turns_kept ∙ first.turns_kept;
}

-- one place more of a list of places
pub Spreads_more : (a b c : Searched) (places : List ℕ) (i : ℕ) → i < length places
    → Spreads a b (take i places) → Spreads b c (get_or places i 0 ∷ []) → Spreads a c (take (i + 1) places)
Spreads_more a b c places i below first second =
    rw (take_more places i 0 below) (Spreads-trans a b c (take i places) (get_or places i 0 ∷ []) first second)

-- ---- The whole search

-- The start leads to all that was reached. The links of the start were followed, and those of each reached place that
-- no longer waits.
pub record IsSearch (links : List (List ℕ)) (start : ℕ) (s : Searched) : Type 0 where
  pub places : length s.reached ≡ length links
  pub sound : (p : ℕ) → IsReached s p → Leads links start p
  pub waits : (p : ℕ) → Contains s.waiting p → IsReached s p
  pub begun : All (IsReached s) (linked links start)
  pub followed : (p : ℕ) → IsReached s p → Contains s.waiting p ⊎ All (IsReached s) (linked links p)

-- a place behind the end of a way is led to as well
way_more : (links : List (List ℕ)) (p q r : ℕ) (via : List ℕ) → IsWay links p via q → Contains (linked links q) r
    → Leads links p r
way_more links p q r [] way next = (q ∷ [], (way, next))
way_more links p q r (first ∷ more) way next =
    let rest = way_more links first q r more way.1 next in
    (first ∷ rest.0, (way.0, rest.1))

-- a new search has reached nothing
none_reached : (n p : ℕ) → get_or (replicate n false) p false ≡ false
none_reached zero p = refl
none_reached (suc n) zero = refl
none_reached (suc n) (suc p) = none_reached n p

-- a new search that follows the links of the start
pub IsSearch-begun : (links : List (List ℕ)) (start : ℕ) (old new : Searched)
    → old ≡ record { reached = replicate (length links) false; waiting = [] }
    → Spreads old new (linked links start) → IsSearch links start new
IsSearch-begun links start old new empty step =
    let unreached : (p : ℕ) → IsReached old p
    → ⊥ = λ (p : ℕ) (was : IsReached old p). false≢true (sym (none_reached (length links) p) ∙ (rw empty at was)) in
    record {
      places = step.places_kept ∙ (rw empty (length-replicate (length links) false));
      sound = λ p now. elim (step.fresh p now)
          [ inl was ↦ absurd (unreached p was) | inr (there, waits) ↦ ([], there) ];
      waits = λ p waits. elim (step.waiting_reached p waits)
          [ inl was ↦ absurd (omega (arith, (rw empty at was).1)) | inr now ↦ now ];
      begun = step.arrived;
      followed = λ p now. elim (step.fresh p now)
          [ inl was ↦ absurd (unreached p was) | inr (there, waits) ↦ inl waits ];
    }

-- a place no longer waits, and its links were followed
pub IsSearch-followed : (links : List (List ℕ)) (start place : ℕ) (old popped new : Searched) → IsSearch links start old
    → popped.reached ≡ old.reached → old.waiting ≡ popped.waiting ++ place ∷ []
    → Spreads popped new (linked links place) → IsSearch links start new
IsSearch-followed links start place old popped new so_far same took step =
    let before : (p : ℕ) → IsReached popped p
    → IsReached old p = λ (p : ℕ) (was : IsReached popped p). rw same at was in
    let after : (p : ℕ) → IsReached old p
    → IsReached new p = λ (p : ℕ) (was : IsReached old p). step.kept p (rw same was) in
    let taken : Contains old.waiting place = rw took (Contains-push popped.waiting place) in
    let way = so_far.sound place (so_far.waits place taken) in
    record {
      places = step.places_kept ∙ (rw same so_far.places);
      sound = λ p now. elim (step.fresh p now) [
        | inl was ↦ so_far.sound p (before p was)
        | inr (there, waits) ↦ way_more links start place p way.0 way.1 there
      ];
      waits = λ p waits. elim (step.waiting_reached p waits) [
        | inl was ↦ after p (so_far.waits p (rw took (Contains-append_left popped.waiting (place ∷ []) p was)))
        | inr now ↦ now
      ];
      begun = All-weaker (IsReached old) (IsReached new) after (linked links start) so_far.begun;
      followed = λ p now. elim (step.fresh p now) [
        | inl was ↦
            elim (so_far.followed p (before p was)) [
              | inl waits ↦
                  elim (Contains-push_cases popped.waiting place p (rw took at waits)) [
                    | inl still ↦ inl (step.still_waiting p still)
                    | inr e ↦ inr (rw (← e) step.arrived)
                  ]
              | inr there ↦ inr (All-weaker (IsReached old) (IsReached new) after (linked links p) there)
            ]
        | inr (there, waits) ↦ inl waits
      ];
    }

-- a place that waits is a place
pub waiting_below : (links : List (List ℕ)) (start place : ℕ) (rest : List ℕ) (s : Searched) → IsSearch links start s
    → s.waiting ≡ rest ++ place ∷ [] → place < length links
waiting_below links start place rest s search took =
    let reached = search.waits place (rw took (Contains-push rest place)) in
    elim (cases_lt place (length s.reached)) [
      | inl below ↦ omega (arith, search.places)
      | inr past ↦ absurd (false≢true (sym (get_or_past s.reached place false past) ∙ reached))
    ]

-- where none waits, a way from what was followed leads to what was reached
way_reached : (links : List (List ℕ)) (start : ℕ) (s : Searched) → IsSearch links start s → s.waiting ≡ []
    → (p q : ℕ) (via : List ℕ) → All (IsReached s) (linked links p) → IsWay links p via q → IsReached s q
way_reached links start s search none p q [] here way = All-contains (IsReached s) (linked links p) q here way
way_reached links start s search none p q (next ∷ more) here way =
    let reached = All-contains (IsReached s) (linked links p) next here way.0 in
    elim (search.followed next reached) [
      | inl waits ↦ absurd (omega (arith, (rw none at waits).1))
      | inr there ↦ way_reached links start s search none next q more there way.1
    ]

-- where none waits, the start leads to exactly what was reached
pub IsSearch-ended : (links : List (List ℕ)) (start : ℕ) (s : Searched) → IsSearch links start s → s.waiting ≡ []
    → (q : ℕ) → IsReached s q ↔ Leads links start q
IsSearch-ended links start s search none q = (
  search.sound q,
  λ (way : Leads links start q). way_reached links start s search none start q way.0 search.begun way.1,
)
