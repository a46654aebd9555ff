-- The places of wanted names, and what is seen of them at best.
use Rattle.std.proofs.Common.{◌≡◌, ℕ, suc, ◌<◌, ◌≤◌, Bool, true, false, List, [], ◌∷◌, ◌++◌, length}
use Rattle.std.proofs.Common.{Option, Some, None, inl, inr, refl, sym, ◌∙◌, ap, subst, true≢false}
use Rattle.std.specs.Prelude.{◌==◌, eqb, if◌then◌else◌, Result, Ok, Err}
use Rattle.std.specs.List.{All, Contains, IsDistinct, list_any}
use Rattle.std.proofs.lemmas.Cmp.{nat_eq_equiv}
use Rattle.std.proofs.lemmas.Bool.{eqb-true, eq-eqb, false_from_ne_true}
use Rattle.std.proofs.lemmas.List.Elements.{All-nil, All-cons, Contains-push, Contains-push_cases, Contains-append_left}
use Rattle.std.proofs.lemmas.List.Quantifiers.{position-Some}
use Rattle.std.proofs.lemmas.Map.Keys.{IsDistinct-push}
use Rattle.std.proofs.lemmas.Map.Steps.{length-le_from_distinct_below}
use Rattle.iface_names.specs.Names.{same_name}
use Rattle.cm_document.specs.Valid.{repeated_after}
use Rattle.cm_document.specs.declared.description.CtlDesc.{CtlDesc}
use Rattle.cm_document.specs.declared.description.Description.{Description}
use Rattle.cm_document.specs.declared.life.Life.TheVariants.{Inactive}
use Rattle.cm_model.specs.Order.{nobody, controller_at}
use Rattle.cm_model.specs.Scene.{Scene, controllers_in, described, loaded_of}
use Rattle.cm_model.specs.declared.seen.Seen.{Seen}
use Rattle.switch_plan.proofs.CauseLemmas.{same_names, name_itself}
use Rattle.switch_plan.proofs.ElementLemmas.{none_inside, here, later, first_or_later}
use Rattle.switch_plan.proofs.ElementLemmas.{any_from, some_of, found, not_found}
use Rattle.spawn_plan.specs.Never.{ready_at, ready_from, best_scene}
use Rattle.spawn_plan.specs.Wanted.{place_in, places_after, places_in}
use Rattle.spawn_plan.specs.declared.fault.SpawnFault.{SpawnFault}
use Rattle.spawn_plan.specs.declared.fault.SpawnFault.TheVariants as fault

pub same_Ok : {A : Type 0} (x y : A) → ◌≡◌ {A = Result A SpawnFault} (Ok x) (Ok y) → x ≡ y
same_Ok x y same = cc

-- ---- Places of names

-- the next place, where there is one
abbrev pub placed_on : List CtlDesc → List ℕ → List ℕ → List (List ℕ) → Option ℕ → Result (List ℕ) SpawnFault
placed_on cs found name names o =
    elim o [ None ↦ Err (fault.NotDescribed name) | Some place ↦ places_after cs (found ++ place ∷ []) names ]

module _ (cs : List CtlDesc) where
  pub next_place : (found : List ℕ) (name : List ℕ) (names : List (List ℕ)) (places : List ℕ) (o : Option ℕ)
      → placed_on cs found name names o ≡ Ok places
      → (q : ℕ) × (o ≡ Some q) × (places_after cs (found ++ q ∷ []) names ≡ Ok places)
  next_place found name names places None is = cc
  next_place found name names places (Some q) is = (q, refl, is)

  -- the places so far stay
  found_stays : (found : List ℕ) (names : List (List ℕ)) (places : List ℕ) (p : ℕ)
      → places_after cs found names ≡ Ok places → Contains found p → Contains places p
  found_stays found [] places p is inside = subst (λ ps. Contains ps p) (same_Ok found places is) inside
  found_stays found (name ∷ names) places p is inside =
      let next = next_place found name names places (place_in cs name) is in
      found_stays (found ++ next.0 ∷ []) names places p next.2 (Contains-append_left found (next.0 ∷ []) p inside)

  -- each name has its place among them
  pub place_of_name : (found : List ℕ) (names : List (List ℕ)) (places : List ℕ) (name : List ℕ)
      → places_after cs found names ≡ Ok places → Contains names name
      → (q : ℕ) × (place_in cs name ≡ Some q) × Contains places q
  place_of_name found [] places name is inside = absurd (none_inside name inside)
  place_of_name found (first ∷ names) places name is inside =
      let next = next_place found first names places (place_in cs first) is in
      elim (first_or_later first names name inside) [
        | inl same ↦ (
          next.0,
          ap (place_in cs) (sym same)
              ∙ next.1,
          found_stays (found ++ next.0 ∷ []) names places next.0 next.2 (Contains-push found next.0),
        )
        | inr after ↦ place_of_name (found ++ next.0 ∷ []) names places name next.2 after
      ]

  -- and each place is that of a name
  name_of_place_from : (wanted : List (List ℕ)) (found : List ℕ) (names : List (List ℕ)) (places : List ℕ) (p : ℕ)
      → places_after cs found names ≡ Ok places
      → ((q : ℕ) → Contains found q → (name : List ℕ) × Contains wanted name × (place_in cs name ≡ Some q))
      → ((name : List ℕ) → Contains names name → Contains wanted name)
      → Contains places p → (name : List ℕ) × Contains wanted name × (place_in cs name ≡ Some p)
  name_of_place_from wanted found [] places p is those these inside =
      those p (subst (λ ps. Contains ps p) (sym (same_Ok found places is)) inside)
  name_of_place_from wanted found (first ∷ names) places p is those these inside =
      let next = next_place found first names places (place_in cs first) is in
      name_of_place_from wanted (found ++ next.0 ∷ []) names places p next.2
      (λ q has. elim (Contains-push_cases found next.0 q has) [
        | inl before ↦ those q before
        | inr same ↦ (first, these first (here first names), next.1 ∙ ap (λ (n : ℕ). Some n) same)
      ])
      (λ name has. these name (later first names name has)) inside

  pub name_of_place : (wanted : List (List ℕ)) (places : List ℕ) (p : ℕ) → places_in cs wanted ≡ Ok places
      → Contains places p → (name : List ℕ) × Contains wanted name × (place_in cs name ≡ Some p)
  name_of_place wanted places p is inside =
      name_of_place_from wanted [] wanted places p is (λ q has. absurd (none_inside q has)) (λ name has. has) inside

  -- what stands at the place of a name has it
  pub named_there : (name : List ℕ) (p : ℕ) → place_in cs name ≡ Some p → (controller_at cs p).name ≡ name
  named_there name p is =
      same_names (controller_at cs p).name name
      (position-Some (λ (c : CtlDesc). same_name c.name name) cs p nobody is).1

  pub place_within : (name : List ℕ) (p : ℕ) → place_in cs name ≡ Some p → p < length cs
  place_within name p is = (position-Some (λ (c : CtlDesc). same_name c.name name) cs p nobody is).0

  -- ---- No name twice

  pub once_parts : (b : Bool) (x : List ℕ) (rest : Option (List ℕ)) → (if b then Some x else rest) ≡ None
      → (b ≡ false) × (rest ≡ None)
  once_parts true x rest none = cc
  once_parts false x rest none = (refl, none)

  -- so no place twice
  apart_from : (name : List ℕ) (p : ℕ) (before : List (List ℕ)) (found : List ℕ) → place_in cs name ≡ Some p
      → list_any (same_name name) before ≡ false
      → ((q : ℕ) → Contains found q → (other : List ℕ) × Contains before other × (place_in cs other ≡ Some q))
      → list_any (λ q. q == p) found ≡ false
  apart_from name p before found is none those =
      false_from_ne_true (list_any (λ q. q == p) found) (λ any.
      let q = some_of (λ (q : ℕ). q == p) found any in
      let other = those q.0 q.1 in
      let same : name ≡ other.0 =
      sym (named_there name p is) ∙ ap (λ r. (controller_at cs r).name) (sym (eqb-true q.0 p q.2))
      ∙ named_there other.0 q.0 other.2 in
      true≢false (sym (any_here same other.1) ∙ none))
    where
      any_here : {other : List ℕ} → name ≡ other → Contains before other → list_any (same_name name) before ≡ true
      any_here {other} same inside =
          any_from (same_name name) before other inside (subst (λ n. same_name name n ≡ true) same (name_itself name))

  turned : (p : ℕ) (found : List ℕ) → list_any (λ q. q == p) found ≡ false → list_any (eqb p) found ≡ false
  turned p found none =
      false_from_ne_true (list_any (eqb p) found) (λ any.
      let q = some_of (eqb p) found any in
      true≢false (sym (any_from (λ (q : ℕ). q == p) found q.0 q.1 (eq-eqb q.0 p (sym (eqb-true p q.0 q.2)))) ∙ none))

  distinct_from : (before names : List (List ℕ)) (found places : List ℕ) → places_after cs found names ≡ Ok places
      → repeated_after same_name before names ≡ None
      → ((q : ℕ) → Contains found q → (other : List ℕ) × Contains before other × (place_in cs other ≡ Some q))
      → IsDistinct eqb found → IsDistinct eqb places
  distinct_from before [] found places is once those distinct =
      subst (IsDistinct eqb) (same_Ok found places is) distinct
  distinct_from before (name ∷ names) found places is once those distinct =
      let next = next_place found name names places (place_in cs name) is in
      let parts = once_parts (list_any (same_name name) before) name
      (repeated_after same_name (before ++ name ∷ []) names) once in
      distinct_from (before ++ name ∷ []) names (found ++ next.0 ∷ []) places next.2 parts.1
      (λ q has. elim (Contains-push_cases found next.0 q has) [
        | inl old ↦ (let o = those q old in (o.0, Contains-append_left before (name ∷ []) o.0 o.1, o.2))
        | inr same ↦ (name, Contains-push before name, next.1 ∙ ap (λ (n : ℕ). Some n) same)
      ])
      (IsDistinct-push nat_eq_equiv found next.0 distinct
      (turned next.0 found (apart_from name next.0 before found next.1 parts.0 those)))

  -- The places of names that are wanted once differ,
  pub wanted_distinct : (wanted : List (List ℕ)) (places : List ℕ) → places_in cs wanted ≡ Ok places
      → repeated_after same_name [] wanted ≡ None → IsDistinct eqb places
  unfolding IsDistinct
  wanted_distinct wanted places is once =
      distinct_from [] wanted [] places is once (λ q has. absurd (none_inside q has)) tt

  -- each is one of a controller,
  pub placed_within : (wanted : List (List ℕ)) (places : List ℕ) (p : ℕ) → places_in cs wanted ≡ Ok places
      → Contains places p → p < length cs
  placed_within wanted places p is inside =
      let named = name_of_place wanted places p is inside in place_within named.0 p named.2

  -- and so there are no more of them than controllers.
  pub wanted_few : (wanted : List (List ℕ)) (places : List ℕ) → places_in cs wanted ≡ Ok places
      → repeated_after same_name [] wanted ≡ None → length places ≤ length cs
  wanted_few wanted places is once =
      length-le_from_distinct_below places (length cs) (wanted_distinct wanted places is once) (λ q any.
      let r = some_of (eqb q) places any in
      let p = name_of_place wanted places r.0 is r.1 in
      subst (λ n. n < length cs) (sym (eqb-true q r.0 r.2)) (place_within p.0 r.0 p.2))

-- ---- At best

-- each is seen inactive and ready, at one of these places
pub seen_from : (serial : ℕ) (places : List ℕ) (l : Seen) → Contains (ready_from serial places) l
    → (l.life ≡ Inactive) × ((l.ready ≡ true) × Contains places l.place)
seen_from serial [] l inside = absurd (none_inside l inside)
seen_from serial (place ∷ places) l inside =
    elim (first_or_later _ (ready_from (suc serial) places) l inside) [
      | inl same ↦ (
        ap (λ (s : Seen). s.life) (sym same),
        (
          ap (λ (s : Seen). s.ready) (sym same),
          subst (Contains (place ∷ places)) (ap (λ (s : Seen). s.place) same) (here place places),
        ),
      )
      | inr after ↦ (let r = seen_from (suc serial) places l after in (r.0, (r.1.0, later place places l.place r.1.1)))
    ]

-- and each of the places is seen
pub seen_at : (serial : ℕ) (places : List ℕ) (p : ℕ) → Contains places p
    → (l : Seen) × Contains (ready_from serial places) l × (l.place ≡ p)
seen_at serial [] p inside = absurd (none_inside p inside)
seen_at serial (place ∷ places) p inside =
    elim (first_or_later place places p inside) [
      | inl same ↦ (_, here _ (ready_from (suc serial) places), same)
      | inr after ↦ (let r = seen_at (suc serial) places p after in
          (r.0, later _ (ready_from (suc serial) places) r.0 r.1, r.2))
    ]

-- and each place is within what all these places are
pub seen_within : (n serial : ℕ) (places : List ℕ) → ((p : ℕ) → Contains places p → p < n)
    → All (λ (l : Seen). l.place < n) (ready_from serial places)
seen_within n serial [] each = All-nil (λ (l : Seen). l.place < n)
seen_within n serial (place ∷ places) each =
    All-cons (λ (l : Seen). l.place < n) (ready_at serial place) (ready_from (suc serial) places)
    (each place (here place places))
    (seen_within n (suc serial) places (λ p inside. each p (later place places p inside)))

-- A scene in which exactly the controllers at these places are loaded, each inactive.
pub record HasWanted (scene : Scene) (places : List ℕ) : Type 0 where
  pub within : (l : Seen) → Contains scene.loaded l → (l.life ≡ Inactive) × Contains places l.place
  pub each : (p : ℕ) → Contains places p → (l : Seen) × Contains scene.loaded l × (l.place ≡ p)

-- the best is one
pub best_has : (d : Description) (places : List ℕ) → HasWanted (best_scene d places) places
best_has d places = record {
  within = λ l inside. let r = seen_from 0 places l inside in (r.0, r.1.1);
  each = λ p inside. seen_at 0 places p inside;
}

module _ (scene : Scene) (wanted : List (List ℕ)) (places : List ℕ)
    (is : places_in (controllers_in scene) wanted ≡ Ok places) (has : HasWanted scene places) where
  -- The loaded controller of a wanted name is inactive, at the place of that name.
  pub loaded_as : (name : List ℕ) → Contains wanted name
      → (l : Seen) × (loaded_of scene name ≡ Some l)
      × ((l.life ≡ Inactive) × (place_in (controllers_in scene) name ≡ Some l.place))
  loaded_as name inside = either (loaded_of scene name) refl
    where
      test : Seen → Bool
      test l = same_name (described scene l.place).name name

      either : (o : Option Seen) → loaded_of scene name ≡ o
          → (l : Seen) × (loaded_of scene name ≡ Some l)
          × ((l.life ≡ Inactive) × (place_in (controllers_in scene) name ≡ Some l.place))
      either None none =
          let q = place_of_name (controllers_in scene) [] wanted places name is inside in
          let l = has.each q.0 q.2 in
          let passes : test l.0 ≡ true =
          ap (λ p. same_name (controller_at (controllers_in scene) p).name name) l.2
          ∙ (position-Some (λ (c : CtlDesc). same_name c.name name) (controllers_in scene) q.0 nobody q.1).1 in
          absurd (true≢false (sym passes ∙ not_found test scene.loaded none l.0 l.1))
      either (Some l) is_found =
          let r = found test scene.loaded l is_found in
          let at = has.within l r.0 in
          let other = name_of_place (controllers_in scene) wanted places l.place is at.1 in
          let same : other.0 ≡ name =
          sym (named_there (controllers_in scene) other.0 l.place other.2)
          ∙ same_names (described scene l.place).name name r.1 in
          (l, is_found, (at.0, ap (place_in (controllers_in scene)) (sym same) ∙ other.2))
