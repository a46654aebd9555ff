-- The set that a best effort leads to can run together: what does not leave can, and each that joins has no fault
-- beside those that did.
use Rattle.std.proofs.Common.{◌≡◌, ◌⊎◌, ℕ, suc, true, false, List, [], ◌∷◌, ◌++◌, length, get_or}
use Rattle.std.proofs.Common.{Option, Some, None, inl, inr, refl, sym, ◌∙◌, subst, ap, true≢false}
use Rattle.std.specs.Prelude.{◌==◌, ◌&&◌, not, option_map}
use Rattle.std.specs.List.{All, list_any, cons_option}
use Rattle.std.specs.Option.{option_map_or}
use Rattle.std.proofs.lemmas.Bool.{and_parts, and_from, or_cases, or_left, or_right}
use Rattle.std.proofs.lemmas.Bool.{not-true, not-false, eqb-true, eq-eqb, cases_Bool}
use Rattle.std.proofs.lemmas.List.Elements.{All-head, All-tail}
use Rattle.std.proofs.lemmas.List.Folds.{list_any_at}
use Rattle.std.proofs.lemmas.List.Quantifiers.{position-Some}
use Rattle.iface_names.specs.declared.interface.IfaceName.{IfaceName}
use Rattle.cm_document.specs.Links.{is_among, refs_of, exporter}
use Rattle.cm_document.specs.declared.description.CtlDesc.{CtlDesc}
use Rattle.cm_document.specs.Picks.{picked_names}
use Rattle.cm_document.specs.declared.call.Pick.{Pick}
use Rattle.cm_document.specs.declared.call.Pick.TheVariants.{One, Group}
use Rattle.cm_model.proofs.CommitLemmas.{scene_active}
use Rattle.cm_model.proofs.LoadedLemmas.{and_false}
use Rattle.cm_model.specs.BestEffort.{Joined, joined_with, join, join_all, by_height, faultless, reduced, best, joining}
use Rattle.cm_model.specs.Boundary.{with_switch}
use Rattle.cm_model.specs.Commit.{scene_of, commit}
use Rattle.cm_model.specs.Faults.{first_of, is_missing, fault_of_kind, fault}
use Rattle.cm_model.specs.Order.{Places, nobody, controller_at, precedes_at, with_one, places_of, height}
use Rattle.cm_model.specs.Scene as scenes
use Rattle.cm_model.specs.Scene.{Scene, controllers_in, described, claims_at, loaded_of, loaded_all, member, named}
use Rattle.cm_model.specs.Sound.{CanRunTogether}
use Rattle.cm_model.specs.State.{State, active}
use Rattle.cm_model.specs.Steady.{has_loaded, IsSteady}
use Rattle.cm_model.specs.Switches.{off_fault, on_fault, Decided, refused, done}
use Rattle.cm_model.specs.declared.cause.Cause.{Cause}
use Rattle.cm_model.specs.declared.cause.Dropped.{Dropped}
use Rattle.cm_model.specs.declared.fault_kind.FaultKind.TheVariants as fault_kind
use Rattle.cm_model.specs.declared.member.Member.{Member}
use Rattle.cm_model.specs.declared.seen.Seen.{Seen}
use Rattle.chain_order.proofs.RunLemmas.{by_rank-all}
use Rattle.switch_plan.specs.Laws.{CanLeave, asked_off, tried_on}
use Rattle.switch_plan.proofs.CauseLemmas.{claims_from, named_one, named_more}
use Rattle.switch_plan.proofs.ElementLemmas.{or_none, any_from, some_of}
use Rattle.switch_plan.proofs.LeavingLemmas.{reduced_CanLeave, asked_active}
use Rattle.switch_plan.proofs.MaximalLemmas.{join_all-more}
use Rattle.sound_laws.proofs.FitLemmas.{IsClearOf, none_missing, extended_together}
use Rattle.sound_laws.proofs.ParamsLemmas.{has_params, HaveParams, params_loaded}
use Rattle.sound_laws.proofs.ParamsLemmas.{active_params, commit_of, faultless_params}
use Rattle.sound_laws.proofs.StrictLemmas.{seen_loaded}

-- ---- Followers

-- of a larger set no follower is missing that is not missing of a smaller one
less_missing : (small large : Places) → ((q : ℕ) → small q ≡ true → large q ≡ true) → (o : Option ℕ)
    → option_map_or (λ q. not (small q)) o false ≡ false
    → option_map_or (λ q. not (large q)) o false ≡ false
less_missing small large more None none = refl
less_missing small large more (Some q) none = ap not (more q (not-false (small q) none))

-- nor of one that has each follower that was there
pub still_followed : (small large : Places) (o : Option ℕ) → ((q : ℕ) → o ≡ Some q → small q ≡ true → large q ≡ true)
    → option_map_or (λ q. not (small q)) o false ≡ false
    → option_map_or (λ q. not (large q)) o false ≡ false
still_followed small large None more none = refl
still_followed small large (Some q) more none = ap not (more q refl (not-false (small q) none))

-- a controller precedes the exporter of what it claims
pub precedes_exporter : (scene : Scene) (p : ℕ) (interface : IfaceName) (q : ℕ)
    → claims_at (controllers_in scene) p interface ≡ true → exporter (controllers_in scene) interface ≡ Some q
    → precedes_at (controllers_in scene) p q ≡ true
precedes_exporter scene p interface q claims is =
    any_from (λ interface. is_among interface (refs_of (controller_at (controllers_in scene) q)))
    (described scene p).claims interface (claims_from scene p interface claims)
    (position-Some (λ (c : CtlDesc). is_among interface (refs_of c)) (controllers_in scene) q nobody is).1

-- A part of a set that can run together can, where no follower of a member is left out.
pub part_together : (scene : Scene) (set part : Places) → CanRunTogether scene.description scene.components set
    → ((p : ℕ) → part p ≡ true → set p ≡ true)
    → ((p q : ℕ) → part p ≡ true → set q ≡ true → precedes_at (controllers_in scene) p q ≡ true → part q ≡ true)
    → CanRunTogether scene.description scene.components part
part_together scene set part whole inside closed = record {
  exclusive = λ p q interface a b claims also. whole.exclusive p q interface (inside p a) (inside q b) claims also;
  one_mode = λ p q interface j a b claims also. whole.one_mode p q interface j (inside p a) (inside q b) claims also;
  available = λ p interface a named. whole.available p interface (inside p a) named;
  followed = λ p interface a claims. still_followed set part (exporter (controllers_in scene) interface)
      (λ q is was. closed p q a was (precedes_exporter scene p interface q claims is))
      (whole.followed p interface (inside p a) claims);
}

-- ---- One that joins

-- a set can run together, and each of it has parameters
record IsFit (s : State) (set : Places) : Type 0 where
  together : CanRunTogether s.description s.lives set
  params : HaveParams s.loaded set

module _ (s : State) (on : Places) where
  abbrev scene : Scene
  scene = scene_of s

  module _ (p : ℕ) (small : Places) (fit : IsFit s small) (own : has_loaded has_params s.loaded p ≡ true)
      (none : fault scene (with_one p small) on p ≡ None) where
    abbrev set : Places
    set = with_one p small

    params : HaveParams s.loaded set
    params q inside =
        elim (or_cases (p == q) (small q) inside) [
          | inl same ↦ subst (λ r. has_loaded has_params s.loaded r ≡ true) (eqb-true p q same) own
          | inr was ↦ fit.params q was
        ]

    loaded : (q : ℕ) → set q ≡ true → list_any (λ (l : Seen). l.place == q) scene.loaded ≡ true
    loaded q inside = seen_loaded s s.loaded q (params_loaded s.loaded set params q inside)

    clear : IsClearOf scene set on p
    clear =
        let of_follower = or_none (fault_of_kind scene set on fault_kind.Follower p)
        (first_of (λ kind. fault_of_kind scene set on kind p)
        (fault_kind.Availability ∷ fault_kind.Conflict ∷ fault_kind.Mode ∷ fault_kind.Readiness ∷ [])) none in
        let of_availability = or_none (fault_of_kind scene set on fault_kind.Availability p)
        (first_of (λ kind. fault_of_kind scene set on kind p)
        (fault_kind.Conflict ∷ fault_kind.Mode ∷ fault_kind.Readiness ∷ [])) of_follower.1 in
        let of_conflict = or_none (fault_of_kind scene set on fault_kind.Conflict p)
        (first_of (λ kind. fault_of_kind scene set on kind p) (fault_kind.Mode ∷ fault_kind.Readiness ∷ []))
        of_availability.1 in
        let of_mode = or_none (fault_of_kind scene set on fault_kind.Mode p)
        (first_of (λ kind. fault_of_kind scene set on kind p) (fault_kind.Readiness ∷ [])) of_conflict.1 in
        record { availability = of_availability.0; conflict = of_conflict.0; mode = of_mode.0 }

    follower : fault_of_kind scene set on fault_kind.Follower p ≡ None
    follower =
        (or_none (fault_of_kind scene set on fault_kind.Follower p)
        (first_of (λ kind. fault_of_kind scene set on kind p)
        (fault_kind.Availability ∷ fault_kind.Conflict ∷ fault_kind.Mode ∷ fault_kind.Readiness ∷ [])) none).0

    followed : (q : ℕ) (interface : IfaceName) → set q ≡ true → claims_at (controllers_in scene) q interface ≡ true
        → is_missing (controllers_in scene) set interface ≡ false
    followed q interface inside claims =
        elim (or_cases (p == q) (small q) inside) [
          | inl same ↦ none_missing scene set on p interface follower
              (ap (λ r. claims_at (controllers_in scene) r interface) (eqb-true p q same) ∙ claims)
          | inr was ↦ less_missing small set (λ r is. or_right (p == r) (small r) is)
              (exporter (controllers_in scene) interface) (fit.together.followed q interface was claims)
        ]

    with_one_fit : IsFit s set
    with_one_fit = record {
      together = extended_together scene small set (λ q. p == q) on (record {
        before = fit.together;
        loaded = loaded;
        parts = λ q inside. elim (or_cases (p == q) (small q) inside) [ inl same ↦ inr same | inr was ↦ inl was ];
        clear = λ q inside same. subst (IsClearOf scene set on) (eqb-true p q same) clear;
        followed = followed;
      });
      params = params;
    }

  joined_fit : (p : ℕ) (name : List ℕ) (j : Joined) → IsFit s j.set → has_loaded has_params s.loaded p ≡ true
      → (o : Option Cause)
      → fault scene (with_one p j.set) on p ≡ o → IsFit s (joined_with p name j o).set
  joined_fit p name j fit own None none = with_one_fit p j.set fit own none
  joined_fit p name j fit own (Some c) is = fit

  -- those that join one by one leave it so
  all_fit : (j : Joined) (ms : List Member) → IsFit s j.set
      → All (λ m. has_loaded has_params s.loaded m.place ≡ true) ms → IsFit s (join_all scene on j ms).set
  all_fit j [] fit each = fit
  all_fit j (m ∷ ms) fit each =
      all_fit (join scene on j m) ms
      (joined_fit m.place (described scene m.place).name j fit
      (All-head (λ m. has_loaded has_params s.loaded m.place ≡ true) m ms each)
      (fault scene (with_one m.place j.set) on m.place) refl)
      (All-tail (λ m. has_loaded has_params s.loaded m.place ≡ true) m ms each)

-- ---- Who is tried

module _ (s : State) (leaving : Places) where
  -- of a name and others without a fault, one at a place has no fault or is of the others
  tried_one : (before : List (List ℕ)) (name : List ℕ) (rest : List (List ℕ)) (p : ℕ) (o : Option Cause)
      → on_fault (scene_of s) leaving before name ≡ o
      → places_of (loaded_all (scene_of s) (elim o [ Some c ↦ rest | None ↦ name ∷ rest ])) p ≡ true
      → (has_loaded has_params s.loaded p ≡ true) ⊎ (places_of (loaded_all (scene_of s) rest) p ≡ true)
  tried_one before name rest p (Some c) is any = inr any
  tried_one before name rest p None is any =
      elim (named_one (scene_of s) (loaded_of (scene_of s) name) (loaded_all (scene_of s) rest) p any) [
        | inl (l, found, same) ↦ inl
            (subst (λ q. has_loaded has_params s.loaded q ≡ true) same
            (faultless_params s leaving before name l found is))
        | inr more ↦ inr more
      ]

  tried_params : (before : List (List ℕ)) (picks : List Pick) (p : ℕ)
      → places_of (loaded_all (scene_of s) (faultless (on_fault (scene_of s) leaving) before picks)) p ≡ true
      → has_loaded has_params s.loaded p ≡ true
  tried_params before [] p any = absurd (true≢false (sym any))
  tried_params before (Group name ∷ picks) p any = tried_params before picks p any
  tried_params before (One name ∷ picks) p any =
      elim (tried_one before name (faultless (on_fault (scene_of s) leaving) (before ++ name ∷ []) picks) p
      (on_fault (scene_of s) leaving before name) refl any) [
        | inl params ↦ params
        | inr more ↦ tried_params (before ++ name ∷ []) picks p more
      ]

-- each of these is at its place
pub own_places : (ms : List Member) (P : ℕ → Type 0) → ((p : ℕ) → places_of ms p ≡ true → P p) → All (λ m. P m.place) ms
own_places ms P holds k d below =
    holds (get_or ms k d).place
    (list_any_at (λ m. m.place == (get_or ms k d).place) ms k d below
    (eq-eqb (get_or ms k d).place (get_or ms k d).place refl))

-- ---- Who is named

-- of the controllers without a fault each is one of the list
module _ (scene : Scene) (fault : List (List ℕ) → List ℕ → Option Cause) where
  first_named : (o : Option Seen) (few many : List Member) (p : ℕ) → (places_of few p ≡ true → places_of many p ≡ true)
      → places_of (cons_option (option_map member o) few) p ≡ true
      → places_of (cons_option (option_map member o) many) p ≡ true
  first_named None few many p rest any = rest any
  first_named (Some l) few many p rest any =
      elim (or_cases (l.place == p) (places_of few p) any) [
        | inl here ↦ or_left (l.place == p) (places_of many p) here
        | inr later ↦ or_right (l.place == p) (places_of many p) (rest later)
      ]

  faultless_named : (before : List (List ℕ)) (picks : List Pick) (p : ℕ)
      → places_of (loaded_all scene (faultless fault before picks)) p ≡ true
      → named scene (picked_names picks) p ≡ true
  faultless_named before [] p any = any
  faultless_named before (Group name ∷ picks) p any = faultless_named before picks p any
  faultless_named before (One name ∷ picks) p any =
      by_fault (fault before name) (faultless_named (before ++ name ∷ []) picks p) any
    where
      by_fault : (o : Option Cause)
          → (places_of (loaded_all scene (faultless fault (before ++ name ∷ []) picks)) p ≡ true
          → named scene (picked_names picks) p ≡ true)
          → places_of (loaded_all scene
          (elim o [
            | Some c ↦ faultless fault (before ++ name ∷ []) picks
            | None ↦ name
                ∷ faultless fault (before ++ name ∷ []) picks
          ])) p ≡ true
          → named scene (name ∷ picked_names picks) p ≡ true
      by_fault (Some c) rest any =
          named_more scene (loaded_of scene name) (loaded_all scene (picked_names picks)) p (rest any)
      by_fault None rest any =
          first_named (loaded_of scene name) (loaded_all scene (faultless fault (before ++ name ∷ []) picks))
          (loaded_all scene (picked_names picks)) p rest any

-- each that has joined was there before, or is one of those that were tried
module _ (scene : Scene) (on : Places) where
  joined_from : (q : ℕ) (name : List ℕ) (j : Joined) (o : Option Cause) (p : ℕ) → (joined_with q name j o).set p ≡ true
      → (j.set p ≡ true) ⊎ ((q == p) ≡ true)
  joined_from q name j None p inside =
      elim (or_cases (q == p) (j.set p) inside) [ inl new ↦ inr new | inr old ↦ inl old ]
  joined_from q name j (Some c) p inside = inl inside

  all_joined_from : (j : Joined) (ms : List Member) (p : ℕ) → (join_all scene on j ms).set p ≡ true
      → (j.set p ≡ true) ⊎ (places_of ms p ≡ true)
  all_joined_from j [] p inside = inl inside
  all_joined_from j (m ∷ ms) p inside =
      elim (all_joined_from (join scene on j m) ms p inside) [
        | inr later ↦ inr (or_right (m.place == p) (places_of ms p) later)
        | inl before ↦
            elim (joined_from m.place (described scene m.place).name j (fault scene (with_one m.place j.set) on m.place)
            p before) [
              | inl old ↦ inl old
              | inr new ↦ inr (or_left (m.place == p) (places_of ms p) new)
            ]
      ]

-- by height they are the same ones
by_height_places : (scene : Scene) (ms : List Member) (p : ℕ) → places_of (by_height scene ms) p ≡ true
    → places_of ms p ≡ true
by_height_places scene ms p any =
    let m = some_of (λ (m : Member). m.place == p) (by_height scene ms) any in
    let each = by_rank-all (λ m. places_of ms m.place ≡ true) (λ m. height (controllers_in scene) m.place)
    (suc (length (controllers_in scene))) ms
    (own_places ms (λ q. places_of ms q ≡ true) (λ q inside. inside)) in
    subst (λ q. places_of ms q ≡ true) (eqb-true m.0.place p m.2)
    (subst (λ (m : Member). places_of ms m.place ≡ true) m.1.2 (each m.1.0 m.0 m.1.1))

-- ---- The effort

-- the set of a decision that is done
abbrev set_in : Decided → Places → Places
set_in (refused d) other = other
set_in (done dropped set again) other = set

module _ (s : State) (steady : IsSteady s) (off on : List Pick) where
  abbrev pub leaving : Places
  leaving = reduced (scene_of s) (asked_off (scene_of s) off)

  abbrev staying : Places
  staying p = scenes.active (scene_of s) p && not (leaving p)

  abbrev tried : List Member
  tried = tried_on (scene_of s) off on

  runs : (p : ℕ) → scenes.active (scene_of s) p ≡ active s p
  runs p = ap (λ f. f p) (scene_active s steady.in_order.own)

  -- what leaves takes with it whatever precedes it
  can_leave : CanLeave (scene_of s) (asked_off (scene_of s) off) leaving
  can_leave = reduced_CanLeave (scene_of s) (asked_off (scene_of s) off) (asked_active (scene_of s) off)

  closed : (p q : ℕ) → staying p ≡ true → active s q ≡ true → precedes_at s.description.controllers p q ≡ true
      → staying q ≡ true
  closed p q inside was leads =
      let parts = and_parts (scenes.active (scene_of s) p) (not (leaving p)) inside in
      elim (cases_Bool (leaving q)) [
        | inl leaves ↦ absurd
            (true≢false (sym (can_leave.whole q p leaves parts.0 leads) ∙ not-true (leaving p) parts.1))
        | inr stays ↦ and_from (scenes.active (scene_of s) q) (not (leaving q)) (runs q ∙ was) (ap not stays)
      ]

  was_active : (p : ℕ) → staying p ≡ true → active s p ≡ true
  was_active p inside = sym (runs p) ∙ (and_parts (scenes.active (scene_of s) p) (not (leaving p)) inside).0

  staying_fit : IsFit s staying
  staying_fit = record {
    together = part_together (scene_of s) (active s) staying steady.together was_active closed;
    params = λ p inside. active_params s steady.in_order p (was_active p inside);
  }

  effort_fit : (dropped : List Dropped) → IsFit s (joining (scene_of s) leaving dropped tried).set
  effort_fit dropped =
      all_fit s (places_of tried) (record { set = staying; dropped = dropped }) (by_height (scene_of s) tried)
      staying_fit
      (by_rank-all (λ m. has_loaded has_params s.loaded m.place ≡ true)
      (λ m. height (controllers_in (scene_of s)) m.place) (suc (length (controllers_in (scene_of s)))) tried
      (own_places tried (λ p. has_loaded has_params s.loaded p ≡ true) (λ p any. tried_params s leaving [] on p any)))

  commit_effort : (dropped : List Dropped)
      → IsSteady (commit s (joining (scene_of s) leaving dropped tried).set
      (λ p. leaving p && (joining (scene_of s) leaving dropped tried).set p))
  commit_effort dropped =
      let fit = effort_fit dropped in
      commit_of s (joining (scene_of s) leaving dropped tried).set
      (λ p. leaving p && (joining (scene_of s) leaving dropped tried).set p) steady.in_order fit.params fit.together

  -- So the set that it leads to can run together.

  pub best_together : (dropped : List Dropped) (into again : Places)
      → best (scene_of s) off on ≡ done dropped into again → CanRunTogether s.description s.lives into
  best_together dropped into again is =
      subst (CanRunTogether s.description s.lives) (ap (λ (d : Decided). set_in d (λ p. false)) is)
      (effort_fit _).together

  -- and each of the set has parameters.
  pub best_params : (dropped : List Dropped) (into again : Places) → best (scene_of s) off on ≡ done dropped into again
      → HaveParams s.loaded into
  best_params dropped into again is =
      subst (HaveParams s.loaded) (ap (λ (d : Decided). set_in d (λ p. false)) is) (effort_fit _).params

  -- What becomes of a best effort is steady.
  pub best_steady : IsSteady (with_switch s (best (scene_of s) off on)).state
  best_steady = commit_effort _

  -- ---- Who comes and who leaves

  abbrev pub effort : List Dropped → Places
  effort dropped = (joining (scene_of s) leaving dropped tried).set

  pub effort_together : (dropped : List Dropped) → CanRunTogether s.description s.lives (effort dropped)
  effort_together dropped = (effort_fit dropped).together

  pub effort_params : (dropped : List Dropped) → HaveParams s.loaded (effort dropped)
  effort_params dropped = (effort_fit dropped).params

  -- who is of the set and did not stay was to be activated,
  pub best_came : (dropped : List Dropped) (p : ℕ) → effort dropped p ≡ true → staying p ≡ false
      → named (scene_of s) (picked_names on) p ≡ true
  best_came dropped p inside out =
      elim (all_joined_from (scene_of s) (places_of tried) (record { set = staying; dropped = dropped })
      (by_height (scene_of s) tried) p inside) [
        | inl old ↦ absurd (true≢false (sym old ∙ out))
        | inr new ↦ faultless_named (scene_of s) (on_fault (scene_of s) leaving) [] on p
            (by_height_places (scene_of s) tried p new)
      ]

  -- who leaves was to be deactivated,
  pub best_asked_off : (p : ℕ) → leaving p ≡ true → named (scene_of s) (picked_names off) p ≡ true
  best_asked_off p leaves = faultless_named (scene_of s) (off_fault (scene_of s)) [] off p (can_leave.within p leaves)

  -- and who was active and is not of the set leaves.
  pub best_left : (dropped : List Dropped) (p : ℕ) → active s p ≡ true → effort dropped p ≡ false → leaving p ≡ true
  best_left dropped p was out =
      elim (cases_Bool (leaving p)) [
        | inl leaves ↦ leaves
        | inr stays ↦
            absurd (true≢false
            (sym (join_all-more (scene_of s) (places_of tried) (record { set = staying; dropped = dropped })
            (by_height (scene_of s) tried) p
            (and_from (scenes.active (scene_of s) p) (not (leaving p)) (runs p ∙ was) (ap not stays))) ∙ out))
      ]

  -- one that leaves does not stay, and neither does one that was not active
  pub not_staying : (p : ℕ) → leaving p ≡ true → staying p ≡ false
  not_staying p leaves =
      ap (λ b. scenes.active (scene_of s) p && not b) leaves ∙ and_false (scenes.active (scene_of s) p)

  pub idle_not_staying : (p : ℕ) → active s p ≡ false → staying p ≡ false
  idle_not_staying p idle = ap (λ b. b && not (leaving p)) (runs p ∙ idle)
