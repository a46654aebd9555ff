-- The set that a strict switch leads to can run together.
use Rattle.std.proofs.Common.{◌≡◌, ◌⊎◌, ℕ, Bool, true, false, List, [], ◌∷◌, get_or, take, Option}
use Rattle.std.proofs.Common.{Some, None, inl, inr, refl, sym, ◌∙◌, subst, ap, true≢false}
use Rattle.std.specs.Prelude.{◌==◌, ◌&&◌, ◌||◌, not, if◌then◌else◌, map}
use Rattle.std.specs.List.{Contains, list_any}
use Rattle.std.proofs.lemmas.Bool.{and_parts, or_cases, eqb-true}
use Rattle.std.proofs.lemmas.List.{get_or_default}
use Rattle.sequence.proofs.ListLemmas.{any_map}
use Rattle.cm_document.specs.Picks.{picked_names}
use Rattle.cm_document.specs.declared.call.Pick.{Pick}
use Rattle.cm_model.proofs.CommitLemmas.{scene_active}
use Rattle.cm_model.specs.Boundary.{with_switch}
use Rattle.cm_model.specs.Commit.{seen, scene_of}
use Rattle.cm_model.specs.Faults.{fault_of_kind}
use Rattle.cm_model.specs.Order.{Places}
use Rattle.cm_model.specs.Scene as scenes
use Rattle.cm_model.specs.Scene.{Scene, loaded_of, loaded_all, named, member}
use Rattle.cm_model.specs.Sound.{CanRunTogether}
use Rattle.cm_model.specs.State.{State, Loaded, active}
use Rattle.cm_model.specs.Steady.{has_loaded, IsSteady}
use Rattle.cm_model.specs.Switches.{off_fault, on_fault, first_fault, counts_for_all}
use Rattle.cm_model.specs.Switches.{first_member_fault, Decided, refused, done, unless_because, strict}
use Rattle.cm_model.specs.declared.cause.Cause.{Cause}
use Rattle.cm_model.specs.declared.cause.Dropped.{Dropped}
use Rattle.cm_model.specs.declared.fault_kind.FaultKind.{FaultKind}
use Rattle.cm_model.specs.declared.fault_kind.FaultKind.TheVariants as fault_kind
use Rattle.cm_model.specs.declared.seen.Seen.{Seen}
use Rattle.switch_plan.specs.Laws.{CanBeDone, strict_set}
use Rattle.switch_plan.proofs.CauseLemmas.{named_one, order_from}
use Rattle.switch_plan.proofs.DecisionLemmas.{unless_either, strict_done}
use Rattle.switch_plan.proofs.ElementLemmas.{here, later, some_of}
use Rattle.sound_laws.proofs.FitLemmas.{none_missing, extended_together}
use Rattle.sound_laws.proofs.ParamsLemmas.{has_params, HaveParams, params_loaded}
use Rattle.sound_laws.proofs.ParamsLemmas.{active_params, commit_of, faultless_params}

-- what counts is none, of those of which it counts
counted_none : (b : Bool) (o : Option Cause) → (if b then o else None) ≡ None → b ≡ true → o ≡ None
counted_none true o none counts = none
counted_none false o none counts = absurd (true≢false (sym counts))

-- the name by which a member of a list of names was named
record IsNamedBy (scene : Scene) (names : List (List ℕ)) (p : ℕ) : Type 0 where
  name : List ℕ
  listed : Contains names name
  loaded : Seen
  found : loaded_of scene name ≡ Some loaded
  at : loaded.place ≡ p

named_by : (scene : Scene) (names : List (List ℕ)) (p : ℕ) → named scene names p ≡ true → IsNamedBy scene names p
named_by scene [] p any = absurd (true≢false (sym any))
named_by scene (name ∷ names) p any =
    elim (named_one scene (loaded_of scene name) (loaded_all scene names) p any) [
      | inl (l, is, same) ↦ record { name = name; listed = here name names; loaded = l; found = is; at = same }
      | inr rest ↦
          let r = named_by scene names p rest in
          record {
            name = r.name;
            listed = later name names r.name r.listed;
            loaded = r.loaded;
            found = r.found;
            at =
                r.at;
          }
    ]

-- what is loaded as a switch sees it
pub seen_loaded : (s : State) (ls : List Loaded) (p : ℕ) → list_any (λ (l : Loaded). l.place == p) ls ≡ true
    → list_any (λ (l : Seen). l.place == p) (map (seen s) ls) ≡ true
seen_loaded s ls p any = any_map (λ (l : Seen). l.place == p) (seen s) ls ∙ any

module _ (s : State) (steady : IsSteady s) (off on : List Pick) (can : CanBeDone (scene_of s) off on) where
  abbrev scene : Scene
  scene = scene_of s

  abbrev set : Places
  set = strict_set scene (picked_names off) (picked_names on)

  parts : (p : ℕ) → set p ≡ true → (active s p ≡ true) ⊎ (named scene (picked_names on) p ≡ true)
  parts p inside =
      elim (or_cases (scenes.active scene p && not (named scene (picked_names off) p)) (named scene (picked_names on) p)
      inside) [
        | inl old ↦ inl
            (ap (λ f. f p) (sym (scene_active s steady.in_order.own))
            ∙ (and_parts (scenes.active scene p) (not (named scene (picked_names off) p)) old).0)
        | inr new ↦ inr new
      ]

  pub params : HaveParams s.loaded set
  params p inside =
      elim (parts p inside) [
        | inl old ↦ active_params s steady.in_order p old
        | inr new ↦
            let r = named_by scene (picked_names on) p new in
            let k : ℕ = r.listed.0 in
            let is : get_or (picked_names on) k [] ≡ r.name =
            get_or_default (picked_names on) k [] r.name r.listed.1 ∙ r.listed.2 in
            let none : on_fault scene (named scene (picked_names off)) (take k (picked_names on)) r.name ≡ None =
            ap (on_fault scene (named scene (picked_names off)) (take k (picked_names on))) (sym is)
            ∙ can.coming.controllers k r.listed.1 in
            subst (λ q. has_loaded has_params s.loaded q ≡ true) r.at
            (faultless_params s (named scene (picked_names off)) (take k (picked_names on)) r.name r.loaded r.found
            none)
      ]

  loaded : (p : ℕ) → set p ≡ true → list_any (λ (l : Seen). l.place == p) scene.loaded ≡ true
  loaded p inside = seen_loaded s s.loaded p (params_loaded s.loaded set params p inside)

  -- no fault counts of a member
  uncounted : (kind : FaultKind) (p : ℕ) → set p ≡ true
      → (counts_for_all kind || named scene (picked_names on) p) ≡ true
      → fault_of_kind scene set (named scene (picked_names on)) kind p ≡ None
  uncounted kind p inside counts =
      let r = some_of (λ (l : Seen). l.place == p) scene.loaded (loaded p inside) in
      let at : r.0.place ≡ p = eqb-true r.0.place p r.2 in
      let none = can.members kind (member r.0) (order_from scene set r.0 r.1 (ap set at ∙ inside)) in
      subst (λ q. fault_of_kind scene set (named scene (picked_names on)) kind q ≡ None) at
      (counted_none (counts_for_all kind || named scene (picked_names on) r.0.place)
      (fault_of_kind scene set (named scene (picked_names on)) kind r.0.place) none
      (ap (λ q. counts_for_all kind || named scene (picked_names on) q) at ∙ counts))

  -- The set that a strict switch leads to can run together.
  pub strict_together : CanRunTogether s.description s.lives set
  strict_together =
      extended_together scene (active s) set (named scene (picked_names on)) (named scene (picked_names on)) (record {
        before = steady.together;
        loaded = loaded;
        parts = parts;
        clear = λ p inside new. record {
          availability = uncounted fault_kind.Availability p inside new;
          conflict = uncounted fault_kind.Conflict p inside new;
          mode = uncounted fault_kind.Mode p inside new;
        };
        followed = λ p interface inside claims. none_missing scene set (named scene (picked_names on)) p interface
            (uncounted fault_kind.Follower p inside refl) claims;
      })

  pub done_steady : (again : Places) → IsSteady (with_switch s (done [] set again)).state
  done_steady again = commit_of s set again steady.in_order params strict_together

-- ---- Done or refused

-- what is done whole
abbrev pub whole_of : Scene → List Pick → List Pick → Decided
whole_of scene off on =
    done [] (strict_set scene (picked_names off) (picked_names on))
    (λ p. named scene (picked_names off) p && named scene (picked_names on) p)

-- a strict switch is done whole or refused
pub strict_either : (scene : Scene) (off on : List Pick)
    → (strict scene off on ≡ whole_of scene off on) ⊎ ((d : Dropped) × (strict scene off on ≡ refused d))
strict_either scene off on =
    let whole = whole_of scene off on in
    let of_on = first_fault (on_fault scene (named scene (picked_names off))) [] on in
    let of_members =
    first_member_fault scene (strict_set scene (picked_names off) (picked_names on)) (named scene (picked_names on)) in
    unless_either (first_fault (off_fault scene) [] off) (unless_because of_on (unless_because of_members whole)) whole
    (unless_either of_on (unless_because of_members whole) whole (unless_either of_members whole whole (inl refl)))

-- What becomes of a strict switch is steady, whether it is done or refused.
pub strict_steady : (s : State) → IsSteady s → (off on : List Pick)
    → IsSteady (with_switch s (strict (scene_of s) off on)).state
strict_steady s steady off on =
    elim (strict_either (scene_of s) off on) [
      | inl whole ↦
          subst (λ d. IsSteady (with_switch s d).state) (sym whole)
          (done_steady s steady off on ((strict_done (scene_of s) off on).0 whole)
          (λ p. named (scene_of s) (picked_names off) p && named (scene_of s) (picked_names on) p))
      | inr (d, refuses) ↦ subst (λ d. IsSteady (with_switch s d).state) (sym refuses) steady
    ]
