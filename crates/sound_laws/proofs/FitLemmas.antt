-- When a set of controllers can run together: where those that come are without a fault beside it, and the others could
-- run together.
use Rattle.std.proofs.Common.{◌≡◌, ◌⊎◌, ℕ, Bool, true, false, ◌++◌, Option, Some}
use Rattle.std.proofs.Common.{None, inl, inr, refl, sym, ◌∙◌, subst, ap, true≢false}
use Rattle.std.specs.Prelude.{◌==◌, ◌&&◌, not, slice_index_or}
use Rattle.std.specs.List.{Contains, list_any}
use Rattle.std.specs.Option.{option_map_or}
use Rattle.std.proofs.lemmas.Bool.{and_parts, and_from, not-false, eqb-true, false_from_ne_true}
use Rattle.std.proofs.lemmas.Slice.Eq.{bytes_eq-Decides}
use Rattle.switch_plan.proofs.MaximalLemmas.{cause_if-none}
use Rattle.iface_names.specs.Interfaces.{same_kind, same_interface}
use Rattle.iface_names.specs.Names.{same_name}
use Rattle.iface_names.specs.Sameness.{same_kind-Decides, same_interface-Decides}
use Rattle.iface_names.specs.declared.interface.IfaceName.{IfaceName}
use Rattle.iface_names.specs.declared.interface.IfaceName.TheVariants.{Joint, Reference}
use Rattle.cm_document.specs.declared.life.Life.TheVariants.{Unconfigured}
use Rattle.cm_model.specs.Components.{is_available}
use Rattle.cm_model.specs.Faults.{cause_if, is_missing, component_with, is_unavailable, rival}
use Rattle.cm_model.specs.Faults.{conflict_over, is_beside, is_mode_taken, joint_name, fault_of_kind}
use Rattle.cm_model.specs.Order.{Places}
use Rattle.cm_model.specs.Scene.{Scene, controllers_in, described, claims_at, member, order}
use Rattle.cm_model.specs.Sound.{names_at, is_there, CanRunTogether}
use Rattle.cm_model.specs.declared.cause.Cause.TheVariants as cause
use Rattle.cm_model.specs.declared.fault_kind.FaultKind.TheVariants as fault_kind
use Rattle.cm_model.specs.declared.member.Member.{Member}
use Rattle.cm_model.specs.declared.seen.Seen.{Seen}
use Rattle.switch_plan.proofs.CauseLemmas.{claims_from, order_from}
use Rattle.switch_plan.proofs.ElementLemmas.{map_none, some_of, each_fails, not_found, first_of-none}

-- ---- Tests

and_first : (a b : Bool) → (a && b) ≡ false → b ≡ true → a ≡ false
and_first true b none holds = absurd (true≢false (sym holds ∙ none))
and_first false b none holds = refl

and_second : (a b : Bool) → (a && b) ≡ false → a ≡ true → b ≡ false
and_second true b none holds = none
and_second false b none holds = absurd (true≢false (sym holds))

-- what does not fail is so, or there is nothing
unless_fails : (f : ℕ → Bool) (o : Option ℕ) → option_map_or (λ k. not (f k)) o false ≡ false
    → option_map_or f o true ≡ true
unless_fails f None holds = refl
unless_fails f (Some k) holds = not-false (f k) holds

-- of two command interfaces of one joint it is told from either
beside_turned : (interface beside : IfaceName) → is_beside beside interface ≡ false → is_beside interface beside ≡ false
beside_turned (Joint joint kind) (Joint joint' kind') none =
    false_from_ne_true (same_name joint joint' && not (same_kind kind kind')) (λ both.
    let parts = and_parts (same_name joint joint') (not (same_kind kind kind')) both in
    let names : same_name joint' joint ≡ true =
    (bytes_eq-Decides joint' joint).1 (sym ((bytes_eq-Decides joint joint').0 parts.0)) in
    let kinds : same_kind kind' kind ≡ false = false_from_ne_true (same_kind kind' kind) (λ same.
    let e : same_kind kind kind' ≡ true =
    (same_kind-Decides kind kind').1 (sym ((same_kind-Decides kind' kind).0 same)) in
    true≢false (sym parts.1 ∙ ap not e)) in
    true≢false (sym (and_from (same_name joint' joint) (not (same_kind kind' kind)) names (ap not kinds)) ∙ none))
beside_turned (Joint joint kind) (Reference controller joint' kind') none = refl
beside_turned (Reference controller joint kind) (Joint joint' kind') none = refl
beside_turned (Reference controller joint kind) (Reference controller' joint' kind') none = refl

-- ---- Claims

-- no follower of it is missing, where that is not found to be its fault
pub none_missing : (scene : Scene) (set on : Places) (p : ℕ) (interface : IfaceName)
    → fault_of_kind scene set on fault_kind.Follower p ≡ None
    → claims_at (controllers_in scene) p interface ≡ true → is_missing (controllers_in scene) set interface ≡ false
none_missing scene set on p interface none claims =
    cause_if-none (is_missing (controllers_in scene) set interface) (cause.MissingFollower interface)
    (first_of-none
    (λ interface. cause_if (is_missing (controllers_in scene) set interface) (cause.MissingFollower interface))
    (described scene p).claims none interface (claims_from scene p interface claims))

-- ---- A set

-- Beside a set these faults are not found of a controller.
pub record IsClearOf (scene : Scene) (set on : Places) (p : ℕ) : Type 0 where
  pub availability : fault_of_kind scene set on fault_kind.Availability p ≡ None
  pub conflict : fault_of_kind scene set on fault_kind.Conflict p ≡ None
  pub mode : fault_of_kind scene set on fault_kind.Mode p ≡ None

-- Each of a set is one of those that could run together, or was added to them without such a fault; and of none a
-- follower is missing.
pub record IsExtended (scene : Scene) (small set added on : Places) : Type 0 where
  pub before : CanRunTogether scene.description scene.components small
  pub loaded : (p : ℕ) → set p ≡ true → list_any (λ (l : Seen). l.place == p) scene.loaded ≡ true
  pub parts : (p : ℕ) → set p ≡ true → (small p ≡ true) ⊎ (added p ≡ true)
  pub clear : (p : ℕ) → set p ≡ true → added p ≡ true → IsClearOf scene set on p
  pub followed : (p : ℕ) (interface : IfaceName) → set p ≡ true → claims_at (controllers_in scene) p interface ≡ true
      → is_missing (controllers_in scene) set interface ≡ false

module _ (scene : Scene) (small set added on : Places) (extended : IsExtended scene small set added on) where
  -- the loaded controller of a member
  loaded_at : (p : ℕ) → set p ≡ true → (l : Seen) × Contains scene.loaded l × (l.place ≡ p)
  loaded_at p inside =
      let r = some_of (λ (l : Seen). l.place == p) scene.loaded (extended.loaded p inside) in
      (r.0, r.1, eqb-true r.0.place p r.2)

  -- of one that was added no member is a rival
  no_rival : (p q : ℕ) (interface : IfaceName) → set p ≡ true → added p ≡ true → set q ≡ true
      → claims_at (controllers_in scene) p interface ≡ true → claims_at (controllers_in scene) q interface ≡ true
      → q ≡ p
  no_rival p q interface inside new other claims also =
      let l = loaded_at q other in
      let none : rival scene set p interface ≡ None =
      map_none (λ (m : Member). cause.Conflict interface (described scene m.place).name) (rival scene set p interface)
      (first_of-none (conflict_over scene set p) (described scene p).claims (extended.clear p inside new).conflict
      interface (claims_from scene p interface claims)) in
      let each : (not (l.0.place == p) && claims_at (controllers_in scene) l.0.place interface) ≡ false =
      not_found (λ (m : Member). not (m.place == p) && claims_at (controllers_in scene) m.place interface)
      (order scene set) none (member l.0)
      (order_from scene set l.0 l.1 (ap set l.2 ∙ other)) in
      let here : not (l.0.place == p) ≡ false =
      and_first (not (l.0.place == p)) (claims_at (controllers_in scene) l.0.place interface) each
      (ap (λ r. claims_at (controllers_in scene) r interface) l.2 ∙ also) in
      sym l.2 ∙ eqb-true l.0.place p (not-false (l.0.place == p) here)

  -- and none claims another command interface of a joint
  no_other_mode : (p q : ℕ) (interface beside : IfaceName) → set p ≡ true → added p ≡ true → set q ≡ true
      → claims_at (controllers_in scene) p interface ≡ true → claims_at (controllers_in scene) q beside ≡ true
      → is_beside interface beside ≡ false
  no_other_mode p q interface beside inside new other claims also =
      let l = loaded_at q other in
      let free : is_mode_taken scene set interface ≡ false =
      cause_if-none (is_mode_taken scene set interface) (cause.ModeRefused (joint_name interface))
      (first_of-none
      (λ interface. cause_if (is_mode_taken scene set interface) (cause.ModeRefused (joint_name interface)))
      (described scene p).claims (extended.clear p inside new).mode interface (claims_from scene p interface claims)) in
      let each : (set l.0.place && list_any (is_beside interface) (described scene l.0.place).claims) ≡ false =
      each_fails (λ (l : Seen). set l.place && list_any (is_beside interface) (described scene l.place).claims)
      scene.loaded free l.0 l.1 in
      let none : list_any (is_beside interface) (described scene l.0.place).claims ≡ false =
      and_second (set l.0.place) (list_any (is_beside interface) (described scene l.0.place).claims) each
      (ap set l.2 ∙ other) in
      each_fails (is_beside interface) (described scene l.0.place).claims none beside
      (subst (λ r. Contains (described scene r).claims beside) (sym l.2) (claims_from scene q beside also))

  -- and what it claims or reads is available
  is_up : (p : ℕ) (interface : IfaceName) → set p ≡ true → added p ≡ true
      → names_at (controllers_in scene) p interface ≡ true
      → is_there scene.description scene.components interface ≡ true
  is_up p interface inside new named =
      let names = (described scene p).claims ++ (described scene p).reads in
      let r = some_of (same_interface interface) names named in
      let up : is_unavailable scene r.0 ≡ false =
      cause_if-none (is_unavailable scene r.0) (cause.Unavailable r.0)
      (first_of-none (λ interface. cause_if (is_unavailable scene interface) (cause.Unavailable interface)) names
      (extended.clear p inside new).availability r.0 r.1) in
      subst (λ x. is_there scene.description scene.components x ≡ true)
      (sym ((same_interface-Decides interface r.0).0 r.2))
      (unless_fails (λ k. is_available (slice_index_or scene.components k Unconfigured))
      (component_with scene.description.components r.0) up)

  -- So the set can run together.
  pub extended_together : CanRunTogether scene.description scene.components set
  extended_together = record {
    exclusive = λ p q interface inside other claims also.
        elim (extended.parts p inside) [
          | inr new ↦ sym (no_rival p q interface inside new other claims also)
          | inl old ↦
              elim (extended.parts q other) [
                | inr new ↦ no_rival q p interface other new inside also claims
                | inl older ↦ extended.before.exclusive p q interface old older claims also
              ]
        ];
    one_mode = λ p q interface beside inside other claims also.
        elim (extended.parts p inside) [
          | inr new ↦ no_other_mode p q interface beside inside new other claims also
          | inl old ↦
              elim (extended.parts q other) [
                | inr new ↦ beside_turned interface beside
                    (no_other_mode q p beside interface other new inside also claims)
                | inl older ↦ extended.before.one_mode p q interface beside old older claims also
              ]
        ];
    available = λ p interface inside named.
        elim (extended.parts p inside) [
          | inr new ↦ is_up p interface inside new named
          | inl old ↦ extended.before.available p interface old named
        ];
    followed = extended.followed;
  }
