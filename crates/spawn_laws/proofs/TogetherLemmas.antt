-- Wanted controllers that nothing speaks against for good can run together, and so nothing speaks against their switch
-- once they can start.
use Rattle.std.proofs.Common.{◌≡◌, ℕ, true, false, List, [], ◌∷◌, Option, None, inr, sym, ◌∙◌, ap, subst}
use Rattle.std.specs.Prelude.{◌==◌, ◌&&◌, not, option_map}
use Rattle.std.specs.List.{Contains, list_any}
use Rattle.std.proofs.lemmas.Bool.{and_parts, and_from, and_right, not-true, not_from_true}
use Rattle.std.proofs.lemmas.Bool.{eqb-true, eq-eqb, true≢false, false_from_ne_true}
use Rattle.cm_document.specs.declared.description.Description.{Description}
use Rattle.cm_document.specs.declared.life.Life.{Life}
use Rattle.cm_model.specs.Faults.{first_of, cause_if, is_missing, conflict_over}
use Rattle.cm_model.specs.Faults.{is_beside, is_mode_taken, joint_name, fault_of_kind}
use Rattle.cm_model.specs.Loans.{CanRunTogether}
use Rattle.cm_model.specs.Order.{Places}
use Rattle.cm_model.specs.Scene.{Scene, controllers_in, described, claims_at, is_ready, member, order}
use Rattle.cm_model.specs.Switches.{with_name, counted_of, first_member_fault}
use Rattle.cm_model.specs.declared.cause.Cause.TheVariants as cause
use Rattle.cm_model.specs.declared.fault_kind.FaultKind.{FaultKind}
use Rattle.cm_model.specs.declared.fault_kind.FaultKind.TheVariants as fault_kind
use Rattle.cm_model.specs.declared.fault_kind.TheConstants.{FAULT_KINDS}
use Rattle.cm_model.specs.declared.member.Member.{Member}
use Rattle.cm_model.specs.declared.seen.Seen.{Seen}
use Rattle.sound_laws.proofs.FitLemmas.{none_missing, extended_together}
use Rattle.switch_plan.proofs.CauseLemmas.{order_back, order_from}
use Rattle.switch_plan.proofs.ElementLemmas.{here, later, any_from, some_of, none_passes}
use Rattle.switch_plan.proofs.ElementLemmas.{none_found, map_none, first_of-none, first_of-all}
use Rattle.switch_plan.proofs.MaximalLemmas.{none_if}
use Rattle.spawn_plan.specs.Never.{best_scene, lasting_kinds, fault_beside, never}
use Rattle.spawn_plan.specs.Wanted.{is_wanted}
use Rattle.spawn_plan.proofs.NeverLemmas.{none_down, counted_when}
use Rattle.spawn_plan.proofs.WantedLemmas.{HasWanted, best_has}
use Rattle.spawn_laws.proofs.NeverLemmas.{claims_it}

-- ---- What never says

module _ (d : Description) (places : List ℕ) (nothing : never d places ≡ None) where
  abbrev best : Scene
  best = best_scene d places

  abbrev set : Places
  set = is_wanted places

  -- no lasting fault is one of a member
  none_lasting : (kind : FaultKind) → Contains lasting_kinds kind → (l : Seen) → Contains best.loaded l
      → set l.place ≡ true → fault_of_kind best set set kind l.place ≡ None
  none_lasting kind listed l inside wanted =
      let of_kind =
      first_of-none (λ kind. first_of (fault_beside best set kind) (order best set)) lasting_kinds nothing kind
      listed in
      map_none (with_name (described best l.place).name) (fault_of_kind best set set kind l.place)
      (first_of-none (fault_beside best set kind) (order best set) of_kind (member l)
      (order_from best set l inside wanted))

  -- a member is loaded there
  loaded_there : (p : ℕ) → set p ≡ true → (l : Seen) × Contains best.loaded l × (l.place ≡ p)
  loaded_there p member =
      let q = some_of (λ (q : ℕ). q == p) places member in
      let l = (best_has d places).each q.0 q.1 in
      (l.0, l.1, l.2 ∙ eqb-true q.0 p q.2)

  at_member : (kind : FaultKind) → Contains lasting_kinds kind → (p : ℕ) → set p ≡ true
      → fault_of_kind best set set kind p ≡ None
  at_member kind listed p member =
      let l = loaded_there p member in
      subst (λ q. fault_of_kind best set set kind q ≡ None) l.2 (none_lasting kind listed l.0 l.1 (ap set l.2 ∙ member))

  -- So all of them can run together, once each component is active.
  pub can_together : CanRunTogether d best.components set
  can_together =
      extended_together best (λ p. false) set set set (record {
        before = record {
          exclusive = λ p q interface one other claims also. absurd (true≢false (sym one));
          one_mode = λ p q interface other one another claims also. absurd (true≢false (sym one));
          available = λ p interface one named. absurd (true≢false (sym one));
          followed = λ p interface one claims. absurd (true≢false (sym one));
        };
        loaded = λ p member. let l =
            loaded_there p member in any_from (λ (s : Seen). s.place == p) best.loaded l.0 l.1 (eq-eqb l.0.place p l.2);
        parts = λ p member. inr member;
        clear = λ p member added. record {
          availability = none_down d places p;
          conflict = at_member fault_kind.Conflict
              (later fault_kind.Follower (fault_kind.Conflict ∷ fault_kind.Mode ∷ []) fault_kind.Conflict
              (here fault_kind.Conflict (fault_kind.Mode ∷ []))) p member;
          mode = at_member fault_kind.Mode
              (later fault_kind.Follower (fault_kind.Conflict ∷ fault_kind.Mode ∷ []) fault_kind.Mode
              (later fault_kind.Conflict (fault_kind.Mode ∷ []) fault_kind.Mode (here fault_kind.Mode []))) p member;
        };
        followed = λ p interface member claims.
            none_missing best set set p interface
            (at_member fault_kind.Follower (here fault_kind.Follower (fault_kind.Conflict ∷ fault_kind.Mode ∷ [])) p
            member) claims;
      })

-- ---- What counts of a set that can run together

module _ (scene : Scene) (places : List ℕ) (has : HasWanted scene places) (lives : List Life)
    (together : CanRunTogether scene.description lives (is_wanted places))
    (up : (l : Seen) → Contains scene.loaded l
    → fault_of_kind scene (is_wanted places) (is_wanted places) fault_kind.Availability l.place ≡ None)
    (ready : (l : Seen) → Contains scene.loaded l → l.ready ≡ true) where
  abbrev of : Places
  of = is_wanted places

  none_followed : (p : ℕ) → of p ≡ true → fault_of_kind scene of of fault_kind.Follower p ≡ None
  none_followed p member =
      first_of-all (λ i. cause_if (is_missing (controllers_in scene) of i) (cause.MissingFollower i))
      (described scene p).claims (λ i claims.
      none_if (is_missing (controllers_in scene) of i) (cause.MissingFollower i)
      (together.followed p i member (claims_it scene p i claims)))

  none_rival : (p : ℕ) → of p ≡ true → fault_of_kind scene of of fault_kind.Conflict p ≡ None
  none_rival p member =
      first_of-all (conflict_over scene of p) (described scene p).claims (λ i claims.
      ap (λ (o : Option Member). option_map (λ (m : Member). cause.Conflict i (described scene m.place).name) o)
      (none_found (λ (m : Member). not (m.place == p) && claims_at (controllers_in scene) m.place i) (order scene of)
      (λ m inside.
      false_from_ne_true (not (m.place == p) && claims_at (controllers_in scene) m.place i) (λ both.
      let parts = and_parts (not (m.place == p)) (claims_at (controllers_in scene) m.place i) both in
      let same : m.place ≡ p =
      together.exclusive m.place p i (order_back scene of m inside).3 member parts.1 (claims_it scene p i claims) in
      true≢false (sym (eq-eqb m.place p same) ∙ not-true (m.place == p) parts.0)))))

  none_beside : (p : ℕ) → of p ≡ true → fault_of_kind scene of of fault_kind.Mode p ≡ None
  none_beside p member =
      first_of-all (λ i. cause_if (is_mode_taken scene of i) (cause.ModeRefused (joint_name i)))
      (described scene p).claims (λ i claims.
      none_if (is_mode_taken scene of i) (cause.ModeRefused (joint_name i))
      (none_passes (λ (l : Seen). of l.place && list_any (is_beside i) (described scene l.place).claims) scene.loaded
      (λ l inside.
      false_from_ne_true (of l.place && list_any (is_beside i) (described scene l.place).claims) (λ both.
      let parts = and_parts (of l.place) (list_any (is_beside i) (described scene l.place).claims) both in
      let other = some_of (is_beside i) (described scene l.place).claims parts.1 in
      true≢false (sym other.2
      ∙ together.one_mode p l.place i other.0 member parts.0 (claims_it scene p i claims)
      (claims_it scene l.place other.0 other.1))))))

  none_unready : (m : Member) → (l : Seen) → Contains scene.loaded l → l.place ≡ m.place
      → fault_of_kind scene of of fault_kind.Readiness m.place ≡ None
  none_unready m l inside at =
      let is : is_ready scene m.place ≡ true =
      any_from (λ (s : Seen). s.place == m.place && s.ready) scene.loaded l inside
      (and_from (l.place == m.place) l.ready (eq-eqb l.place m.place at) (ready l inside)) in
      none_if (of m.place && not (is_ready scene m.place)) cause.NotReady
      (and_right (of m.place) (not (is_ready scene m.place)) (not_from_true (is_ready scene m.place) is))

  of_each : (kind : FaultKind) (m : Member) → Contains (order scene of) m
      → fault_of_kind scene of of kind m.place ≡ None
  of_each fault_kind.Follower m inside = none_followed m.place (order_back scene of m inside).3
  of_each fault_kind.Availability m inside =
      let l = order_back scene of m inside in
      subst (λ p. fault_of_kind scene of of fault_kind.Availability p ≡ None) (ap (λ (n : Member). n.place) l.2)
      (up l.0 l.1)
  of_each fault_kind.Conflict m inside = none_rival m.place (order_back scene of m inside).3
  of_each fault_kind.Mode m inside = none_beside m.place (order_back scene of m inside).3
  of_each fault_kind.Readiness m inside =
      let l = order_back scene of m inside in none_unready m l.0 l.1 (ap (λ (n : Member). n.place) l.2)

  -- nothing counts of a member
  pub none_counts : first_member_fault scene of of ≡ None
  none_counts =
      first_of-all (λ kind. first_of (counted_of scene of of kind) (order scene of)) FAULT_KINDS (λ kind listed.
      first_of-all (counted_of scene of of kind) (order scene of) (λ m inside.
      ap (option_map (with_name (described scene m.place).name))
      (counted_when kind (of m.place) (fault_of_kind scene of of kind m.place) (order_back scene of m inside).3
      ∙ of_each kind m inside)))
