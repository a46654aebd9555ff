-- What speaks against controllers for good is not so in any state of a legal history.
use Rattle.std.proofs.Common.{◌≡◌, ℕ, Bool, true, false, List, [], ◌∷◌, Some, inl, inr, refl, sym, ◌∙◌, ap, subst}
use Rattle.std.specs.Prelude.{◌==◌, ◌&&◌, not}
use Rattle.std.specs.List.{Contains, list_any}
use mathlib.Core.Path.{fun_ext}
use Rattle.std.proofs.lemmas.Bool.{and_parts, not-true, eq-eqb, true≢false}
use Rattle.iface_names.specs.Interfaces.{same_interface}
use Rattle.iface_names.specs.Sameness.{same_interface-Decides}
use Rattle.iface_names.specs.declared.interface.IfaceName.{IfaceName}
use Rattle.cm_document.specs.Valid.{IsValid}
use Rattle.cm_document.specs.declared.description.Description.{Description}
use Rattle.cm_document.specs.declared.life.Life.{Life}
use Rattle.cm_model.specs.Faults.{first_of, cause_if, is_missing, rival, conflict_over}
use Rattle.cm_model.specs.Faults.{is_beside, is_mode_taken, joint_name, fault_of_kind}
use Rattle.cm_model.specs.Loans.{CanRunTogether}
use Rattle.cm_model.specs.Machine.{step, LegalFrom, IsLegal, state_after}
use Rattle.cm_model.specs.Order.{Places}
use Rattle.cm_model.specs.Scene.{Scene, controllers_in, described, claims_at, order}
use Rattle.cm_model.specs.State.{State, boot, active}
use Rattle.cm_model.specs.Steady.{IsSteady}
use Rattle.cm_model.specs.Switches.{with_name}
use Rattle.cm_model.specs.declared.blanks.Blanks.{Blanks}
use Rattle.cm_model.specs.declared.cause.Cause.{Cause}
use Rattle.cm_model.specs.declared.cause.Cause.TheVariants as cause
use Rattle.cm_model.specs.declared.cause.Dropped.{Dropped}
use Rattle.cm_model.specs.declared.entry.Entry.{Entry}
use Rattle.cm_model.specs.declared.fault_kind.FaultKind.{FaultKind}
use Rattle.cm_model.specs.declared.fault_kind.FaultKind.TheVariants as fault_kind
use Rattle.cm_model.specs.declared.member.Member.{Member}
use Rattle.cm_model.specs.declared.reply.Reply.{Reply}
use Rattle.cm_model.specs.declared.seen.Seen.{Seen}
use Rattle.cm_model.proofs.HistoryLemmas.{description_stays}
use Rattle.cm_model.proofs.LegalLemmas.{step_of}
use Rattle.cm_model.proofs.StayLemmas.{step-Stands}
use Rattle.sound_laws.proofs.BootLemmas.{boot_steady}
use Rattle.sound_laws.proofs.HistoryLemmas.{step_steady}
use Rattle.switch_plan.proofs.CauseLemmas.{order_back}
use Rattle.switch_plan.proofs.ElementLemmas.{none_inside, first_or_later, any_from}
use Rattle.switch_plan.proofs.ElementLemmas.{some_of, found, map_some, first_of-some}
use Rattle.spawn_plan.specs.Never.{best_scene, lasting_kinds, fault_beside, never}
use Rattle.spawn_plan.specs.Wanted.{is_wanted}
use Rattle.spawn_laws.specs.Starts.{AreActive}

-- ---- A fault that lasts

-- what is told where a test passes
passed : (b : Bool) (c d : Cause) → cause_if b c ≡ Some d → b ≡ true
passed true c d told = refl
passed false c d told = cc

-- who has an interface among the claims claims it
pub claims_it : (scene : Scene) (p : ℕ) (i : IfaceName) → Contains (described scene p).claims i
    → claims_at (controllers_in scene) p i ≡ true
claims_it scene p i inside =
    any_from (λ claim. same_interface claim i) (described scene p).claims i inside ((same_interface-Decides i i).1 refl)

-- No fault that lasts is one of a member of a set that can run together.
module _ (scene : Scene) (lives : List Life) (set : Places) (together : CanRunTogether scene.description lives set)
  where
    never_missing : (p : ℕ) (c : Cause) → set p ≡ true → fault_of_kind scene set set fault_kind.Follower p ≡ Some c → ⊥
    never_missing p c inside told =
        let r = first_of-some (λ i. cause_if (is_missing (controllers_in scene) set i) (cause.MissingFollower i))
        (described scene p).claims c told in
        true≢false (sym (passed (is_missing (controllers_in scene) set r.0) (cause.MissingFollower r.0) c r.2)
        ∙ together.followed p r.0 inside (claims_it scene p r.0 r.1))

    never_rival : (p : ℕ) (c : Cause) → set p ≡ true → fault_of_kind scene set set fault_kind.Conflict p ≡ Some c → ⊥
    never_rival p c inside told =
        let r = first_of-some (conflict_over scene set p) (described scene p).claims c told in
        let m = map_some (λ (m : Member). cause.Conflict r.0 (described scene m.place).name) (rival scene set p r.0) c
        r.2 in
        let other = found (λ (m : Member). not (m.place == p) && claims_at (controllers_in scene) m.place r.0)
        (order scene set) m.0 m.1 in
        let parts = and_parts (not (m.0.place == p)) (claims_at (controllers_in scene) m.0.place r.0) other.1 in
        let member : set m.0.place ≡ true = (order_back scene set m.0 other.0).3 in
        let same : m.0.place ≡ p =
        together.exclusive m.0.place p r.0 member inside parts.1 (claims_it scene p r.0 r.1) in
        true≢false (sym (eq-eqb m.0.place p same) ∙ not-true (m.0.place == p) parts.0)

    never_other_mode : (p : ℕ) (c : Cause) → set p ≡ true → fault_of_kind scene set set fault_kind.Mode p ≡ Some c → ⊥
    never_other_mode p c inside told =
        let r = first_of-some (λ i. cause_if (is_mode_taken scene set i) (cause.ModeRefused (joint_name i)))
        (described scene p).claims c told in
        let taken : is_mode_taken scene set r.0 ≡ true =
        passed (is_mode_taken scene set r.0) (cause.ModeRefused (joint_name r.0)) c r.2 in
        let l = some_of (λ (l : Seen). set l.place && list_any (is_beside r.0) (described scene l.place).claims)
        scene.loaded taken in
        let parts = and_parts (set l.0.place) (list_any (is_beside r.0) (described scene l.0.place).claims) l.2 in
        let other = some_of (is_beside r.0) (described scene l.0.place).claims parts.1 in
        true≢false (sym other.2
        ∙ together.one_mode p l.0.place r.0 other.0 inside parts.0 (claims_it scene p r.0 r.1)
        (claims_it scene l.0.place other.0 other.1))

    none_lasts : (kind : FaultKind) (p : ℕ) (c : Cause) → Contains lasting_kinds kind → set p ≡ true
        → fault_of_kind scene set set kind p ≡ Some c → ⊥
    none_lasts kind p c listed inside told =
        elim (first_or_later fault_kind.Follower (fault_kind.Conflict ∷ fault_kind.Mode ∷ []) kind listed) [
          | inl first ↦ never_missing p c inside (ap (λ k. fault_of_kind scene set set k p) first ∙ told)
          | inr later ↦
              elim (first_or_later fault_kind.Conflict (fault_kind.Mode ∷ []) kind later) [
                | inl second ↦ never_rival p c inside (ap (λ k. fault_of_kind scene set set k p) second ∙ told)
                | inr last ↦
                    elim (first_or_later fault_kind.Mode [] kind last) [
                      | inl third ↦ never_other_mode p c inside (ap (λ k. fault_of_kind scene set set k p) third ∙ told)
                      | inr none ↦ none_inside kind none
                    ]
              ]
        ]

-- So what can never be cannot run together, whatever the lifecycle states of the components are.
pub never_together : (d : Description) (lives : List Life) (places : List ℕ) (because : Dropped)
    → never d places ≡ Some because → CanRunTogether d lives (is_wanted places) → ⊥
never_together d lives places because told together =
    let scene = best_scene d places in
    let set = is_wanted places in
    let kind = first_of-some (λ kind. first_of (fault_beside scene set kind) (order scene set)) lasting_kinds because
    told in
    let m = first_of-some (fault_beside scene set kind.0) (order scene set) because kind.2 in
    let c = map_some (with_name (described scene m.0.place).name) (fault_of_kind scene set set kind.0 m.0.place) because
    m.2 in
    none_lasts scene lives set together kind.0 m.0.place c.0 kind.1 (order_back scene set m.0 m.1).3 c.1

-- ---- Along a history

-- each state of a legal history of a valid description is steady
pub steady_after : (history : List Entry) (s : State) → IsValid s.description → IsSteady s → LegalFrom s history
    → IsSteady (state_after s history)
steady_after [] s valid steady legal = steady
steady_after (e ∷ history) s valid steady legal =
    let first = step_of (step s e.who e.call) e.reply (λ each. LegalFrom each history) legal in
    let made : State × Reply = (first.0, e.reply) in
    rw (first.1, state_after)
    (steady_after history first.0 (subst IsValid (sym (step-Stands s e.who e.call made first.1).description) valid)
    (step_steady s e.who e.call made valid steady first.1) first.2)

-- No legal history has what can never be.
pub never_had : (d : Description) (blanks : Blanks) (sessions : ℕ) (history : List Entry) (places : List ℕ)
    (because : Dropped) → IsValid d → never d places ≡ Some because
    → IsLegal d blanks sessions history → AreActive places (state_after (boot d blanks sessions) history) → ⊥
never_had d blanks sessions history places because valid told legal are =
    let s = state_after (boot d blanks sessions) history in
    let steady : IsSteady s =
    steady_after history (boot d blanks sessions) valid (boot_steady d blanks sessions) legal in
    let its : s.description ≡ d = description_stays history (boot d blanks sessions) in
    let set : active s ≡ is_wanted places = fun_ext are in
    never_together d s.lives places because told
    (subst (CanRunTogether d s.lives) set (subst (λ e. CanRunTogether e s.lives (active s)) its steady.together))
