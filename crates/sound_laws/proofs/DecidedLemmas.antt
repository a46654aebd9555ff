-- A request is decided rightly: done whole, or refused with a cause that is true and no change.
use Rattle.std.proofs.Common.{◌≡◌, ℕ, ◌<◌, Bool, true, false, List, [], ◌∷◌, ◌++◌, length, map}
use Rattle.std.proofs.Common.{Option, Some, None, inl, inr, refl, sym, ◌∙◌, subst, ap, arith}
use Rattle.std.specs.Prelude.{◌==◌, ◌&&◌, ◌||◌, not, if◌then◌else◌, find, position, is_some, option_map, slice_set}
use Rattle.std.specs.Option.{option_map_or}
use Rattle.std.proofs.Math.Path.{fun_ext}
use Rattle.std.proofs.lemmas.Bool.{and_from, and_parts}
use Rattle.std.proofs.lemmas.List.Quantifiers.{position-Some}
use Rattle.std.proofs.lemmas.Slice.Eq.{bytes_eq-Decides}
use Rattle.std.proofs.lemmas.Option.{same_Some}
use Rattle.iface_names.specs.Names.{same_name}
use Rattle.cm_document.specs.declared.call.Call.{Call}
use Rattle.cm_document.specs.declared.call.Call.TheVariants.{Begin}
use Rattle.cm_document.specs.Picks.{flat, picked_names}
use Rattle.cm_document.specs.declared.call.Pick.{Pick}
use Rattle.cm_document.specs.declared.call.Pick.TheVariants.{One}
use Rattle.cm_document.specs.declared.call.SwitchRequest.{SwitchRequest}
use Rattle.cm_document.specs.declared.description.CompDesc.{CompDesc}
use Rattle.cm_document.specs.declared.life.Life.{Life}
use Rattle.cm_model.proofs.CommitLemmas.{scene_active}
use Rattle.cm_model.proofs.StayLemmas.{IsStep}
use Rattle.cm_model.specs.BestEffort.{best, flat_decided, decided}
use Rattle.cm_model.specs.Boundary.{waiting, standing_in, after_standing_in, after_fallbacks, with_switch}
use Rattle.cm_model.specs.Boundary.{component_place, user_of, life_at, move_fault, with_move_unless, with_move}
use Rattle.cm_model.specs.Boundary.{Concluded, concluded, with_outcome, all_concluded, begin_effect, begin_reply}
use Rattle.cm_model.specs.CauseIsTrue.{is_used_by, is_true_of_move, strict_set}
use Rattle.cm_model.specs.Claims.{uses}
use Rattle.cm_model.specs.Commit.{described_of, scene_of, commit}
use Rattle.cm_model.specs.Components.{is_available, has_move}
use Rattle.cm_model.specs.Cycle.{active_order, is_due_now, without_mail_off, moved, begun}
use Rattle.cm_model.specs.Deciding.{lasting, NothingChanges, HasSwitched, asked_set, WholeOrNothing}
use Rattle.cm_model.specs.Deciding.{IsDoneInPart, AsMuchAsCanBe, IsSwitchDecided, HasMoved, MovedOrNothing}
use Rattle.cm_model.specs.Deciding.{IsDecidedRightly, IsDecision, without_mail, apart_from_mail, AreDecided}
use Rattle.cm_model.specs.Faults.{cause_if}
use Rattle.cm_model.specs.Loans.{CanRunTogether}
use Rattle.cm_model.specs.Order.{Places}
use Rattle.cm_model.specs.Scene.{named}
use Rattle.cm_model.specs.Sound.{outcomes_in, AreStoodIn, DecidesRightly}
use Rattle.cm_model.specs.State.{State, Loaded, is_active, active}
use Rattle.cm_model.specs.Steady.{IsInOrder, IsSteady}
use Rattle.cm_model.specs.Switches.{Decided, refused, done, strict}
use Rattle.cm_model.specs.declared.cause.Cause.{Cause}
use Rattle.cm_model.specs.declared.cause.Cause.TheVariants as cause
use Rattle.cm_model.specs.declared.cause.Dropped.{Dropped}
use Rattle.cm_model.specs.declared.cause.Outcome.{Outcome}
use Rattle.cm_model.specs.declared.cause.Outcome.TheVariants as outcome
use Rattle.cm_model.specs.declared.reply.Reply.{Reply}
use Rattle.cm_model.specs.declared.request.Request.{Request}
use Rattle.cm_model.specs.declared.request.Request.TheVariants as request
use Rattle.switch_plan.proofs.CauseLemmas.{counts_true}
use Rattle.switch_plan.proofs.DecisionLemmas.{strict_done, strict_refused}
use Rattle.switch_plan.proofs.ElementLemmas.{or_some, map_some, any_from, found}
use Rattle.sound_laws.proofs.ActiveLemmas.{from_active_order}
use Rattle.sound_laws.proofs.BestLemmas.{leaving, effort, effort_together, effort_params, best_came}
use Rattle.sound_laws.proofs.BestLemmas.{best_asked_off, best_left, not_staying, idle_not_staying}
use Rattle.sound_laws.proofs.BoundaryLemmas.{concluded_steady, outcome_steady, emptied_steady, standing_steady}
use Rattle.sound_laws.proofs.MomentLemmas.{moment_of}
use Rattle.sound_laws.proofs.MovedLemmas.{move_lasts, component_moved}
use Rattle.sound_laws.proofs.ParamsLemmas.{HaveParams, params_loaded, params_configured}
use Rattle.sound_laws.proofs.StrictLemmas.{params, strict_either}
use Rattle.sound_laws.proofs.SwitchedLemmas.{map_leaves, commit_lasts, commit_switched}
use Rattle.sound_laws.proofs.TicketLemmas.{concluded_keeps, outcomes_from, waiting_stays, begin_outcomes}

-- what has an outcome more is as it was
unchanged : (s : State) (became : Outcome) → NothingChanges s (with_outcome (record { state = s; outcome = became }))
unchanged s became = record { loaded = refl; lives = refl; values = refl }

-- ---- Switches

-- the outcome stands in the state that was switched, too
told_switched : (s : State) (set again : Places) (c : Concluded) → HasSwitched s set again c.state
    → HasSwitched s set again (with_outcome c)
told_switched s set again c switched =
    record {
      set_is = switched.set_is;
      controllers = switched.controllers;
      values = switched.values;
      lives =
          switched.lives;
    }

module _ (s : State) (steady : IsSteady s) (r : SwitchRequest) where
  -- its lists, made flat
  abbrev off : List Pick
  off = flat s.description r.off

  abbrev on : List Pick
  on = flat s.description r.on

  -- a set of which each has parameters comes to be active
  set_switched : (set again : Places) → HaveParams s.loaded set → HasSwitched s set again (commit s set again)
  set_switched set again have =
      commit_switched s set again steady.in_order (params_loaded s.loaded set have)
      (params_configured s set steady.in_order have)

  -- the set of the scene is the one that is asked for
  asked_is : strict_set (scene_of s) (picked_names off) (picked_names on) ≡ asked_set s r
  asked_is = ap
      (λ (f : Places). λ (p : ℕ). (f p && not (named (scene_of s) (picked_names off) p))
      || named (scene_of s) (picked_names on) p) (scene_active s steady.in_order.own)

  -- that the decision is whole or nothing
  abbrev IsRight : Decided → Type 0
  IsRight d = WholeOrNothing s r (with_outcome (with_switch s d)) (with_switch s d).outcome

  strict_right : IsRight (strict (scene_of s) off on)
  strict_right =
      elim (strict_either (scene_of s) off on) [
        | inl whole ↦
            let can = (strict_done (scene_of s) off on).0 whole in
            let set = strict_set (scene_of s) (picked_names off) (picked_names on) in
            let again : Places =
            λ p. named (scene_of s) (picked_names off) p && named (scene_of s) (picked_names on) p in
            subst IsRight (sym whole) (
              refl,
              subst (λ f. HasSwitched s f again (with_outcome (with_switch s (done [] set again)))) asked_is
                  (told_switched s set again (with_switch s (done [] set again))
                  (set_switched set again (params s steady off on can))),
            )
        | inr (d, refuses) ↦
            subst IsRight (sym refuses) (
              unchanged s (outcome.Refused d.name d.cause),
              counts_true (scene_of s) r.off r.on d (strict_refused (scene_of s) off on d refuses),
            )
      ]

  -- of a best effort, which leads to this set, once these were dropped of its lists
  module _ (before dropped : List Dropped) where
    abbrev set : Places
    set = effort s steady off on before

    abbrev again : Places
    again p = leaving s steady off on p && set p

    -- whichever state it reaches
    in_part_at : (reached : State) → HasSwitched s set again reached → IsDoneInPart s r reached
    in_part_at reached switched =
        let active_is : active reached ≡ set = fun_ext switched.set_is in
        record {
          again = again;
          named_again = λ p both.
              let parts = and_parts (leaving s steady off on p) (set p) both in
              and_from (named (scene_of s) (picked_names off) p) (named (scene_of s) (picked_names on) p)
              (best_asked_off s steady off on p parts.0)
              (best_came s steady off on before p parts.1 (not_staying s steady off on p parts.0));
          switched = subst (λ f. HasSwitched s f again reached) (sym active_is) switched;
          together = subst (CanRunTogether s.description s.lives) (sym active_is)
              (effort_together s steady off on before);
          came = λ p idle runs. best_came s steady off on before p (sym (switched.set_is p) ∙ runs)
              (idle_not_staying s steady off on p idle);
          left = λ p ran gone. best_asked_off s steady off on p
              (best_left s steady off on before p ran (sym (switched.set_is p) ∙ gone));
        }

    effort_switched : HasSwitched s set again (with_switch s (done dropped set again)).state
    effort_switched = set_switched set again (effort_params s steady off on before)

    in_part : IsDoneInPart s r (with_outcome (with_switch s (done dropped set again)))
    in_part = in_part_at _ (told_switched s set again (with_switch s (done dropped set again)) effort_switched)

    untold_in_part : IsDoneInPart s r (with_switch s (done dropped set again)).state
    untold_in_part = in_part_at _ effort_switched

  best_right : AsMuchAsCanBe s r (with_outcome (with_switch s (best (scene_of s) off on)))
      (with_switch s (best (scene_of s) off on)).outcome
  best_right = in_part _ _

  -- and so it is of a best effort that no request asked for
  pub best_untold : IsDoneInPart s r (with_switch s (best (scene_of s) off on)).state
  best_untold = untold_in_part _ []

  switch_right : IsSwitchDecided r.strict s r (with_outcome (with_switch s (decided (scene_of s) r)))
      (with_switch s (decided (scene_of s) r)).outcome
  switch_right = either r.strict
    where
      either : (b : Bool) → IsSwitchDecided b s r (with_outcome (with_switch s (flat_decided (scene_of s) b off on)))
          (with_switch s (flat_decided (scene_of s) b off on)).outcome
      either true = strict_right
      either false = best_right

-- ---- Hardware requests

-- what is found stands in the list
position_within : {A : Type 0} (test : A → Bool) (xs : List A) (k : ℕ) → position test xs ≡ Some k → k < length xs
position_within test [] k at = cc
position_within test (x ∷ xs) k at = (position-Some test (x ∷ xs) k x at).0

-- who is told as the user is one
user_uses : (s : State) (component : ℕ) (name : List ℕ) → user_of s component ≡ Some name
    → is_used_by s component name ≡ true
user_uses s component name told =
    let test : Loaded → Bool = λ (l : Loaded). uses s.description.components (λ k. k == component) (described_of s l) in
    let m = map_some (λ (l : Loaded). (described_of s l).name) (find test (active_order s)) name told in
    let here = found test (active_order s) m.0 m.1 in
    let from = from_active_order s m.0 here.0 in
    any_from (λ (l : Loaded). (is_active l && same_name (described_of s l).name name)
    && uses s.description.components (λ k. k == component) (described_of s l)) s.loaded m.0 from.0
    (and_from (is_active m.0 && same_name (described_of s m.0).name name) (test m.0)
    (and_from (is_active m.0) (same_name (described_of s m.0).name name) from.1
    ((bytes_eq-Decides (described_of s m.0).name name).1 m.2)) here.1)

-- a cause that is given passes its test
given : (b : Bool) (c d : Cause) → cause_if b c ≡ Some d → (b ≡ true) × (c ≡ d)
given true c d e = (refl, same_Some c d e)
given false c d e = cc

given_unless : (b : Bool) (o : Option Cause) (d : Cause) → (if b then None else o) ≡ Some d → (b ≡ false) × (o ≡ Some d)
given_unless true o d e = cc
given_unless false o d e = (refl, e)

module _ (s : State) (name : List ℕ) (target : Life) (component : ℕ)
    (at : component_place s.description name ≡ Some component) where
  fault_true : (c : Cause) → move_fault s component target ≡ Some c → is_true_of_move s name target c ≡ true
  fault_true c is =
      elim (or_some (cause_if (not (has_move (life_at s component) target)) cause.NoSuchMove)
      (if is_available target then None else option_map (λ name. cause.InUse name) (user_of s component)) c is) [
        | inl this ↦
            let no = given (not (has_move (life_at s component) target)) cause.NoSuchMove c this in
            subst (λ d. is_true_of_move s name target d ≡ true) no.1
            (ap (λ o. option_map_or (λ k. not (has_move (life_at s k) target)) o false) at ∙ no.0)
        | inr this ↦
            let down = given_unless (is_available target) (option_map (λ name. cause.InUse name) (user_of s component))
            c this in
            let user = map_some (λ name. cause.InUse name) (user_of s component) c down.1 in
            subst (λ d. is_true_of_move s name target d ≡ true) user.2
            (ap (λ o. option_map_or (λ k. not (is_available target) && is_used_by s k user.0) o false) at
            ∙ and_from (not (is_available target)) (is_used_by s component user.0) (ap not down.0)
            (user_uses s component user.0 user.1))
      ]

  -- the component comes to its target
  comes : IsInOrder s → HasMoved s component target (moved s (slice_set s.lives component target))
  comes kept =
      let there : component < length s.description.components =
      position_within (λ (c : CompDesc). same_name c.name name) s.description.components component at in
      let as_many : length s.lives ≡ length s.description.components = kept.counted in
      component_moved s component target (omega (arith, as_many, there)) kept

  -- and so does one that has an outcome more
  told_moved : (c : Concluded) → HasMoved s component target c.state → HasMoved s component target (with_outcome c)
  told_moved c moves =
      record {
        loaded = moves.loaded;
        as_many = moves.as_many;
        moved = moves.moved;
        others = moves.others;
        values =
            moves.values;
      }

  moved_right : IsInOrder s → (o : Option Cause) → move_fault s component target ≡ o
      → MovedOrNothing s name target (with_outcome (with_move_unless s name component target o))
      (with_move_unless s name component target o).outcome
  moved_right kept None none =
      (refl, (component, at, told_moved (with_move_unless s name component target None) (comes kept)))
  moved_right kept (Some c) is = (refl, unchanged s (outcome.Refused name c), fault_true c is)

move_right : (s : State) → IsInOrder s → (name : List ℕ) (target : Life) (o : Option ℕ)
    → component_place s.description name ≡ o
    → MovedOrNothing s name target (with_outcome (with_move s name target o)) (with_move s name target o).outcome
move_right s kept name target None at =
    (refl, unchanged s (outcome.Refused name cause.Unknown), ap (λ o. not (is_some o)) at)
move_right s kept name target (Some component) at =
    moved_right s name target component at kept (move_fault s component target) refl

-- ---- What stays

switch_lasts : (s : State) (d : Decided) → lasting (with_switch s d).state ≡ lasting s
switch_lasts s (refused because) = refl
switch_lasts s (done dropped set again) = commit_lasts s set again

move_unless_lasts : (s : State) (name : List ℕ) (component : ℕ) (target : Life) (o : Option Cause)
    → lasting (with_move_unless s name component target o).state ≡ lasting s
move_unless_lasts s name component target None = move_lasts s (slice_set s.lives component target)
move_unless_lasts s name component target (Some c) = refl

place_lasts : (s : State) (name : List ℕ) (target : Life) (o : Option ℕ)
    → lasting (with_move s name target o).state ≡ lasting s
place_lasts s name target None = refl
place_lasts s name target (Some component) = move_unless_lasts s name component target (move_fault s component target)

concluded_lasts : (s : State) (r : Request) → lasting (concluded s r).state ≡ lasting s
concluded_lasts s (request.Switch r) = switch_lasts s (decided (scene_of s) r)
concluded_lasts s (request.Hardware component target) =
    place_lasts s component target (component_place s.description component)

-- ---- All that wait

decided_right : (s : State) (r : Request) → IsSteady s
    → IsDecidedRightly s r (with_outcome (concluded s r)) (concluded s r).outcome
decided_right s (request.Switch r) steady = switch_right s steady r
decided_right s (request.Hardware component target) steady =
    move_right s steady.in_order component target (component_place s.description component) refl

decision : (s : State) (r : Request) → IsSteady s
    → IsDecision s r (concluded s r).outcome (with_outcome (concluded s r))
decision s r steady = record {
  outcomes = ap (λ (os : List Outcome). os ++ (concluded s r).outcome ∷ []) (concluded_keeps s r);
  same = concluded_lasts s r;
  rightly = decided_right s r steady;
}

-- a begin changes no more than mail after that
begun_apart : (s : State) → apart_from_mail (begun s) ≡ apart_from_mail s
begun_apart s =
    ap (λ (ls : List Loaded). record s { loaded = ls; aloft = false; mails = [] })
    (map_leaves without_mail (without_mail_off s) (λ l. either l (is_active l && is_due_now s l)) s.loaded)
  where
    either : (l : Loaded) (b : Bool) → without_mail (if b then record l { mail = None } else l) ≡ without_mail l
    either l true = refl
    either l false = refl

all_decided : (s : State) (rs : List Request) → IsSteady s
    → AreDecided s rs (outcomes_from s rs) (begun (all_concluded s rs))
unfolding all_concluded
all_decided s [] steady = begun_apart s
all_decided s (r ∷ rs) steady = (
  with_outcome (concluded s r),
  decision s r steady,
  all_decided (with_outcome (concluded s r)) rs (outcome_steady (concluded s r) (concluded_steady s r steady)),
)

-- Those that are to stand in come as far as they can.
stand_in_right : (s : State) (names : List (List ℕ)) → IsSteady s → AreStoodIn s names (after_standing_in s names)
stand_in_right s [] steady = refl
stand_in_right s (name ∷ names) steady =
    let emptied = record s { fallbacks = [] } in
    let asked = standing_in (name ∷ names) in
    record {
      switched = best_untold emptied (emptied_steady s steady)
          (record { on = map One (name ∷ names); off = []; strict = false });
      same = concluded_lasts emptied asked;
      outcomes = concluded_keeps emptied asked;
    }

-- Each begin asks for those that are to stand in, decides all that waited rightly, and tells so.
pub begin_decides : (s : State) → IsSteady s
    → (stood : State) × AreStoodIn s s.fallbacks stood
    × AreDecided stood (waiting s) (outcomes_in (begin_reply s)) (begin_effect s)
begin_decides s steady =
    let stood = after_fallbacks s in (
      stood,
      stand_in_right s s.fallbacks steady,
      subst (λ os. AreDecided stood (waiting s) os (begin_effect s)) (sym (begin_outcomes s))
          (subst (λ (rs : List Request). AreDecided stood rs (outcomes_from stood (waiting stood)) (begin_effect s))
          (waiting_stays s)
          (all_decided stood (waiting stood) (standing_steady s s.fallbacks steady))),
    )

-- So does each that is made.
pub decides_rightly : (s : State) (call : Call) (made : State × Reply) → IsSteady s → IsStep s call made
    → DecidesRightly (moment_of s call made) call
decides_rightly s (Begin number) made steady is =
    let decides = begin_decides s steady in (
      decides.0,
      decides.1,
      subst (λ t. AreDecided decides.0 (waiting s) (outcomes_in made.1) t) (sym is.next)
          (subst (λ answer. AreDecided decides.0 (waiting s) (outcomes_in answer) (begin_effect s))
          (same_Some (begin_reply s) made.1 is.replied) decides.2),
    )
decides_rightly s _ made steady is = tt
