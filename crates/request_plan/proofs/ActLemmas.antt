-- What is concluded of a request, and what is seen after it.
use Rattle.std.proofs.Common.{◌≡◌, ℕ, suc, ◌<◌, Bool, true, false, List, [], length, map, slice_set}
use Rattle.std.proofs.Common.{Option, Some, None, inl, inr, refl, sym, subst, ap, ap₂, ◌∙◌, true≢false}
use Rattle.std.specs.Prelude.{◌==◌, ◌&&◌, ◌||◌, not, if◌then◌else◌, filter, slice_index_or}
use Rattle.std.specs.List.{All, IsDistinct}
use Rattle.std.proofs.lemmas.List.{length-set}
use Rattle.std.proofs.lemmas.List.Elements.{All-map}
use Rattle.cm_document.proofs.DistinctLemmas.{all_so}
use Rattle.cm_document.specs.Picks.{flat}
use Rattle.cm_document.specs.declared.call.Pick.{Pick}
use Rattle.cm_document.specs.declared.call.SwitchRequest.{SwitchRequest}
use Rattle.cm_document.specs.declared.description.Description.{Description}
use Rattle.cm_document.specs.declared.life.Life.{Life}
use Rattle.cm_document.specs.declared.life.Life.TheVariants.{Unconfigured, Inactive, Active}
use Rattle.cm_model.proofs.CommitLemmas.{scene_active}
use Rattle.cm_model.specs.BestEffort.{best, flat_decided, decided, plan_of}
use Rattle.std.specs.Option.{option_or}
use Rattle.sequence.proofs.ListLemmas.{filter_map_swapped, map_twice}
use Rattle.cm_model.specs.Components.{has_move}
use Rattle.cm_model.specs.Faults.{cause_if}
use Rattle.cm_model.specs.Boundary.{component_place, life_at, move_fault, with_switch}
use Rattle.cm_model.specs.Boundary.{with_move_unless, with_move, Concluded, concluded}
use Rattle.cm_model.specs.Commit.{seen, scene_of, commit}
use Rattle.cm_model.specs.Cycle.{active_order, member_of, moved}
use Rattle.cm_model.specs.Order.{Places, set_of, depth, in_order}
use Rattle.cm_model.specs.Scene.{Scene, is_running, is_chained_in, member}
use Rattle.cm_model.specs.Sound.{CanRunTogether}
use Rattle.cm_model.specs.State.{State, Loaded, life_of, is_active, active}
use Rattle.cm_model.specs.Steady.{IsOwn, AreLoaded, AreConfigured, IsSteady}
use Rattle.cm_model.specs.Switches.{Decided, refused, done, strict, is_stopped, is_started, planned}
use Rattle.cm_model.specs.declared.cause.Cause.{Cause}
use Rattle.cm_model.specs.declared.cause.Cause.TheVariants as cause
use Rattle.cm_model.specs.declared.cause.Dropped.{Dropped}
use Rattle.cm_model.specs.declared.cause.Outcome.TheVariants as outcome
use Rattle.cm_model.specs.declared.member.Member.{Member}
use Rattle.cm_model.specs.declared.planned.Planned.{Planned}
use Rattle.cm_model.specs.declared.request.Request.TheVariants as request
use Rattle.cm_model.specs.declared.seen.Seen.{Seen}
use Rattle.sound_laws.proofs.BestLemmas.{best_together, best_params}
use Rattle.sound_laws.proofs.ParamsLemmas.{HaveParams, params_loaded, params_configured}
use Rattle.sound_laws.proofs.StrictLemmas as stricts
use Rattle.sound_laws.proofs.StrictLemmas.{seen_loaded, strict_either, strict_together}
use Rattle.chain_order.proofs.RunLemmas.{by_rank_map}
use Rattle.switch_plan.proofs.DecisionLemmas.{strict_done}
use Rattle.switch_plan.specs.View as views
use Rattle.switch_plan.specs.declared.view.View.{View}
use Rattle.request_plan.proofs.ListLemmas.{filter_alike}
use Rattle.request_plan.proofs.SetLemmas.{stopped_of, started_of, set_between}
use Rattle.request_plan.proofs.SituationLemmas.{runs_in_scene, loaded_shown}
use Rattle.request_plan.specs.Acts.{HaveFlags, AreSetsOf, is_carried_out, IsPlannedAct, IsSwitchOf, IsActOf}
use Rattle.request_plan.specs.Acts.{IsConclusionOf, seen_after, loaded_after, lives_after, IsActWithin}
use Rattle.request_plan.specs.Moves.{IsMoveFault}
use Rattle.request_plan.specs.Situations.{scene_with, IsSituation, IsSeenOf, of_serials, running}
use Rattle.request_plan.specs.declared.acts.Act.{Act}
use Rattle.request_plan.specs.declared.acts.Act.TheVariants as act
use Rattle.request_plan.specs.declared.acts.Conclusion.{Conclusion}
use Rattle.request_plan.specs.declared.acts.Switched.{Switched}
use Rattle.request_plan.specs.declared.situation.Situation.{Situation}

-- ---- What is seen of a state

module _ (s : State) (d : Description) (situation : Situation) (is : IsSeenOf s d situation) where
  pub of_description : s.description ≡ d
  of_description = ap (λ (scene : Scene). scene.description) is.scene

  pub of_loaded : map (seen s) s.loaded ≡ situation.loaded.items
  of_loaded = ap (λ (scene : Scene). scene.loaded) is.scene

  pub of_lives : s.lives ≡ situation.lives.items
  of_lives = ap (λ (scene : Scene). scene.components) is.scene

  -- the serials of what is seen differ
  pub seen_once : IsDistinct (λ m n. m == n) (map (λ l. l.serial) situation.loaded.items)
  seen_once = subst (IsDistinct (λ m n. m == n))
      (sym (map_twice (seen s) (λ (l : Seen). l.serial) s.loaded) ∙ ap (map (λ (l : Seen). l.serial)) of_loaded) is.once

-- of a steady state is seen what its parts are
seen_from : (t : State) (d : Description) (situation : Situation) → IsSteady t → t.description ≡ d
    → map (seen t) t.loaded ≡ situation.loaded.items → t.lives ≡ situation.lives.items
    → IsDistinct (λ m n. m == n) (map (λ l. l.serial) situation.loaded.items) → IsSeenOf t d situation
seen_from t d situation steady described loaded lives once = record {
  steady = steady;
  once = subst (IsDistinct (λ m n. m == n))
      (sym (ap (map (λ (l : Seen). l.serial)) loaded) ∙ map_twice (seen t) (λ (l : Seen). l.serial) t.loaded) once;
  scene = ap₂ (λ (d : Description) (rest : List Seen × List Life). scene_with d rest.0 rest.1) described
      (ap₂ (λ (xs : List Seen) (ys : List Life). (xs, ys)) loaded lives);
}

-- ---- What is seen after an act

module _ (s : State) (d : Description) (situation new : Situation) (is : IsSeenOf s d situation) where
  after_switch : (after : State) (c : Switched) → IsSwitchOf s after c → IsSteady after
      → new.loaded.items ≡ map (seen_after c) situation.loaded.items
      → new.lives.items ≡ situation.lives.items → IsSeenOf after d new
  unfolding commit
  after_switch after c of steady loaded lives =
      let set : Places = set_of c.set in
      let shown = loaded_shown s set of.again is.steady.in_order of.loaded of.configured in
      let changes : (λ (l : Seen). record l {
        life = if is_started (scene_of s) set of.again l.place then Active
            else (if is_stopped (scene_of s) set of.again l.place then Inactive else l.life);
        chained = set l.place && is_chained_in s.description.controllers set l.place;
      }) ≡ seen_after c =
      ap₂ {C = Seen → Seen} (λ (sets : Places × Places) (chained : Places) (l : Seen). record l {
        life = if sets.0 l.place then Active else (if sets.1 l.place then Inactive else l.life);
        chained = set l.place && chained l.place;
      }) (ap₂ (λ (a b : Places). (a, b)) (sym of.started) (sym of.stopped)) (sym of.chained) in
      let seen_then : map (seen (commit s set of.again)) (commit s set of.again).loaded ≡ new.loaded.items =
      shown ∙ ap₂ (λ (f : Seen → Seen) xs. map f xs) changes (of_loaded s d situation is) ∙ sym loaded in
      let serials : map (λ (l : Seen). l.serial) new.loaded.items
      ≡ map (λ (l : Seen). l.serial) situation.loaded.items =
      ap (map (λ (l : Seen). l.serial)) loaded
      ∙ map_twice (seen_after c) (λ (l : Seen). l.serial) situation.loaded.items in
      subst (λ t. IsSeenOf t d new) (sym of.is)
      (seen_from (commit s set of.again) d new (subst IsSteady of.is steady) (of_description s d situation is) seen_then
      (of_lives s d situation is ∙ sym lives)
      (subst (IsDistinct (λ m n. m == n)) (sym serials) (seen_once s d situation is)))

  -- What is seen after an act is the situation that follows it.
  pub followed : (after : State) (a : Act) → IsActOf s after a → IsSteady after
      → new.loaded.items ≡ loaded_after a situation.loaded.items
      → new.lives.items ≡ lives_after a situation.lives.items → IsSeenOf after d new
  followed after act.Nothing of steady loaded lives =
      subst (λ t. IsSeenOf t d new) (sym of)
      (seen_from s d new is.steady (of_description s d situation is) (of_loaded s d situation is ∙ sym loaded)
      (of_lives s d situation is ∙ sym lives)
      (subst (λ ls. IsDistinct (λ m n. m == n) (map (λ (l : Seen). l.serial) ls)) (sym loaded)
      (seen_once s d situation is)))
  followed after (act.Switch c) of steady loaded lives = after_switch after c of steady loaded lives
  followed after (act.Move component target) of steady loaded lives =
      subst (λ t. IsSeenOf t d new) (sym of.is)
      (seen_from (moved s (slice_set s.lives component target)) d new (subst IsSteady of.is steady)
      (of_description s d situation is) (of_loaded s d situation is ∙ sym loaded)
      (ap (λ ls. slice_set ls component target) (of_lives s d situation is) ∙ sym lives)
      (subst (λ ls. IsDistinct (λ m n. m == n) (map (λ (l : Seen). l.serial) ls)) (sym loaded)
      (seen_once s d situation is)))

-- and it keeps its places
pub follows : (d : Description) (situation new : Situation) (a : Act) → IsSituation d situation
    → new.loaded.items ≡ loaded_after a situation.loaded.items
    → new.lives.items ≡ lives_after a situation.lives.items → IsSituation d new
follows d situation new act.Nothing stands loaded lives =
    record { within = rw loaded stands.within; counted = rw lives stands.counted }
follows d situation new (act.Switch c) stands loaded lives = record {
  within = rw loaded
      (All-map (λ (l : Seen). l.place < length d.controllers) (seen_after c) situation.loaded.items stands.within);
  counted = rw lives stands.counted;
}
follows d situation new (act.Move component target) stands loaded lives = record {
  within = rw loaded stands.within;
  counted = rw lives (length-set situation.lives.items component target ∙ stands.counted);
}

-- ---- A switch

-- the set to which a switch leads that is done is of controllers with parameters, which can run together
pub record IsFit (s : State) (set : Places) : Type 0 where
  pub params : HaveParams s.loaded set
  pub together : CanRunTogether s.description s.lives set

-- the set of a decision that is done
abbrev set_in : Decided → Places
set_in (refused d) = λ p. false
set_in (done dropped set again) = set

strict_fit : (s : State) → IsSteady s → (off on : List Pick) (dropped : List Dropped) (set again : Places)
    → strict (scene_of s) off on ≡ done dropped set again → IsFit s set
strict_fit s steady off on dropped set again is =
    elim (strict_either (scene_of s) off on) [
      | inl whole ↦
          let can = (strict_done (scene_of s) off on).0 whole in
          let same = ap set_in (sym whole ∙ is) in
          record {
            params = subst (HaveParams s.loaded) same (stricts.params s steady off on can);
            together = subst (CanRunTogether s.description s.lives) same (strict_together s steady off on can);
          }
      | inr (d, refuses) ↦ absurd (refused_done d dropped set again (sym refuses ∙ is))
    ]
  where
    is_refused : Decided → Bool
    is_refused (refused d) = true
    is_refused (done dropped set again) = false

    refused_done : (d : Dropped) (dropped : List Dropped) (set again : Places) → refused d ≡ done dropped set again → ⊥
    refused_done d dropped set again e = true≢false (ap is_refused e)

pub done_fit : (s : State) → IsSteady s → (r : SwitchRequest) (dropped : List Dropped) (set again : Places)
    → decided (scene_of s) r ≡ done dropped set again → IsFit s set
done_fit s steady r dropped set again = either r.strict
  where
    off : List Pick
    off = flat s.description r.off

    on : List Pick
    on = flat s.description r.on

    either : (whole : Bool) → flat_decided (scene_of s) whole off on ≡ done dropped set again → IsFit s set
    either true is = strict_fit s steady off on dropped set again is
    either false is = record {
      params = best_params s steady off on dropped set again is;
      together = best_together s steady off on dropped set again is;
    }

module _ (s : State) (d : Description) (situation : Situation) (is : IsSeenOf s d situation) (r : SwitchRequest)
    (plan : Planned) (planned_so : plan ≡ plan_of (scene_with d situation.loaded.items situation.lives.items) r) where
  -- the plan is that of the state
  of_state : plan ≡ plan_of (scene_of s) r
  of_state = planned_so ∙ ap (λ scene. plan_of scene r) (sym is.scene)

  -- A switch that is refused changes nothing.
  pub switch_refused : is_carried_out plan.outcome ≡ false
      → IsConclusionOf s (request.Switch r) (record { outcome = plan.outcome; act = act.Nothing })
  switch_refused refuses =
      let made = of (decided (scene_of s) r) of_state in
      record { outcome = made.0; act = made.1 }
    where
      of : (e : Decided) → plan ≡ planned (scene_of s) e
          → (plan.outcome ≡ (with_switch s e).outcome) × IsActOf s (with_switch s e).state act.Nothing
      of (refused because) so = (ap (λ (p : Planned). p.outcome) so, refl)
      of (done dropped set again) so =
          absurd (true≢false (sym (ap (λ (p : Planned). is_carried_out p.outcome) so) ∙ refuses))

  module _ (c : Switched) (flags : HaveFlags (length d.controllers) c)
      (sets : AreSetsOf situation.loaded.items plan.off plan.on c)
      (chained : set_of c.chained ≡ is_chained_in d.controllers (set_of c.set)) where
    -- the sets are those of the decision
    done_so : (dropped : List Dropped) (set again : Places) → decided (scene_of s) r ≡ done dropped set again
        → plan ≡ planned (scene_of s) (done dropped set again)
        → IsSwitchOf s (commit s set again) c
    done_so dropped set again decides so =
        let fit = done_fit s is.steady r dropped set again decides in
        let scene : Scene = scene_of s in
        let inside = params_loaded s.loaded set fit.params in
        let once : IsDistinct (λ m n. m == n) (map (λ l. l.serial) scene.loaded) =
        subst (λ ls. IsDistinct (λ m n. m == n) (map (λ (l : Seen). l.serial) ls)) (sym (of_loaded s d situation is))
        (seen_once s d situation is) in
        let off : of_serials situation.loaded.items plan.off ≡ is_stopped scene set again =
        ap₂ of_serials (sym (of_loaded s d situation is)) (ap (λ (p : Planned). p.off) so)
        ∙ stopped_of scene once set again in
        let on : of_serials situation.loaded.items plan.on ≡ is_started scene set again =
        ap₂ of_serials (sym (of_loaded s d situation is)) (ap (λ (p : Planned). p.on) so)
        ∙ started_of scene once set again (λ p member. seen_loaded s s.loaded p (inside p member)) in
        let whole : set_of c.set ≡ set =
        sets.set
        ∙ ap₂ {C = Places} (λ (before : Places) (both : Places × Places) p. (before p && not (both.0 p)) || both.1 p)
        (ap running (sym (of_loaded s d situation is)))
        (ap₂ (λ (a b : Places). (a, b)) off on)
        ∙ set_between scene once set again in
        let described = of_description s d situation is in
        record {
          again = again;
          is = ap (λ f. commit s f again) (sym whole);
          stopped = sets.stopped ∙ off ∙ ap (λ f. is_stopped scene f again) (sym whole);
          started = sets.started ∙ on ∙ ap (λ f. is_started scene f again) (sym whole);
          chained = chained ∙ ap (λ (d : Description). is_chained_in d.controllers (set_of c.set)) (sym described);
          flags = subst (λ (d : Description). HaveFlags (length d.controllers) c) (sym described) flags;
          loaded = subst (AreLoaded s.loaded) (sym whole) inside;
          configured =
              subst (AreConfigured s.loaded) (sym whole) (params_configured s set is.steady.in_order fit.params);
          together = subst (CanRunTogether s.description s.lives) (sym whole) fit.together;
        }

    -- A switch that is done makes its set the active one.
    pub switch_done : is_carried_out plan.outcome ≡ true
        → IsConclusionOf s (request.Switch r) (record { outcome = plan.outcome; act = act.Switch c })
    switch_done carried =
        let made = of (decided (scene_of s) r) refl of_state in
        record { outcome = made.0; act = made.1 }
      where
        of : (e : Decided) → decided (scene_of s) r ≡ e → plan ≡ planned (scene_of s) e
            → (plan.outcome ≡ (with_switch s e).outcome) × IsActOf s (with_switch s e).state (act.Switch c)
        of (refused because) decides so =
            absurd (true≢false (sym carried ∙ ap (λ (p : Planned). is_carried_out p.outcome) so))
        of (done dropped set again) decides so =
            (ap (λ (p : Planned). p.outcome) so, done_so dropped set again decides so)

  -- What is done for the plan is what is concluded.
  pub switch_concluded : (a : Act) → IsPlannedAct d situation.loaded.items plan a
      → IsConclusionOf s (request.Switch r) (record { outcome = plan.outcome; act = a })
  switch_concluded act.Nothing so = switch_refused so
  switch_concluded (act.Switch c) so = switch_done c so.1 so.2 so.3 so.0
  switch_concluded (act.Move component target) so = absurd so

-- a switch moves no component
pub switch_within : (d : Description) (loaded : List Seen) (plan : Planned) (count : ℕ) (a : Act)
    → IsPlannedAct d loaded plan a → IsActWithin count a
switch_within d loaded plan count act.Nothing so = tt
switch_within d loaded plan count (act.Switch c) so = tt
switch_within d loaded plan count (act.Move component target) so = absurd so

-- the scene of a view with these parts
pub scene_of_view : (v : View) (d : Description) (loaded : List Seen) (lives : List Life) → v.checked.now ≡ d
    → v.loaded.now ≡ loaded → v.components.now ≡ lives
    → views.scene_of v ≡ scene_with d loaded lives
scene_of_view v d loaded lives described is so =
    ap₂ (λ (d : Description) (rest : List Seen × List Life). scene_with d rest.0 rest.1) described
    (ap₂ (λ (xs : List Seen) (ys : List Life). (xs, ys)) is so)

-- ---- The order of updates

-- Those that run are the active ones, in the order of their updates.
pub order_of : (s : State) (d : Description) (situation : Situation) → IsSeenOf s d situation
    → in_order d.controllers (running situation.loaded.items)
    (map member (filter (λ l. is_running l.life) situation.loaded.items)) ≡ map member_of (active_order s)
order_of s d situation is =
    let cs = s.description.controllers in
    let runs : Loaded → Bool = λ l. is_running (life_of l.ctl) in
    let same : filter runs s.loaded ≡ filter is_active s.loaded =
    filter_alike runs is_active s.loaded
    (all_so (IsOwn cs) (λ l. runs l ≡ is_active l) (λ l own. runs_in_scene l own) s.loaded is.steady.in_order.own) in
    let members : map member (filter (λ l. is_running l.life) situation.loaded.items)
    ≡ map member_of (filter is_active s.loaded) =
    ap (λ xs. map member (filter (λ (l : Seen). is_running l.life) xs)) (sym (of_loaded s d situation is))
    ∙ ap (map member) (filter_map_swapped (λ (l : Seen). is_running l.life) (seen s) s.loaded)
    ∙ map_twice (seen s) member (filter runs s.loaded) ∙ ap (map member_of) same in
    let set : running situation.loaded.items ≡ active s =
    ap running (sym (of_loaded s d situation is)) ∙ scene_active s is.steady.in_order.own in
    ap (λ (d : Description). in_order d.controllers (running situation.loaded.items)
    (map member (filter (λ (l : Seen). is_running l.life) situation.loaded.items)))
    (sym (of_description s d situation is))
    ∙ ap₂ (in_order cs) set members
    ∙ by_rank_map (λ m. depth cs (active s) m.place) member_of (suc (length cs)) (filter is_active s.loaded)

-- the same of a list that is that of the situation
pub order_seen : (s : State) (d : Description) (situation : Situation) → IsSeenOf s d situation → (loaded : List Seen)
    → loaded ≡ situation.loaded.items
    → in_order d.controllers (running loaded) (map member (filter (λ l. is_running l.life) loaded))
    ≡ map member_of (active_order s)
order_seen s d situation is loaded same =
    ap (λ (ls : List Seen). in_order d.controllers (running ls)
    (map member (filter (λ (l : Seen). is_running l.life) ls))) same ∙ order_of s d situation is

-- ---- A move

-- a move that nothing speaks against is one that there is
can_move : (b : Bool) (rest : Option Cause) → option_or (cause_if (not b) cause.NoSuchMove) rest ≡ None → b ≡ true
can_move true rest none = refl
can_move false rest none = cc

module _ (s : State) (d : Description) (situation : Situation) (is : IsSeenOf s d situation) (name : List ℕ)
    (target : Life) where
  -- A move of no described component is refused.
  pub move_unknown : component_place d name ≡ None → (c : Conclusion) → c.outcome ≡ outcome.Refused name cause.Unknown
      → c.act ≡ act.Nothing
      → IsConclusionOf s (request.Hardware name target) c
  move_unknown none c became does =
      let unknown : component_place s.description name ≡ None =
      ap (λ (d : Description). component_place d name) (of_description s d situation is) ∙ none in
      record {
        outcome = became ∙ ap (λ o. (with_move s name target o).outcome) (sym unknown);
        act = subst (IsActOf s (with_move s name target (component_place s.description name)).state) (sym does)
            (ap (λ o. (with_move s name target o).state) unknown);
      }

  module _ (place : ℕ) (at : component_place d name ≡ Some place) (fault : Option Cause)
      (is_fault : fault ≡ move_fault s place target) where
    is_at : concluded s (request.Hardware name target) ≡ with_move_unless s name place target fault
    is_at =
        ap (with_move s name target)
        (ap (λ (d : Description). component_place d name) (of_description s d situation is) ∙ at)
        ∙ ap (with_move_unless s name place target) (sym is_fault)

    -- A move that something speaks against is refused.
    pub move_refused : (because : Cause) → fault ≡ Some because → (c : Conclusion)
        → c.outcome ≡ outcome.Refused name because → c.act ≡ act.Nothing
        → IsConclusionOf s (request.Hardware name target) c
    move_refused because is_so c became does =
        let made = is_at ∙ ap (with_move_unless s name place target) is_so in
        record {
          outcome = became ∙ ap (λ (m : Concluded). m.outcome) (sym made);
          act = subst (IsActOf s (concluded s (request.Hardware name target)).state) (sym does)
              (ap (λ (m : Concluded). m.state) made);
        }

    -- Else the component comes to its target.
    pub move_done : fault ≡ None → place < length situation.lives.items → (c : Conclusion) → c.outcome ≡ outcome.Done []
        → c.act ≡ act.Move place target
        → IsConclusionOf s (request.Hardware name target) c
    move_done is_so below c became does =
        let made = is_at ∙ ap (with_move_unless s name place target) is_so in
        record {
          outcome = became ∙ ap (λ (m : Concluded). m.outcome) (sym made);
          act = subst (IsActOf s (concluded s (request.Hardware name target)).state) (sym does)
              (record {
                within = rw (of_lives s d situation is) below;
                possible =
                    can_move (has_move (life_at s place) target) _ (sym is_fault ∙ is_so);
                is = ap (λ (m : Concluded). m.state) made;
              });
        }

-- What speaks against a move by the places of the active controllers in order is what speaks against it in the state.
pub fault_is : (s : State) (d : Description) (situation : Situation) → IsSeenOf s d situation
    → (place : ℕ) (life target : Life) (places : List ℕ) (members : List Member) (fault : Option Cause)
    → slice_index_or situation.lives.items place Unconfigured ≡ life
    → (loaded : List Seen) → loaded ≡ situation.loaded.items
    → members ≡ in_order d.controllers (running loaded) (map member (filter (λ l. is_running l.life) loaded))
    → places ≡ map (λ m. m.place) members → IsMoveFault d place life target places fault
    → fault ≡ move_fault s place target
fault_is s d situation is place life target places members fault here loaded same ordered of_members speaks =
    speaks s (of_description s d situation is)
    (ap (λ ls. slice_index_or ls place Unconfigured) (of_lives s d situation is) ∙ here)
    (sym (of_members ∙ ap (map (λ (m : Member). m.place)) (ordered ∙ order_seen s d situation is loaded same)
    ∙ map_twice member_of (λ (m : Member). m.place) (active_order s)))

-- the places of members that have theirs
pub places_within : (n : ℕ) (members : List Member) (places : List ℕ) → places ≡ map (λ m. m.place) members
    → All (λ m. m.place < n) members → All (λ p. p < n) places
places_within n members places is within = rw is (All-map (λ p. p < n) (λ (m : Member). m.place) members within)
