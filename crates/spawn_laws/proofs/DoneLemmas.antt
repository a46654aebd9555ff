-- The begin of the cycle with which wanted controllers start: their switch is done, and exactly they are active.
use Rattle.std.proofs.Common.{◌≡◌, ℕ, zero, suc, ◌<◌, Bool, true, false, List, [], ◌∷◌, ◌++◌, length, map}
use Rattle.std.proofs.Common.{Option, Some, None, inl, inr, refl, sym, ◌∙◌, ap, ap₂, subst, get_or, arith}
use Rattle.std.specs.Prelude.{◌==◌, ◌&&◌, not, drop, if◌then◌else◌, slice_get, slice_index_or, is_some, Ok}
use Rattle.std.specs.List.{AllByRecursion, Contains, list_any, list_all}
use Rattle.std.specs.Option.{option_map_or}
use Rattle.std.proofs.lemmas.Bool.{and_parts, not-true, eqb-true, eq-eqb, cases_Bool}
use mathlib.Core.Path.{fun_ext}
use Rattle.iface_names.specs.Names.{same_name}
use Rattle.iface_names.specs.declared.interface.IfaceName.{IfaceName}
use Rattle.cm_document.proofs.DistinctLemmas.{all_so}
use Rattle.cm_document.proofs.PickLemmas.{flat-ones, picked_names-ones}
use Rattle.cm_document.specs.Picks.{picked_names}
use Rattle.cm_document.specs.Valid.{repeated_after}
use Rattle.cm_document.specs.declared.call.Pick.TheVariants.{One}
use Rattle.cm_document.specs.declared.call.SwitchRequest.{SwitchRequest}
use Rattle.cm_document.specs.declared.description.CompDesc.{CompDesc}
use Rattle.cm_document.specs.declared.description.Description.{Description}
use Rattle.cm_document.specs.declared.description.Params.{Params}
use Rattle.cm_document.specs.declared.life.Life.{Life}
use Rattle.cm_document.specs.declared.life.Life.TheVariants.{Unconfigured, Inactive, Active}
use Rattle.cm_model.specs.BestEffort.{decided}
use Rattle.cm_model.specs.Boundary.{waiting, with_switch, with_outcome, all_concluded, after_standing_in, boundary}
use Rattle.cm_model.specs.Boundary.{decisions_from, decisions_between, begin_effect, begin_reply, told_of_fallbacks}
use Rattle.cm_model.specs.Claims.{uses}
use Rattle.cm_model.specs.Commit.{seen, scene_of, commit}
use Rattle.cm_model.specs.Components.{is_available}
use Rattle.cm_model.specs.Cycle.{is_due_now, without_mail_off, begun}
use Rattle.cm_model.specs.Faults.{cause_if, component_with, is_unavailable, fault_of_kind}
use Rattle.cm_model.specs.Kinds.{is_ready_in}
use Rattle.cm_model.specs.Order.{Places, controller_at}
use Rattle.cm_model.specs.Scene.{Scene, named}
use Rattle.cm_model.specs.State.{State, Loaded, is_active, active, life_of}
use Rattle.cm_model.specs.Steady.{IsSteady, AreLoaded, AreConfigured}
use Rattle.cm_model.specs.Switches.{switched, done, unless_because, strict}
use Rattle.cm_model.specs.declared.cause.Cause.TheVariants as cause
use Rattle.cm_model.specs.declared.cause.Outcome.{Outcome}
use Rattle.cm_model.specs.declared.cause.Outcome.TheVariants as outcome
use Rattle.cm_model.specs.declared.data.CtlData.{CtlData}
use Rattle.cm_model.specs.declared.data.RunData.{RunData}
use Rattle.cm_model.specs.declared.fault_kind.FaultKind.TheVariants as fault_kind
use Rattle.cm_model.specs.declared.reply.Reply.TheVariants as reply
use Rattle.cm_model.specs.declared.request.Request.{Request}
use Rattle.cm_model.specs.declared.request.Request.TheVariants as request
use Rattle.cm_model.specs.declared.seen.Seen.{Seen}
use Rattle.sequence.proofs.ListLemmas.{any_map}
use Rattle.sound_laws.proofs.ParamsLemmas.{all_at}
use Rattle.sound_laws.proofs.SwitchedLemmas.{commit_switched}
use Rattle.switch_plan.proofs.ElementLemmas.{none_inside, first_or_later, any_from, some_of, each_fails}
use Rattle.switch_plan.proofs.ElementLemmas.{first_of-all, Contains-map, Contains-map_back}
use Rattle.switch_plan.proofs.MaximalLemmas.{none_if, fails_of}
use Rattle.spawn_plan.specs.Fitting.{life_by, is_there_by, is_gone_by, can_start, fits}
use Rattle.spawn_plan.specs.Never.{best_scene, never}
use Rattle.spawn_plan.specs.Wanted.{places_in, is_wanted}
use Rattle.spawn_plan.proofs.NeverLemmas.{component_place, named_is, switched_is, strict_is}
use Rattle.spawn_plan.proofs.WantedLemmas.{HasWanted}
use Rattle.spawn_laws.proofs.TogetherLemmas.{can_together, none_counts}
use Rattle.spawn_laws.specs.Starts.{AreActive}

-- ---- Who is loaded

-- The controllers at these places are loaded with their parameters, and none runs.
pub record AreReady (d : Description) (places : List ℕ) (ls : List Loaded) : Type 0 where
  pub places_are : map (λ (l : Loaded). l.place) ls ≡ places
  pub params : AllByRecursion (λ (l : Loaded). l.ctl.params ≡ Some (controller_at d.controllers l.place).params) ls
  pub stopped : AllByRecursion (λ (l : Loaded). l.ctl.run ≡ None) ls

-- ---- Lists

all_pass : {A : Type 0} (test : A → Bool) (xs : List A) → list_all test xs ≡ true → (x : A) → Contains xs x
    → test x ≡ true
all_pass test [] all x inside = absurd (none_inside x inside)
all_pass test (y ∷ xs) all x inside =
    let parts = and_parts (test y) (list_all test xs) all in
    elim (first_or_later y xs x inside) [
      | inl same ↦ ap test (sym same) ∙ parts.0
      | inr after ↦ all_pass test xs parts.1 x after
    ]

lives_at : (f : CompDesc → Life) (cs : List CompDesc) (k : ℕ) (c : CompDesc) → slice_get cs k ≡ Some c
    → get_or (map f cs) k Unconfigured ≡ f c
lives_at f [] k c is = cc
lives_at f (first ∷ cs) zero c is = let same : first ≡ c = cc in ap f same
lives_at f (first ∷ cs) (suc k) c is = lives_at f cs k c is

-- what stands at a place of the list
some_at : {A : Type 0} (xs : List A) (k : ℕ) → k < length xs → (x : A) × (slice_get xs k ≡ Some x)
some_at [] k below = absurd (omega (arith, below))
some_at (x ∷ xs) zero below = (x, refl)
some_at (x ∷ xs) (suc k) below = some_at xs k (omega (arith, below))

inactive_is : (ctl : CtlData) (params : Params) → ctl.params ≡ Some params → ctl.run ≡ None → life_of ctl ≡ Inactive
inactive_is ctl params has stopped =
    ap₂ (λ (o : Option Params) (run : Option RunData). elim o
    [ None ↦ Unconfigured | Some p ↦ elim run [ None ↦ Inactive | Some part ↦ Active ] ]) has stopped

-- ---- The switch

abbrev pub wish : List (List ℕ) → SwitchRequest
wish wanted = record { on = map One wanted; off = []; strict = true }

-- Before the begin the switch waits, each controller is ready, and each component that one uses is there.
pub record Waits (wanted : List (List ℕ)) (places : List ℕ) (k : ℕ) (t : State) : Type 0 where
  pub placed : places_in t.description.controllers wanted ≡ Ok places
  pub once : repeated_after same_name [] wanted ≡ None
  pub possible : never t.description places ≡ None
  pub fit : fits t.description places k ≡ true
  pub loaded : AreReady t.description places t.loaded
  pub lives : t.lives ≡ map (λ c. life_by c k) t.description.components
  pub requests : t.requests ≡ request.Switch (wish wanted) ∷ []
  pub outcomes : t.outcomes ≡ []
  pub fallbacks : t.fallbacks ≡ []
  pub ended : t.ended ≡ k
  pub steady : IsSteady t

module _ (wanted : List (List ℕ)) (places : List ℕ) (k : ℕ) (t : State) (w : Waits wanted places k t) where
  abbrev scene : Scene
  scene = scene_of t

  abbrev set : Places
  set = is_wanted places

  place_inside : (x : Loaded) → Contains t.loaded x → Contains places x.place
  place_inside x inside =
      subst (λ ps. Contains ps x.place) w.loaded.places_are (Contains-map (λ (l : Loaded). l.place) t.loaded x inside)

  loaded_at : (p : ℕ) → Contains places p → (x : Loaded) × Contains t.loaded x × (x.place ≡ p)
  loaded_at p inside =
      Contains-map_back (λ (l : Loaded). l.place) t.loaded p
      (subst (λ ps. Contains ps p) (sym w.loaded.places_are) inside)

  params_of : (x : Loaded) → Contains t.loaded x
      → x.ctl.params ≡ Some (controller_at t.description.controllers x.place).params
  params_of x inside =
      all_at (λ (l : Loaded). l.ctl.params ≡ Some (controller_at t.description.controllers l.place).params) t.loaded
      w.loaded.params x inside

  has_wanted : HasWanted scene places
  has_wanted = record {
    within = λ l inside.
        let x = Contains-map_back (seen t) t.loaded l inside in (
          ap (λ (s : Seen). s.life) (sym x.2)
              ∙ inactive_is x.0.ctl (controller_at t.description.controllers x.0.place).params (params_of x.0 x.1)
              (all_at (λ (l : Loaded). l.ctl.run ≡ None) t.loaded w.loaded.stopped x.0 x.1),
          subst (Contains places) (ap (λ (s : Seen). s.place) x.2) (place_inside x.0 x.1),
        );
    each = λ p inside. let x = loaded_at p inside in (seen t x.0, Contains-map (seen t) t.loaded x.0 x.1, x.2);
  }

  can : (l : Seen) → Contains scene.loaded l → can_start t.description k l.place ≡ true
  can l inside = all_pass (can_start t.description k) places w.fit l.place (has_wanted.within l inside).1

  -- each is ready
  ready : (l : Seen) → Contains scene.loaded l → l.ready ≡ true
  ready l inside =
      let x = Contains-map_back (seen t) t.loaded l inside in
      let at : x.0.place ≡ l.place = ap (λ (s : Seen). s.place) x.2 in
      let parts = and_parts (is_ready_in (controller_at t.description.controllers l.place).params k)
      (not (uses t.description.components (is_gone_by t.description.components k)
      (controller_at t.description.controllers l.place))) (can l inside) in
      ap (λ (s : Seen). s.ready) (sym x.2)
      ∙ ap₂ (λ (o : Option Params) (n : ℕ). elim o [ None ↦ true | Some params ↦ is_ready_in params n ])
      (params_of x.0 x.1) w.ended
      ∙ ap (λ p. is_ready_in (controller_at t.description.controllers p).params k) at
      ∙ parts.0

  -- a component that is not gone has its life there
  there : (i : IfaceName) (q : ℕ) → component_with t.description.components i ≡ Some q
      → is_gone_by t.description.components k q ≡ false
      → not (is_available (slice_index_or t.lives q Unconfigured)) ≡ false
  there i q named gone =
      let cs = t.description.components in
      let c = some_at cs q (component_place t.description places i q named) in
      ap (λ lives. not (is_available (slice_index_or lives q Unconfigured))) w.lives
      ∙ ap (λ life. not (is_available life)) (lives_at (λ c. life_by c k) cs q c.0 c.1)
      ∙ sym (ap (λ o. option_map_or (λ c. not (is_there_by k c)) o false) c.1) ∙ gone

  up : (l : Seen) → Contains scene.loaded l → fault_of_kind scene set set fault_kind.Availability l.place ≡ None
  up l inside =
      let c = controller_at t.description.controllers l.place in
      let parts = and_parts (is_ready_in c.params k)
      (not (uses t.description.components (is_gone_by t.description.components k) c)) (can l inside) in
      let none : uses t.description.components (is_gone_by t.description.components k) c ≡ false =
      not-true (uses t.description.components (is_gone_by t.description.components k) c) parts.1 in
      first_of-all (λ i. cause_if (is_unavailable scene i) (cause.Unavailable i)) (c.claims ++ c.reads) (λ i named.
      none_if (is_unavailable scene i) (cause.Unavailable i)
      (fails_of (λ q. not (is_available (slice_index_or t.lives q Unconfigured)))
      (component_with t.description.components i) (λ q is.
      there i q is
      (ap (λ o. option_map_or (is_gone_by t.description.components k) o false) (sym is)
      ∙ each_fails
      (λ name. option_map_or (is_gone_by t.description.components k) (component_with t.description.components name)
      false) (c.claims ++ c.reads) none i named))))

  -- ---- It is done

  abbrev leaving : Places
  leaving = named scene []

  abbrev coming : Places
  coming = named scene (picked_names (map One wanted))

  abbrev to : Places
  to = switched scene leaving coming

  abbrev again : Places
  again p = leaving p && coming p

  to_is : to ≡ set
  to_is = switched_is scene wanted places w.placed has_wanted leaving coming
      ∙ ap (named scene) (picked_names-ones wanted) ∙ named_is scene wanted places w.placed has_wanted

  decided_is : decided scene (wish wanted) ≡ done [] to again
  decided_is =
      ap (strict scene []) (flat-ones t.description wanted)
      ∙ strict_is scene wanted places w.placed has_wanted w.once
      ∙ ap (λ o. unless_because o (done [] to again))
      (none_counts scene places has_wanted (best_scene t.description places).components
      (can_together t.description places w.possible) up ready)

  waits_is : waiting t ≡ request.Switch (wish wanted) ∷ []
  waits_is = ap₂ (λ (os : List Outcome) (rs : List Request). drop (length os) rs) w.outcomes w.requests

  abbrev after : State
  after = record (commit t to again) { outcomes = t.outcomes ++ outcome.Done [] ∷ [] }

  boundary_is : boundary t ≡ after
  unfolding all_concluded commit
  boundary_is =
      ap (λ names. all_concluded (after_standing_in t names) (waiting (after_standing_in t names))) w.fallbacks
      ∙ ap (all_concluded t) waits_is
      ∙ ap (λ decision. with_outcome (with_switch t decision)) decided_is

  -- the begin tells that it was done
  pub tells : begin_reply t ≡ reply.Decisions (record { ticket = Some 0; outcome = outcome.Done [] } ∷ [])
  tells =
      ap₂ (λ names s. reply.Decisions (told_of_fallbacks t names ++ decisions_between t s)) w.fallbacks boundary_is
      ∙ ap (λ (os : List Outcome). reply.Decisions
      (decisions_from (length os) (drop (length os) (os ++ outcome.Done [] ∷ [])))) w.outcomes

  -- ---- Who is active then

  are_loaded : AreLoaded t.loaded to
  are_loaded p inside =
      let q = some_of (λ (q : ℕ). q == p) places (ap (λ f. f p) (sym to_is) ∙ inside) in
      let x = loaded_at q.0 q.1 in
      any_from (λ (l : Loaded). l.place == p) t.loaded x.0 x.1 (eq-eqb x.0.place p (x.2 ∙ eqb-true q.0 p q.2))

  are_configured : AreConfigured t.loaded to
  are_configured =
      all_so (λ (l : Loaded). l.ctl.params ≡ Some (controller_at t.description.controllers l.place).params)
      (λ (l : Loaded). to l.place ≡ true → is_some l.ctl.params ≡ true)
      (λ l has inside. ap is_some has) t.loaded w.loaded.params

  mail_aside : (l : Loaded) (p : ℕ)
      → (is_active (without_mail_off after l) && (without_mail_off after l).place == p) ≡ (is_active l && l.place == p)
  mail_aside l p =
      elim (cases_Bool (is_active l && is_due_now after l)) [
        | inl goes ↦ ap
            (λ b. let m : Loaded = (if b then record l { mail = None } else l) in is_active m && m.place == p) goes
        | inr stays ↦ ap
            (λ b. let m : Loaded = (if b then record l { mail = None } else l) in is_active m && m.place == p) stays
      ]

  -- Exactly the wanted ones are active behind the begin.
  pub are_active : AreActive places (begin_effect t)
  are_active p =
      ap (λ s. active (begun s) p) boundary_is
      ∙ any_map (λ (l : Loaded). is_active l && l.place == p) (without_mail_off after) after.loaded
      ∙ ap (λ test. list_any test after.loaded) (fun_ext (λ l. mail_aside l p))
      ∙ (commit_switched t to again w.steady.in_order are_loaded are_configured).set_is p
      ∙ ap (λ f. f p) to_is
