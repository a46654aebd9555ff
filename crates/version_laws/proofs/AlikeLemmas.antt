-- States that differ in the version of their description and in their blanks alone make the same steps, but for loads.
use Rattle.std.proofs.Common.{◌≡◌, ◌⊎◌, ℕ, List, [], ◌∷◌, ◌++◌, Option, Some, None, inl, inr, refl, ap, ◌∙◌}
use Rattle.std.specs.Prelude.{option_map, slice_get}
use Rattle.cm_document.specs.declared.call.Call.{Call}
use Rattle.cm_document.specs.declared.call.Call.TheVariants.{Load, Configure, Cleanup, Unload, Rate}
use Rattle.cm_document.specs.declared.call.Call.TheVariants.{Send, Switch, Hardware, Begin, End, Close}
use Rattle.cm_document.specs.declared.call.SwitchRequest.{SwitchRequest}
use Rattle.cm_document.specs.declared.description.CtlDesc.{CtlDesc}
use Rattle.cm_document.specs.declared.life.Life.{Life}
use Rattle.cm_storage.specs.Kept.{load_name}
use Rattle.cm_model.specs.BestEffort.{decided, stays_within}
use Rattle.cm_model.specs.Boundary.{request_effect, Concluded, with_switch, component_place, move_fault}
use Rattle.cm_model.specs.Boundary.{with_move_unless, with_move, concluded, with_outcome, all_concluded}
use Rattle.cm_model.specs.Boundary.{stood_in, standing_in, after_standing_in, after_fallbacks, waiting}
use Rattle.cm_model.specs.Boundary.{boundary, told_of_fallbacks, decisions_between}
use Rattle.cm_model.specs.Commit.{scene_of, commit}
use Rattle.cm_model.specs.Console.{slot_of, where_done, with_slot, with_changed, without_slot, configured_with}
use Rattle.cm_model.specs.Console.{description_of, after_configure, after_cleanup, after_rate, after_send}
use Rattle.cm_model.specs.Cycle.{CycleResult, cycle, after_cycle, begun}
use Rattle.cm_model.specs.Machine.{is_enabled, reply_of, effect}
use Rattle.cm_model.specs.Order.{Places}
use Rattle.cm_model.specs.State.{State, Loaded}
use Rattle.cm_model.specs.Switches.{Decided, refused, done}
use Rattle.cm_model.specs.declared.blanks.Blanks.{Blanks}
use Rattle.cm_model.specs.declared.cause.Cause.{Cause}
use Rattle.cm_model.specs.declared.cause.Decision.{Decision}
use Rattle.cm_model.specs.declared.reply.Reply.{Reply}
use Rattle.cm_model.specs.declared.reply.Reply.TheVariants as reply
use Rattle.cm_model.specs.declared.request.Request.{Request}
use Rattle.cm_model.specs.declared.request.Request.TheVariants as request
use Rattle.version_laws.specs.Versions.{of_version}

-- the state that has this version and these blanks, and is the same in all else
abbrev pub altered : ℕ → Blanks → State → State
altered v b s = record s { description = of_version v s.description; blanks = b }

module _ (v : ℕ) (b : Blanks) where
  abbrev other : State → State
  other s = altered v b s

  abbrev concluded_other : Concluded → Concluded
  concluded_other conclusion = record { state = other conclusion.state; outcome = conclusion.outcome }

  -- ---- Console calls but a load

  where_done-same : (s after after' : State) (r : Reply) → after' ≡ other after
      → where_done r after' (other s) ≡ other (where_done r after s)
  where_done-same s after after' reply.Done is = is
  where_done-same s after after' _ is = refl

  -- a change of one loaded controller that is the same in both
  with_slot-same : (s : State) (i : ℕ) (change change' : Loaded → Loaded) (o : Option Loaded)
      → ((l : Loaded) → change' l ≡ change l)
      → with_slot (other s) i (option_map change' o) ≡ other (with_slot s i (option_map change o))
  with_slot-same s i change change' None same = refl
  with_slot-same s i change change' (Some l) same = ap (λ (after : Loaded). with_slot (other s) i (Some after)) (same l)

  with_changed-same : (s : State) (change change' : Loaded → Loaded) (slot : Option ℕ)
      → ((l : Loaded) → change' l ≡ change l)
      → with_changed change' (other s) slot ≡ other (with_changed change s slot)
  with_changed-same s change change' None same = refl
  with_changed-same s change change' (Some i) same = with_slot-same s i change change' (slice_get s.loaded i) same

  without_slot-same : (s : State) (slot : Option ℕ) → without_slot (other s) slot ≡ other (without_slot s slot)
  without_slot-same s None = refl
  without_slot-same s (Some i) = refl

  configured_with-same : (s : State) (l : Loaded) (o : Option CtlDesc)
      → configured_with (other s) l o ≡ configured_with s l o
  configured_with-same s l None = refl
  configured_with-same s l (Some c) = refl

  after_configure-same : (s : State) (l : Loaded) → after_configure (other s) l ≡ after_configure s l
  after_configure-same s l = configured_with-same s l (description_of s l)

  request_effect-same : (s : State) (asked : Request) (r : Reply)
      → request_effect (other s) asked r ≡ other (request_effect s asked r)
  request_effect-same s asked (reply.Queued _) = refl
  request_effect-same s asked _ = refl

  -- ---- Requests that are decided

  decided-same : (s : State) (asked : SwitchRequest) → decided (scene_of (other s)) asked ≡ decided (scene_of s) asked
  unfolding stays_within
  decided-same s asked = refl

  commit-same : (s : State) (set again : Places) → commit (other s) set again ≡ other (commit s set again)
  unfolding commit
  commit-same s set again = refl

  with_switch-same : (s : State) (d : Decided) → with_switch (other s) d ≡ concluded_other (with_switch s d)
  with_switch-same s (refused because) = refl
  with_switch-same s (done dropped set again) =
      ap (λ (after : State). record { state = after; outcome = (with_switch s (done dropped set again)).outcome })
      (commit-same s set again)

  move_fault-same : (s : State) (component : ℕ) (target : Life)
      → move_fault (other s) component target ≡ move_fault s component target
  move_fault-same s component target = refl

  with_move_unless-same : (s : State) (name : List ℕ) (component : ℕ) (target : Life) (fault : Option Cause)
      → with_move_unless (other s) name component target fault
      ≡ concluded_other (with_move_unless s name component target fault)
  with_move_unless-same s name component target (Some fault) = refl
  with_move_unless-same s name component target None = refl

  with_move-same : (s : State) (name : List ℕ) (target : Life) (place : Option ℕ)
      → with_move (other s) name target place ≡ concluded_other (with_move s name target place)
  with_move-same s name target None = refl
  with_move-same s name target (Some component) =
      ap (with_move_unless (other s) name component target) (move_fault-same s component target)
      ∙ with_move_unless-same s name component target (move_fault s component target)

  concluded-same : (s : State) (asked : Request) → concluded (other s) asked ≡ concluded_other (concluded s asked)
  concluded-same s (request.Switch asked) =
      ap (with_switch (other s)) (decided-same s asked) ∙ with_switch-same s (decided (scene_of s) asked)
  concluded-same s (request.Hardware component target) =
      with_move-same s component target (component_place s.description component)

  all_concluded-same : (s : State) (requests : List Request)
      → all_concluded (other s) requests ≡ other (all_concluded s requests)
  unfolding all_concluded
  all_concluded-same s [] = refl
  all_concluded-same s (asked ∷ requests) =
      ap (λ (conclusion : Concluded). all_concluded (with_outcome conclusion) requests) (concluded-same s asked)
      ∙ all_concluded-same (with_outcome (concluded s asked)) requests

  stood_in-same : (s : State) (names : List (List ℕ)) → stood_in (other s) names ≡ concluded_other (stood_in s names)
  stood_in-same s names = concluded-same (record s { fallbacks = [] }) (standing_in names)

  after_standing_in-same : (s : State) (names : List (List ℕ))
      → after_standing_in (other s) names ≡ other (after_standing_in s names)
  after_standing_in-same s [] = refl
  after_standing_in-same s (name ∷ names) =
      ap (λ (conclusion : Concluded). conclusion.state) (stood_in-same s (name ∷ names))

  told_of_fallbacks-same : (s : State) (names : List (List ℕ))
      → told_of_fallbacks (other s) names ≡ told_of_fallbacks s names
  told_of_fallbacks-same s [] = refl
  told_of_fallbacks-same s (name ∷ names) =
      ap (λ (conclusion : Concluded). record { ticket = None; outcome = conclusion.outcome } ∷ [])
      (stood_in-same s (name ∷ names))

  boundary-same : (s : State) → boundary (other s) ≡ other (boundary s)
  boundary-same s =
      ap (λ (after : State). all_concluded after (waiting after)) (after_standing_in-same s s.fallbacks)
      ∙ all_concluded-same (after_fallbacks s) (waiting (after_fallbacks s))

  -- ---- Cycles

  cycle-same : (s : State) → cycle (other s) ≡ cycle s
  unfolding cycle
  cycle-same s = refl

  after_cycle-same : (s : State) (cycled : CycleResult) → after_cycle (other s) cycled ≡ other (after_cycle s cycled)
  unfolding after_cycle commit
  after_cycle-same s cycled = refl

  -- ---- Steps

  pub is_enabled-same : (s : State) (who : ℕ) (call : Call) → is_enabled (other s) who call ≡ is_enabled s who call
  is_enabled-same s who call = refl

  -- a call but a load is answered the same,
  pub reply_of-same : (s : State) (call : Call) → load_name call ≡ None → reply_of (other s) call ≡ reply_of s call
  reply_of-same s (Load name) load = let some : Some name ≡ None = load in cc
  reply_of-same s (Begin _) load =
      ap (λ (told : List Decision). Some (reply.Decisions (told ++ decisions_between s (boundary (other s)))))
      (told_of_fallbacks-same s s.fallbacks)
      ∙ ap (λ (after : State). Some (reply.Decisions (told_of_fallbacks s s.fallbacks ++ decisions_between s after)))
      (boundary-same s)
  reply_of-same s (End _) load = ap (λ (cycled : CycleResult). Some (reply.Cycle cycled.happened)) (cycle-same s)
  reply_of-same s _ load = refl

  -- and leaves what differs
  pub effect-same : (s : State) (call : Call) (r : Reply) → load_name call ≡ None
      → effect (other s) call r ≡ other (effect s call r)
  effect-same s (Load name) r load = let some : Some name ≡ None = load in cc
  effect-same s (Configure name) r load =
      where_done-same s _ _ r
      (with_changed-same s (after_configure s) (after_configure (other s)) (slot_of s name) (after_configure-same s))
  effect-same s (Cleanup name) r load =
      where_done-same s _ _ r (with_changed-same s after_cleanup after_cleanup (slot_of s name) (λ l. refl))
  effect-same s (Unload name) r load = where_done-same s _ _ r (without_slot-same s (slot_of s name))
  effect-same s (Rate name hz) r load =
      where_done-same s _ _ r (with_changed-same s (after_rate hz) (after_rate hz) (slot_of s name) (λ l. refl))
  effect-same s (Send name mail) r load =
      where_done-same s _ _ r (with_changed-same s (after_send mail) (after_send mail) (slot_of s name) (λ l. refl))
  effect-same s (Switch asked) r load = request_effect-same s (request.Switch asked) r
  effect-same s (Hardware component target) r load = request_effect-same s (request.Hardware component target) r
  effect-same s (Begin _) r load = ap begun (boundary-same s)
  effect-same s (End _) r load = ap (after_cycle (other s)) (cycle-same s) ∙ after_cycle-same s (cycle s)
  effect-same s Close r load = refl
  effect-same s _ r load = refl

-- a call is a load, or none
pub load_or_none : (call : Call) → (load_name call ≡ None) ⊎ ((name : List ℕ) × (call ≡ Load name))
load_or_none (Load name) = inr (name, refl)
load_or_none _ = inl refl

-- one that is none leaves the version and the blanks as they were
pub leaves : (s : State) (call : Call) (r : Reply) → load_name call ≡ None
    → ((effect s call r).description.version ≡ s.description.version) × ((effect s call r).blanks ≡ s.blanks)
leaves s call r other =
    let same = effect-same s.description.version s.blanks s call r other in
    (ap (λ (after : State). after.description.version) same, ap (λ (after : State). after.blanks) same)
