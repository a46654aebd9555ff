-- While no controller is active a cycle updates none and stops none.
use Rattle.std.proofs.Common.{◌≡◌, ℕ, zero, suc, Bool, true, false, List, [], ◌∷◌}
use Rattle.std.proofs.Common.{map, Option, Some, None, refl, sym, ap, ap₂, ◌∙◌}
use Rattle.std.specs.Prelude.{◌==◌, ◌&&◌, ◌||◌, not, if◌then◌else◌, filter, length, is_some}
use Rattle.std.specs.List.{AllByRecursion, list_any}
use Rattle.iface_names.specs.declared.interface.IfaceName.{IfaceName}
use Rattle.cm_document.specs.Places.{Whose, of_joint, of_controller}
use Rattle.cm_document.specs.declared.description.Params.{Params}
use Rattle.cm_document.specs.declared.life.Life.TheVariants.{Unconfigured, Inactive, Active}
use Rattle.cm_model.specs.Commit.{seen, scene_of, committed, is_exported_by, is_freed, freed_of, changed, commit}
use Rattle.cm_model.specs.Components.{read_succeeds}
use Rattle.cm_model.specs.Cycle.{component_is, components_stepped, failed_in, active_order, is_due_now}
use Rattle.cm_model.specs.Cycle.{is_held_off, with_updates, updates, must_stop, stays_active, stops}
use Rattle.cm_model.specs.Cycle.{CycleResult, cycle_with, cycle, landed, after_cycle, IsIdle}
use Rattle.cm_model.specs.Order.{Places, some_below, by_rank, depth}
use Rattle.cm_storage.specs.Ran.{Ran}
use Rattle.cm_model.specs.Scene.{is_running, has_seen, claims_at, is_claimed_by}
use Rattle.cm_model.specs.Scene as scene
use Rattle.cm_model.specs.State.{State, Loaded, life_of, is_active, active, IsStill}
use Rattle.cm_model.specs.Switches.{restarts, is_stopped, is_started}
use Rattle.cm_model.specs.Values.{InterfaceValue, unset, after_reads}
use Rattle.cm_model.specs.declared.data.RunData.{RunData}
use Rattle.fixed_num.specs.declared.value.BodyState.{BodyState}

-- ---- None among them

-- none of them is active and passes a test
pub still_any : (test : Loaded → Bool) (ls : List Loaded) → AllByRecursion (λ (l : Loaded). is_active l ≡ false) ls
    → list_any (λ (l : Loaded). is_active l && test l) ls ≡ false
still_any test [] still = refl
still_any test (l ∷ ls) still = rw still.0 (still_any test ls still.1)

still_none : (ls : List Loaded) → AllByRecursion (λ (l : Loaded). is_active l ≡ false) ls → filter is_active ls ≡ []
still_none [] still = refl
still_none (l ∷ ls) still = rw still.0 (still_none ls still.1)

none_by_rank : {A : Type 0} (ranked : A → ℕ) (n : ℕ) → by_rank ranked n [] ≡ []
none_by_rank ranked zero = refl
none_by_rank ranked (suc n) = rw (none_by_rank ranked n) refl

pub none_below : (test : ℕ → Bool) (n : ℕ) → ((p : ℕ) → test p ≡ false) → some_below test n ≡ false
none_below test zero none = refl
none_below test (suc n) none = rw (none_below test n none, none n) refl

-- what changes no item changes nothing
map_same : {A : Type 0} (f : A → A) → ((x : A) → f x ≡ x) → (xs : List A) → map f xs ≡ xs
map_same f same [] = refl
map_same {A = A} f same (x ∷ xs) = ap₂ (λ (y : A) (ys : List A). y ∷ ys) (same x) (map_same f same xs)

-- ---- As a switch would see them

not_running : (params : Option Params) (run : Option RunData) → is_some run ≡ false
    → is_running (elim params [ None ↦ Unconfigured | Some given ↦ elim run [ None ↦ Inactive | Some part ↦ Active ] ])
    ≡ false
not_running None run idle = refl
not_running (Some given) None idle = refl
not_running (Some given) (Some part) idle = cc

nobody_runs : (s : State) (ls : List Loaded) (p : ℕ) → AllByRecursion (λ (l : Loaded). is_active l ≡ false) ls
    → has_seen (λ each. is_running each.life) (map (seen s) ls) p ≡ false
nobody_runs s [] p still = refl
nobody_runs s (l ∷ ls) p still =
    no_more (l.place == p) (is_running (life_of l.ctl)) (has_seen (λ each. is_running each.life) (map (seen s) ls) p)
    (not_running l.ctl.params l.ctl.run still.0) (nobody_runs s ls p still.1)
  where
    no_more : (here runs others : Bool) → runs ≡ false → others ≡ false → ((here && runs) || others) ≡ false
    no_more true runs others first rest = rw (first, rest) refl
    no_more false runs others first rest = rest

-- ---- A commit

module _ (s : State) (set stopped started : Places) (none_stopped : (p : ℕ) → stopped p ≡ false)
    (none_started : (p : ℕ) → started p ≡ false) where
  controller_stays : (l : Loaded) → committed s set stopped started l ≡ l
  controller_stays l = rw (none_started l.place, none_stopped l.place) refl

  none_claims : (interface : IfaceName) → is_claimed_by s.description.controllers stopped interface ≡ false
  none_claims interface =
      none_below (λ q. stopped q && claims_at s.description.controllers q interface) (length s.description.controllers)
      (λ q. ap (λ (b : Bool). b && claims_at s.description.controllers q interface) (none_stopped q))

  none_exports : (whose : Whose) → is_exported_by stopped whose ≡ false
  none_exports (of_joint component joint) = refl
  none_exports (of_controller place) = none_stopped place

  none_both : (b : Bool) → (b && (false || false)) ≡ false
  none_both true = refl
  none_both false = refl

  value_stays : (v : InterfaceValue) → freed_of s stopped v ≡ v
  value_stays v =
      let free : is_freed s stopped v.interface ≡ false =
      ap₂ (λ (first b : Bool). v.interface.called.is_command && (first || b)) (none_claims v.interface.called.name)
      (none_exports v.interface.whose)
      ∙ none_both v.interface.called.is_command in
      ap (λ (b : Bool). if b then unset v.interface else v) free

  pub nothing_changes : changed s set stopped started ≡ s
  nothing_changes =
      ap₂ (λ (loaded : List Loaded) (values : List InterfaceValue). record s { loaded = loaded; values = values })
      (map_same (committed s set stopped started) controller_stays s.loaded)
      (map_same (freed_of s stopped) value_stays s.values)

-- where nobody is active and nobody is to be, nothing changes
pub idle_commit : (s : State) (set again : Places) → IsStill s → ((p : ℕ) → set p ≡ false) → commit s set again ≡ s
unfolding commit
idle_commit s set again still none =
    nothing_changes s set (is_stopped (scene_of s) set again) (is_started (scene_of s) set again)
    (λ p. ap (λ (b : Bool). b && (not (set p) || restarts (scene_of s) set again p)) (nobody_runs s s.loaded p still))
    (λ p. ap (λ (b : Bool). b && (not (scene.active (scene_of s) p) || restarts (scene_of s) set again p)) (none p))

-- ---- A cycle

module _ (s : State) (still : IsStill s) where
  nobody_active : (p : ℕ) → active s p ≡ false
  nobody_active p = still_any (λ (l : Loaded). l.place == p) s.loaded still

  nobody_in_order : active_order s ≡ []
  nobody_in_order =
      ap (by_rank (λ (l : Loaded). depth s.description.controllers (active s) l.place)
      (suc (length s.description.controllers))) (still_none s.loaded still)
      ∙ none_by_rank (λ (l : Loaded). depth s.description.controllers (active s) l.place)
      (suc (length s.description.controllers))

  -- none is updated
  pub idle_updates : (values : List InterfaceValue)
      → updates s values ≡ record { loaded = s.loaded; values = values; ran = [] }
  idle_updates values =
      ap (λ (ls : List Loaded). with_updates s (record { loaded = s.loaded; values = values; ran = [] })
      (filter (λ l. is_due_now s l && not (is_held_off s l)) ls)) nobody_in_order

  -- and none stopped
  pub idle_stops : (ran : List Ran) → stops s ran ≡ []
  idle_stops ran =
      ap (λ (ls : List Loaded). map (λ (l : Loaded). l.serial) (filter (λ (l : Loaded). must_stop s ran l.place) ls))
      nobody_in_order

  -- the values after the reads of the cycle, and the bodies after its steps
  abbrev pub values_read : List InterfaceValue
  values_read = after_reads (component_is read_succeeds s) s.bodies s.values

  abbrev pub bodies_stepped : List BodyState
  bodies_stepped = components_stepped s values_read 0 s.description.components s.bodies

  -- what the cycle makes then
  abbrev pub idle : CycleResult
  idle = record {
    loaded = s.loaded;
    values = values_read;
    bodies = bodies_stepped;
    happened = record { cycle = s.ended; failed = failed_in s; ran = []; bodies = bodies_stepped; stops = [] };
  }

  -- A cycle is one of the hardware alone.
  pub idle_cycle : cycle s ≡ idle
  unfolding cycle
  idle_cycle =
      ap (cycle_with s) (idle_updates values_read)
      ∙ ap (λ (serials : List ℕ). record idle { happened = record idle.happened { stops = serials } }) (idle_stops [])

  idle_end : after_cycle s idle ≡ landed s idle
  unfolding after_cycle
  idle_end =
      idle_commit (landed s idle) (stays_active s []) (λ p. false) still
      (λ p. ap (λ (b : Bool). b && not (must_stop s [] p)) (nobody_active p))

  -- At its end nothing changes but what its components make of it.
  pub idle_ended : after_cycle s (cycle s) ≡ landed s idle
  idle_ended = ap (after_cycle s) idle_cycle ∙ idle_end

  pub cycle_is_idle : IsIdle s (cycle s)
  cycle_is_idle = record {
    none_ran = ap (λ (cycled : CycleResult). cycled.happened.ran) idle_cycle;
    none_stopped = ap (λ (cycled : CycleResult). cycled.happened.stops) idle_cycle;
    loaded = ap (λ (cycled : CycleResult). cycled.loaded) idle_cycle;
    ended = idle_ended ∙ ap (landed s) (sym idle_cycle);
  }
