-- What a commit makes of each controller and of each interface, and what it leaves as it was.
use Rattle.std.proofs.Common.{◌≡◌, ℕ, ℤ, Bool, true, false, List, [], ◌∷◌, map, Option, Some}
use Rattle.std.proofs.Common.{None, option_map, refl, sym, ◌∙◌, subst, ap, ap₂, true≢false}
use Rattle.std.specs.Prelude.{◌&&◌, ◌||◌, not, if◌then◌else◌, is_some}
use Rattle.std.specs.List.{AllByRecursion}
use Rattle.cm_document.proofs.DistinctLemmas.{all_of}
use Rattle.cm_document.specs.Places.{Whose, of_joint, of_controller}
use Rattle.cm_document.specs.declared.description.Params.{Params}
use Rattle.cm_model.proofs.CommitLemmas.{scene_active, activated_by, freed_interface, commit_active}
use Rattle.cm_model.proofs.LoadedLemmas.{has_loaded-own, all_from}
use Rattle.cm_model.specs.Claims.{states_for}
use Rattle.cm_model.specs.Commit.{described_of, scene_of, coming, leaving, committed}
use Rattle.cm_model.specs.Commit.{is_exported_by, is_freed, freed_of, commit}
use Rattle.cm_model.specs.Controllers.{started}
use Rattle.cm_model.specs.Deciding.{AreRelated, at_rest, lasting, RunsAnew, is_renewed, IsSwitched}
use Rattle.cm_model.specs.Deciding.{has_ceased, is_reference_of, is_let_go, IsLetGo, HasSwitched}
use Rattle.cm_model.specs.Order.{Places}
use Rattle.cm_model.specs.Scene as scenes
use Rattle.cm_model.specs.Scene.{is_claimed_by, is_chained_in}
use Rattle.cm_model.specs.State.{State, Loaded, is_active}
use Rattle.cm_model.specs.Steady.{AreLoaded, AreConfigured, IsInOrder}
use Rattle.cm_model.specs.Switches.{differ, restarts, is_stopped, is_started}
use Rattle.cm_model.specs.Values.{InterfaceValue, unset}
use Rattle.cm_model.specs.declared.data.CtlData.{CtlData}

-- ---- Lists

-- where each is related to what it becomes, so are all
pub related_map : {A : Type 0} (R : A → A → Type 0) (change : A → A) (xs : List A)
    → AllByRecursion (λ x. R x (change x)) xs → AreRelated R xs (map change xs)
related_map R change [] all = tt
related_map R change (x ∷ xs) all = (all.0, related_map R change xs all.1)

-- what a change leaves of each it leaves of all
pub map_leaves : {A B : Type 0} (f : A → B) (change : A → A) → ((x : A) → f (change x) ≡ f x) → (xs : List A)
    → map f (map change xs) ≡ map f xs
map_leaves f change same [] = refl
map_leaves f change same (x ∷ xs) = ap₂ (λ y ys. y ∷ ys) (same x) (map_leaves f change same xs)

-- ---- One controller

-- what becomes of a controller, by whether it is a member, whether it was active and whether it restarts
abbrev picked : Bool → Bool → Bool → Loaded → Loaded → Loaded → Loaded
picked member was anew come leave stay =
    if member && (not was || anew) then come else (if was && (not member || anew) then leave else stay)

anew_run : (ctl : CtlData) (params : Option Params) (states : List ℤ) (chained : Bool) → is_some params ≡ true
    → (activated_by ctl params states chained).run ≡ option_map (λ given. started given states chained) params
anew_run ctl None states chained some = absurd (true≢false (sym some))
anew_run ctl (Some given) states chained some = refl

module _ (s : State) (set again : Places) (l : Loaded) where
  comes_anew : is_some l.ctl.params ≡ true → RunsAnew s set l (coming s set l)
  comes_anew has = record {
    run = anew_run l.ctl l.ctl.params (states_for s.values (described_of s l))
        (is_chained_in s.description.controllers set l.place) has;
    emptied = refl;
  }

  picked_switched : (member was anew : Bool) → set l.place ≡ member → is_active l ≡ was
      → is_renewed s set again l.place ≡ anew → (set l.place ≡ true → is_some l.ctl.params ≡ true)
      → IsSwitched s set again l (picked member was anew (coming s set l) (leaving l) l)
  picked_switched true true true inside runs renewed has = record {
    leaves = λ ran gone. absurd (true≢false (sym inside ∙ gone));
    comes = λ idle member. absurd (true≢false (sym runs ∙ idle));
    restarts = λ ran member new. comes_anew (has inside);
    stays = λ ran member kept. absurd (true≢false (sym renewed ∙ kept));
    out = λ idle gone. absurd (true≢false (sym runs ∙ idle));
  }
  picked_switched true true false inside runs renewed has = record {
    leaves = λ ran gone. absurd (true≢false (sym inside ∙ gone));
    comes = λ idle member. absurd (true≢false (sym runs ∙ idle));
    restarts = λ ran member new. absurd (true≢false (sym new ∙ renewed));
    stays = λ ran member kept. refl;
    out = λ idle gone. absurd (true≢false (sym runs ∙ idle));
  }
  picked_switched true false anew inside runs renewed has = record {
    leaves = λ ran gone. absurd (true≢false (sym inside ∙ gone));
    comes = λ idle member. comes_anew (has inside);
    restarts = λ ran member new. absurd (true≢false (sym ran ∙ runs));
    stays = λ ran member kept. absurd (true≢false (sym ran ∙ runs));
    out = λ idle gone. absurd (true≢false (sym inside ∙ gone));
  }
  picked_switched false true anew inside runs renewed has = record {
    leaves = λ ran gone. record { stopped = refl; emptied = refl };
    comes = λ idle member. absurd (true≢false (sym member ∙ inside));
    restarts = λ ran member new. absurd (true≢false (sym member ∙ inside));
    stays = λ ran member kept. absurd (true≢false (sym member ∙ inside));
    out = λ idle gone. absurd (true≢false (sym runs ∙ idle));
  }
  picked_switched false false anew inside runs renewed has = record {
    leaves = λ ran gone. absurd (true≢false (sym ran ∙ runs));
    comes = λ idle member. absurd (true≢false (sym member ∙ inside));
    restarts = λ ran member new. absurd (true≢false (sym member ∙ inside));
    stays = λ ran member kept. absurd (true≢false (sym member ∙ inside));
    out = λ idle gone. refl;
  }

-- ---- One interface

same_reference : (set : Places) (whose : Whose) → is_reference_of set whose ≡ is_exported_by set whose
same_reference set (of_joint component joint) = refl
same_reference set (of_controller place) = refl

let_go_by : (s : State) (ceased : Places) (v : InterfaceValue) (freed : Bool)
    → is_let_go s.description.controllers ceased v.interface ≡ freed
    → IsLetGo s ceased v (if freed then unset v.interface else v)
let_go_by s ceased v true is = record { emptied = λ gone. refl; held = λ kept. absurd (true≢false (sym is ∙ kept)) }
let_go_by s ceased v false is = record { emptied = λ gone. absurd (true≢false (sym gone ∙ is)); held = λ kept. refl }

-- ---- What stays

-- what is activated is at rest as it was
rest_same : (l : Loaded) (params : Option Params) (states : List ℤ) (chained : Bool)
    → ◌≡◌ {A = CtlData} (record (activated_by l.ctl params states chained) { run = None }) (record l.ctl { run = None })
rest_same l None states chained = refl
rest_same l (Some given) states chained = refl

module _ (s : State) (set again : Places) where
  abbrev stopped : Places
  stopped = is_stopped (scene_of s) set again

  abbrev changed : Loaded → Loaded
  changed = committed s set stopped (is_started (scene_of s) set again)

  rests_as_before : (l : Loaded) → at_rest (changed l) ≡ at_rest l
  rests_as_before l = either (is_started (scene_of s) set again l.place) (stopped l.place)
    where
      either : (b c : Bool) → at_rest (if b then coming s set l else (if c then leaving l else l)) ≡ at_rest l
      either true c =
          ap (λ (ctl : CtlData). record l { ctl = ctl; mail = None })
          (rest_same l l.ctl.params (states_for s.values (described_of s l))
          (is_chained_in s.description.controllers set l.place))
      either false true = refl
      either false false = refl

  -- A commit leaves what no request changes.
  pub commit_lasts : lasting (commit s set again) ≡ lasting s
  unfolding commit
  commit_lasts =
      ap₂ (λ (ls : List Loaded) (vs : List InterfaceValue). record s
      { loaded = ls; lives = []; values = vs; outcomes = [] })
      (map_leaves at_rest changed rests_as_before s.loaded)
      (map_leaves (λ v. unset v.interface) (freed_of s stopped)
      (λ v. ap unset (freed_interface v (is_freed s stopped v.interface))) s.values)

  -- ---- A commit

  module _ (kept : IsInOrder s) (loaded : AreLoaded s.loaded set) (configured : AreConfigured s.loaded set) where
    -- those that stop are those that leave or restart
    renewed_is : (p : ℕ) → is_renewed s set again p ≡ restarts (scene_of s) set again p
    renewed_is p =
        ap (λ (f : Places). again p
        || differ (is_chained_in s.description.controllers f p) (is_chained_in s.description.controllers set p))
        (sym (scene_active s kept.own))

    ceased_is : stopped ≡ has_ceased s set again
    ceased_is =
        ap (λ (f : Places). λ (p : ℕ). f p
        && (not (set p)
        || (again p || differ (is_chained_in s.description.controllers f p)
        (is_chained_in s.description.controllers set p))))
        (scene_active s kept.own)

    -- at its own place each tells whether it is active
    was : AllByRecursion (λ l. scenes.active (scene_of s) l.place ≡ is_active l) s.loaded
    was = subst (λ f. AllByRecursion (λ l. f l.place ≡ is_active l) s.loaded) (sym (scene_active s kept.own))
        (has_loaded-own is_active s.loaded kept.once)

    let_go_is : (v : InterfaceValue)
        → is_let_go s.description.controllers (has_ceased s set again) v.interface ≡ is_freed s stopped v.interface
    let_go_is v =
        ap (λ (b : Bool). v.interface.called.is_command
        && (is_claimed_by s.description.controllers (has_ceased s set again) v.interface.called.name || b))
        (same_reference (has_ceased s set again) v.interface.whose)
        ∙ ap (λ (f : Places). is_freed s f v.interface) (sym ceased_is)

    -- So a commit of loaded and configured controllers makes them the active ones, each rightly, and lets go what is to
    -- be let go.
    pub commit_switched : HasSwitched s set again (commit s set again)
    unfolding commit
    commit_switched = record {
      set_is = λ p. ap (λ (f : Places). f p) (commit_active s set again kept loaded configured);
      controllers = related_map (IsSwitched s set again) changed s.loaded
          (all_from (λ l. scenes.active (scene_of s) l.place ≡ is_active l)
          (λ l. set l.place ≡ true → is_some l.ctl.params ≡ true) (λ l. IsSwitched s set again l (changed l))
          (λ l runs has. picked_switched s set again l (set l.place) (scenes.active (scene_of s) l.place)
          (restarts (scene_of s) set again l.place) refl (sym runs) (renewed_is l.place) has)
          s.loaded was configured);
      values = related_map (IsLetGo s (has_ceased s set again)) (freed_of s stopped) s.values
          (all_of (λ v. IsLetGo s (has_ceased s set again) v (freed_of s stopped v))
          (λ v. let_go_by s (has_ceased s set again) v (is_freed s stopped v.interface) (let_go_is v)) s.values);
      lives = refl;
    }
