-- What a commit makes of a steady state: the set is active, and the state is steady where the set can run together.
use Rattle.std.proofs.Common.{◌≡◌, ℕ, zero, suc, ℤ, Bool, true, false, List, [], ◌∷◌, map}
use Rattle.std.proofs.Common.{Option, Some, None, refl, sym, subst, ap, ◌∙◌, true≢false}
use Rattle.std.specs.Prelude.{◌==◌, ◌&&◌, ◌||◌, not, if◌then◌else◌, length, is_some, IfSome}
use Rattle.std.specs.List.{list_any, AllByRecursion}
use Rattle.std.proofs.Math.Path.{fun_ext}
use Rattle.std.proofs.lemmas.Bool.{or_from, or_parts}
use Rattle.std.proofs.lemmas.Option.{IfSome_then}
use Rattle.cm_document.proofs.DistinctLemmas.{all_so, all_map}
use Rattle.fixed_num.specs.declared.value.Value.TheVariants.{Unset}
use Rattle.iface_names.specs.declared.interface.IfaceName.{IfaceName}
use Rattle.cm_document.specs.Links.{reference_for, exported_as, exports_any, exported_for, refs_of, is_among}
use Rattle.cm_document.specs.Params.{exports_of}
use Rattle.cm_document.specs.Places.{Whose, of_joint, of_controller}
use Rattle.cm_document.specs.declared.description.CtlDesc.{CtlDesc}
use Rattle.cm_document.specs.declared.description.Exports.{Exports}
use Rattle.cm_document.specs.declared.description.Exports.TheVariants.{Nothing, FirstRead, EachClaim}
use Rattle.cm_document.specs.declared.description.Params.{Params}
use Rattle.cm_document.specs.declared.life.Life.{Life}
use Rattle.cm_document.specs.declared.life.Life.TheVariants.{Unconfigured, Inactive, Active}
use Rattle.sequence.proofs.ListLemmas.{any_map}
use Rattle.cm_model.proofs.InterfaceLemmas.{all_map_back, IsCommandOf, references_command}
use Rattle.cm_model.proofs.KindLemmas.{starts_as}
use Rattle.cm_model.proofs.LoadedLemmas.{and_false, and_swapped, has_loaded-own, has_loaded-changed, any_same, all_from}
use Rattle.cm_model.specs.Claims.{states_for}
use Rattle.cm_model.specs.Commit.{described_of, seen, scene_of, coming, leaving}
use Rattle.cm_model.specs.Commit.{committed, is_exported_by, is_freed, freed_of, commit}
use Rattle.cm_model.specs.Controllers.{started, runs_chained}
use Rattle.cm_model.specs.Loans.{CanRunTogether, IsEmptyUnless, IsUnsetUnlessClaimed, IsMarked}
use Rattle.cm_model.specs.Order.{Places, controller_at, precedes_at, some_below}
use Rattle.cm_model.specs.Scene as scenes
use Rattle.cm_model.specs.Scene.{is_running, claims_at, is_claimed_by, is_chained_in}
use Rattle.cm_model.specs.State.{State, Loaded, is_active, active, available_in, life_of}
use Rattle.cm_model.specs.Steady.{IsOwn, HoldsNumber, HasBody, AreLoaded, AreConfigured, IsInOrder, IsSteady}
use Rattle.cm_model.specs.Switches.{differ, restarts, is_stopped, is_started}
use Rattle.cm_model.specs.Values.{InterfaceValue, unset, running}
use Rattle.cm_model.specs.declared.data.CtlData.{CtlData}
use Rattle.cm_model.specs.declared.data.RunData.{RunData}

-- ---- The active controllers of the scene

-- it runs in the scene where it is active, since it has parameters then
life_runs : (params : Option Params) (run : Option RunData) → (is_some run ≡ true → is_some params ≡ true)
    → is_running (elim params [ None ↦ Unconfigured | Some given ↦ elim run [ None ↦ Inactive | Some part ↦ Active ] ])
    ≡ is_some run
life_runs None None configured = refl
life_runs None (Some part) configured = absurd (true≢false (sym (configured refl)))
life_runs (Some given) None configured = refl
life_runs (Some given) (Some part) configured = refl

-- the active ones of the scene are the active ones
pub scene_active : (s : State) → AllByRecursion (IsOwn s.description.controllers) s.loaded
    → scenes.active (scene_of s) ≡ active s
scene_active s own = fun_ext (λ p.
    any_map (λ each. each.place == p && is_running each.life) (seen s) s.loaded
    ∙ any_same (λ l. l.place == p && is_running (life_of l.ctl)) (λ l. is_active l && l.place == p) s.loaded
    (all_so _ _ (λ l is_own. ap (λ b. l.place == p && b) (life_runs l.ctl.params l.ctl.run is_own.configured)
    ∙ and_swapped (l.place == p) (is_active l)) s.loaded own))

-- ---- One controller

-- What becomes of a controller, by whether it is a member, whether it was active and whether it restarts: it comes, it
-- leaves, or it stays as it was.
chosen : (P : Loaded → Type 0) (member was again : Bool) (come leave stay : Loaded) → (member ≡ true → P come)
    → (member ≡ false → P leave)
    → (member ≡ true → was ≡ true → again ≡ false → P stay) → (member ≡ false → was ≡ false → P stay)
    → P (if member && (not was || again) then come else (if was && (not member || again) then leave else stay))
chosen P true true true come leave stay comes leaves stays out = comes refl
chosen P true true false come leave stay comes leaves stays out = stays refl refl refl
chosen P true false again come leave stay comes leaves stays out = comes refl
chosen P false true again come leave stay comes leaves stays out = leaves refl
chosen P false false again come leave stay comes leaves stays out = out refl refl

-- a controller that is activated, by its parameters
abbrev pub activated_by : CtlData → Option Params → List ℤ → Bool → CtlData
activated_by ctl params states chained =
    elim params [ None ↦ ctl | Some given ↦ record ctl { run = Some (started given states chained) } ]

-- what is activated runs, where it has parameters
activated_runs : (ctl : CtlData) (params : Option Params) (states : List ℤ) (chained : Bool) → is_some params ≡ true
    → is_some (activated_by ctl params states chained).run ≡ true
activated_runs ctl None states chained some = absurd (true≢false (sym some))
activated_runs ctl (Some given) states chained some = refl

-- it keeps what it is in all but whether it runs
activated_params : (ctl : CtlData) (params : Option Params) (states : List ℤ) (chained : Bool)
    → (activated_by ctl params states chained).params ≡ ctl.params
activated_params ctl None states chained = refl
activated_params ctl (Some given) states chained = refl

-- ---- Chained marks

-- nothing claims a reference of a controller that exports none
any_never : (claims : List IfaceName) → list_any (λ interface. is_among interface []) claims ≡ false
any_never [] = refl
any_never (interface ∷ others) = any_never others

precedes_none : (controllers : List CtlDesc) (q p : ℕ) → refs_of (controller_at controllers p) ≡ []
    → precedes_at controllers q p ≡ false
precedes_none controllers q p none =
    subst (λ refs. list_any (λ interface. is_among interface refs) (controller_at controllers q).claims ≡ false)
    (sym none) (any_never (controller_at controllers q).claims)

chained_none : (controllers : List CtlDesc) (set : Places) (p : ℕ) → refs_of (controller_at controllers p) ≡ []
    → (n : ℕ)
    → some_below (λ q. set q && precedes_at controllers q p) n ≡ false
chained_none controllers set p none zero = refl
chained_none controllers set p none (suc n) =
    rw (chained_none controllers set p none n, precedes_none controllers n p none) (and_false (set n))

-- a controller with such parameters exports none
refs_by : (c : CtlDesc) (params : Params) → params ≡ c.params → map (reference_for c.name) (exported_for params c) ≡ []
    → refs_of c ≡ []
refs_by c params own none = subst (λ given. map (reference_for c.name) (exported_for given c) ≡ []) own none

-- a controller whose parameters export nothing has no references
no_references : (c : CtlDesc) (params : Params) → params ≡ c.params → exports_of params ≡ Nothing → refs_of c ≡ []
no_references c params own none =
    refs_by c params own (ap (λ (exports : Exports). map (reference_for c.name) (exported_as exports c)) none)

-- a controller without references is never chained
marked_by : (controllers : List CtlDesc) (set : Places) (place : ℕ) (params : Params)
    → params ≡ (controller_at controllers place).params → (exports : Exports) → exports_of params ≡ exports
    → (exports_any exports && is_chained_in controllers set place) ≡ is_chained_in controllers set place
marked_by controllers set place params own Nothing is =
    sym (chained_none controllers set place (no_references (controller_at controllers place) params own is)
    (length controllers))
marked_by controllers set place params own FirstRead is = refl
marked_by controllers set place params own EachClaim is = refl

-- What starts with its own parameters is marked as it is started.
started_marked : (controllers : List CtlDesc) (set : Places) (place : ℕ) (params : Params)
    → params ≡ (controller_at controllers place).params → (states : List ℤ)
    → runs_chained (started params states (is_chained_in controllers set place)) ≡ is_chained_in controllers set place
started_marked controllers set place params own states =
    (starts_as params states (is_chained_in controllers set place)).marked
    ∙ marked_by controllers set place params own (exports_of params) refl

-- what comes is marked
come_marked : (controllers : List CtlDesc) (set : Places) (place : ℕ) (ctl : CtlData) (params : Option Params)
    (states : List ℤ)
    → IfSome params (λ given. given ≡ (controller_at controllers place).params) → is_some params ≡ true
    → IfSome (activated_by ctl params states (is_chained_in controllers set place)).run
    (λ part. runs_chained part ≡ is_chained_in controllers set place)
come_marked controllers set place ctl None states own some = absurd (true≢false (sym some))
come_marked controllers set place ctl (Some given) states own some =
    started_marked controllers set place given own states

-- what does not run has no mark
pub none_marked : (run : Option RunData) (P : RunData → Type 0) → is_some run ≡ false → IfSome run P
none_marked None P none = tt
none_marked (Some part) P none = absurd (true≢false none)

-- what does not restart is chained after as before
or_second : (first b : Bool) → (first || b) ≡ false → b ≡ false
or_second true b none = absurd (true≢false none)
or_second false b none = none

differ_same : (first b : Bool) → differ first b ≡ false → first ≡ b
differ_same true true same = refl
differ_same true false same = absurd (true≢false same)
differ_same false true same = absurd (true≢false same)
differ_same false false same = refl

-- ---- What a commit makes of one controller

module _ (s : State) (set again : Places) where
  -- what becomes of an interface
  abbrev freeing : InterfaceValue → InterfaceValue
  freeing = freed_of s (is_stopped (scene_of s) set again)

  -- the controllers, and what becomes of one
  abbrev cs : List CtlDesc
  cs = s.description.controllers

  abbrev changed : Loaded → Loaded
  changed = committed s set (is_stopped (scene_of s) set again) (is_started (scene_of s) set again)

  -- what holds of it as it comes, as it leaves, and as it stays
  by_choice : (P : Loaded → Type 0) (l : Loaded) → (set l.place ≡ true → P (coming s set l))
      → (set l.place ≡ false → P (leaving l))
      → (set l.place ≡ true → scenes.active (scene_of s) l.place ≡ true
      → restarts (scene_of s) set again l.place ≡ false → P l)
      → (set l.place ≡ false → scenes.active (scene_of s) l.place ≡ false → P l) → P (changed l)
  by_choice P l =
      chosen P (set l.place) (scenes.active (scene_of s) l.place) (restarts (scene_of s) set again l.place)
      (coming s set l) (leaving l) l

  stays : (l : Loaded) → (changed l).place ≡ l.place
  stays l = by_choice (λ each. each.place ≡ l.place) l (λ member. refl) (λ other. refl) (λ member active same. refl)
      (λ other inactive. refl)

  -- it runs exactly where it is a member
  runs : (l : Loaded) → scenes.active (scene_of s) l.place ≡ is_active l
      → (set l.place ≡ true → is_some l.ctl.params ≡ true) → is_active (changed l) ≡ set l.place
  runs l was configured = by_choice (λ each. is_active each ≡ set l.place) l
      (λ member. activated_runs l.ctl l.ctl.params _ _ (configured member) ∙ sym member)
      (λ other. sym other)
      (λ member active same. sym was ∙ active ∙ sym member)
      (λ other inactive. sym was ∙ inactive ∙ sym other)

  -- its parameters stay its own
  owns : (l : Loaded) → IsOwn cs l → (set l.place ≡ true → is_some l.ctl.params ≡ true) → IsOwn cs (changed l)
  owns l own configured = by_choice (IsOwn cs) l
      (λ member. record {
        described = rw (activated_params l.ctl l.ctl.params (states_for s.values (described_of s l))
            (is_chained_in cs set l.place)) own.described;
        configured =
            λ runs. rw (activated_params l.ctl l.ctl.params (states_for s.values (described_of s l))
            (is_chained_in cs set l.place)) (configured member);
      })
      (λ other. record { described = own.described; configured = λ runs. absurd (true≢false (sym runs)) })
      (λ member active same. own)
      (λ other inactive. own)

  -- and it says rightly whether it is chained
  marks : (l : Loaded) → IsOwn cs l → IsMarked cs (scenes.active (scene_of s)) l
      → scenes.active (scene_of s) l.place ≡ is_active l
      → (set l.place ≡ true → is_some l.ctl.params ≡ true) → IsMarked cs set (changed l)
  marks l own marked was configured = by_choice (IsMarked cs set) l
      (λ member. come_marked cs set l.place l.ctl l.ctl.params _ own.described (configured member))
      (λ other. tt)
      (λ member active same. IfSome_then l.ctl.run marked
      (λ part mark. mark ∙ differ_same _ _ (or_second (again l.place) _ same)))
      (λ other inactive. none_marked l.ctl.run _ (sym was ∙ inactive))

-- ---- Values

-- what is freed is no state, so states hold what they held
freed_holds : (components : ℕ → Bool) (v : InterfaceValue) (command rest : Bool)
    → v.interface.called.is_command ≡ command → HoldsNumber components v
    → HoldsNumber components (if command && rest then unset v.interface else v)
freed_holds components v true true is_command holds = λ state. absurd (true≢false (sym (rw is_command at state)))
freed_holds components v true false is_command holds = holds
freed_holds components v false rest is_command holds = holds

pub freed_interface : (v : InterfaceValue) (freed : Bool)
    → (if freed then unset v.interface else v).interface ≡ v.interface
freed_interface v true = refl
freed_interface v false = refl

-- what was freed holds nothing, and else what was to be shown is shown of what it held
freed_empty : (there : Whose → Bool) (v : InterfaceValue) (freed : Bool)
    → (there v.interface.whose ≡ false → freed ≡ false → v.value ≡ Unset)
    → IsEmptyUnless there (if freed then unset v.interface else v)
freed_empty there v true held = λ gone. refl
freed_empty there v false held = λ gone. held gone refl

-- a reference whose exporter is no member is freed, or was not available before
not_freed : (was member again claimed : Bool) → member ≡ false → (claimed || (was && (not member || again))) ≡ false
    → was ≡ false
not_freed was member again true out kept = absurd (true≢false kept)
not_freed true true again false out kept = absurd (true≢false out)
not_freed true false again false out kept = absurd (true≢false kept)
not_freed false member again false out kept = refl

-- what is not available after, and was not freed, was not available before
gone_before : (lives : List Life) (before set again : Places) (whose : Whose) (command claimed : Bool)
    → IsCommandOf whose command → available_in lives set whose ≡ false
    → (command && (claimed || is_exported_by (λ p. before p && (not (set p) || again p)) whose)) ≡ false
    → available_in lives before whose ≡ false
gone_before lives before set again (of_joint component joint) command claimed is gone kept = gone
gone_before lives before set again (of_controller place) true claimed is gone kept =
    not_freed (before place) (set place) (again place) claimed gone kept
gone_before lives before set again (of_controller place) false claimed is gone kept = absurd (true≢false (sym is))

pub interfaces_stay : (change : InterfaceValue → InterfaceValue)
    → ((v : InterfaceValue) → (change v).interface ≡ v.interface) → (vs : List InterfaceValue)
    → map (λ v. v.interface) (map change vs) ≡ map (λ v. v.interface) vs
interfaces_stay change stays [] = refl
interfaces_stay change stays (v ∷ vs) = rw (stays v, interfaces_stay change stays vs) refl

pub places_stay : (change : Loaded → Loaded) → ((l : Loaded) → (change l).place ≡ l.place) → (ls : List Loaded)
    → map (λ l. l.place) (map change ls) ≡ map (λ l. l.place) ls
places_stay change stays [] = refl
places_stay change stays (l ∷ ls) = rw (stays l, places_stay change stays ls) refl

-- ---- What nobody claims

-- what is claimed by no member and by none that ceased was claimed by nobody before, of whom each is a member or ceased
unclaimed_at : (before set ceased claims : Bool) → (before ≡ true → set ≡ false → ceased ≡ true)
    → (set && claims) ≡ false → (ceased && claims) ≡ false
    → (before && claims) ≡ false
unclaimed_at false set ceased claims from none others = refl
unclaimed_at true true ceased claims from none others = none
unclaimed_at true false true claims from none others = others
unclaimed_at true false false claims from none others = absurd (true≢false (sym (from refl refl)))

unclaimed_before : (before set ceased claims : Places) → ((p : ℕ) → before p ≡ true → set p ≡ false → ceased p ≡ true)
    → (n : ℕ)
    → some_below (λ q. set q && claims q) n ≡ false → some_below (λ q. ceased q && claims q) n ≡ false
    → some_below (λ q. before q && claims q) n ≡ false
unclaimed_before before set ceased claims from zero none others = refl
unclaimed_before before set ceased claims from (suc n) none others =
    let of_set = or_parts (some_below (λ q. set q && claims q) n) (set n && claims n) none in
    let of_ceased = or_parts (some_below (λ q. ceased q && claims q) n) (ceased n && claims n) others in
    or_from (some_below (λ q. before q && claims q) n) (before n && claims n)
    (unclaimed_before before set ceased claims from n of_set.0 of_ceased.0)
    (unclaimed_at (before n) (set n) (ceased n) (claims n) (from n) of_set.1 of_ceased.1)

-- So a command that no member claims is freed, or was claimed by nobody before.
freed_unclaimed : (controllers : List CtlDesc) (before set ceased : Places) (v : InterfaceValue) (exported : Bool)
    → ((p : ℕ) → before p ≡ true → set p ≡ false → ceased p ≡ true) → IsUnsetUnlessClaimed controllers before v
    → IsUnsetUnlessClaimed controllers set
    (if v.interface.called.is_command && (is_claimed_by controllers ceased v.interface.called.name || exported)
    then unset v.interface else v)
freed_unclaimed controllers before set ceased v exported from unclaimed =
    by_claim v.interface.called.is_command (is_claimed_by controllers ceased v.interface.called.name) refl refl
  where
    not_freed : (b : Bool) → is_claimed_by controllers ceased v.interface.called.name ≡ false
        → IsUnsetUnlessClaimed controllers set (if b then unset v.interface else v)
    not_freed true others = λ command none. refl
    not_freed false others = λ command none.
        unclaimed command
        (unclaimed_before before set ceased (λ q. claims_at controllers q v.interface.called.name) from
        (length controllers) none others)

    by_claim : (command claimed : Bool) → v.interface.called.is_command ≡ command
        → is_claimed_by controllers ceased v.interface.called.name ≡ claimed
        → IsUnsetUnlessClaimed controllers set (if command && (claimed || exported) then unset v.interface else v)
    by_claim false claimed is at = λ command none. absurd (true≢false (sym command ∙ is))
    by_claim true true is at = λ command none. refl
    by_claim true false is at = not_freed exported at

-- who was active and is no member is stopped
leaver_stops : (was member again : Bool) → was ≡ true → member ≡ false → (was && (not member || again)) ≡ true
leaver_stops false member again is out = absurd (true≢false (sym is))
leaver_stops true true again is out = absurd (true≢false out)
leaver_stops true false again is out = refl

-- ---- The law on commit

module _ (s : State) (set again : Places) (kept : IsInOrder s) (loaded : AreLoaded s.loaded set)
    (configured : AreConfigured s.loaded set) where
  -- at its own place each tells whether it is active
  was : AllByRecursion (λ l. scenes.active (scene_of s) l.place ≡ is_active l) s.loaded
  was = subst (λ f. AllByRecursion (λ l. f l.place ≡ is_active l) s.loaded) (sym (scene_active s kept.own))
      (has_loaded-own is_active s.loaded kept.once)

  -- what is known of each before
  known : AllByRecursion
      (λ l. IsOwn s.description.controllers l × IsMarked s.description.controllers (scenes.active (scene_of s)) l)
      s.loaded
  known = all_from _ _ _ (λ l own mark. (own, mark)) s.loaded kept.own
      (subst (λ f. AllByRecursion (IsMarked s.description.controllers f) s.loaded) (sym (scene_active s kept.own))
      kept.marked)

  -- The set is the active one after it.
  pub commit_active : active (commit s set again) ≡ set
  unfolding commit
  commit_active = fun_ext (has_loaded-changed is_active (changed s set again) set s.loaded (stays s set again)
      (all_from _ _ _ (runs s set again) s.loaded was configured) loaded)

  -- and of each where it comes from and to
  both : AllByRecursion
      (λ l. (scenes.active (scene_of s) l.place ≡ is_active l) × (set l.place ≡ true → is_some l.ctl.params ≡ true))
      s.loaded
  both = all_from _ _ _ (λ l first second. (first, second)) s.loaded was configured

  marks_after : AllByRecursion (IsMarked s.description.controllers set) (map (changed s set again) s.loaded)
  marks_after = all_map _ (changed s set again) s.loaded
      (all_from (λ l. IsOwn s.description.controllers l
      × IsMarked s.description.controllers (scenes.active (scene_of s)) l)
      (λ l. (scenes.active (scene_of s) l.place ≡ is_active l) × (set l.place ≡ true → is_some l.ctl.params ≡ true))
      (λ l. IsMarked s.description.controllers set (changed s set again l))
      (λ l first second. marks s set again l first.0 first.1 second.0 second.1) s.loaded known both)

  -- what is not available after it holds nothing
  empty_after : AllByRecursion (IsEmptyUnless (available_in s.lives set)) (map (freeing s set again) s.values)
  empty_after =
      let before : AllByRecursion (IsEmptyUnless (available_in s.lives (scenes.active (scene_of s)))) s.values =
      subst (λ f. AllByRecursion (IsEmptyUnless (available_in s.lives f)) s.values) (sym (scene_active s kept.own))
      kept.empty in
      let commands : AllByRecursion (λ v. IsCommandOf v.interface.whose v.interface.called.is_command) s.values =
      all_map_back (λ x. IsCommandOf x.whose x.called.is_command) (λ (v : InterfaceValue). v.interface) s.values
      (subst (AllByRecursion (λ x. IsCommandOf x.whose x.called.is_command)) (sym kept.described)
      (references_command s.description)) in
      all_map (IsEmptyUnless (available_in s.lives set)) (freeing s set again) s.values
      (all_from (λ v. IsCommandOf v.interface.whose v.interface.called.is_command)
      (IsEmptyUnless (available_in s.lives (scenes.active (scene_of s))))
      (λ v. IsEmptyUnless (available_in s.lives set) (freeing s set again v))
      (λ v command empty. freed_empty (available_in s.lives set) v
      (is_freed s (is_stopped (scene_of s) set again) v.interface) (λ gone freed. empty
      (gone_before s.lives (scenes.active (scene_of s)) set (restarts (scene_of s) set again) v.interface.whose
      v.interface.called.is_command
      (is_claimed_by s.description.controllers (is_stopped (scene_of s) set again) v.interface.called.name) command gone
      freed)))
      s.values commands before)

  -- and neither does a command interface or a reference that no member claims
  unclaimed_after : AllByRecursion (IsUnsetUnlessClaimed s.description.controllers set)
      (map (freeing s set again) s.values)
  unclaimed_after =
      let stopped = is_stopped (scene_of s) set again in
      let before : AllByRecursion (IsUnsetUnlessClaimed s.description.controllers (scenes.active (scene_of s)))
      s.values =
      subst (λ f. AllByRecursion (IsUnsetUnlessClaimed s.description.controllers f) s.values)
      (sym (scene_active s kept.own)) kept.unclaimed in
      all_map (IsUnsetUnlessClaimed s.description.controllers set) (freeing s set again) s.values
      (all_so (IsUnsetUnlessClaimed s.description.controllers (scenes.active (scene_of s)))
      (λ v. IsUnsetUnlessClaimed s.description.controllers set (freeing s set again v))
      (λ v unclaimed. freed_unclaimed s.description.controllers (scenes.active (scene_of s)) set stopped v
      (is_exported_by stopped v.interface.whose)
      (λ p was out. leaver_stops (scenes.active (scene_of s) p) (set p) (restarts (scene_of s) set again p) was out)
      unclaimed) s.values before)

  -- What is kept whichever controllers are active is kept.
  pub commit_in_order : IsInOrder (commit s set again)
  unfolding commit
  commit_in_order = record {
    once = rw (places_stay (changed s set again) (stays s set again) s.loaded) kept.once;
    own = all_map _ (changed s set again) s.loaded (all_from _ _ _ (owns s set again) s.loaded kept.own configured);
    marked = rw commit_active marks_after;
    counted = kept.counted;
    described = interfaces_stay (freeing s set again)
        (λ v. freed_interface v (is_freed s (is_stopped (scene_of s) set again) v.interface)) s.values ∙ kept.described;
    embodied = all_map _ (freeing s set again) s.values
        (all_so (λ v. HasBody (length s.bodies) v.interface.whose)
        (λ v. HasBody (length s.bodies) (freeing s set again v).interface.whose)
        (λ v has. subst (λ interface. HasBody (length s.bodies) interface.whose)
        (sym (freed_interface v (is_freed s (is_stopped (scene_of s) set again) v.interface))) has) s.values
        kept.embodied);
    numbers = all_map _ (freeing s set again) s.values
        (all_so _ _ (λ v holds. freed_holds (running s.lives) v v.interface.called.is_command _ refl holds) s.values
        kept.numbers);
    empty = rw commit_active empty_after;
    unclaimed = rw commit_active unclaimed_after;
  }

  -- A commit of controllers that can run together leaves a steady state.
  pub commit_steady : CanRunTogether s.description s.lives set → IsSteady (commit s set again)
  unfolding commit
  commit_steady together = record { in_order = commit_in_order; together = rw commit_active together }
