-- Which loaded controllers have parameters: those that are active, and those that nothing on a list speaks against.
use Rattle.std.proofs.Common.{◌≡◌, ℕ, Bool, true, false, List, [], ◌∷◌, Option, Some}
use Rattle.std.proofs.Common.{None, inl, inr, refl, sym, ◌∙◌, subst, ap, true≢false}
use Rattle.std.specs.Prelude.{◌==◌, ◌&&◌, not, if◌then◌else◌, is_some}
use Rattle.std.specs.List.{AllByRecursion, Contains, list_any}
use Rattle.std.specs.Option.{option_map_or}
use Rattle.std.proofs.lemmas.Bool.{and_parts, and_from, eq-eqb}
use Rattle.iface_names.specs.Names.{same_name}
use Rattle.cm_document.proofs.DistinctLemmas.{all_so}
use Rattle.cm_document.specs.declared.description.Params.{Params}
use Rattle.cm_document.specs.declared.life.Life.TheVariants.{Unconfigured, Inactive, Active}
use Rattle.cm_model.proofs.CommitLemmas.{commit_steady}
use Rattle.cm_model.proofs.LoadedLemmas.{has_loaded-own}
use Rattle.cm_model.specs.Commit.{seen, scene_of, commit}
use Rattle.cm_model.specs.Order.{Places}
use Rattle.cm_model.specs.Scene.{is_running, is_configured, loaded_of}
use Rattle.cm_model.specs.Sound.{CanRunTogether}
use Rattle.cm_model.specs.State.{State, Loaded, is_active, active, life_of}
use Rattle.cm_model.specs.Steady.{has_loaded, IsOwn, AreLoaded, AreConfigured, IsInOrder, IsSteady}
use Rattle.cm_model.specs.Switches.{on_cause, on_fault}
use Rattle.cm_model.specs.declared.cause.Cause.{Cause}
use Rattle.cm_model.specs.declared.cause.Cause.TheVariants as cause
use Rattle.cm_model.specs.declared.data.RunData.{RunData}
use Rattle.cm_model.specs.declared.seen.Seen.{Seen}
use Rattle.switch_plan.proofs.CauseLemmas.{loaded_called}
use Rattle.switch_plan.proofs.ElementLemmas.{here, later, none_inside, first_or_later}
use Rattle.switch_plan.proofs.ElementLemmas.{some_of, any_from, Contains-map_back}

-- ---- Lists

pub all_at : {A : Type 0} (P : A → Type 0) (xs : List A) → AllByRecursion P xs → (x : A) → Contains xs x → P x
all_at P [] all x inside = absurd (none_inside x inside)
all_at P (y ∷ ys) all x inside =
    elim (first_or_later y ys x inside) [
      | inl same ↦ subst P same all.0
      | inr after ↦ all_at P ys all.1 x after
    ]

-- what holds of each item of a list holds of all
pub all_each : {A : Type 0} (P : A → Type 0) (xs : List A) → ((x : A) → Contains xs x → P x) → AllByRecursion P xs
all_each P [] each = tt
all_each P (x ∷ xs) each = (each x (here x xs), all_each P xs (λ y inside. each y (later x xs y inside)))

-- ---- Sets of controllers with parameters

-- it has parameters
abbrev pub has_params : Loaded → Bool
has_params l = is_some l.ctl.params

-- each of the set is loaded with parameters
abbrev pub HaveParams : List Loaded → Places → Type 0
HaveParams loaded set = (p : ℕ) → set p ≡ true → has_loaded has_params loaded p ≡ true

-- a weaker test passes too
weaker : (test other : Loaded → Bool) (ls : List Loaded) (p : ℕ)
    → ((l : Loaded) → Contains ls l → test l ≡ true → other l ≡ true)
    → has_loaded test ls p ≡ true → has_loaded other ls p ≡ true
weaker test other ls p follows any =
    let r = some_of (λ (l : Loaded). test l && l.place == p) ls any in
    let parts = and_parts (test r.0) (r.0.place == p) r.2 in
    any_from (λ (l : Loaded). other l && l.place == p) ls r.0 r.1
    (and_from (other r.0) (r.0.place == p) (follows r.0 r.1 parts.0) parts.1)

pub params_loaded : (ls : List Loaded) (set : Places) → HaveParams ls set → AreLoaded ls set
params_loaded ls set params p inside =
    let r = some_of (λ (l : Loaded). has_params l && l.place == p) ls (params p inside) in
    any_from (λ (l : Loaded). l.place == p) ls r.0 r.1 (and_parts (has_params r.0) (r.0.place == p) r.2).1

-- the active ones have
pub active_params : (s : State) → IsInOrder s → HaveParams s.loaded (active s)
active_params s kept p runs =
    weaker is_active has_params s.loaded p
    (λ l inside active. (all_at (IsOwn s.description.controllers) s.loaded kept.own l inside).configured active) runs

pub params_configured : (s : State) (set : Places) → IsInOrder s → HaveParams s.loaded set → AreConfigured s.loaded set
params_configured s set kept params =
    all_so (λ l. has_loaded has_params s.loaded l.place ≡ has_params l)
    (λ l. set l.place ≡ true → is_some l.ctl.params ≡ true)
    (λ l own inside. sym own ∙ params l.place inside) s.loaded (has_loaded-own has_params s.loaded kept.once)

-- A commit of a set that has parameters and can run together leaves a steady state.
pub commit_of : (s : State) (set again : Places) → IsInOrder s → HaveParams s.loaded set
    → CanRunTogether s.description s.lives set → IsSteady (commit s set again)
commit_of s set again kept params together =
    commit_steady s set again kept (params_loaded s.loaded set params) (params_configured s set kept params) together

-- ---- On a list to activate

configured_params : (params : Option Params) (run : Option RunData)
    → is_configured (elim params [ None ↦ Unconfigured | Some p ↦ elim run [ None ↦ Inactive | Some r ↦ Active ] ])
    ≡ true → is_some params ≡ true
configured_params None run bare = absurd (true≢false (sym bare))
configured_params (Some p) run configured = refl

if_configured : (configured : Bool) (o : Option Cause) → (if configured then o else Some cause.NotConfigured) ≡ None
    → configured ≡ true
if_configured true o none = refl
if_configured false o none = cc

on_configured : (leaving : Places) (twice : Bool) (l : Seen) → on_cause leaving twice l ≡ None
    → is_configured l.life ≡ true
on_configured leaving true l none = cc
on_configured leaving false l none =
    if_configured (is_configured l.life)
    (if is_running l.life && not (leaving l.place) then Some cause.AlreadyActive else None) none

-- what nothing speaks against has
pub faultless_params : (s : State) (leaving : Places) (before : List (List ℕ)) (name : List ℕ) (l : Seen)
    → loaded_of (scene_of s) name ≡ Some l
    → on_fault (scene_of s) leaving before name ≡ None → has_loaded has_params s.loaded l.place ≡ true
faultless_params s leaving before name l is none =
    let configured = on_configured leaving (list_any (same_name name) before) l
    (ap (λ o. option_map_or (on_cause leaving (list_any (same_name name) before)) o (Some cause.Unknown)) (sym is)
    ∙ none) in
    let m = Contains-map_back (seen s) s.loaded l (loaded_called (scene_of s) name l is).loaded in
    let at : m.0.place ≡ l.place = ap (λ (x : Seen). x.place) m.2 in
    let life : is_configured (life_of m.0.ctl) ≡ true = ap (λ (x : Seen). is_configured x.life) m.2 ∙ configured in
    any_from (λ (k : Loaded). has_params k && k.place == l.place) s.loaded m.0 m.1
    (and_from (has_params m.0) (m.0.place == l.place) (configured_params m.0.ctl.params m.0.ctl.run life)
    (eq-eqb m.0.place l.place at))
