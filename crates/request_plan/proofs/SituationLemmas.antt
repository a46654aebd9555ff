-- What is seen of a state after a switch was done, and after a component moved.
use Rattle.std.proofs.Common.{◌≡◌, ℕ, zero, suc, ◌<◌, ◌≤◌, ℤ, Bool, true, false, List, [], ◌∷◌, length, map}
use Rattle.std.proofs.Common.{Option, Some, None, inl, inr, refl, sym, ap, ap₂, ◌∙◌, true≢false, arith}
use Rattle.std.specs.Prelude.{◌==◌, ◌&&◌, ◌||◌, not, if◌then◌else◌, is_some, slice_get}
use Rattle.std.specs.List.{list_any, AllByRecursion}
use Rattle.std.specs.Option.{option_map_or}
use Rattle.std.proofs.lemmas.Bool.{and_parts, and_from, or_cases, cases_lt, eqb-true, eq-eqb}
use Rattle.std.proofs.lemmas.Option.{slice_get-get_or, slice_get_past}
use Rattle.std.proofs.lemmas.List.{get_or_past}
use Rattle.std.specs.Cmp.{both_ways}
use Rattle.cm_document.proofs.DistinctLemmas.{all_so}
use Rattle.iface_names.specs.declared.interface.IfaceName.{IfaceName}
use Rattle.cm_document.specs.Links.{is_among, precedes}
use Rattle.cm_document.specs.declared.description.CtlDesc.{CtlDesc}
use Rattle.cm_document.specs.declared.description.Params.{Params}
use Rattle.cm_document.specs.declared.life.Life.{Life}
use Rattle.cm_document.specs.declared.life.Life.TheVariants.{Unconfigured, Inactive, Active}
use Rattle.cm_model.proofs.CommitLemmas.{scene_active, commit_active, commit_in_order}
use Rattle.cm_model.proofs.LoadedLemmas.{and_false, all_from, has_loaded-own}
use Rattle.cm_model.specs.Claims.{states_for}
use Rattle.cm_model.specs.Commit.{described_of, seen, scene_of, coming, leaving, committed, commit}
use Rattle.cm_model.specs.Controllers.{started, is_ready}
use Rattle.cm_model.specs.Order.{Places, nobody, controller_at, precedes_at, some_below}
use Rattle.cm_model.specs.Scene as scenes
use Rattle.cm_model.specs.Scene.{is_running, is_chained_in}
use Rattle.cm_model.specs.State.{State, Loaded, life_of, is_active, active, is_chained, precedes_described}
use Rattle.cm_model.specs.Steady.{has_loaded, IsOwn, AreLoaded, AreConfigured, IsInOrder}
use Rattle.cm_model.specs.Switches.{restarts, is_stopped, is_started}
use Rattle.cm_model.specs.declared.data.CtlData.{CtlData}
use Rattle.cm_model.specs.declared.data.RunData.{RunData}
use Rattle.cm_model.specs.declared.seen.Seen.{Seen}
use Rattle.switch_plan.proofs.ElementLemmas.{some_of, any_from}
use Rattle.switch_plan.proofs.TestLemmas.{some_below-from}

-- ---- Who is chained

from_below : (test : ℕ → Bool) (n : ℕ) → some_below test n ≡ true → (p : ℕ) × (p < n) × (test p ≡ true)
from_below test zero any = absurd (true≢false (sym any))
from_below test (suc n) any =
    elim (or_cases (some_below test n) (test n) any) [
      | inl before ↦ let r = from_below test n before in (r.0, (let less : r.0 < n = r.1 in omega (arith, less)), r.2)
      | inr here ↦ (n, omega arith, here)
    ]

-- What an active controller precedes is chained in the set of the active ones, and nothing else is.
module _ (cs : List CtlDesc) (ls : List Loaded) (p : ℕ) where
  abbrev c : CtlDesc
  c = controller_at cs p

  -- what is described at a place precedes it
  leads : (q : ℕ) → option_map_or (λ other. precedes other c) (slice_get cs q) false ≡ true
      → (q < length cs) × (precedes_at cs q p ≡ true)
  leads q is =
      elim (cases_lt q (length cs)) [
        | inl below ↦ (
          below,
          ap (λ o. option_map_or (λ other. precedes other c) o false) (sym (slice_get-get_or cs q nobody below)) ∙ is,
        )
        | inr past ↦ absurd
            (true≢false (sym is
            ∙ ap (λ o. option_map_or (λ other. precedes other c) o false) (slice_get_past cs q past)))
      ]

  pub chained_among : list_any (λ l. is_active l && precedes_described cs c l) ls
      ≡ is_chained_in cs (has_loaded is_active ls) p
  chained_among =
      both_ways (list_any (λ l. is_active l && precedes_described cs c l) ls)
      (is_chained_in cs (has_loaded is_active ls) p)
      (λ any.
      let l = some_of (λ (l : Loaded). is_active l && precedes_described cs c l) ls any in
      let parts = and_parts (is_active l.0) (precedes_described cs c l.0) l.2 in
      let leading = leads l.0.place parts.1 in
      some_below-from (λ q. has_loaded is_active ls q && precedes_at cs q p) (length cs) l.0.place leading.0
      (and_from (has_loaded is_active ls l.0.place) (precedes_at cs l.0.place p)
      (any_from (λ (m : Loaded). is_active m && m.place == l.0.place) ls l.0 l.1
      (and_from (is_active l.0) (l.0.place == l.0.place) parts.0 (eq-eqb l.0.place l.0.place refl)))
      leading.1))
      (λ any.
      let q = from_below (λ q. has_loaded is_active ls q && precedes_at cs q p) (length cs) any in
      let parts = and_parts (has_loaded is_active ls q.0) (precedes_at cs q.0 p) q.2 in
      let l = some_of (λ (l : Loaded). is_active l && l.place == q.0) ls parts.0 in
      let runs = and_parts (is_active l.0) (l.0.place == q.0) l.2 in
      let there : slice_get cs l.0.place ≡ Some (controller_at cs q.0) =
      ap (slice_get cs) (eqb-true l.0.place q.0 runs.1) ∙ slice_get-get_or cs q.0 nobody q.1 in
      any_from (λ (l : Loaded). is_active l && precedes_described cs c l) ls l.0 l.1
      (and_from (is_active l.0) (precedes_described cs c l.0) runs.0
      (ap (λ o. option_map_or (λ other. precedes other c) o false) there ∙ parts.1)))

-- none is chained past the described controllers
pub chained_past : (cs : List CtlDesc) (set : Places) (p : ℕ) → length cs ≤ p → is_chained_in cs set p ≡ false
chained_past cs set p past = none (length cs)
  where
    at : controller_at cs p ≡ nobody
    at = get_or_past cs p nobody past

    any_never : (claims : List IfaceName) → list_any (λ interface. is_among interface []) claims ≡ false
    any_never [] = refl
    any_never (interface ∷ others) = any_never others

    never : (q : ℕ) → precedes_at cs q p ≡ false
    never q = ap (precedes (controller_at cs q)) at ∙ any_never (controller_at cs q).claims

    none : (n : ℕ) → some_below (λ q. set q && precedes_at cs q p) n ≡ false
    none zero = refl
    none (suc n) = ap₂ (λ a b. a || (set n && b)) (none n) (never n) ∙ and_false (set n)

-- ---- One controller after a switch

-- it is in this lifecycle state by its parameters and whether it runs
abbrev life_by : Option Params → Option RunData → Life
life_by params run =
    elim params [ None ↦ Unconfigured | Some given ↦ elim run [ None ↦ Inactive | Some part ↦ Active ] ]

-- a controller that is activated, by its parameters
abbrev activated_by : CtlData → Option Params → List ℤ → Bool → CtlData
activated_by ctl params states chained =
    elim params [ None ↦ ctl | Some given ↦ record ctl { run = Some (started given states chained) } ]

comes_alive : (ctl : CtlData) (params : Option Params) (states : List ℤ) (chained : Bool) → ctl.params ≡ params
    → is_some params ≡ true
    → life_of (activated_by ctl params states chained) ≡ Active
comes_alive ctl None states chained is some = absurd (true≢false (sym some))
comes_alive ctl (Some given) states chained is some = ap (λ o. life_by o (Some (started given states chained))) is

stays_ready : (ctl : CtlData) (params : Option Params) (states : List ℤ) (chained : Bool) (cycle : ℕ)
    → is_ready (activated_by ctl params states chained) cycle ≡ is_ready ctl cycle
stays_ready ctl None states chained cycle = refl
stays_ready ctl (Some given) states chained cycle = refl

-- it runs in the scene where it is active, since it has parameters then
pub runs_in_scene : {cs : List CtlDesc} (l : Loaded) → IsOwn cs l → is_running (life_of l.ctl) ≡ is_active l
runs_in_scene l own = by l.ctl.params l.ctl.run own.configured
  where
    by : (params : Option Params) (run : Option RunData) → (is_some run ≡ true → is_some params ≡ true)
        → is_running (life_by params run) ≡ is_some run
    by None None configured = refl
    by None (Some part) configured = absurd (true≢false (sym (configured refl)))
    by (Some given) None configured = refl
    by (Some given) (Some part) configured = refl

falls_still : (params : Option Params) → is_some params ≡ true → life_by params None ≡ Inactive
falls_still None some = absurd (true≢false (sym some))
falls_still (Some given) some = refl

module _ (s : State) (set again : Places) (kept : IsInOrder s) (loaded : AreLoaded s.loaded set)
    (configured : AreConfigured s.loaded set) where
  abbrev stopped : Places
  stopped = is_stopped (scene_of s) set again

  abbrev starts : Places
  starts = is_started (scene_of s) set again

  abbrev after : State
  after = commit s set again

  abbrev change : Loaded → Loaded
  change = committed s set stopped starts

  -- a controller after the switch
  abbrev shown : Seen → Seen
  shown l = record l {
    life = if starts l.place then Active else (if stopped l.place then Inactive else l.life);
    chained = set l.place && is_chained_in s.description.controllers set l.place;
  }

  -- what is known of each
  record IsKnown (l : Loaded) : Type 0 where
    own : IsOwn s.description.controllers l
    at_place : has_loaded is_active s.loaded l.place ≡ is_active l
    fit : set l.place ≡ true → is_some l.ctl.params ≡ true

  -- its lifecycle state, by whether it starts and stops
  life_is : (b c : Bool) (l : Loaded) → IsKnown l → (b ≡ true → set l.place ≡ true) → (c ≡ true → is_active l ≡ true)
      → life_of (if b then coming s set l else (if c then leaving l else l)).ctl
      ≡ (if b then Active else (if c then Inactive else life_of l.ctl))
  life_is true c l known member active =
      comes_alive l.ctl l.ctl.params (states_for s.values (described_of s l))
      (is_chained_in s.description.controllers set l.place) refl (known.fit (member refl))
  life_is false true l known member active = falls_still l.ctl.params (known.own.configured (active refl))
  life_is false false l known member active = refl

  -- all else that is seen of it
  ready_is : (b c : Bool) (l : Loaded)
      → is_ready (if b then coming s set l else (if c then leaving l else l)).ctl s.ended ≡ is_ready l.ctl s.ended
  ready_is true c l =
      stays_ready l.ctl l.ctl.params (states_for s.values (described_of s l))
      (is_chained_in s.description.controllers set l.place) s.ended
  ready_is false true l = refl
  ready_is false false l = refl

  place_is : (b c : Bool) (l : Loaded) → (if b then coming s set l else (if c then leaving l else l)).place ≡ l.place
  place_is true c l = refl
  place_is false true l = refl
  place_is false false l = refl

  serial_is : (b c : Bool) (l : Loaded) → (if b then coming s set l else (if c then leaving l else l)).serial ≡ l.serial
  serial_is true c l = refl
  serial_is false true l = refl
  serial_is false false l = refl

  -- it starts only as a member, and stops only where it was active
  starts_member : (p : ℕ) → starts p ≡ true → set p ≡ true
  starts_member p is =
      (and_parts (set p) (not (scenes.active (scene_of s) p) || restarts (scene_of s) set again p) is).0

  stops_active : (l : Loaded) → IsKnown l → stopped l.place ≡ true → is_active l ≡ true
  stops_active l known is =
      sym known.at_place ∙ ap (λ f. f l.place) (sym (scene_active s kept.own))
      ∙ (and_parts (scenes.active (scene_of s) l.place) (not (set l.place) || restarts (scene_of s) set again l.place)
      is).0

  -- the marks after it
  chained_after : (l : Loaded) → is_active l ≡ set l.place
      → is_active l && is_chained after (described_of after l)
      ≡ (set l.place && is_chained_in s.description.controllers set l.place)
  unfolding commit
  chained_after l runs =
      ap₂ (λ a b. a && b) runs
      (chained_among s.description.controllers after.loaded l.place
      ∙ ap (λ f. is_chained_in s.description.controllers f l.place) (commit_active s set again kept loaded configured))

  -- So one is seen after it.
  seen_is : (l : Loaded) → IsKnown l → is_active (change l) ≡ set (change l).place
      → seen after (change l) ≡ shown (seen s l)
  unfolding commit
  seen_is l known runs =
      let at : (change l).place ≡ l.place = place_is (starts l.place) (stopped l.place) l in
      let one : Seen = record {
        serial = l.serial;
        place = l.place;
        life = life_of (change l).ctl;
        chained = is_active (change l) && is_chained after (described_of after (change l));
        ready = is_ready (change l).ctl s.ended;
      } in
      let first : seen after (change l) ≡ one =
      ap₂ (λ serial place. let x : Seen = record {
        serial = serial;
        place = place;
        life = life_of (change l).ctl;
        chained = is_active (change l) && is_chained after (described_of after (change l));
        ready = is_ready (change l).ctl s.ended;
      } in x) (serial_is (starts l.place) (stopped l.place) l) at in
      first
      ∙ ap₂ (λ life ready. let x : Seen = record {
        serial = l.serial;
        place = l.place;
        life = life;
        chained = is_active (change l) && is_chained after (described_of after (change l));
        ready = ready;
      } in x) (life_is (starts l.place) (stopped l.place) l known (starts_member l.place) (stops_active l known))
      (ready_is (starts l.place) (stopped l.place) l)
      ∙ ap (λ chained. let x : Seen = record {
        serial = l.serial;
        place = l.place;
        life = if starts l.place then Active else (if stopped l.place then Inactive else life_of l.ctl);
        chained = chained;
        ready = is_ready l.ctl s.ended;
      } in x) (chained_after (change l) runs ∙ ap (λ p. set p && is_chained_in s.description.controllers set p) at)

  -- ---- All controllers

  known : AllByRecursion IsKnown s.loaded
  known =
      all_from (IsOwn s.description.controllers)
      (λ l. (has_loaded is_active s.loaded l.place ≡ is_active l) × (set l.place ≡ true → is_some l.ctl.params ≡ true))
      IsKnown
      (λ l own both. record { own = own; at_place = both.0; fit = both.1 }) s.loaded kept.own
      (all_from (λ l. has_loaded is_active s.loaded l.place ≡ is_active l)
      (λ l. set l.place ≡ true → is_some l.ctl.params ≡ true)
      (λ l. (has_loaded is_active s.loaded l.place ≡ is_active l) × (set l.place ≡ true → is_some l.ctl.params ≡ true))
      (λ l active configured. (active, configured)) s.loaded (has_loaded-own is_active s.loaded kept.once) configured)

  -- who runs after it is a member
  running_after : AllByRecursion (λ l. is_active l ≡ set l.place) after.loaded
  running_after =
      let whole = commit_in_order s set again kept loaded configured in
      all_so (λ l. has_loaded is_active after.loaded l.place ≡ is_active l) (λ l. is_active l ≡ set l.place)
      (λ l own. sym own ∙ ap (λ f. f l.place) (commit_active s set again kept loaded configured)) after.loaded
      (has_loaded-own is_active after.loaded whole.once)

  each_shown : (ls : List Loaded) → AllByRecursion IsKnown ls
      → AllByRecursion (λ l. is_active l ≡ set l.place) (map change ls)
      → map (seen after) (map change ls) ≡ map shown (map (seen s) ls)
  each_shown [] each runs = refl
  each_shown (l ∷ ls) each runs = ap₂ (λ x xs. x ∷ xs) (seen_is l each.0 runs.0) (each_shown ls each.1 runs.1)

  -- What is seen after a switch.
  pub loaded_shown : map (seen after) after.loaded ≡ map shown (map (seen s) s.loaded)
  unfolding commit
  loaded_shown = each_shown s.loaded known running_after
