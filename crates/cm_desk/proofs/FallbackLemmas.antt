-- Those that are to stand in after a cycle are described at the places that are kept of it.
use Rattle.std.proofs.Common.{◌≡◌, ℕ, zero, suc, List, [], ◌∷◌, ◌++◌, map, Option, Some}
use Rattle.std.proofs.Common.{None, refl, sym, ap, ap₂, subst, ◌∙◌, true≢false}
use Rattle.std.specs.Prelude.{◌==◌, ◌&&◌, not, filter, find, flat_map, slice_get, option_map, unwrap_or}
use Rattle.std.specs.List.{Contains, IsDistinct}
use Rattle.std.specs.Option.{option_map_or}
use Rattle.std.proofs.lemmas.Bool.{eq-eqb, eqb-true}
use Rattle.std.proofs.lemmas.Option.{slice_get-get_or}
use Rattle.cm_document.specs.declared.description.CtlDesc.{CtlDesc}
use Rattle.cm_model.specs.Commit.{described_of}
use Rattle.cm_model.specs.Cycle.{active_order, is_due_now, is_held_off, updated_in}
use Rattle.cm_model.specs.Cycle.{is_error, fallbacks_of, fallbacks_after}
use Rattle.cm_model.specs.Order.{controller_at}
use Rattle.cm_model.specs.Serials.{IsNumbered}
use Rattle.cm_model.specs.State.{State, Loaded}
use Rattle.cm_model.specs.declared.member.Member.{Member}
use Rattle.cm_model.proofs.UpdateLemmas.{cycle_tells}
use Rattle.cm_storage.specs.Ran.{Ran}
use Rattle.cm_slots.proofs.LentLemmas.{find_there}
use Rattle.sound_laws.proofs.ActiveLemmas.{from_active_order}
use Rattle.stop_plan.specs.Ending.{told_in, erred_in, member_of, members_in_order}
use Rattle.switch_plan.proofs.ElementLemmas.{here, later, Contains-map, Contains-map_back}
use Rattle.switch_plan.proofs.ElementLemmas.{found, not_found, filter_back}
use Rattle.cm_resources.specs.CycleResources.{place_among}
use Rattle.cm_desk.specs.Works.{fallbacks_at, stand_ins_for}

-- the fallbacks at a place are those of the controller there
at_place : (cs : List CtlDesc) (place : ℕ)
    → option_map_or (λ (c : CtlDesc). c.fallback) (slice_get cs place) [] ≡ (controller_at cs place).fallback
at_place [] place = refl
at_place (c ∷ cs) zero = refl
at_place (c ∷ cs) (suc place) = at_place cs place

-- what is the same of each of a list is the same of all
each_same : (f g : ℕ → List (List ℕ)) (change : ℕ → ℕ) (ns : List ℕ) → ((n : ℕ) → Contains ns n → f (change n) ≡ g n)
    → flat_map f (map change ns) ≡ flat_map g ns
each_same f g change [] each = refl
each_same f g change (n ∷ ns) each =
    ap₂ (λ (first others : List (List ℕ)). first ++ others) (each n (here n ns))
    (each_same f g change ns (λ m inside. each m (later n ns m inside)))

-- the loaded controller of a serial is found by it
found_by : (s : State) → IsDistinct (λ m n. m == n) (map (λ (l : Loaded). l.serial) s.loaded) → (l : Loaded) (n : ℕ)
    → Contains s.loaded l → l.serial ≡ n
    → find (λ (each : Loaded). each.serial == n) s.loaded ≡ Some l
found_by s once l n inside is =
    let there : slice_get s.loaded inside.0 ≡ Some l =
    slice_get-get_or s.loaded inside.0 l inside.1 ∙ ap Some inside.2 in
    subst (λ (k : ℕ). find (λ (each : Loaded). each.serial == k) s.loaded ≡ Some l) is
    (find_there s.loaded inside.0 l once there)

-- whose update failed is active
erred_runs : (s : State) (n : ℕ) → Contains (erred_in (told_in s)) n
    → (l : Loaded) × Contains (active_order s) l × (l.serial ≡ n)
erred_runs s n inside =
    let one = Contains-map_back (λ (each : Ran). each.serial) (filter (λ (each : Ran). is_error each.done) (told_in s))
    n inside in
    let told = filter_back (λ (each : Ran). is_error each.done) (told_in s) one.0 one.1 in
    let updated : Contains (map (λ (l : Loaded). l.serial) (updated_in s)) one.0.serial =
    subst (λ (ns : List ℕ). Contains ns one.0.serial) (cycle_tells s)
    (Contains-map (λ (each : Ran). each.serial) (told_in s) one.0 told.0) in
    let l = Contains-map_back (λ (l : Loaded). l.serial) (updated_in s) one.0.serial updated in (
      l.0,
      (filter_back (λ (each : Loaded). is_due_now s each && not (is_held_off s each)) (active_order s) l.0 l.1).0,
      l.2 ∙ one.2,
    )

-- the fallbacks at the place that is found among the active controllers are those of the loaded one
found_fallbacks : (s : State) → IsDistinct (λ m n. m == n) (map (λ (l : Loaded). l.serial) s.loaded)
    → (n : ℕ) (o : Option Member) → find (λ (m : Member). m.serial == n) (members_in_order s) ≡ o
    → (o ≡ None → ⊥)
    → fallbacks_at s.description (unwrap_or (option_map (λ (m : Member). m.place) o) 0) ≡ fallbacks_of s n
found_fallbacks s once n None is some = absurd (some refl)
found_fallbacks s once n (Some m) is some =
    let inside = found (λ (each : Member). each.serial == n) (members_in_order s) m is in
    let l = Contains-map_back member_of (active_order s) m inside.0 in
    let serial : l.0.serial ≡ n = ap (λ (each : Member). each.serial) l.2 ∙ eqb-true m.serial n inside.1 in
    let loaded = found_by s once l.0 n (from_active_order s l.0 l.1).0 serial in
    at_place s.description.controllers m.place
    ∙ ap (λ (place : ℕ). (controller_at s.description.controllers place).fallback)
    (sym (ap (λ (each : Member). each.place) l.2))
    ∙ sym (ap (λ (each : Option Loaded). option_map_or (λ (one : Loaded). (described_of s one).fallback) each [])
    loaded)

fallbacks_same : (s : State) → IsDistinct (λ m n. m == n) (map (λ (l : Loaded). l.serial) s.loaded) → (n : ℕ)
    → Contains (erred_in (told_in s)) n
    → fallbacks_at s.description (place_among (members_in_order s) n) ≡ fallbacks_of s n
fallbacks_same s once n inside =
    let l = erred_runs s n inside in
    found_fallbacks s once n (find (λ (m : Member). m.serial == n) (members_in_order s)) refl
    (λ none. true≢false
    (sym (eq-eqb l.0.serial n l.2)
    ∙ not_found (λ (m : Member). m.serial == n) (members_in_order s) none (member_of l.0)
    (Contains-map member_of (active_order s) l.0 l.1)))

-- So are those of all whose update failed.
pub stand_ins_after : (s : State) → IsNumbered s
    → stand_ins_for s.description (map (place_among (members_in_order s)) (erred_in (told_in s)))
    ≡ fallbacks_after s (told_in s)
stand_ins_after s numbered =
    each_same (fallbacks_at s.description) (fallbacks_of s) (place_among (members_in_order s)) (erred_in (told_in s))
    (fallbacks_same s numbered.once)
