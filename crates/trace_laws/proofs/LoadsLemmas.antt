-- Each load that gives a serial gives the next one, and no other call gives one: so there are as many names as loads.
use Rattle.std.proofs.Common.{◌≡◌, ℕ, ◌+◌, ◌<◌, List, [], ◌∷◌, length, Bool, Option, Some}
use Rattle.std.proofs.Common.{None, refl, sym, ap, ◌∙◌, inl, inr, arith, ltb-true, add-zero}
use Rattle.std.specs.Prelude.{slice_get, option_map, position}
use Rattle.std.specs.List.{cons_option, position_or_len}
use Rattle.std.proofs.lemmas.Option.{cond_some, same_Some, slice_get_cases}
use Rattle.cm_document.specs.declared.call.Call.{Call}
use Rattle.cm_document.specs.declared.call.Call.TheVariants.{Load, Configure, Cleanup, Unload, Rate, Send}
use Rattle.cm_document.specs.declared.call.Call.TheVariants.{Switch, Hardware, Told, Await, ListControllers}
use Rattle.cm_document.specs.declared.call.Call.TheVariants.{ListInterfaces, ListComponents, Begin, End, Close}
use Rattle.cm_document.specs.declared.description.CtlDesc.{CtlDesc}
use Rattle.cm_document.specs.declared.life.Life.{Life}
use Rattle.cm_storage.specs.Kept.{load_name}
use Rattle.cm_model.specs.BestEffort.{decided}
use Rattle.cm_model.specs.Boundary.{waiting, standing_in, after_standing_in, after_fallbacks, request_effect}
use Rattle.cm_model.specs.Boundary.{with_switch, component_place, move_fault, with_move_unless, with_move}
use Rattle.cm_model.specs.Boundary.{concluded, with_outcome, all_concluded, boundary}
use Rattle.cm_model.specs.Commit.{scene_of, commit}
use Rattle.cm_model.specs.Console.{unless_refused, place_of, slot_of, where_done, with_slot, with_changed}
use Rattle.cm_model.specs.Console.{without_slot, after_configure, after_cleanup, after_rate, after_send}
use Rattle.cm_model.specs.Cycle.{after_cycle}
use Rattle.cm_model.specs.Machine.{load_refusals, reply_of, with_controller, with_loaded, effect}
use Rattle.cm_model.specs.Order.{Places}
use Rattle.cm_model.specs.State.{State, Loaded}
use Rattle.cm_model.specs.Switches.{Decided, refused, done}
use Rattle.cm_model.specs.Trace.{loaded_by}
use Rattle.cm_model.specs.declared.cause.Cause.{Cause}
use Rattle.cm_model.specs.declared.reply.Reply.{Reply}
use Rattle.cm_model.specs.declared.reply.Reply.TheVariants as reply
use Rattle.cm_model.specs.declared.reply.Why.TheVariants as why
use Rattle.cm_model.specs.declared.request.Request.{Request}
use Rattle.cm_model.specs.declared.request.Request.TheVariants as request

-- ---- Calls that give no serial

where_done-loads : (s after : State) (r : Reply) → after.loads ≡ s.loads → (where_done r after s).loads ≡ s.loads
where_done-loads s after reply.Done same = same
where_done-loads s after _ same = refl

with_slot-loads : (s : State) (i : ℕ) (o : Option Loaded) → (with_slot s i o).loads ≡ s.loads
with_slot-loads s i None = refl
with_slot-loads s i (Some l) = refl

with_changed-loads : (change : Loaded → Loaded) (s : State) (slot : Option ℕ)
    → (with_changed change s slot).loads ≡ s.loads
with_changed-loads change s None = refl
with_changed-loads change s (Some i) = with_slot-loads s i (option_map change (slice_get s.loaded i))

without_slot-loads : (s : State) (slot : Option ℕ) → (without_slot s slot).loads ≡ s.loads
without_slot-loads s None = refl
without_slot-loads s (Some i) = refl

request-loads : (s : State) (asked : Request) (r : Reply) → (request_effect s asked r).loads ≡ s.loads
request-loads s asked (reply.Queued _) = refl
request-loads s asked _ = refl

-- ---- Requests that are decided

commit-loads : (s : State) (set again : Places) → (commit s set again).loads ≡ s.loads
unfolding commit
commit-loads s set again = refl

with_switch-loads : (s : State) (d : Decided) → (with_switch s d).state.loads ≡ s.loads
with_switch-loads s (refused because) = refl
with_switch-loads s (done dropped set again) = commit-loads s set again

with_move_unless-loads : (s : State) (name : List ℕ) (component : ℕ) (target : Life) (fault : Option Cause)
    → (with_move_unless s name component target fault).state.loads ≡ s.loads
with_move_unless-loads s name component target (Some fault) = refl
with_move_unless-loads s name component target None = refl

with_move-loads : (s : State) (name : List ℕ) (target : Life) (place : Option ℕ)
    → (with_move s name target place).state.loads ≡ s.loads
with_move-loads s name target None = refl
with_move-loads s name target (Some component) =
    with_move_unless-loads s name component target (move_fault s component target)

concluded-loads : (s : State) (asked : Request) → (concluded s asked).state.loads ≡ s.loads
concluded-loads s (request.Switch asked) = with_switch-loads s (decided (scene_of s) asked)
concluded-loads s (request.Hardware component target) =
    with_move-loads s component target (component_place s.description component)

all_concluded-loads : (s : State) (requests : List Request) → (all_concluded s requests).loads ≡ s.loads
unfolding all_concluded
all_concluded-loads s [] = refl
all_concluded-loads s (asked ∷ requests) =
    all_concluded-loads (with_outcome (concluded s asked)) requests ∙ concluded-loads s asked

standing-loads : (s : State) (names : List (List ℕ)) → (after_standing_in s names).loads ≡ s.loads
standing-loads s [] = refl
standing-loads s (name ∷ names) = concluded-loads (record s { fallbacks = [] }) (standing_in (name ∷ names))

boundary-loads : (s : State) → (boundary s).loads ≡ s.loads
boundary-loads s = all_concluded-loads (after_fallbacks s) (waiting (after_fallbacks s)) ∙ standing-loads s s.fallbacks

-- ---- Each call

-- a call that is no load gives no serial
stays : (s : State) (call : Call) (r : Reply) → load_name call ≡ None → (effect s call r).loads ≡ s.loads
unfolding after_cycle commit
stays s (Load name) r other = let some : Some name ≡ None = other in cc
stays s (Configure name) r other = where_done-loads s _ r (with_changed-loads (after_configure s) s (slot_of s name))
stays s (Cleanup name) r other = where_done-loads s _ r (with_changed-loads after_cleanup s (slot_of s name))
stays s (Unload name) r other = where_done-loads s _ r (without_slot-loads s (slot_of s name))
stays s (Rate name hz) r other = where_done-loads s _ r (with_changed-loads (after_rate hz) s (slot_of s name))
stays s (Send name mail) r other = where_done-loads s _ r (with_changed-loads (after_send mail) s (slot_of s name))
stays s (Switch asked) r other = request-loads s (request.Switch asked) r
stays s (Hardware component target) r other = request-loads s (request.Hardware component target) r
stays s (Begin _) r other = boundary-loads s
stays s (End _) r other = refl
stays s Close r other = refl
stays s _ r other = refl

-- the names that an entry adds
abbrev pub added : Call → Reply → List (List ℕ)
added call r = cons_option (loaded_by call r) []

-- what stands at a place that was found
found_at : (test : CtlDesc → Bool) (controllers : List CtlDesc) (place : ℕ) → position test controllers ≡ Some place
    → (c : CtlDesc) × (slice_get controllers place ≡ Some c)
found_at test controllers place at =
    let found = cond_some _ _ _ at in
    let within : position_or_len test controllers < length controllers = ltb-true _ _ found.0 in
    elim (slice_get_cases controllers place).1 [
      | inl there ↦ (there.0, there.2)
      | inr past ↦ let same : position_or_len test controllers ≡ place =
          found.1 in absurd (omega (arith, within, same, past.0))
    ]

loaded_one : (s : State) (place : ℕ) (o : Option CtlDesc) (c : CtlDesc) → o ≡ Some c
    → (with_controller s place o).loads ≡ s.loads + 1
loaded_one s place None c at = cc
loaded_one s place (Some _) c at = refl

-- where a load gave a serial it loaded
gives : (s : State) (name : List ℕ) (serial : ℕ) (o : Option ℕ) → place_of s name ≡ o
    → unless_refused (load_refusals s o) (reply.Serial s.loads) ≡ reply.Serial serial
    → (with_loaded s o).loads ≡ s.loads + 1
gives s name serial None at told = let refused : reply.Not why.NotDescribed ≡ reply.Serial serial = told in cc
gives s name serial (Some place) at told =
    let c = found_at _ s.description.controllers place at in
    loaded_one s place (slice_get s.description.controllers place) c.0 c.1

load_named : (s : State) (name : List ℕ) (r : Reply) → reply_of s (Load name) ≡ Some r
    → (effect s (Load name) r).loads ≡ s.loads + length (added (Load name) r)
load_named s name (reply.Serial serial) told =
    gives s name serial (place_of s name) refl
    (same_Some (unless_refused (load_refusals s (place_of s name)) (reply.Serial s.loads)) (reply.Serial serial) told)
load_named s name _ told = sym (add-zero s.loads)

none_added : (call : Call) (r : Reply) → load_name call ≡ None → added call r ≡ []
none_added call (reply.Serial serial) none = ap (λ (o : Option (List ℕ)). cons_option o []) none
none_added call _ none = refl

none_named : (s : State) (call : Call) (r : Reply) → load_name call ≡ None
    → (effect s call r).loads ≡ s.loads + length (added call r)
none_named s call r none =
    stays s call r none ∙ sym (add-zero s.loads)
    ∙ ap (λ (names : List (List ℕ)). s.loads + length names) (sym (none_added call r none))

-- as many loads more as names
pub loads_named : (s : State) (call : Call) (r : Reply) → reply_of s call ≡ Some r
    → (effect s call r).loads ≡ s.loads + length (added call r)
loads_named s (Load name) r told = load_named s name r told
loads_named s (Configure name) r told = none_named s (Configure name) r refl
loads_named s (Cleanup name) r told = none_named s (Cleanup name) r refl
loads_named s (Unload name) r told = none_named s (Unload name) r refl
loads_named s (Rate name hz) r told = none_named s (Rate name hz) r refl
loads_named s (Send name mail) r told = none_named s (Send name mail) r refl
loads_named s (Switch asked) r told = none_named s (Switch asked) r refl
loads_named s (Hardware component target) r told = none_named s (Hardware component target) r refl
loads_named s (Told ticket) r told = none_named s (Told ticket) r refl
loads_named s (Await cycles) r told = none_named s (Await cycles) r refl
loads_named s ListControllers r told = none_named s ListControllers r refl
loads_named s ListInterfaces r told = none_named s ListInterfaces r refl
loads_named s ListComponents r told = none_named s ListComponents r refl
loads_named s (Begin cycle) r told = none_named s (Begin cycle) r refl
loads_named s (End cycle) r told = none_named s (End cycle) r refl
loads_named s Close r told = none_named s Close r refl
