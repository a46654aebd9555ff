-- What each call makes of the serials of the loaded controllers: they stay, the next one comes, or one of them goes.
use Rattle.std.proofs.Common.{◌≡◌, ◌⊎◌, ℕ, zero, suc, ◌+◌, ◌<◌, Bool, true, false, List, [], ◌∷◌, ◌++◌, map}
use Rattle.std.proofs.Common.{slice_set, Option, Some, None, option_map, inl, inr, refl, sym, ap, ap₂, ◌∙◌, arith}
use Rattle.std.specs.Prelude.{◌==◌, ◌&&◌, if◌then◌else◌, slice_get, remove}
use Rattle.std.specs.List.{AllByRecursion, IsDistinct}
use Rattle.std.proofs.lemmas.Bool.{ne_eqb}
use Rattle.std.proofs.lemmas.List.{map-append}
use Rattle.std.proofs.lemmas.Option.{same_Some}
use Rattle.sequence.proofs.ListLemmas.{all_push}
use Rattle.cm_document.proofs.DistinctLemmas.{all_so}
use Rattle.cm_document.specs.declared.call.Call.{Call}
use Rattle.cm_document.specs.declared.call.Call.TheVariants.{Load, Configure, Cleanup, Unload, Rate}
use Rattle.cm_document.specs.declared.call.Call.TheVariants.{Send, Switch, Hardware, Begin, End, Close}
use Rattle.cm_document.specs.declared.description.CtlDesc.{CtlDesc}
use Rattle.cm_document.specs.declared.life.Life.{Life}
use Rattle.cm_model.proofs.SteadyLemmas.{all_remove, distinct_remove}
use Rattle.cm_model.proofs.UpdateLemmas.{updates_keep}
use Rattle.cm_model.specs.BestEffort.{decided}
use Rattle.cm_model.specs.Boundary.{waiting, standing_in, after_standing_in, after_fallbacks, request_effect}
use Rattle.cm_model.specs.Boundary.{with_switch, component_place, move_fault, with_move_unless, with_move}
use Rattle.cm_model.specs.Boundary.{concluded, with_outcome, all_concluded, boundary, begin_effect}
use Rattle.cm_model.specs.Commit.{coming, leaving, committed, scene_of, commit}
use Rattle.cm_model.specs.Console.{place_of, slot_of, description_of, configured_with, after_configure, after_cleanup}
use Rattle.cm_model.specs.Console.{after_rate, after_send, where_done, with_slot, with_changed, without_slot}
use Rattle.cm_model.specs.Components.{read_succeeds}
use Rattle.cm_model.specs.Cycle.{component_is, is_due_now, without_mail_off, step_of, stepped_at}
use Rattle.cm_model.specs.Cycle.{updated_in, stays_active, cycle, landed, after_cycle}
use Rattle.cm_model.specs.Machine.{with_controller, with_loaded, load_effect, effect}
use Rattle.cm_model.specs.Order.{Places}
use Rattle.cm_model.specs.Serials.{serials_of, AreRising, AreNumbered, IsNumbered}
use Rattle.cm_model.specs.State.{State, Loaded, is_active, newly_loaded}
use Rattle.cm_model.specs.Switches.{Decided, refused, done, is_stopped, is_started}
use Rattle.cm_model.specs.Values.{InterfaceValue, after_reads}
use Rattle.cm_model.specs.declared.reply.Reply.{Reply}
use Rattle.cm_model.specs.declared.reply.Reply.TheVariants as reply
use Rattle.cm_model.specs.declared.cause.Cause.{Cause}
use Rattle.cm_model.specs.declared.request.Request.{Request}
use Rattle.cm_model.specs.declared.request.Request.TheVariants as request

-- ---- Lists of serials

distinct_push : (ns : List ℕ) (n : ℕ) → IsDistinct (λ m n. m == n) ns → AllByRecursion (λ m. m < n) ns
    → IsDistinct (λ m n. m == n) (ns ++ n ∷ [])
unfolding IsDistinct
distinct_push [] n once below = (tt, tt)
distinct_push (m ∷ ms) n once below =
    let less : m < n = below.0 in (
      all_push (λ k. (m == k) ≡ false) ms n once.0 (ne_eqb m n (λ (e : m ≡ n). omega (arith, less, e))),
      distinct_push ms n once.1 below.1,
    )

rising_push : (ns : List ℕ) (n : ℕ) → AreRising ns → AllByRecursion (λ m. m < n) ns → AreRising (ns ++ n ∷ [])
rising_push [] n rising below = (tt, tt)
rising_push (m ∷ ms) n rising below =
    (all_push (λ later. m < later) ms n rising.0 below.0, rising_push ms n rising.1 below.1)

rising_remove : (ns : List ℕ) (i : ℕ) → AreRising ns → AreRising (remove ns i)
rising_remove [] zero rising = tt
rising_remove [] (suc i) rising = tt
rising_remove (n ∷ ns) zero rising = rising.1
rising_remove (n ∷ ns) (suc i) rising = (all_remove (λ later. n < later) ns i rising.0, rising_remove ns i rising.1)

numbered_push : (loads : ℕ) (ns : List ℕ) → AreNumbered loads ns → AreNumbered (loads + 1) (ns ++ loads ∷ [])
numbered_push loads ns numbered = record {
  rising = rising_push ns loads numbered.rising numbered.below;
  once = distinct_push ns loads numbered.once numbered.below;
  below = all_push (λ n. n < loads + 1) ns loads
      (all_so (λ n. n < loads) (λ n. n < loads + 1) (λ n less. omega (arith, less)) ns numbered.below) (omega arith);
}

pub serials_remove : (ls : List Loaded) (i : ℕ) → serials_of (remove ls i) ≡ remove (serials_of ls) i
serials_remove [] zero = refl
serials_remove [] (suc i) = refl
serials_remove (l ∷ ls) zero = refl
serials_remove (l ∷ ls) (suc i) = ap (λ ns. l.serial ∷ ns) (serials_remove ls i)

pub serials_set : (ls : List Loaded) (i : ℕ) (l new : Loaded) → slice_get ls i ≡ Some l → new.serial ≡ l.serial
    → serials_of (slice_set ls i new) ≡ serials_of ls
serials_set [] i l new at same = refl
serials_set (m ∷ ms) zero l new at same =
    ap (λ n. n ∷ serials_of ms) (same ∙ ap (λ (k : Loaded). k.serial) (sym (same_Some m l at)))
serials_set (m ∷ ms) (suc i) l new at same = ap (λ ns. m.serial ∷ ns) (serials_set ms i l new at same)

serials_map : (change : Loaded → Loaded) → ((l : Loaded) → (change l).serial ≡ l.serial) → (ls : List Loaded)
    → serials_of (map change ls) ≡ serials_of ls
serials_map change keeps [] = refl
serials_map change keeps (l ∷ ls) = ap₂ (λ n ns. n ∷ ns) (keeps l) (serials_map change keeps ls)

-- ---- What becomes of the serials

-- They stay; or the next one is given; or one goes.
abbrev pub AreRenumbered : State → State → Type 0
AreRenumbered s t =
    ((t.loads ≡ s.loads) × (serials_of t.loaded ≡ serials_of s.loaded))
    ⊎ (((t.loads ≡ s.loads + 1) × (serials_of t.loaded ≡ serials_of s.loaded ++ s.loads ∷ []))
    ⊎ ((i : ℕ) × (t.loads ≡ s.loads) × (serials_of t.loaded ≡ remove (serials_of s.loaded) i)))

same_serials : (s t : State) → t.loads ≡ s.loads → serials_of t.loaded ≡ serials_of s.loaded → AreRenumbered s t
same_serials s t loads serials = inl (loads, serials)

-- so they go on to rise
pub renumbered_numbered : (s t : State) → AreRenumbered s t → IsNumbered s → IsNumbered t
renumbered_numbered s t (inl (loads, serials)) numbered = rw (loads, serials) numbered
renumbered_numbered s t (inr (inl (loads, serials))) numbered =
    rw (loads, serials) (numbered_push s.loads (serials_of s.loaded) numbered)
renumbered_numbered s t (inr (inr (i, loads, serials))) numbered =
    rw (loads, serials) (record {
      rising = rising_remove (serials_of s.loaded) i numbered.rising;
      once = distinct_remove (serials_of s.loaded) i numbered.once;
      below = all_remove (λ n. n < s.loads) (serials_of s.loaded) i numbered.below;
    })

-- ---- The console's calls

slot_renumbered : (s : State) (i : ℕ) (change : Loaded → Loaded) → ((l : Loaded) → (change l).serial ≡ l.serial)
    → (o : Option Loaded) → slice_get s.loaded i ≡ o
    → AreRenumbered s (with_slot s i (option_map change o))
slot_renumbered s i change keeps None at = same_serials s s refl refl
slot_renumbered s i change keeps (Some l) at =
    same_serials s (record s { loaded = slice_set s.loaded i (change l) }) refl
    (serials_set s.loaded i l (change l) at (keeps l))

changed_renumbered : (s : State) (slot : Option ℕ) (change : Loaded → Loaded)
    → ((l : Loaded) → (change l).serial ≡ l.serial) → AreRenumbered s (with_changed change s slot)
changed_renumbered s None change keeps = same_serials s s refl refl
changed_renumbered s (Some i) change keeps = slot_renumbered s i change keeps (slice_get s.loaded i) refl

removed_renumbered : (s : State) (slot : Option ℕ) → AreRenumbered s (without_slot s slot)
removed_renumbered s None = same_serials s s refl refl
removed_renumbered s (Some i) = inr (inr (i, refl, serials_remove s.loaded i))

with_controller_renumbered : (s : State) (place : ℕ) (o : Option CtlDesc) → AreRenumbered s (with_controller s place o)
with_controller_renumbered s place None = same_serials s s refl refl
with_controller_renumbered s place (Some c) =
    inr (inl (refl, map-append (λ (l : Loaded). l.serial) s.loaded (newly_loaded s.loads place c ∷ [])))

loaded_renumbered : (s : State) (place : Option ℕ) → AreRenumbered s (with_loaded s place)
loaded_renumbered s None = same_serials s s refl refl
loaded_renumbered s (Some place) = with_controller_renumbered s place (slice_get s.description.controllers place)

load_renumbered : (s : State) (name : List ℕ) (r : Reply) → AreRenumbered s (load_effect s name r)
load_renumbered s name (reply.Serial serial) = loaded_renumbered s (place_of s name)
load_renumbered s name _ = same_serials s s refl refl

-- what was not done leaves the state as it was
where_done_renumbered : (s after : State) (r : Reply) → AreRenumbered s after → AreRenumbered s (where_done r after s)
where_done_renumbered s after reply.Done made = made
where_done_renumbered s after _ made = same_serials s s refl refl

configured_serial : (s : State) (l : Loaded) (o : Option CtlDesc) → (configured_with s l o).serial ≡ l.serial
configured_serial s l None = refl
configured_serial s l (Some c) = refl

-- ---- The end of a cycle

pub step_keeps_serial : (s : State) (values : List InterfaceValue) (serial : ℕ) (l : Loaded)
    → (stepped_at s values serial l).serial ≡ l.serial
step_keeps_serial s values serial l = either (l.serial == serial)
  where
    either : (b : Bool) → (if b then record l { ctl = (step_of s values l).after } else l).serial ≡ l.serial
    either true = refl
    either false = refl

commit_keeps_serial : (s : State) (set stopped started : Places) (l : Loaded)
    → (committed s set stopped started l).serial ≡ l.serial
commit_keeps_serial s set stopped started l = either (started l.place) (stopped l.place)
  where
    either : (b c : Bool) → (if b then coming s set l else (if c then leaving l else l)).serial ≡ l.serial
    either true c = refl
    either false true = refl
    either false false = refl

commit_serials : (s : State) (set again : Places) → serials_of (commit s set again).loaded ≡ serials_of s.loaded
unfolding commit
commit_serials s set again =
    let stopped = is_stopped (scene_of s) set again in
    let started = is_started (scene_of s) set again in
    serials_map (committed s set stopped started) (commit_keeps_serial s set stopped started) s.loaded

landed_serials : (s : State) → serials_of (landed s (cycle s)).loaded ≡ serials_of s.loaded
unfolding cycle
landed_serials s =
    updates_keep s (λ (l : Loaded). l.serial) (λ values serial l. step_keeps_serial s values serial l)
    (record { loaded = s.loaded; values = after_reads (component_is read_succeeds s) s.bodies s.values; ran = [] })
    (updated_in s)

after_renumbered : (s : State) → AreRenumbered s (after_cycle s (cycle s))
unfolding after_cycle commit
after_renumbered s =
    inl (
      refl,
      commit_serials (landed s (cycle s)) (stays_active s (cycle s).happened.ran) (λ p. false)
          ∙ landed_serials s,
    )

-- ---- Requests

request_renumbered : (s : State) (asked : Request) (r : Reply) → AreRenumbered s (request_effect s asked r)
request_renumbered s asked (reply.Queued _) =
    same_serials s (record s { requests = s.requests ++ asked ∷ [] }) refl refl
request_renumbered s asked _ = same_serials s s refl refl

-- what is decided leaves the serials
record KeepsSerials (s t : State) : Type 0 where
  loads : t.loads ≡ s.loads
  serials : serials_of t.loaded ≡ serials_of s.loaded

commit_keeps : (s : State) (set again : Places) → KeepsSerials s (commit s set again)
unfolding commit
commit_keeps s set again = record { loads = refl; serials = commit_serials s set again }

switch_keeps : (s : State) (d : Decided) → KeepsSerials s (with_switch s d).state
switch_keeps s (refused because) = record { loads = refl; serials = refl }
switch_keeps s (done dropped set again) = commit_keeps s set again

move_unless_keeps : (s : State) (name : List ℕ) (component : ℕ) (target : Life) (o : Option Cause)
    → KeepsSerials s (with_move_unless s name component target o).state
move_unless_keeps s name component target None = record { loads = refl; serials = refl }
move_unless_keeps s name component target (Some reason) = record { loads = refl; serials = refl }

move_keeps : (s : State) (name : List ℕ) (target : Life) (o : Option ℕ)
    → KeepsSerials s (with_move s name target o).state
move_keeps s name target None = record { loads = refl; serials = refl }
move_keeps s name target (Some component) = move_unless_keeps s name component target (move_fault s component target)

concluded_keeps : (s : State) (asked : Request) → KeepsSerials s (concluded s asked).state
concluded_keeps s (request.Switch asked) = switch_keeps s (decided (scene_of s) asked)
concluded_keeps s (request.Hardware component target) =
    move_keeps s component target (component_place s.description component)

all_keep : (s : State) (asked : List Request) → KeepsSerials s (all_concluded s asked)
unfolding all_concluded
all_keep s [] = record { loads = refl; serials = refl }
all_keep s (first ∷ later) =
    let one = concluded_keeps s first in
    let rest = all_keep (with_outcome (concluded s first)) later in
    record { loads = rest.loads ∙ one.loads; serials = rest.serials ∙ one.serials }

mail_keeps_serial : (s : State) (goes : Bool) (l : Loaded)
    → (if goes then record l { mail = None } else l).serial ≡ l.serial
mail_keeps_serial s true l = refl
mail_keeps_serial s false l = refl

standing_keep : (s : State) (names : List (List ℕ)) → KeepsSerials s (after_standing_in s names)
standing_keep s [] = record { loads = refl; serials = refl }
standing_keep s (name ∷ names) =
    let one = concluded_keeps (record s { fallbacks = [] }) (standing_in (name ∷ names)) in
    record { loads = one.loads; serials = one.serials }

begin_renumbered : (s : State) → AreRenumbered s (begin_effect s)
begin_renumbered s =
    let stood = standing_keep s s.fallbacks in
    let kept = all_keep (after_fallbacks s) (waiting (after_fallbacks s)) in
    let after = boundary s in
    inl (
      kept.loads ∙ stood.loads,
      serials_map (without_mail_off after) (λ l. mail_keeps_serial after (is_active l && is_due_now after l) l)
          after.loaded ∙ kept.serials ∙ stood.serials,
    )

-- ---- Steps

-- What each call makes of the serials, whatever was answered.
pub effect_renumbered : (s : State) (call : Call) (r : Reply) → AreRenumbered s (effect s call r)
effect_renumbered s (Load name) r = load_renumbered s name r
effect_renumbered s (Configure name) r =
    where_done_renumbered s _ r
    (changed_renumbered s (slot_of s name) (after_configure s) (λ l. configured_serial s l (description_of s l)))
effect_renumbered s (Cleanup name) r =
    where_done_renumbered s _ r (changed_renumbered s (slot_of s name) after_cleanup (λ l. refl))
effect_renumbered s (Unload name) r = where_done_renumbered s _ r (removed_renumbered s (slot_of s name))
effect_renumbered s (Rate name hz) r =
    where_done_renumbered s _ r (changed_renumbered s (slot_of s name) (after_rate hz) (λ l. refl))
effect_renumbered s (Send name mail) r =
    where_done_renumbered s _ r (changed_renumbered s (slot_of s name) (after_send mail) (λ l. refl))
effect_renumbered s (Switch asked) r = request_renumbered s (request.Switch asked) r
effect_renumbered s (Hardware component target) r = request_renumbered s (request.Hardware component target) r
effect_renumbered s (Begin _) r = begin_renumbered s
effect_renumbered s (End _) r = after_renumbered s
effect_renumbered s Close r = inl (refl, refl)
effect_renumbered s _ r = inl (refl, refl)
