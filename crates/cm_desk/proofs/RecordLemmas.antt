-- One lemma for every call: from 'what is kept at run time made the step' to what the desk's type keeps and its clauses
-- say.
use Rattle.std.proofs.Common.{◌≡◌, ℕ, suc, ◌+◌, ◌<◌, ◌≤◌, Bool, true, false, nat_lt, List, []}
use Rattle.std.proofs.Common.{length, take, drop, length-append, length-take, length-drop}
use Rattle.std.proofs.Common.{length-set, Option, Some, None, refl, sym, ap, subst, ◌∙◌, arith}
use Rattle.std.specs.Prelude.{not, ◌&&◌, option_map, slice_get}
use Rattle.std.proofs.lemmas.Bool.Decides.{nat_tests}
use Rattle.std.proofs.lemmas.List.{length-map, length_push}
use Rattle.std.proofs.lemmas.Option.{slice_get_within}
use Rattle.cm_document.specs.declared.call.Call.{Call}
use Rattle.cm_document.specs.declared.call.Call.TheVariants.{Load, Configure, Cleanup, Unload, Rate, Send}
use Rattle.cm_document.specs.declared.call.Call.TheVariants.{Switch, Hardware, Told, Await, ListControllers}
use Rattle.cm_document.specs.declared.call.Call.TheVariants.{ListInterfaces, ListComponents, End, Close}
use Rattle.cm_document.specs.declared.description.CtlDesc.{CtlDesc}
use Rattle.cm_model.specs.Console.{place_of, slot_of, where_done, with_slot, with_changed, without_slot}
use Rattle.cm_model.specs.Console.{after_configure, after_cleanup, after_rate, after_send}
use Rattle.cm_model.specs.Boundary.{is_decided, boundary, request_effect, begin_effect, close_effect, close_reply}
use Rattle.cm_model.specs.Commit.{commit}
use Rattle.cm_model.specs.Components.{read_succeeds}
use Rattle.cm_model.specs.Cycle.{CycleResult, component_is, updated_in, updates, cycle, after_cycle}
use Rattle.cm_model.specs.Machine.{is_reached, is_enabled, reply_of, effect, with_controller}
use Rattle.cm_model.specs.Machine.{with_loaded, load_effect, can_close, step}
use Rattle.cm_model.specs.Scheduled.{with_entry}
use Rattle.cm_model.specs.Serials.{IsNumbered}
use Rattle.cm_model.specs.State.{State, Loaded, boot, newly_loaded}
use Rattle.cm_model.specs.Values.{after_reads}
use Rattle.cm_model.specs.declared.blanks.Blanks.{Blanks}
use Rattle.cm_model.specs.declared.cause.Outcome.{Outcome}
use Rattle.cm_model.specs.declared.entry.Entry.{Entry}
use Rattle.cm_model.specs.declared.reply.Reply.{Reply}
use Rattle.cm_model.specs.declared.reply.Reply.TheVariants as reply
use Rattle.cm_model.specs.declared.request.Request.{Request}
use Rattle.cm_model.specs.declared.request.Request.TheVariants as request
use Rattle.cm_model.proofs.LegalLemmas.{Leads, Leads-step}
use Rattle.cm_model.proofs.StayLemmas.{step-Stands, step-IsStep}
use Rattle.cm_model.proofs.UpdateLemmas.{updates_keep}
use Rattle.sound_laws.proofs.HistoryLemmas.{legal_sound, step_steady}
use Rattle.sound_laws.proofs.SerialLemmas.{renumbered_numbered, effect_renumbered}
use Rattle.cm_hardware.specs.Wiring.{one_if}
use Rattle.cm_desk.specs.Desk.{owed, seen, AreFew, LeavesFew, Keeps, Grows, CanBeCalled}
use Rattle.cm_desk.proofs.BeginLemmas.{boundary_stays, loop_itself}
use Rattle.cm_resources.proofs.StayLemmas.{begun_stays, count_stays}

-- ---- One entry more

-- serials go on to differ
step_numbered : (s : State) (who : ℕ) (call : Call) (made : State × Reply) → IsNumbered s → step s who call ≡ Some made
    → IsNumbered made.0
step_numbered s who call made numbered stepped =
    let is = step-IsStep s who call made stepped in
    subst IsNumbered (sym is.next)
    (renumbered_numbered s (effect s call made.1) (effect_renumbered s call made.1) numbered)

-- what comes of a call that was recorded
pub record Recorded (at_boot : Blanks) (s next : State) (made after : List Entry) (who : ℕ) (call : Call) (r : Reply)
    (entries boxes : ℕ) : Type 0 where
  pub keeps : Keeps (boot next.description at_boot next.sessions) after next entries boxes
  pub grows : Grows (seen at_boot s made) (seen at_boot next after) who call r

pub recorded : (at_boot : Blanks) (s next : State) (made after : List Entry) (who : ℕ) (call : Call) (r : Reply)
    (entries boxes later places : ℕ)
    → Keeps (boot s.description at_boot s.sessions) made s entries boxes → step s who call ≡ Some (next, r)
    → after ≡ with_entry made who call r
    → AreFew after next → length after + owed next ≤ later → length next.loaded ≤ places
    → Recorded at_boot s next made after who call r later places
recorded at_boot s next made after who call r entries boxes later places kept stepped grown few room loaded =
    let opening = boot s.description at_boot s.sessions in
    let before : Leads opening made s = record { legal = kept.legal; ends = kept.ends } in
    let leads : Leads opening (with_entry made who call r) next =
    Leads-step made opening s who call next r before stepped in
    let stands = step-Stands s who call (next, r) stepped in
    let same : boot next.description at_boot next.sessions ≡ opening = rw (stands.description, stands.sessions) refl in
    record {
      keeps = rw (same) (record {
        valid = kept.valid;
        legal = rw grown leads.legal;
        sound = rw grown
            (legal_sound s.description at_boot s.sessions (with_entry made who call r) kept.valid leads.legal);
        ends = rw grown leads.ends;
        steady = step_steady s who call (next, r) kept.valid kept.steady stepped;
        numbered = step_numbered s who call (next, r) kept.numbered stepped;
        few = few;
        room = room;
        places = loaded;
      });
      grows = record { opening = same; made = grown; stepped = rw (kept.ends, same, grown, leads.ends) stepped };
    }

-- ---- Room

one_if-few : (b : Bool) → one_if b ≤ 1
one_if-few true = omega arith
one_if-few false = omega arith

-- no more is owed than the end and the close
pub owed_few : (s : State) → owed s ≤ 2
owed_few s = omega (arith, one_if-few s.aloft, one_if-few (not s.closed))

-- what is reserved before a call is room for its entry, and for what is owed after it
pub room_after : (s : State) (made after : List Entry) (who : ℕ) (call : Call) (r : Reply) (entries : ℕ)
    → length made + 1 + owed s ≤ entries → after ≡ with_entry made who call r
    → length after + owed s ≤ entries
room_after s made after who call r entries room grown =
    rw grown (omega (arith, room, length_push made (record { who = who; call = call; reply = r })))

-- where a call looked whether they would be too many, they are few enough after it
pub few_after : (s : State) (made after : List Entry) (who : ℕ) (call : Call) (r : Reply) → LeavesFew made
    → after ≡ with_entry made who call r → AreFew after s
few_after s made after who call r few grown =
    rw grown (omega (arith, few s, length_push made (record { who = who; call = call; reply = r })))

-- an entry that was owed leaves as many
pub few_owed : (s next : State) (made after : List Entry) (who : ℕ) (call : Call) (r : Reply) → AreFew made s
    → owed next + 1 ≡ owed s → after ≡ with_entry made who call r
    → AreFew after next
few_owed s next made after who call r few less grown =
    rw grown (omega (arith, few, less, length_push made (record { who = who; call = call; reply = r })))

-- an entry that was owed takes the room that was kept for it
pub room_owed : (s next : State) (made after : List Entry) (who : ℕ) (call : Call) (r : Reply) (entries : ℕ)
    → length made + owed s ≤ entries → owed next + 1 ≡ owed s
    → after ≡ with_entry made who call r → length after + owed next ≤ entries
room_owed s next made after who call r entries room less grown =
    rw grown (omega (arith, room, less, length_push made (record { who = who; call = call; reply = r })))

-- the end was owed
pub owed-end : (s : State) (c : CycleResult) → s.aloft ≡ true → owed (after_cycle s c) + 1 ≡ owed s
unfolding after_cycle commit
owed-end s c aloft = rw aloft (omega arith)

-- so was the close
pub owed-close : (s : State) → s.closed ≡ false → owed (close_effect s) + 1 ≡ owed s
owed-close s closed = rw closed (omega arith)

-- the loop is open where it can close
pub open_where : (s : State) → can_close s ≡ true → s.closed ≡ false
open_where s can = both s.aloft s.closed can
  where
    both : (aloft closed : Bool) → not aloft && not closed ≡ true → closed ≡ false
    both true closed can = cc
    both false true can = cc
    both false false can = refl

-- ---- Places for boxes

with_controller-few : (s : State) (place : ℕ) (c : Option CtlDesc)
    → length (with_controller s place c).loaded ≤ length s.loaded + 1
with_controller-few s place None = omega arith
with_controller-few s place (Some c) = omega (arith, length_push s.loaded (newly_loaded s.loads place c))

with_loaded-few : (s : State) (place : Option ℕ) → length (with_loaded s place).loaded ≤ length s.loaded + 1
with_loaded-few s None = omega arith
with_loaded-few s (Some place) = with_controller-few s place (slice_get s.description.controllers place)

load_effect-few : (s : State) (name : List ℕ) (r : Reply) → length (load_effect s name r).loaded ≤ length s.loaded + 1
load_effect-few s name (reply.Serial _) = with_loaded-few s (place_of s name)
load_effect-few s name _ = omega arith

with_slot-few : (s : State) (i : ℕ) (l : Option Loaded) → length (with_slot s i l).loaded ≤ length s.loaded + 1
with_slot-few s i None = omega arith
with_slot-few s i (Some l) = omega (arith, length-set s.loaded i l)

with_changed-few : (change : Loaded → Loaded) (s : State) (slot : Option ℕ)
    → length (with_changed change s slot).loaded ≤ length s.loaded + 1
with_changed-few change s None = omega arith
with_changed-few change s (Some i) = with_slot-few s i (option_map change (slice_get s.loaded i))

without_slot-few : (s : State) (slot : Option ℕ) → length (without_slot s slot).loaded ≤ length s.loaded + 1
without_slot-few s None = omega arith
without_slot-few s (Some i) =
    omega (
      arith,
      length-append (take i s.loaded) (drop (suc i) s.loaded),
      length-take i s.loaded,
      length-drop (suc i) s.loaded,
    )

request_effect-few : (s : State) (asked : Request) (r : Reply)
    → length (request_effect s asked r).loaded ≤ length s.loaded + 1
request_effect-few s asked (reply.Queued _) = omega arith
request_effect-few s asked _ = omega arith

where_done-few : (r : Reply) (after s : State) → length after.loaded ≤ length s.loaded + 1
    → length (where_done r after s).loaded ≤ length s.loaded + 1
where_done-few reply.Done after s few = few
where_done-few _ after s few = omega arith

-- a call loads one controller at most
pub effect-few : (s : State) (call : Call) (r : Reply) → CanBeCalled call
    → length (effect s call r).loaded ≤ length s.loaded + 1
effect-few s (Load name) r can = load_effect-few s name r
effect-few s (Configure name) r can = where_done-few r _ s (with_changed-few (after_configure s) s (slot_of s name))
effect-few s (Cleanup name) r can = where_done-few r _ s (with_changed-few after_cleanup s (slot_of s name))
effect-few s (Unload name) r can = where_done-few r _ s (without_slot-few s (slot_of s name))
effect-few s (Rate name hz) r can = where_done-few r _ s (with_changed-few (after_rate hz) s (slot_of s name))
effect-few s (Send name mail) r can = where_done-few r _ s (with_changed-few (after_send mail) s (slot_of s name))
effect-few s (Switch asked) r can = request_effect-few s (request.Switch asked) r
effect-few s (Hardware component target) r can = request_effect-few s (request.Hardware component target) r
effect-few s ListControllers r can = omega arith
effect-few s ListInterfaces r can = omega arith
effect-few s ListComponents r can = omega arith
effect-few s _ r can = absurd can

-- a cycle loads none
pub end-few : (s : State) → length (after_cycle s (cycle s)).loaded ≡ length s.loaded
unfolding cycle after_cycle commit
end-few s =
    let values = after_reads (component_is read_succeeds s) s.bodies s.values in
    let same = updates_keep {B = ℕ} s (λ (l : Loaded). 0) (λ vs serial l. refl)
    (record { loaded = s.loaded; values = values; ran = [] }) (updated_in s) in
    length-map (updates s values).loaded _
    ∙ sym (length-map (updates s values).loaded (λ (l : Loaded). 0)) ∙ ap length same
    ∙ length-map s.loaded (λ (l : Loaded). 0)

-- nor does a begin
pub begin-few : (s : State) → length (begin_effect s).loaded ≡ length s.loaded
begin-few s =
    count_stays (boundary s).loaded (begin_effect s).loaded (begun_stays (boundary s))
    ∙ count_stays s.loaded (boundary s).loaded (boundary_stays s)

-- ---- Steps

session_itself : (s : State) (who : ℕ) → who < s.sessions → nat_lt who s.sessions ≡ true
session_itself s who less = grind (arith, nat_tests)

-- a call of a session that is so answered is its step
pub called_step : (s next : State) (who : ℕ) (call : Call) (r : Reply) → who < s.sessions → CanBeCalled call
    → reply_of s call ≡ Some r → next ≡ effect s call r
    → step s who call ≡ Some (next, r)
unfolding step
called_step s next who call r less can replied effected = stepped call can replied effected
  where
    known : nat_lt who s.sessions ≡ true
    known = session_itself s who less

    enabled : (call : Call) → is_enabled s who call ≡ true → reply_of s call ≡ Some r → next ≡ effect s call r
        → step s who call ≡ Some (next, r)
    enabled call can replied effected = rw (can, replied, effected) refl

    stepped : (call : Call) → CanBeCalled call → reply_of s call ≡ Some r → next ≡ effect s call r
        → step s who call ≡ Some (next, r)
    stepped (Load name) can = enabled (Load name) known
    stepped (Configure name) can = enabled (Configure name) known
    stepped (Cleanup name) can = enabled (Cleanup name) known
    stepped (Unload name) can = enabled (Unload name) known
    stepped (Rate name hz) can = enabled (Rate name hz) known
    stepped (Send name mail) can = enabled (Send name mail) known
    stepped (Switch asked) can = enabled (Switch asked) known
    stepped (Hardware component target) can = enabled (Hardware component target) known
    stepped ListControllers can = enabled ListControllers known
    stepped ListInterfaces can = enabled ListInterfaces known
    stepped ListComponents can = enabled ListComponents known
    stepped _ can = absurd can

-- a session is told what became of a request that is decided
pub told_step : (s : State) (who ticket : ℕ) (o : Outcome) → who < s.sessions → slice_get s.outcomes ticket ≡ Some o
    → step s who (Told ticket) ≡ Some (s, reply.Outcome o)
unfolding step
told_step s who ticket o less told =
    let below = slice_get_within s.outcomes ticket o told in
    let decided : is_decided s ticket ≡ true = grind (arith, nat_tests) in
    rw (session_itself s who less, decided, told) refl

-- and nothing of one that is not
pub told_waits : (s : State) (who ticket : ℕ) → who < s.sessions → slice_get s.outcomes ticket ≡ None
    → step s who (Told ticket) ≡ None
unfolding step
told_waits s who ticket less undecided = either (is_decided s ticket) refl
  where
    either : (b : Bool) → is_decided s ticket ≡ b → step s who (Told ticket) ≡ None
    either true is = rw (session_itself s who less, is, undecided) refl
    either false is = rw (session_itself s who less, is) refl

-- a session goes on where so many cycles have ended, or the loop is closed
pub await_step : (s : State) (who n : ℕ) → who < s.sessions → is_reached s n ≡ true
    → step s who (Await n) ≡ Some (s, reply.Done)
unfolding step
await_step s who n less reached = rw (session_itself s who less, reached) refl

-- and waits where not
pub await_waits : (s : State) (who n : ℕ) → who < s.sessions → is_reached s n ≡ false → step s who (Await n) ≡ None
unfolding step
await_waits s who n less unreached = rw (session_itself s who less, unreached) refl

-- it ends the cycle that is aloft
pub end_step : (s : State) → s.aloft ≡ true
    → step s s.sessions (End s.ended) ≡ Some (after_cycle s (cycle s), reply.Cycle (cycle s).happened)
unfolding step
end_step s aloft = rw (loop_itself s.sessions, aloft, loop_itself s.ended) refl

-- it closes where it can
pub close_step : (s : State) → can_close s ≡ true → step s s.sessions Close ≡ Some (close_effect s, close_reply s)
unfolding step
close_step s can = rw (loop_itself s.sessions, can) refl
