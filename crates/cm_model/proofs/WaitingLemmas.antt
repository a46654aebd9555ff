-- What a step makes of the requests, and that a written call of a session is answered where the loop is closed.
use Rattle.std.proofs.Common.{◌≡◌, ℕ, ◌+◌, ◌-◌, ◌<◌, ◌≤◌, List, [], ◌∷◌, ◌++◌, length, map, Option}
use Rattle.std.proofs.Common.{Some, None, Bool, true, false, nat_lt, refl, ◌∙◌, ◌⊎◌, inl, inr, arith}
use Rattle.std.specs.Prelude.{slice_get, not, IfSome, if◌then◌else◌, option_map}
use Rattle.std.proofs.lemmas.List.{length-append, length-map, length-drop}
use Rattle.std.proofs.lemmas.Bool.{cases_Bool}
use Rattle.std.proofs.lemmas.Option.{same_Some, slice_get_cases}
use Rattle.std.proofs.lemmas.Bool.Decides.{nat_tests}
use Rattle.std.proofs.Math.Bool.{or-true}
use Rattle.cm_document.proofs.ReadingLemmas.{cases_Option, chosen}
use Rattle.cm_document.specs.ScriptLaws.{CanBeWritten}
use Rattle.cm_document.specs.declared.call.Call.{Call}
use Rattle.cm_document.specs.declared.call.Call.TheVariants.{Load, Configure, Cleanup, Unload, Rate, Send}
use Rattle.cm_document.specs.declared.call.Call.TheVariants.{Switch, Hardware, Told, Await, ListControllers}
use Rattle.cm_document.specs.declared.call.Call.TheVariants.{ListInterfaces, ListComponents, Begin, End, Close}
use Rattle.cm_document.specs.declared.description.CtlDesc.{CtlDesc}
use Rattle.cm_document.specs.declared.life.Life.{Life}
use Rattle.cm_model.specs.BestEffort.{decided}
use Rattle.cm_model.specs.Boundary.{waiting, standing_in, after_standing_in, after_fallbacks, is_full, request_reply}
use Rattle.cm_model.specs.Boundary.{request_effect, with_switch, component_place, move_fault, with_move_unless}
use Rattle.cm_model.specs.Boundary.{with_move, concluded, with_outcome, all_concluded, boundary, close_effect}
use Rattle.cm_model.specs.Commit.{scene_of, commit}
use Rattle.cm_model.specs.Console.{unless_refused, place_of, slot_of, controller_of, reply_on, where_done, with_slot}
use Rattle.cm_model.specs.Console.{with_changed, without_slot, after_configure, after_cleanup, after_rate, after_send}
use Rattle.cm_model.specs.Console.{configure_refusals, cleanup_refusals, unload_refusals, rate_refusals, send_refusals}
use Rattle.cm_model.specs.Machine.{is_enabled, reply_of, with_controller, with_loaded}
use Rattle.cm_model.specs.Machine.{load_effect, load_refusals, effect, answered, step}
use Rattle.cm_model.specs.Scheduled.{ticket_in}
use Rattle.cm_model.specs.Sessions.{IsConsole}
use Rattle.cm_model.specs.State.{State, Loaded}
use Rattle.cm_model.specs.Switches.{Decided, refused, done}
use Rattle.cm_model.specs.declared.cause.Cause.{Cause}
use Rattle.cm_model.specs.declared.cause.Outcome.{Outcome}
use Rattle.cm_model.specs.declared.cause.Outcome.TheVariants as outcome
use Rattle.cm_model.specs.declared.reply.Reply.{Reply}
use Rattle.cm_model.specs.declared.reply.Reply.TheVariants as reply
use Rattle.cm_model.specs.declared.reply.Why.{Why}
use Rattle.cm_model.specs.declared.reply.Why.TheVariants as why
use Rattle.cm_model.specs.declared.request.Request.{Request}
use Rattle.cm_model.specs.declared.request.Request.TheVariants as request

-- ---- Calls that are no request

-- the requests and what became of them are as before
pub record SameRequests (s after : State) : Type 0 where
  pub requests : after.requests ≡ s.requests
  pub outcomes : after.outcomes ≡ s.outcomes

same_requests : (s : State) → SameRequests s s
same_requests s = record { requests = refl; outcomes = refl }

with_controller-Requests : (s : State) (place : ℕ) (o : Option CtlDesc) → SameRequests s (with_controller s place o)
with_controller-Requests s place None = same_requests s
with_controller-Requests s place (Some c) = record { requests = refl; outcomes = refl }

with_loaded-Requests : (s : State) (place : Option ℕ) → SameRequests s (with_loaded s place)
with_loaded-Requests s None = same_requests s
with_loaded-Requests s (Some place) = with_controller-Requests s place (slice_get s.description.controllers place)

load_effect-Requests : (s : State) (name : List ℕ) (r : Reply) → SameRequests s (load_effect s name r)
load_effect-Requests s name (reply.Serial _) = with_loaded-Requests s (place_of s name)
load_effect-Requests s name _ = same_requests s

with_slot-Requests : (s : State) (i : ℕ) (o : Option Loaded) → SameRequests s (with_slot s i o)
with_slot-Requests s i None = same_requests s
with_slot-Requests s i (Some l) = record { requests = refl; outcomes = refl }

with_changed-Requests : (change : Loaded → Loaded) (s : State) (slot : Option ℕ)
    → SameRequests s (with_changed change s slot)
with_changed-Requests change s None = same_requests s
with_changed-Requests change s (Some i) = with_slot-Requests s i (option_map change (slice_get s.loaded i))

without_slot-Requests : (s : State) (slot : Option ℕ) → SameRequests s (without_slot s slot)
without_slot-Requests s None = same_requests s
without_slot-Requests s (Some i) = record { requests = refl; outcomes = refl }

where_done-Requests : (s after : State) (r : Reply) → SameRequests s after → SameRequests s (where_done r after s)
where_done-Requests s after reply.Done same = same
where_done-Requests s after _ same = same_requests s

-- ---- What is asked

-- a refusal gives no ticket, nor does a call on one loaded controller, nor a load
none_refused : (refusals : List (Bool × Why)) (r : Reply) → ticket_in r ≡ None
    → ticket_in (unless_refused refusals r) ≡ None
none_refused [] r none = none
none_refused (refusal ∷ refusals) r none =
    chosen (λ (answer : Reply). ticket_in answer ≡ None) refusal.0 (reply.Not refusal.1) (unless_refused refusals r)
    refl (none_refused refusals r none)

none_on : (refusals : Loaded → List (Bool × Why)) (o : Option Loaded) → ticket_in (reply_on refusals o) ≡ None
none_on refusals None = refl
none_on refusals (Some l) = none_refused (refusals l) reply.Done refl

none_told : (o : Option Outcome) (r : Reply) → option_map (λ (became : Outcome). reply.Outcome became) o ≡ Some r
    → ticket_in r ≡ None
none_told None r told = cc
none_told (Some became) r told = let same = same_Some (reply.Outcome became) r told in rw (← same) refl

-- What a console call makes of the requests: there are no fewer of them, its ticket is that of one, and where the loop
-- is closed they and their outcomes are as before.
pub record Asks (s after : State) (r : Reply) : Type 0 where
  pub more : length s.requests ≤ length after.requests
  pub given : IfSome (ticket_in r) (λ ticket. ticket < length after.requests)
  pub still : s.closed ≡ true → SameRequests s after

-- a call that asks for nothing
asks_nothing : (s after : State) (r : Reply) → SameRequests s after → ticket_in r ≡ None → Asks s after r
asks_nothing s after r same none = record {
  more = rw same.requests (omega arith);
  given = rw none tt;
  still = λ closed. same;
}

-- a request: under a ticket, or refused
asks_request : (s : State) (asked : Request) → Asks s (request_effect s asked (request_reply s)) (request_reply s)
asks_request s asked = asked_by (cases_Bool s.closed) (cases_Bool (is_full s))
  where
    not_taken : (reason : Why) → request_reply s ≡ reply.Not reason
        → Asks s (request_effect s asked (request_reply s)) (request_reply s)
    not_taken reason is = rw is (asks_nothing s s (reply.Not reason) (same_requests s) refl)

    taken : s.closed ≡ false → request_reply s ≡ reply.Queued (length s.requests)
        → Asks s (request_effect s asked (request_reply s)) (request_reply s)
    taken opened is =
        let longer : length (s.requests ++ asked ∷ []) ≡ length s.requests + 1 =
        length-append s.requests (asked ∷ []) in
        rw is (record {
          more = omega (arith, longer);
          given = omega (arith, longer);
          still =
              λ closed. (let wrong : false ≡ true = rw opened at closed in cc);
        })

    asked_by : ((s.closed ≡ true) ⊎ (s.closed ≡ false)) → ((is_full s ≡ true) ⊎ (is_full s ≡ false))
        → Asks s (request_effect s asked (request_reply s)) (request_reply s)
    asked_by (inl closed) full = not_taken why.LoopEnded (rw closed refl)
    asked_by (inr opened) (inl full) = not_taken why.QueueFull (rw (opened, full) refl)
    asked_by (inr opened) (inr room) = taken opened (rw (opened, room) refl)

-- a reply that is there is this one
asks_by : (s : State) (call : Call) (known r : Reply) → Some known ≡ Some r → Asks s (effect s call known) known
    → Asks s (effect s call r) r
asks_by s call known r is asks = let same = same_Some known r is in rw (← same) asks

asks_on : (s after : State) (refusals : Loaded → List (Bool × Why)) (o : Option Loaded) → SameRequests s after
    → Asks s (where_done (reply_on refusals o) after s) (reply_on refusals o)
asks_on s after refusals o same =
    asks_nothing s _ (reply_on refusals o) (where_done-Requests s after (reply_on refusals o) same) (none_on refusals o)

-- each console call
pub asks : (s : State) (call : Call) (r : Reply) → IsConsole call → reply_of s call ≡ Some r
    → Asks s (effect s call r) r
asks s (Load name) r console is =
    let known = unless_refused (load_refusals s (place_of s name)) (reply.Serial s.loads) in
    asks_by s (Load name) known r is
    (asks_nothing s _ known (load_effect-Requests s name known)
    (none_refused (load_refusals s (place_of s name)) (reply.Serial s.loads) refl))
asks s (Configure name) r console is =
    asks_by s (Configure name) _ r is
    (asks_on s _ (configure_refusals s) (controller_of s name)
    (with_changed-Requests (after_configure s) s (slot_of s name)))
asks s (Cleanup name) r console is =
    asks_by s (Cleanup name) _ r is
    (asks_on s _ cleanup_refusals (controller_of s name) (with_changed-Requests after_cleanup s (slot_of s name)))
asks s (Unload name) r console is =
    asks_by s (Unload name) _ r is
    (asks_on s _ unload_refusals (controller_of s name) (without_slot-Requests s (slot_of s name)))
asks s (Rate name hz) r console is =
    asks_by s (Rate name hz) _ r is
    (asks_on s _ rate_refusals (controller_of s name) (with_changed-Requests (after_rate hz) s (slot_of s name)))
asks s (Send name mail) r console is =
    asks_by s (Send name mail) _ r is
    (asks_on s _ (send_refusals s mail) (controller_of s name)
    (with_changed-Requests (after_send mail) s (slot_of s name)))
asks s (Switch asked) r console is =
    asks_by s (Switch asked) (request_reply s) r is (asks_request s (request.Switch asked))
asks s (Hardware component target) r console is =
    asks_by s (Hardware component target) (request_reply s) r is (asks_request s (request.Hardware component target))
asks s (Told ticket) r console is = asks_nothing s s r (same_requests s) (none_told (slice_get s.outcomes ticket) r is)
asks s (Await cycles) r console is =
    asks_by s (Await cycles) reply.Done r is (asks_nothing s s reply.Done (same_requests s) refl)
asks s ListControllers r console is = asks_by s ListControllers _ r is (asks_nothing s s _ (same_requests s) refl)
asks s ListInterfaces r console is = asks_by s ListInterfaces _ r is (asks_nothing s s _ (same_requests s) refl)
asks s ListComponents r console is = asks_by s ListComponents _ r is (asks_nothing s s _ (same_requests s) refl)
asks s (Begin _) r console is = absurd console
asks s (End _) r console is = absurd console
asks s Close r console is = absurd console

-- ---- The loop's calls

-- to conclude a request asks for none
concluded-requests : (s : State) (asked : Request) → (concluded s asked).state.requests ≡ s.requests
unfolding commit
concluded-requests s asked = one_concluded asked
  where
    by_switch : (d : Decided) → (with_switch s d).state.requests ≡ s.requests
    by_switch (refused because) = refl
    by_switch (done dropped set again) = refl

    moved_unless : (name : List ℕ) (component : ℕ) (target : Life) (fault : Option Cause)
        → (with_move_unless s name component target fault).state.requests ≡ s.requests
    moved_unless name component target None = refl
    moved_unless name component target (Some reason) = refl

    by_move : (name : List ℕ) (target : Life) (place : Option ℕ)
        → (with_move s name target place).state.requests ≡ s.requests
    by_move name target None = refl
    by_move name target (Some component) = moved_unless name component target (move_fault s component target)

    one_concluded : (asked : Request) → (concluded s asked).state.requests ≡ s.requests
    one_concluded (request.Switch asked) = by_switch (decided (scene_of s) asked)
    one_concluded (request.Hardware component target) =
        by_move component target (component_place s.description component)

-- what is decided between two cycles was asked before
all_concluded-requests : (s : State) (requests : List Request) → (all_concluded s requests).requests ≡ s.requests
unfolding all_concluded
all_concluded-requests s [] = refl
all_concluded-requests s (asked ∷ later) =
    all_concluded-requests (with_outcome (concluded s asked)) later ∙ concluded-requests s asked

-- and those that stand in ask for nothing
pub standing-requests : (s : State) (names : List (List ℕ)) → (after_standing_in s names).requests ≡ s.requests
standing-requests s [] = refl
standing-requests s (name ∷ names) = concluded-requests (record s { fallbacks = [] }) (standing_in (name ∷ names))

pub boundary-requests : (s : State) → (boundary s).requests ≡ s.requests
boundary-requests s =
    all_concluded-requests (after_fallbacks s) (waiting (after_fallbacks s)) ∙ standing-requests s s.fallbacks

-- after the close each request has an outcome
pub close-decides : (s : State) → length (close_effect s).requests ≤ length (close_effect s).outcomes
close-decides s =
    let ended = map (λ (asked : Request). outcome.LoopEnded) (waiting s) in
    let all : length (s.outcomes ++ ended) ≡ length s.outcomes + length ended = length-append s.outcomes ended in
    let waited : length ended ≡ length (waiting s) = length-map (waiting s) (λ (asked : Request). outcome.LoopEnded) in
    let left : length (waiting s) ≡ length s.requests - length s.outcomes =
    length-drop (length s.outcomes) s.requests in
    omega (arith, all, waited, left)

-- ---- Where the loop is closed

-- each call that a line can say has a reply
never_unanswered : (s : State) (call : Call) → CanBeWritten call → reply_of s call ≡ None → ⊥
never_unanswered s (Load name) written none = cc
never_unanswered s (Configure name) written none = cc
never_unanswered s (Cleanup name) written none = cc
never_unanswered s (Unload name) written none = cc
never_unanswered s (Rate name hz) written none = cc
never_unanswered s (Send name mail) written none = cc
never_unanswered s (Switch asked) written none = cc
never_unanswered s (Hardware component target) written none = cc
never_unanswered s (Await cycles) written none = cc
never_unanswered s ListControllers written none = cc
never_unanswered s ListInterfaces written none = cc
never_unanswered s ListComponents written none = cc
never_unanswered s _ written none = absurd written

-- each is enabled there
closed_enabled : (s : State) (who : ℕ) (call : Call) → s.closed ≡ true → nat_lt who s.sessions ≡ true
    → CanBeWritten call → is_enabled s who call ≡ true
closed_enabled s who (Told ticket) closed known written = absurd written
closed_enabled s who (Await cycles) closed known written = rw (known, closed) (or-true (not (nat_lt s.ended cycles)))
closed_enabled s who (Begin _) closed known written = absurd written
closed_enabled s who (End _) closed known written = absurd written
closed_enabled s who Close closed known written = absurd written
closed_enabled s who _ closed known written = known

-- a call that is enabled and has a reply is made
step_made : (s : State) (who : ℕ) (call : Call) (r : Reply) → is_enabled s who call ≡ true → reply_of s call ≡ Some r
    → step s who call ≡ Some (answered s call r)
unfolding step
step_made s who call r enabled replied = rw (enabled, replied) refl

abbrev pub IsMade : State → ℕ → Call → Type 0
IsMade s who call = (reached : State × Reply) × (step s who call ≡ Some reached)

-- a session makes there whatever its line says
pub closed_made : (s : State) (who : ℕ) (call : Call) → s.closed ≡ true → nat_lt who s.sessions ≡ true
    → CanBeWritten call → IsMade s who call
closed_made s who call closed known written = elim (cases_Option (reply_of s call)) [
  | inl none ↦ absurd (never_unanswered s call written none)
  | inr (r, replied) ↦ (
    answered s call r,
    step_made s who call r (closed_enabled s who call closed known written) replied,
  )
]

-- and is told what became of each request that is decided
pub told_made : (s : State) (who ticket : ℕ) → nat_lt who s.sessions ≡ true → ticket < length s.outcomes
    → IsMade s who (Told ticket)
told_made s who ticket known less = elim (slice_get_cases s.outcomes ticket).1 [
  | inr (past, none) ↦ absurd (omega (arith, past, less))
  | inl (became, inside, found, at) ↦
      let decided : nat_lt ticket (length s.outcomes) ≡ true = grind (arith, nat_tests) in (
        answered s (Told ticket) (reply.Outcome became),
        step_made s who (Told ticket) (reply.Outcome became) (rw (known, decided) refl) (rw found refl),
      )
]

-- what is enabled for a step
pub step-enabled : (s : State) (who : ℕ) (call : Call) (reached : State × Reply) → step s who call ≡ Some reached
    → is_enabled s who call ≡ true
unfolding step
step-enabled s who call reached stepped = tested (is_enabled s who call) stepped
  where
    tested : (b : Bool) → (if b then option_map (answered s call) (reply_of s call) else None) ≡ Some reached → b ≡ true
    tested true made = refl
    tested false made = cc
