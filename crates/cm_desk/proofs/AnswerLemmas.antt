-- What lists leave, and the replies of the other calls, which take no memory.
use Rattle.std.proofs.Common.{◌≡◌, ℕ, Bool, true, Result, Ok, Err, List, [], ◌∷◌, length, Option, Some, None, refl, ap}
use Rattle.std.specs.Prelude.{IfOk, OnErr}
use Rattle.cm_document.specs.declared.call.Call.{Call}
use Rattle.cm_document.specs.declared.call.Call.TheVariants.{ListControllers, ListInterfaces, ListComponents}
use Rattle.cm_document.proofs.ReadingLemmas.{chosen}
use Rattle.cm_model.specs.Boundary.{request_refusals, request_reply, request_effect}
use Rattle.cm_model.specs.Console.{unless_refused, place_of, reply_on}
use Rattle.cm_model.specs.Machine.{load_refusals, reply_of}
use Rattle.cm_model.specs.State.{State, Loaded}
use Rattle.cm_model.specs.declared.reply.Reply.{Reply}
use Rattle.cm_model.specs.declared.reply.Reply.TheVariants as reply
use Rattle.cm_model.specs.declared.reply.Why.{Why}
use Rattle.cm_model.specs.declared.request.Request.{Request}
use Rattle.request_plan.specs.Requests.{Asked, with_asked, IsAnswered}
use Rattle.cm_desk.specs.Desk.{is_list, IsShort, IsAnswerTo}
use Rattle.cm_desk.specs.Works.{load_reply}

-- a list changes nothing, and hands out no box
pub list_changes_nothing : (s : State) (call : Call) (r : Reply) → is_list call ≡ true → reply_of s call ≡ Some r
    → IsAnswerTo s call s r None
list_changes_nothing s ListControllers r list replied = record { replied = replied; next = refl; handed = refl }
list_changes_nothing s ListInterfaces r list replied = record { replied = replied; next = refl; handed = refl }
list_changes_nothing s ListComponents r list replied = record { replied = replied; next = refl; handed = refl }
list_changes_nothing s _ r list replied = cc

unless_refused-IsShort : (refusals : List (Bool × Why)) (r : Reply) → IsShort r → IsShort (unless_refused refusals r)
unless_refused-IsShort [] r short = short
unless_refused-IsShort (refusal ∷ refusals) r short =
    chosen (λ (answer : Reply). IsShort answer) refusal.0 (reply.Not refusal.1) (unless_refused refusals r) tt
    (unless_refused-IsShort refusals r short)

pub load_reply_is_short : (s : State) (name : List ℕ) → IsShort (load_reply s name)
load_reply_is_short s name = unless_refused-IsShort (load_refusals s (place_of s name)) (reply.Serial s.loads) tt

pub reply_on_is_short : (refusals : Loaded → List (Bool × Why)) (l : Option Loaded) → IsShort (reply_on refusals l)
reply_on_is_short refusals None = tt
reply_on_is_short refusals (Some l) = unless_refused-IsShort (refusals l) reply.Done tt

pub request_reply_is_short : (s : State) → IsShort (request_reply s)
request_reply_is_short s = unless_refused-IsShort (request_refusals s) (reply.Queued (length s.requests)) tt

-- what is answered in every state with these requests is answered in this one
pub asked_so : {E : Type 0} (s : State) (before after : Asked) (closed : Bool) (asked : Request)
    (result : Result Reply E)
    → IfOk result
    (λ answer. (u : State)
    → IsAnswered (request_reply (with_asked u before closed)) (request_effect (with_asked u before closed) asked)
    (with_asked u after closed) answer)
    → IfOk result
    (λ answer. IsAnswered (request_reply (with_asked s before closed))
    (request_effect (with_asked s before closed) asked) (with_asked s after closed) answer)
asked_so s before after closed asked (Ok answer) answered = answered s
asked_so s before after closed asked (Err e) answered = tt

-- where the requests stay, the state does
pub unasked_so : {A E : Type 0} (s : State) (before after : Asked) (closed : Bool) (result : Result A E)
    → OnErr result (after ≡ before)
    → OnErr result (with_asked s after closed ≡ with_asked s before closed)
unasked_so s before after closed (Ok answer) kept = tt
unasked_so s before after closed (Err e) kept = ap (λ (asked : Asked). with_asked s asked closed) kept
