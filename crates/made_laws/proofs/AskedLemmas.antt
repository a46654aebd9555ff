-- What a session and the loop do where no request waits, and where one does.
use Rattle.std.proofs.Common.{◌≡◌, ℕ, zero, suc, ◌+◌, ◌<◌, Bool, false, List, [], ◌∷◌, ◌++◌, length, drop}
use Rattle.std.proofs.Common.{Option, Some, None, option_map, refl, sym, ap, ◌∙◌, arith, length-append}
use Rattle.std.specs.Prelude.{◌||◌, not, nat_le, slice_get}
use Rattle.std.proofs.lemmas.Bool.{lt-ltb, le-ltb}
use Rattle.std.proofs.lemmas.List.{drop_all}
use Rattle.cm_document.specs.declared.call.Call.TheVariants as call
use Rattle.cm_document.specs.declared.call.SwitchRequest.{SwitchRequest}
use Rattle.cm_model.specs.Boundary.{waiting, concluded, with_outcome, all_concluded}
use Rattle.cm_model.specs.Boundary.{boundary, decisions_from, decisions_between}
use Rattle.cm_model.specs.Console.{unless_refused}
use Rattle.cm_model.specs.Machine.{effect, answered, step}
use Rattle.cm_model.specs.State.{State, Loaded}
use Rattle.cm_model.specs.declared.TheConstants.{MOST_WAITING}
use Rattle.cm_model.specs.declared.cause.Outcome.{Outcome}
use Rattle.cm_model.specs.declared.cause.Outcome.TheVariants as outcome
use Rattle.cm_model.specs.declared.reply.Reply.{Reply}
use Rattle.cm_model.specs.declared.reply.Reply.TheVariants as reply
use Rattle.cm_model.specs.declared.reply.Why.TheVariants as why
use Rattle.cm_model.specs.declared.request.Request.{Request}
use Rattle.cm_model.specs.declared.request.Request.TheVariants as request
use Rattle.made_laws.proofs.DueLemmas.{step_when, step_unless}
use Rattle.made_laws.proofs.Standing.{Held, Asked, between}

-- ---- Lists

pub left_behind : {A : Type 0} (xs ys : List A) (n : ℕ) → length xs ≡ n → drop n (xs ++ ys) ≡ ys
left_behind [] ys zero is = refl
left_behind [] ys (suc n) is = absurd (omega (arith, is))
left_behind (x ∷ xs) ys zero is = absurd (omega (arith, is))
left_behind (x ∷ xs) ys (suc n) is = left_behind xs ys n (omega (arith, is))

pub last_found : {A : Type 0} (xs : List A) (x : A) (n : ℕ) → length xs ≡ n → slice_get (xs ++ x ∷ []) n ≡ Some x
last_found [] x zero is = refl
last_found [] x (suc n) is = absurd (omega (arith, is))
last_found (y ∷ xs) x zero is = absurd (omega (arith, is))
last_found (y ∷ xs) x (suc n) is = last_found xs x n (omega (arith, is))

-- ---- Requests so far

-- so many were asked, and as many of them decided
pub record AreDecided (asked : Asked) (count : ℕ) : Type 0 where
  pub requests : length asked.requests ≡ count
  pub outcomes : length asked.outcomes ≡ count

-- one more is asked
abbrev pub with_request : Asked → Request → Asked
with_request asked r = record asked { requests = asked.requests ++ r ∷ [] }

-- and carried out
abbrev pub with_done : Asked → Asked
with_done asked = record asked { outcomes = asked.outcomes ++ outcome.Done [] ∷ [] }

pub one_more : (asked : Asked) (r : Request) (count : ℕ) → AreDecided asked count
    → AreDecided (with_done (with_request asked r)) (count + 1)
one_more asked r count are =
    let longer = length-append asked.requests (r ∷ []) in
    let told = length-append asked.outcomes (outcome.Done [] ∷ []) in
    record { requests = omega (arith, longer, are.requests); outcomes = omega (arith, told, are.outcomes) }

module _ (cycles : ℕ) (loaded : List Loaded) (h : Held) (asked : Asked) (n count : ℕ) (are : AreDecided asked count)
  where
    abbrev here : State
    here = between cycles loaded h asked n

    pub none_waits : waiting here ≡ []
    none_waits = drop_all (length asked.outcomes) asked.requests (omega (arith, are.requests, are.outcomes))

    same_count : length asked.requests ≡ length asked.outcomes
    same_count = are.requests ∙ sym are.outcomes

    -- ---- The session

    -- a switch is taken
    pub switch_taken : (r : SwitchRequest)
        → step here 0 (call.Switch r)
        ≡ Some (between cycles loaded h (with_request asked (request.Switch r)) n, reply.Queued count)
    switch_taken r =
        step_when here 0 (call.Switch r) refl
        ∙ ap (λ (ws : List Request).
        (let given : Reply =
        unless_refused ((false, why.LoopEnded) ∷ (nat_le MOST_WAITING (length ws), why.QueueFull) ∷ [])
        (reply.Queued (length asked.requests)) in
        Some (effect here (call.Switch r) given, given))) none_waits
        ∙ ap (λ k. Some (between cycles loaded h (with_request asked (request.Switch r)) n, reply.Queued k))
        are.requests

    -- it is not told yet
    pub not_told : (r : Request) → step (between cycles loaded h (with_request asked r) n) 0 (call.Told count) ≡ None
    not_told r =
        step_unless (between cycles loaded h (with_request asked r) n) 0 (call.Told count)
        (le-ltb count (length asked.outcomes) (omega (arith, are.outcomes)))

    -- once it is done, it is told
    pub told_done : (r : Request)
        → step (between cycles loaded h (with_done (with_request asked r)) n) 0 (call.Told count)
        ≡ Some (between cycles loaded h (with_done (with_request asked r)) n, reply.Outcome (outcome.Done []))
    told_done r =
        let s : State = between cycles loaded h (with_done (with_request asked r)) n in
        let longer = length-append asked.outcomes (outcome.Done [] ∷ []) in
        step_when s 0 (call.Told count)
        (lt-ltb count (length (asked.outcomes ++ outcome.Done [] ∷ [])) (omega (arith, longer, are.outcomes)))
        ∙ ap (λ (o : Option Outcome). option_map (answered s (call.Told count))
        (option_map (λ became. reply.Outcome became) o))
        (last_found asked.outcomes (outcome.Done []) count are.outcomes)

    -- so many cycles have ended
    pub await_over : step here 0 (call.Await n) ≡ Some (here, reply.Done)
    await_over = step_when here 0 (call.Await n) (ap (λ (b : Bool). not b || false) (le-ltb n n (omega arith)))

    pub await_longer : (m : ℕ) → n < m → step here 0 (call.Await m) ≡ None
    await_longer m later = step_unless here 0 (call.Await m) (ap (λ (b : Bool). not b || false) (lt-ltb n m later))

    -- ---- The begin

    -- nothing is decided
    pub nothing_decided : boundary here ≡ here
    unfolding all_concluded
    nothing_decided = ap (all_concluded here) none_waits

    pub nothing_told : decisions_between here (boundary here) ≡ []
    nothing_told =
        ap (λ (s : State). decisions_between here s) nothing_decided
        ∙ ap (decisions_from (length asked.outcomes)) (drop_all (length asked.outcomes) asked.outcomes (omega arith))

    -- one request is decided
    pub one_waits : (r : Request) → waiting (between cycles loaded h (with_request asked r) n) ≡ r ∷ []
    one_waits r = left_behind asked.requests (r ∷ []) (length asked.outcomes) same_count

    pub one_decided : (r : Request)
        → boundary (between cycles loaded h (with_request asked r) n)
        ≡ with_outcome (concluded (between cycles loaded h (with_request asked r) n) r)
    unfolding all_concluded
    one_decided r = ap (all_concluded (between cycles loaded h (with_request asked r) n)) (one_waits r)

    pub one_told : (r : Request) (after : State) → after.outcomes ≡ asked.outcomes ++ outcome.Done [] ∷ []
        → decisions_between (between cycles loaded h (with_request asked r) n) after
        ≡ record { ticket = Some (length asked.outcomes); outcome = outcome.Done [] } ∷ []
    one_told r after is =
        ap (λ (os : List Outcome). decisions_from (length asked.outcomes) (drop (length asked.outcomes) os)) is
        ∙ ap (decisions_from (length asked.outcomes))
        (left_behind asked.outcomes (outcome.Done [] ∷ []) (length asked.outcomes) refl)
