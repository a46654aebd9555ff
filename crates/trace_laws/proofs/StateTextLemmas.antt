-- Along a legal history all that a state tells prints without a byte that ends a line: its requests, their outcomes,
-- and those that stand in.
use Rattle.std.proofs.Common.{◌≡◌, ℕ, zero, suc, List, [], ◌∷◌, ◌++◌, length}
use Rattle.std.proofs.Common.{drop, map, Option, Some, None, refl, sym, subst}
use Rattle.std.specs.Prelude.{◌==◌, find, slice_get, option_map}
use Rattle.std.specs.List.{AllByRecursion}
use Rattle.std.specs.Option.{option_map_or}
use Rattle.sequence.proofs.ListLemmas.{all_append, all_push}
use Rattle.cm_document.proofs.DistinctLemmas.{all_of, all_so, all_map, all_flat_map}
use Rattle.cm_document.specs.ScriptLaws.{IsPick, CanBeWritten}
use Rattle.cm_document.specs.declared.call.Call.{Call}
use Rattle.cm_document.specs.declared.call.Call.TheVariants.{Load, Configure, Cleanup, Unload, Rate, Send}
use Rattle.cm_document.specs.declared.call.Call.TheVariants.{Switch, Hardware, Told, Begin, End, Close}
use Rattle.cm_document.specs.declared.call.Pick.{Pick}
use Rattle.cm_document.specs.declared.call.Pick.TheVariants.{One, Group}
use Rattle.cm_document.specs.declared.description.CtlDesc.{CtlDesc}
use Rattle.cm_document.specs.declared.life.Life.{Life}
use Rattle.cm_model.proofs.StayLemmas.{effect-Stands}
use Rattle.cm_model.proofs.WaitingLemmas.{boundary-requests}
use Rattle.cm_model.specs.BestEffort.{decided}
use Rattle.cm_model.specs.Boundary.{waiting, request_effect, with_switch, component_place, move_fault}
use Rattle.cm_model.specs.Boundary.{with_move_unless, with_move, concluded, with_outcome, all_concluded}
use Rattle.cm_model.specs.Boundary.{standing_in, after_standing_in, after_fallbacks, boundary}
use Rattle.cm_model.specs.Commit.{scene_of, described_of, commit}
use Rattle.cm_model.specs.Console.{place_of, slot_of, after_configure, after_cleanup, after_rate}
use Rattle.cm_model.specs.Console.{after_send, where_done, with_slot, with_changed, without_slot}
use Rattle.cm_model.specs.Cycle.{erred_in, fallbacks_of, fallbacks_after, cycle, after_cycle}
use Rattle.cm_model.specs.Machine.{with_controller, with_loaded, load_effect, effect}
use Rattle.cm_model.specs.State.{State, Loaded}
use Rattle.cm_model.specs.Switches.{Decided, refused, done}
use Rattle.cm_model.specs.declared.cause.Cause.{Cause}
use Rattle.cm_model.specs.declared.cause.Outcome.TheVariants as outcome
use Rattle.cm_model.specs.declared.reply.Reply.{Reply}
use Rattle.cm_model.specs.declared.reply.Reply.TheVariants as reply
use Rattle.cm_model.specs.declared.request.Request.{Request}
use Rattle.cm_model.specs.declared.request.Request.TheVariants as request
use Rattle.cm_storage.specs.Ran.{Ran}
use Rattle.sound_laws.proofs.FallbackLemmas.{begin_leaves_none}
use Rattle.sound_laws.proofs.TicketLemmas.{concluded_keeps, standing_outcomes, waiting_stays}
use Rattle.sound_laws.proofs.ToldLemmas.{IsPlain, plain_stays}
use Rattle.script_text.proofs.PrintWordLemmas.{IsPrinted}
use Rattle.trace_laws.proofs.CauseTextLemmas.{OutcomePrints, PickPrints, RequestPrints, concluded_prints}
use Rattle.trace_laws.proofs.NamedLemmas.{DescriptionPrints, at_prints}
use Rattle.trace_laws.proofs.SpellingLemmas.{name_printed}

-- ---- Calls

-- A call that a line of a script says, or one that needs no line.
abbrev pub IsSaid : Call → Type 0
IsSaid (Told ticket) = Unit {0}
IsSaid (Begin number) = Unit {0}
IsSaid (End number) = Unit {0}
IsSaid Close = Unit {0}
IsSaid call = CanBeWritten call

pick_prints : (pick : Pick) → IsPick pick → PickPrints pick
pick_prints (One name) named = name_printed name named
pick_prints (Group name) named = name_printed name named

-- ---- Requests that are decided

-- a request that is decided leaves the description,
switch_described : (s : State) (d : Decided) → (with_switch s d).state.description ≡ s.description
unfolding commit
switch_described s (refused because) = refl
switch_described s (done dropped set again) = refl

unless_described : (s : State) (name : List ℕ) (component : ℕ) (target : Life) (o : Option Cause)
    → (with_move_unless s name component target o).state.description ≡ s.description
unless_described s name component target None = refl
unless_described s name component target (Some reason) = refl

move_described : (s : State) (name : List ℕ) (target : Life) (place : Option ℕ)
    → (with_move s name target place).state.description ≡ s.description
move_described s name target None = refl
move_described s name target (Some component) = unless_described s name component target (move_fault s component target)

concluded_described : (s : State) (asked : Request) → (concluded s asked).state.description ≡ s.description
concluded_described s (request.Switch asked) = switch_described s (decided (scene_of s) asked)
concluded_described s (request.Hardware component target) =
    move_described s component target (component_place s.description component)

standing_described : (s : State) (names : List (List ℕ)) → (after_standing_in s names).description ≡ s.description
standing_described s [] = refl
standing_described s (name ∷ names) = concluded_described (record s { fallbacks = [] }) (standing_in (name ∷ names))

-- and what becomes of it prints
all_outcomes : (s : State) (asked : List Request) → DescriptionPrints s.description → AllByRecursion RequestPrints asked
    → AllByRecursion OutcomePrints s.outcomes
    → AllByRecursion OutcomePrints (all_concluded s asked).outcomes
unfolding all_concluded
all_outcomes s [] described all outcomes = outcomes
all_outcomes s (one ∷ later) described all outcomes =
    let conclusion = concluded s one in
    all_outcomes (with_outcome conclusion) later (subst DescriptionPrints (sym (concluded_described s one)) described)
    all.1
    (all_push OutcomePrints conclusion.state.outcomes conclusion.outcome
    (subst (AllByRecursion OutcomePrints) (sym (concluded_keeps s one)) outcomes)
    (concluded_prints s described one all.0))

pub all_drop : {A : Type 0} (P : A → Type 0) (n : ℕ) (xs : List A) → AllByRecursion P xs → AllByRecursion P (drop n xs)
all_drop P zero xs all = all
all_drop P (suc n) [] all = tt
all_drop P (suc n) (x ∷ xs) all = all_drop P n xs all.1

-- ---- States

-- What a state tells prints.
pub record StatePrints (s : State) : Type 0 where
  pub described : DescriptionPrints s.description
  pub requests : AllByRecursion RequestPrints s.requests
  pub outcomes : AllByRecursion OutcomePrints s.outcomes
  pub fallbacks : AllByRecursion IsPrinted s.fallbacks

pub boundary_prints : (s : State) → StatePrints s → AllByRecursion OutcomePrints (boundary s).outcomes
boundary_prints s prints =
    all_outcomes (after_fallbacks s) (waiting (after_fallbacks s))
    (subst DescriptionPrints (sym (standing_described s s.fallbacks)) prints.described)
    (subst (AllByRecursion RequestPrints) (sym (waiting_stays s))
    (all_drop RequestPrints (length s.outcomes) s.requests prints.requests))
    (subst (AllByRecursion OutcomePrints) (sym (standing_outcomes s s.fallbacks)) prints.outcomes)

pub close_prints : (s : State) → StatePrints s
    → AllByRecursion OutcomePrints (s.outcomes ++ map (λ (asked : Request). outcome.LoopEnded) (waiting s))
close_prints s prints =
    all_append OutcomePrints s.outcomes (map (λ (asked : Request). outcome.LoopEnded) (waiting s)) prints.outcomes
    (all_map OutcomePrints (λ (asked : Request). outcome.LoopEnded) (waiting s)
    (all_of _ (λ (asked : Request). tt) (waiting s)))

-- those that are to stand in are described so
fallbacks_print : (s : State) → DescriptionPrints s.description → (ran : List Ran)
    → AllByRecursion IsPrinted (fallbacks_after s ran)
fallbacks_print s described ran =
    all_flat_map IsPrinted (fallbacks_of s) (erred_in ran)
    (all_of _ (λ serial. of (find (λ (l : Loaded). l.serial == serial) s.loaded)) (erred_in ran))
  where
    of : (o : Option Loaded)
        → AllByRecursion IsPrinted (option_map_or (λ (l : Loaded). (described_of s l).fallback) o [])
    of None = tt
    of (Some l) = (at_prints s.description.controllers described.controllers l.place).fallback

-- ---- Calls that ask for nothing leave the requests

load_keeps : (s : State) (place : ℕ) (o : Option CtlDesc) → (with_controller s place o).requests ≡ s.requests
load_keeps s place None = refl
load_keeps s place (Some c) = refl

loaded_keeps : (s : State) (place : Option ℕ) → (with_loaded s place).requests ≡ s.requests
loaded_keeps s None = refl
loaded_keeps s (Some place) = load_keeps s place (slice_get s.description.controllers place)

load_effect_keeps : (s : State) (name : List ℕ) (r : Reply) → (load_effect s name r).requests ≡ s.requests
load_effect_keeps s name (reply.Serial serial) = loaded_keeps s (place_of s name)
load_effect_keeps s name _ = refl

slot_keeps : (s : State) (i : ℕ) (o : Option Loaded) → (with_slot s i o).requests ≡ s.requests
slot_keeps s i None = refl
slot_keeps s i (Some l) = refl

changed_keeps : (s : State) (change : Loaded → Loaded) (slot : Option ℕ)
    → (with_changed change s slot).requests ≡ s.requests
changed_keeps s change None = refl
changed_keeps s change (Some i) = slot_keeps s i (option_map change (slice_get s.loaded i))

without_keeps : (s : State) (slot : Option ℕ) → (without_slot s slot).requests ≡ s.requests
without_keeps s None = refl
without_keeps s (Some i) = refl

done_keeps : (s after : State) (r : Reply) → after.requests ≡ s.requests → (where_done r after s).requests ≡ s.requests
done_keeps s after reply.Done keeps = keeps
done_keeps s after _ keeps = refl

asked_prints : (s : State) (asked : Request) (r : Reply) → AllByRecursion RequestPrints s.requests → RequestPrints asked
    → AllByRecursion RequestPrints (request_effect s asked r).requests
asked_prints s asked (reply.Queued ticket) all one = all_push RequestPrints s.requests asked all one
asked_prints s asked _ all one = all

-- after each plain call that is said the requests print
plain_requests : (s : State) (call : Call) (r : Reply) → IsPlain call → IsSaid call
    → AllByRecursion RequestPrints s.requests → AllByRecursion RequestPrints (effect s call r).requests
plain_requests s (Load name) r plain said all =
    subst (AllByRecursion RequestPrints) (sym (load_effect_keeps s name r)) all
plain_requests s (Configure name) r plain said all =
    subst (AllByRecursion RequestPrints)
    (sym (done_keeps s (with_changed (after_configure s) s (slot_of s name)) r
    (changed_keeps s (after_configure s) (slot_of s name)))) all
plain_requests s (Cleanup name) r plain said all =
    subst (AllByRecursion RequestPrints)
    (sym (done_keeps s (with_changed after_cleanup s (slot_of s name)) r
    (changed_keeps s after_cleanup (slot_of s name)))) all
plain_requests s (Unload name) r plain said all =
    subst (AllByRecursion RequestPrints)
    (sym (done_keeps s (without_slot s (slot_of s name)) r (without_keeps s (slot_of s name)))) all
plain_requests s (Rate name hz) r plain said all =
    subst (AllByRecursion RequestPrints)
    (sym (done_keeps s (with_changed (after_rate hz) s (slot_of s name)) r
    (changed_keeps s (after_rate hz) (slot_of s name)))) all
plain_requests s (Send name mail) r plain said all =
    subst (AllByRecursion RequestPrints)
    (sym (done_keeps s (with_changed (after_send mail) s (slot_of s name)) r
    (changed_keeps s (after_send mail) (slot_of s name)))) all
plain_requests s (Switch asked) r plain said all =
    asked_prints s (request.Switch asked) r all
    (all_so IsPick PickPrints pick_prints asked.on said.on, all_so IsPick PickPrints pick_prints asked.off said.off)
plain_requests s (Hardware component target) r plain said all =
    asked_prints s (request.Hardware component target) r all (name_printed component said)
plain_requests s (Begin number) r plain said all = absurd plain
plain_requests s (End number) r plain said all = absurd plain
plain_requests s Close r plain said all = absurd plain
plain_requests s _ r plain said all = all

-- ---- Each call

plain_prints : (s : State) (call : Call) (r : Reply) → IsPlain call → IsSaid call → StatePrints s
    → StatePrints (effect s call r)
plain_prints s call r plain said prints =
    let stays = plain_stays s call r plain in
    record {
      described = subst DescriptionPrints (sym (effect-Stands s call r).description) prints.described;
      requests = plain_requests s call r plain said prints.requests;
      outcomes = subst (AllByRecursion OutcomePrints) (sym stays.outcomes) prints.outcomes;
      fallbacks = subst (AllByRecursion IsPrinted) (sym stays.fallbacks) prints.fallbacks;
    }

-- A call that is said leaves a state that prints.
pub effect_prints : (s : State) (call : Call) (r : Reply) → IsSaid call → StatePrints s → StatePrints (effect s call r)
unfolding after_cycle commit
effect_prints s (Begin number) r said prints = record {
  described = subst DescriptionPrints (sym (effect-Stands s (Begin number) r).description) prints.described;
  requests = subst (AllByRecursion RequestPrints) (sym (boundary-requests s)) prints.requests;
  outcomes = boundary_prints s prints;
  fallbacks = subst (AllByRecursion IsPrinted) (sym (begin_leaves_none s)) tt;
}
effect_prints s (End number) r said prints = record {
  described = subst DescriptionPrints (sym (effect-Stands s (End number) r).description) prints.described;
  requests = prints.requests;
  outcomes = prints.outcomes;
  fallbacks = fallbacks_print s prints.described (cycle s).happened.ran;
}
effect_prints s Close r said prints = record {
  described = prints.described;
  requests = prints.requests;
  outcomes = close_prints s prints;
  fallbacks = prints.fallbacks;
}
effect_prints s (Load name) r said prints = plain_prints s (Load name) r tt said prints
effect_prints s (Configure name) r said prints = plain_prints s (Configure name) r tt said prints
effect_prints s (Cleanup name) r said prints = plain_prints s (Cleanup name) r tt said prints
effect_prints s (Unload name) r said prints = plain_prints s (Unload name) r tt said prints
effect_prints s (Rate name hz) r said prints = plain_prints s (Rate name hz) r tt said prints
effect_prints s (Send name mail) r said prints = plain_prints s (Send name mail) r tt said prints
effect_prints s (Switch asked) r said prints = plain_prints s (Switch asked) r tt said prints
effect_prints s (Hardware component target) r said prints = plain_prints s (Hardware component target) r tt said prints
effect_prints s _ r said prints = prints
