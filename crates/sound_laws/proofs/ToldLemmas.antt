-- Along each legal history what was told so far are, by ticket, the outcomes of all requests that have one.
use Rattle.std.proofs.Common.{◌≡◌, ◌⊎◌, ℕ, List, [], ◌∷◌, ◌++◌, Option, Some, None}
use Rattle.std.proofs.Common.{option_map, append-nil, inl, inr, refl, sym, ◌∙◌, subst, ap}
use Rattle.std.specs.Prelude.{slice_get}
use Rattle.std.proofs.lemmas.Option.{same_Some}
use Rattle.cm_document.specs.declared.call.Call.{Call}
use Rattle.cm_document.specs.declared.call.Call.TheVariants.{Load, Configure, Cleanup, Unload, Rate, Send}
use Rattle.cm_document.specs.declared.call.Call.TheVariants.{Switch, Hardware, Told, Begin, End, Close}
use Rattle.cm_document.specs.declared.description.CtlDesc.{CtlDesc}
use Rattle.cm_model.proofs.StayLemmas.{IsStep}
use Rattle.cm_model.specs.Boundary.{request_effect, decisions_from, begin_effect}
use Rattle.cm_model.specs.Boundary.{begin_reply, close_effect, close_reply}
use Rattle.cm_model.specs.Commit.{commit}
use Rattle.cm_model.specs.Console.{place_of, slot_of, after_configure, after_cleanup, after_rate}
use Rattle.cm_model.specs.Console.{after_send, where_done, with_slot, with_changed, without_slot}
use Rattle.cm_model.specs.Cycle.{after_cycle}
use Rattle.cm_model.specs.Machine.{LegalFrom, reply_of, with_controller, with_loaded, load_effect, effect}
use Rattle.cm_model.specs.Sound.{moments, decisions_in, ticketed, IsToldRightly, TicketsAreRight, TicketsFrom}
use Rattle.cm_model.specs.State.{State, Loaded}
use Rattle.cm_model.specs.declared.cause.Decision.{Decision}
use Rattle.cm_model.specs.declared.entry.Entry.{Entry}
use Rattle.cm_model.specs.declared.reply.Reply.{Reply}
use Rattle.cm_model.specs.declared.reply.Reply.TheVariants as reply
use Rattle.cm_model.specs.declared.request.Request.{Request}
use Rattle.cm_model.specs.declared.request.Request.TheVariants as request
use Rattle.sound_laws.proofs.MomentLemmas.{moment_of, legal_step}
use Rattle.sound_laws.proofs.ReplyLemmas.{Decides, of_reply}
use Rattle.sound_laws.proofs.TicketLemmas.{begin_tells, close_tells, told_rightly}

-- ---- Outcomes and those that are to stand in stay

-- both are as they were
pub record Stays (s after : State) : Type 0 where
  pub outcomes : after.outcomes ≡ s.outcomes
  pub fallbacks : after.fallbacks ≡ s.fallbacks

same : (s : State) → Stays s s
same s = record { outcomes = refl; fallbacks = refl }

load_stays : (s : State) (place : ℕ) (o : Option CtlDesc) → Stays s (with_controller s place o)
load_stays s place None = same s
load_stays s place (Some c) = record { outcomes = refl; fallbacks = refl }

loaded_stays : (s : State) (place : Option ℕ) → Stays s (with_loaded s place)
loaded_stays s None = same s
loaded_stays s (Some place) = load_stays s place (slice_get s.description.controllers place)

load_effect_stays : (s : State) (name : List ℕ) (r : Reply) → Stays s (load_effect s name r)
load_effect_stays s name (reply.Serial serial) = loaded_stays s (place_of s name)
load_effect_stays s name _ = same s

slot_stays : (s : State) (i : ℕ) (o : Option Loaded) → Stays s (with_slot s i o)
slot_stays s i None = same s
slot_stays s i (Some l) = record { outcomes = refl; fallbacks = refl }

changed_stays : (s : State) (change : Loaded → Loaded) (slot : Option ℕ) → Stays s (with_changed change s slot)
changed_stays s change None = same s
changed_stays s change (Some i) = slot_stays s i (option_map change (slice_get s.loaded i))

without_stays : (s : State) (slot : Option ℕ) → Stays s (without_slot s slot)
without_stays s None = same s
without_stays s (Some i) = record { outcomes = refl; fallbacks = refl }

where_done_stays : (s after : State) (r : Reply) → Stays s after → Stays s (where_done r after s)
where_done_stays s after reply.Done stays = stays
where_done_stays s after _ stays = same s

request_stays : (s : State) (asked : Request) (r : Reply) → Stays s (request_effect s asked r)
request_stays s asked (reply.Queued ticket) = record { outcomes = refl; fallbacks = refl }
request_stays s asked _ = same s

-- a call that neither decides nor ends a cycle
abbrev pub IsPlain : Call → Type 0
IsPlain (Begin number) = ⊥
IsPlain (End number) = ⊥
IsPlain Close = ⊥
IsPlain _ = Unit {0}

-- leaves both as they are
pub plain_stays : (s : State) (call : Call) (r : Reply) → IsPlain call → Stays s (effect s call r)
plain_stays s (Load name) r plain = load_effect_stays s name r
plain_stays s (Configure name) r plain = where_done_stays s _ r (changed_stays s (after_configure s) (slot_of s name))
plain_stays s (Cleanup name) r plain = where_done_stays s _ r (changed_stays s after_cleanup (slot_of s name))
plain_stays s (Unload name) r plain = where_done_stays s _ r (without_stays s (slot_of s name))
plain_stays s (Rate name hz) r plain = where_done_stays s _ r (changed_stays s (after_rate hz) (slot_of s name))
plain_stays s (Send name mail) r plain = where_done_stays s _ r (changed_stays s (after_send mail) (slot_of s name))
plain_stays s (Switch asked) r plain = request_stays s (request.Switch asked) r
plain_stays s (Hardware component target) r plain = request_stays s (request.Hardware component target) r
plain_stays s (Begin number) r plain = absurd plain
plain_stays s (End number) r plain = absurd plain
plain_stays s Close r plain = absurd plain
plain_stays s _ r plain = same s

-- a call that decides nothing leaves the outcomes as they are
effect_stays : (s : State) (call : Call) (r : Reply) → (Decides call → ⊥) → (effect s call r).outcomes ≡ s.outcomes
unfolding after_cycle commit
effect_stays s (Begin number) r never = absurd (never tt)
effect_stays s (End number) r never = refl
effect_stays s Close r never = absurd (never tt)
effect_stays s (Load name) r never = (plain_stays s (Load name) r tt).outcomes
effect_stays s (Configure name) r never = (plain_stays s (Configure name) r tt).outcomes
effect_stays s (Cleanup name) r never = (plain_stays s (Cleanup name) r tt).outcomes
effect_stays s (Unload name) r never = (plain_stays s (Unload name) r tt).outcomes
effect_stays s (Rate name hz) r never = (plain_stays s (Rate name hz) r tt).outcomes
effect_stays s (Send name mail) r never = (plain_stays s (Send name mail) r tt).outcomes
effect_stays s (Switch asked) r never = (plain_stays s (Switch asked) r tt).outcomes
effect_stays s (Hardware component target) r never = (plain_stays s (Hardware component target) r tt).outcomes
effect_stays s _ r never = refl

-- and tells of no decision
pub none_told : (s : State) (call : Call) (r : Reply) → (Decides call → ⊥) → reply_of s call ≡ Some r
    → decisions_in r ≡ []
none_told s call r never told = of_reply s (λ r. decisions_in r ≡ []) call (record {
  refused = λ reason. refl;
  done = refl;
  serial = refl;
  controllers = refl;
  interfaces = refl;
  components = refl;
  decisions = λ decides decisions. absurd (never decides);
  queued = refl;
  became = λ became. refl;
  cycle = refl;
}) r told

-- ---- One call

module _ (s : State) (made : State × Reply) where
  -- what was told before, with what this call tells, is told of all that have an outcome then
  abbrev TellsRest : Type 0
  TellsRest = decisions_from 0 s.outcomes ++ ticketed (decisions_in made.1) ≡ decisions_from 0 made.0.outcomes

  plain_tells : (call : Call) → IsStep s call made → (Decides call → ⊥) → TellsRest
  plain_tells call is never =
      ap (λ (ds : List Decision). decisions_from 0 s.outcomes ++ ticketed ds) (none_told s call made.1 never is.replied)
      ∙ append-nil (decisions_from 0 s.outcomes)
      ∙ ap (decisions_from 0) (sym (ap (λ (t : State). t.outcomes) is.next ∙ effect_stays s call made.1 never))

  -- with the reply that it has, and the state that it leaves
  as_made : (r : Reply) (t : State) → r ≡ made.1 → made.0 ≡ t
      → decisions_from 0 s.outcomes ++ ticketed (decisions_in r) ≡ decisions_from 0 t.outcomes → TellsRest
  as_made r t same next tells =
      ap (λ (answer : Reply). decisions_from 0 s.outcomes ++ ticketed (decisions_in answer)) (sym same) ∙ tells
      ∙ ap (λ (t : State). decisions_from 0 t.outcomes) (sym next)

  deciding : (call : Call) → (Decides call) ⊎ (Decides call → ⊥)
  deciding (Begin number) = inl tt
  deciding Close = inl tt
  deciding _ = inr (λ never. never)

  decided_tells : (call : Call) → IsStep s call made → Decides call → TellsRest
  decided_tells (Begin number) is decides =
      as_made (begin_reply s) (begin_effect s) (same_Some (begin_reply s) made.1 is.replied) is.next (begin_tells s)
  decided_tells Close is decides =
      as_made (close_reply s) (close_effect s) (same_Some (close_reply s) made.1 is.replied) is.next (close_tells s)
  decided_tells _ is decides = absurd decides

  tells : (call : Call) → IsStep s call made → TellsRest
  tells call is =
      elim (deciding call) [
        | inl decides ↦ decided_tells call is decides
        | inr never ↦ plain_tells call is never
      ]

  -- and who asks is told what was told before
  asks : (call : Call) → IsStep s call made → IsToldRightly (decisions_from 0 s.outcomes) call made.1
  asks (Told ticket) is = told_rightly s ticket ∙ is.replied
  asks _ is = tt

  call_right : (so_far : List Decision) → so_far ≡ decisions_from 0 s.outcomes → (call : Call) → IsStep s call made
      → TicketsAreRight so_far (moment_of s call made)
  call_right so_far are call is =
      subst (λ told. TicketsAreRight told (moment_of s call made)) (sym are)
      (record { each_once = tells call is; told = asks call is })

-- ---- Histories

-- Each ticket is decided once, and told so, along each legal history.
pub tickets_from : (s : State) (so_far : List Decision) (history : List Entry) → so_far ≡ decisions_from 0 s.outcomes
    → LegalFrom s history
    → TicketsFrom so_far (moments s history)
tickets_from s so_far [] are legal = tt
tickets_from s so_far (e ∷ es) are legal =
    let first = legal_step s e es legal in
    let all : so_far ++ ticketed (decisions_in first.made.1) ≡ decisions_from 0 first.made.0.outcomes =
    ap (λ told. told ++ ticketed (decisions_in first.made.1)) are ∙ tells s first.made e.call first.is in
    subst (TicketsFrom so_far) (sym first.are) (
      call_right s first.made so_far are e.call first.is,
      tickets_from first.made.0 (so_far ++ ticketed (decisions_in first.made.1)) es all first.later,
    )
