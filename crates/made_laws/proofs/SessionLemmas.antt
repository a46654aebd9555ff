-- How the session of a made run settles: before the first cycle of a round, before the second, before the third, and
-- before the others.
use Rattle.std.proofs.Common.{◌≡◌, ℕ, suc, ◌<◌, List, [], ◌∷◌, Some, None, ℤ, refl, sym, ◌∙◌}
use Rattle.fixed_num.specs.declared.value.Value.{Value}
use Rattle.cm_document.specs.declared.call.Call.{Call}
use Rattle.cm_document.specs.declared.call.Call.TheVariants as call
use Rattle.cm_document.specs.declared.call.SwitchRequest.{SwitchRequest}
use Rattle.cm_model.proofs.AdvanceLemmas.{settle-next, settle-stays}
use Rattle.cm_model.specs.Scheduled.{Session, Advanced, with_entry, advance, settle}
use Rattle.cm_model.specs.State.{State, Loaded}
use Rattle.cm_model.specs.declared.cause.Outcome.TheVariants as outcome
use Rattle.cm_model.specs.declared.entry.Entry.{Entry}
use Rattle.cm_model.specs.declared.reply.Reply.TheVariants as reply
use Rattle.cm_model.specs.declared.request.Request.{Request}
use Rattle.cm_model.specs.declared.request.Request.TheVariants as request
use Rattle.make_document.specs.Made.{controller_name}
use Rattle.made_laws.proofs.AskedLemmas.{AreDecided, with_request, with_done, switch_taken}
use Rattle.made_laws.proofs.AskedLemmas.{not_told, told_done, await_over, await_longer}
use Rattle.made_laws.proofs.CountingLemmas.{Counts, entry_counts, done_adds, queued_adds, told_adds}
use Rattle.made_laws.proofs.DueLemmas.{advance_on, advance_not}
use Rattle.made_laws.proofs.RoundLemmas.{RoundOf, one_value, sent_state}
use Rattle.made_laws.proofs.Standing.{Held, Asked, between, running, eight}

-- the session where it waits for a ticket, and where it does not
abbrev pub waits : ℕ → List Call → Session
waits ticket lines = record { lines = lines; ticket = Some ticket }

abbrev pub ready : List Call → Session
ready lines = record { lines = lines; ticket = None }

abbrev pub point : State → List Entry → Session → Advanced
point s made session = record { state = s; made = made; session = session }

-- A session that settles comes to this state and stands so, and so much is counted.
pub record Settles (cycles n : ℕ) (from : Advanced) (to : State) (session : Session) (entries updates done : ℕ) : Type 0
  where
    pub made : List Entry
    pub is : settle 0 from ≡ point to made session
    pub counts : Counts made n entries updates done

-- where it cannot go on
pub settles_here : (cycles n : ℕ) (s : State) (made : List Entry) (session : Session) (entries updates done : ℕ)
    → advance 0 (point s made session) ≡ None
    → Counts made n entries updates done → Settles cycles n (point s made session) s session entries updates done
settles_here cycles n s made session entries updates done none counts =
    record { made = made; is = settle-stays 0 (point s made session) none; counts = counts }

-- where it goes on by one step, whose reply adds nothing but an entry
pub settles_by : (cycles n : ℕ) (a : Advanced) (next : Advanced) (to : State) (session : Session)
    (entries updates done : ℕ) → advance 0 a ≡ Some next
    → Settles cycles n next to session entries updates done → Settles cycles n a to session entries updates done
settles_by cycles n a next to session entries updates done one rest =
    record { made = rest.made; is = sym (settle-next 0 a next one) ∙ rest.is; counts = rest.counts }

module _ (cycles n count : ℕ) (h : Held) (asked : Asked) (are : AreDecided asked count) where
  -- a switch is taken, and then the session waits to be told
  pub settles_switch : (loaded : List Loaded) (made : List Entry) (r : SwitchRequest) (lines : List Call)
      (entries updates done : ℕ)
      → Counts made n entries updates done
      → Settles cycles n (point (between cycles loaded h asked n) made (ready (call.Switch r ∷ lines)))
      (between cycles loaded h (with_request asked (request.Switch r)) n) (waits count lines) (suc entries) updates done
  settles_switch loaded made r lines entries updates done counts =
      let s : State = between cycles loaded h asked n in
      let after : State = between cycles loaded h (with_request asked (request.Switch r)) n in
      let one = advance_on 0 (point s made (ready (call.Switch r ∷ lines))) (call.Switch r) after (reply.Queued count)
      refl (switch_taken cycles loaded h asked n count are r) in
      let more = with_entry made 0 (call.Switch r) (reply.Queued count) in
      settles_by cycles n (point s made (ready (call.Switch r ∷ lines))) (point after more (waits count lines)) after
      (waits count lines) (suc entries) updates done one
      (settles_here cycles n after more (waits count lines) (suc entries) updates done
      (advance_not 0 (point after more (waits count lines)) (call.Told count) refl
      (not_told cycles loaded h asked n count are (request.Switch r)))
      (entry_counts made 0 (call.Switch r) (reply.Queued count) n entries updates done 0 0 0 (queued_adds count)
      counts))

-- what was asked is told, and then it goes on from there
module _ (cycles n count : ℕ) (h : Held) (asked : Asked) (are : AreDecided asked count) (r : Request) where
  pub settles_told : (loaded : List Loaded) (made : List Entry) (lines : List Call) (to : State) (session : Session)
      (entries updates done more : ℕ)
      → Counts made n entries updates done
      → ((made : List Entry) → Counts made n (suc entries) updates done
      → Settles cycles n (point (between cycles loaded h (with_done (with_request asked r)) n) made (ready lines)) to
      session more updates done)
      → Settles cycles n (point (between cycles loaded h (with_done (with_request asked r)) n) made (waits count lines))
      to session more updates done
  settles_told loaded made lines to session entries updates done more counts rest =
      let s : State = between cycles loaded h (with_done (with_request asked r)) n in
      let later : List Entry = with_entry made 0 (call.Told count) (reply.Outcome (outcome.Done [])) in
      settles_by cycles n (point s made (waits count lines)) (point s later (ready lines)) to session more updates done
      (advance_on 0 (point s made (waits count lines)) (call.Told count) s (reply.Outcome (outcome.Done [])) refl
      (told_done cycles loaded h asked n count are r))
      (rest later (entry_counts made 0 (call.Told count) (reply.Outcome (outcome.Done [])) n entries updates done 0 0 0
      told_adds counts))

module _ (cycles n : ℕ) (loaded : List Loaded) (h : Held) (asked : Asked) (count : ℕ) (are : AreDecided asked count)
  where
    abbrev here : State
    here = between cycles loaded h asked n

    -- cycles are awaited that are over, and then it goes on from there
    pub settles_awaited : (made : List Entry) (lines : List Call) (to : State) (session : Session)
        (entries updates done more : ℕ)
        → Counts made n entries updates done
        → ((made : List Entry) → Counts made n (suc entries) updates done
        → Settles cycles n (point here made (ready lines)) to session more updates done)
        → Settles cycles n (point here made (ready (call.Await n ∷ lines))) to session more updates done
    settles_awaited made lines to session entries updates done more counts rest =
        let later : List Entry = with_entry made 0 (call.Await n) reply.Done in
        settles_by cycles n (point here made (ready (call.Await n ∷ lines))) (point here later (ready lines)) to session
        more updates done
        (advance_on 0 (point here made (ready (call.Await n ∷ lines))) (call.Await n) here reply.Done refl
        (await_over cycles loaded h asked n count are))
        (rest later (entry_counts made 0 (call.Await n) reply.Done n entries updates done 0 0 0 done_adds counts))

    -- cycles are awaited that are not over
    pub settles_awaiting : (made : List Entry) (m : ℕ) (lines : List Call) (entries updates done : ℕ) → n < m
        → Counts made n entries updates done
        → Settles cycles n (point here made (ready (call.Await m ∷ lines))) here (ready (call.Await m ∷ lines)) entries
        updates done
    settles_awaiting made m lines entries updates done later counts =
        settles_here cycles n here made (ready (call.Await m ∷ lines)) entries updates done
        (advance_not 0 (point here made (ready (call.Await m ∷ lines))) (call.Await m) refl
        (await_longer cycles loaded h asked n count are m later)) counts

-- mail is sent, and then it goes on from there
pub settles_sent : (a b cycles n : ℕ) → RoundOf a b
    → (held : ℕ → List Value) (h : Held) (asked : Asked) (z : ℤ) (made : List Entry) (lines : List Call)
    (to : State) (session : Session) (entries updates done more : ℕ) → Counts made n entries updates done
    → ((made : List Entry) → Counts made n (suc entries) updates done
    → Settles cycles n (point (sent_state cycles a held z h asked n) made (ready lines)) to session more updates done)
    → Settles cycles n
    (point (between cycles (eight (running held)) h asked n) made
    (ready (call.Send (controller_name a) (one_value z) ∷ lines))) to session more updates done
settles_sent a b cycles n round held h asked z made lines to session entries updates done more counts rest =
    let s : State = between cycles (eight (running held)) h asked n in
    let sending : Call = call.Send (controller_name a) (one_value z) in
    let later : List Entry = with_entry made 0 sending reply.Done in
    settles_by cycles n (point s made (ready (sending ∷ lines)))
    (point (sent_state cycles a held z h asked n) later (ready lines)) to session more updates done
    (advance_on 0 (point s made (ready (sending ∷ lines))) sending (sent_state cycles a held z h asked n) reply.Done
    refl ((round cycles n held h asked z).sent))
    (rest later (entry_counts made 0 sending reply.Done n entries updates done 0 0 0 done_adds counts))
