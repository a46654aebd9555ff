-- What calls of the loop make of what its console tells.
use Rattle.std.proofs.Common.{◌≡◌, ℕ, ◌+◌, true, refl, sym, ap, ap₂, ◌∙◌, arith}
use Rattle.std.specs.Prelude.{◌-◌}
use Rattle.cm_document.specs.declared.call.Call.{Call}
use Rattle.cm_document.specs.declared.call.Call.TheVariants.{Begin, End, Close}
use Rattle.cm_model.specs.Boundary.{begin_reply, close_reply}
use Rattle.cm_model.specs.Commit.{commit}
use Rattle.cm_model.specs.Cycle.{cycle, after_cycle}
use Rattle.cm_model.specs.Histories.{ends_in}
use Rattle.cm_model.specs.Machine.{can_begin, can_close}
use Rattle.cm_model.specs.Ports.{CanBegin, CanClose, MakesLoopCall, Begins, Lands, Closes}
use Rattle.cm_model.specs.Sessions.{entries_by}
use Rattle.cm_model.specs.State.{State}
use Rattle.cm_model.specs.declared.reply.Reply.{Reply}
use Rattle.cm_model.specs.declared.reply.Reply.TheVariants as reply
use Rattle.cm_model.proofs.CountLemmas.{ends_are_the_loops}
use Rattle.cm_model.proofs.HistoryLemmas.{description_stays}
use Rattle.cm_model.proofs.StayLemmas.{boundary-SameLoop, step-IsStep}
use Rattle.cm_model.proofs.FollowedLemmas.{own_entry}
use Rattle.cm_desk.specs.Desk.{History, now_of, Grows, IsRight}
use Rattle.cm_desk.proofs.LoopLemmas.{begins_where, closes_where}
use Rattle.desk_turns.specs.Ports.{loop_console}

-- ---- When

-- where the console says that a cycle can begin, it can
pub can_begin_there : (h : History) → CanBegin (loop_console h) → can_begin (now_of h) (now_of h).ended ≡ true
can_begin_there h can =
    rw (description_stays h.made h.opening)
    (begins_where (now_of h).aloft (now_of h).closed (now_of h).ended h.opening.description.cycles can.home
    can.not_closed can.left)

pub can_close_there : (h : History) → CanClose (loop_console h) → can_close (now_of h) ≡ true
can_close_there h can = closes_where (now_of h).aloft (now_of h).closed can.home can.not_closed

-- ---- What

-- a call of the loop is one entry more of it
makes_call : (old new : History) (call : Call) (r : Reply) → Grows old new old.opening.sessions call r
    → MakesLoopCall (loop_console old) (loop_console new) call
makes_call old new call r grows = record {
  r = r;
  made =
      ap (λ (s : State). entries_by s.sessions new.made) grows.opening ∙ ap (entries_by old.opening.sessions) grows.made
      ∙ own_entry old.opening.sessions old.made call r;
  who = ap (λ (s : State). s.sessions) grows.opening;
}

-- as many cycles have ended as the console has ends
ended_there : (h : History) → IsRight h → (now_of h).ended ≡ ends_in (loop_console h).made
ended_there h right = right.ended ∙ sym (ends_are_the_loops h.made h.opening h.opening.sessions refl right.legal)

pub begins_there : (old new : History) → IsRight old
    → Grows old new old.opening.sessions (Begin (now_of old).ended) (begin_reply (now_of old))
    → Begins (loop_console old) (loop_console new)
begins_there old new right grows =
    let s = now_of old in
    let next = (step-IsStep s old.opening.sessions (Begin s.ended) (now_of new, begin_reply s) grows.stepped).next in
    let loop = boundary-SameLoop s in
    let ended : (now_of new).ended ≡ s.ended = ap (λ (t : State). t.ended) next ∙ loop.ended in
    record {
      made = rw (← ended_there old right) (makes_call old new (Begin s.ended) (begin_reply s) grows);
      left = ap₂ (λ (t : State) (n : ℕ). t.description.cycles - n) grows.opening ended;
      out = ap (λ (t : State). t.aloft) next;
      closed = ap (λ (t : State). t.closed) next ∙ loop.closed;
    }

one_less : (cycles ended : ℕ) → cycles - (ended + 1) ≡ (cycles - ended) - 1
one_less cycles ended = omega arith

pub lands_there : (old new : History) → IsRight old
    → Grows old new old.opening.sessions (End (now_of old).ended) (reply.Cycle (cycle (now_of old)).happened)
    → Lands (loop_console old) (loop_console new)
unfolding after_cycle commit
lands_there old new right grows =
    let s = now_of old in
    let next = (step-IsStep s old.opening.sessions (End s.ended) (now_of new, reply.Cycle (cycle s).happened)
    grows.stepped).next in
    let ended : (now_of new).ended ≡ s.ended + 1 = ap (λ (t : State). t.ended) next in
    record {
      made = rw (← ended_there old right) (makes_call old new (End s.ended) (reply.Cycle (cycle s).happened) grows);
      left = ap₂ (λ (t : State) (n : ℕ). t.description.cycles - n) grows.opening ended
          ∙ one_less old.opening.description.cycles s.ended;
      out = ap (λ (t : State). t.aloft) next;
      closed = ap (λ (t : State). t.closed) next;
    }

pub closes_there : (old new : History) → Grows old new old.opening.sessions Close (close_reply (now_of old))
    → Closes (loop_console old) (loop_console new)
closes_there old new grows =
    let s = now_of old in
    let next = (step-IsStep s old.opening.sessions Close (now_of new, close_reply s) grows.stepped).next in
    let ended : (now_of new).ended ≡ s.ended = ap (λ (t : State). t.ended) next in
    record {
      made = makes_call old new Close (close_reply s) grows;
      left = ap₂ (λ (t : State) (n : ℕ). t.description.cycles - n) grows.opening ended;
      out = ap (λ (t : State). t.aloft) next;
      closed = ap (λ (t : State). t.closed) next;
    }
