-- A run of sessions and the loop follows their lines, to its end.
use Rattle.std.proofs.Common.{◌≡◌, ℕ, zero, suc, ◌+◌, ◌<◌, ◌≤◌, List, [], ◌∷◌, ◌++◌, length, Option, Some, None, Bool}
use Rattle.std.proofs.Common.{true, false, nat_lt, refl, sym, subst, ap, ◌∙◌, append_assoc, append-nil, inl, inr, arith}
use Rattle.std.specs.Prelude.{◌-◌, slice_get, ◌==◌, ◌&&◌, IfSome}
use Rattle.std.specs.List.{AllByRecursion}
use Rattle.std.proofs.lemmas.List.{length-append}
use Rattle.std.proofs.lemmas.Bool.Decides.{nat_tests}
use Rattle.std.proofs.lemmas.Option.{same_Some}
use Rattle.cm_document.proofs.ReadingLemmas.{cases_Option}
use Rattle.cm_document.specs.ScriptLaws.{CanBeWritten, IsTurnAmong}
use Rattle.cm_document.specs.declared.call.Call.{Call}
use Rattle.cm_document.specs.declared.call.Call.TheVariants.{Told, Begin, End, Close}
use Rattle.cm_document.specs.declared.description.Description.{Description}
use Rattle.cm_document.specs.declared.script.Turn.{Turn}
use Rattle.cm_document.specs.declared.script.Turn.TheVariants as turn
use Rattle.cm_model.specs.Boundary.{begin_reply, begin_effect, close_reply, close_effect}
use Rattle.cm_model.specs.Commit.{commit}
use Rattle.cm_model.specs.Cycle.{cycle, after_cycle}
use Rattle.cm_model.specs.Machine.{step, can_begin, can_end, can_close}
use Rattle.cm_model.specs.Scheduled.{Session, Advanced, Progress, with_entry, next_call, after_call}
use Rattle.cm_model.specs.Scheduled.{stepped_on, called_on, advance, settle, settle_from, settle_all}
use Rattle.cm_model.specs.Scheduled.{looped, with_cycle, cycles, cycles_from, finish, with_advance}
use Rattle.cm_model.specs.Scheduled.{advanced_once, turned, turns, landed, cycles_left}
use Rattle.cm_model.specs.Sessions.{entries_by, calls_of, cycle_calls, loop_calls}
use Rattle.cm_model.specs.State.{State}
use Rattle.cm_model.specs.declared.entry.Entry.{Entry}
use Rattle.cm_model.specs.declared.reply.Reply.{Reply}
use Rattle.cm_model.specs.declared.reply.Reply.TheVariants as reply
use Rattle.cm_model.proofs.ComesLemmas.{calls_more}
use Rattle.cm_model.proofs.AdvanceLemmas.{Made, advance-Made, settle-keeps, settled-stands}
use Rattle.cm_model.proofs.EnabledLemmas.{enabled-IsConsole}
use Rattle.cm_model.proofs.StayLemmas.{effect-SameLoop, boundary-SameLoop, step-IsStep}
use Rattle.cm_model.proofs.WaitingLemmas.{Asks, asks, IsMade, closed_made, told_made}
use Rattle.cm_model.proofs.WaitingLemmas.{step-enabled, boundary-requests, close-decides}
use Rattle.cm_model.proofs.FollowedLemmas.{AllAre, AllThrough, Come, IsThrough, Loop, Within, all_changed}
use Rattle.cm_model.proofs.FollowedLemmas.{between, come_on, nat_cases, one_changed, one_of, other_entry}
use Rattle.cm_model.proofs.FollowedLemmas.{own_entry, parted, stay, through_push, within_more}

module _ (scripts : List (List Call)) (count total : ℕ) (size : length scripts ≡ count) where
  -- So far a run of these scripts has come: each session to its place, the loop to its own with these calls, and once
  -- it is closed each request has an outcome.
  pub record Runs (loop : Loop) (calls : List Call) (progress : Progress) : Type 0 where
    pub sessions : AllAre (Come progress.made progress.state) 0 scripts progress.sessions
    pub made : calls_of (entries_by count progress.made) ≡ calls
    pub within : Within count progress.made
    pub known : progress.state.sessions ≡ count
    pub described : progress.state.description.cycles ≡ total
    pub ended : progress.state.ended ≡ loop.ended
    pub aloft : progress.state.aloft ≡ loop.aloft
    pub closed : progress.state.closed ≡ loop.closed
    pub decided : loop.closed ≡ true → length progress.state.requests ≤ length progress.state.outcomes

  -- ---- A session advances

  advance-Runs : (loop : Loop) (calls : List Call) (who : ℕ) (settled later : List Session) (a after : Advanced)
      → length settled ≡ who → who < count
      → Runs loop calls (between settled later a) → Made who a after → Runs loop calls (between settled later after)
  advance-Runs loop calls who settled later a after place less runs one =
      let inside : who < a.state.sessions = rw runs.known less in
      let console =
      enabled-IsConsole a.state who one.call inside
      (step-enabled a.state who one.call (after.state, one.reply) one.stepped) in
      let is = step-IsStep a.state who one.call (after.state, one.reply) one.stepped in
      let asked_so : Asks a.state after.state one.reply =
      rw is.next (asks a.state one.call one.reply console is.replied) in
      let same = effect-SameLoop a.state one.call one.reply console in
      let differs : (who == count) ≡ false = grind (arith, nat_tests) in
      rw (one.made, one.session) (record {
        sessions = one_changed (Come a.made a.state) (Come (with_entry a.made who one.call one.reply) after.state) who 0
            scripts settled a.session (after_call a.session.ticket a.session.lines one.reply) later
            (omega (arith, place))
            (λ k lines z apart has. stay a.made a.state after.state k who lines z.lines z.ticket one.call one.reply
            apart asked_so.more has)
            (λ lines has. come_on a.made a.state after.state who lines a.session.lines a.session.ticket one.call
            one.reply one.next asked_so has)
            runs.sessions;
        made = ap calls_of (other_entry count who a.made one.call one.reply differs) ∙ runs.made;
        within = within_more count a.made who one.call one.reply (omega (arith, less)) runs.within;
        known = rw is.next (same.sessions ∙ runs.known);
        described = rw is.next (ap (λ (d : Description). d.cycles) same.description ∙ runs.described);
        ended = rw is.next (same.ended ∙ runs.ended);
        aloft = rw is.next (same.aloft ∙ runs.aloft);
        closed = rw is.next (same.closed ∙ runs.closed);
        decided = λ closed.
            (let still = asked_so.still (runs.closed ∙ closed) in
            rw (still.requests, still.outcomes) (runs.decided closed));
      })

  -- ---- A session settles

  -- where the loop is closed the next call of a session is enabled
  never_stuck : (s : State) (who : ℕ) (ticket : Option ℕ) (rest : List Call) (call : Call) → s.closed ≡ true
      → nat_lt who s.sessions ≡ true
      → length s.requests ≤ length s.outcomes → AllByRecursion CanBeWritten rest
      → IfSome ticket (λ t. t < length s.requests) → next_call ticket rest ≡ Some call → IsMade s who call
  never_stuck s who (Some ticket) rest call closed known decided written given next =
      let same = same_Some (Told ticket) call next in
      let less : ticket < length s.requests = given in
      rw (← same) (told_made s who ticket known (omega (arith, decided, less)))
  never_stuck s who None [] call closed known decided written given next = cc
  never_stuck s who None (first ∷ rest) call closed known decided written given next =
      let same = same_Some first call next in rw (← same) (closed_made s who first closed known written.0)

  -- so a session that has one can advance
  stepped_none : (who : ℕ) (a : Advanced) (call : Call) (o : Option (State × Reply)) (reached : State × Reply)
      → o ≡ Some reached → stepped_on who a call o ≡ None → ⊥
  stepped_none who a call None reached some none = cc
  stepped_none who a call (Some made) reached some none = cc

  called_none : (who : ℕ) (a : Advanced) (o : Option Call) (call : Call) → o ≡ Some call → IsMade a.state who call
      → called_on who a o ≡ None → ⊥
  called_none who a None call some made none = cc
  called_none who a (Some first) call some made none =
      let same = same_Some first call some in
      stepped_none who a first (step a.state who first) made.0 (rw same made.1) none

  -- a session without a next call is through
  no_next : (x : Session) (ticket : Option ℕ) (rest : List Call) → x.ticket ≡ ticket → x.lines ≡ rest
      → next_call ticket rest ≡ None → IsThrough x
  no_next x (Some ticket) rest t l next = cc
  no_next x None [] t l next = record { lines = l; ticket = t }
  no_next x None (first ∷ rest) t l next = cc

  -- a session that cannot advance there is through
  stands_through : (loop : Loop) (calls : List Call) (who : ℕ) (settled later : List Session) (a : Advanced)
      → length settled ≡ who → who < count
      → loop.closed ≡ true → Runs loop calls (between settled later a) → advance who a ≡ None → IsThrough a.session
  unfolding advance
  stands_through loop calls who settled later a place less closed runs none =
      let own = one_of (Come a.made a.state) who 0 scripts settled a.session later (omega (arith, place))
      runs.sessions in
      let known : nat_lt who a.state.sessions ≡ true =
      rw runs.known (let inside : nat_lt who count ≡ true = grind (arith, nat_tests) in inside) in
      elim (cases_Option (next_call a.session.ticket a.session.lines)) [
        | inl nothing ↦ no_next a.session a.session.ticket a.session.lines refl refl nothing
        | inr (call, next) ↦
            let can = never_stuck a.state who a.session.ticket a.session.lines call (runs.closed ∙ closed) known
            (runs.decided closed) own.1.written own.1.given next in
            absurd (called_none who a (next_call a.session.ticket a.session.lines) call next can none)
      ]

  -- what settling leaves: the run where it was, and once the loop is closed nobody with anything left to do
  pub record Settled (loop : Loop) (calls : List Call) (progress : Progress) : Type 0 where
    pub runs : Runs loop calls progress
    pub through : loop.closed ≡ true → AllThrough progress.sessions

  settle_from-Settled : (loop : Loop) (calls : List Call) (who : ℕ) (later : List Session) (s : State)
      (made : List Entry) (settled : List Session)
      → length settled ≡ who → who + length later ≡ count → (loop.closed ≡ true → AllThrough settled)
      → Runs loop calls (record { state = s; made = made; sessions = settled ++ later })
      → Settled loop calls (settle_from who later s made settled)
  settle_from-Settled loop calls who [] s made settled place few through runs = record {
    runs = subst (λ (xs : List Session). Runs loop calls (record { state = s; made = made; sessions = xs }))
        (append-nil settled) runs;
    through = through;
  }
  settle_from-Settled loop calls who (x ∷ later) s made settled place few through runs =
      let less : who < count = omega (arith, few) in
      let first : Advanced = record { state = s; made = made; session = x } in
      let a = settle who first in
      let here : Runs loop calls (between settled later a) =
      settle-keeps (λ (each : Advanced). Runs loop calls (between settled later each)) who
      (λ each after holds one. advance-Runs loop calls who settled later each after place less holds one) first runs in
      let longer : length (settled ++ a.session ∷ []) ≡ length settled + 1 = length-append settled (a.session ∷ []) in
      settle_from-Settled loop calls (who + 1) later a.state a.made (settled ++ a.session ∷ [])
      (omega (arith, longer, place)) (omega (arith, few))
      (λ closed. through_push settled a.session (through closed)
      (stands_through loop calls who settled later a place less closed here (settled-stands who first)))
      (subst (λ (xs : List Session). Runs loop calls (record { state = a.state; made = a.made; sessions = xs }))
      (sym (append_assoc settled (a.session ∷ []) later)) here)

  -- as many sessions stand as there are scripts
  all_counted : (P : ℕ → List Call → Session → Type 0) (first : ℕ) (texts : List (List Call)) (xs : List Session)
      → AllAre P first texts xs → length xs ≡ length texts
  all_counted P first [] [] all = refl
  all_counted P first [] (x ∷ xs) all = absurd all
  all_counted P first (lines ∷ texts) [] all = absurd all
  all_counted P first (lines ∷ texts) (x ∷ xs) all = ap suc (all_counted P (first + 1) texts xs all.1)

  settle_all-Settled : (loop : Loop) (calls : List Call) (progress : Progress) → Runs loop calls progress
      → Settled loop calls (settle_all progress)
  unfolding settle_all
  settle_all-Settled loop calls progress runs =
      let counted : length progress.sessions ≡ length scripts =
      all_counted _ 0 scripts progress.sessions runs.sessions in
      settle_from-Settled loop calls 0 progress.sessions progress.state progress.made [] refl
      (omega (arith, counted, size)) (λ closed. tt) runs

  -- ---- The loop goes on

  -- what the loop's calls leave of a state
  record LoopStep (s next : State) : Type 0 where
    sessions : next.sessions ≡ s.sessions
    described : next.description ≡ s.description
    requests : next.requests ≡ s.requests

  -- the loop made its call
  looped-Runs : (old new : Loop) (calls : List Call) (progress : Progress) (next : State) (call : Call) (r : Reply)
      → Runs old calls progress → LoopStep progress.state next
      → next.ended ≡ new.ended → next.aloft ≡ new.aloft → next.closed ≡ new.closed
      → (new.closed ≡ true → length next.requests ≤ length next.outcomes)
      → Runs new (calls ++ call ∷ [])
      (record progress { state = next; made = with_entry progress.made progress.state.sessions call r })
  looped-Runs old new calls progress next call r runs goes ended aloft closed decided = rw runs.known (record {
    sessions = all_changed (Come progress.made progress.state) (Come (with_entry progress.made count call r) next) 0
        scripts progress.sessions
        (λ k lines x more less has.
        let differs : (count == k) ≡ false = grind (arith, nat_tests, size) in
        stay progress.made progress.state next k count lines x.lines x.ticket call r differs
        (rw goes.requests (omega arith)) has)
        runs.sessions;
    made = ap calls_of (own_entry count progress.made call r)
        ∙ calls_more (entries_by count progress.made) (record { who = count; call = call; reply = r })
        ∙ ap (λ front. front ++ call ∷ []) runs.made;
    within = within_more count progress.made count call r (omega arith) runs.within;
    known = goes.sessions ∙ runs.known;
    described = ap (λ (d : Description). d.cycles) goes.described ∙ runs.described;
    ended = ended;
    aloft = aloft;
    closed = closed;
    decided = decided;
  })

  -- what the loop makes where its call is enabled
  looped-made : (call : Call) (progress : Progress) (reached : State × Reply)
      → step progress.state progress.state.sessions call ≡ Some reached
      → looped call progress
      ≡ record progress { state = reached.0; made = with_entry progress.made progress.state.sessions call reached.1 }
  unfolding looped
  looped-made call progress reached enabled = rw (enabled, looped) refl

  -- the loop with n cycles ended, between two cycles
  abbrev pub open_at : ℕ → Loop
  open_at n = record { ended = n; aloft = false; closed = false }

  -- a cycle begins
  begin-Runs : (n : ℕ) (calls : List Call) (progress : Progress) → n < total → Runs (open_at n) calls progress
      → Runs (record { ended = n; aloft = true; closed = false }) (calls ++ Begin n ∷ []) (looped (Begin n) progress)
  unfolding step
  begin-Runs n calls progress more runs =
      let s = progress.state in
      let enabled : (s.sessions == s.sessions && can_begin s n) ≡ true =
      rw (runs.aloft, runs.closed, runs.ended, runs.described) (grind (arith, nat_tests)) in
      let stays = boundary-SameLoop s in
      rw (looped-made (Begin n) progress (begin_effect s, begin_reply s) (rw enabled refl))
      (looped-Runs (open_at n) (record { ended = n; aloft = true; closed = false }) calls progress (begin_effect s)
      (Begin n) (begin_reply s) runs
      (record { sessions = stays.sessions; described = stays.description; requests = boundary-requests s })
      (stays.ended ∙ runs.ended) refl (stays.closed ∙ runs.closed) (λ wrong. cc))

  -- and ends
  end-Runs : (n : ℕ) (calls : List Call) (progress : Progress)
      → Runs (record { ended = n; aloft = true; closed = false }) calls progress
      → Runs (open_at (suc n)) (calls ++ End n ∷ []) (looped (End n) progress)
  unfolding step after_cycle commit
  end-Runs n calls progress runs =
      let s = progress.state in
      let enabled : (s.sessions == s.sessions && can_end s n) ≡ true =
      rw (runs.aloft, runs.ended) (grind (arith, nat_tests)) in
      let one_more : s.ended + 1 ≡ suc n = rw runs.ended (omega arith) in
      rw (looped-made (End n) progress (after_cycle s (cycle s), reply.Cycle (cycle s).happened) (rw enabled refl))
      (looped-Runs (record { ended = n; aloft = true; closed = false }) (open_at (suc n)) calls progress
      (after_cycle s (cycle s)) (End n) (reply.Cycle (cycle s).happened) runs
      (record { sessions = refl; described = refl; requests = refl }) one_more refl runs.closed (λ wrong. cc))

  -- the loop closes
  close-Runs : (n : ℕ) (calls : List Call) (progress : Progress) → Runs (open_at n) calls progress
      → Runs (record { ended = n; aloft = false; closed = true }) (calls ++ Close ∷ []) (looped Close progress)
  unfolding step
  close-Runs n calls progress runs =
      let s = progress.state in
      let enabled : (s.sessions == s.sessions && can_close s) ≡ true =
      rw (runs.aloft, runs.closed) (grind (arith, nat_tests)) in
      rw (looped-made Close progress (close_effect s, close_reply s) (rw enabled refl))
      (looped-Runs (open_at n) (record { ended = n; aloft = false; closed = true }) calls progress (close_effect s)
      Close (close_reply s) runs
      (record { sessions = refl; described = refl; requests = refl }) runs.ended runs.aloft refl
      (λ closed. close-decides s))

  -- the calls of a cycle more
  end_calls : (n : ℕ) (progress : Progress)
      → Runs (open_at (suc n)) ((cycle_calls n ++ Begin n ∷ []) ++ End n ∷ []) progress
      → Runs (open_at (suc n)) (cycle_calls (suc n)) progress
  end_calls n progress runs =
      subst (λ calls. Runs (open_at (suc n)) calls progress) (append_assoc (cycle_calls n) (Begin n ∷ []) (End n ∷ []))
      runs

  -- ---- The schedule

  with_cycle-Runs : (n : ℕ) (progress : Progress) → n < total → Runs (open_at n) (cycle_calls n) progress
      → Runs (open_at (suc n)) (cycle_calls (suc n)) (with_cycle n progress)
  unfolding with_cycle
  with_cycle-Runs n progress more runs =
      let settled = settle_all-Settled (open_at n) (cycle_calls n) progress runs in
      let aloft = begin-Runs n (cycle_calls n) (settle_all progress) more settled.runs in
      end_calls n (with_cycle n progress)
      (end-Runs n (cycle_calls n ++ Begin n ∷ []) (looped (Begin n) (settle_all progress)) aloft)

  pub cycles-Runs : (n : ℕ) (progress : Progress) → n ≤ total → Runs (open_at 0) [] progress
      → Runs (open_at n) (cycle_calls n) (cycles n progress)
  cycles-Runs zero progress few runs = runs
  cycles-Runs (suc n) progress few runs =
      with_cycle-Runs n (cycles n progress) (omega (arith, few)) (cycles-Runs n progress (omega (arith, few)) runs)

  -- so many cycles from this one on
  cycles_from-Runs : (first n : ℕ) (progress : Progress) → first + n ≤ total
      → Runs (open_at first) (cycle_calls first) progress
      → Runs (open_at (first + n)) (cycle_calls (first + n)) (cycles_from first n progress)
  cycles_from-Runs first zero progress few runs =
      let here : first ≡ first + zero = omega arith in
      subst (λ (k : ℕ). Runs (open_at k) (cycle_calls k) progress) here runs
  cycles_from-Runs first (suc n) progress few runs =
      let next : suc (first + n) ≡ first + suc n = omega arith in
      let so_far = cycles_from-Runs first n progress (omega (arith, few)) runs in
      subst (λ (k : ℕ). Runs (open_at k) (cycle_calls k) (cycles_from first (suc n) progress)) next
      (with_cycle-Runs (first + n) (cycles_from first n progress) (omega (arith, few)) so_far)

  pub finish-Settled : (progress : Progress) → Runs (open_at total) (cycle_calls total) progress
      → Settled (record { ended = total; aloft = false; closed = true }) (loop_calls total) (finish progress)
  unfolding finish
  finish-Settled progress runs =
      let settled = settle_all-Settled (open_at total) (cycle_calls total) progress runs in
      let closed = close-Runs total (cycle_calls total) (settle_all progress) settled.runs in
      settle_all-Settled (record { ended = total; aloft = false; closed = true }) (loop_calls total)
      (looped Close (settle_all progress)) closed

  -- ---- The turns of a schedule

  -- the loop's calls where so many cycles have ended, and one more may have begun
  abbrev pub calls_at : ℕ → Bool → List Call
  calls_at n false = cycle_calls n
  calls_at n true = cycle_calls n ++ Begin n ∷ []

  -- Where a run has come between two turns: so many cycles have ended, one may be aloft, and the loop is open.
  pub record Underway (progress : Progress) : Type 0 where
    pub n : ℕ
    pub aloft : Bool
    pub few : n ≤ total
    pub left : aloft ≡ true → n < total
    pub runs : Runs (record { ended = n; aloft = aloft; closed = false }) (calls_at n aloft) progress

  -- the same where none is aloft
  pub record Home (progress : Progress) : Type 0 where
    pub n : ℕ
    pub few : n ≤ total
    pub runs : Runs (open_at n) (cycle_calls n) progress

  home-Underway : (progress : Progress) → Home progress → Underway progress
  home-Underway progress home =
      record { n = home.n; aloft = false; few = home.few; left = λ wrong. cc; runs = home.runs }

  -- an advance of the session at this place
  with_advance-Underway : (who : ℕ) (progress : Progress) (x : Session) (o : Option Advanced) → who < count
      → slice_get progress.sessions who ≡ Some x
      → advance who (record { state = progress.state; made = progress.made; session = x }) ≡ o → Underway progress
      → Underway (with_advance who progress o)
  with_advance-Underway who progress x None less found made under = under
  with_advance-Underway who progress x (Some a) less found made under =
      let parts = parted progress.sessions who x found in
      let before : Advanced = record { state = progress.state; made = progress.made; session = x } in
      let here : Runs _ _ (between parts.settled parts.later before) =
      subst (λ (xs : List Session). Runs (record { ended = under.n; aloft = under.aloft; closed = false })
      (calls_at under.n under.aloft) (record { state = progress.state; made = progress.made; sessions = xs }))
      parts.whole under.runs in
      let after = advance-Runs _ _ who parts.settled parts.later before a parts.place less here
      (advance-Made who before a made) in
      record {
        n = under.n;
        aloft = under.aloft;
        few = under.few;
        left = under.left;
        runs = subst
            (λ (xs : List Session). Runs (record { ended = under.n; aloft = under.aloft; closed = false })
            (calls_at under.n under.aloft) (record { state = a.state; made = a.made; sessions = xs }))
            (sym (parts.changed a.session)) after;
      }

  advanced_once-Underway : (who : ℕ) (progress : Progress) (o : Option Session) → who < count
      → slice_get progress.sessions who ≡ o → Underway progress
      → Underway (advanced_once who progress o)
  advanced_once-Underway who progress None less found under = under
  advanced_once-Underway who progress (Some x) less found under =
      with_advance-Underway who progress x _ less found refl under

  -- where the loop's call is not enabled nothing changes
  looped-waits : (call : Call) (progress : Progress) → step progress.state progress.state.sessions call ≡ None
      → looped call progress ≡ progress
  unfolding looped
  looped-waits call progress none = rw (none, looped) refl

  -- a cycle begins, where none is aloft and one is left
  begin-Underway : (n : ℕ) (aloft : Bool) (progress : Progress) → n ≤ total → (aloft ≡ true → n < total)
      → Runs (record { ended = n; aloft = aloft; closed = false }) (calls_at n aloft) progress
      → Underway (looped (Begin n) progress)
  unfolding step
  begin-Underway n true progress few left runs =
      let s = progress.state in
      let waits : (s.sessions == s.sessions && can_begin s n) ≡ false = rw (runs.aloft) (grind (arith, nat_tests)) in
      rw (looped-waits (Begin n) progress (rw waits refl))
      (record { n = n; aloft = true; few = few; left = left; runs = runs })
  begin-Underway n false progress few left runs = elim (nat_cases n total) [
    | inl more ↦ record
        { n = n; aloft = true; few = few; left = λ yes. more; runs = begin-Runs n (cycle_calls n) progress more runs }
    | inr none ↦
        let s = progress.state in
        let waits : (s.sessions == s.sessions && can_begin s n) ≡ false =
        rw (runs.aloft, runs.closed, runs.ended, runs.described) (grind (arith, nat_tests)) in
        rw (looped-waits (Begin n) progress (rw waits refl))
        (record { n = n; aloft = false; few = few; left = left; runs = runs })
  ]

  -- the cycle that is aloft ends
  end-Home : (n : ℕ) (aloft : Bool) (progress : Progress) → n ≤ total → (aloft ≡ true → n < total)
      → Runs (record { ended = n; aloft = aloft; closed = false }) (calls_at n aloft) progress
      → Home (looped (End n) progress)
  unfolding step
  end-Home n true progress few left runs = let more = left refl in record {
    n = suc n;
    few = omega (arith, more);
    runs = end_calls n (looped (End n) progress) (end-Runs n (cycle_calls n ++ Begin n ∷ []) progress runs);
  }
  end-Home n false progress few left runs =
      let s = progress.state in
      let waits : (s.sessions == s.sessions && can_end s n) ≡ false = rw (runs.aloft) (grind (arith, nat_tests)) in
      rw (looped-waits (End n) progress (rw waits refl)) (record { n = n; few = few; runs = runs })

  pub landed-Home : (progress : Progress) → Underway progress → Home (landed progress)
  landed-Home progress under = subst (λ (k : ℕ). Home (looped (End k) progress)) (sym under.runs.ended)
      (end-Home under.n under.aloft progress under.few under.left under.runs)

  turned-Underway : (t : Turn) (progress : Progress) → IsTurnAmong count t → Underway progress
      → Underway (turned t progress)
  turned-Underway (turn.Step who) progress among under =
      advanced_once-Underway who progress (slice_get progress.sessions who) among refl under
  turned-Underway turn.Begin progress among under =
      subst (λ (k : ℕ). Underway (looped (Begin k) progress)) (sym under.runs.ended)
      (begin-Underway under.n under.aloft progress under.few under.left under.runs)
  turned-Underway turn.End progress among under = home-Underway (landed progress) (landed-Home progress under)

  pub turns-Underway : (ts : List Turn) (progress : Progress) → AllByRecursion (IsTurnAmong count) ts
      → Underway progress
      → Underway (turns ts progress)
  turns-Underway [] progress among under = under
  turns-Underway (t ∷ ts) progress among under =
      turns-Underway ts (turned t progress) among.1 (turned-Underway t progress among.0 under)

  -- the cycles that are left
  pub cycles_left-Runs : (progress : Progress) → Home progress
      → Runs (open_at total) (cycle_calls total) (cycles_left total progress)
  cycles_left-Runs progress home =
      let all : home.n + (total - home.n) ≡ total = omega (arith, home.few) in
      subst (λ (k : ℕ). Runs (open_at total) (cycle_calls total) (cycles_from k (total - k) progress))
      (sym home.runs.ended)
      (subst (λ (k : ℕ). Runs (open_at k) (cycle_calls k) (cycles_from home.n (total - home.n) progress)) all
      (cycles_from-Runs home.n (total - home.n) progress (omega (arith, all)) home.runs))
