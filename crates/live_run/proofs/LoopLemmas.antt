-- What the loop makes over its console are the calls of its cycles.
use Rattle.std.proofs.Common.{◌≡◌, ℕ, suc, ◌+◌, List, [], ◌∷◌, ◌++◌, length, Result, Ok, Err, refl}
use Rattle.std.proofs.Common.{subst, ap, ◌∙◌, append_assoc, length-append, inl, inr, ◌≤◌, arith}
use Rattle.std.specs.Prelude.{◌-◌, ◌<◌, OnOk, OnErr, MatchResult}
use denote.Ref.{MutBor}
use denote.Param.Members.{Shared}
use Rattle.std.proofs.lemmas.List.Elements.{filter-append}
use Rattle.cm_document.specs.declared.call.Call.{Call}
use Rattle.cm_document.specs.declared.call.Call.TheVariants.{Begin, End, Close}
use Rattle.cm_model.specs.Histories.{is_end}
use Rattle.cm_model.specs.Ports.{LoopConsole, ends_in, CanBegin, CanClose, Begins, Lands, Closes}
use Rattle.cm_model.specs.Scheduled.{with_entry}
use Rattle.cm_model.specs.Sessions.{calls_of, cycle_calls, loop_calls}
use Rattle.cm_model.specs.declared.entry.Entry.{Entry}
use Rattle.cm_model.specs.declared.reply.Reply.{Reply}
use Rattle.cm_model.specs.declared.ports.LoopPort.{Ghosts}
use Rattle.cm_model.proofs.ComesLemmas.{calls_more}
use Rattle.live_run.specs.Loops.{IsAtFirst, MakesCycle, HasMade, HasLooped, HasStopped, Computes, MayLoop}

ends_split : (es : List Entry) (who : ℕ) (call : Call) (r : Reply)
    → ends_in (with_entry es who call r) ≡ ends_in es + ends_in (with_entry [] who call r)
ends_split es who call r =
    ap length (filter-append (λ (e : Entry). is_end e.call) es (record { who = who; call = call; reply = r } ∷ []))
    ∙ length-append _ _

pub begin_ends_none : (es : List Entry) (who n : ℕ) (r : Reply) → ends_in (with_entry es who (Begin n) r) ≡ ends_in es
begin_ends_none es who n r =
    let none : ends_in (with_entry [] who (Begin n) r) ≡ 0 = refl in let split = ends_split es who (Begin n) r in
    omega (arith, none, split)

pub end_ends_one : (es : List Entry) (who n : ℕ) (r : Reply) → ends_in (with_entry es who (End n) r) ≡ ends_in es + 1
end_ends_one es who n r = ends_split es who (End n) r

-- a begin, then a landing behind which the console is what the begin left
pub cycle_made : (old mid new : LoopConsole) → Begins old mid → Lands mid new → MakesCycle old new
cycle_made old mid new begins lands =
    let n = ends_in old.made in
    let ended : ends_in mid.made ≡ n = ap ends_in begins.made.made ∙ begin_ends_none old.made old.who n begins.made.r in
    let landed : new.made ≡ with_entry mid.made mid.who (End n) lands.made.r =
    lands.made.made ∙ ap (λ (k : ℕ). with_entry mid.made mid.who (End k) lands.made.r) ended in
    record {
      made = ap calls_of landed ∙ calls_more mid.made (record { who = mid.who; call = End n; reply = lands.made.r })
          ∙ ap (λ calls. calls ++ End n ∷ [])
          (ap calls_of begins.made.made
          ∙ calls_more old.made (record { who = old.who; call = Begin n; reply = begins.made.r }))
          ∙ append_assoc (calls_of old.made) (Begin n ∷ []) (End n ∷ []);
      ended = ap ends_in landed ∙ end_ends_one mid.made mid.who n lands.made.r ∙ ap (λ (k : ℕ). k + 1) ended;
      left = lands.left ∙ ap (λ (k : ℕ). k - 1) begins.left;
      home = lands.out;
      closed = lands.closed ∙ begins.closed;
    }

-- the same where the console tells between them what it told
pub cycle_computed : (old mid computed new : LoopConsole) → Begins old mid → computed ≡ mid → Lands computed new
    → MakesCycle old new
cycle_computed old mid computed new begins same lands =
    cycle_made old mid new begins (subst (λ (c : LoopConsole). Lands c new) same lands)

-- the calls of one cycle more
pub one_more_cycle : (calls more : List Call) (n : ℕ) → calls ≡ cycle_calls n → more ≡ calls ++ Begin n ∷ End n ∷ []
    → more ≡ cycle_calls (n + 1)
one_more_cycle calls more n so_far behind =
    let next : n + 1 ≡ suc n = omega arith in rw next (behind ∙ ap (λ made. made ++ Begin n ∷ End n ∷ []) so_far)

-- and of the close
pub close_made : (old new : LoopConsole) (n : ℕ) → calls_of old.made ≡ cycle_calls n → Closes old new
    → calls_of new.made ≡ loop_calls n
close_made old new n so_far closes =
    ap calls_of closes.made.made ∙ calls_more old.made (record { who = old.who; call = Close; reply = closes.made.r })
    ∙ ap (λ calls. calls ++ Close ∷ []) so_far

-- ---- The loop so far

module _ {L Flight : Type 0} (m : Ghosts L Flight) where
  -- before its first cycle it has made none
  pub start_made : (cycles : ℕ) (l : L) → IsAtFirst cycles (m.tells l) → HasMade m cycles 0 l l
  start_made cycles l first = record {
    still = refl;
    made = ap calls_of first.none;
    ended = ap ends_in first.none;
    left = let same : cycles ≡ cycles - 0 = omega arith in first.left ∙ same;
    home = first.home;
    not_closed = first.not_closed;
  }

  -- where cycles are left the next one can begin
  pub next_can_begin : (cycles n : ℕ) (old now : L) → n < cycles → HasMade m cycles n old now → CanBegin (m.tells now)
  next_can_begin cycles n old now less made = record {
    home = made.home;
    not_closed = made.not_closed;
    left = let left = made.left in omega (arith, less, left);
  }

  -- one cycle more
  pub cycle_more : (cycles n : ℕ) (old mid new : L) → HasMade m cycles n old mid
      → MakesCycle (m.tells mid) (m.tells new)
      → m.footing new ≡ m.footing mid → HasMade m cycles (n + 1) old new
  cycle_more cycles n old mid new made cycle still = record {
    still = still ∙ made.still;
    made = one_more_cycle (calls_of (m.tells mid).made) (calls_of (m.tells new).made) n made.made
        (cycle.made ∙ ap (λ (k : ℕ). calls_of (m.tells mid).made ++ Begin k ∷ End k ∷ []) made.ended);
    ended = cycle.ended ∙ ap (λ (k : ℕ). k + 1) made.ended;
    left = let before = made.left in let after = cycle.left in omega (arith, before, after);
    home = cycle.home;
    not_closed = cycle.closed ∙ made.not_closed;
  }

  -- a begin that is refused memory changes nothing
  pub no_cycle_more : (cycles n : ℕ) (old mid new : L) → HasMade m cycles n old mid → m.tells new ≡ m.tells mid
      → m.footing new ≡ m.footing mid → HasMade m cycles n old new
  no_cycle_more cycles n old mid new made same still = record {
    still = still ∙ made.still;
    made = ap (λ (c : LoopConsole). calls_of c.made) same ∙ made.made;
    ended = ap (λ (c : LoopConsole). ends_in c.made) same ∙ made.ended;
    left = ap (λ (c : LoopConsole). c.left) same ∙ made.left;
    home = ap (λ (c : LoopConsole). c.out) same ∙ made.home;
    not_closed = ap (λ (c : LoopConsole). c.closed) same ∙ made.not_closed;
  }

  pub can_close : (cycles n : ℕ) (old now : L) → HasMade m cycles n old now → CanClose (m.tells now)
  can_close cycles n old now made = record { home = made.home; not_closed = made.not_closed }

  -- the close behind them
  pub close_behind : (cycles n : ℕ) (old mid new : L) → HasMade m cycles n old mid → Closes (m.tells mid) (m.tells new)
      → m.footing new ≡ m.footing mid → HasLooped m n old new
  close_behind cycles n old mid new made closes still = record {
    still = still ∙ made.still;
    made = close_made (m.tells mid) (m.tells new) n made.made closes;
    home = closes.out ∙ made.home;
    closed = closes.closed;
  }

  -- so the loop has run, or has stopped
  pub closed_behind : {X E : Type 0} (cycles : ℕ) (r : Result X E) (old mid new : L)
      → OnOk r (HasMade m cycles cycles old mid)
      → OnErr r ((n : ℕ) × (n ≤ cycles) × HasMade m cycles n old mid) → Closes (m.tells mid) (m.tells new)
      → m.footing new ≡ m.footing mid
      → MatchResult r (λ _. HasLooped m cycles old new) (λ _. HasStopped m cycles old new)
  closed_behind cycles (Ok x) old mid new all some closes still =
      close_behind cycles cycles old mid new all closes still
  closed_behind cycles (Err e) old mid new all some closes still = record {
    still = still ∙ some.2.still;
    so_far = inr (some.0, some.1, close_behind cycles some.0 old mid new some.2 closes still);
  }

  -- before it begins it has stopped at nothing
  pub not_begun : (cycles : ℕ) (l : L) → HasStopped m cycles l l
  not_begun cycles l = record { still = refl; so_far = inl refl }

  -- and where it made all of its cycles, a session was refused memory
  pub looped_all : (cycles : ℕ) (old new : L) → HasLooped m cycles old new → HasStopped m cycles old new
  looped_all cycles old new looped = record { still = looped.still; so_far = inr (cycles, omega arith, looped) }

-- The console computes its flights by its own call, or by any that does the same.
module _ {L Flight F : Type 0} (m : Ghosts L Flight)
    (g : Shared F (MutBor L × (MutBor Flight × Unit {0})) (Unit {0} × (MutBor L × (MutBor Flight × Unit {0})))) where
  pub may_loop : (cycles : ℕ) (l : L) (compute : F) → IsAtFirst cycles (m.tells l) → Computes m g compute
      → MayLoop m g cycles l compute
  may_loop cycles l compute first computes = record { first = first; computes = computes }
