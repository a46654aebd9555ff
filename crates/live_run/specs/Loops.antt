-- The loop of a live run, before it and after it, and how its flights are computed.
use Rattle.std.specs.Prelude.{◌≡◌, ◌⊎◌, ℕ, ◌+◌, ◌-◌, ◌≤◌, true, false, [], ◌∷◌, ◌++◌}
use denote.Ref.{MutBor}
use denote.Param.Members.{Shared}
use Rattle.cm_document.specs.declared.call.Call.TheVariants.{Begin, End}
use Rattle.cm_model.specs.Ports.{LoopConsole, ends_in}
use Rattle.cm_model.specs.Sessions.{calls_of, cycle_calls, loop_calls}
use Rattle.cm_model.specs.declared.ports.LoopPort.{Ghosts}

-- The loop's console before its first cycle: it has made no entry, so many cycles are left, no flight is out, and it is
-- open.
pub record IsAtFirst (cycles : ℕ) (c : LoopConsole) : Type 0 where
  pub none : c.made ≡ []
  pub left : c.left ≡ cycles
  pub home : c.out ≡ false
  pub not_closed : c.closed ≡ false

-- A cycle was made: its begin and its end are two entries more, and one cycle less is left.
pub record MakesCycle (old new : LoopConsole) : Type 0 where
  pub made : calls_of new.made ≡ calls_of old.made ++ Begin (ends_in old.made) ∷ End (ends_in old.made) ∷ []
  pub ended : ends_in new.made ≡ ends_in old.made + 1
  pub left : new.left ≡ old.left - 1
  pub home : new.out ≡ false
  pub closed : new.closed ≡ old.closed

-- ---- How flights are computed

module _ {L Flight : Type 0} (m : Ghosts L Flight) where
  -- A flight was computed: it is out and computed, and its console tells what it told and has the footing that it had.
  pub record HasComputed (old new : L) (flight : Flight) : Type 0 where
    pub out : m.is_out new flight
    pub computed : m.is_computed flight
    pub tells : m.tells new ≡ m.tells old
    pub still : m.footing new ≡ m.footing old

module _ {L Flight F : Type 0} (m : Ghosts L Flight)
    (g : Shared F (MutBor L × (MutBor Flight × Unit {0})) (Unit {0} × (MutBor L × (MutBor Flight × Unit {0})))) where
  -- A way to compute flights: it can be called at each one that is out and may be computed, and computes it.
  pub record Computes (compute : F) : Type 0 where
    pub takes : (l : MutBor L) (x : MutBor Flight) → m.is_out l.now x.now × m.may_be_computed x.now
        → g.pre compute (l, (x, tt))
    pub leaves : (l k : MutBor L) (x y : MutBor Flight) → m.is_out l.now x.now × m.may_be_computed x.now
        → g.post compute (l, (x, tt)) (tt, (k, (y, tt))) → HasComputed m l.now k.now y.now

  -- The loop can run: it is before its first cycle, and there is a way to compute its flights.
  pub record MayLoop (cycles : ℕ) (looping : L) (compute : F) : Type 0 where
    pub first : IsAtFirst cycles (m.tells looping)
    pub computes : Computes compute

-- ---- The whole loop

module _ {L Flight : Type 0} (m : Ghosts L Flight) where
  -- It has made n of its cycles and is open: their calls are all that it made.
  pub record HasMade (cycles n : ℕ) (old new : L) : Type 0 where
    pub still : m.footing new ≡ m.footing old
    pub made : calls_of (m.tells new).made ≡ cycle_calls n
    pub ended : ends_in (m.tells new).made ≡ n
    pub left : (m.tells new).left ≡ cycles - n
    pub home : (m.tells new).out ≡ false
    pub not_closed : (m.tells new).closed ≡ false

  -- It made so many cycles and then closed: their calls and the close are all that it made, and no flight is out. Its
  -- console has the footing that it had.
  pub record HasLooped (cycles : ℕ) (old new : L) : Type 0 where
    pub still : m.footing new ≡ m.footing old
    pub made : calls_of (m.tells new).made ≡ loop_calls cycles
    pub home : (m.tells new).out ≡ false
    pub closed : (m.tells new).closed ≡ true

  -- Memory ran out: it has not begun, or it closed after some of its cycles, or after all of them.
  pub record HasStopped (cycles : ℕ) (old new : L) : Type 0 where
    pub still : m.footing new ≡ m.footing old
    pub so_far : (m.tells new ≡ m.tells old) ⊎ ((n : ℕ) × (n ≤ cycles) × HasLooped n old new)
