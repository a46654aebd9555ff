-- What the consoles over passes tell of themselves, and what no call of them changes.
use Rattle.std.specs.Prelude.{◌≡◌, ℕ, ◌-◌, Some, None}
use Rattle.atomic_table.specs.Seated.{TableId}
use Rattle.cm_desk.specs.Desk.{History}
use Rattle.cm_model.specs.Ports.{Console, LoopConsole}
use Rattle.cm_model.specs.Sessions.{entries_by}
use Rattle.cm_model.specs.State.{State}
use Rattle.cm_model.specs.declared.entry.Entry.{Entry}
use Rattle.turn_lock.specs.declared.kept.Kept.{Ghosts}
use Rattle.turn_lock.specs.declared.lock.TurnLock.{TurnLock}
use Rattle.turn_lock.specs.declared.pass.TurnPass.{TurnPass}
use Rattle.turn_lock.specs.Passes.{view}
use Rattle.shared_desk.specs.Calls.Looping.{stand_of}
use Rattle.shared_desk.specs.Passes.{IsAt}

-- What no call of a console changes: which lock its pass is of, the number of the pass, and the boot of the desk.
pub record PortGround : Type 0 where
  pub lock : TableId
  pub who : ℕ
  pub opening : State

module _ {K : Type 0} {g : Ghosts K Entry State} where
  -- that of the console over a pass
  abbrev pub ground_of : History → TurnPass K Entry State g → PortGround
  ground_of first p = record { lock = p.seat.table_id; who = p.number; opening = first.opening }

  -- A session's console tells what its pass has seen; the entries that it made are those of its number. Each not-yet
  -- answer takes a turn, so its turns count those answers, and more.
  abbrev pub console_of : History → TurnPass K Entry State g → Console
  console_of first p = record {
    who = p.number;
    opening = first.opening;
    made = entries_by p.number (view p).seen;
    waited = (view p).turns;
    whole = None;
    seen = Some (view p).seen;
  }

  -- The loop's console tells where the loop stands, as its pass has seen.
  abbrev pub loop_console_of : History → TurnPass K Entry State g → LoopConsole
  loop_console_of first p = record {
    who = p.number;
    made = entries_by p.number (view p).seen;
    left = first.opening.description.cycles - (stand_of first p).ended;
    out = (stand_of first p).aloft;
    closed = (stand_of first p).closed;
  }

  -- A pass has looked at what is published, as often as it liked: it is the same pass of this desk, and has neither
  -- taken a turn nor seen more of the history.
  pub record Watches (lock : TurnLock K Entry State) (first : History) (p q : TurnPass K Entry State g) : Type 0 where
    pub still : IsAt lock first q
    pub number : q.number ≡ p.number
    pub seen : (view q).seen ≡ (view p).seen
    pub turns : (view q).turns ≡ (view p).turns
