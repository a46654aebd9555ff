-- What a desk's consoles tell.
use Rattle.std.specs.Prelude.{ℕ, ◌-◌, Bool, Option, Some, None}
use Rattle.cm_model.specs.Sessions.{entries_by}
use Rattle.cm_model.specs.State.{State}
use Rattle.cm_desk.specs.Desk.{History, begun_of, now_of}
use Rattle.cm_model.specs.Ports.{Console, LoopConsole}

-- A desk's console tells the whole history of the desk; the entries that it made are those of its number.
abbrev pub desk_console : ℕ → History → ℕ → Console
desk_console who h waited = record {
  who = who;
  opening = h.opening;
  made = entries_by who h.made;
  waited = waited;
  whole = Some h.made;
  seen = None;
}

-- What no call of it changes: which desk is lent to it, its number, the boot of the desk, and of the cycle that is
-- aloft, where one is, the state in which it began.
pub record DeskGround : Type 0 where
  pub lent : ℕ
  pub who : ℕ
  pub opening : State
  pub begun : Option State
  pub aloft : Bool

-- that of the console of this number over a desk
abbrev pub ground_of : ℕ → ℕ → History → DeskGround
ground_of lent who h = record {
  lent = lent;
  who = who;
  opening = h.opening;
  begun = begun_of h;
  aloft = (now_of h).aloft;
}

-- The loop's console over a desk tells of the history of that desk; its entries are those of the loop's number.
abbrev pub loop_console : History → LoopConsole
loop_console h = record {
  who = h.opening.sessions;
  made = entries_by h.opening.sessions h.made;
  left = h.opening.description.cycles - (now_of h).ended;
  out = (now_of h).aloft;
  closed = (now_of h).closed;
}
