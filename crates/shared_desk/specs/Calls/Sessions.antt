-- What calls of a session come to, at a turn of its pass.
use Rattle.std.specs.Prelude.{◌≡◌, Bool, true, false, Option, Some, None}
use Rattle.cm_document.specs.declared.call.Call.{Call}
use Rattle.cm_desk.specs.Desk.{History, Grows, hands_out, now_of}
use Rattle.cm_model.specs.Machine.{step}
use Rattle.cm_model.specs.State.{State}
use Rattle.cm_model.specs.declared.data.CtlData.{CtlData}
use Rattle.cm_model.specs.declared.entry.Entry.{Entry}
use Rattle.cm_model.specs.declared.reply.Reply.{Reply}
use Rattle.turn_lock.specs.declared.kept.Kept.{Ghosts}
use Rattle.turn_lock.specs.declared.lock.TurnLock.{TurnLock}
use Rattle.turn_lock.specs.declared.pass.TurnPass.{TurnPass}
use Rattle.shared_desk.specs.Passes.{history_of}
use Rattle.shared_desk.specs.Turns.{TakesTurn, Stays}

module _ {K : Type 0} {g : Ghosts K Entry State} where
  -- At a turn one entry was made: the last of all that the pass has then seen, with its number, this call and this
  -- reply, which is that of the step there. An unload that was done hands out the box, with the data of the state
  -- before it.
  pub record Calls (lock : TurnLock K Entry State) (first : History) (p q : TurnPass K Entry State g) (call : Call)
      (reply : Reply) (given : Option CtlData) : Type 0 where
    pub found : History
    pub turn : TakesTurn lock first p q found
    pub grows : Grows found (history_of first.opening q) p.number call reply
    pub handed : given ≡ hands_out (now_of found) call reply

  -- At a turn the call could not be made yet, in the whole history, which is what the pass has then seen.
  pub record LooksInVain (lock : TurnLock K Entry State) (first : History) (p q : TurnPass K Entry State g)
      (call : Call) : Type 0 where
    pub stays : Stays lock first p q
    pub not_yet : step (now_of (history_of first.opening q)) p.number call ≡ None

  -- One entry where the call was made; else it could not be made yet.
  abbrev pub CallsWhere : Bool → TurnLock K Entry State → History → TurnPass K Entry State g
      → TurnPass K Entry State g → Call → Reply → Type 0
  CallsWhere true lock first p q call reply = Calls lock first p q call reply None
  CallsWhere false lock first p q call reply = LooksInVain lock first p q call
