-- What a call of a session asks, and what a desk hands over at the end.
use Rattle.std.specs.Prelude.{◌≡◌, ℕ, ◌<◌, false, List, map, length}
use Rattle.cm_document.specs.declared.call.Call.{Call}
use Rattle.cm_model.specs.Machine.{LegalFrom}
use Rattle.cm_model.specs.Sound.{moments, AreSound}
use Rattle.cm_model.specs.State.{State}
use Rattle.cm_model.specs.Steady.{IsSteady}
use Rattle.cm_model.specs.declared.data.CtlData.{CtlData}
use Rattle.cm_model.specs.declared.entry.Entry.{Entry}
use Rattle.cm_desk.specs.Desk.{History, now_of, CanBeCalled, is_list}
use Rattle.cm_desk.specs.declared.TheConstants.{TOO_MANY_FOR_A_BOOK}

-- It is a call that is answered at once, in a steady state.
pub record CanAnswer (before : State) (call : Call) : Type 0 where
  pub called : CanBeCalled call
  pub steady : IsSteady before

-- It is one that is no list.
pub record CanChange (before : State) (call : Call) : Type 0 where
  pub called : CanBeCalled call
  pub steady : IsSteady before
  pub no_list : is_list call ≡ false

-- It is a call that is answered at once, by a session of the desk.
pub record MayCall (h : History) (who : ℕ) (call : Call) : Type 0 where
  pub session : who < h.opening.sessions
  pub called : CanBeCalled call

-- What is handed over of a desk: its history, which is legal and sound and has few enough entries, and the data of the
-- boxes, which are those of the loaded controllers.
pub record IsHandedOver (h : History) (entries : List Entry) (held : List CtlData) : Type 0 where
  pub history : entries ≡ h.made
  pub legal : LegalFrom h.opening h.made
  pub sound : AreSound (moments h.opening h.made)
  pub few : length entries < TOO_MANY_FOR_A_BOOK
  pub boxes : held ≡ map (λ l. l.ctl) (now_of h).loaded
