-- The room in which lines are made, and which line stands where.
use Rattle.std.specs.Prelude.{◌≡◌, ℕ, ◌<◌, List, [], length}
use Rattle.cm_storage.specs.Happened.{Happened}
use Rattle.cm_model.specs.declared.reply.Reply.{Reply}
use Rattle.cm_model.specs.declared.reply.Reply.TheVariants as reply
use Rattle.trace_text.specs.Standing.{bodies_of}
use Rattle.trace_text.specs.declared.trace.Made.{Made}
use Rattle.trace_text.specs.declared.trace.Made.TheVariants as made
use Rattle.trace_text.specs.declared.trace.Room.{Room}

-- the line that was made, in its room
abbrev pub text_in : Room → Made → List ℕ
text_in room made.Begin = room.begin
text_in room made.End = room.end
text_in room made.Standing = room.standing.text
text_in room made.Line = room.line

-- in a record bodies alone are told, and some
pub record AreAlone (happened : Happened) : Type 0 where
  pub failed : happened.failed ≡ []
  pub ran : happened.ran ≡ []
  pub stops : happened.stops ≡ []
  pub some : 0 < length happened.bodies

-- a reply is such a record
abbrev pub TellsBodies : Reply → Type 0
TellsBodies (reply.Cycle happened) = AreAlone happened
TellsBodies _ = ⊥
