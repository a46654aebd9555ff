-- What contracts see of the desk, and what its type keeps.
use Rattle.std.specs.Prelude.{◌≡◌, ℕ, ◌+◌, ◌<◌, ◌≤◌, Bool, true, false, not, List, [], ◌∷◌, length, Option, Some, None}
use Rattle.std.specs.Prelude.{is_some, IsSomeAnd}
use mathlib.Core.List.{IsPrefix}
use Rattle.cm_desk.specs.declared.TheConstants.{TOO_MANY_FOR_A_BOOK}
use Rattle.cm_document.specs.Valid.{IsValid}
use Rattle.cm_document.specs.declared.call.Call.{Call}
use Rattle.cm_document.specs.declared.call.Call.TheVariants.{Unload, ListControllers, ListInterfaces, ListComponents}
use Rattle.cm_model.specs.Console.{moves_out}
use Rattle.cm_model.specs.Histories.{ends_in, decided_in, SameLoop}
use Rattle.cm_model.specs.Machine.{LegalFrom, state_after, reply_of, effect, step}
pub use Rattle.cm_model.specs.Ports.{CanBeCalled}
use Rattle.cm_model.specs.Scheduled.{with_entry}
use Rattle.cm_model.specs.Serials.{IsNumbered}
use Rattle.cm_model.specs.Sessions.{entries_by}
use Rattle.cm_model.specs.Sound.{Moment, moments, aloft_after, AreSound}
use Rattle.cm_model.specs.State.{State, boot}
use Rattle.cm_model.specs.Steady.{IsSteady}
use Rattle.cm_model.specs.declared.blanks.Blanks.{Blanks}
use Rattle.cm_model.specs.declared.data.CtlData.{CtlData}
use Rattle.cm_model.specs.declared.entry.Entry.{Entry}
use Rattle.cm_model.specs.declared.reply.Reply.{Reply}
use Rattle.cm_model.specs.declared.reply.Reply.TheVariants as reply
use Rattle.cm_hardware.specs.Wiring.{one_if}
use Rattle.rt_flight.specs.Flights.{FlightFacts, MayBeComputed, StaysAloft, StaysComputed}

-- ---- A history

-- A history with the state in which it begins.
pub record History : Type 0 where
  pub opening : State
  pub made : List Entry

-- the state after it
abbrev pub now_of : History → State
now_of h = state_after h.opening h.made

-- One entry more, which is a step of the written manager.
pub record Grows (old new : History) (who : ℕ) (call : Call) (reply : Reply) : Type 0 where
  pub opening : new.opening ≡ old.opening
  pub made : new.made ≡ with_entry old.made who call reply
  pub stepped : step (now_of old) who call ≡ Some (now_of new, reply)

-- The call cannot be made yet, and nothing changed.
abbrev pub Waits : History → History → ℕ → Call → Type 0
Waits old new who call = (step (now_of old) who call ≡ None) × (new ≡ old)

-- One entry more where the call was made; else it waits.
abbrev pub GrowsWhere : Bool → History → History → ℕ → Call → Reply → Type 0
GrowsWhere true old new who call r = Grows old new who call r
GrowsWhere false old new who call r = Waits old new who call

-- ---- Flights

-- the state that the last begin left, where no end has come after it
abbrev pub begun_among : Option State → List Moment → Option State
begun_among begun [] = begun
begun_among begun (moment ∷ moments) = begun_among (aloft_after begun moment moment.call) moments

-- that of a whole history
abbrev pub begun_of : History → Option State
begun_of h = begun_among None (moments h.opening h.made)

-- The flight is out, and not started yet: it is that of the cycle which the history has begun and not ended, whatever
-- consoles have called since.
pub record IsOut (h : History) (f : FlightFacts) : Type 0 where
  pub aloft : IsSomeAnd (begun_of h) (λ begun. StaysAloft begun f)
  pub not_yet : MayBeComputed f

-- It may land: it is that of this cycle, and computed.
abbrev pub MayLand : History → FlightFacts → Type 0
MayLand h f = IsSomeAnd (begun_of h) (λ begun. StaysComputed begun f)

-- It is at hand: not started yet, or so that it may land.
pub record IsAtHand (h : History) (f : FlightFacts) : Type 0 where
  pub before : f.outcome ≡ None → IsOut h f
  pub after : is_some f.outcome ≡ true → MayLand h f

-- From one history to the other the same cycle is aloft, if one is.
pub record IsAloftAlike (old new : History) : Type 0 where
  pub begun : begun_of new ≡ begun_of old
  pub aloft : (now_of new).aloft ≡ (now_of old).aloft

-- ---- Other callers

-- The history went on from the other without the loop: it begins with it, and has no more entries of the loop.
pub record GoesOnWithoutLoop (old new : History) : Type 0 where
  pub opening : new.opening ≡ old.opening
  pub begins : IsPrefix old.made new.made
  pub own : entries_by old.opening.sessions new.made ≡ entries_by old.opening.sessions old.made

-- From one history to the other the loop stands as it stood: the same cycle is aloft, if one is, as many have ended,
-- and the loop is open or closed as it was.
pub record StandsAlike (old new : History) : Type 0 where
  pub alike : IsAloftAlike old new
  pub loop : SameLoop (now_of old) (now_of new)

-- ---- Calls

-- it asks for a list
abbrev pub is_list : Call → Bool
is_list ListControllers = true
is_list ListInterfaces = true
is_list ListComponents = true
is_list _ = false

-- a reply that takes no memory
abbrev pub IsShort : Reply → Type 0
IsShort reply.Done = Unit {0}
IsShort (reply.Serial _) = Unit {0}
IsShort (reply.Queued _) = Unit {0}
IsShort (reply.Not _) = Unit {0}
IsShort _ = ⊥

-- the data of the box that the call hands out with this reply: an unload that was done hands one out
abbrev pub hands_out : State → Call → Reply → Option CtlData
hands_out s (Unload name) r = moves_out s name r
hands_out s _ r = None

-- What a call came to: the reply, what it left, and the data of the box that it handed out.
pub record IsAnswerTo (old : State) (call : Call) (new : State) (reply : Reply) (given : Option CtlData) : Type 0 where
  pub replied : reply_of old call ≡ Some reply
  pub next : new ≡ effect old call reply
  pub handed : given ≡ hands_out old call reply

-- ---- What the desk keeps

-- how many entries will still be made without memory: the end of a cycle that is aloft, and the close
abbrev pub owed : State → ℕ
owed s = one_if s.aloft + one_if (not s.closed)

-- The entries that were made, with those that are owed in this state, are fewer than are too many.
abbrev pub AreFew : List Entry → State → Type 0
AreFew made now = length made + owed now < TOO_MANY_FOR_A_BOOK

-- With one entry more, and whatever is owed then, they are few enough still,
abbrev pub LeavesFew : List Entry → Type 0
LeavesFew made = (next : State) → length made + 1 + owed next < TOO_MANY_FOR_A_BOOK

-- and there is room for them.
abbrev pub HasRoomFor : List Entry → ℕ → Type 0
HasRoomFor made entries = (next : State) → length made + 1 + owed next ≤ entries

-- What every desk keeps of its history. It began at the boot of a valid description, is legal and sound, and has few
-- enough entries; and how many cycles have ended and how many requests are decided can be counted in it.
pub record IsRight (h : History) : Type 0 where
  pub valid : IsValid h.opening.description
  pub opening : h.opening ≡ boot h.opening.description h.opening.blanks h.opening.sessions
  pub legal : LegalFrom h.opening h.made
  pub sound : AreSound (moments h.opening h.made)
  pub ended : (now_of h).ended ≡ ends_in h.made
  pub decided : length (now_of h).outcomes ≡ decided_in h.made
  pub few : AreFew h.made (now_of h)

-- The description is valid; the history is legal and sound, and leads to this state, which is steady and whose serials
-- differ; its entries are few enough; there is room for the entries that are owed, and for the boxes that are loaded.
pub record Keeps (opening : State) (made : List Entry) (now : State) (entries boxes : ℕ) : Type 0 where
  pub valid : IsValid opening.description
  pub legal : LegalFrom opening made
  pub sound : AreSound (moments opening made)
  pub ends : state_after opening made ≡ now
  pub steady : IsSteady now
  pub numbered : IsNumbered now
  pub few : AreFew made now
  pub room : length made + owed now ≤ entries
  pub places : length now.loaded ≤ boxes

-- what is seen of a desk that had these blanks at boot, stands in this state and has made these entries
abbrev pub seen : Blanks → State → List Entry → History
seen at_boot s made = record { opening = boot s.description at_boot s.sessions; made = made }
