-- What the console of a session and that of the loop tell of themselves, and what each of their calls makes of it.
use Rattle.std.specs.Prelude.{◌≡◌, ℕ, ◌+◌, ◌-◌, ◌^◌, ◌≤◌, min, Bool, true, false, List, Option, Some, None, IfSome}
use Rattle.cm_document.specs.declared.call.Call.{Call}
use Rattle.cm_document.specs.declared.call.Call.TheVariants.{Told, Await, Begin, End, Close}
pub use Rattle.cm_model.specs.Histories.{ends_in}
use Rattle.cm_model.specs.Machine.{state_after, step}
use Rattle.cm_model.specs.Scheduled.{with_entry}
use Rattle.cm_model.specs.State.{State}
use Rattle.cm_model.specs.declared.entry.Entry.{Entry}
use Rattle.cm_model.specs.declared.reply.Reply.{Reply}

-- ---- Calls

-- A call that a console answers at once: one on a controller, a request, or a list.
abbrev pub CanBeCalled : Call → Type 0
CanBeCalled (Told _) = ⊥
CanBeCalled (Await _) = ⊥
CanBeCalled (Begin _) = ⊥
CanBeCalled (End _) = ⊥
CanBeCalled Close = ⊥
CanBeCalled _ = Unit {0}

-- ---- A session's console

-- A session's console: the number of its session, the state in which the history behind it begins, the entries that it
-- made, and how often it answered that something is not so yet. It may tell the whole history behind it, or else one
-- that it has seen.
pub record Console : Type 0 where
  pub who : ℕ
  pub opening : State
  pub made : List Entry
  pub waited : ℕ
  pub whole : Option (List Entry)
  pub seen : Option (List Entry)

-- A history that begins in this state has no step for this caller's call.
abbrev pub HasNoStep : State → ℕ → Call → List Entry → Type 0
HasNoStep opening who call h = step (state_after opening h) who call ≡ None

-- one more, and at its type's end no more
abbrev pub one_more : ℕ → ℕ
one_more count = min (count + 1) (2 ^ 64 - 1)

-- a count of not-yet answers rose, or stands at its type's end
abbrev pub Rose : ℕ → ℕ → Type 0
Rose before now = one_more before ≤ now

-- The history behind a console grew by this entry, which is a step of the written manager. One that was not told is not
-- told now.
abbrev pub GrowsBehind : State → ℕ → Call → Reply → Option (List Entry) → Option (List Entry) → Type 0
GrowsBehind opening who call r None whole = whole ≡ None
GrowsBehind opening who call r (Some h) whole =
    (whole ≡ Some (with_entry h who call r))
    × (step (state_after opening h) who call ≡ Some (state_after opening (with_entry h who call r), r))

-- It is the console that it was: of the same session, over a history of the same beginning, and its count of not-yet
-- answers has not fallen.
pub record IsSameConsole (old new : Console) : Type 0 where
  pub who : new.who ≡ old.who
  pub opening : new.opening ≡ old.opening
  pub later : old.waited ≤ new.waited

-- One entry more: the call, of the console's number, with this reply.
pub record Makes (old new : Console) (call : Call) (r : Reply) : Type 0 where
  pub same : IsSameConsole old new
  pub made : new.made ≡ with_entry old.made old.who call r
  pub behind : GrowsBehind old.opening old.who call r old.whole new.whole

-- No entry: neither the console's own entries change nor the history behind it.
pub record MakesNone (old new : Console) : Type 0 where
  pub same : IsSameConsole old new
  pub made : new.made ≡ old.made
  pub behind : new.whole ≡ old.whole

-- One entry more of a call that is not always enabled; in what the console has then seen it is.
pub record MakesOpen (old new : Console) (call : Call) (r : Reply) : Type 0 where
  pub made : Makes old new call r
  pub seen : IfSome new.seen (λ h. HasNoStep old.opening old.who call h → ⊥)

-- The call is not enabled yet: not after the history behind the console, where it tells that, nor in what it has then
-- seen. No entry is made, and the count of such answers rose.
pub record IsNotYet (old new : Console) (call : Call) : Type 0 where
  pub none : MakesNone old new
  pub rose : Rose old.waited new.waited
  pub behind : IfSome old.whole (HasNoStep old.opening old.who call)
  pub seen : IfSome new.seen (HasNoStep old.opening old.who call)

-- One entry more where the call was made; else it is not enabled yet.
abbrev pub MakesWhere : Bool → Console → Console → Call → Reply → Type 0
MakesWhere true old new call r = MakesOpen old new call r
MakesWhere false old new call r = IsNotYet old new call

-- ---- The loop's console

-- The loop's console: the number of the loop as a caller, the entries that it made, how many cycles are left, whether a
-- flight is out, and whether it closed.
pub record LoopConsole : Type 0 where
  pub who : ℕ
  pub made : List Entry
  pub left : ℕ
  pub out : Bool
  pub closed : Bool

-- A cycle can begin: no flight is out, the loop is open, and cycles are left.
pub record CanBegin (c : LoopConsole) : Type 0 where
  pub home : c.out ≡ false
  pub not_closed : c.closed ≡ false
  pub left : 1 ≤ c.left

-- The loop can close: no flight is out, and it is open.
pub record CanClose (c : LoopConsole) : Type 0 where
  pub home : c.out ≡ false
  pub not_closed : c.closed ≡ false

-- One entry of the loop more: this call with some reply, which the console does not give.
pub record MakesLoopCall (old new : LoopConsole) (call : Call) : Type 0 where
  pub r : Reply
  pub made : new.made ≡ with_entry old.made old.who call r
  pub who : new.who ≡ old.who

-- The next cycle began: its number is that of the cycles that have ended here, and its flight is out.
pub record Begins (old new : LoopConsole) : Type 0 where
  pub made : MakesLoopCall old new (Begin (ends_in old.made))
  pub left : new.left ≡ old.left
  pub out : new.out ≡ true
  pub closed : new.closed ≡ old.closed

-- It ended: no flight is out, and one cycle less is left.
pub record Lands (old new : LoopConsole) : Type 0 where
  pub made : MakesLoopCall old new (End (ends_in old.made))
  pub left : new.left ≡ old.left - 1
  pub out : new.out ≡ false
  pub closed : new.closed ≡ old.closed

-- The loop closed.
pub record Closes (old new : LoopConsole) : Type 0 where
  pub made : MakesLoopCall old new Close
  pub left : new.left ≡ old.left
  pub out : new.out ≡ old.out
  pub closed : new.closed ≡ true
