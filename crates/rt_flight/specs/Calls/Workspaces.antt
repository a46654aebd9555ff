-- What the calls of a workspace and of a box that runs ask, and what they leave.
use Rattle.std.specs.Prelude.{◌≡◌, ℕ, ℤ, ◌+◌, ◌<◌, ◌≤◌, ◌^◌, Bool, if◌then◌else◌, List, [], length}
use Rattle.fixed_num.specs.declared.value.Value.{Value}
use Rattle.cm_document.specs.declared.description.CtlKind.{CtlKind}
use Rattle.cm_model.specs.Controllers.{Stepped, put_out}
use Rattle.cm_storage.specs.Ran.{Filling}
use Rattle.cm_model.specs.declared.data.CtlData.{CtlData}
use Rattle.cm_model.specs.declared.member.Member.{Member}
use Rattle.cm_storage.specs.declared.ran.Done.{Done}
use Rattle.cm_storage.specs.declared.ran.Done.TheVariants as done
use Rattle.cm_places.specs.Placed.{Placed}
use Rattle.cm_slots.specs.Lives.{published_by}
use Rattle.rt_flight.specs.Workspaces.{WorkspaceFacts, IsFitted}

-- It is made for this controller, which is updated once in so many cycles.
pub record IsMadeFor (m : Member) (cycles : ℕ) (placed : Placed) (s : WorkspaceFacts) : Type 0 where
  pub serial : s.serial ≡ m.serial
  pub place : s.place ≡ m.place
  pub divisor : s.divisor ≡ cycles
  pub fitted : IsFitted placed s

-- A controller of this kind took this step from these states: its data, its outputs where those were, and its answer
-- are those of the step, which publishes by its kind, and gives nothing after an error.
pub record TakesStep (step : Stepped) (kind : CtlKind) (states : List ℤ) (outs outs' : List Value) (after : CtlData)
    (told : Done) : Type 0 where
  pub ctl : after ≡ step.after
  pub outputs : outs' ≡ put_out step outs
  pub width : length outs' ≡ length outs
  pub answer : told ≡ step.done
  pub published : step.published ≡ published_by kind states
  pub erred : told ≡ done.Error → step.outs ≡ []

-- there is room to tell of it
pub record CanTellOf (s : WorkspaceFacts) (publishes : Bool) (room : Filling) : Type 0 where
  pub heads : 0 < room.heads
  pub values : length s.outs ≤ room.values
  pub numbers : (if publishes then length s.states else 0) ≤ room.numbers
  pub few_outs : length s.outs < 2 ^ 8
  pub few_states : length s.states < 2 ^ 8

-- and what of that room is left at least
pub record LeavesRoom (outs published : ℕ) (before after : Filling) : Type 0 where
  pub heads : before.heads ≤ after.heads + 1
  pub values : before.values ≤ after.values + outs
  pub numbers : before.numbers ≤ after.numbers + published
