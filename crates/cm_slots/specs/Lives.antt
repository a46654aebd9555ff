-- What is kept of a loaded controller: its lifecycle state, and what its kind says of its parameters and of what runs;
-- when it may be updated with its mail; and what it publishes.
use Rattle.std.specs.Prelude.{◌≡◌, ℕ, ℤ, if◌then◌else◌, List, [], Option, Some, None, IfSome}
use Rattle.cm_document.specs.Params.{kind_of}
use Rattle.cm_document.specs.declared.call.Mail.{Mail}
use Rattle.cm_document.specs.declared.description.CtlKind.{CtlKind}
use Rattle.cm_document.specs.declared.life.Life.{Life}
use Rattle.cm_document.specs.declared.life.Life.TheVariants.{Unconfigured, Inactive, Active, Finalized}
use Rattle.cm_model.specs.Kinds.{publishes}
use Rattle.cm_model.specs.Controllers.{tells_last, mailed, IsBlank, IsIdle, IsRunning, CanBeUpdated}
use Rattle.cm_model.specs.declared.data.CtlData.{CtlData}
use Rattle.cm_model.specs.declared.data.RunData.{RunData}
use Rattle.cm_model.specs.declared.tick.Tick.{Tick}
use Rattle.ctl_trait.specs.Taking.{CanTake}

-- ---- Lifecycle states

-- A controller with these data is in this state: unconfigured it has its kind alone, inactive parameters too, active
-- also a running part. No controller is finalized.
abbrev pub IsIn : Life → CtlData → Type 0
IsIn Unconfigured ctl = IsBlank ctl
IsIn Inactive ctl = IsIdle ctl
IsIn Active ctl = IsRunning ctl
IsIn Finalized ctl = ⊥

-- what runs is what was published last exactly where the kind publishes
abbrev pub RunsAs : CtlKind → RunData → Type 0
RunsAs kind part = publishes kind ≡ tells_last part

-- It is in this state, its parameters are of its kind, and so is what runs.
pub record IsKept (life : Life) (ctl : CtlData) : Type 0 where
  pub state : IsIn life ctl
  pub own_kind : IfSome ctl.params (λ params. kind_of params ≡ ctl.kind)
  pub own_part : IfSome ctl.run (λ part. RunsAs ctl.kind part)

-- ---- An update

-- the data once the mail is taken, where there is some
abbrev pub once_taken : CtlData → Option Mail → CtlData
once_taken ctl None = ctl
once_taken ctl (Some mail) = mailed ctl mail

-- It may be updated at the tick with so many states, references and claims, and be handed the mail before, where there
-- is some.
pub record CanBeStepped (ctl : CtlData) (tick : Tick) (states refs outs : ℕ) (mail : Option Mail) : Type 0 where
  pub counts : CanBeUpdated ctl tick states refs outs
  pub taking : IfSome mail (CanTake ctl)

-- what a controller of this kind publishes of the states that it reads
abbrev pub published_by : CtlKind → List ℤ → List ℤ
published_by k states = if publishes k then states else []
