-- What the calls of a switch and of a cycle make of what is kept of a loaded controller.
use Rattle.std.proofs.Common.{◌≡◌, ℕ, ℤ, Bool, true, false, ◌&&◌, List, [], Option, Some, None, refl, sym, ap, ◌∙◌}
use Rattle.std.specs.Prelude.{IsSomeAnd, IfSome, if◌then◌else◌}
use Rattle.cm_model.proofs.ControllerLemmas.{step_keeps_params}
use Rattle.cm_model.proofs.KindLemmas.{starts_as, mail_keeps, update_gives}
use Rattle.fixed_num.specs.declared.value.Value.{Value}
use Rattle.cm_document.specs.Params.{kind_of, shape_of}
use Rattle.cm_document.specs.declared.call.Mail.{Mail}
use Rattle.cm_document.specs.declared.description.CtlKind.{CtlKind}
use Rattle.cm_document.specs.declared.description.Params.{Params}
use Rattle.cm_document.specs.declared.life.Life.{Life}
use Rattle.cm_document.specs.declared.life.Life.TheVariants.{Unconfigured, Inactive, Active, Finalized}
use Rattle.cm_model.specs.Controllers.{Stepped, started, with_mail, updated, activated, deactivated, mailed, step_with}
use Rattle.cm_model.specs.Controllers.{update_step, ctl_step, IsIdle, IsRunning, CanBeActivated, CanBeUpdated}
use Rattle.cm_model.specs.Kinds.{publishes, AreItsReads}
use Rattle.cm_model.specs.Scene.{is_running}
use Rattle.cm_model.specs.declared.data.CtlData.{CtlData}
use Rattle.cm_model.specs.declared.data.RunData.{RunData}
use Rattle.cm_storage.specs.declared.ran.Done.TheVariants as done
use Rattle.cm_model.specs.declared.tick.Tick.{Tick}
use Rattle.cm_slots.specs.Lives.{IsIn, IsKept, RunsAs, once_taken, published_by}
use Rattle.cm_slots.proofs.LifeLemmas.{active_in, some_is}

some_there : {A : Type 0} (P : A → Type 0) (o : Option A) → IsSomeAnd o P → IsSomeAnd o (λ x. Unit {0})
some_there P None h = absurd h
some_there P (Some x) h = tt

-- ---- It comes and leaves

idle_once_deactivated : (ctl : CtlData) → IsRunning ctl → IsIdle (deactivated ctl)
idle_once_deactivated ctl h = record { configured = h.configured; idle = refl }

-- ---- What runs is of its kind

runs_as_started : (k : CtlKind) (p : Params) (states : List ℤ) (chained : Bool) → kind_of p ≡ k
    → RunsAs k (started p states chained)
runs_as_started k p states chained e = sym ((starts_as p states chained).tells ∙ ap publishes e)

runs_as_mailed : (k : CtlKind) (part : RunData) (mail : Mail) → RunsAs k part → RunsAs k (with_mail part mail)
runs_as_mailed k part mail h = h ∙ sym (mail_keeps part mail).tells

runs_as_updated : (k : CtlKind) (p : Params) (part : RunData) (tick : Tick) (states : List ℤ) (refs : List Value)
    → RunsAs k part
    → RunsAs k (updated p part tick states refs).run
runs_as_updated k p part tick states refs h = h ∙ sym (update_gives p part tick states refs).sort.tells

kept_activated : (ctl : CtlData) (p : Option Params) (states : List ℤ) (chained : Bool) → ctl.params ≡ p
    → IsSomeAnd p (λ x. Unit {0}) → IfSome p (λ q. kind_of q ≡ ctl.kind)
    → IsKept Active (activated ctl states chained)
kept_activated ctl None states chained e h own = absurd h
kept_activated ctl (Some q) states chained e h own = rw e (record {
  state = record { configured = tt; running = tt };
  own_kind = own;
  own_part = runs_as_started ctl.kind q states chained own;
})

pub kept_once_activated : (life : Life) (ctl : CtlData) (count : ℕ) (states : List ℤ) (chained : Bool) → IsKept life ctl
    → CanBeActivated ctl count
    → IsKept Active (activated ctl states chained)
kept_once_activated life ctl count states chained h can =
    kept_activated ctl ctl.params states chained refl
    (some_there (λ params. AreItsReads (shape_of params).reads count) ctl.params can.configured) h.own_kind

pub kept_once_deactivated : (life : Life) (ctl : CtlData) → IsKept life ctl → IsRunning ctl
    → IsKept Inactive (deactivated ctl)
kept_once_deactivated life ctl h runs =
    record { state = idle_once_deactivated ctl runs; own_kind = h.own_kind; own_part = tt }

-- ---- It is updated

mailed_params : (ctl : CtlData) (mail : Mail) (r : Option RunData) → ctl.run ≡ r → (mailed ctl mail).params ≡ ctl.params
mailed_params ctl mail None e = rw e refl
mailed_params ctl mail (Some part) e = rw e refl

mailed_runs : (ctl : CtlData) (mail : Mail) (r : Option RunData) → ctl.run ≡ r → IsSomeAnd r (λ x. Unit {0})
    → IsSomeAnd (mailed ctl mail).run (λ x. Unit {0})
mailed_runs ctl mail None e h = absurd h
mailed_runs ctl mail (Some part) e h = rw e tt

-- what may be updated still may be once it took its mail
can_be_updated_once_mailed : (ctl : CtlData) (mail : Mail) (tick : Tick) (states refs outs : ℕ)
    → CanBeUpdated ctl tick states refs outs → CanBeUpdated (mailed ctl mail) tick states refs outs
can_be_updated_once_mailed ctl mail tick states refs outs can = record {
  counts = record {
    configured = rw (mailed_params ctl mail ctl.run refl) can.counts.configured;
    running = mailed_runs ctl mail ctl.run refl (some_there _ ctl.run can.counts.running);
  };
  some_time = can.some_time;
  no_longer = can.no_longer;
}

stepped_from : (ctl : CtlData) (p : Option Params) (r : Option RunData) (tick : Tick) (states : List ℤ)
    (refs : List Value)
    → ctl.params ≡ p → IsSomeAnd p (λ x. Unit {0}) → IsSomeAnd r (λ x. Unit {0})
    → IsRunning (step_with ctl p r tick states refs).after
stepped_from ctl None r tick states refs e hp hr = absurd hp
stepped_from ctl (Some params) None tick states refs e hp hr = absurd hr
stepped_from ctl (Some params) (Some part) tick states refs e hp hr = record { configured = rw e tt; running = tt }

-- what may be updated runs after it
runs_once_updated : (ctl : CtlData) (tick : Tick) (states : List ℤ) (refs : List Value) (n m k : ℕ)
    → CanBeUpdated ctl tick n m k → IsRunning (update_step ctl tick states refs).after
runs_once_updated ctl tick states refs n m k can =
    stepped_from ctl ctl.params ctl.run tick states refs refl (some_there _ ctl.params can.counts.configured)
    (some_there _ ctl.run can.counts.running)

in_active : (life : Life) (ctl : CtlData) → is_running life ≡ true → IsRunning ctl → IsIn life ctl
in_active Unconfigured ctl e h = cc
in_active Inactive ctl e h = cc
in_active Active ctl e h = h
in_active Finalized ctl e h = cc

pub can_be_updated_once_taken : (ctl : CtlData) (mail : Option Mail) (tick : Tick) (n m k : ℕ)
    → CanBeUpdated ctl tick n m k → CanBeUpdated (once_taken ctl mail) tick n m k
can_be_updated_once_taken ctl None tick n m k can = can
can_be_updated_once_taken ctl (Some mail) tick n m k can = can_be_updated_once_mailed ctl mail tick n m k can

-- the step of a cycle is the update once the mail is taken
pub step_is : (ctl : CtlData) (tick : Tick) (states : List ℤ) (refs : List Value) (mail : Option Mail)
    → ctl_step ctl tick states refs mail ≡ update_step (once_taken ctl mail) tick states refs
step_is ctl tick states refs None = refl
step_is ctl tick states refs (Some mail) = refl

-- so its lifecycle state stays, with or without mail
in_once_stepped : (life : Life) (ctl : CtlData) (tick : Tick) (states : List ℤ) (refs : List Value) (mail : Option Mail)
    (n m k : ℕ)
    → IsIn life ctl → CanBeUpdated ctl tick n m k → IsIn life (update_step (once_taken ctl mail) tick states refs).after
in_once_stepped life ctl tick states refs mail n m k h can =
    in_active life _ (active_in life ctl h ∙ some_is _ ctl.run can.counts.running)
    (runs_once_updated (once_taken ctl mail) tick states refs n m k (can_be_updated_once_taken ctl mail tick n m k can))

own_stepped : (ctl : CtlData) (p : Option Params) (r : Option RunData) (tick : Tick) (states : List ℤ)
    (refs : List Value) → ctl.params ≡ p → ctl.run ≡ r
    → IfSome p (λ q. kind_of q ≡ ctl.kind) → IfSome r (RunsAs ctl.kind)
    → IfSome (step_with ctl p r tick states refs).after.run (RunsAs ctl.kind)
own_stepped ctl None r tick states refs e f own part = rw f part
own_stepped ctl (Some q) None tick states refs e f own part = rw f tt
own_stepped ctl (Some q) (Some x) tick states refs e f own part = runs_as_updated ctl.kind q x tick states refs part

pub kind_stepped : (ctl : CtlData) (p : Option Params) (r : Option RunData) (tick : Tick) (states : List ℤ)
    (refs : List Value)
    → (step_with ctl p r tick states refs).after.kind ≡ ctl.kind
kind_stepped ctl None r tick states refs = refl
kind_stepped ctl (Some q) None tick states refs = refl
kind_stepped ctl (Some q) (Some x) tick states refs = refl

-- What is kept of parameters and parts, apart from the lifecycle state.
record IsOwned (ctl : CtlData) : Type 0 where
  kind : IfSome ctl.params (λ params. kind_of params ≡ ctl.kind)
  part : IfSome ctl.run (λ part. RunsAs ctl.kind part)

owned_mailed : (ctl : CtlData) (mail : Mail) (r : Option RunData) → ctl.run ≡ r → IsOwned ctl
    → IsOwned (mailed ctl mail)
owned_mailed ctl mail None e h = rw e (record { kind = h.kind; part = tt })
owned_mailed ctl mail (Some x) e h =
    let part : RunsAs ctl.kind x = rw e at h.part in
    rw e (record { kind = h.kind; part = runs_as_mailed ctl.kind x mail part })

owned_once_taken : (ctl : CtlData) (mail : Option Mail) → IsOwned ctl → IsOwned (once_taken ctl mail)
owned_once_taken ctl None h = h
owned_once_taken ctl (Some mail) h = owned_mailed ctl mail ctl.run refl h

kind_mailed : (ctl : CtlData) (mail : Mail) (r : Option RunData) → ctl.run ≡ r → (mailed ctl mail).kind ≡ ctl.kind
kind_mailed ctl mail None e = rw e refl
kind_mailed ctl mail (Some x) e = rw e refl

pub params_once_taken : (ctl : CtlData) (mail : Option Mail) → (once_taken ctl mail).params ≡ ctl.params
params_once_taken ctl None = refl
params_once_taken ctl (Some mail) = mailed_params ctl mail ctl.run refl

pub kind_once_taken : (ctl : CtlData) (mail : Option Mail) → (once_taken ctl mail).kind ≡ ctl.kind
kind_once_taken ctl None = refl
kind_once_taken ctl (Some mail) = kind_mailed ctl mail ctl.run refl

owned_stepped : (ctl : CtlData) (tick : Tick) (states : List ℤ) (refs : List Value) → IsOwned ctl
    → IsOwned (update_step ctl tick states refs).after
owned_stepped ctl tick states refs h =
    let same_params = step_keeps_params ctl ctl.params ctl.run tick states refs in
    let same_kind = kind_stepped ctl ctl.params ctl.run tick states refs in
    record {
      kind = rw (same_params, same_kind) h.kind;
      part = rw same_kind (own_stepped ctl ctl.params ctl.run tick states refs refl refl h.kind h.part);
    }

pub kept_once_stepped : (life : Life) (ctl : CtlData) (tick : Tick) (states : List ℤ) (refs : List Value)
    (mail : Option Mail) (n m k : ℕ)
    → IsKept life ctl → CanBeUpdated ctl tick n m k
    → IsKept life (update_step (once_taken ctl mail) tick states refs).after
kept_once_stepped life ctl tick states refs mail n m k h can =
    let owned = owned_stepped (once_taken ctl mail) tick states refs
    (owned_once_taken ctl mail (record { kind = h.own_kind; part = h.own_part })) in
    record {
      state = in_once_stepped life ctl tick states refs mail n m k h.state can;
      own_kind = owned.kind;
      own_part =
          owned.part;
    }

-- ---- What it publishes

-- what is published where both say so
by_either : (b : Bool) (states : List ℤ) → (if b && b then states else []) ≡ (if b then states else [])
by_either true states = refl
by_either false states = refl

published_updated : (k : CtlKind) (p : Params) (part : RunData) (tick : Tick) (states : List ℤ) (refs : List Value)
    → kind_of p ≡ k → RunsAs k part
    → (updated p part tick states refs).published ≡ published_by k states
published_updated k p part tick states refs e h =
    (update_gives p part tick states refs).published
    ∙ ap (λ (tells : Bool). if tells && publishes (kind_of p) then states else []) (sym h)
    ∙ ap (λ (kind : CtlKind). if publishes k && publishes kind then states else []) e
    ∙ by_either (publishes k) states

published_stepped : (ctl : CtlData) (p : Option Params) (r : Option RunData) (tick : Tick) (states : List ℤ)
    (refs : List Value)
    → IsSomeAnd p (λ x. Unit {0}) → IsSomeAnd r (λ x. Unit {0}) → IfSome p (λ q. kind_of q ≡ ctl.kind)
    → IfSome r (RunsAs ctl.kind)
    → (step_with ctl p r tick states refs).published ≡ published_by ctl.kind states
published_stepped ctl None r tick states refs hp hr own part = absurd hp
published_stepped ctl (Some q) None tick states refs hp hr own part = absurd hr
published_stepped ctl (Some q) (Some x) tick states refs hp hr own part =
    published_updated ctl.kind q x tick states refs own part

published_once_owned : (ctl : CtlData) (tick : Tick) (states : List ℤ) (refs : List Value) (n m k : ℕ) → IsOwned ctl
    → CanBeUpdated ctl tick n m k
    → (update_step ctl tick states refs).published ≡ published_by ctl.kind states
published_once_owned ctl tick states refs n m k h can =
    published_stepped ctl ctl.params ctl.run tick states refs (some_there _ ctl.params can.counts.configured)
    (some_there _ ctl.run can.counts.running) h.kind h.part

-- a broadcaster publishes the states that it reads, and nobody else publishes
pub published_is : (life : Life) (ctl : CtlData) (tick : Tick) (states : List ℤ) (refs : List Value)
    (mail : Option Mail) (n m k : ℕ)
    → IsKept life ctl → CanBeUpdated ctl tick n m k
    → (ctl_step ctl tick states refs mail).published ≡ published_by ctl.kind states
published_is life ctl tick states refs mail n m k h can =
    ap (λ (step : Stepped). step.published) (step_is ctl tick states refs mail)
    ∙ published_once_owned (once_taken ctl mail) tick states refs n m k
    (owned_once_taken ctl mail (record { kind = h.own_kind; part = h.own_part }))
    (can_be_updated_once_taken ctl mail tick n m k can)
    ∙ ap (λ (k : CtlKind). published_by k states) (kind_once_taken ctl mail)

-- ---- What it gives out after an error

erred_stepped : (ctl : CtlData) (p : Option Params) (r : Option RunData) (tick : Tick) (states : List ℤ)
    (refs : List Value)
    → (step_with ctl p r tick states refs).done ≡ done.Error → (step_with ctl p r tick states refs).outs ≡ []
erred_stepped ctl None r tick states refs e = refl
erred_stepped ctl (Some q) None tick states refs e = refl
erred_stepped ctl (Some q) (Some x) tick states refs e = (update_gives q x tick states refs).erred e

-- after an error it gives nothing
pub erred_gives_none : (ctl : CtlData) (tick : Tick) (states : List ℤ) (refs : List Value) (mail : Option Mail)
    → (ctl_step ctl tick states refs mail).done ≡ done.Error → (ctl_step ctl tick states refs mail).outs ≡ []
erred_gives_none ctl tick states refs None e = erred_stepped ctl ctl.params ctl.run tick states refs e
erred_gives_none ctl tick states refs (Some mail) e =
    erred_stepped (mailed ctl mail) (mailed ctl mail).params (mailed ctl mail).run tick states refs e
