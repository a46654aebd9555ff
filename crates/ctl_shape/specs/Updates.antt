-- What is said of every update of a limiter, and of every run of them.
use Rattle.std.specs.Prelude.{◌≡◌, ℕ, ℤ, List, [], ◌∷◌, map, Option, Some, None}
use Rattle.fixed_num.specs.declared.value.Value.{Value}
use Rattle.fixed_num.specs.declared.value.Value.TheVariants.{Num}
use Rattle.cm_document.specs.declared.call.Mail.{Mail}
use Rattle.cm_model.specs.Controllers.{Updated, updated, with_mail}
use Rattle.cm_model.specs.Limiters.{Bounds, Reach}
use Rattle.cm_model.specs.declared.data.RunData.{RunData}
use Rattle.cm_model.specs.declared.data.RunData.TheVariants as run
use Rattle.ctl_shape.specs.Controllers.{bounds_params}
use Rattle.ctl_shape.specs.Limiters.{IsSafe, KeepsLimits, AllKeepLimits}

-- what runs stands at a place, after a step, from which a limiter keeps its limits
abbrev pub RunsSafely : Reach → RunData → Type 0
RunsSafely reach (run.Limiter chained set at step) = IsSafe reach at step
RunsSafely reach _ = ⊥

-- An update from a place, after the step that led there, keeps the limits: it gives one output, which keeps them, and
-- what runs goes on safely from there.
pub record UpdateKeepsLimits (reach : Reach) (at last : ℤ) (given : Updated) : Type 0 where
  pub out : ℤ
  pub gives_one : given.outs ≡ Num out ∷ []
  pub keeps : KeepsLimits reach at last out
  pub goes_on : RunsSafely reach given.run

-- ---- A run of updates

-- what comes to one update: mail that is taken before it, if there is some, the cycle and its time, the states that are
-- read, and the reference
pub record Input : Type 0 where
  pub mail : Option Mail
  pub cycle : ℕ
  pub time_us : ℕ
  pub states : List ℤ
  pub reference : Value

-- what runs, after it took the mail, if there was some
abbrev pub with_any_mail : RunData → Option Mail → RunData
with_any_mail part None = part
with_any_mail part (Some mail) = with_mail part mail

-- what an update gives, so much time after the one before
abbrev pub given_for : Bounds → ℕ → RunData → Input → Updated
given_for bounds dt_us part input =
    updated (bounds_params bounds) (with_any_mail part input.mail)
    (record { cycle = input.cycle; time_us = input.time_us; dt_us = dt_us }) input.states (input.reference ∷ [])

-- What a run of updates gives, one after the other, with so much time between two of them.
abbrev pub all_given : Bounds → ℕ → RunData → List Input → List Updated
all_given bounds dt_us part [] = []
all_given bounds dt_us part (input ∷ inputs) =
    given_for bounds dt_us part input ∷ all_given bounds dt_us (given_for bounds dt_us part input).run inputs

-- A run of updates from a place, after the step that led there, keeps the limits: each update gives one output, and
-- each output keeps them.
pub record RunKeepsLimits (reach : Reach) (at last : ℤ) (given : List Updated) : Type 0 where
  pub outs : List ℤ
  pub gives_one_each : map (λ it. it.outs) given ≡ map (λ out. Num out ∷ []) outs
  pub keeps : AllKeepLimits reach at last outs
