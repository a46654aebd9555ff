-- What a pid keeps, seen as the data of a controller, and a step of its loop.
use Rattle.std.specs.Prelude.{ℕ, ℤ, [], ◌∷◌, Option, Some, None, option_map}
use Rattle.fixed_num.specs.declared.value.Value.{Value}
use Rattle.cm_document.specs.declared.description.CtlKind.TheVariants as kind
use Rattle.cm_document.specs.declared.description.Params.{Params}
use Rattle.cm_document.specs.declared.description.Params.TheVariants as params
use Rattle.cm_model.specs.State.{fresh}
use Rattle.cm_model.specs.Pids.{Tuning, error_of, integrated, derivative_of, corrected}
use Rattle.cm_model.specs.Controllers.{Updated, wanted, pid_update}
use Rattle.cm_model.specs.declared.data.CtlData.{CtlData}
use Rattle.cm_model.specs.declared.data.RunData.{RunData}
use Rattle.cm_model.specs.declared.data.RunData.TheVariants as run
use Rattle.ctl_pid.specs.declared.pid.Kept.{Kept}
use Rattle.ctl_pid.specs.declared.pid.Run.{Run}

-- its parameters
abbrev pub params_of : Tuning → Params
params_of t = params.Pid t.kp t.ki t.kd t.imax t.omax

-- its running part
abbrev pub running_of : Run → RunData
running_of r = run.Pid r.chained r.set r.integral r.last

-- its data
abbrev pub pid_data : Option Kept → CtlData
pid_data None = fresh kind.Pid
pid_data (Some kept) = record {
  kind = kind.Pid;
  params = Some (params_of kept.tuning);
  run = option_map running_of kept.run;
}

-- What an update gives: it goes to its reference where it is chained, else to the value that was set.
abbrev pub loop_step : Tuning → Run → ℕ → ℤ → Value → Updated
loop_step tuning r dt_us state reference =
    pid_update tuning r.chained r.set r.integral r.last dt_us (wanted r.chained (reference ∷ []) (r.set ∷ []))
    (state ∷ [])

-- what it keeps after a step towards a number
abbrev pub corrected_run : Tuning → Run → ℕ → ℤ → ℤ → Run
corrected_run tuning r dt_us state target =
    let error = error_of target state in
    record r { integral = integrated tuning r.integral error dt_us; last = Some error }

-- the output of such a step
abbrev pub correction : Tuning → Run → ℕ → ℤ → ℤ → ℤ
correction tuning r dt_us state target =
    let error = error_of target state in
    corrected tuning error (integrated tuning r.integral error dt_us) (derivative_of r.last error dt_us)
