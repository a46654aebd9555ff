-- What an update of a pid leaves stays within its limits.
use Rattle.std.proofs.Common.{ℕ, ℤ, pos, ◌≤ℤ◌, Bool, List, [], ◌∷◌, Option, arith}
use Rattle.std.proofs.lemmas.Int.{ints}
use Rattle.fixed_num.specs.Arithmetic.{IsWithin}
use Rattle.fixed_num.specs.declared.value.Value.{Value}
use Rattle.fixed_num.specs.declared.value.Value.TheVariants.{Unset, Num}
use Rattle.fixed_num.proofs.ArithmeticLemmas.{limit_holds}
use Rattle.cm_model.specs.Pids.{Tuning}
use Rattle.cm_model.specs.Controllers.{wanted, pid_update, updated}
use Rattle.cm_model.specs.declared.data.RunData.{RunData}
use Rattle.cm_model.specs.declared.data.RunData.TheVariants as run
use Rattle.cm_model.specs.declared.tick.Tick.{Tick}
use Rattle.ctl_pid.specs.Limits.{HasLimits, GivesWithin, IntegralIsWithin}
use Rattle.ctl_pid.specs.Loops.{params_of}

-- the outputs, by what is wanted and what is read
step_gives_within : (tuning : Tuning) (chained : Bool) (set : Value) (integral : ℤ) (last : Option ℤ) (dt_us : ℕ)
    (targets : List Value) (states : List ℤ) → HasLimits tuning
    → GivesWithin tuning.omax (pid_update tuning chained set integral last dt_us targets states).outs
step_gives_within tuning chained set integral last dt_us (Num target ∷ targets) (state ∷ states) limits =
    (limit_holds tuning.omax _ limits.output, tt)
step_gives_within tuning chained set integral last dt_us (Num target ∷ targets) [] limits = (tt, tt)
step_gives_within tuning chained set integral last dt_us (Unset ∷ targets) states limits = (tt, tt)
step_gives_within tuning chained set integral last dt_us [] states limits = (tt, tt)

-- and the integral
step_keeps_integral : (tuning : Tuning) (chained : Bool) (set : Value) (integral : ℤ) (last : Option ℤ) (dt_us : ℕ)
    (targets : List Value) (states : List ℤ) → HasLimits tuning
    → IsWithin tuning.imax integral
    → IntegralIsWithin tuning.imax (pid_update tuning chained set integral last dt_us targets states).run
step_keeps_integral tuning chained set integral last dt_us (Num target ∷ targets) (state ∷ states) limits near =
    limit_holds tuning.imax _ limits.integral
step_keeps_integral tuning chained set integral last dt_us (Num target ∷ targets) [] limits near = near
step_keeps_integral tuning chained set integral last dt_us (Unset ∷ targets) states limits near = near
step_keeps_integral tuning chained set integral last dt_us [] states limits near = near

pub update_gives_within : (tuning : Tuning) (r : RunData) (tick : Tick) (states : List ℤ) (refs : List Value)
    → HasLimits tuning
    → GivesWithin tuning.omax (updated (params_of tuning) r tick states refs).outs
update_gives_within tuning (run.Pid chained set integral last) tick states refs limits =
    step_gives_within tuning chained set integral last tick.dt_us (wanted chained refs (set ∷ [])) states limits
update_gives_within tuning (run.Set chained set) tick states refs limits = tt
update_gives_within tuning (run.Trajectory hold fresh start_us from points) tick states refs limits = tt
update_gives_within tuning (run.Broadcaster last) tick states refs limits = tt
update_gives_within tuning (run.Limiter chained set at step) tick states refs limits = tt

pub update_keeps_integral : (tuning : Tuning) (r : RunData) (tick : Tick) (states : List ℤ) (refs : List Value)
    → HasLimits tuning
    → IntegralIsWithin tuning.imax r → IntegralIsWithin tuning.imax (updated (params_of tuning) r tick states refs).run
update_keeps_integral tuning (run.Pid chained set integral last) tick states refs limits near =
    step_keeps_integral tuning chained set integral last tick.dt_us (wanted chained refs (set ∷ [])) states limits near
update_keeps_integral tuning (run.Set chained set) tick states refs limits near = tt
update_keeps_integral tuning (run.Trajectory hold fresh start_us from points) tick states refs limits near = tt
update_keeps_integral tuning (run.Broadcaster last) tick states refs limits near = tt
update_keeps_integral tuning (run.Limiter chained set at step) tick states refs limits near = tt

pub nothing_is_within : (limit : ℤ) → pos 0 ≤ℤ limit → IsWithin limit (pos 0)
nothing_is_within limit some = (omega (arith, ints, some), omega (arith, ints, some))
