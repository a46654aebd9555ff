-- The table of controllers: what each kind begins with when it is activated, what mail makes of it, and what an update
-- gives.
use Rattle.std.specs.Prelude.{◌≡◌, ℕ, ◌-◌, ◌≤◌, ℤ, pos, ◌+ℤ◌, Bool, true, false, not, ◌&&◌, if◌then◌else◌}
use Rattle.std.specs.Prelude.{List, [], ◌∷◌, map, replicate, Option, Some, None, is_none, option_map, IsSomeAnd}
use Rattle.fixed_num.specs.declared.value.Value.{Value}
use Rattle.fixed_num.specs.declared.value.Value.TheVariants.{Unset, Num}
use Rattle.cm_document.specs.Params.{kind_of, shape_of}
use Rattle.cm_document.specs.declared.call.Mail.{Mail}
use Rattle.cm_document.specs.declared.call.Mail.TheVariants.{Values, Points}
use Rattle.cm_document.specs.declared.call.Point2.{Point2}
use Rattle.cm_document.specs.declared.description.Params.{Params}
use Rattle.cm_document.specs.declared.description.Params.TheVariants.{Pid, Trajectory, Broadcaster}
use Rattle.cm_document.specs.declared.description.Params.TheVariants.{Transmission, Differential, Limiter}
use Rattle.cm_model.specs.State.{fresh}
use Rattle.cm_model.specs.Kinds.{has_references, publishes, follows_points}
use Rattle.cm_model.specs.Kinds.{AreItsReads, are_ranged, is_ready_in, fails_in, takes}
use Rattle.cm_model.specs.Limiters.{Bounds, reach_of, between, wanted_step, new_step}
use Rattle.cm_model.specs.Pids.{Tuning, error_of, integrated, derivative_of, corrected}
use Rattle.cm_model.specs.Transmissions.{Gear, Pair, to_actuator, to_actuators}
use Rattle.cm_model.specs.Ways.{led}
use Rattle.cm_model.specs.declared.data.CtlData.{CtlData}
use Rattle.cm_model.specs.declared.data.RunData.{RunData}
use Rattle.cm_model.specs.declared.data.RunData.TheVariants as run
use Rattle.cm_storage.specs.declared.ran.Done.{Done}
use Rattle.cm_storage.specs.declared.ran.Done.TheVariants as done
use Rattle.cm_model.specs.declared.tick.TheConstants.{LONGEST_PERIOD}
use Rattle.cm_model.specs.declared.tick.Tick.{Tick}

-- ---- The running part

-- the first of the states that are read
abbrev pub first_state : List ℤ → ℤ
first_state [] = pos 0
first_state (state ∷ states) = state

-- The running part at activation, with the states of that moment: no value set, nothing integrated, the states to hold
-- or to publish, the position brought between its ends and no step. A controller that exports references keeps whether
-- it is chained; the others have none to take.
abbrev pub started : Params → List ℤ → Bool → RunData
started (Pid kp ki kd imax omax) states chained = run.Pid chained Unset (pos 0) None
started (Trajectory outs) states chained = run.Trajectory states false 0 states []
started (Broadcaster ins) states chained = run.Broadcaster states
started (Limiter lowest highest vmax amax) states chained =
    run.Limiter chained Unset (between lowest highest (first_state states)) (pos 0)
started params states chained =
    run.Set (has_references params && chained) (replicate (shape_of params).claims Unset)

-- it takes its references from the interfaces, and no mail
abbrev pub runs_chained : RunData → Bool
runs_chained (run.Set chained set) = chained
runs_chained (run.Pid chained set integral last) = chained
runs_chained (run.Limiter chained set at step) = chained
runs_chained _ = false

-- what runs is what was published last
abbrev pub tells_last : RunData → Bool
tells_last (run.Broadcaster last) = true
tells_last _ = false

-- Mail replaces the values that were set, or the points, which are fresh then.
abbrev pub with_mail : RunData → Mail → RunData
with_mail (run.Set chained set) (Values values) = run.Set chained (map Num values)
with_mail (run.Pid chained set integral last) (Values (value ∷ values)) = run.Pid chained (Num value) integral last
with_mail (run.Limiter chained set at step) (Values (value ∷ values)) = run.Limiter chained (Num value) at step
with_mail (run.Trajectory hold fresh start_us from points) (Points newer) = run.Trajectory hold true start_us from newer
with_mail part mail = part

-- ---- An update

-- What an update gives: the running part after it, the outputs, one for each claim, the numbers that are published, and
-- how it went.
pub record Updated : Type 0 where
  pub run : RunData
  pub outs : List Value
  pub published : List ℤ
  pub done : Done

-- it gives these outputs and publishes nothing
abbrev pub gives : RunData → List Value → Updated
gives part outs = record { run = part; outs = outs; published = []; done = done.Ok }

-- it fails: it gives nothing, and what runs stays as it was
abbrev pub fails : RunData → Updated
fails part = record { run = part; outs = []; published = []; done = done.Error }

-- the references, where it is chained, else the values that were set
abbrev pub wanted : Bool → List Value → List Value → List Value
wanted chained refs set = if chained then refs else set

-- A pid is brought from the state towards what is wanted. Where that is unset it stays as it is, and its output is
-- unset.
abbrev pub pid_update : Tuning → Bool → Value → ℤ → Option ℤ → ℕ → List Value → List ℤ → Updated
pid_update tuning chained set integral last dt_us (Num target ∷ targets) (state ∷ states) =
    let error = error_of target state in
    let next = integrated tuning integral error dt_us in
    gives (run.Pid chained set next (Some error))
    (Num (corrected tuning error next (derivative_of last error dt_us)) ∷ [])
pid_update tuning chained set integral last dt_us targets states =
    gives (run.Pid chained set integral last) (Unset ∷ [])

-- Fresh points count from the tick's time, and lead from the states of that moment.
abbrev pub trajectory_update : ℕ → List ℤ → List ℤ → Bool → ℕ → List ℤ → List Point2 → Updated
trajectory_update time_us states hold true start_us from points =
    gives (run.Trajectory hold false time_us states points) (map Num (led 0 hold states points))
trajectory_update time_us states hold false start_us from points =
    gives (run.Trajectory hold false start_us from points) (map Num (led (time_us - start_us) hold from points))

-- what an actuator is told through a gear; nothing where nothing is wanted
abbrev pub through : Gear → Value → Value
through gear Unset = Unset
through gear (Num r) = Num (to_actuator gear r)

-- What two actuators are told if two joints are to have these values. Where one of them is unset, so are both.
abbrev pub through_both : Pair → List Value → List Value
through_both pair (Num first ∷ Num second ∷ values) =
    let told = to_actuators pair (first, second) in Num told.0 ∷ Num told.1 ∷ []
through_both pair values = Unset ∷ Unset ∷ []

-- The outputs that a controller over set values makes of what is wanted of it, one for each claim: a transmission and a
-- differential tell their actuators, and a forward, a passthrough and a mock give just what is wanted.
abbrev pub shaped : Params → List Value → List Value
shaped (Transmission carried reduction offset) values =
    map (through (record { kind = carried; reduction = reduction; offset = offset })) values
shaped (Differential carried reduction1 reduction2 offset1 offset2) values =
    through_both
    (record { kind = carried; reductions = (reduction1, reduction2); offsets = (offset1, offset2) }) values
shaped params values = values

-- in a cycle in which it fails it gives nothing, else these
abbrev pub set_update : Bool → RunData → List Value → Updated
set_update failing part outs = if failing then fails part else gives part outs

-- a loop is closed with its gains and limits
abbrev pub loop_update : Option Tuning → Bool → Value → ℤ → Option ℤ → ℕ → List Value → List ℤ → Updated
loop_update (Some tuning) chained set integral last dt_us targets states =
    pid_update tuning chained set integral last dt_us targets states
loop_update None chained set integral last dt_us targets states = gives (run.Pid chained set integral last) []

-- A limiter goes one new step on, from where it is towards what is wanted.
abbrev pub limiter_update : Bounds → Bool → Value → ℤ → ℤ → ℕ → List Value → Updated
limiter_update bounds chained set at step dt_us (target ∷ targets) =
    let next = new_step (reach_of bounds dt_us) at step (wanted_step (reach_of bounds dt_us) at target) in
    gives (run.Limiter chained set (at +ℤ next) next) (Num (at +ℤ next) ∷ [])
limiter_update bounds chained set at step dt_us [] = gives (run.Limiter chained set at step) (Unset ∷ [])

-- a position is led within its bounds
abbrev pub bounded_update : Option Bounds → Bool → Value → ℤ → ℤ → ℕ → List Value → Updated
bounded_update (Some bounds) chained set at step dt_us targets =
    limiter_update bounds chained set at step dt_us targets
bounded_update None chained set at step dt_us targets = gives (run.Limiter chained set at step) []

-- the states that are read become what was published last
abbrev pub publishes_states : List ℤ → Updated
publishes_states states = record { run = run.Broadcaster states; outs = []; published = states; done = done.Ok }

-- the gains and the limits of a controller that closes a loop
abbrev pub tuning_of : Params → Option Tuning
tuning_of (Pid kp ki kd imax omax) = Some (record { kp = kp; ki = ki; kd = kd; imax = imax; omax = omax })
tuning_of _ = None

-- the bounds of a controller that leads a position
abbrev pub bounds_of : Params → Option Bounds
bounds_of (Limiter lowest highest vmax amax) =
    Some (record { lowest = lowest; highest = highest; speed = vmax; acceleration = amax })
bounds_of _ = None

-- every other kind gives what it makes of values that are set
abbrev pub is_over_values : Params → Bool
is_over_values params =
    is_none (tuning_of params)
    && is_none (bounds_of params)
    && not (follows_points (kind_of params))
    && not (publishes (kind_of params))

-- what runs gives this if it is of the kind that the parameters are of, else nothing
abbrev pub only_if : Bool → RunData → Updated → Updated
only_if own part given = if own then given else gives part []

-- the table, by what runs
abbrev pub updated_from : RunData → Params → Tick → List ℤ → List Value → Updated
updated_from (run.Set chained set) params tick states refs =
    only_if (is_over_values params) (run.Set chained set)
    (set_update (fails_in params tick.cycle) (run.Set chained set)
    (shaped params (wanted (has_references params && chained) refs set)))
updated_from (run.Pid chained set integral last) params tick states refs =
    loop_update (tuning_of params) chained set integral last tick.dt_us (wanted chained refs (set ∷ [])) states
updated_from (run.Trajectory hold fresh start_us from points) params tick states refs =
    only_if (follows_points (kind_of params)) (run.Trajectory hold fresh start_us from points)
    (trajectory_update tick.time_us states hold fresh start_us from points)
updated_from (run.Broadcaster last) params tick states refs =
    only_if (publishes (kind_of params)) (run.Broadcaster last) (publishes_states states)
updated_from (run.Limiter chained set at step) params tick states refs =
    bounded_update (bounds_of params) chained set at step tick.dt_us (wanted chained refs (set ∷ []))

-- The table: an update by the parameters, what runs, the tick, the states read and the references as they stand.
abbrev pub updated : Params → RunData → Tick → List ℤ → List Value → Updated
updated params part tick states refs = updated_from part params tick states refs

-- ---- The data of a controller

-- a blank has its kind, and nothing else
abbrev pub IsBlank : CtlData → Type 0
IsBlank ctl = ctl ≡ fresh ctl.kind

-- it has these parameters, and does not run
abbrev pub configured : CtlData → Params → CtlData
configured ctl params = record ctl { params = Some params; run = None }

-- without parameters it is as its load left it
abbrev pub cleaned_up : CtlData → CtlData
cleaned_up ctl = fresh ctl.kind

-- where it is configured it runs
abbrev pub activated : CtlData → List ℤ → Bool → CtlData
activated ctl states chained = elim ctl.params [
  | None ↦ ctl
  | Some params ↦ record ctl {
    run = Some (started params states chained);
  }
]

-- it does not run
abbrev pub deactivated : CtlData → CtlData
deactivated ctl = record ctl { run = None }

-- where it runs it has taken the mail
abbrev pub mailed : CtlData → Mail → CtlData
mailed ctl mail = elim ctl.run [ None ↦ ctl | Some part ↦ record ctl { run = Some (with_mail part mail) } ]

-- it is ready to be activated before this cycle
abbrev pub is_ready : CtlData → ℕ → Bool
is_ready ctl cycle = elim ctl.params [ None ↦ true | Some params ↦ is_ready_in params cycle ]

-- What a step of a controller gives: its data after it, and what the update gave.
pub record Stepped : Type 0 where
  pub after : CtlData
  pub outs : List Value
  pub published : List ℤ
  pub done : Done

-- the data with the running part that an update left
abbrev pub stepped_to : CtlData → Updated → Stepped
stepped_to ctl given = record {
  after = record ctl { run = Some given.run };
  outs = given.outs;
  published = given.published;
  done = given.done;
}

-- it does not run: nothing is done
abbrev pub not_stepped : CtlData → Stepped
not_stepped ctl = record { after = ctl; outs = []; published = []; done = done.Ok }

-- by its parameters and its running part, where it has both
abbrev pub step_with : CtlData → Option Params → Option RunData → Tick → List ℤ → List Value → Stepped
step_with ctl (Some params) (Some part) tick states refs = stepped_to ctl (updated params part tick states refs)
step_with ctl _ _ tick states refs = not_stepped ctl

-- the update of a controller at a tick
abbrev pub update_step : CtlData → Tick → List ℤ → List Value → Stepped
update_step ctl tick states refs = step_with ctl ctl.params ctl.run tick states refs

-- The step of a controller in a cycle: it takes its mail, where there is some, and is then updated.
abbrev pub ctl_step : CtlData → Tick → List ℤ → List Value → Option Mail → Stepped
ctl_step ctl tick states refs None = update_step ctl tick states refs
ctl_step ctl tick states refs (Some mail) = update_step (mailed ctl mail) tick states refs

-- The outputs stand in the claims; after an error these hold what they held.
abbrev pub put_out : Stepped → List Value → List Value
put_out step held = elim step.done [ done.Ok ↦ step.outs | done.Error ↦ held ]

-- as before it runs or not, and takes its references from the interfaces or not
abbrev pub KeepsChained : CtlData → CtlData → Type 0
KeepsChained before after = option_map runs_chained after.run ≡ option_map runs_chained before.run

-- ---- When each may be done

-- It is configured with such parameters, and does not run.
pub record IsInactiveWith (ctl : CtlData) (Holds : Params → Type 0) : Type 0 where
  pub configured : IsSomeAnd ctl.params Holds
  pub idle : ctl.run ≡ None

-- It is configured with such parameters, and such a part runs.
pub record IsActiveWith (ctl : CtlData) (Holds : Params → Type 0) (Runs : RunData → Type 0) : Type 0 where
  pub configured : IsSomeAnd ctl.params Holds
  pub running : IsSomeAnd ctl.run Runs

-- it is inactive
abbrev pub IsIdle : CtlData → Type 0
IsIdle ctl = IsInactiveWith ctl (λ params. Unit {0})

-- it is active
abbrev pub IsRunning : CtlData → Type 0
IsRunning ctl = IsActiveWith ctl (λ params. Unit {0}) (λ part. Unit {0})

-- it may be configured so: it does not run, and the parameters are of its kind and in their ranges
pub record CanBeConfigured (ctl : CtlData) (params : Params) : Type 0 where
  pub idle : ctl.run ≡ None
  pub own_kind : kind_of params ≡ ctl.kind
  pub ranged : are_ranged params ≡ true

-- it may be activated with so many states: it is inactive, and they are as many as it reads
abbrev pub CanBeActivated : CtlData → ℕ → Type 0
CanBeActivated ctl states = IsInactiveWith ctl (λ params. AreItsReads (shape_of params).reads states)

-- it may be sent the mail: it runs unchained, and the mail fits
abbrev pub CanBeMailed : CtlData → Mail → Type 0
CanBeMailed ctl mail = IsActiveWith ctl (λ params. takes params mail ≡ true) (λ part. runs_chained part ≡ false)

-- so many states, references and claims are as many as a controller with these parameters has
pub record AreItsCounts (params : Params) (states refs outs : ℕ) : Type 0 where
  pub reads : AreItsReads (shape_of params).reads states
  pub references : refs ≡ (shape_of params).references
  pub claims : outs ≡ (shape_of params).claims

-- it may be updated at the tick with so many states, references and claims
pub record CanBeUpdated (ctl : CtlData) (tick : Tick) (states refs outs : ℕ) : Type 0 where
  pub counts : IsActiveWith ctl (λ params. AreItsCounts params states refs outs) (λ part. Unit {0})
  pub some_time : 1 ≤ tick.dt_us
  pub no_longer : tick.dt_us ≤ LONGEST_PERIOD
