-- Worked rows of the table of controllers, computed from the definitions alone.
use Rattle.std.proofs.Common.{◌≡◌, ℕ, zero, suc, ℤ, pos, negsuc, Bool, true}
use Rattle.std.proofs.Common.{false, List, [], ◌∷◌, Option, Some, None, refl}
use Rattle.fixed_num.specs.Micro.{clamped}
use Rattle.fixed_num.specs.Arithmetic.{floor_div, within}
use Rattle.fixed_num.specs.declared.value.Value.{Value}
use Rattle.fixed_num.specs.declared.value.Value.TheVariants.{Unset, Num}
use Rattle.cm_document.specs.declared.call.Mail.TheVariants.{Values, Points}
use Rattle.cm_document.specs.declared.call.Point2.{Point2}
use Rattle.cm_document.specs.declared.description.CtlKind.{CtlKind}
use Rattle.cm_document.specs.declared.description.CtlKind.TheVariants as kind
use Rattle.cm_document.specs.declared.description.Params.{Params}
use Rattle.cm_document.specs.declared.description.Params.TheVariants.{Forward, Passthrough, Pid, Trajectory}
use Rattle.cm_document.specs.declared.description.Params.TheVariants.{Broadcaster, Mock, Transmission}
use Rattle.cm_document.specs.declared.description.Params.TheVariants.{Differential, Limiter}
use Rattle.iface_names.specs.declared.kind.Kind.TheVariants.{Position, Velocity, Effort}
use Rattle.cm_model.specs.State.{fresh}
use Rattle.cm_model.specs.Kinds.{are_ranged, is_ready_in, takes, takes_none}
use Rattle.cm_model.specs.Limiters.{nearest_from, new_step}
use Rattle.cm_model.specs.Controllers.{Stepped, started, configured, activated}
use Rattle.cm_model.specs.Controllers.{deactivated, cleaned_up, ctl_step, put_out}
use Rattle.cm_model.specs.declared.data.CtlData.{CtlData}
use Rattle.cm_model.specs.declared.data.RunData.{RunData}
use Rattle.cm_model.specs.declared.data.RunData.TheVariants as run
use Rattle.cm_storage.specs.declared.ran.Done.TheVariants as done
use Rattle.cm_model.specs.declared.tick.Tick.{Tick}

-- an active controller
abbrev active : CtlKind → Params → RunData → CtlData
active kind params part = record { kind = kind; params = Some params; run = Some part }

-- the tick of a cycle, with a time between updates
abbrev tick : ℕ → ℕ → ℕ → Tick
tick cycle time_us dt_us = record { cycle = cycle; time_us = time_us; dt_us = dt_us }

-- what a step of an active controller gives that goes well
abbrev well : CtlKind → Params → RunData → List Value → List ℤ → Stepped
well kind params part outs published =
    record { after = active kind params part; outs = outs; published = published; done = done.Ok }

-- ---- Forward

-- it gives what it was sent, cycle for cycle
a_forward_gives_its_mail : ctl_step (activated (configured (fresh kind.Forward) (Forward 2)) [] true) (tick 0 0 10000)
    [] [] (Some (Values (pos 500000 ∷ negsuc 0 ∷ [])))
    ≡ well kind.Forward (Forward 2) (run.Set false (Num (pos 500000) ∷ Num (negsuc 0) ∷ []))
    (Num (pos 500000) ∷ Num (negsuc 0) ∷ []) []
a_forward_gives_its_mail = refl

-- before any mail nothing is set
a_forward_without_mail : ctl_step (activated (configured (fresh kind.Forward) (Forward 2)) [] false) (tick 0 0 10000) []
    [] None
    ≡ well kind.Forward (Forward 2) (run.Set false (Unset ∷ Unset ∷ [])) (Unset ∷ Unset ∷ []) []
a_forward_without_mail = refl

-- ---- Passthrough

-- chained it gives its references, those too that nobody has set
a_chained_passthrough : ctl_step (active kind.Passthrough (Passthrough 2) (run.Set true (Num (pos 7) ∷ Unset ∷ [])))
    (tick 0 0 10000) [] (Num (pos 3) ∷ Unset ∷ []) None
    ≡ well kind.Passthrough (Passthrough 2) (run.Set true (Num (pos 7) ∷ Unset ∷ [])) (Num (pos 3) ∷ Unset ∷ []) []
a_chained_passthrough = refl

-- unchained it gives what it was sent
an_unchained_passthrough : ctl_step (active kind.Passthrough (Passthrough 2) (run.Set false (Unset ∷ Unset ∷ [])))
    (tick 0 0 10000) [] (Num (pos 3) ∷ Unset ∷ []) (Some (Values (pos 7 ∷ pos 8 ∷ [])))
    ≡ well kind.Passthrough (Passthrough 2) (run.Set false (Num (pos 7) ∷ Num (pos 8) ∷ []))
    (Num (pos 7) ∷ Num (pos 8) ∷ []) []
an_unchained_passthrough = refl

-- it is activated chained or not
a_passthrough_keeps_that_it_is_chained : started (Passthrough 1) [] true ≡ run.Set true (Unset ∷ [])
a_passthrough_keeps_that_it_is_chained = refl

-- ---- Pid: gains 2, 1 and 0.1, the integral within 1; 30 milliseconds between two updates

abbrev pid : Params
pid = Pid (pos 2000000) (pos 1000000) (pos 100000) (pos 1000000) (pos 1000000000000000)

abbrev pid_run : Bool → Value → ℤ → Option ℤ → RunData
pid_run chained set integral last = run.Pid chained set integral last

-- the first update, with an error of 1: the integral is 0.03 and the output 2.03
a_pid_begins : ctl_step (activated (configured (fresh kind.Pid) pid) (pos 0 ∷ []) false) (tick 0 0 30000) (pos 0 ∷ [])
    (Unset ∷ []) (Some (Values (pos 1000000 ∷ [])))
    ≡ well kind.Pid pid (pid_run false (Num (pos 1000000)) (pos 30000) (Some (pos 1000000))) (Num (pos 2030000) ∷ []) []
unfolding clamped floor_div within
a_pid_begins = refl

-- the second, with an error of 0.4: the integral is 0.042, the derivative -20, the output -1.158
a_pid_goes_on : ctl_step (active kind.Pid pid (pid_run false (Num (pos 1000000)) (pos 30000) (Some (pos 1000000))))
    (tick 3 30000 30000) (pos 600000 ∷ []) (Unset ∷ []) None
    ≡ well kind.Pid pid (pid_run false (Num (pos 1000000)) (pos 42000) (Some (pos 400000))) (Num (negsuc 1157999) ∷ [])
    []
unfolding clamped floor_div within
a_pid_goes_on = refl

-- chained it goes for its reference, and not for what it was sent
a_chained_pid : ctl_step (active kind.Pid pid (pid_run true (Num (pos 7000000)) (pos 0) None)) (tick 0 0 30000)
    (pos 0 ∷ []) (Num (pos 1000000) ∷ []) None
    ≡ well kind.Pid pid (pid_run true (Num (pos 7000000)) (pos 30000) (Some (pos 1000000))) (Num (pos 2030000) ∷ []) []
unfolding clamped floor_div within
a_chained_pid = refl

-- without a reference it stays as it is
a_pid_without_a_reference : ctl_step (active kind.Pid pid (pid_run true (Num (pos 7000000)) (pos 30000) (Some (pos 5))))
    (tick 0 0 30000) (pos 0 ∷ []) (Unset ∷ []) None
    ≡ well kind.Pid pid (pid_run true (Num (pos 7000000)) (pos 30000) (Some (pos 5))) (Unset ∷ []) []
a_pid_without_a_reference = refl

-- the integral and the output stay within their limits
a_pid_at_its_limits : ctl_step
    (active kind.Pid (Pid (pos 2000000) (pos 1000000) (pos 0) (pos 0) (pos 500000))
    (pid_run false (Num (negsuc 999999)) (pos 0) None)) (tick 0 0 30000) (pos 0 ∷ []) (Unset ∷ []) None
    ≡ well kind.Pid (Pid (pos 2000000) (pos 1000000) (pos 0) (pos 0) (pos 500000))
    (pid_run false (Num (negsuc 999999)) (pos 0) (Some (negsuc 999999))) (Num (negsuc 499999) ∷ []) []
unfolding clamped floor_div within
a_pid_at_its_limits = refl

-- the three products are added exactly, and not one by one within the range
a_pid_adds_exactly : ctl_step
    (active kind.Pid
    (Pid (pos 1000000000000000) (pos 1000000000000000) (negsuc 999999999999999) (pos 1000000000000000)
    (pos 1000000000000000)) (pid_run false (Num (pos 1000000)) (pos 1000000) (Some (pos 0)))) (tick 0 0 1000000)
    (pos 0 ∷ []) (Unset ∷ []) None
    ≡ well kind.Pid
    (Pid (pos 1000000000000000) (pos 1000000000000000) (negsuc 999999999999999) (pos 1000000000000000)
    (pos 1000000000000000)) (pid_run false (Num (pos 1000000)) (pos 2000000) (Some (pos 1000000)))
    (Num (pos 1000000000000000) ∷ []) []
unfolding clamped floor_div within
a_pid_adds_exactly = refl

-- ---- Trajectory

-- one point, 0.1 after 20 milliseconds
abbrev one_point : List Point2
one_point = record { at_us = 20000; values = pos 100000 ∷ [] } ∷ []

-- its running part once it leads from 0.02
abbrev on_its_way : RunData
on_its_way = run.Trajectory (pos 0 ∷ []) false 30000 (pos 20000 ∷ []) one_point

-- the update that takes the points begins where the joint is
a_trajectory_takes_its_points : ctl_step
    (active kind.Trajectory (Trajectory 1) (run.Trajectory (pos 0 ∷ []) false 0 (pos 0 ∷ []) [])) (tick 3 30000 10000)
    (pos 20000 ∷ []) [] (Some (Points one_point))
    ≡ well kind.Trajectory (Trajectory 1) on_its_way (Num (pos 20000) ∷ []) []
unfolding clamped floor_div
a_trajectory_takes_its_points = refl

a_trajectory_on_its_way : ctl_step (active kind.Trajectory (Trajectory 1) on_its_way) (tick 4 40000 10000)
    (pos 21000 ∷ []) [] None
    ≡ well kind.Trajectory (Trajectory 1) on_its_way (Num (pos 60000) ∷ []) []
unfolding clamped floor_div
a_trajectory_on_its_way = refl

a_trajectory_at_its_last_point : ctl_step (active kind.Trajectory (Trajectory 1) on_its_way) (tick 5 50000 10000)
    (pos 21000 ∷ []) [] None
    ≡ well kind.Trajectory (Trajectory 1) on_its_way (Num (pos 100000) ∷ []) []
a_trajectory_at_its_last_point = refl

a_trajectory_stays_at_its_last_point : ctl_step (active kind.Trajectory (Trajectory 1) on_its_way) (tick 6 60000 10000)
    (pos 21000 ∷ []) [] None
    ≡ well kind.Trajectory (Trajectory 1) on_its_way (Num (pos 100000) ∷ []) []
a_trajectory_stays_at_its_last_point = refl

-- without points it holds the states of its activation
a_trajectory_holds : ctl_step (activated (configured (fresh kind.Trajectory) (Trajectory 1)) (pos 5 ∷ []) true)
    (tick 0 0 10000) (pos 21000 ∷ []) [] None
    ≡ well kind.Trajectory (Trajectory 1) (run.Trajectory (pos 5 ∷ []) false 0 (pos 5 ∷ []) []) (Num (pos 5) ∷ []) []
a_trajectory_holds = refl

-- between two points it is on the line from the one to the next, rounded down
a_trajectory_between_two_points : ctl_step
    (active kind.Trajectory (Trajectory 1)
    (run.Trajectory (pos 0 ∷ []) false 0 (pos 0 ∷ [])
    (record { at_us = 10; values = pos 0 ∷ [] } ∷ record { at_us = 13; values = negsuc 0 ∷ [] } ∷ [])))
    (tick 0 11 10000) (pos 0 ∷ []) [] None
    ≡ well kind.Trajectory (Trajectory 1)
    (run.Trajectory (pos 0 ∷ []) false 0 (pos 0 ∷ [])
    (record { at_us = 10; values = pos 0 ∷ [] } ∷ record { at_us = 13; values = negsuc 0 ∷ [] } ∷ []))
    (Num (negsuc 0) ∷ []) []
unfolding clamped floor_div
a_trajectory_between_two_points = refl

-- ---- Broadcaster

-- it gives no output and publishes what it reads
a_broadcaster_publishes : ctl_step
    (activated (configured (fresh kind.Broadcaster) (Broadcaster 2)) (pos 1 ∷ pos 2 ∷ []) false) (tick 0 0 10000)
    (pos 3 ∷ negsuc 3 ∷ []) [] None
    ≡ well kind.Broadcaster (Broadcaster 2) (run.Broadcaster (pos 3 ∷ negsuc 3 ∷ [])) [] (pos 3 ∷ negsuc 3 ∷ [])
a_broadcaster_publishes = refl

-- ---- Mock

-- it is not ready in cycle 4, and fails in cycle 2
abbrev mock : Params
mock = Mock 1 false (4 ∷ []) (2 ∷ [])

a_mock_gives_its_mail : ctl_step (activated (configured (fresh kind.Mock) mock) (pos 1 ∷ []) true) (tick 1 0 10000)
    (pos 3 ∷ pos 4 ∷ []) [] (Some (Values (pos 9 ∷ [])))
    ≡ well kind.Mock mock (run.Set false (Num (pos 9) ∷ [])) (Num (pos 9) ∷ []) []
a_mock_gives_its_mail = refl

-- after an error what runs is as the mail left it, and the claims hold what they held
a_mock_fails : ctl_step (active kind.Mock mock (run.Set false (Num (pos 9) ∷ []))) (tick 2 0 10000) [] []
    (Some (Values (pos 8 ∷ [])))
    ≡ record {
      after = active kind.Mock mock (run.Set false (Num (pos 8) ∷ []));
      outs = [];
      published = [];
      done =
          done.Error;
    }
a_mock_fails = refl

a_failed_update_puts_nothing_out : put_out
    (ctl_step (active kind.Mock mock (run.Set false (Num (pos 9) ∷ []))) (tick 2 0 10000) [] [] None) (Num (pos 5) ∷ [])
    ≡ Num (pos 5) ∷ []
a_failed_update_puts_nothing_out = refl

a_mock_is_not_ready : is_ready_in mock 4 ≡ false
a_mock_is_not_ready = refl

a_mock_is_ready : is_ready_in mock 5 ≡ true
a_mock_is_ready = refl

-- ---- Transmission: three turns of the actuator for one of the joint, which stands at 0.1 if the actuator is at 0

abbrev geared : Params
geared = Transmission Position (pos 3000000) (pos 100000)

-- unchained it goes by what it was sent
a_transmission : ctl_step (activated (configured (fresh kind.Transmission) geared) [] false) (tick 0 0 10000) []
    (Num (pos 7) ∷ []) (Some (Values (pos 500000 ∷ [])))
    ≡ well kind.Transmission geared (run.Set false (Num (pos 500000) ∷ [])) (Num (pos 1200000) ∷ []) []
unfolding clamped floor_div
a_transmission = refl

-- chained it goes by its reference, and tells nothing where that is unset
a_chained_transmission : ctl_step (active kind.Transmission geared (run.Set true (Unset ∷ []))) (tick 0 0 10000) []
    (Num (negsuc 899999) ∷ []) None
    ≡ well kind.Transmission geared (run.Set true (Unset ∷ [])) (Num (negsuc 2999999) ∷ []) []
unfolding clamped floor_div
a_chained_transmission = refl

a_transmission_without_a_reference : ctl_step (active kind.Transmission geared (run.Set true (Num (pos 5) ∷ [])))
    (tick 0 0 10000) [] (Unset ∷ []) None
    ≡ well kind.Transmission geared (run.Set true (Num (pos 5) ∷ [])) (Unset ∷ []) []
a_transmission_without_a_reference = refl

-- the reduction divides an effort
a_transmission_of_efforts : ctl_step
    (active kind.Transmission (Transmission Effort (pos 3000000) (pos 100000)) (run.Set true (Unset ∷ [])))
    (tick 0 0 10000) [] (Num (pos 500000) ∷ []) None
    ≡ well kind.Transmission (Transmission Effort (pos 3000000) (pos 100000)) (run.Set true (Unset ∷ []))
    (Num (pos 166666) ∷ []) []
unfolding clamped floor_div
a_transmission_of_efforts = refl

-- ---- Differential: twice the sum, and twice the difference

abbrev wrist : Params
wrist = Differential Position (pos 2000000) (pos 2000000) (pos 0) (pos 0)

a_differential : ctl_step (activated (configured (fresh kind.Differential) wrist) [] true) (tick 0 0 10000) []
    (Num (pos 300000) ∷ Num (pos 100000) ∷ []) None
    ≡ well kind.Differential wrist (run.Set true (Unset ∷ Unset ∷ [])) (Num (pos 800000) ∷ Num (pos 400000) ∷ []) []
unfolding clamped floor_div
a_differential = refl

-- where one of the two is unset, so are both outputs
a_differential_of_one : ctl_step (active kind.Differential wrist (run.Set true (Unset ∷ Unset ∷ []))) (tick 0 0 10000)
    [] (Num (pos 300000) ∷ Unset ∷ []) None
    ≡ well kind.Differential wrist (run.Set true (Unset ∷ Unset ∷ [])) (Unset ∷ Unset ∷ []) []
a_differential_of_one = refl

-- ---- Limiter: a hundred times a second a step of ten micro-units at most, and from step to step one more or less

abbrev led : Params
led = Limiter (negsuc 999) (pos 1000) (pos 1000) (pos 10000)

-- the running part at a place, after a step
abbrev led_run : Value → ℤ → ℤ → RunData
led_run set at step = run.Limiter false set at step

-- what so many updates give, one after the other
abbrev outs_of : ℕ → CtlData → List (List Value)
outs_of zero ctl = []
outs_of (suc n) ctl =
    let step = ctl_step ctl (tick 0 0 10000) (pos 0 ∷ []) (Unset ∷ []) None in step.outs ∷ outs_of n step.after

-- it begins where its state is, brought between its ends, without a step
a_limiter_begins : started led (pos 4 ∷ []) true ≡ run.Limiter true Unset (pos 4) (pos 0)
a_limiter_begins = refl

a_limiter_begins_at_its_end : started led (pos 5000 ∷ []) false ≡ led_run Unset (pos 1000) (pos 0)
a_limiter_begins_at_its_end = refl

-- its first step
a_limiter_sets_out : ctl_step (activated (configured (fresh kind.Limiter) led) (pos 0 ∷ []) false) (tick 0 0 10000)
    (pos 0 ∷ []) (Unset ∷ []) (Some (Values (pos 6 ∷ [])))
    ≡ well kind.Limiter led (led_run (Num (pos 6)) (pos 1) (pos 1)) (Num (pos 1) ∷ []) []
unfolding new_step nearest_from floor_div
a_limiter_sets_out = refl

-- it passes what is wanted, and comes back
a_limiter_passes_what_is_wanted : outs_of 7 (active kind.Limiter led (led_run (Num (pos 6)) (pos 0) (pos 0)))
    ≡ (Num (pos 1) ∷ []) ∷ (Num (pos 3) ∷ []) ∷ (Num (pos 6) ∷ []) ∷ (Num (pos 8) ∷ []) ∷ (Num (pos 9) ∷ [])
    ∷ (Num (pos 9) ∷ []) ∷ (Num (pos 8) ∷ []) ∷ []
unfolding new_step nearest_from floor_div
a_limiter_passes_what_is_wanted = refl

-- it stops at its end
a_limiter_stops_at_its_end : outs_of 5
    (active kind.Limiter (Limiter (negsuc 999) (pos 6) (pos 1000) (pos 10000))
    (led_run (Num (pos 1000)) (pos 0) (pos 0)))
    ≡ (Num (pos 1) ∷ []) ∷ (Num (pos 3) ∷ []) ∷ (Num (pos 5) ∷ []) ∷ (Num (pos 6) ∷ []) ∷ (Num (pos 6) ∷ []) ∷ []
unfolding new_step nearest_from floor_div
a_limiter_stops_at_its_end = refl

-- where nothing is wanted it slows down and stands
a_limiter_slows_down : outs_of 4 (active kind.Limiter led (led_run Unset (pos 6) (pos 3)))
    ≡ (Num (pos 8) ∷ []) ∷ (Num (pos 9) ∷ []) ∷ (Num (pos 9) ∷ []) ∷ (Num (pos 9) ∷ []) ∷ []
unfolding new_step nearest_from floor_div
a_limiter_slows_down = refl

-- an acceleration that comes to nothing in the time of an update lets it stand
a_limiter_that_stands : outs_of 2
    (active kind.Limiter (Limiter (negsuc 999) (pos 1000) (pos 1000) (pos 9999))
    (led_run (Num (pos 6)) (pos 0) (pos 0)))
    ≡ (Num (pos 0) ∷ []) ∷ (Num (pos 0) ∷ []) ∷ []
unfolding new_step nearest_from floor_div
a_limiter_that_stands = refl

-- ---- Mail

a_list_of_the_right_length : takes (Forward 2) (Values (pos 1 ∷ pos 2 ∷ [])) ≡ true
a_list_of_the_right_length = refl

a_list_that_is_too_short : takes (Passthrough 2) (Values (pos 1 ∷ [])) ≡ false
a_list_that_is_too_short = refl

points_for_a_pid : takes pid (Points one_point) ≡ false
points_for_a_pid = refl

a_list_for_a_trajectory : takes (Trajectory 1) (Values (pos 1 ∷ [])) ≡ false
a_list_for_a_trajectory = refl

points_of_the_right_length : takes (Trajectory 1) (Points one_point) ≡ true
points_of_the_right_length = refl

points_that_are_too_short : takes (Trajectory 2) (Points one_point) ≡ false
points_that_are_too_short = refl

one_value_for_a_differential : takes wrist (Values (pos 1 ∷ [])) ≡ false
one_value_for_a_differential = refl

points_for_a_limiter : takes led (Points one_point) ≡ false
points_for_a_limiter = refl

a_broadcaster_takes_none : takes_none (Broadcaster 2) ≡ true
a_broadcaster_takes_none = refl

a_mock_without_claims_takes_none : takes_none (Mock 0 false [] []) ≡ true
a_mock_without_claims_takes_none = refl

-- ---- Lifecycle

a_cleanup_keeps_the_kind_alone : cleaned_up (deactivated (active kind.Mock mock (run.Set false (Num (pos 9) ∷ []))))
    ≡ fresh kind.Mock
a_cleanup_keeps_the_kind_alone = refl

an_activation_keeps_no_mail : activated
    (deactivated (active kind.Forward (Forward 1) (run.Set false (Num (pos 9) ∷ [])))) [] false
    ≡ active kind.Forward (Forward 1) (run.Set false (Unset ∷ []))
an_activation_keeps_no_mail = refl

-- ---- Ranges

a_limit_below_zero : are_ranged (Pid (pos 0) (pos 0) (pos 0) (negsuc 0) (pos 0)) ≡ false
a_limit_below_zero = refl

a_forward_of_33_claims : are_ranged (Forward 33) ≡ false
a_forward_of_33_claims = refl

a_reduction_of_nothing : are_ranged (Transmission Velocity (pos 0) (pos 0)) ≡ false
a_reduction_of_nothing = refl

a_differential_of_efforts : are_ranged (Differential Effort (pos 1) (pos 1) (pos 0) (pos 0)) ≡ false
a_differential_of_efforts = refl

a_differential_of_velocities : are_ranged (Differential Velocity (pos 1) (pos 1) (pos 0) (pos 0)) ≡ true
a_differential_of_velocities = refl

a_limiter_upside_down : are_ranged (Limiter (pos 1) (pos 0) (pos 0) (pos 0)) ≡ false
a_limiter_upside_down = refl

a_mock_without_claims : are_ranged (Mock 0 true [] []) ≡ true
a_mock_without_claims = refl
