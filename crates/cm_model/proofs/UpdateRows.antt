-- Worked rows of cycles in which controllers run, computed from the definitions alone: the records written down here
-- are by hand.
use Rattle.std.proofs.Common.{◌≡◌, ℕ, zero, suc, true, false, List, [], ◌∷◌, ◌++◌, map, pos, Some, None, refl}
use Rattle.std.specs.Prelude.{◌==◌, if◌then◌else◌, codes}
use Rattle.std.specs.Fmt.{digits}
use Rattle.fixed_num.specs.Arithmetic.{within, floor_div}
use Rattle.fixed_num.specs.Bodies.{stepped}
use Rattle.fixed_num.specs.Micro.{clamped}
use Rattle.fixed_num.specs.Text.{spelled}
use Rattle.iface_names.specs.declared.interface.IfaceName.{IfaceName}
use Rattle.iface_names.specs.declared.interface.IfaceName.TheVariants.{Joint, Reference}
use Rattle.iface_names.specs.declared.kind.Kind.TheVariants.{Position, Velocity}
use Rattle.cm_document.specs.Described.{a_controller, a_description, a_joint, a_component}
use Rattle.cm_document.specs.Params.{kind_of}
use Rattle.cm_document.specs.declared.call.Mail.{Mail}
use Rattle.cm_document.specs.declared.call.Mail.TheVariants.{Values, Points}
use Rattle.cm_document.specs.declared.description.CompDesc.{CompDesc}
use Rattle.cm_document.specs.declared.description.CompKind.TheVariants.{System}
use Rattle.cm_document.specs.declared.description.CtlDesc.{CtlDesc}
use Rattle.cm_document.specs.declared.description.Description.{Description}
use Rattle.cm_document.specs.declared.description.Params.TheVariants.{Forward, Passthrough, Pid}
use Rattle.cm_document.specs.declared.description.Params.TheVariants.{Trajectory, Broadcaster, Mock}
use Rattle.cm_document.specs.declared.life.Life.TheVariants.{Active, Unconfigured}
use Rattle.cm_model.specs.Blanks.{no_blanks}
use Rattle.cm_model.specs.Commit.{commit}
use Rattle.cm_model.specs.Cycle.{cycle, after_cycle, begun, reaches}
use Rattle.cm_model.specs.Items.{Names, record_items}
use Rattle.cm_model.specs.Order.{divisor, rank_within}
use Rattle.cm_model.specs.State.{State, Loaded, boot, controller_lines, interface_lines, component_lines}
use Rattle.cm_model.specs.Items.{controller_text, component_text, iface_text}
use Rattle.cm_model.specs.Trace.{joined, names_in}
use Rattle.cm_model.specs.declared.blanks.Blanks.{Blanks}

-- ---- Descriptions

abbrev j1_position : IfaceName
j1_position = Joint (codes "j1") Position

abbrev j1_velocity : IfaceName
j1_velocity = Joint (codes "j1") Velocity

abbrev pid_reference : IfaceName
pid_reference = Reference (codes "pid") (codes "j1") Position

-- a system of one joint that is driven by position or velocity, of which reads and writes fail in these cycles
abbrev arm : List ℕ → List ℕ → CompDesc
arm fail_read fail_write = a_component (codes "arm") System Active Unconfigured fail_read fail_write
    (a_joint (codes "j1") (pos 1000000) (pos 1000000) (pos 0) (pos 0) (pos 0) (Position ∷ Velocity ∷ [])
    (Position ∷ Velocity ∷ []) ∷ [])

abbrev fwd : CtlDesc
fwd = a_controller (codes "fwd") 0 (j1_position ∷ []) [] (Forward 1)

abbrev pid : CtlDesc
pid = a_controller (codes "pid") 0 (j1_velocity ∷ []) (j1_position ∷ [])
    (Pid (pos 2000000) (pos 0) (pos 0) (pos 0) (pos 10000000))

abbrev traj : CtlDesc
traj = a_controller (codes "traj") 0 (pid_reference ∷ []) (j1_position ∷ []) (Trajectory 1)

abbrev pt : CtlDesc
pt = a_controller (codes "pt") 0 (pid_reference ∷ []) [] (Passthrough 1)

abbrev jsb : CtlDesc
jsb = a_controller (codes "jsb") 0 [] (j1_position ∷ j1_velocity ∷ []) (Broadcaster 2)

-- a mock over the pid, whose update fails in cycle 1
abbrev over : CtlDesc
over = a_controller (codes "over") 0 (pid_reference ∷ []) [] (Mock 1 false [] (1 ∷ []))

-- a mock without interfaces, whose update fails in cycle 1
abbrev mk : CtlDesc
mk = a_controller (codes "mk") 0 [] [] (Mock 0 false [] (1 ∷ []))

-- a robot of this component and these controllers, at 100 hertz
abbrev robot : CompDesc → List CtlDesc → Description
robot component controllers = a_description 1 100 7 (component ∷ []) controllers

-- ---- States

abbrev nothing : Blanks
nothing = no_blanks

-- controllers that are configured, the first of which stands at this place and has it as its serial
abbrev configured_from : ℕ → List CtlDesc → List Loaded
configured_from place [] = []
configured_from place (c ∷ cs) = record {
  serial = place;
  place = place;
  rate = c.rate;
  divisor = Some (divisor 100 c.rate);
  ctl = record { kind = kind_of c.params; params = Some c.params; run = None };
  mail = None;
} ∷ configured_from (suc place) cs

-- the robot after so many cycles in which no controller was active, with all controllers loaded as described and active
abbrev at_work : ℕ → Description → State
at_work ended d =
    let s = boot d nothing 1 in
    commit (record s { loaded = configured_from 0 d.controllers; ended = ended }) (λ p. true) (λ p. false)

-- this mail waits for the controller of this serial
abbrev posted : ℕ → Mail → Loaded → Loaded
posted serial mail l = if l.serial == serial then record l { mail = Some mail } else l

abbrev with_mail : ℕ → Mail → State → State
with_mail serial mail s = record s { loaded = map (posted serial mail) s.loaded }

-- after the cycle to come
abbrev next : State → State
next s = let aloft = begun s in after_cycle aloft (cycle aloft)

-- the record of the cycle to come
abbrev told : Names → State → List ℕ
told names s = joined (record_items names (cycle (begun s)).happened)

-- the records of so many cycles to come
abbrev records : ℕ → Names → State → List (List ℕ)
records zero names s = []
records (suc n) names s = told names s ∷ records n names (next s)

-- the names in a trace, where the controllers were loaded as described
abbrev names : Description → Names
names d = record (names_in d []) { controllers = map (λ c. c.name) d.controllers }

-- the three lists
abbrev lists : Description → State → List (List ℕ)
lists d s =
    joined (map controller_text (controller_lines s))
    ∷ joined (map (component_text (names d)) (component_lines s))
    ∷ joined (map (iface_text (names d)) (interface_lines s))
    ∷ []

-- ---- One controller

abbrev alone : Description
alone = robot (arm [] []) (fwd ∷ [])

-- it gives what it was sent, from the cycle that took its mail; the joint follows with its highest velocity
a_forward_is_sent_a_value : (told (names alone) (at_work 0 alone)
    ∷ records 2 (names alone) (with_mail 0 (Values (pos 500000 ∷ [])) (next (at_work 0 alone))))
    ≡ codes "run fwd ok unset; joint j1 0.000000 0.000000 0.000000"
    ∷ codes "run fwd ok 0.500000; joint j1 0.010000 1.000000 0.000000"
    ∷ codes "run fwd ok 0.500000; joint j1 0.020000 1.000000 0.000000"
    ∷ []
unfolding digits spelled stepped within clamped floor_div cycle after_cycle commit reaches rank_within
a_forward_is_sent_a_value = refl

-- what it gave out stands in its claim, and nothing else stopped or changed
the_claim_holds_the_output : lists alone (next (with_mail 0 (Values (pos 500000 ∷ [])) (at_work 0 alone)))
    ≡ codes "fwd forward active 0 every 1"
    ∷ codes "arm system active"
    ∷ codes "state j1/position 0.000000; state j1/velocity 0.000000; command j1/position 0.500000 fwd; command j1/velocity unset free"
    ∷ []
unfolding digits spelled stepped within clamped floor_div cycle after_cycle commit reaches rank_within
the_claim_holds_the_output = refl

-- at 33 hertz it is updated in every third cycle, and takes its mail there; the joint is driven in between too
abbrev slow : Description
slow = robot (arm [] []) (record fwd { rate = 33 } ∷ [])

an_update_in_every_third_cycle : records 7 (names slow) (with_mail 0 (Values (pos 500000 ∷ [])) (next (at_work 0 slow)))
    ≡ codes "joint j1 0.000000 0.000000 0.000000"
    ∷ codes "joint j1 0.000000 0.000000 0.000000"
    ∷ codes "run fwd ok 0.500000; joint j1 0.010000 1.000000 0.000000"
    ∷ codes "joint j1 0.020000 1.000000 0.000000"
    ∷ codes "joint j1 0.030000 1.000000 0.000000"
    ∷ codes "run fwd ok 0.500000; joint j1 0.040000 1.000000 0.000000"
    ∷ codes "joint j1 0.050000 1.000000 0.000000"
    ∷ []
unfolding digits spelled stepped within clamped floor_div cycle after_cycle commit reaches rank_within
an_update_in_every_third_cycle = refl

-- a broadcaster publishes the states read
a_broadcaster_publishes : told (names (robot (arm [] []) (jsb ∷ []))) (at_work 0 (robot (arm [] []) (jsb ∷ [])))
    ≡ codes "run jsb ok 0.000000 0.000000; joint j1 0.000000 0.000000 0.000000"
unfolding digits spelled stepped within clamped floor_div cycle after_cycle commit reaches rank_within
a_broadcaster_publishes = refl

-- ---- A chain

-- A trajectory over a pid that was loaded before it: it is updated first, and the pid takes what it gave out in the
-- same cycle.
abbrev chain : Description
chain = robot (arm [] []) (pid ∷ traj ∷ [])

the_follower_runs_last : (told (names chain) (at_work 1 chain)
    ∷ records 4 (names chain)
    (with_mail 1 (Points (record { at_us = 20000; values = pos 100000 ∷ [] } ∷ [])) (next (at_work 1 chain))))
    ≡ codes "run traj ok 0.000000; run pid ok 0.000000; joint j1 0.000000 0.000000 0.000000"
    ∷ codes "run traj ok 0.000000; run pid ok 0.000000; joint j1 0.000000 0.000000 0.000000"
    ∷ codes "run traj ok 0.050000; run pid ok 0.100000; joint j1 0.001000 0.100000 0.000000"
    ∷ codes "run traj ok 0.100000; run pid ok 0.198000; joint j1 0.002980 0.198000 0.000000"
    ∷ codes "run traj ok 0.100000; run pid ok 0.194040; joint j1 0.004920 0.194040 0.000000"
    ∷ []
unfolding digits spelled stepped within clamped floor_div cycle after_cycle commit reaches rank_within
the_follower_runs_last = refl

-- ---- Failures

-- The read of the component fails in cycle 4: the pid, which reads it, is held off; what commands the pid runs; both
-- are stopped.
abbrev unread : Description
unread = robot (arm (4 ∷ []) []) (pid ∷ pt ∷ [])

a_failed_read_stops_a_chain : (told (names unread) (at_work 4 unread)
    ∷ (lists unread (next (at_work 4 unread)) ++ records 1 (names unread) (next (at_work 4 unread))))
    ≡ codes "fail arm read; run pt ok unset; joint j1 0.000000 0.000000 0.000000; stop pt; stop pid"
    ∷ codes "pid pid inactive 0 every 1; pt passthrough inactive 1 every 1"
    ∷ codes "arm system unconfigured"
    ∷ codes "state j1/position unavailable; state j1/velocity unavailable; command j1/position unavailable; command j1/velocity unavailable; command pid/j1/position unavailable; command pt/j1/position unavailable"
    ∷ codes "joint j1 0.000000 0.000000 0.000000"
    ∷ []
unfolding digits spelled stepped within clamped floor_div cycle after_cycle commit reaches rank_within
a_failed_read_stops_a_chain = refl

-- Its write fails in cycle 2: the controller has run, the joint is not commanded, and the controller is stopped.
abbrev unwritten : Description
unwritten = robot (arm [] (2 ∷ [])) (fwd ∷ [])

a_failed_write_stops_who_claims : records 4 (names unwritten)
    (with_mail 0 (Values (pos 500000 ∷ [])) (at_work 0 unwritten))
    ≡ codes "run fwd ok 0.500000; joint j1 0.010000 1.000000 0.000000"
    ∷ codes "run fwd ok 0.500000; joint j1 0.020000 1.000000 0.000000"
    ∷ codes "fail arm write; run fwd ok 0.500000; joint j1 0.020000 0.000000 0.000000; stop fwd"
    ∷ codes "joint j1 0.020000 0.000000 0.000000"
    ∷ []
unfolding digits spelled stepped within clamped floor_div cycle after_cycle commit reaches rank_within
a_failed_write_stops_who_claims = refl

-- Two updates fail in cycle 1, and both controllers are stopped. One of them commanded the pid, which runs once more by
-- the reference as it stood, and restarts unchained; the reference and what the other claimed are Unset again.
abbrev erring : Description
erring = robot (arm [] []) (pid ∷ over ∷ mk ∷ [])

failed_updates_stop_two :
    (records 3 (names erring) (with_mail 1 (Values (pos 100000 ∷ [])) (at_work 0 erring))
    ++ lists erring (next (next (with_mail 1 (Values (pos 100000 ∷ [])) (at_work 0 erring)))))
    ≡ codes "run over ok 0.100000; run mk ok; run pid ok 0.200000; joint j1 0.002000 0.200000 0.000000"
    ∷ codes "run over error; run mk error; run pid ok 0.196000; joint j1 0.003960 0.196000 0.000000; stop over; stop mk"
    ∷ codes "run pid ok unset; joint j1 0.003960 0.000000 0.000000"
    ∷ codes "pid pid active 0 every 1; over mock inactive 1 every 1; mk mock inactive 2 every 1"
    ∷ codes "arm system active"
    ∷ codes "state j1/position 0.002000; state j1/velocity 0.200000; command j1/position unset free; command j1/velocity unset pid; command pid/j1/position unset free"
    ∷ []
unfolding digits spelled stepped within clamped floor_div cycle after_cycle commit reaches rank_within
failed_updates_stop_two = refl
