-- Worked rows of the console's calls, computed from the definitions alone: the replies written down here are by hand.
use Rattle.std.proofs.Common.{◌≡◌, ℕ, Bool, true, false, List, [], ◌∷◌, ◌++◌, map, pos, Some, None, refl}
use Rattle.std.specs.Prelude.{codes, decimal, flat_map}
use Rattle.std.specs.Fmt.{digits}
use Rattle.std.specs.List.{range_with_len}
use Rattle.fixed_num.specs.Text.{spelled}
use Rattle.fixed_num.specs.declared.value.Value.TheVariants.{Unset}
use Rattle.iface_names.specs.declared.interface.IfaceName.{IfaceName}
use Rattle.iface_names.specs.declared.interface.IfaceName.TheVariants.{Joint, Reference}
use Rattle.iface_names.specs.declared.kind.Kind.TheVariants.{Position, Velocity}
use Rattle.cm_document.specs.Described.{a_controller, a_description}
use Rattle.cm_document.specs.declared.call.Call.{Call}
use Rattle.cm_document.specs.declared.call.Call.TheVariants.{Load, Configure, Cleanup, Unload}
use Rattle.cm_document.specs.declared.call.Call.TheVariants.{Rate, Send, ListControllers}
use Rattle.cm_document.specs.declared.call.Mail.{Mail}
use Rattle.cm_document.specs.declared.call.Mail.TheVariants.{Values, Points}
use Rattle.cm_document.specs.declared.description.CtlDesc.{CtlDesc}
use Rattle.cm_document.specs.declared.description.CtlKind.{CtlKind}
use Rattle.cm_document.specs.declared.description.CtlKind.TheVariants as kind
use Rattle.cm_document.specs.declared.description.Description.{Description}
use Rattle.cm_document.specs.declared.document.Document.{Document}
use Rattle.cm_document.specs.declared.description.Params.{Params}
use Rattle.cm_document.specs.declared.description.Params.TheVariants.{Forward, Pid, Trajectory, Broadcaster, Mock}
use Rattle.cm_model.specs.Blanks.{blanks_of_each, with_count, with_one_less, with_one_more}
use Rattle.cm_model.specs.Boundary.{all_concluded}
use Rattle.cm_model.specs.Console.{unload_reply, moves_out}
use Rattle.cm_model.specs.Cycle.{cycle, after_cycle}
use Rattle.cm_model.specs.Machine.{step}
use Rattle.cm_model.specs.Scheduled.{advance, settle, settle_all, looped, with_cycle, finish, start, scheduled}
use Rattle.cm_model.specs.State.{State, Loaded, boot, fresh}
use Rattle.cm_model.specs.Trace.{reply_text, names_in, output}
use Rattle.cm_model.specs.declared.blanks.Blanks.{Blanks}
use Rattle.cm_model.specs.declared.data.CtlData.{CtlData}
use Rattle.cm_model.specs.declared.data.RunData.{RunData}
use Rattle.cm_model.specs.declared.data.RunData.TheVariants as run
use Rattle.cm_model.specs.declared.reply.Reply.{Reply}
use Rattle.cm_model.specs.declared.reply.Reply.TheVariants as reply

-- ---- The description

abbrev j1_position : IfaceName
j1_position = Joint (codes "j1") Position

abbrev j1_velocity : IfaceName
j1_velocity = Joint (codes "j1") Velocity

abbrev pid_reference : IfaceName
pid_reference = Reference (codes "pid") (codes "j1") Position

abbrev gains : Params
gains = Pid (pos 2000000) (pos 0) (pos 0) (pos 0) (pos 10000000)

-- a forward, a pid, a trajectory above it, a broadcaster, a mock that refuses, and one that does not
abbrev controllers : List CtlDesc
controllers =
    a_controller (codes "fwd") 0 (j1_position ∷ []) [] (Forward 1)
    ∷ a_controller (codes "pid") 0 (j1_velocity ∷ []) (j1_position ∷ []) gains
    ∷ a_controller (codes "traj") 33 (pid_reference ∷ []) (j1_position ∷ []) (Trajectory 1)
    ∷ a_controller (codes "jsb") 0 [] (j1_position ∷ j1_velocity ∷ []) (Broadcaster 2)
    ∷ a_controller (codes "mk") 0 [] [] (Mock 0 true [] [])
    ∷ a_controller (codes "mk2") 0 [] [] (Mock 0 false [] [])
    ∷ []

abbrev robot : Description
robot = a_description 1 100 0 [] controllers

-- two forwards, and one of each other kind that is described
abbrev stock : Blanks
stock = with_one_less (with_one_more (blanks_of_each 1) kind.Forward) kind.Passthrough

-- ---- Calls

-- how a reply prints
abbrev text : Reply → List ℕ
text r = reply_text (names_in robot []) r

-- the state after a session's call, with the text of its reply; without a step there is none
abbrev answered : State → Call → State × List ℕ
answered s call = elim (step s 0 call) [ None ↦ (s, []) | Some reached ↦ (reached.0, text reached.1) ]

-- the replies to calls, one after the other
abbrev replies : State → List Call → List (List ℕ)
replies s [] = []
replies s (call ∷ calls) = (answered s call).1 ∷ replies (answered s call).0 calls

-- the state after calls, one after the other
abbrev after : State → List Call → State
after s [] = s
after s (call ∷ calls) = after (answered s call).0 calls

-- mail of one value, and of two
abbrev one : Mail
one = Values (pos 500000 ∷ [])

abbrev two : Mail
two = Values (pos 1 ∷ pos 2 ∷ [])

-- the replies to the five calls on one controller, each in this same state: configure, cleanup, unload, rate, send
abbrev each : State → List ℕ → List (List ℕ)
each s name =
    map (λ call. (answered s call).1) (Configure name ∷ Cleanup name ∷ Unload name ∷ Rate name 25 ∷ Send name one ∷ [])

-- ---- A session

-- a controller is loaded, configured, given a rate, configured again, cleaned up and unloaded
a_session : replies (boot robot stock 1) (
    Load (codes "fwd") ∷ Configure (codes "fwd") ∷ Rate (codes "fwd") 25 ∷ Configure (codes "fwd") ∷ ListControllers
    ∷ Cleanup (codes "fwd") ∷ ListControllers ∷ Send (codes "fwd") (Values (pos 1000000 ∷ [])) ∷ Unload (codes "fwd")
    ∷ Unload (codes "fwd") ∷ [])
    ≡ codes "ok 0" ∷ codes "ok" ∷ codes "ok" ∷ codes "ok" ∷ codes "fwd forward inactive 0 every 4"
    ∷ codes "ok" ∷ codes "fwd forward unconfigured 0" ∷ codes "not_active" ∷ codes "ok" ∷ codes "not_loaded" ∷ []
unfolding digits step
a_session = refl

-- a document of one session with these lines
abbrev document : List Call → Document
document lines =
    record {
      description = robot;
      script =
          record { sessions = record { name = codes "a"; lines = lines } ∷ []; schedule = [] };
    }

-- what is printed of its run
abbrev printed : List Call → List ℕ
printed lines = output (document lines) (scheduled (document lines) stock)

-- the same session as a run
a_run : printed (
    Load (codes "fwd") ∷ Configure (codes "fwd") ∷ Rate (codes "fwd") 25 ∷ Configure (codes "fwd") ∷ ListControllers
    ∷ Cleanup (codes "fwd") ∷ ListControllers ∷ Send (codes "fwd") (Values (pos 1000000 ∷ [])) ∷ Unload (codes "fwd")
    ∷ Unload (codes "fwd") ∷ [])
    ≡ codes "a load fwd: ok 0\na configure fwd: ok\na rate fwd 25: ok\na configure fwd: ok\na list controllers: fwd forward inactive 0 every 4\na cleanup fwd: ok\na list controllers: fwd forward unconfigured 0\na send fwd 1.000000: not_active\na unload fwd: ok\na unload fwd: not_loaded\nloop close: none\n"
unfolding digits spelled step cycle after_cycle advance settle settle_all looped with_cycle finish start scheduled
    output all_concluded
a_run = refl

-- the rate counts from the next configure on, and outlives a cleanup
a_rate_counts_later : replies (boot robot stock 1) (
    Load (codes "fwd") ∷ Configure (codes "fwd") ∷ Rate (codes "fwd") 30 ∷ ListControllers ∷ Configure (codes "fwd")
    ∷ ListControllers
    ∷ Cleanup (codes "fwd") ∷ Configure (codes "fwd") ∷ ListControllers ∷ [])
    ≡ codes "ok 0" ∷ codes "ok" ∷ codes "ok" ∷ codes "fwd forward inactive 0 every 1" ∷ codes "ok"
    ∷ codes "fwd forward inactive 0 every 3"
    ∷ codes "ok" ∷ codes "ok" ∷ codes "fwd forward inactive 0 every 3" ∷ []
unfolding digits step
a_rate_counts_later = refl

-- A described rate counts at the first configure. A rate of 0, and one of at least the manager's, is every cycle.
rates_of_all_sorts : replies (boot robot stock 1) (
    Load (codes "traj") ∷ Configure (codes "traj") ∷ ListControllers ∷ Rate (codes "traj") 0 ∷ Configure (codes "traj")
    ∷ ListControllers
    ∷ Rate (codes "traj") 1000 ∷ Configure (codes "traj") ∷ ListControllers ∷ Rate (codes "traj") 1
    ∷ Configure (codes "traj") ∷ ListControllers ∷ [])
    ≡ codes "ok 0" ∷ codes "ok" ∷ codes "traj trajectory inactive 0 every 3" ∷ codes "ok" ∷ codes "ok"
    ∷ codes "traj trajectory inactive 0 every 1"
    ∷ codes "ok" ∷ codes "ok" ∷ codes "traj trajectory inactive 0 every 1" ∷ codes "ok" ∷ codes "ok"
    ∷ codes "traj trajectory inactive 0 every 100" ∷ []
unfolding digits step
rates_of_all_sorts = refl

-- Controllers are loaded in another order than described. The one in the middle moves out; the others stay as they are,
-- and the next load gets a serial that was never used.
one_of_three_moves_out : replies (boot robot stock 1) (
    Load (codes "jsb") ∷ Load (codes "fwd") ∷ Load (codes "pid") ∷ Configure (codes "pid") ∷ Unload (codes "fwd")
    ∷ ListControllers
    ∷ Load (codes "fwd") ∷ ListControllers ∷ [])
    ≡ codes "ok 0" ∷ codes "ok 1" ∷ codes "ok 2" ∷ codes "ok" ∷ codes "ok"
    ∷ codes "jsb broadcaster unconfigured 0; pid pid inactive 2 every 1"
    ∷ codes "ok 3" ∷ codes "jsb broadcaster unconfigured 0; pid pid inactive 2 every 1; fwd forward unconfigured 3" ∷ []
unfolding digits step
one_of_three_moves_out = refl

-- ---- The stock

-- a controller that was unloaded brings no blank back
a_blank_serves_once : replies (boot robot stock 1)
    (Load (codes "fwd") ∷ Unload (codes "fwd") ∷ Load (codes "fwd") ∷ Unload (codes "fwd") ∷ Load (codes "fwd") ∷ [])
    ≡ codes "ok 0" ∷ codes "ok" ∷ codes "ok 1" ∷ codes "ok" ∷ codes "stock_empty" ∷ []
unfolding digits step
a_blank_serves_once = refl

-- so 32 blanks serve 32 loads
blanks_serve_as_often : replies (boot robot (with_count stock kind.Forward 32) 1)
    (flat_map (λ n. Load (codes "fwd") ∷ Unload (codes "fwd") ∷ []) (range_with_len 0 32) ++ Load (codes "fwd") ∷ [])
    ≡ flat_map (λ n. (codes "ok " ++ decimal n) ∷ codes "ok" ∷ []) (range_with_len 0 32) ++ codes "stock_empty" ∷ []
unfolding digits step
blanks_serve_as_often = refl

-- A load asks first whether the controller is described, then whether it is loaded, then for a blank.
what_refuses_a_load : replies (boot robot stock 1)
    (Load (codes "nosuch") ∷ Load (codes "mk") ∷ Load (codes "mk") ∷ Load (codes "mk2") ∷ Load (codes "nosuch") ∷ [])
    ≡ codes "not_described" ∷ codes "ok 0" ∷ codes "loaded" ∷ codes "stock_empty" ∷ codes "not_described" ∷ []
unfolding digits step
what_refuses_a_load = refl

-- ---- Controllers in each lifecycle state

-- a loaded controller by its serial, its place and its data
abbrev loaded : ℕ → ℕ → CtlData → Loaded
loaded serial place ctl = record { serial = serial; place = place; rate = 0; divisor = None; ctl = ctl; mail = None }

abbrev inactive : CtlKind → Params → CtlData
inactive kind params = record { kind = kind; params = Some params; run = None }

abbrev active : CtlKind → Params → RunData → CtlData
active kind params part = record { kind = kind; params = Some params; run = Some part }

-- the state with these loaded controllers
abbrev with : List Loaded → State
with ls = record (boot robot stock 1) { loaded = ls; loads = 9 }

-- what runs of a forward, a pid, a trajectory, a broadcaster and a mock
abbrev set : RunData
set = run.Set false (Unset ∷ [])

abbrev integrating : Bool → RunData
integrating chained = run.Pid chained Unset (pos 0) None

abbrev holding : RunData
holding = run.Trajectory (pos 0 ∷ []) false 0 (pos 0 ∷ []) []

abbrev publishing : RunData
publishing = run.Broadcaster (pos 0 ∷ pos 0 ∷ [])

-- the state with the forward alone, in each lifecycle state
abbrev fwd_unconfigured : State
fwd_unconfigured = with (loaded 4 0 (fresh kind.Forward) ∷ [])

abbrev fwd_inactive : State
fwd_inactive = with (loaded 4 0 (inactive kind.Forward (Forward 1)) ∷ [])

abbrev fwd_active : State
fwd_active = with (loaded 4 0 (active kind.Forward (Forward 1) set) ∷ [])

where_it_is_not_loaded : each fwd_active (codes "pid")
    ≡ codes "not_loaded" ∷ codes "not_loaded" ∷ codes "not_loaded" ∷ codes "not_loaded" ∷ codes "not_loaded" ∷ []
unfolding step
where_it_is_not_loaded = refl

where_it_is_not_described : each fwd_active (codes "nosuch")
    ≡ codes "not_loaded" ∷ codes "not_loaded" ∷ codes "not_loaded" ∷ codes "not_loaded" ∷ codes "not_loaded" ∷ []
unfolding step
where_it_is_not_described = refl

where_it_is_unconfigured : each fwd_unconfigured (codes "fwd")
    ≡ codes "ok" ∷ codes "not_inactive" ∷ codes "ok" ∷ codes "ok" ∷ codes "not_active" ∷ []
unfolding step
where_it_is_unconfigured = refl

where_it_is_inactive : each fwd_inactive (codes "fwd")
    ≡ codes "ok" ∷ codes "ok" ∷ codes "ok" ∷ codes "ok" ∷ codes "not_active" ∷ []
unfolding step
where_it_is_inactive = refl

where_it_is_active : each fwd_active (codes "fwd")
    ≡ codes "active" ∷ codes "not_inactive" ∷ codes "active" ∷ codes "active" ∷ codes "ok" ∷ []
unfolding step
where_it_is_active = refl

-- A mock that refuses is asked only where it is not active. (No history leads to an active one.)
a_mock_refuses : replies (with (loaded 0 4 (fresh kind.Mock) ∷ []))
    (Configure (codes "mk") ∷ ListControllers ∷ Cleanup (codes "mk") ∷ [])
    ≡ codes "refused" ∷ codes "mk mock unconfigured 0" ∷ codes "not_inactive" ∷ []
unfolding digits step
a_mock_refuses = refl

active_comes_before_refused : each (with (loaded 0 4 (active kind.Mock (Mock 0 true [] []) (run.Set false [])) ∷ []))
    (codes "mk")
    ≡ codes "active" ∷ codes "not_inactive" ∷ codes "active" ∷ codes "active" ∷ codes "takes_none" ∷ []
unfolding step
active_comes_before_refused = refl

-- ---- What refuses mail

-- an active trajectory above a pid
abbrev chain : State
chain = with
    (loaded 0 1 (active kind.Pid gains (integrating true)) ∷ loaded 1 2 (active kind.Trajectory (Trajectory 1) holding)
    ∷ [])

-- Chained comes before a wrong count.
mail_for_a_chained_pid : map (λ mail. (answered chain (Send (codes "pid") mail)).1) (one ∷ two ∷ [])
    ≡ codes "chained" ∷ codes "chained" ∷ []
unfolding step
mail_for_a_chained_pid = refl

-- Without the trajectory it takes one value.
mail_for_a_pid : map
    (λ mail. (answered (with (loaded 0 1 (active kind.Pid gains (integrating false)) ∷ []))
    (Send (codes "pid") mail)).1)
    (one ∷ two ∷ Values [] ∷ Points [] ∷ [])
    ≡ codes "ok" ∷ codes "wrong_count" ∷ codes "wrong_count" ∷ codes "wrong_count" ∷ []
unfolding step
mail_for_a_pid = refl

-- The trajectory takes points alone, each with a value for its one claim.
mail_for_a_trajectory : map (λ mail. (answered chain (Send (codes "traj") mail)).1)
    (one ∷ Points (record { at_us = 20000; values = pos 100000 ∷ [] } ∷ [])
    ∷ Points (record { at_us = 20000; values = pos 1 ∷ [] } ∷ record { at_us = 30000; values = [] } ∷ []) ∷ [])
    ≡ codes "wrong_count" ∷ codes "ok" ∷ codes "wrong_count" ∷ []
unfolding step
mail_for_a_trajectory = refl

-- a broadcaster, and a mock without claims
abbrev no_takers : State
no_takers = with
    (loaded 0 3 (active kind.Broadcaster (Broadcaster 2) publishing)
    ∷ loaded 1 5 (active kind.Mock (Mock 0 false [] []) (run.Set false [])) ∷ [])

-- That none is taken comes before a wrong count.
mail_for_those_that_take_none : map (λ mail. (answered no_takers (Send (codes "jsb") mail)).1)
    (one ∷ two ∷ Points [] ∷ [])
    ++ map (λ mail. (answered no_takers (Send (codes "mk2") mail)).1) (one ∷ Values [] ∷ [])
    ≡ codes "takes_none" ∷ codes "takes_none" ∷ codes "takes_none" ∷ codes "takes_none" ∷ codes "takes_none" ∷ []
unfolding step
mail_for_those_that_take_none = refl

-- That it is not active comes before all that its parameters say of mail.
not_active_comes_first : map
    (λ call. (answered
    (with (loaded 0 3 (inactive kind.Broadcaster (Broadcaster 2)) ∷ loaded 1 0 (inactive kind.Forward (Forward 1))
    ∷ [])) call).1)
    (Send (codes "jsb") one ∷ Send (codes "fwd") two ∷ Send (codes "fwd") (Points []) ∷ [])
    ≡ codes "not_active" ∷ codes "not_active" ∷ codes "not_active" ∷ []
unfolding step
not_active_comes_first = refl

-- ---- What is left

-- newer mail replaces what waits
the_last_mail_waits : (after fwd_active
    (Send (codes "fwd") (Values (pos 1 ∷ [])) ∷ Send (codes "fwd") one ∷ Send (codes "fwd") two ∷ [])).loaded
    ≡ record (loaded 4 0 (active kind.Forward (Forward 1) set)) { mail = Some one } ∷ []
unfolding step
the_last_mail_waits = refl

-- a configure of an inactive controller replaces its parameters
parameters_are_replaced : (after (with (loaded 4 0 (inactive kind.Forward (Forward 7)) ∷ []))
    (Configure (codes "fwd") ∷ [])).loaded
    ≡ record (loaded 4 0 (inactive kind.Forward (Forward 1))) { divisor = Some 1 } ∷ []
unfolding step
parameters_are_replaced = refl

-- a refused one leaves those that it has
a_refusal_leaves_all : after (with (loaded 0 4 (inactive kind.Mock (Mock 3 false [] [])) ∷ []))
    (Configure (codes "mk") ∷ [])
    ≡ with (loaded 0 4 (inactive kind.Mock (Mock 3 false [] [])) ∷ [])
unfolding step
a_refusal_leaves_all = refl

-- the box that moves out has the data that it had; a refused unload gives none out
a_box_moves_out : moves_out fwd_inactive (codes "fwd") reply.Done ≡ Some (inactive kind.Forward (Forward 1))
a_box_moves_out = refl

no_box_moves_out : moves_out fwd_active (codes "fwd") (unload_reply fwd_active (codes "fwd")) ≡ None
no_box_moves_out = refl
