-- Order and switches on a description of seven controllers over one joint, written down by hand: computed from the
-- definitions.
use Rattle.std.proofs.Common.{◌≡◌, ℕ, Bool, true, false, List, [], ◌∷◌, map, refl}
use Rattle.std.specs.Prelude.{codes}
use Rattle.std.specs.Fmt.{digits}
use Rattle.cm_document.specs.declared.call.Pick.{Pick}
use Rattle.cm_document.specs.declared.call.Pick.TheVariants.{One, Group}
use Rattle.cm_document.specs.declared.call.SwitchRequest.{SwitchRequest}
use Rattle.cm_document.specs.declared.life.Life.TheVariants.{Unconfigured, Active}
use Rattle.cm_model.proofs.Worked.{controllers, robot}
use Rattle.cm_model.proofs.WorkedSwitches.{inactive, running, chained, fresh, unready, strictly, at_best, plan_text}
use Rattle.cm_model.specs.BestEffort.{stays_within, plan_of}
use Rattle.cm_model.specs.Order.{height, divisor, is_due, rank_within}
use Rattle.cm_model.specs.Scene.{Scene, active, order}
use Rattle.cm_model.specs.declared.seen.Seen.{Seen}

-- ---- The controllers by place

abbrev fwd : ℕ
fwd = 0

abbrev pid : ℕ
pid = 1

abbrev traj : ℕ
traj = 2

abbrev traj2 : ℕ
traj2 = 3

abbrev jsb : ℕ
jsb = 4

abbrev mk : ℕ
mk = 5

abbrev pt : ℕ
pt = 6

-- these controllers over an active arm
abbrev over_arm : List Seen → Scene
over_arm loaded = record { description = robot; loaded = loaded; components = Active ∷ [] }

-- the plan of a request, as text
abbrev planned_text : List Seen → SwitchRequest → List ℕ
planned_text loaded request = plan_text (plan_of (over_arm loaded) request)

-- ---- Order and rates

-- those above the pid stand one higher than the others
heights_of_seven : map (height controllers) (0 ∷ 1 ∷ 2 ∷ 3 ∷ 4 ∷ 5 ∷ 6 ∷ []) ≡ 0 ∷ 0 ∷ 1 ∷ 0 ∷ 0 ∷ 0 ∷ 1 ∷ []
unfolding rank_within
heights_of_seven = refl

-- what precedes comes first, though it was loaded later
trajectory_before_pid : map (λ m. m.serial)
    (order (over_arm (running 0 pid ∷ running 1 traj ∷ [])) (active (over_arm (running 0 pid ∷ running 1 traj ∷ []))))
    ≡ 1 ∷ 0 ∷ []
unfolding rank_within
trajectory_before_pid = refl

-- how often a controller is updated
divisors : map (divisor 100) (33 ∷ 0 ∷ 100 ∷ 60 ∷ 50 ∷ 1 ∷ []) ≡ 3 ∷ 1 ∷ 1 ∷ 1 ∷ 2 ∷ 100 ∷ []
divisors = refl

-- every third cycle
due_cycles : map (λ n. is_due n 3) (0 ∷ 1 ∷ 2 ∷ 3 ∷ 4 ∷ []) ≡ true ∷ false ∷ false ∷ true ∷ false ∷ []
due_cycles = refl

-- ---- Followers

-- a trajectory over a pid that is not active
follower_missing : planned_text (inactive 0 pid ∷ inactive 1 traj ∷ []) (strictly [] (codes "traj" ∷ []))
    ≡ codes "refused traj missing_follower pid/j1/position;;"
unfolding rank_within digits
follower_missing = refl

-- both together: the pid first, so that the trajectory comes to it
follower_with_it : planned_text (inactive 0 pid ∷ inactive 1 traj ∷ []) (strictly [] (codes "pid" ∷ codes "traj" ∷ []))
    ≡ codes "done;; +0 +1"
unfolding rank_within digits
follower_with_it = refl

-- the pid cannot leave below the trajectory
follower_needed : planned_text (chained 0 pid ∷ running 1 traj ∷ []) (strictly (codes "pid" ∷ []) [])
    ≡ codes "refused traj missing_follower pid/j1/position;;"
unfolding rank_within digits
follower_needed = refl

-- nor by best effort
follower_kept : planned_text (chained 0 pid ∷ running 1 traj ∷ []) (at_best (codes "pid" ∷ []) [])
    ≡ codes "done dropped pid missing_follower pid/j1/position;;"
unfolding rank_within stays_within digits
follower_kept = refl

-- both leave together, the trajectory first
both_leave : planned_text (chained 0 pid ∷ running 1 traj ∷ []) (strictly (codes "pid" ∷ codes "traj" ∷ []) [])
    ≡ codes "done; -1 -0;"
unfolding rank_within digits
both_leave = refl

-- and by best effort too, in whatever order they stand
both_leave_at_best : planned_text (chained 0 pid ∷ running 1 traj ∷ []) (at_best (codes "pid" ∷ codes "traj" ∷ []) [])
    ≡ codes "done; -1 -0;"
unfolding rank_within stays_within digits
both_leave_at_best = refl

-- by best effort both come, though the trajectory is named first
both_come_at_best : planned_text (inactive 0 pid ∷ inactive 1 traj ∷ []) (at_best [] (codes "traj" ∷ codes "pid" ∷ []))
    ≡ codes "done;; +0 +1"
unfolding rank_within stays_within digits
both_come_at_best = refl

-- a pid that was active restarts where a trajectory comes above it
chained_by_a_comer : planned_text (running 0 pid ∷ inactive 1 traj ∷ []) (strictly [] (codes "traj" ∷ []))
    ≡ codes "done; -0; +0 +1"
unfolding rank_within digits
chained_by_a_comer = refl

-- ---- Conflicts and modes

-- one joint interface, two claims
conflict : planned_text (running 0 fwd ∷ inactive 1 traj2 ∷ []) (strictly [] (codes "traj2" ∷ []))
    ≡ codes "refused traj2 conflict j1/position fwd;;"
unfolding rank_within digits
conflict = refl

-- two interfaces of one joint
mode : planned_text (running 0 fwd ∷ inactive 1 pid ∷ []) (strictly [] (codes "pid" ∷ []))
    ≡ codes "refused pid mode_refused j1;;"
unfolding rank_within digits
mode = refl

-- the one leaves for the other
exchanged : planned_text (running 0 fwd ∷ inactive 1 traj2 ∷ []) (strictly (codes "fwd" ∷ []) (codes "traj2" ∷ []))
    ≡ codes "done; -0; +1"
unfolding rank_within digits
exchanged = refl

-- ---- Best effort

-- what can join joins
what_can_be_done : planned_text (running 0 fwd ∷ inactive 1 traj2 ∷ inactive 2 jsb ∷ [])
    (at_best [] (codes "nosuch" ∷ codes "traj2" ∷ codes "jsb" ∷ []))
    ≡ codes "done dropped nosuch unknown, traj2 conflict j1/position fwd;; +2"
unfolding rank_within stays_within digits
what_can_be_done = refl

-- a name twice: strictly refused, and at best done once
twice : planned_text (inactive 0 fwd ∷ []) (strictly [] (codes "fwd" ∷ codes "fwd" ∷ [])) ≡ codes "refused fwd twice;;"
unfolding rank_within digits
twice = refl

twice_at_best : planned_text (inactive 0 fwd ∷ []) (at_best [] (codes "fwd" ∷ codes "fwd" ∷ []))
    ≡ codes "done dropped fwd twice;; +0"
unfolding rank_within stays_within digits
twice_at_best = refl

-- a follower that is to restart and is needed stays as it is, so it is active already
restart_of_a_needed_one : planned_text (chained 0 pid ∷ running 1 traj ∷ [])
    (at_best (codes "pid" ∷ []) (codes "pid" ∷ []))
    ≡ codes "done dropped pid missing_follower pid/j1/position, pid already_active;;"
unfolding rank_within stays_within digits
restart_of_a_needed_one = refl

-- a restart that cannot join leaves
restart_that_fails : planned_text (record (unready 0 mk) { life = Active } ∷ [])
    (at_best (codes "mk" ∷ []) (codes "mk" ∷ [])) ≡ codes "done dropped mk not_ready; -0;"
unfolding rank_within stays_within digits
restart_that_fails = refl

-- ---- Other causes

-- a name that is not loaded, and one that is not active
not_active : planned_text (inactive 0 fwd ∷ []) (strictly (codes "fwd" ∷ []) (codes "fwd" ∷ []))
    ≡ codes "refused fwd not_active;;"
unfolding rank_within digits
not_active = refl

not_configured : planned_text (fresh 0 fwd ∷ []) (strictly [] (codes "fwd" ∷ [])) ≡ codes "refused fwd not_configured;;"
unfolding rank_within digits
not_configured = refl

already_active : planned_text (running 0 fwd ∷ []) (strictly [] (codes "fwd" ∷ []))
    ≡ codes "refused fwd already_active;;"
unfolding rank_within digits
already_active = refl

-- what is not ready is named, though it is last
not_ready : planned_text (inactive 0 fwd ∷ inactive 1 jsb ∷ unready 2 mk ∷ [])
    (strictly [] (codes "fwd" ∷ codes "jsb" ∷ codes "mk" ∷ [])) ≡ codes "refused mk not_ready;;"
unfolding rank_within digits
not_ready = refl

-- a component that is not there
unavailable : plan_text
    (plan_of (record (over_arm (inactive 0 fwd ∷ [])) { components = Unconfigured ∷ [] })
    (strictly [] (codes "fwd" ∷ [])))
    ≡ codes "refused fwd unavailable j1/position;;"
unfolding rank_within digits
unavailable = refl

-- a restart
restarted : planned_text (running 0 fwd ∷ []) (strictly (codes "fwd" ∷ []) (codes "fwd" ∷ [])) ≡ codes "done; -0; +0"
unfolding rank_within digits
restarted = refl

-- nothing asked, nothing done
nothing : planned_text (running 0 fwd ∷ []) (strictly [] []) ≡ codes "done;;"
unfolding rank_within digits
nothing = refl

-- ---- Groups

-- the same robot, with a group of the pid and the trajectory
abbrev with_group : List Seen → Scene
with_group loaded = record {
  description =
      record robot { groups = record { name = codes "motion"; members = codes "pid" ∷ codes "traj" ∷ [] } ∷ [] };
  loaded = loaded;
  components = Active ∷ [];
}

-- the plan of a switch of these words
abbrev grouped_text : List Seen → Bool → List Pick → List Pick → List ℕ
grouped_text loaded whole off on =
    plan_text (plan_of (with_group loaded) (record { on = on; off = off; strict = whole }))

abbrev motion : Pick
motion = Group (codes "motion")

-- a group comes
group_comes : grouped_text (inactive 0 pid ∷ inactive 1 traj ∷ []) true [] (motion ∷ []) ≡ codes "done;; +0 +1"
unfolding rank_within digits
group_comes = refl

-- on both lists it restarts
group_restarts : grouped_text (chained 0 pid ∷ running 1 traj ∷ []) true (motion ∷ []) (motion ∷ [])
    ≡ codes "done; -1 -0; +0 +1"
unfolding rank_within digits
group_restarts = refl

-- it leaves, but for one that is to come
group_but_one : grouped_text (chained 0 pid ∷ running 1 traj ∷ []) true (motion ∷ []) (One (codes "pid") ∷ [])
    ≡ codes "done; -1 -0; +0"
unfolding rank_within digits
group_but_one = refl

-- a group that is not described
no_such_group : grouped_text (inactive 0 mk ∷ []) true [] (Group (codes "mk") ∷ One (codes "mk") ∷ [])
    ≡ codes "refused mk no_group;;"
unfolding rank_within digits
no_such_group = refl

-- its name is no controller's: that one does not stand there twice
no_such_group_at_best : grouped_text (inactive 0 mk ∷ []) false [] (Group (codes "mk") ∷ One (codes "mk") ∷ [])
    ≡ codes "done dropped mk no_group;; +0"
unfolding rank_within stays_within digits
no_such_group_at_best = refl

-- faults stand in the order of the flat list
no_such_group_later : grouped_text [] true [] (One (codes "fwd") ∷ Group (codes "mk") ∷ [])
    ≡ codes "refused fwd unknown;;"
unfolding rank_within digits
no_such_group_later = refl

-- a controller is named by a group and by itself
member_twice : grouped_text (inactive 0 pid ∷ inactive 1 traj ∷ []) false [] (motion ∷ One (codes "pid") ∷ [])
    ≡ codes "done dropped pid twice;; +0 +1"
unfolding rank_within stays_within digits
member_twice = refl
