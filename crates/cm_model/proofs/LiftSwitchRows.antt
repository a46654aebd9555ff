-- Worked rows of switches on the second robot, computed from the definitions alone: in each row several answers could
-- be given, and the comment above says which is the right one, and why.
use Rattle.std.proofs.Common.{◌≡◌, ℕ, List, [], ◌∷◌, refl}
use Rattle.std.specs.Prelude.{codes}
use Rattle.std.specs.Fmt.{digits}
use Rattle.cm_document.specs.declared.call.SwitchRequest.{SwitchRequest}
use Rattle.cm_document.specs.declared.life.Life.{Life}
use Rattle.cm_document.specs.declared.life.Life.TheVariants.{Unconfigured, Inactive, Active, Finalized}
use Rattle.cm_model.proofs.WorkedLift.{robot}
use Rattle.cm_model.proofs.WorkedSwitches.{inactive, running, chained, unready, strictly, at_best, plan_text}
use Rattle.cm_model.specs.BestEffort.{stays_within, plan_of}
use Rattle.cm_model.specs.Order.{rank_within}
use Rattle.cm_model.specs.declared.seen.Seen.{Seen}

-- ---- The controllers by place

abbrev plan : ℕ
plan = 0

abbrev damp : ℕ
damp = 1

abbrev jog : ℕ
jog = 2

abbrev pass : ℕ
pass = 3

abbrev aim : ℕ
aim = 4

abbrev servo : ℕ
servo = 5

abbrev hold : ℕ
hold = 6

abbrev lean : ℕ
lean = 9

-- the plan of a request, as text: over an active lift and a wrist in this state, with these controllers by serial
abbrev planned_text : Life → List Seen → SwitchRequest → List ℕ
planned_text wrist loaded request = plan_text
    (plan_of (record { description = robot; loaded = loaded; components = Active ∷ wrist ∷ [] }) request)

-- the plans of a switch that brings one on: strict, and of best effort
abbrev both_ways : Life → List Seen → List ℕ → List (List ℕ)
both_ways wrist loaded name =
    planned_text wrist loaded (strictly [] (name ∷ [])) ∷ planned_text wrist loaded (at_best [] (name ∷ [])) ∷ []

-- ---- Which fault is told

-- Six are to come. `plan`, `jog` and `aim` have the depth 0, `pass` and `damp` 1, `servo` 2, so the order is jog,
-- plan, aim, damp, pass, servo. `jog` is the first of them that claims what another does, l1/velocity: `damp` and
-- `servo` do. By order `damp` comes first, though `servo` has the lower serial.
three_rivals : planned_text Inactive (inactive 0 servo ∷ inactive 1 damp ∷ inactive 2 jog ∷ inactive 3 pass
    ∷ inactive 4 plan ∷ inactive 5 aim ∷ [])
    (strictly [] (codes "servo" ∷ codes "damp" ∷ codes "jog" ∷ codes "pass" ∷ codes "plan" ∷ codes "aim" ∷ []))
    ≡ codes "refused jog conflict l1/velocity damp;;"
unfolding rank_within digits
three_rivals = refl

-- `jog` comes first by order, and `servo` has its l1/velocity. `plan` comes later, and lacks `pass`: a follower that
-- is missing counts before a conflict. It lacks both of the references that it claims, and the first is told.
kind_before_order : planned_text Inactive (inactive 0 jog ∷ running 1 servo ∷ inactive 2 plan ∷ [])
    (strictly [] (codes "jog" ∷ codes "plan" ∷ []))
    ≡ codes "refused plan missing_follower pass/l1/position;;"
unfolding rank_within digits
kind_before_order = refl

-- Four pairs of kinds of one member, each of two that follow one another, told strictly and by best effort. `aim`
-- lacks `damp`, and w1/effort is not available.
follower_before_availability : both_ways Unconfigured (inactive 0 aim ∷ []) (codes "aim")
    ≡ codes "refused aim missing_follower damp/l1/velocity;;"
    ∷ codes "done dropped aim missing_follower damp/l1/velocity;;" ∷ []
unfolding rank_within stays_within digits
follower_before_availability = refl

-- The second claim of `jog` is not available, and `servo` has its first.
availability_before_conflict : both_ways Finalized (running 0 servo ∷ inactive 1 jog ∷ []) (codes "jog")
    ≡ codes "refused jog unavailable w1/position;;" ∷ codes "done dropped jog unavailable w1/position;;" ∷ []
unfolding rank_within stays_within digits
availability_before_conflict = refl

-- `damp` has the first claim of `jog`, and `aim` the effort of the joint of its second.
conflict_before_mode : both_ways Active (running 0 aim ∷ chained 1 damp ∷ inactive 2 jog ∷ []) (codes "jog")
    ≡ codes "refused jog conflict l1/velocity damp;;" ∷ codes "done dropped jog conflict l1/velocity damp;;" ∷ []
unfolding rank_within stays_within digits
conflict_before_mode = refl

-- `hold` has the position of the joint of which `aim` claims the effort, and `aim` is not ready.
mode_before_readiness : both_ways Active (running 0 hold ∷ running 1 damp ∷ unready 2 aim ∷ []) (codes "aim")
    ≡ codes "refused aim mode_refused w1;;" ∷ codes "done dropped aim mode_refused w1;;" ∷ []
unfolding rank_within stays_within digits
mode_before_readiness = refl

-- Both claims of `hold` are another's: the first, l2/position, `pass` has, and the second, w1/position, `jog` is to
-- have.
first_claim : planned_text Inactive (inactive 0 hold ∷ chained 1 servo ∷ running 2 pass ∷ inactive 3 jog ∷ [])
    (strictly [] (codes "hold" ∷ codes "jog" ∷ []))
    ≡ codes "refused hold conflict l2/position pass;;"
unfolding rank_within digits
first_claim = refl

-- `lean` has the other interface of both joints of which `jog` claims one, and the first is told.
first_joint : planned_text Active (running 0 lean ∷ inactive 1 jog ∷ []) (strictly [] (codes "jog" ∷ []))
    ≡ codes "refused jog mode_refused l1;;"
unfolding rank_within digits
first_joint = refl

-- By order `aim` comes before `damp`. It claims w1/effort and reads w2/position, and neither is available: claims
-- come first.
first_unavailable : planned_text Finalized (inactive 0 damp ∷ inactive 1 aim ∷ [])
    (strictly [] (codes "damp" ∷ codes "aim" ∷ []))
    ≡ codes "refused aim unavailable w1/effort;;"
unfolding rank_within digits
first_unavailable = refl

-- Both names to deactivate have a fault of the list, and so has each name to activate: the first of the first list is
-- told.
first_of_the_list : planned_text Inactive (inactive 0 hold ∷ running 1 servo ∷ [])
    (strictly (codes "hold" ∷ codes "nosuch" ∷ []) (codes "servo" ∷ codes "nobody" ∷ []))
    ≡ codes "refused hold not_active;;"
unfolding rank_within digits
first_of_the_list = refl

-- and of the names to activate the first
first_to_activate : planned_text Inactive (inactive 0 hold ∷ running 1 servo ∷ [])
    (strictly [] (codes "servo" ∷ codes "nobody" ∷ []))
    ≡ codes "refused servo already_active;;"
unfolding rank_within digits
first_to_activate = refl

-- ---- What changes

-- A chain of three above an active `servo`: that restarts, as it is chained now. What commands a controller comes
-- after it, so the order of activation is servo, pass, plan.
chained_by_those_above : planned_text Inactive (running 0 servo ∷ inactive 1 plan ∷ inactive 2 pass ∷ [])
    (strictly [] (codes "plan" ∷ codes "pass" ∷ []))
    ≡ codes "done; -0; +0 +2 +1"
unfolding rank_within digits
chained_by_those_above = refl

-- a named restart of the middle one, and of no other
restart_in_the_middle : planned_text Inactive (chained 0 servo ∷ running 1 plan ∷ chained 2 pass ∷ [])
    (strictly (codes "pass" ∷ []) (codes "pass" ∷ []))
    ≡ codes "done; -2; +2"
unfolding rank_within digits
restart_in_the_middle = refl

-- `servo` and `pass` are needed while `plan` is active: both stay, each dropped with the first of its references that
-- is claimed.
needed_from_above : planned_text Inactive (chained 0 servo ∷ running 1 plan ∷ chained 2 pass ∷ [])
    (at_best (codes "servo" ∷ codes "pass" ∷ []) [])
    ≡ codes "done dropped servo missing_follower servo/l1/position, pass missing_follower pass/l1/position;;"
unfolding rank_within stays_within digits
needed_from_above = refl

-- By height `servo` (0) and `hold` (0) are tried first, as they stand, then `pass` (1), then `plan` (2): `pass` meets
-- `hold` on l2/position, and so `plan` lacks it.
joined_by_height : planned_text Inactive (inactive 0 plan ∷ inactive 1 pass ∷ inactive 2 servo ∷ inactive 3 hold ∷ [])
    (at_best [] (codes "plan" ∷ codes "pass" ∷ codes "servo" ∷ codes "hold" ∷ []))
    ≡ codes "done dropped pass conflict l2/position hold, plan missing_follower pass/l1/position;; +3 +2"
unfolding rank_within stays_within digits
joined_by_height = refl
