-- That a flight whose cells had all their turns is computed once its cycle ended.
use Rattle.std.proofs.Common.{◌≡◌, ℕ, ◌≤◌, Bool, true, false, List, [], length, map}
use Rattle.std.proofs.Common.{Option, Some, None, refl, sym, ap, subst, ◌∙◌}
use Rattle.std.specs.Prelude.{◌==◌, not, vec_len, vec_capacity, IsSomeAnd}
use Rattle.std.proofs.lemmas.Bool.{eqb-true}
use Rattle.std.proofs.lemmas.List.{nil_from_length}
use Rattle.cm_hardware.specs.Calls.Cycles.{Finishes}
use Rattle.cm_hardware.specs.Shown.{HasLinesFor, Shows}
use Rattle.cm_hardware.specs.Wiring.{Mounted, Wired, all_joints, writes_to_fail}
use Rattle.cm_hardware.specs.declared.lists.Lists.{Lists}
use Rattle.cm_model.specs.State.{State}
use Rattle.cm_model.specs.declared.member.Member.{Member}
use Rattle.cm_slots.specs.Updates.{Aloft}
use Rattle.cm_storage.specs.Happened.{Happened}
use Rattle.cm_storage.specs.declared.record_room.RecordRoom.{RecordRoom}
use Rattle.stop_plan.specs.Ending.{HasFlags}
use Rattle.stop_plan.specs.declared.ending.Ending.{Ending}
use Rattle.joint_body.specs.declared.TheConstants.{LONGEST_STEP}
use Rattle.rt_flight.specs.Calls.Cycles.{Decides, IsQuiet, LeavesFlight}
use Rattle.rt_flight.specs.Calls.Turns.{HaveAllTurned}
use Rattle.rt_flight.specs.Cells.{CellFacts, Flying, all_flown}
use Rattle.rt_flight.specs.Flights.{member_in, CanSettle, HasMade, IsComputed, IsEquipped}
use Rattle.rt_flight.specs.Progress.{Progress, failed_in_room, flying_in, rans_in_room, round_in}
use Rattle.rt_flight.specs.UnderWay.{HasBegunOf, HasRoomFor, TellsBut}
use Rattle.rt_flight.specs.Workspaces.{IsFitted}
use Rattle.rt_flight.specs.declared.context.CycleContext.{CycleContext}
use Rattle.rt_flight.specs.declared.robot.Robot.{Robot}
use Rattle.rt_flight.proofs.CycleLemmas.{components_flown, computed_is, equipped_after, flown_in_cycle}
use Rattle.rt_flight.proofs.CycleLemmas.{has_flown, lines_after, lines_in, round_is, was_made}
use Rattle.rt_flight.proofs.TurnLemmas.{all_by_posts, count_by, fitted_by, members_by}
use Rattle.rt_flight.proofs.RoundLemmas.{at_some, some_mapped}

-- where nobody flies
pub none_there : {A : Type 0} (xs : List A) (b : Bool) → b ≡ (length xs == 0) → not b ≡ false → xs ≡ []
none_there xs true is nobody = nil_from_length xs (eqb-true (length xs) 0 (sym is))
none_there xs false is nobody = cc

-- what is known of what is there
known_both : (o : Option RecordRoom) (P T : RecordRoom → Type 0) → IsSomeAnd o P → IsSomeAnd o T
    → (r : RecordRoom) × ((o ≡ Some r) × (P r × T r))
known_both None P T one other = absurd one
known_both (Some r) P T one other = (r, (refl, (one, other)))

module _ (number : ℕ) (begun cells : List CellFacts) (read k : CycleContext) (room : RecordRoom)
    (all : HaveAllTurned number begun cells read k) (there : k.room ≡ Some room) where
  abbrev a : Aloft
  a = round_in number read

  pub before : (r : RecordRoom) × ((read.room ≡ Some r) × (HasRoomFor number begun read r × TellsBut r room))
  before = known_both read.room (HasRoomFor number begun read) (λ r. TellsBut r room) all.start.room
      (some_mapped read.room (λ r. IsSomeAnd k.room (TellsBut r)) (λ r. TellsBut r room)
      (λ r tells. at_some k.room room (TellsBut r) there tells) all.turned.room)

  tells : room ≡ record before.0 { ran = room.ran }
  tells = before.1.1.1

  -- the turns changed nothing of the components
  components_same : k.robot.hardware.components ≡ read.robot.hardware.components
  components_same =
      ap (λ (f : Flying). f.hardware.components) all.turned.turned.flying ∙ components_flown a begun (flying_in read)

  period_same : k.robot.period_us ≡ read.robot.period_us
  period_same = ap (λ (x : CycleContext). x.robot.period_us) all.turned.context

  pub some_time : (1 ≤ k.robot.period_us) × (k.robot.period_us ≤ LONGEST_STEP)
  some_time = subst (λ (n : ℕ). (1 ≤ n) × (n ≤ LONGEST_STEP)) (sym period_same)
      (all.start.timely.some_time, all.start.short)

  pub few_failures : writes_to_fail number k.robot.hardware.components ≤ room.failed.room
  few_failures = subst (λ (ms : List Mounted). writes_to_fail number ms ≤ room.failed.room) (sym components_same)
      (subst (λ (n : ℕ). writes_to_fail number read.robot.hardware.components ≤ n)
      (sym (ap (λ (x : RecordRoom). x.failed.room) tells)) before.1.1.0.failures)

  pub few_joints : all_joints k.robot.hardware.components ≤ room.bodies.room
  few_joints = subst (λ (ms : List Mounted). all_joints ms ≤ room.bodies.room) (sym components_same)
      (subst (λ (n : ℕ). all_joints read.robot.hardware.components ≤ n)
      (sym (ap (λ (x : RecordRoom). x.bodies.room) tells)) before.1.1.0.joints)

  pub flagged : HasFlags (length k.robot.relations.leaders) k.ending
  flagged = subst (λ (x : CycleContext). HasFlags (length x.robot.relations.leaders) x.ending) (sym all.turned.context)
      all.start.equipped.flags

  pub order_is : k.order.items ≡ map member_in begun
  order_is = ap (λ (x : CycleContext). x.order.items) all.turned.context ∙ all.start.equipped.order

  pub nobody_told : begun ≡ [] → room.ran.rans ≡ []
  nobody_told nobody =
      sym (ap rans_in_room there) ∙ ap (λ (f : Flying). f.ran) all.turned.turned.flying
      ∙ ap (λ (cs : List CellFacts). (all_flown a cs (flying_in read)).ran) nobody
      ∙ ap rans_in_room before.1.0 ∙ before.1.1.0.none_ran

  pub same_count : length cells ≡ length begun
  same_count = count_by cells begun all.turned.turned.posts

  -- once the components were written
  module _ (w : Wired) (made : RecordRoom)
      (fin : Finishes number k.robot.period_us k.robot.hardware w room.failed.items made.failed.items room.bodies.items
      made.bodies.items)
      (same : made ≡ record room { failed = made.failed; bodies = made.bodies }) where
    pub settles : CanSettle k.robot.relations k.order.items made
    settles = subst (λ (x : CycleContext). CanSettle x.robot.relations x.order.items made) (sym all.turned.context)
        (record {
          followers = before.1.1.0.settles.followers;
          components = before.1.1.0.settles.components;
          within = before.1.1.0.settles.within;
          stops = subst (λ (n : ℕ). length read.order.items ≤ n)
              (sym (ap (λ (x : RecordRoom). x.stops.room) same ∙ ap (λ (x : RecordRoom). x.stops.room) tells))
              before.1.1.0.settles.stops;
        })

    abbrev pub robot_after : Robot
    robot_after = record k.robot { hardware = w }

    pub leaves : LeavesFlight begun cells read.robot robot_after before.0 made (vec_capacity read.erred)
        (vec_capacity k.erred)
    leaves =
        let posts = all.turned.turned.posts in record {
          order = members_by cells begun posts;
          fitted = all_by_posts (λ (d : CellFacts). IsFitted read.robot.places d.workspace)
              (fitted_by read.robot.places) begun cells (sym posts) all.start.equipped.fitted;
          robot = ap (λ (x : CycleContext). record x.robot { hardware = w }) all.turned.context;
          stops = ap (λ (x : RecordRoom). x.stops) same ∙ ap (λ (x : RecordRoom). x.stops) tells;
          idle = λ nobody. ap (λ (x : RecordRoom). x.ran.rans) same ∙ nobody_told nobody ∙ sym before.1.1.0.none_ran;
          capacity = all.turned.capacity;
        }

    pub made_of : (s : State) → HasBegunOf s number begun read → HasMade s cells robot_after k.erred.items made
    made_of s of =
        let turned = all.turned.turned in
        let has = has_flown s number begun read a (flying_in read) of (round_is s number begun read of) of.hardware in
        let inside = flown_in_cycle s a begun (flying_in read) (flying_in k) has turned.flying in
        let done = fin.finished s inside (sym of.number) (sym (period_same ∙ of.timed)) in
        let was = was_made s a begun cells (flying_in read) (flying_in k) w [] room.failed.items made.failed.items
        room.bodies.items made.bodies.items has turned.cells turned.flying
        (ap rans_in_room before.1.0 ∙ before.1.1.0.none_ran) all.start.none_erred refl
        (ap (λ (x : RecordRoom). x.bodies.items) tells ∙ before.1.1.0.no_body)
        (ap (λ (x : RecordRoom). x.failed.items) tells ∙ sym (ap failed_in_room before.1.0) ∙ of.failed) done in
        record {
          cells = was.cells;
          hardware = was.hardware;
          failed = was.failed;
          ran = ap (λ (x : RecordRoom). x.ran.rans) same ∙ sym (ap rans_in_room there) ∙ was.ran;
          bodies = was.bodies;
          erred = was.erred;
        }

    pub lines : (l : Lists)
        → (vec_capacity l.components ≡ vec_capacity k.lists.components) × (vec_len l.loans ≡ vec_len k.lists.loans)
        → HasLinesFor w l
    lines l room_for =
        let s = all.start.aloft.0 in
        let of = all.start.aloft.1 in
        lines_in w k.lists l
        (lines_after s number begun cells read robot_after k.erred.items made k.lists of (made_of s of)
        (subst (λ (x : CycleContext). HasLinesFor read.robot.hardware x.lists) (sym all.turned.context)
        all.start.equipped.lines)) room_for

    -- what the flight keeps is kept, whoever stops
    pub equipped : (ending : Ending) (l : Lists) → HasFlags (length k.robot.relations.leaders) ending → HasLinesFor w l
        → IsEquipped cells k.order.items robot_after ending l (vec_capacity k.erred)
    equipped ending l flags has_lines =
        subst (λ (ms : List Member). IsEquipped cells ms robot_after ending l (vec_capacity k.erred))
        (sym (ap (λ (x : CycleContext). x.order.items) all.turned.context))
        (equipped_after begun cells read.order.items read.robot robot_after before.0 made read.ending ending read.lists
        l (vec_capacity read.erred) (vec_capacity k.erred) all.start.equipped leaves flags has_lines)

    -- and it is computed of each state of which its turns began
    module _ (told : RecordRoom) (members : List Member) (serials : List ℕ) (before_end ending : Ending) (failed : Bool)
        (order_same : members ≡ k.order.items) (serials_same : serials ≡ k.erred.items)
        (still : failed ≡ false → IsQuiet serials made told before_end ending)
        (decides : failed ≡ true → Decides k.robot.relations members serials made told ending) where
      pub computed : (s : State) → HasBegunOf s number begun read
          → (lists : Lists) (progress : Option Progress) (outcome : Happened) → Shows w lists
          → outcome ≡ record {
            cycle = number;
            failed = told.failed.items;
            ran = told.ran.rans;
            bodies = told.bodies.items;
            stops =
                told.stops.items;
          }
          → IsComputed s (record {
            number = number;
            cells = cells;
            robot = robot_after;
            ending = ending;
            lists = lists;
            has_failed = failed;
            erred = k.erred.items;
            progress = progress;
            outcome = Some outcome;
          })
      computed s of lists progress outcome shows is_told =
          subst (λ (ns : List ℕ). IsComputed s (record {
            number = number;
            cells = cells;
            robot = robot_after;
            ending = ending;
            lists = lists;
            has_failed = failed;
            erred = ns;
            progress = progress;
            outcome = Some outcome;
          })) serials_same
          (computed_is s number begun read members before.0 made told cells robot_after serials before_end ending failed
          (vec_capacity read.erred) (vec_capacity k.erred) of (order_same ∙ order_is)
          before.1.1.0.none_stopped
          (subst (λ (ns : List ℕ). HasMade s cells robot_after ns made) (sym serials_same) (made_of s of)) leaves still
          decides lists progress outcome shows is_told)
