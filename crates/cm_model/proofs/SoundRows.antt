-- Worked rows of soundness: for each of its parts a small history that meets it, and what it refuses.
use Rattle.std.proofs.Common.{◌≡◌, ℕ, ◌<◌, Bool, true, false, [], ◌∷◌, ◌++◌, length}
use Rattle.std.proofs.Common.{Option, Some, refl, sym, ap, true≢false, arith, pos}
use Rattle.std.specs.Prelude.{codes, ◌==◌, ◌||◌}
use Rattle.std.specs.List.{IsDistinct}
use Rattle.fixed_num.specs.declared.value.Value.TheVariants.{Unset, Num}
use Rattle.cm_document.specs.Places.{a_command, of_joint, of_controller}
use Rattle.cm_document.specs.declared.call.Call.TheVariants.{Load, Unload, Hardware, Told, ListControllers, Begin, End}
use Rattle.cm_document.specs.declared.life.Life.TheVariants.{Unconfigured, Active}
use Rattle.cm_model.proofs.LoadedLemmas.{and_true}
use Rattle.cm_model.proofs.Worked.{j1_position, j1_velocity, pid_reference, robot}
use Rattle.cm_model.proofs.Worked.{stock, made, moments_of, runs, rests, with_running}
use Rattle.cm_model.specs.Boundary.{all_concluded}
use Rattle.cm_model.specs.Cycle.{cycle}
use Rattle.cm_model.specs.Order.{rank_within}
use Rattle.cm_model.specs.Sound.{Moment, LoansHold, EachRunsOnce, OneConfigurationEach}
use Rattle.cm_model.specs.Sound.{TicketsFrom, UnloadsLeaveNothing}
use Rattle.cm_model.specs.State.{State, boot, controller_lines}
use Rattle.cm_model.specs.declared.cause.Outcome.TheVariants as outcome
use Rattle.cm_model.specs.declared.reply.Reply.{Reply}
use Rattle.cm_model.specs.declared.reply.Reply.TheVariants as reply
use Rattle.cm_model.specs.declared.request.Request.TheVariants as request

never : {A : Type 0} → false ≡ true → A
never wrong = absurd (true≢false (sym wrong))

-- ---- Loans

-- what is available may hold anything
available : {A : Type 0} → true ≡ false → A
available gone = absurd (true≢false gone)

-- at boot no controller is loaded, and neither a command nor a reference holds anything
at_boot : LoansHold (with_running [])
unfolding IsDistinct
at_boot = record {
  once = tt;
  rising = tt;
  together = record {
    exclusive = λ p q interface member other claims claimed. never member;
    one_mode = λ p q interface beside member other claims claimed. never member;
    available = λ p interface member named. never member;
    followed = λ p interface member claims. never member;
  };
  present = λ p interface member reads. never member;
  empty = (available, (available, (available, (available, (λ gone. refl, (λ gone. refl, tt))))));
  unclaimed = (
    λ state. never state,
    (
      λ state. never state,
      (λ command none. refl, (λ command none. refl, (λ command none. refl, (λ command none. refl, tt)))),
    ),
  );
  marked = tt;
}

-- one controller is loaded twice
two_loads : LoansHold (with_running (rests 0 0 ∷ rests 1 0 ∷ [])) → ⊥
unfolding IsDistinct
two_loads holds = true≢false holds.once.0.0

-- a later load has an earlier serial
falling_serials : LoansHold (with_running (rests 1 0 ∷ rests 0 3 ∷ [])) → ⊥
falling_serials holds = let later : 1 < 0 = holds.rising.0.0 in omega (arith, later)

-- a controller left, and its command keeps its value
command_left : LoansHold
    (record (with_running (rests 0 0 ∷ [])) {
      values = record
          { interface = record { called = a_command j1_position; whose = of_joint 0 0 }; value = Num (pos 5) } ∷ [];
    }) → ⊥
command_left holds = let nothing : Num (pos 5) ≡ Unset = holds.unclaimed.0 refl refl in cc

-- two claim one interface
two_owners : LoansHold (with_running (runs 0 0 false ∷ runs 1 3 false ∷ [])) → ⊥
two_owners holds =
    let same : ◌≡◌ {A = ℕ} 0 3 = holds.together.exclusive 0 3 j1_position refl refl refl refl in omega (arith, same)

-- two kinds of command on one joint
two_modes : LoansHold (with_running (runs 0 0 false ∷ runs 1 1 false ∷ [])) → ⊥
two_modes holds = true≢false (holds.together.one_mode 0 1 j1_position j1_velocity refl refl refl refl)

-- a component that is not there
not_there : LoansHold (record (with_running (runs 0 0 false ∷ [])) { lives = Unconfigured ∷ [] }) → ⊥
not_there holds = true≢false (sym (holds.together.available 0 j1_position refl refl))

-- a trajectory above a pid that is not active
no_follower : LoansHold (with_running (runs 0 2 false ∷ [])) → ⊥
no_follower holds = true≢false (holds.together.followed 2 pid_reference refl refl)

-- a state that is read and holds nothing
nothing_held : LoansHold (record (with_running (runs 0 4 false ∷ [])) { values = [] }) → ⊥
nothing_held holds = true≢false (sym (holds.present 4 j1_position refl refl))

-- a reference of a pid that is not active and holds a number
left_behind : LoansHold
    (record (with_running []) {
      values = record
          { interface = record { called = a_command pid_reference; whose = of_controller 1 }; value = Num (pos 0) }
          ∷ [];
    }) → ⊥
left_behind holds = let nothing : Num (pos 0) ≡ Unset = holds.empty.0 refl in cc

-- a pid beneath an active trajectory that takes mail
wrong_mark : LoansHold (with_running (runs 0 1 false ∷ runs 1 2 false ∷ [])) → ⊥
wrong_mark holds = true≢false (sym holds.marked.0)

-- ---- Updates

-- the one that is active and due ran once
ran_once : EachRunsOnce (with_running (runs 0 0 false ∷ [])) (0 ∷ [])
unfolding IsDistinct
ran_once = record
    { exactly = λ n. ap (λ b. b || false) (sym (and_true (0 == n))); once = (tt, tt); predecessors_first = (tt, tt) }

-- it did not run, or ran twice
did_not_run : EachRunsOnce (with_running (runs 0 0 false ∷ [])) [] → ⊥
did_not_run holds = true≢false (sym (holds.exactly 0))

ran_twice : EachRunsOnce (with_running (runs 0 0 false ∷ [])) (0 ∷ 0 ∷ []) → ⊥
unfolding IsDistinct
ran_twice holds = true≢false holds.once.0.0

-- the pid before the trajectory that commands it
wrong_order : EachRunsOnce (with_running (runs 0 1 true ∷ runs 1 2 false ∷ [])) (0 ∷ 1 ∷ []) → ⊥
wrong_order holds = true≢false holds.predecessors_first.0.0

-- ---- States

-- the forward is configured and does not run
abbrev at_rest : State
at_rest = with_running (rests 0 0 ∷ [])

-- it runs
abbrev at_work : State
at_work = with_running (runs 0 0 false ∷ [])

-- it runs, and a cycle has begun
abbrev in_cycle : State
in_cycle = (made at_work (Begin 0)).0

-- a component that is not described is to be active
abbrev asked : State
asked = record (boot robot stock 1) { requests = request.Hardware (codes "nosuch") Active ∷ [] }

-- that was decided
abbrev decided_state : State
decided_state = (made asked (Begin 0)).0

-- ---- Configurations

-- a list that is asked for before the end leaves the configuration, and the end tells of the cycle of that state
a_cycle : OneConfigurationEach (moments_of at_work (Begin 0 ∷ ListControllers ∷ End 0 ∷ []))
unfolding all_concluded
a_cycle = (tt, (refl, (refl, tt)))

-- a moment at which a list is asked for, after which this state stands
abbrev comes_to : State → Moment
comes_to s = record { before = in_cycle; call = ListControllers; reply = reply.Controllers []; after = s }

-- a controller that leaves within the cycle
leaves_within : OneConfigurationEach (moments_of at_work (Begin 0 ∷ []) ++ comes_to at_rest ∷ []) → ⊥
unfolding rank_within all_concluded
leaves_within holds = let fewer : ◌≡◌ {A = ℕ} 0 1 = ap (λ each. length each.running) holds.1.0 in omega (arith, fewer)

-- an end that tells of no update
abbrev empty_end : Moment
empty_end = record {
  before = in_cycle;
  call = End 0;
  reply = reply.Cycle (record ((cycle in_cycle).happened) { ran = [] });
  after =
      in_cycle;
}

abbrev updates_told : Reply → ℕ
updates_told (reply.Cycle happened) = length happened.ran
updates_told _ = 0

told_wrongly : OneConfigurationEach (moments_of at_work (Begin 0 ∷ []) ++ empty_end ∷ []) → ⊥
unfolding rank_within all_concluded cycle
told_wrongly holds = let fewer : ◌≡◌ {A = ℕ} 0 1 = ap updates_told holds.1.0 in omega (arith, fewer)

-- ---- Tickets

-- a request waits, is decided, and is told of
told_once : TicketsFrom [] (moments_of (boot robot stock 1) (Hardware (codes "nosuch") Active ∷ Begin 0 ∷ Told 0 ∷ []))
unfolding all_concluded
told_once = (
  record { each_once = refl; told = tt },
  (
    record { each_once = refl; told = tt },
    (record { each_once = refl; told = refl }, tt),
  ),
)

-- it is decided twice
decided_twice : TicketsFrom [] (moments_of asked (Begin 0 ∷ []) ++ moments_of asked (Begin 0 ∷ [])) → ⊥
unfolding all_concluded
decided_twice holds =
    let more : ◌≡◌ {A = ℕ} 2 1 = ap (λ decisions. length decisions) holds.1.0.each_once in omega (arith, more)

-- it is told otherwise than decided
abbrev says_ended : Option Reply → Bool
says_ended (Some (reply.Outcome outcome.LoopEnded)) = true
says_ended _ = false

abbrev another_answer : Moment
another_answer =
    record { before = decided_state; call = Told 0; reply = reply.Outcome outcome.LoopEnded; after = decided_state }

told_otherwise : TicketsFrom [] (moments_of asked (Begin 0 ∷ []) ++ another_answer ∷ []) → ⊥
unfolding all_concluded
told_otherwise holds = never (ap says_ended holds.1.0.told)

-- ---- Unloads

-- a controller is loaded and unloaded, and no list has it
gone : UnloadsLeaveNothing
    (moments_of (boot robot stock 1) (Load (codes "fwd") ∷ Unload (codes "fwd") ∷ ListControllers ∷ []))
gone = (tt, (record { done = refl; gone = λ done. (refl, tt) }, (tt, tt)))

-- a list that has it still
abbrev still_there : Moment
still_there =
    record {
      before = at_rest;
      call = ListControllers;
      reply = reply.Controllers (controller_lines at_rest);
      after =
          at_rest;
    }

listed_after : UnloadsLeaveNothing (moments_of at_rest (Unload (codes "fwd") ∷ []) ++ still_there ∷ []) → ⊥
listed_after holds = true≢false (holds.0.gone refl).0

-- an unload of an active controller that is done
abbrev unloaded_while_active : Moment
unloaded_while_active = record { before = at_work; call = Unload (codes "fwd"); reply = reply.Done; after = at_work }

active_unloaded : UnloadsLeaveNothing (unloaded_while_active ∷ []) → ⊥
active_unloaded holds = true≢false holds.0.done
