-- Worked rows of what a begin decides: moments of two states and a reply, written down by hand, that are right, and
-- others that are not.
use Rattle.std.proofs.Common.{◌≡◌, ℕ, zero, suc, ◌<◌, Bool, true, false, List, [], ◌∷◌, length, get_or, map}
use Rattle.std.proofs.Common.{inl, inr, pos, Option, Some, None, refl, sym, ap, subst, ◌∙◌, true≢false, arith}
use Rattle.std.specs.Prelude.{codes, ◌==◌, ◌&&◌, is_some}
use Rattle.std.specs.List.{list_any}
use Rattle.std.proofs.lemmas.Option.{same_Some}
use Rattle.sequence.proofs.ListLemmas.{any_map}
use Rattle.fixed_num.specs.declared.value.Value.TheVariants.{Unset}
use Rattle.cm_document.specs.declared.call.Call.TheVariants.{Begin}
use Rattle.cm_document.specs.declared.call.Pick.{Pick}
use Rattle.cm_document.specs.declared.call.Pick.TheVariants.{One, Group}
use Rattle.cm_document.specs.declared.call.SwitchRequest.{SwitchRequest}
use Rattle.cm_document.specs.declared.life.Life.{Life}
use Rattle.cm_document.specs.declared.life.Life.TheVariants.{Inactive, Active}
use Rattle.cm_model.proofs.Worked.{j1_position, runs, rests, with_running}
use Rattle.cm_model.specs.Boundary.{life_at}
use Rattle.cm_model.specs.Deciding.{AreRelated, IsSwitched, is_let_go, IsLetGo}
use Rattle.cm_model.specs.Deciding.{asked_set, on_both, without_mail, apart_from_mail}
use Rattle.cm_model.specs.Order.{Places}
use Rattle.cm_model.specs.Sound.{Moment, AreStoodIn, DecidesFrom, DecidesRightly}
use Rattle.cm_model.specs.State.{State, Loaded, is_active, active}
use Rattle.cm_model.specs.Values.{InterfaceValue}
use Rattle.cm_model.specs.declared.cause.Cause.TheVariants as cause
use Rattle.cm_model.specs.declared.cause.Outcome.{Outcome}
use Rattle.cm_model.specs.declared.cause.Outcome.TheVariants as outcome
use Rattle.cm_model.specs.declared.data.RunData.{RunData}
use Rattle.cm_model.specs.declared.data.RunData.TheVariants as run
use Rattle.cm_model.specs.declared.reply.Reply.TheVariants as reply
use Rattle.cm_model.specs.declared.request.Request.{Request}
use Rattle.cm_model.specs.declared.request.Request.TheVariants as request

never : {A : Type 0} → false ≡ true → A
never wrong = absurd (true≢false (sym wrong))

-- ---- Moments

-- these controllers, while one request waits
abbrev asked : List Loaded → Request → State
asked loaded what = record (with_running loaded) { requests = what ∷ [] }

-- the same once it has this outcome
abbrev told : List Loaded → Request → Outcome → State
told loaded what became = record (asked loaded what) { outcomes = became ∷ [] }

-- a begin that tells this outcome and leaves this state
abbrev begin_of : State → Outcome → State → Moment
begin_of before became after =
    record {
      before = before;
      call = Begin 0;
      reply =
          reply.Decisions (record { ticket = Some 0; outcome = became } ∷ []);
      after = record after { aloft = true };
    }

-- whether it is right, where nobody is to stand in
abbrev IsRight : Moment → Type 0
IsRight moment = DecidesFrom moment.before moment

-- the forward is to come, to leave, and to restart; the pid is to restart
abbrev forward_request : SwitchRequest
forward_request = record { on = One (codes "fwd") ∷ []; off = []; strict = true }

abbrev forward_on : Request
forward_on = request.Switch forward_request

abbrev forward_off : Request
forward_off = request.Switch (record { on = []; off = One (codes "fwd") ∷ []; strict = true })

abbrev pid_on_both : SwitchRequest
pid_on_both = record { on = One (codes "pid") ∷ []; off = One (codes "pid") ∷ []; strict = true }

abbrev pid_again : Request
pid_again = request.Switch pid_on_both

-- the arm is to be inactive
abbrev arm_down : Request
arm_down = request.Hardware (codes "arm") Inactive

-- ---- What the state between tells of the one after

-- it has the same active controllers, since it differs by mail alone
apart_active : (s : State) (p : ℕ) → active (apart_from_mail s) p ≡ active s p
apart_active s p = any_map (λ (l : Loaded). is_active l && l.place == p) without_mail s.loaded

same_active : (s t : State) → apart_from_mail t ≡ apart_from_mail s → (p : ℕ) → active s p ≡ active t p
same_active s t same p = sym (apart_active s p) ∙ ap (λ (u : State). active u p) (sym same) ∙ apart_active t p

-- the controllers that the state between has are those after it, but for mail
same_loaded : (s t : State) → apart_from_mail t ≡ apart_from_mail s
    → map without_mail s.loaded ≡ map without_mail t.loaded
same_loaded s t same = ap (λ (u : State). u.loaded) (sym same)

-- what one controller is related to
record IsRelated (R : Loaded → Loaded → Type 0) (l : Loaded) (ls : List Loaded) : Type 0 where
  new : Loaded
  alone : ls ≡ new ∷ []
  related : R l new

related_one : (R : Loaded → Loaded → Type 0) (l : Loaded) (ls : List Loaded) → AreRelated R (l ∷ []) ls
    → IsRelated R l ls
related_one R l [] holds = absurd holds
related_one R l (new ∷ []) holds = record { new = new; alone = refl; related = holds.0 }
related_one R l (new ∷ other ∷ others) holds = absurd holds.1

-- what the first of these runs
abbrev first_run : List Loaded → Option RunData
first_run [] = None
first_run (l ∷ ls) = l.ctl.run

-- it is a pid that has an error to go by
abbrev has_last : Option RunData → Bool
has_last (Some (run.Pid chained set integral last)) = is_some last
has_last _ = false

-- so it is right as a whole
right_as_a_whole : (moment : Moment) → moment.before.fallbacks ≡ [] → moment.call ≡ Begin 0 → IsRight moment
    → DecidesRightly moment moment.call
right_as_a_whole moment nobody begins right =
    subst (DecidesRightly moment) (sym begins) (
      moment.before,
      subst (λ (names : List (List ℕ)). AreStoodIn moment.before names moment.before) (sym nobody) refl,
      right,
    )

-- ---- A switch that is done

-- an interface that is not let go holds what it held
held : (s : State) (ceased : Places) (v : InterfaceValue)
    → is_let_go s.description.controllers ceased v.interface ≡ false → IsLetGo s ceased v v
held s ceased v none = record { emptied = λ gone. absurd (true≢false (sym gone ∙ none)); held = λ kept. refl }

-- the forward comes
forward_set : (p : ℕ)
    → active (told (runs 0 0 false ∷ []) forward_on (outcome.Done [])) p
    ≡ asked_set (asked (rests 0 0 ∷ []) forward_on) forward_request p
forward_set p = refl

forward_comes : IsRight
    (begin_of (asked (rests 0 0 ∷ []) forward_on) (outcome.Done [])
    (told (runs 0 0 false ∷ []) forward_on (outcome.Done [])))
forward_comes = (
  told (runs 0 0 false ∷ []) forward_on (outcome.Done []),
  record {
    outcomes = refl;
    same = refl;
    rightly = (
      refl,
      record {
        set_is = forward_set;
        controllers = (
          record {
            leaves = λ ran gone. never ran;
            comes = λ idle member. record { run = refl; emptied = refl };
            restarts = λ ran member anew. never ran;
            stays = λ ran member kept. never ran;
            out = λ idle gone. absurd (true≢false gone);
          },
          tt,
        );
        values = (
          held _ _ _ refl,
          (held _ _ _ refl, (held _ _ _ refl, (held _ _ _ refl, (held _ _ _ refl, (held _ _ _ refl, tt))))),
        );
        lives = refl;
      },
    );
  },
  refl,
)

-- it is told as done, and nothing is switched
abbrev not_switched : State
not_switched = record (told (rests 0 0 ∷ []) forward_on (outcome.Done [])) { aloft = true }

told_and_not_done : IsRight (begin_of (asked (rests 0 0 ∷ []) forward_on) (outcome.Done []) not_switched) → ⊥
told_and_not_done (next, step, last) = never (sym (same_active next not_switched last 0) ∙ step.rightly.1.set_is 0)

-- one that is to leave stays
abbrev not_left : State
not_left = record (told (runs 0 0 false ∷ []) forward_off (outcome.Done [])) { aloft = true }

leaver_stays : IsRight (begin_of (asked (runs 0 0 false ∷ []) forward_off) (outcome.Done []) not_left) → ⊥
leaver_stays (next, step, last) = true≢false (sym (same_active next not_left last 0) ∙ step.rightly.1.set_is 0)

-- one that is named on both lists goes on as it was
abbrev steered : Loaded
steered = record (runs 0 1 false)
    { ctl = record ((runs 0 1 false).ctl) { run = Some (run.Pid false Unset (pos 0) (Some (pos 7))) } }

abbrev not_restarted : State
not_restarted = record (told (steered ∷ []) pid_again (outcome.Done [])) { aloft = true }

abbrev PidSwitched : Loaded → Loaded → Type 0
PidSwitched l new =
    let before = asked (steered ∷ []) pid_again in
    IsSwitched before (asked_set before pid_on_both) (on_both before pid_on_both) l new

restart_without_effect : IsRight (begin_of (asked (steered ∷ []) pid_again) (outcome.Done []) not_restarted) → ⊥
restart_without_effect (next, step, last) =
    let one : IsRelated PidSwitched steered next.loaded =
    related_one PidSwitched steered next.loaded step.rightly.1.controllers in
    let anew = one.related.restarts refl refl refl in
    let as_was : first_run (map without_mail (one.new ∷ [])) ≡ first_run (map without_mail (steered ∷ [])) =
    ap (λ (ls : List Loaded). first_run (map without_mail ls)) (sym one.alone)
    ∙ ap first_run (same_loaded next not_restarted last) in
    true≢false (ap has_last (sym as_was ∙ anew.run))

-- what is told as done is not all that changes: another load is counted
abbrev one_load_more : State
one_load_more = record (told (runs 0 0 false ∷ []) forward_on (outcome.Done [])) { loads = 1; aloft = true }

smuggled : IsRight (begin_of (asked (rests 0 0 ∷ []) forward_on) (outcome.Done []) one_load_more) → ⊥
smuggled (next, step, last) =
    let more : ◌≡◌ {A = ℕ} 1 0 = ap (λ (u : State). u.loads) last ∙ ap (λ (u : State). u.loads) step.same in
    omega (arith, more)

-- one waits, and none is told of
none_told : IsRight
    (record {
      before = asked (rests 0 0 ∷ []) forward_on;
      call = Begin 0;
      reply = reply.Decisions [];
      after =
          asked (rests 0 0 ∷ []) forward_on;
    }) → ⊥
none_told holds = holds

-- ---- A switch that is refused

-- it is told as refused, and the controller runs
abbrev switched_all_the_same : State
switched_all_the_same =
    record (told (runs 0 0 false ∷ []) forward_on (outcome.Refused (codes "fwd") cause.NotReady)) { aloft = true }

refused_and_done : IsRight
    (begin_of (asked (rests 0 0 ∷ []) forward_on) (outcome.Refused (codes "fwd") cause.NotReady) switched_all_the_same)
    → ⊥
refused_and_done (next, step, last) =
    true≢false (sym (same_active next switched_all_the_same last 0)
    ∙ ap (λ (ls : List Loaded). list_any (λ l. is_active l && l.place == 0) ls) step.rightly.0.loaded)

-- it is refused for a cause that is not true
abbrev refused_so : State
refused_so = record (told (rests 0 0 ∷ []) forward_on (outcome.Refused (codes "fwd") cause.NoSuchMove)) { aloft = true }

untrue_cause : IsRight
    (begin_of (asked (rests 0 0 ∷ []) forward_on) (outcome.Refused (codes "fwd") cause.NoSuchMove) refused_so) → ⊥
untrue_cause (next, step, last) = elim step.rightly.1 [
  | inl (is, group) ↦ (let never : cause.NoSuchMove ≡ cause.NoGroup = is in cc)
  | inr none ↦ none
]

-- a controller is refused as a group that is not there
abbrev refused_as_group : State
refused_as_group =
    record (told (rests 0 0 ∷ []) forward_on (outcome.Refused (codes "fwd") cause.NoGroup)) { aloft = true }

no_group_named : (n : ℕ) → get_or (One (codes "fwd") ∷ []) n (Group (codes "fwd")) ≡ Group (codes "fwd") → n < 1 → ⊥
no_group_named zero is below = (let never : One (codes "fwd") ≡ Group (codes "fwd") = is in cc)
no_group_named (suc n) is below = omega (arith, below)

no_such_group : IsRight
    (begin_of (asked (rests 0 0 ∷ []) forward_on) (outcome.Refused (codes "fwd") cause.NoGroup) refused_as_group) → ⊥
no_such_group (next, step, last) = elim step.rightly.1 [
  | inl (is, group) ↦
      elim group.listed [
        | inl (n, below, at) ↦ omega (arith, below)
        | inr (n, below, at) ↦ no_group_named n at below
      ]
  | inr none ↦ none
]

-- ---- A switch of best effort

-- two run that claim one interface
abbrev rival_at_best : Request
rival_at_best = request.Switch (record { on = One (codes "traj2") ∷ []; off = []; strict = false })

abbrev rivals_run : State
rivals_run = record (told (runs 0 0 false ∷ runs 1 3 false ∷ []) rival_at_best (outcome.Done [])) { aloft = true }

two_owners : IsRight (begin_of (asked (runs 0 0 false ∷ rests 1 3 ∷ []) rival_at_best) (outcome.Done []) rivals_run) → ⊥
two_owners (next, step, last) =
    let same : ◌≡◌ {A = ℕ} 0 3 =
    step.rightly.together.exclusive 0 3 j1_position (same_active next rivals_run last 0)
    (same_active next rivals_run last 3) refl refl in omega (arith, same)

-- one runs that nobody asked for
abbrev uninvited_runs : State
uninvited_runs = record (told (runs 0 4 false ∷ runs 1 3 false ∷ []) rival_at_best (outcome.Done [])) { aloft = true }

uninvited : IsRight (begin_of (asked (rests 0 4 ∷ rests 1 3 ∷ []) rival_at_best) (outcome.Done []) uninvited_runs) → ⊥
uninvited (next, step, last) = never (step.rightly.came 4 refl (same_active next uninvited_runs last 4))

-- ---- A hardware request

-- the arm is told as moved, and is where it was
abbrev not_moved : State
not_moved = record (told [] arm_down (outcome.Done [])) { aloft = true }

abbrev is_up : Life → Bool
is_up Active = true
is_up _ = false

arm_told_and_not_moved : IsRight (begin_of (asked [] arm_down) (outcome.Done []) not_moved) → ⊥
arm_told_and_not_moved (next, step, last) =
    let moves = step.rightly.1.2 in
    let here : 0 ≡ step.rightly.1.0 = same_Some 0 step.rightly.1.0 step.rightly.1.1 in
    true≢false (ap is_up (ap (λ (u : State). life_at u 0) last ∙ ap (life_at next) here ∙ moves.moved))

-- a component that is not described is refused under another name
abbrev nosuch_down : Request
nosuch_down = request.Hardware (codes "nosuch") Inactive

abbrev named_another : State
named_another = record (told [] nosuch_down (outcome.Refused (codes "arm") cause.Unknown)) { aloft = true }

another_name : IsRight (begin_of (asked [] nosuch_down) (outcome.Refused (codes "arm") cause.Unknown) named_another) → ⊥
another_name (next, step, last) =
    let longer : ◌≡◌ {A = ℕ} 3 6 = ap (λ (name : List ℕ). length name) step.rightly.0 in omega (arith, longer)
