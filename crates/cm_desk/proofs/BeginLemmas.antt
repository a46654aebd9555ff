-- The begin of a cycle: each request that waits in the state that the one before it left, and then the cycle goes
-- aloft.
use Rattle.std.proofs.Common.{◌≡◌, ℕ, zero, suc, ◌+◌, ◌<◌, ◌≤◌, Bool, true, false, List, [], ◌∷◌, ◌++◌}
use Rattle.std.proofs.Common.{length, drop, Option, Some, None, refl, sym, ap, ap₂, subst, ◌∙◌, arith}
use Rattle.std.specs.Prelude.{◌==◌, ◌&&◌, if◌then◌else◌, not, nat_lt}
use Rattle.std.specs.List.{All, AllByRecursion}
use Rattle.std.proofs.lemmas.Bool.{and_parts, eqb-true, ltb-true}
use Rattle.std.proofs.lemmas.Bool.Decides.{nat_tests}
use Rattle.std.proofs.Math.Seq.{drop-length}
use Rattle.std.proofs.lemmas.List.{length_push}
use Rattle.cm_document.specs.declared.call.Call.TheVariants.{Begin}
use Rattle.cm_document.specs.declared.description.Description.{Description}
use Rattle.cm_document.specs.declared.life.Life.{Life}
use Rattle.cm_model.specs.BestEffort.{decided}
use Rattle.cm_model.specs.Boundary.{waiting, with_switch, with_move_unless, with_move, component_place}
use Rattle.cm_model.specs.Boundary.{move_fault, concluded, with_outcome, all_concluded, standing_in}
use Rattle.cm_model.specs.Boundary.{after_standing_in, after_fallbacks, told_of_fallbacks, boundary}
use Rattle.cm_model.specs.Boundary.{decisions_from, decisions_between, begin_effect, begin_reply}
use Rattle.cm_model.specs.Commit.{scene_of, commit}
use Rattle.cm_model.specs.Cycle.{begun, without_mail_off, is_due_now}
use Rattle.cm_document.specs.Valid.{IsValid}
use Rattle.cm_model.specs.Machine.{can_begin, can_close, effect, step}
use Rattle.cm_model.specs.Serials.{AreNumbered, IsNumbered}
use Rattle.cm_model.specs.State.{State, Loaded, is_active}
use Rattle.cm_model.specs.Steady.{IsSteady}
use Rattle.cm_model.specs.Switches.{Decided, refused, done}
use Rattle.cm_model.specs.declared.cause.Cause.{Cause}
use Rattle.cm_model.specs.declared.blanks.Blanks.{Blanks}
use Rattle.cm_model.specs.declared.cause.Decision.{Decision}
use Rattle.cm_model.specs.declared.cause.Outcome.{Outcome}
use Rattle.cm_model.specs.declared.member.Member.{Member}
use Rattle.cm_model.specs.declared.reply.Reply.TheVariants as reply
use Rattle.cm_model.specs.declared.request.Request.{Request}
use Rattle.cm_model.specs.declared.request.Request.TheVariants as request
use Rattle.cm_model.proofs.StayLemmas.{boundary-SameLoop}
use Rattle.cm_hardware.specs.Shown.{Shows}
use Rattle.cm_slots.specs.Slots.{Slotted}
use Rattle.request_plan.specs.Plans.{AreConclusionsOf, IsPlanOf, IsStandingIn}
use Rattle.request_plan.specs.Requests.{Asked}
use Rattle.request_plan.specs.declared.acts.Conclusion.{Conclusion}
use Rattle.request_plan.specs.declared.plans.Plan.{Plan}
use Rattle.stop_plan.specs.Ending.{members_in_order}
use Rattle.sound_laws.proofs.BoundaryLemmas.{concluded_steady, outcome_steady, emptied_steady}
use Rattle.sound_laws.proofs.HistoryLemmas.{step_steady}
use Rattle.sound_laws.proofs.SerialLemmas.{renumbered_numbered, effect_renumbered}
use Rattle.cm_desk.specs.Begin.{none_waits, IsNext, CanAct}
use Rattle.cm_slots.specs.Fit.{IsTimedIn}
use Rattle.cm_slots.specs.Updates.{HasTime}
use Rattle.cm_resources.specs.CycleResources.{Base, HasLines, IsBased}
use Rattle.cm_resources.specs.ActiveSet.{Listed, IsListedOf, actives}
use Rattle.cm_resources.specs.Described.{IsAsDescribed}
use Rattle.cm_desk.specs.Works.{stand_ins_for, IsKept, state_with}
use Rattle.cm_resources.proofs.ActiveLemmas.{IsSameOne, actives_map, same_serial, same_order, hardware_stays}
use Rattle.cm_slots.proofs.FitLemmas.{fit_begun}
use Rattle.cm_resources.proofs.OrderLemmas.{order_within}
use Rattle.cm_resources.proofs.StayLemmas.{all_staying, begun_stays, serials_stay, count_stays}
use Rattle.cm_resources.proofs.StayLemmas.{described_stay, divided_stay, concluded_stays}

-- ---- When a cycle can begin

-- none is aloft,
pub begins_down : (s : State) → can_begin s s.ended ≡ true → s.aloft ≡ false
begins_down s can = first s.aloft s.closed (s.ended == s.ended) (nat_lt s.ended s.description.cycles) can
  where
    first : (aloft closed now within : Bool) → (((not aloft && not closed) && now) && within) ≡ true → aloft ≡ false
    first true closed now within can = cc
    first false closed now within can = refl

-- the loop is open,
pub begins_open : (s : State) → can_begin s s.ended ≡ true → s.closed ≡ false
begins_open s can = second s.aloft s.closed (s.ended == s.ended) (nat_lt s.ended s.description.cycles) can
  where
    second : (aloft closed now within : Bool) → (((not aloft && not closed) && now) && within) ≡ true → closed ≡ false
    second true closed now within can = cc
    second false true now within can = cc
    second false false now within can = refl

-- and the next one is described
pub begins_within : (s : State) → can_begin s s.ended ≡ true → s.ended < s.description.cycles
begins_within s can =
    ltb-true s.ended s.description.cycles
    (and_parts ((not s.aloft && not s.closed) && s.ended == s.ended) (nat_lt s.ended s.description.cycles) can).1

-- it closes where none is aloft
pub closes_down : (s : State) → can_close s ≡ true → s.aloft ≡ false
closes_down s can = first s.aloft s.closed can
  where
    first : (aloft closed : Bool) → (not aloft && not closed) ≡ true → aloft ≡ false
    first true closed can = cc
    first false closed can = refl

-- and none is aloft where the loop is closed
pub down_where_closed : (aloft closed : Bool) → (aloft ≡ true → closed ≡ false) → closed ≡ true → aloft ≡ false
down_where_closed false closed unclosed shut = refl
down_where_closed true closed unclosed shut = let no : true ≡ false = sym shut ∙ unclosed refl in cc

-- ---- Where nothing waits

pub nil_where : {A : Type 0} (xs : List A) → (length xs == 0) ≡ true → xs ≡ []
nil_where [] none = refl
nil_where (x ∷ xs) none =
    let none_there : length (x ∷ xs) ≡ 0 = eqb-true (length (x ∷ xs)) 0 none in absurd (omega (arith, none_there))

pub nothing_waits : (s : State) → none_waits s.requests s.outcomes ≡ true → waiting s ≡ []
nothing_waits s none = nil_where (waiting s) none

-- where no update failed nobody is to stand in
pub nobody_for : (d : Description) (places : List ℕ) → (length places == 0) ≡ true → stand_ins_for d places ≡ []
nobody_for d places none = ap (stand_ins_for d) (nil_where places none)

-- all that is concluded where nothing waits
none_concluded : (s : State) → waiting s ≡ [] → all_concluded s (waiting s) ≡ s
unfolding all_concluded
none_concluded s none = ap (all_concluded s) none

stood_nobody : (s : State) (names : List (List ℕ)) → names ≡ [] → after_standing_in s names ≡ s
stood_nobody s [] nobody = refl
stood_nobody s (name ∷ names) nobody = cc

told_nobody : (s : State) (names : List (List ℕ)) → names ≡ [] → told_of_fallbacks s names ≡ []
told_nobody s [] nobody = refl
told_nobody s (name ∷ names) nobody = cc

pub quiet_boundary : (s : State) → s.fallbacks ≡ [] → waiting s ≡ [] → boundary s ≡ s
quiet_boundary s nobody none =
    ap (λ (t : State). all_concluded t (waiting t)) (stood_nobody s s.fallbacks nobody) ∙ none_concluded s none

pub quiet_decisions : (s : State) → s.fallbacks ≡ [] → waiting s ≡ []
    → told_of_fallbacks s s.fallbacks ++ decisions_between s (boundary s) ≡ []
quiet_decisions s nobody none =
    ap₂ (λ (first later : List Decision). first ++ later) (told_nobody s s.fallbacks nobody)
    (ap (decisions_between s) (quiet_boundary s nobody none)
    ∙ ap (decisions_from (length s.outcomes)) (drop-length s.outcomes))

-- ---- The first that waits

record KeepsAsked (s t : State) : Type 0 where
  requests : t.requests ≡ s.requests
  outcomes : t.outcomes ≡ s.outcomes
  aloft : t.aloft ≡ s.aloft

commit_keeps : (s : State) (set again : ℕ → Bool) → KeepsAsked s (commit s set again)
unfolding commit
commit_keeps s set again = record { requests = refl; outcomes = refl; aloft = refl }

switch_keeps : (s : State) (d : Decided) → KeepsAsked s (with_switch s d).state
switch_keeps s (refused because) = record { requests = refl; outcomes = refl; aloft = refl }
switch_keeps s (done dropped set again) = commit_keeps s set again

move_unless_keeps : (s : State) (name : List ℕ) (component : ℕ) (target : Life) (o : Option Cause)
    → KeepsAsked s (with_move_unless s name component target o).state
move_unless_keeps s name component target None = record { requests = refl; outcomes = refl; aloft = refl }
move_unless_keeps s name component target (Some reason) = record { requests = refl; outcomes = refl; aloft = refl }

move_keeps : (s : State) (name : List ℕ) (target : Life) (o : Option ℕ) → KeepsAsked s (with_move s name target o).state
move_keeps s name target None = record { requests = refl; outcomes = refl; aloft = refl }
move_keeps s name target (Some component) = move_unless_keeps s name component target (move_fault s component target)

concluded_keeps : (s : State) (asked : Request) → KeepsAsked s (concluded s asked).state
concluded_keeps s (request.Switch asked) = switch_keeps s (decided (scene_of s) asked)
concluded_keeps s (request.Hardware component target) =
    move_keeps s component target (component_place s.description component)

-- a conclusion leaves the cycle down
pub concluded_down : (s : State) (asked : Request) → s.aloft ≡ false → (with_outcome (concluded s asked)).aloft ≡ false
concluded_down s asked down = (concluded_keeps s asked).aloft ∙ down

dropped_first : {A : Type 0} (n : ℕ) (xs : List A) (x : A) (later : List A) → drop n xs ≡ x ∷ later
    → (n < length xs) × (drop (n + 1) xs ≡ later)
dropped_first zero [] x later is = cc
dropped_first zero (y ∷ ys) x later is = (omega arith, ap tail is)
  where
    tail : {A : Type 0} → List A → List A
    tail [] = []
    tail (z ∷ zs) = zs
dropped_first (suc n) [] x later is = cc
dropped_first (suc n) (y ∷ ys) x later is =
    let rest = dropped_first n ys x later is in
    let one_more : suc n + 1 ≡ suc (n + 1) = omega arith in
    (omega (arith, rest.0), ap (λ (k : ℕ). drop k (y ∷ ys)) one_more ∙ rest.1)

-- it has no outcome yet
pub first_undecided : (s : State) (asked : Request) (later : List Request) → waiting s ≡ asked ∷ later
    → length s.outcomes < length s.requests
first_undecided s asked later is = (dropped_first (length s.outcomes) s.requests asked later is).0

-- nor has it in the state that its conclusion leaves
pub still_undecided : (s t : State) (asked : Request) (later : List Request) → waiting s ≡ asked ∷ later
    → t ≡ (concluded s asked).state → length t.outcomes < length t.requests
still_undecided s t asked later is same =
    let kept = concluded_keeps s asked in
    rw (same, kept.outcomes, kept.requests) (first_undecided s asked later is)

-- then the others wait
pub next_waiting : (s : State) (asked : Request) (later : List Request) → waiting s ≡ asked ∷ later
    → waiting (with_outcome (concluded s asked)) ≡ later
next_waiting s asked later is =
    let kept = concluded_keeps s asked in
    let o = (concluded s asked).outcome in
    ap₂ (λ (rs : List Request) (os : List Outcome). drop (length (os ++ o ∷ [])) rs) kept.requests kept.outcomes
    ∙ ap (λ n. drop n s.requests) (length_push s.outcomes o)
    ∙ (dropped_first (length s.outcomes) s.requests asked later is).1

-- all that wait are concluded, or the first of them and then the others
concluded_next : (s : State) (asked : Request) (later : List Request) → waiting s ≡ asked ∷ later
    → all_concluded s (waiting s)
    ≡ all_concluded (with_outcome (concluded s asked)) (waiting (with_outcome (concluded s asked)))
unfolding all_concluded
concluded_next s asked later is =
    ap (all_concluded s) is
    ∙ ap (all_concluded (with_outcome (concluded s asked))) (sym (next_waiting s asked later is))

-- ---- One conclusion after the other

-- What is left to be done from one state on leads to where all leads that waits in another.
pub record IsLeft (opening s : State) (conclusions : List Conclusion) : Type 0 where
  pub down : s.aloft ≡ false
  pub steady : IsSteady s
  pub concluded : AreConclusionsOf s (waiting s) conclusions
  pub same : all_concluded s (waiting s) ≡ all_concluded opening (waiting opening)

-- the first of those that wait, and what is concluded of it
pub record HasNext (s : State) (c : Conclusion) (cs : List Conclusion) : Type 0 where
  pub asked : Request
  pub others : List Request
  pub next : IsNext s asked others c
  pub later : AreConclusionsOf (with_outcome (concluded s asked)) others cs

next_from : (s : State) (rs : List Request) (c : Conclusion) (cs : List Conclusion) → waiting s ≡ rs
    → AreConclusionsOf s rs (c ∷ cs) → HasNext s c cs
next_from s [] c cs is concluded = absurd concluded
next_from s (asked ∷ others) c cs is concluded = record {
  asked = asked;
  others = others;
  next = record { first = is; concluded = concluded.0 };
  later = concluded.1;
}

pub next_of : (opening s : State) (c : Conclusion) (cs : List Conclusion) → IsLeft opening s (c ∷ cs) → HasNext s c cs
next_of opening s c cs left = next_from s (waiting s) c cs refl left.concluded

pub left_next : (opening s t : State) (c : Conclusion) (cs : List Conclusion) → IsLeft opening s (c ∷ cs)
    → ((asked : Request) (later : List Request) → IsNext s asked later c → t ≡ with_outcome (concluded s asked))
    → IsLeft opening t cs
left_next opening s t c cs left made =
    let n = next_of opening s c cs left in
    let is = made n.asked n.others n.next in
    subst (λ u. IsLeft opening u cs) (sym is) (record {
      down = concluded_down s n.asked left.down;
      steady = outcome_steady (concluded s n.asked) (concluded_steady s n.asked left.steady);
      concluded = subst (λ rs. AreConclusionsOf (with_outcome (concluded s n.asked)) rs cs)
          (sym (next_waiting s n.asked n.others n.next.first)) n.later;
      same = sym (concluded_next s n.asked n.others n.next.first) ∙ left.same;
    })

none_left : (s : State) (rs : List Request) → AreConclusionsOf s rs [] → rs ≡ []
none_left s [] concluded = refl
none_left s (r ∷ rs) concluded = absurd concluded

pub left_none : (opening s : State) → IsLeft opening s [] → s ≡ all_concluded opening (waiting opening)
left_none opening s left = sym (none_concluded s (none_left s (waiting s) left.concluded)) ∙ left.same

-- ---- Those that stand in

-- where nothing was concluded of them, nobody is to stand in, and the state is as it was,
pub stood_without : (s now : State) (names : List (List ℕ)) → now ≡ record s { fallbacks = [] } → s.fallbacks ≡ names
    → IsStandingIn s names None
    → now ≡ after_standing_in s names
stood_without s now [] emptied is first = emptied ∙ ap (λ (ns : List (List ℕ)). record s { fallbacks = ns }) (sym is)
stood_without s now (name ∷ names) emptied is first = absurd first

-- else it can be done,
pub stood_with : (s : State) (names : List (List ℕ)) (c : Conclusion) → IsSteady s → IsStandingIn s names (Some c)
    → CanAct (record s { fallbacks = [] }) (after_standing_in s names) c.act
stood_with s [] c steady first = absurd first
stood_with s (name ∷ names) c steady first =
    let t = record s { fallbacks = [] } in record {
      act = first.act;
      steady = concluded_steady t (standing_in (name ∷ names)) (emptied_steady s steady);
    }

-- and no cycle goes aloft by it
pub stood_down : (s : State) (names : List (List ℕ)) → s.aloft ≡ false → (after_standing_in s names).aloft ≡ false
stood_down s [] down = down
stood_down s (name ∷ names) down =
    (concluded_keeps (record s { fallbacks = [] }) (standing_in (name ∷ names))).aloft ∙ down

-- the state after a conclusion, with its outcome
pub concluded_so : (s t : State) (asked : Request) (c : Conclusion) → t ≡ (concluded s asked).state
    → c.outcome ≡ (concluded s asked).outcome
    → record t { outcomes = t.outcomes ++ c.outcome ∷ [] } ≡ with_outcome (concluded s asked)
concluded_so s t asked c same outcome =
    ap₂ (λ (u : State) (o : Outcome). record u { outcomes = u.outcomes ++ o ∷ [] }) same outcome

-- ---- The boundary

all_stay : (s : State) (rs : List Request) → all_staying (all_concluded s rs).loaded ≡ all_staying s.loaded
unfolding all_concluded
all_stay s [] = refl
all_stay s (asked ∷ later) = all_stay (with_outcome (concluded s asked)) later ∙ concluded_stays s asked

standing_stays : (s : State) (names : List (List ℕ))
    → all_staying (after_standing_in s names).loaded ≡ all_staying s.loaded
standing_stays s [] = refl
standing_stays s (name ∷ names) = concluded_stays (record s { fallbacks = [] }) (standing_in (name ∷ names))

pub boundary_stays : (s : State) → all_staying (boundary s).loaded ≡ all_staying s.loaded
boundary_stays s = all_stay (after_fallbacks s) (waiting (after_fallbacks s)) ∙ standing_stays s s.fallbacks

-- serials go on to differ
begun_numbered : (s : State) → IsNumbered s → IsNumbered (begin_effect s)
begun_numbered s numbered =
    renumbered_numbered s (effect s (Begin 0) reply.Done) (effect_renumbered s (Begin 0) reply.Done) numbered

boundary_numbered : (s : State) → IsNumbered s → IsNumbered (boundary s)
boundary_numbered s numbered =
    subst (AreNumbered (boundary s).loads)
    (serials_stay (boundary s).loaded (begun (boundary s)).loaded (begun_stays (boundary s)))
    (begun_numbered s numbered)

pub loop_itself : (n : ℕ) → (n == n) ≡ true
loop_itself n = grind (arith, nat_tests)

-- the loop begins a cycle where it can
pub begin_step : (s : State) (n : ℕ) → can_begin s n ≡ true
    → step s s.sessions (Begin n) ≡ Some (begin_effect s, begin_reply s)
unfolding step
begin_step s n can = rw (loop_itself s.sessions, can) refl

-- What is known of the state after all that waited is decided: a cycle can begin in it, which leaves it steady and its
-- serials apart.
pub record HasDecided (s t : State) : Type 0 where
  pub description : t.description ≡ s.description
  pub down : t.aloft ≡ false
  pub unclosed : t.closed ≡ false
  pub within : t.ended < t.description.cycles
  pub numbered : IsNumbered t
  pub counted : length t.loaded ≡ length s.loaded
  pub steady_then : IsSteady (begun t)
  pub numbered_then : IsNumbered (begun t)

pub has_decided : (s t : State) → t ≡ boundary s → IsValid s.description → can_begin s s.ended ≡ true → IsSteady s
    → IsNumbered s → HasDecided s t
has_decided s t is valid can steady numbered =
    let loop = boundary-SameLoop s in
    let few : s.ended < s.description.cycles = begins_within s can in
    subst (HasDecided s) (sym is) (record {
      description = loop.description;
      down = loop.aloft ∙ begins_down s can;
      unclosed = loop.closed ∙ begins_open s can;
      within = rw (loop.ended, loop.description) few;
      numbered = boundary_numbered s numbered;
      counted = count_stays s.loaded (boundary s).loaded (boundary_stays s);
      steady_then =
          step_steady s s.sessions (Begin s.ended) (begin_effect s, begin_reply s) valid steady
          (begin_step s s.ended can);
      numbered_then = begun_numbered s numbered;
    })

-- in it is updated in the order that was planned who is active in it
pub planned_order : (s : State) (plan : Plan) → IsPlanOf s plan → plan.order.items ≡ members_in_order (boundary s)
planned_order s plan is = is.order

-- who is active in it is described
pub order_decided : (s : State) → All (IsAsDescribed s.description) s.loaded
    → All (λ m. m.place < length s.description.controllers) (members_in_order (boundary s))
order_decided s described =
    let same = (boundary-SameLoop s).description in
    let still = described_stay s.description s.loaded (boundary s).loaded (boundary_stays s) described in
    subst (λ (d : Description). All (λ m. m.place < length d.controllers) (members_in_order (boundary s))) same
    (order_within (boundary s)
    (subst (λ (d : Description). All (IsAsDescribed d) (boundary s).loaded) (sym same) still))

-- ---- The cycle goes aloft

-- each is updated in time
pub all_timed : (d : Description) (ls : List Loaded) → AllByRecursion (IsTimedIn d) ls → AllByRecursion HasTime ls
all_timed d [] timed = tt
all_timed d (l ∷ ls) timed = (timed.0.0, all_timed d ls timed.1)

mail_leaves : (s : State) (l : Loaded) → IsSameOne l (without_mail_off s l)
mail_leaves s l = either (is_active l && is_due_now s l)
  where
    either : (b : Bool) → IsSameOne l (if b then record l { mail = None } else l)
    either true = record { serial = refl; place = refl; active = refl }
    either false = record { serial = refl; place = refl; active = refl }

pub begun_actives : (s : State) → actives (begun s).loaded ≡ actives s.loaded
begun_actives s = actives_map (without_mail_off s) (mail_leaves s) s.loaded

-- What is kept then, when the order of updates is the one of now.
pub kept_aloft : (s : State) (names : List (List ℕ)) (before after : Base) (was listed : Listed)
    → IsKept s names before was → IsNumbered s → s.aloft ≡ false → s.closed ≡ false → s.ended < s.description.cycles
    → IsListedOf s listed → listed.current ≡ true → after.robot ≡ before.robot
    → IsBased s.description true listed.order after
    → IsKept (begun s) names after listed
kept_aloft s names before after was listed kept numbered down unclosed within is current same based =
    let actives = begun_actives s in
    let stays = begun_stays s in
    record {
      worked_out = rw same kept.worked_out;
      described = described_stay s.description s.loaded (begun s).loaded stays kept.described;
      divided = divided_stay s.loaded (begun s).loaded stays kept.divided;
      counted = kept.counted;
      few = omega (arith, kept.few, count_stays s.loaded (begun s).loaded stays);
      hardware = rw same (hardware_stays s (begun s) actives refl before.robot.hardware refl refl refl kept.hardware);
      within = λ aloft. within;
      ordered = λ aloft. current;
      unclosed = λ aloft. unclosed;
      no_mail = λ still. cc;
      listed = record {
        active = record {
          counted = is.active.counted;
          told =
              λ p below. is.active.told p below ∙ sym (same_serial s (begun s) actives refl p);
        };
        order = λ now. is.order now ∙ sym (same_order s (begun s) actives refl);
        run = λ now. rw (serials_stay s.loaded (begun s).loaded stays) (is.run now);
      };
      fit = fit_begun s numbered (kept.no_mail down) kept.fit;
      based = based;
    }

-- What is kept of a base that is away.
pub based_aloft : (d : Description) (was order : List Member) (before after : Base) → IsBased d false was before
    → after.size ≡ before.size → after.room ≡ before.room → after.ending ≡ before.ending → after.idle_context ≡ None
    → after.workspaces ≡ [] → HasLines d after.lists → Shows after.robot.hardware after.lists
    → length order ≤ after.stands → length order ≤ after.box_places → IsBased d true order after
based_aloft d was order before after based size room ending away none lines shown stands box_places = record {
  wide = room ∙ based.wide;
  flags = rw ending based.flags;
  home = rw away tt;
  home_is = rw away refl;
  fitted = rw none tt;
  ordered = λ down. cc;
  size = rw size based.size;
  lines = lines;
  shown = λ gone. shown;
  told = λ yes. shown;
  next_lines = λ down. cc;
  stands = λ aloft. stands;
  box_places = λ aloft. box_places;
}

-- and the state is the one of the cycle that begins
pub view_flown : (d : Description) (blanks : Blanks) (sessions loads : ℕ) (slots slots' : Slotted) (asked : Asked)
    (before after : Base) (ended : ℕ) (closed : Bool)
    → slots' ≡ record slots
    { loaded = (begun (state_with d blanks sessions loads slots asked before ended closed)).loaded; aloft = true }
    → after.mails ≡ (begun (state_with d blanks sessions loads slots asked before ended closed)).mails
    → after.robot ≡ before.robot → stand_ins_for d after.erred ≡ stand_ins_for d before.erred
    → state_with d blanks sessions loads slots' asked after ended closed
    ≡ begun (state_with d blanks sessions loads slots asked before ended closed)
view_flown d blanks sessions loads slots slots' asked before after ended closed left off same fell =
    rw (left, off, same, fell) refl
