-- Fallbacks are told of by the begin behind an end that owes them, and by no other call.
use Rattle.std.proofs.Common.{◌≡◌, ℕ, Bool, true, false, List, [], ◌∷◌, ◌++◌, length}
use Rattle.std.proofs.Common.{map, cond, Some, None, refl, sym, ◌∙◌, subst, ap}
use Rattle.std.specs.Prelude.{◌==◌, not, filter, flat_map, Option}
use Rattle.std.proofs.Math.Dec.{eqb-suc-zero}
use Rattle.std.proofs.lemmas.Option.{same_Some}
use Rattle.cm_document.specs.declared.call.Call.{Call}
use Rattle.cm_document.specs.declared.call.Call.TheVariants.{Begin, End, Close}
use Rattle.cm_document.specs.declared.life.Life.{Life}
use Rattle.cm_model.proofs.StayLemmas.{IsStep}
use Rattle.cm_model.specs.BestEffort.{decided}
use Rattle.cm_model.specs.Boundary.{waiting, standing_in, after_standing_in, after_fallbacks, told_of_fallbacks}
use Rattle.cm_model.specs.Boundary.{with_switch, component_place, move_fault, with_move_unless, with_move}
use Rattle.cm_model.specs.Boundary.{concluded, with_outcome, all_concluded, boundary, decisions_between}
use Rattle.cm_model.specs.Boundary.{begin_effect, begin_reply, close_effect, close_reply}
use Rattle.cm_model.specs.Commit.{scene_of, commit}
use Rattle.cm_model.specs.Cycle.{is_error, fallbacks_of, fallbacks_after, cycle, after_cycle}
use Rattle.cm_model.specs.Machine.{LegalFrom}
use Rattle.cm_model.specs.Sound.{moments, decisions_in, ticketed, IsLed, IsLedAt, called_for, owed_after, LedFrom}
use Rattle.cm_model.specs.State.{State}
use Rattle.cm_model.specs.Switches.{Decided, refused, done}
use Rattle.cm_model.specs.declared.cause.Cause.{Cause}
use Rattle.cm_model.specs.declared.cause.Decision.{Decision}
use Rattle.cm_model.specs.declared.entry.Entry.{Entry}
use Rattle.cm_model.specs.declared.reply.Reply.{Reply}
use Rattle.cm_model.specs.declared.reply.Reply.TheVariants as reply
use Rattle.cm_model.specs.declared.request.Request.{Request}
use Rattle.cm_model.specs.declared.request.Request.TheVariants as request
use Rattle.cm_storage.specs.Ran.{Ran}
use Rattle.sound_laws.proofs.MomentLemmas.{moment_of, legal_step}
use Rattle.sound_laws.proofs.ReplyLemmas.{Decides}
use Rattle.sound_laws.proofs.TicketLemmas.{between_ticketed}
use Rattle.sound_laws.proofs.ToldLemmas.{IsPlain, plain_stays, none_told}

-- there are some
abbrev some_of : List (List ℕ) → Bool
some_of names = not (length names == 0)

some_cons : (name : List ℕ) (names : List (List ℕ)) → some_of (name ∷ names) ≡ true
some_cons name names = ap not (eqb-suc-zero (length names))

-- ---- Requests leave those that are to stand in as they are

switch_keeps : (s : State) (d : Decided) → (with_switch s d).state.fallbacks ≡ s.fallbacks
unfolding commit
switch_keeps s (refused because) = refl
switch_keeps s (done dropped set again) = refl

move_keeps : (s : State) (name : List ℕ) (component : ℕ) (target : Life) (o : Option Cause)
    → (with_move_unless s name component target o).state.fallbacks ≡ s.fallbacks
move_keeps s name component target None = refl
move_keeps s name component target (Some c) = refl

place_keeps : (s : State) (name : List ℕ) (target : Life) (o : Option ℕ)
    → (with_move s name target o).state.fallbacks ≡ s.fallbacks
place_keeps s name target None = refl
place_keeps s name target (Some component) = move_keeps s name component target (move_fault s component target)

concluded_leaves : (s : State) (r : Request) → (concluded s r).state.fallbacks ≡ s.fallbacks
concluded_leaves s (request.Switch r) = switch_keeps s (decided (scene_of s) r)
concluded_leaves s (request.Hardware component target) =
    place_keeps s component target (component_place s.description component)

all_leave : (s : State) (rs : List Request) → (all_concluded s rs).fallbacks ≡ s.fallbacks
unfolding all_concluded
all_leave s [] = refl
all_leave s (r ∷ rs) = all_leave (with_outcome (concluded s r)) rs ∙ concluded_leaves s r

-- once they were asked for, none is left
none_left : (s : State) (names : List (List ℕ)) → s.fallbacks ≡ names → (after_standing_in s names).fallbacks ≡ []
none_left s [] is = is
none_left s (name ∷ names) is = concluded_leaves (record s { fallbacks = [] }) (standing_in (name ∷ names))

pub begin_leaves_none : (s : State) → (begin_effect s).fallbacks ≡ []
begin_leaves_none s = all_leave (after_fallbacks s) (waiting (after_fallbacks s)) ∙ none_left s s.fallbacks refl

-- ---- What is told of them

-- a begin tells of them first, where there are some
led : (s : State) (names : List (List ℕ)) (ds : List Decision) → ticketed ds ≡ ds
    → IsLed (some_of names) (told_of_fallbacks s names ++ ds)
led s [] ds all = all
led s (name ∷ names) ds all =
    subst (λ (b : Bool). IsLed b (told_of_fallbacks s (name ∷ names) ++ ds)) (sym (some_cons name names))
    (refl, (_, refl), all)

-- ---- Which ends owe them

-- those are to stand in after a cycle that its record calls for
owes : (s : State) (ran : List Ran)
    → flat_map (λ (one : Ran). cond (is_error one.done) (fallbacks_of s one.serial) []) ran ≡ fallbacks_after s ran
owes s [] = refl
owes s (one ∷ ran) =
    ap (λ (names : List (List ℕ)). cond (is_error one.done) (fallbacks_of s one.serial) [] ++ names) (owes s ran)
    ∙ sym (erred_case (is_error one.done))
  where
    erred_case : (failed : Bool)
        → flat_map (fallbacks_of s)
        (map (λ (each : Ran). each.serial)
        (cond failed (one ∷ filter (λ (each : Ran). is_error each.done) ran)
        (filter (λ (each : Ran). is_error each.done) ran)))
        ≡ cond failed (fallbacks_of s one.serial) [] ++ fallbacks_after s ran
    erred_case true = refl
    erred_case false = refl

-- ---- Histories

never_decides : (call : Call) → IsPlain call → Decides call → ⊥
never_decides (Begin number) plain decides = plain
never_decides Close plain decides = plain
never_decides _ plain decides = decides

none_led : (r : Reply) → decisions_in r ≡ [] → ticketed (decisions_in r) ≡ decisions_in r
none_led r none = subst (λ (ds : List Decision). ticketed ds ≡ ds) (sym none) refl

module _ (s : State) (made : State × Reply) (owed : List (List ℕ)) (is_owed : owed ≡ s.fallbacks) where
  -- each call tells of them where they are owed
  led_at : (call : Call) → IsStep s call made → (IsPlain call → decisions_in made.1 ≡ [])
      → IsLedAt owed (moment_of s call made) call
  led_at (Begin number) is none = (
    sym is_owed,
    subst (λ (answer : Reply). IsLed (some_of owed) (decisions_in answer)) (same_Some (begin_reply s) made.1 is.replied)
        (subst (λ (names : List (List ℕ)). IsLed (some_of names) (decisions_in (begin_reply s))) (sym is_owed)
        (led s s.fallbacks (decisions_between s (boundary s)) (between_ticketed s (boundary s)))),
  )
  led_at (End number) is none =
      subst (λ (answer : Reply). ticketed (decisions_in answer) ≡ decisions_in answer)
      (same_Some (reply.Cycle (cycle s).happened) made.1 is.replied) refl
  led_at Close is none =
      subst (λ (answer : Reply). ticketed (decisions_in answer) ≡ decisions_in answer)
      (same_Some (close_reply s) made.1 is.replied) (between_ticketed s (close_effect s))
  led_at _ is none = none_led made.1 (none tt)

  -- and after it those are owed that are to stand in
  owed_then : (call : Call) → IsStep s call made → (IsPlain call → made.0.fallbacks ≡ s.fallbacks)
      → owed_after owed (moment_of s call made) call ≡ made.0.fallbacks
  unfolding after_cycle commit
  owed_then (Begin number) is stays = sym (ap (λ (t : State). t.fallbacks) is.next ∙ begin_leaves_none s)
  owed_then (End number) is stays =
      subst (λ (answer : Reply). called_for s answer ≡ made.0.fallbacks)
      (same_Some (reply.Cycle (cycle s).happened) made.1 is.replied)
      (owes s (cycle s).happened.ran ∙ sym (ap (λ (t : State). t.fallbacks) is.next))
  owed_then Close is stays = is_owed ∙ sym (ap (λ (t : State). t.fallbacks) is.next)
  owed_then _ is stays = is_owed ∙ sym (stays tt)

  -- both for the call that was made
  led_now : (call : Call) → IsStep s call made → IsLedAt owed (moment_of s call made) call
  led_now call is = led_at call is (λ plain. none_told s call made.1 (never_decides call plain) is.replied)

  owed_now : (call : Call) → IsStep s call made → owed_after owed (moment_of s call made) call ≡ made.0.fallbacks
  owed_now call is =
      owed_then call is (λ plain. ap (λ (t : State). t.fallbacks) is.next ∙ (plain_stays s call made.1 plain).fallbacks)

-- Along each legal history fallbacks are asked for where they are owed, and no others.
pub led_from : (s : State) (owed : List (List ℕ)) (history : List Entry) → owed ≡ s.fallbacks → LegalFrom s history
    → LedFrom owed (moments s history)
led_from s owed [] is_owed legal = tt
led_from s owed (e ∷ es) is_owed legal =
    let first = legal_step s e es legal in
    subst (LedFrom owed) (sym first.are) (
      led_now s first.made owed is_owed e.call first.is,
      led_from first.made.0 _ es (owed_now s first.made owed is_owed e.call first.is) first.later,
    )
