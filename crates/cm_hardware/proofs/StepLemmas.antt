-- One component after the other through the reads, writes and steps of a cycle, and to its state on error.
use Rattle.std.proofs.Common.{◌≡◌, ℕ, zero, suc, ◌+◌, Bool, true, false, List, [], ◌∷◌, ◌++◌, map}
use Rattle.std.proofs.Common.{length, take, drop, Option, refl, sym, ap, ap₂, ◌∙◌, arith, ◌⊎◌, inl, inr}
use Rattle.std.specs.Prelude.{slice_get, zip, flat_map, if◌then◌else◌}
use Rattle.std.specs.List.{AllByRecursion}
use Rattle.std.specs.Option.{option_map_or}
use Rattle.std.proofs.lemmas.List.{length-map, take_at, drop_at}
use Rattle.fixed_num.specs.Bodies.{stopped}
use Rattle.fixed_num.specs.declared.value.BodyState.{BodyState}
use Rattle.fixed_num.specs.declared.value.Value.{Value}
use Rattle.cm_document.specs.declared.description.CompDesc.{CompDesc}
use Rattle.cm_document.specs.declared.description.JointDesc.{JointDesc}
use Rattle.cm_document.specs.declared.life.Life.{Life}
use Rattle.cm_document.specs.declared.life.Life.TheVariants.{Unconfigured, Inactive, Active, Finalized}
use Rattle.cm_model.specs.declared.component.JointInterface.{JointInterface}
use Rattle.cm_model.specs.Components.{is_available, write_runs, has_move, is_listed, is_written}
use Rattle.cm_model.specs.Components.{has_failed, life_after, command_interfaces, claimed_by}
use Rattle.cm_model.specs.Components.{driven_bodies, bodies_after_step, commands_after_move}
use Rattle.cm_model.specs.Cycle.{component_is, claims_in, commands_at, component_stepped, components_stepped, period}
use Rattle.cm_model.specs.State.{State}
use Rattle.cm_model.specs.Values.{InterfaceValue, running}
use Rattle.hw_component.specs.Hardware.{Hardware, after_write, after_move}
use Rattle.loan_board.specs.declared.board.Loan.{Loan}
use Rattle.cm_hardware.specs.Holding.{AreClaimed, IsAtRest}
use Rattle.cm_hardware.specs.Wiring.{Mounted, read, fails_read, commands_count, values_at, is_due}
use Rattle.cm_hardware.specs.Wiring.{written, all_written, stepped_on, after_failure, leaves}
use Rattle.cm_hardware.proofs.ReadLemmas.{Agrees}
use Rattle.cm_hardware.proofs.StateLemmas.{asked_of}
use Rattle.cm_hardware.proofs.StillLemmas.{if_both}

-- ---- One component

-- what a write keeps
written_keeps : {B : Type 0} (f : Hardware → B) (n at : ℕ) (loans : List Loan) (m : Mounted)
    → f (record m.hardware { commands = values_at loans at (commands_count m); written = true }) ≡ f m.hardware
    → f (written n at loans m).hardware ≡ f m.hardware
written_keeps f n at loans m same =
    let h = m.hardware in
    let commands = values_at loans at (commands_count m) in
    if_both (λ (x : Mounted). f x.hardware) (is_due m)
    (record { hardware = after_write h n commands; failed = is_listed h.description.fail_write n }) m (f h)
    (if_both f (is_listed h.description.fail_write n) h (record h { commands = commands; written = true }) (f h) refl
    same) refl

-- what a failure keeps
failure_keeps : {B : Type 0} (f : Hardware → B) (m : Mounted)
    → f (record m.hardware {
      life = m.hardware.description.on_error;
      commands =
          commands_after_move m.hardware.description.on_error m.hardware.commands;
    }) ≡ f m.hardware
    → f (after_failure m).hardware ≡ f m.hardware
failure_keeps f m same =
    let h = m.hardware in
    let target = h.description.on_error in
    if_both (λ (x : Mounted). f x.hardware) m.failed (record { hardware = after_move h target; failed = false }) m (f h)
    (if_both f (has_move h.life target) (record h { life = target; commands = commands_after_move target h.commands }) h
    (f h) same refl) refl

-- both keep what is described of it
pub written_description : (n at : ℕ) (loans : List Loan) (m : Mounted)
    → (written n at loans m).hardware.description ≡ m.hardware.description
written_description n at loans m = written_keeps (λ (h : Hardware). h.description) n at loans m refl

pub failure_description : (m : Mounted) → (after_failure m).hardware.description ≡ m.hardware.description
failure_description m = failure_keeps (λ (h : Hardware). h.description) m refl

-- a component that was read, written and stepped
abbrev pub ran_one : ℕ → ℕ → ℕ → List Loan → Mounted → Mounted
ran_one n dt_us at loans m = stepped_on dt_us (written n at loans (read n m))

-- It failed as it is written.
failed_case : (n at : ℕ) (loans : List Loan) (m : Mounted) (runs fails : Bool) → write_runs m.hardware.life ≡ runs
    → fails_read n m ≡ fails
    → (written n at loans (read n m)).failed ≡ has_failed m.hardware.description m.hardware.life n
failed_case n at loans m true true r f = rw (r, f) refl
failed_case n at loans m true false r f = rw (r, f) refl
failed_case n at loans m false true r f = rw (r, f) refl
failed_case n at loans m false false r f = rw (r, f) refl

failed_is : (n at : ℕ) (loans : List Loan) (m : Mounted)
    → (written n at loans (read n m)).failed ≡ has_failed m.hardware.description m.hardware.life n
failed_is n at loans m = failed_case n at loans m (write_runs m.hardware.life) (fails_read n m) refl refl

-- one that failed was inactive or active
ran_there : (c : CompDesc) (life : Life) (n : ℕ) → has_failed c life n ≡ true → is_available life ≡ true
ran_there c Unconfigured n failed = cc
ran_there c Inactive n failed = refl
ran_there c Active n failed = refl
ran_there c Finalized n failed = cc

-- from there every move goes
moves_there : (life target : Life) → is_available life ≡ true → has_move life target ≡ true
moves_there Unconfigured target there = cc
moves_there Inactive target there = refl
moves_there Active target there = refl
moves_there Finalized target there = cc

-- its lifecycle state after a failure
life_case : (x : Mounted) (failed : Bool) → x.failed ≡ failed → (failed ≡ true → is_available x.hardware.life ≡ true)
    → (after_failure x).hardware.life ≡ (if failed then x.hardware.description.on_error else x.hardware.life)
life_case x true is there = rw (is, moves_there x.hardware.life x.hardware.description.on_error (there refl)) refl
life_case x false is there = rw is refl

life_is : (n dt_us at : ℕ) (loans : List Loan) (m : Mounted)
    → (after_failure (ran_one n dt_us at loans m)).hardware.life ≡ life_after m.hardware.description m.hardware.life n
life_is n dt_us at loans m =
    let x = ran_one n dt_us at loans m in
    let failed = has_failed m.hardware.description m.hardware.life n in
    let description : x.hardware.description ≡ m.hardware.description = written_description n at loans (read n m) in
    let life : x.hardware.life ≡ m.hardware.life =
    written_keeps (λ (h : Hardware). h.life) n at loans (read n m) refl in
    life_case x failed (failed_is n at loans m)
    (λ (so : failed ≡ true). rw life (ran_there m.hardware.description m.hardware.life n so))
    ∙ ap₂ (λ (c : CompDesc) (l : Life). if failed then c.on_error else l) description life

-- ---- Whether its interfaces stay available

-- It leaves, and they are not available after it; or it does not, and they are what they were.
abbrev pub Fate : Bool → Bool → Bool → Type 0
Fate left before after = ((left ≡ true) × (after ≡ false)) ⊎ ((left ≡ false) × (after ≡ before))

fate_case : (x : Mounted) (c : CompDesc) (life : Life) (n : ℕ) (failed there : Bool) → x.failed ≡ failed
    → has_failed c life n ≡ failed → x.hardware.description ≡ c
    → is_available c.on_error ≡ there → Fate (leaves x) (is_available life) (is_available (life_after c life n))
fate_case x c life n false there is so description on_error = inr (rw is refl, rw so refl)
fate_case x c life n true true is so description on_error =
    inr (rw (is, description, on_error) refl, rw so (on_error ∙ sym (ran_there c life n so)))
fate_case x c life n true false is so description on_error = inl (rw (is, description, on_error) refl, rw so on_error)

-- ---- All components

-- the components that were read, written and stepped, of which the first has its first command interface at this place
abbrev pub ran : ℕ → ℕ → ℕ → List Loan → List Mounted → List Mounted
ran n dt_us at loans ms = map (stepped_on dt_us) (all_written n at loans (map (read n) ms))

-- the lifecycle states after a cycle
abbrev pub lives_then : ℕ → List Mounted → List Life
lives_then n ms =
    map (λ (p : CompDesc × Life). life_after p.0 p.1 n)
    (zip (map (λ (m : Mounted). m.hardware.description) ms) (map (λ (m : Mounted). m.hardware.life) ms))

pub fates : (n dt_us at : ℕ) (loans : List Loan) (ms : List Mounted) (k : ℕ)
    → Fate (option_map_or leaves (slice_get (ran n dt_us at loans ms) k) false)
    (running (map (λ (m : Mounted). m.hardware.life) ms) k) (running (lives_then n ms) k)
fates n dt_us at loans [] k = inr (refl, refl)
fates n dt_us at loans (m ∷ ms) zero =
    let c = m.hardware.description in
    let failed = has_failed c m.hardware.life n in
    fate_case (ran_one n dt_us at loans m) c m.hardware.life n failed (is_available c.on_error) (failed_is n at loans m)
    refl (written_description n at loans (read n m)) refl
fates n dt_us at loans (m ∷ ms) (suc k) = fates n dt_us (at + commands_count (read n m)) loans ms k

-- they are in these lifecycle states
pub lives_are : (n dt_us at : ℕ) (loans : List Loan) (ms : List Mounted)
    → map (λ (m : Mounted). m.hardware.life) (map after_failure (ran n dt_us at loans ms)) ≡ lives_then n ms
lives_are n dt_us at loans [] = refl
lives_are n dt_us at loans (m ∷ ms) =
    ap₂ (λ (l : Life) (ls : List Life). l ∷ ls) (life_is n dt_us at loans m)
    (lives_are n dt_us (at + commands_count (read n m)) loans ms)

-- at rest
written_off : (x : Mounted) → x.hardware.written ≡ false → (after_failure x).hardware.written ≡ false
written_off x off = failure_keeps (λ (h : Hardware). h.written) x refl ∙ off

cleared : (x : Mounted) → (after_failure x).failed ≡ false
cleared x = cleared_case x x.failed refl
  where
    cleared_case : (x : Mounted) (failed : Bool) → x.failed ≡ failed → (after_failure x).failed ≡ false
    cleared_case x true is = rw is refl
    cleared_case x false is = rw is refl

pub at_rest : (dt_us : ℕ) (ms : List Mounted) → AllByRecursion IsAtRest (map after_failure (map (stepped_on dt_us) ms))
at_rest dt_us [] = tt
at_rest dt_us (m ∷ ms) = (
  record { failed = cleared (stepped_on dt_us m); written = written_off (stepped_on dt_us m) refl },
  at_rest dt_us ms,
)

-- ---- Bodies

-- what is known of a component before its writes: none is to be applied, and it has a body and a claim, or none, for
-- each joint
pub record IsFit (m : Mounted) : Type 0 where
  pub written : m.hardware.written ≡ false
  pub claimed : length m.hardware.claimed ≡ length m.hardware.description.joints
  pub joints : length m.hardware.bodies ≡ length m.hardware.description.joints

step_case : (n dt_us at : ℕ) (loans : List Loan) (m : Mounted) (runs fails listed : Bool) → m.hardware.written ≡ false
    → write_runs m.hardware.life ≡ runs → fails_read n m ≡ fails
    → is_listed m.hardware.description.fail_write n ≡ listed
    → (ran_one n dt_us at loans m).hardware.bodies
    ≡ bodies_after_step m.hardware.description (is_written m.hardware.description m.hardware.life n) m.hardware.claimed
    (values_at loans at (commands_count m)) dt_us m.hardware.bodies
step_case n dt_us at loans m true true listed off r f l = rw (r, f, r, off) refl
step_case n dt_us at loans m true false true off r f l = rw (r, f, l, r, off) refl
step_case n dt_us at loans m true false false off r f l = rw (r, f, l, r) refl
step_case n dt_us at loans m false fails listed off r f l = rw (r, r) refl

bodies_of_one : (n dt_us at : ℕ) (loans : List Loan) (m : Mounted) → m.hardware.written ≡ false
    → (ran_one n dt_us at loans m).hardware.bodies
    ≡ bodies_after_step m.hardware.description (is_written m.hardware.description m.hardware.life n) m.hardware.claimed
    (values_at loans at (commands_count m)) dt_us m.hardware.bodies
bodies_of_one n dt_us at loans m off =
    step_case n dt_us at loans m (write_runs m.hardware.life) (fails_read n m)
    (is_listed m.hardware.description.fail_write n) off refl refl refl

-- what the board holds for these components, the first of which has its first command interface at this place, is what
-- their command interfaces hold
abbrev pub AreHeld : List InterfaceValue → List Loan → ℕ → ℕ → List Mounted → Type 0
AreHeld values loans at component [] = Unit {0}
AreHeld values loans at component (m ∷ ms) =
    (values_at loans at (commands_count m) ≡ map (λ (v : InterfaceValue). v.value) (commands_at component values))
    × AreHeld values loans (at + commands_count m) (component + 1) ms

-- All bodies step as those of the state do.
pub bodies_step : (s : State) (values : List InterfaceValue) (n at component : ℕ) (loans : List Loan)
    (ms : List Mounted)
    → Agrees (component_is is_written s) (asked_of is_written n) component ms → AllByRecursion IsFit ms
    → AreClaimed (record s { values = values }) component ms
    → AreHeld values loans at component ms
    → flat_map (λ (m : Mounted). m.hardware.bodies) (ran n (period s.description) at loans ms)
    ≡ components_stepped s values component (map (λ (m : Mounted). m.hardware.description) ms)
    (flat_map (λ (m : Mounted). m.hardware.bodies) ms)
bodies_step s values n at component loans [] agrees fit claims held = refl
bodies_step s values n at component loans (m ∷ ms) agrees fit claims held =
    let c = m.hardware.description in
    let dt_us = period s.description in
    let commands = commands_at component values in
    let others = flat_map (λ (m : Mounted). m.hardware.bodies) ms in
    let front : take (length c.joints) (m.hardware.bodies ++ others) ≡ m.hardware.bodies =
    take_at m.hardware.bodies others (length c.joints) fit.0.joints in
    let back : drop (length c.joints) (m.hardware.bodies ++ others) ≡ others =
    drop_at m.hardware.bodies others (length c.joints) fit.0.joints in
    let here : (ran_one n dt_us at loans m).hardware.bodies
    ≡ component_stepped s component c commands (take (length c.joints) (m.hardware.bodies ++ others)) =
    bodies_of_one n dt_us at loans m fit.0.written
    ∙ ap (λ (w : Bool). bodies_after_step c w m.hardware.claimed (values_at loans at (commands_count m)) dt_us
    m.hardware.bodies) (sym agrees.0)
    ∙ ap₂ (λ (claimed : List (Option ℕ)) (held : List Value). bodies_after_step c (component_is is_written s component)
    claimed held dt_us m.hardware.bodies) claims.0 held.0
    ∙ ap (λ (b : List BodyState). component_stepped s component c commands b) (sym front) in
    let rest = bodies_step s values n (at + commands_count m) (component + 1) loans ms agrees.1 fit.1 claims.1 held.1 in
    ap₂ (λ (xs ys : List BodyState). xs ++ ys) here
    (rest ∙ ap (λ (b : List BodyState). components_stepped s values (component + 1)
    (map (λ (m : Mounted). m.hardware.description) ms) b) (sym back))

-- a failure changes none
pub bodies_stay : (ms : List Mounted)
    → flat_map (λ (m : Mounted). m.hardware.bodies) (map after_failure ms)
    ≡ flat_map (λ (m : Mounted). m.hardware.bodies) ms
bodies_stay [] = refl
bodies_stay (m ∷ ms) =
    ap₂ (λ (xs ys : List BodyState). xs ++ ys) (failure_keeps (λ (h : Hardware). h.bodies) m refl) (bodies_stay ms)

-- ---- What stays of each

-- as many bodies as joints
driven_length : (commands : List JointInterface) (values : List Value) (dt_us : ℕ) (js : List JointDesc)
    (ks : List (Option ℕ)) (bodies : List BodyState)
    → length ks ≡ length js → length bodies ≡ length js
    → length (driven_bodies commands values dt_us js ks bodies) ≡ length js
driven_length commands values dt_us [] ks bodies claims same = refl
driven_length commands values dt_us (j ∷ js) [] bodies claims same = absurd (omega (arith, claims))
driven_length commands values dt_us (j ∷ js) (k ∷ ks) [] claims same = absurd (omega (arith, same))
driven_length commands values dt_us (j ∷ js) (k ∷ ks) (b ∷ bodies) claims same =
    ap suc (driven_length commands values dt_us js ks bodies (omega (arith, claims)) (omega (arith, same)))

step_length : (c : CompDesc) (written : Bool) (ks : List (Option ℕ)) (values : List Value) (dt_us : ℕ)
    (bodies : List BodyState) → length ks ≡ length c.joints → length bodies ≡ length c.joints
    → length (bodies_after_step c written ks values dt_us bodies) ≡ length c.joints
step_length c true ks values dt_us bodies claims same =
    driven_length (command_interfaces c) values dt_us c.joints ks bodies claims same
step_length c false ks values dt_us bodies claims same = length-map bodies stopped ∙ same

-- what is described of it
description_stays : (n dt_us at : ℕ) (loans : List Loan) (m : Mounted)
    → (after_failure (ran_one n dt_us at loans m)).hardware.description ≡ m.hardware.description
description_stays n dt_us at loans m =
    failure_description (ran_one n dt_us at loans m) ∙ written_description n at loans (read n m)

pub joints_stay : (n dt_us at : ℕ) (loans : List Loan) (ms : List Mounted) → AllByRecursion IsFit ms
    → AllByRecursion (λ (m : Mounted). length m.hardware.bodies ≡ length m.hardware.description.joints)
    (map after_failure (ran n dt_us at loans ms))
joints_stay n dt_us at loans [] fit = tt
joints_stay n dt_us at loans (m ∷ ms) fit =
    let x = ran_one n dt_us at loans m in
    let c = m.hardware.description in
    let count : length (after_failure x).hardware.bodies ≡ length c.joints =
    ap length (failure_keeps (λ (h : Hardware). h.bodies) x refl ∙ bodies_of_one n dt_us at loans m fit.0.written)
    ∙ step_length c (is_written c m.hardware.life n) m.hardware.claimed (values_at loans at (commands_count m)) dt_us
    m.hardware.bodies fit.0.claimed fit.0.joints in (
      count ∙ sym (ap (λ (d : CompDesc). length d.joints) (description_stays n dt_us at loans m)),
      joints_stay n dt_us (at + commands_count m) loans ms fit.1,
    )

-- what is claimed
pub claims_stay : (s : State) (component n dt_us at : ℕ) (loans : List Loan) (ms : List Mounted)
    → AreClaimed s component ms → AreClaimed s component (map after_failure (ran n dt_us at loans ms))
claims_stay s component n dt_us at loans [] claims = tt
claims_stay s component n dt_us at loans (m ∷ ms) claims =
    let x = ran_one n dt_us at loans m in (
      failure_keeps (λ (h : Hardware). h.claimed) x refl
          ∙ written_keeps (λ (h : Hardware). h.claimed) n at loans (read n m) refl ∙ claims.0
          ∙ sym (ap (λ (d : CompDesc). claimed_by d (claims_in s (commands_at component s.values)))
          (description_stays n dt_us at loans m)),
      claims_stay s (component + 1) n dt_us (at + commands_count m) loans ms claims.1,
    )

pub descriptions_stay : (n dt_us at : ℕ) (loans : List Loan) (ms : List Mounted)
    → map (λ (m : Mounted). m.hardware.description) (map after_failure (ran n dt_us at loans ms))
    ≡ map (λ (m : Mounted). m.hardware.description) ms
descriptions_stay n dt_us at loans [] = refl
descriptions_stay n dt_us at loans (m ∷ ms) =
    ap₂ (λ (d : CompDesc) (ds : List CompDesc). d ∷ ds) (description_stays n dt_us at loans m)
    (descriptions_stay n dt_us (at + commands_count m) loans ms)
