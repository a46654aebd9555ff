-- What the hardware of a state hangs on: of the controllers only who owns what and which are active, and what a cycle's
-- updates keep of that.
use Rattle.std.proofs.Common.{◌≡◌, ℕ, Bool, true, false, List, [], ◌∷◌, map, Option}
use Rattle.std.proofs.Common.{Some, None, refl, sym, subst, ap, ap₂, ◌∙◌}
use Rattle.std.specs.Prelude.{◌==◌, ◌&&◌, find, option_map, is_some, if◌then◌else◌}
use Rattle.std.specs.List.{AllByRecursion}
use mathlib.Core.Path.{fun_ext}
use Rattle.fixed_num.specs.declared.value.Value.TheVariants.{Unset}
use Rattle.iface_names.specs.declared.interface.IfaceName.{IfaceName}
use Rattle.cm_document.specs.Places.{Interface}
use Rattle.cm_model.specs.Claims.{states_for, refs_for}
use Rattle.cm_model.specs.Commit.{described_of}
use Rattle.cm_model.specs.Controllers.{runs_chained}
use Rattle.cm_model.specs.Cycle.{tick_of, mail_for, step_of, stepped_at, updated_in, updates}
use Rattle.cm_model.specs.State.{State, Loaded, is_active, active, claims_name, owner, available, available_in}
use Rattle.cm_model.specs.Values.{InterfaceValue}
use Rattle.cm_model.specs.declared.data.CtlData.{CtlData}
use Rattle.cm_model.proofs.ControllerLemmas.{ctl_step_keeps_chained}
use Rattle.cm_model.proofs.UpdateLemmas.{updates_keep, some_as_mapped}
use Rattle.loan_board.specs.declared.board.Loan.{Loan}
use Rattle.cm_hardware.specs.Holding.{IsHardwareOf, IsLent, IsMoved, holder}
use Rattle.cm_hardware.specs.Wiring.{Wired, AreSound, loan_of}
use Rattle.cm_hardware.proofs.MoveLemmas.{frees}

-- ---- Owners after updates

-- what is told of a controller: whether it passes a test, and its serial
abbrev told : Bool → ℕ → Bool × ℕ
told passes serial = (passes, serial)

abbrev seen : (Loaded → Bool) → Loaded → Bool × ℕ
seen test l = told (test l) l.serial

-- what is found hangs on the test and on what is told
find_alike : (test : Loaded → Bool) (xs ys : List Loaded) → map (seen test) xs ≡ map (seen test) ys
    → option_map (λ (l : Loaded). l.serial) (find test xs) ≡ option_map (λ (l : Loaded). l.serial) (find test ys)
find_alike test [] [] same = refl
find_alike test [] (y ∷ ys) same = cc
find_alike test (x ∷ xs) [] same = cc
find_alike test (x ∷ xs) (y ∷ ys) same =
    let head : seen test x ≡ seen test y = cc in
    let tail : map (seen test) xs ≡ map (seen test) ys = cc in
    by_test (test y) (ap (λ (p : Bool × ℕ). p.0) head) refl (ap (λ (p : Bool × ℕ). p.1) head)
    (find_alike test xs ys tail)
  where
    by_test : (b : Bool) → test x ≡ test y → test y ≡ b → x.serial ≡ y.serial
        → option_map (λ (l : Loaded). l.serial) (find test xs) ≡ option_map (λ (l : Loaded). l.serial) (find test ys)
        → option_map (λ (l : Loaded). l.serial) (find test (x ∷ xs))
        ≡ option_map (λ (l : Loaded). l.serial) (find test (y ∷ ys))
    by_test true tests is serials rest = rw (tests ∙ is, is) (ap (λ (n : ℕ). Some n) serials)
    by_test false tests is serials rest = rw (tests ∙ is, is) rest

-- an active controller that claims the interface
abbrev owns : State → IfaceName → Loaded → Bool
owns s name l = is_active l && claims_name s.description.controllers name l

-- is one after a step too
step_owns : (s : State) (values : List InterfaceValue) (name : IfaceName) (serial : ℕ) (l : Loaded)
    → seen (owns s name) (stepped_at s values serial l) ≡ seen (owns s name) l
step_owns s values name serial l = either (l.serial == serial)
  where
    either : (b : Bool)
        → seen (owns s name) (if b then record l { ctl = (step_of s values l).after } else l) ≡ seen (owns s name) l
    either true =
        let after : CtlData = (step_of s values l).after in
        let chained : option_map runs_chained after.run ≡ option_map runs_chained l.ctl.run =
        ctl_step_keeps_chained l.ctl (tick_of s l) (states_for values (described_of s l))
        (refs_for values (described_of s l)) (mail_for s l.serial) in
        let runs : is_some after.run ≡ is_some l.ctl.run =
        sym (some_as_mapped runs_chained after.run) ∙ ap (λ (o : Option Bool). is_some o) chained
        ∙ some_as_mapped runs_chained l.ctl.run in
        ap (λ (b : Bool). told (b && claims_name s.description.controllers name l) l.serial) runs
    either false = refl

-- Updates leave every interface its owner.
pub updates_keep_owners : (s : State) (values : List InterfaceValue) (i : Interface)
    → owner (record s { loaded = (updates s values).loaded }) i ≡ owner s i
updates_keep_owners s values i =
    ap (λ (o : Option ℕ). if i.called.is_command then o else None)
    (find_alike (owns s i.called.name) (updates s values).loaded s.loaded
    (updates_keep s (seen (owns s i.called.name)) (λ vs serial l. step_owns s vs i.called.name serial l)
    (record { loaded = s.loaded; values = values; ran = [] }) (updated_in s)))

-- ---- The hardware of states that differ in their controllers

-- the board as it is lent by such owners while such controllers are active
abbrev lent_by : State → (Interface → Option ℕ) → (ℕ → Bool) → List Loan
lent_by s own controllers =
    map (loan_of (λ (i : Interface). if available_in s.lives controllers i.whose then own i else None)
    (λ (i : Interface). available_in s.lives controllers i.whose)) s.values

pub lent_alike : (s : State) (loaded : List Loaded) (w : Wired)
    → ((i : Interface) → owner (record s { loaded = loaded }) i ≡ owner s i)
    → ((p : ℕ) → active (record s { loaded = loaded }) p ≡ active s p) → IsLent s w
    → IsLent (record s { loaded = loaded }) w
lent_alike s loaded w owned run is =
    let t : State = record s { loaded = loaded } in
    let own : owner s ≡ owner t = sym (fun_ext owned) in
    let controllers : active s ≡ active t = sym (fun_ext run) in
    record {
      wired = record {
        components = is.wired.components;
        lives = is.wired.lives;
        bodies = is.wired.bodies;
        joints =
            is.wired.joints;
        interfaces = is.wired.interfaces;
      };
      loans = is.loans ∙ ap₂ (lent_by s) own controllers;
      places = is.places;
      rest = is.rest;
      empty = subst
          (λ (set : ℕ → Bool). AllByRecursion
          (λ (v : InterfaceValue). available_in s.lives set v.interface.whose ≡ false → v.value ≡ Unset) s.values)
          controllers is.empty;
    }

-- ---- What is owned is available

holder_case : (here : Bool) (o : Option ℕ) → (here ≡ false → o ≡ None) → (if here then o else None) ≡ o
holder_case true o free = refl
holder_case false o free = sym (free refl)

-- where every one of these interfaces that has an owner is available, its owner has it
owners_hold : (s : State) (vs : List InterfaceValue)
    → AllByRecursion (λ v. available s v.interface ≡ false → owner s v.interface ≡ None) vs
    → map (loan_of (holder s) (available s)) vs ≡ map (loan_of (owner s) (available s)) vs
owners_hold s [] free = refl
owners_hold s (v ∷ vs) free =
    let here : Option ℕ
    → Loan = λ (o : Option ℕ). record {
      value = v.value;
      owner = o;
      is_command = v.interface.called.is_command;
      is_available =
          available s v.interface;
    } in
    ap₂ (λ (l : Loan) (ls : List Loan). l ∷ ls)
    (ap here (holder_case (available s v.interface) (owner s v.interface) free.0)) (owners_hold s vs free.1)

-- Where every interface that has an owner is available, and the joints go by the claims, hardware that is lent so is
-- that of the state.
pub moved_is_held : (s : State) (w : Wired)
    → AllByRecursion (λ v. available s v.interface ≡ false → owner s v.interface ≡ None) s.values → IsMoved s w
    → IsHardwareOf s w
moved_is_held s w free moved =
    let is = moved.lent in
    record {
      wired = is.wired;
      loans = is.loans ∙ owners_hold s s.values free;
      places = is.places;
      claims = moved.claims;
      rest = is.rest;
      empty = is.empty;
    }

-- And the hardware of a state is lent so, where nobody owns what is not available.
pub held_is_moved : (s : State) (w : Wired)
    → AllByRecursion (λ v. available s v.interface ≡ false → owner s v.interface ≡ None) s.values → IsHardwareOf s w
    → IsMoved s w
held_is_moved s w free is = record {
  lent = record {
    wired = is.wired;
    loans = is.loans ∙ sym (owners_hold s s.values free);
    places = is.places;
    rest = is.rest;
    empty = is.empty;
  };
  claims = is.claims;
}

-- as it is on each sound board
pub sound_is_moved : (s : State) (w : Wired) → AreSound w.loans → IsHardwareOf s w → IsMoved s w
sound_is_moved s w sound is =
    held_is_moved s w (frees (owner s) s.lives (active s) s.values (rw (sym is.loans) sound)) is
