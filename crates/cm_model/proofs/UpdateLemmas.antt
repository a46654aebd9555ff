-- What the updates of a cycle leave as it was, and of whom they tell.
use Rattle.std.proofs.Common.{◌≡◌, ℕ, Bool, true, false, List, [], ◌∷◌, ◌++◌, map}
use Rattle.std.proofs.Common.{Option, Some, None, refl, sym, ap, ap₂, ◌∙◌, append_assoc}
use Rattle.std.specs.Prelude.{◌==◌, ◌&&◌, option_map, unwrap_or, is_some, if◌then◌else◌}
use Rattle.std.specs.List.{list_any}
use Rattle.std.proofs.lemmas.List.{map-append, append-nil}
use Rattle.sequence.proofs.ListLemmas.{any_map}
use Rattle.iface_names.specs.declared.interface.IfaceName.{IfaceName}
use Rattle.fixed_num.specs.declared.value.Value.{Value}
use Rattle.cm_model.specs.Claims.{states_for, refs_for, output_for, given_of, given, given_by}
use Rattle.cm_model.specs.Commit.{described_of}
use Rattle.cm_model.specs.Controllers.{runs_chained, Stepped}
use Rattle.cm_model.specs.Components.{read_succeeds}
use Rattle.cm_model.specs.Cycle.{component_is, tick_of, mail_for, step_of, stepped_at, ran_by}
use Rattle.cm_model.specs.Cycle.{Updates, with_step, with_updates, updated_in, updates, cycle}
use Rattle.cm_storage.specs.Ran.{Ran}
use Rattle.cm_model.specs.State.{State, Loaded, is_active, active}
use Rattle.cm_model.specs.Values.{InterfaceValue, after_reads}
use Rattle.cm_storage.specs.declared.ran.Done.{Done}
use Rattle.cm_storage.specs.declared.ran.Done.TheVariants as done
use Rattle.cm_model.proofs.ControllerLemmas.{ctl_step_keeps_chained}

-- ---- Changes that leave a reading as it was

map_keeps : {A B : Type 0} (read : A → B) (f : A → A) → ((x : A) → read (f x) ≡ read x) → (xs : List A)
    → map read (map f xs) ≡ map read xs
map_keeps read f keeps [] = refl
map_keeps {B = B} read f keeps (x ∷ xs) = ap₂ (λ (y : B) (ys : List B). y ∷ ys) (keeps x) (map_keeps read f keeps xs)

-- tests go by what is read
any_same : {A : Type 0} (test : A → Bool) (xs ys : List A) → map test xs ≡ map test ys
    → list_any test xs ≡ list_any test ys
any_same test xs ys same =
    sym (any_map (λ (b : Bool). b) test xs) ∙ ap (list_any (λ (b : Bool). b)) same ∙ any_map (λ (b : Bool). b) test ys

-- ---- Controllers

module _ {B : Type 0} (s : State) (read : Loaded → B)
    (keeps : (values : List InterfaceValue) (serial : ℕ) (l : Loaded) → read (stepped_at s values serial l) ≡ read l)
  where
    -- what no step changes of a controller, no update does
    pub updates_keep : (u : Updates) (ls : List Loaded) → map read (with_updates s u ls).loaded ≡ map read u.loaded
    updates_keep u [] = refl
    updates_keep u (l ∷ ls) =
        updates_keep (with_step s l (step_of s u.values l) u) ls
        ∙ map_keeps read (stepped_at s u.values l.serial) (keeps u.values l.serial) u.loaded

-- a step leaves it active and chained or not, as it was
pub step_keeps_mark : (s : State) (values : List InterfaceValue) (serial : ℕ) (l : Loaded)
    → option_map runs_chained (stepped_at s values serial l).ctl.run ≡ option_map runs_chained l.ctl.run
step_keeps_mark s values serial l = either (l.serial == serial)
  where
    either : (b : Bool)
        → option_map runs_chained (if b then record l { ctl = (step_of s values l).after } else l).ctl.run
        ≡ option_map runs_chained l.ctl.run
    either true =
        ctl_step_keeps_chained l.ctl (tick_of s l) (states_for values (described_of s l))
        (refs_for values (described_of s l)) (mail_for s l.serial)
    either false = refl

-- nor does it change the place
pub step_keeps_place : (s : State) (values : List InterfaceValue) (serial : ℕ) (l : Loaded)
    → (stepped_at s values serial l).place ≡ l.place
step_keeps_place s values serial l = either (l.serial == serial)
  where
    either : (b : Bool) → (if b then record l { ctl = (step_of s values l).after } else l).place ≡ l.place
    either true = refl
    either false = refl

pub some_as_mapped : {A B : Type 0} (f : A → B) (o : Option A) → is_some (option_map f o) ≡ is_some o
some_as_mapped f None = refl
some_as_mapped f (Some x) = refl

step_keeps_active : (s : State) (values : List InterfaceValue) (serial p : ℕ) (l : Loaded)
    → (is_active (stepped_at s values serial l) && (stepped_at s values serial l).place == p)
    ≡ (is_active l && l.place == p)
step_keeps_active s values serial p l =
    let l' = stepped_at s values serial l in
    let runs : is_active l' ≡ is_active l =
    sym (some_as_mapped runs_chained l'.ctl.run)
    ∙ ap (λ (o : Option Bool). is_some o) (step_keeps_mark s values serial l) ∙ some_as_mapped runs_chained l.ctl.run in
    ap₂ (λ (b : Bool) (place : ℕ). b && place == p) runs (step_keeps_place s values serial l)

-- Updates leave active who was.
pub updates_leave_active : (s : State) (values : List InterfaceValue) (p : ℕ)
    → active (record s { loaded = (updates s values).loaded }) p ≡ active s p
updates_leave_active s values p =
    any_same (λ (l : Loaded). is_active l && l.place == p) (updates s values).loaded s.loaded
    (updates_keep s (λ (l : Loaded). is_active l && l.place == p) (λ vs serial l. step_keeps_active s vs serial p l)
    (record { loaded = s.loaded; values = values; ran = [] }) (updated_in s))

-- ---- Interfaces

given_keeps : (claims : List IfaceName) (outs : List Value) (v : InterfaceValue)
    → (given_of claims outs v).interface ≡ v.interface
given_keeps claims outs v =
    either v.interface.called.is_command (unwrap_or (output_for claims outs v.interface.called.name) v.value)
  where
    either : (b : Bool) (value : Value) → (if b then record v { value = value } else v).interface ≡ v.interface
    either true value = refl
    either false value = refl

-- an update changes what the interfaces hold, and nothing else
pub given_by_keeps : (claims : List IfaceName) (step : Stepped) (values : List InterfaceValue)
    → map (λ (v : InterfaceValue). v.interface) (given_by claims step values)
    ≡ map (λ (v : InterfaceValue). v.interface) values
given_by_keeps claims step values = by_end step.done
  where
    by_end : (end : Done)
        → map (λ (v : InterfaceValue). v.interface)
        (elim end [ done.Ok ↦ given claims step.outs values | done.Error ↦ values ])
        ≡ map (λ (v : InterfaceValue). v.interface) values
    by_end done.Ok =
        map_keeps (λ (v : InterfaceValue). v.interface) (given_of claims step.outs) (given_keeps claims step.outs)
        values
    by_end done.Error = refl

pub updates_keep_interfaces : (s : State) (u : Updates) (ls : List Loaded)
    → map (λ (v : InterfaceValue). v.interface) (with_updates s u ls).values
    ≡ map (λ (v : InterfaceValue). v.interface) u.values
updates_keep_interfaces s u [] = refl
updates_keep_interfaces s u (l ∷ ls) =
    updates_keep_interfaces s (with_step s l (step_of s u.values l) u) ls
    ∙ given_by_keeps (described_of s l).claims (step_of s u.values l) u.values

-- ---- Of whom a cycle tells

-- of each that is updated, in order
pub updates_tell : (s : State) (u : Updates) (ls : List Loaded)
    → map (λ (ran : Ran). ran.serial) (with_updates s u ls).ran
    ≡ map (λ (ran : Ran). ran.serial) u.ran ++ map (λ (l : Loaded). l.serial) ls
updates_tell s u [] = sym (append-nil (map (λ (ran : Ran). ran.serial) u.ran))
updates_tell s u (l ∷ ls) =
    let step = step_of s u.values l in
    updates_tell s (with_step s l step u) ls
    ∙ ap (λ (front : List ℕ). front ++ map (λ (each : Loaded). each.serial) ls)
    (map-append (λ (ran : Ran). ran.serial) u.ran (ran_by l step ∷ []))
    ∙ append_assoc (map (λ (ran : Ran). ran.serial) u.ran) (l.serial ∷ []) (map (λ (each : Loaded). each.serial) ls)

pub cycle_tells : (s : State)
    → map (λ (ran : Ran). ran.serial) (cycle s).happened.ran ≡ map (λ (l : Loaded). l.serial) (updated_in s)
unfolding cycle
cycle_tells s =
    updates_tell s
    (record { loaded = s.loaded; values = after_reads (component_is read_succeeds s) s.bodies s.values; ran = [] })
    (updated_in s)
