-- What the updates of a cycle keep of each controller and of each interface, and that each body steps to one.
use Rattle.std.proofs.Common.{◌≡◌, ℕ, zero, suc, ◌+◌, ◌-◌, ◌<◌, ◌≤◌, ℤ, Bool, true, false}
use Rattle.std.proofs.Common.{List, [], ◌∷◌, ◌++◌, length, map, take, drop, Option, Some}
use Rattle.std.proofs.Common.{None, inl, inr, refl, sym, ◌∙◌, subst, ap, true≢false, arith}
use Rattle.std.specs.Prelude.{◌==◌, ◌&&◌, ◌||◌, if◌then◌else◌, option_map, is_some, IfSome, unwrap_or, min}
use Rattle.std.specs.List.{AllByRecursion, list_any}
use Rattle.std.proofs.lemmas.Bool.{and_from, cases_lt}
use Rattle.std.proofs.lemmas.List.{length-append, length-map, length-take, length-drop}
use Rattle.std.proofs.lemmas.List.FromFn.{length-map-range_with_len}
use Rattle.std.proofs.lemmas.Option.{same_Some}
use Rattle.cm_model.proofs.ControllerLemmas.{step_keeps_params}
use Rattle.fixed_num.specs.Bodies.{stopped}
use Rattle.fixed_num.specs.declared.value.BodyState.{BodyState}
use Rattle.fixed_num.specs.declared.value.Value.{Value}
use Rattle.iface_names.specs.Interfaces.{same_interface}
use Rattle.iface_names.specs.declared.interface.IfaceName.{IfaceName}
use Rattle.cm_document.proofs.DistinctLemmas.{all_so, all_map}
use Rattle.cm_document.specs.Links.{joints_of}
use Rattle.cm_document.specs.Places.{Whose, Interface}
use Rattle.cm_document.specs.declared.call.Mail.{Mail}
use Rattle.cm_document.specs.declared.description.CompDesc.{CompDesc}
use Rattle.cm_document.specs.declared.description.CtlDesc.{CtlDesc}
use Rattle.cm_document.specs.declared.description.JointDesc.{JointDesc}
use Rattle.cm_model.proofs.InterfaceLemmas.{all_map_back}
use Rattle.cm_model.proofs.LoadedLemmas.{all_from}
use Rattle.cm_model.proofs.UpdateLemmas.{step_keeps_mark, given_by_keeps, step_keeps_place}
use Rattle.cm_model.specs.Claims.{states_for, refs_for, output_for, given_of, given, given_by}
use Rattle.cm_model.specs.Commit.{described_of}
use Rattle.cm_model.specs.Components.{is_written, command_interfaces, claim_on}
use Rattle.cm_model.specs.Components.{claimed_by, driven_bodies, bodies_after_step}
use Rattle.cm_model.specs.Controllers.{runs_chained, Stepped, mailed, ctl_step}
use Rattle.cm_model.specs.Cycle.{period, component_is, tick_of, mail_for, step_of, stepped_at, Updates, with_step}
use Rattle.cm_model.specs.Cycle.{with_updates, claims_in, commands_at, component_stepped, components_stepped}
use Rattle.cm_model.specs.Loans.{IsEmptyUnless, IsUnsetUnlessClaimed, IsMarked}
use Rattle.cm_model.specs.Order.{Places, controller_at}
use Rattle.cm_model.specs.Scene.{claims_at, is_claimed_by}
use Rattle.cm_model.specs.State.{State, Loaded, is_active}
use Rattle.cm_model.specs.Steady.{IsOwn, HoldsNumber}
use Rattle.cm_model.specs.Values.{InterfaceValue}
use Rattle.cm_model.specs.declared.component.JointInterface.{JointInterface}
use Rattle.cm_model.specs.declared.data.CtlData.{CtlData}
use Rattle.cm_model.specs.declared.data.RunData.{RunData}
use Rattle.cm_storage.specs.declared.ran.Done.{Done}
use Rattle.cm_storage.specs.declared.ran.Done.TheVariants as done
use Rattle.cm_model.specs.declared.tick.Tick.{Tick}
use Rattle.switch_plan.proofs.TestLemmas.{some_below-from}

-- ---- Controllers

mailed_params : (ctl : CtlData) (mail : Mail) (run : Option RunData) → ctl.run ≡ run
    → (mailed ctl mail).params ≡ ctl.params
mailed_params ctl mail None is = rw is refl
mailed_params ctl mail (Some r) is = rw is refl

pub ctl_step_params : (ctl : CtlData) (tick : Tick) (states : List ℤ) (refs : List Value) (mail : Option Mail)
    → (ctl_step ctl tick states refs mail).after.params ≡ ctl.params
ctl_step_params ctl tick states refs None = step_keeps_params ctl ctl.params ctl.run tick states refs
ctl_step_params ctl tick states refs (Some mail) =
    step_keeps_params (mailed ctl mail) (mailed ctl mail).params (mailed ctl mail).run tick states refs
    ∙ mailed_params ctl mail ctl.run refl

stepped_keeps_params : (s : State) (values : List InterfaceValue) (serial : ℕ) (l : Loaded)
    → (stepped_at s values serial l).ctl.params ≡ l.ctl.params
stepped_keeps_params s values serial l = either (l.serial == serial)
  where
    either : (b : Bool) → (if b then record l { ctl = (step_of s values l).after } else l).ctl.params ≡ l.ctl.params
    either true =
        ctl_step_params l.ctl (tick_of s l) (states_for values (described_of s l)) (refs_for values (described_of s l))
        (mail_for s l.serial)
    either false = refl

-- what has the same mark runs as before, and is marked as before
same_runs : (old new : Option RunData) → option_map runs_chained new ≡ option_map runs_chained old
    → is_some new ≡ is_some old
same_runs None None same = refl
same_runs None (Some r) same = cc
same_runs (Some r) None same = cc
same_runs (Some r) (Some r') same = refl

same_mark : (old new : Option RunData) (chained : Bool) → option_map runs_chained new ≡ option_map runs_chained old
    → IfSome old (λ r. runs_chained r ≡ chained)
    → IfSome new (λ r. runs_chained r ≡ chained)
same_mark old None chained same mark = tt
same_mark None (Some r) chained same mark = cc
same_mark (Some r) (Some r') chained same mark = same_Some (runs_chained r') (runs_chained r) same ∙ mark

-- of one place, with the same parameters and running as before it is as described as before
same_own : (controllers : List CtlDesc) (old new : Loaded) → new.place ≡ old.place → new.ctl.params ≡ old.ctl.params
    → is_active new ≡ is_active old
    → IsOwn controllers old → IsOwn controllers new
same_own controllers old new place params runs own = record {
  described = rw (place, params) own.described;
  configured = λ active. rw params (own.configured (sym runs ∙ active));
}

module _ (s : State) (values : List InterfaceValue) (serial : ℕ) (l : Loaded) where
  step_owns : IsOwn s.description.controllers l → IsOwn s.description.controllers (stepped_at s values serial l)
  step_owns own =
      same_own s.description.controllers l (stepped_at s values serial l) (step_keeps_place s values serial l)
      (stepped_keeps_params s values serial l)
      (same_runs l.ctl.run (stepped_at s values serial l).ctl.run (step_keeps_mark s values serial l)) own

  step_marks : (set : Places) → IsMarked s.description.controllers set l
      → IsMarked s.description.controllers set (stepped_at s values serial l)
  step_marks set mark =
      rw (step_keeps_place s values serial l)
      (same_mark l.ctl.run (stepped_at s values serial l).ctl.run _ (step_keeps_mark s values serial l) mark)

-- ---- Interfaces

-- what a controller gives out is no state
given_holds : (there : ℕ → Bool) (claims : List IfaceName) (outs : List Value) (v : InterfaceValue)
    → HoldsNumber there v → HoldsNumber there (given_of claims outs v)
given_holds there claims outs v holds = either v.interface.called.is_command refl
  where
    either : (b : Bool) → v.interface.called.is_command ≡ b
        → HoldsNumber there
        (if b then record v { value = unwrap_or (output_for claims outs v.interface.called.name) v.value } else v)
    either true is = λ state. absurd (true≢false (sym (rw is at state)))
    either false is = holds

given_by_holds : (there : ℕ → Bool) (claims : List IfaceName) (step : Stepped) (values : List InterfaceValue)
    → AllByRecursion (HoldsNumber there) values
    → AllByRecursion (HoldsNumber there) (given_by claims step values)
given_by_holds there claims step values holds = by_end step.done
  where
    by_end : (end : Done)
        → AllByRecursion (HoldsNumber there)
        (elim end [ done.Ok ↦ given claims step.outs values | done.Error ↦ values ])
    by_end done.Ok =
        all_map (HoldsNumber there) (given_of claims step.outs) values
        (all_so (HoldsNumber there) _ (given_holds there claims step.outs) values holds)
    by_end done.Error = holds

-- what is given out is given to a claim
output_claimed : (claims : List IfaceName) (outs : List Value) (name : IfaceName) (value : Value)
    → output_for claims outs name ≡ Some value
    → list_any (λ claim. same_interface claim name) claims ≡ true
output_claimed [] outs name value at = cc
output_claimed (claim ∷ claims) [] name value at = cc
output_claimed (claim ∷ claims) (out ∷ outs) name value at =
    either (same_interface claim name) (output_claimed claims outs name value) at
  where
    either : (b : Bool)
        → (output_for claims outs name ≡ Some value → list_any (λ each. same_interface each name) claims ≡ true)
        → (if b then Some out else output_for claims outs name) ≡ Some value
        → (b || list_any (λ each. same_interface each name) claims) ≡ true
    either true later is = refl
    either false later is = later is

-- what of this controller's claims is listed is there
abbrev pub ClaimsAreThere : (Whose → Bool) → CtlDesc → List Interface → Type 0
ClaimsAreThere there c interfaces =
    AllByRecursion
    (λ x. x.called.is_command ≡ true → list_any (λ claim. same_interface claim x.called.name) c.claims ≡ true
    → there x.whose ≡ true) interfaces

-- so what is not there is given nothing
given_empty : (there : Whose → Bool) (claims : List IfaceName) (outs : List Value) (v : InterfaceValue)
    → (v.interface.called.is_command ≡ true
    → list_any (λ claim. same_interface claim v.interface.called.name) claims ≡ true → there v.interface.whose ≡ true)
    → IsEmptyUnless there v → IsEmptyUnless there (given_of claims outs v)
given_empty there claims outs v claimed empty =
    either v.interface.called.is_command (output_for claims outs v.interface.called.name) refl refl
  where
    either : (b : Bool) (o : Option Value) → v.interface.called.is_command ≡ b
        → output_for claims outs v.interface.called.name ≡ o
        → IsEmptyUnless there (if b then record v { value = unwrap_or o v.value } else v)
    either true None is at = empty
    either true (Some value) is at =
        λ gone. absurd
        (true≢false (sym (claimed is (output_claimed claims outs v.interface.called.name value at)) ∙ gone))
    either false o is at = empty

given_by_empty : (there : Whose → Bool) (c : CtlDesc) (step : Stepped) (values : List InterfaceValue)
    → ClaimsAreThere there c (map (λ v. v.interface) values)
    → AllByRecursion (IsEmptyUnless there) values → AllByRecursion (IsEmptyUnless there) (given_by c.claims step values)
given_by_empty there c step values claimed empty = by_end step.done
  where
    by_end : (end : Done)
        → AllByRecursion (IsEmptyUnless there)
        (elim end [ done.Ok ↦ given c.claims step.outs values | done.Error ↦ values ])
    by_end done.Ok = all_map (IsEmptyUnless there) (given_of c.claims step.outs) values
        (all_from (λ v. v.interface.called.is_command ≡ true
        → list_any (λ claim. same_interface claim v.interface.called.name) c.claims ≡ true
        → there v.interface.whose ≡ true)
        (IsEmptyUnless there) (λ v. IsEmptyUnless there (given_of c.claims step.outs v))
        (given_empty there c.claims step.outs) values
        (all_map_back
        (λ (x : Interface). x.called.is_command ≡ true
        → list_any (λ claim. same_interface claim x.called.name) c.claims ≡ true → there x.whose ≡ true)
        (λ (v : InterfaceValue). v.interface) values claimed) empty)
    by_end done.Error = empty

-- ---- What nobody claims

-- what is past the last controller claims nothing
claims_below : (controllers : List CtlDesc) (p : ℕ) (interface : IfaceName) → claims_at controllers p interface ≡ true
    → p < length controllers
claims_below [] zero interface claims = absurd (true≢false (sym claims))
claims_below [] (suc p) interface claims = absurd (true≢false (sym claims))
claims_below (c ∷ cs) zero interface claims = omega arith
claims_below (c ∷ cs) (suc p) interface claims =
    let below : p < length cs = claims_below cs p interface claims in omega (arith, below)

module _ (controllers : List CtlDesc) (set : Places) (p : ℕ) (member : set p ≡ true) where
  -- what a member of the set gives out stands in what it claims
  given_unclaimed : (outs : List Value) (v : InterfaceValue) → IsUnsetUnlessClaimed controllers set v
      → IsUnsetUnlessClaimed controllers set (given_of (controller_at controllers p).claims outs v)
  given_unclaimed outs v unclaimed =
      either v.interface.called.is_command
      (output_for (controller_at controllers p).claims outs v.interface.called.name) refl refl
    where
      claimed : (value : Value)
          → output_for (controller_at controllers p).claims outs v.interface.called.name ≡ Some value
          → is_claimed_by controllers set v.interface.called.name ≡ true
      claimed value at =
          let claims : claims_at controllers p v.interface.called.name ≡ true =
          output_claimed (controller_at controllers p).claims outs v.interface.called.name value at in
          some_below-from (λ q. set q && claims_at controllers q v.interface.called.name) (length controllers) p
          (claims_below controllers p v.interface.called.name claims)
          (and_from (set p) (claims_at controllers p v.interface.called.name) member claims)

      either : (b : Bool) (o : Option Value) → v.interface.called.is_command ≡ b
          → output_for (controller_at controllers p).claims outs v.interface.called.name ≡ o
          → IsUnsetUnlessClaimed controllers set (if b then record v { value = unwrap_or o v.value } else v)
      either true None is at = unclaimed
      either true (Some value) is at = λ command none. absurd (true≢false (sym (claimed value at) ∙ none))
      either false o is at = unclaimed

  given_by_unclaimed : (step : Stepped) (values : List InterfaceValue)
      → AllByRecursion (IsUnsetUnlessClaimed controllers set) values
      → AllByRecursion (IsUnsetUnlessClaimed controllers set)
      (given_by (controller_at controllers p).claims step values)
  given_by_unclaimed step values unclaimed = by_end step.done
    where
      by_end : (end : Done) → AllByRecursion (IsUnsetUnlessClaimed controllers set)
          (elim end [ done.Ok ↦ given (controller_at controllers p).claims step.outs values | done.Error ↦ values ])
      by_end done.Ok =
          all_map (IsUnsetUnlessClaimed controllers set) (given_of (controller_at controllers p).claims step.outs)
          values
          (all_so (IsUnsetUnlessClaimed controllers set) _ (given_unclaimed step.outs) values unclaimed)
      by_end done.Error = unclaimed

-- ---- All updates

-- what each step keeps of each controller, the updates keep
pub updates_all : (s : State) (P : Loaded → Type 0)
    → ((values : List InterfaceValue) (serial : ℕ) (l : Loaded) → P l → P (stepped_at s values serial l))
    → (u : Updates) (ls : List Loaded) → AllByRecursion P u.loaded → AllByRecursion P (with_updates s u ls).loaded
updates_all s P keeps u [] all = all
updates_all s P keeps u (l ∷ ls) all =
    updates_all s P keeps (with_step s l (step_of s u.values l) u) ls
    (all_map P (stepped_at s u.values l.serial) u.loaded (all_so P _ (keeps u.values l.serial) u.loaded all))

pub updates_own : (s : State) (u : Updates) (ls : List Loaded)
    → AllByRecursion (IsOwn s.description.controllers) u.loaded
    → AllByRecursion (IsOwn s.description.controllers) (with_updates s u ls).loaded
updates_own s u ls all = updates_all s (IsOwn s.description.controllers) (step_owns s) u ls all

pub updates_marked : (s : State) (set : Places) (u : Updates) (ls : List Loaded)
    → AllByRecursion (IsMarked s.description.controllers set) u.loaded
    → AllByRecursion (IsMarked s.description.controllers set) (with_updates s u ls).loaded
updates_marked s set u ls all =
    updates_all s (IsMarked s.description.controllers set)
    (λ values serial l mark. step_marks s values serial l set mark) u ls all

-- and states hold what they held
pub updates_hold : (s : State) (there : ℕ → Bool) (u : Updates) (ls : List Loaded)
    → AllByRecursion (HoldsNumber there) u.values
    → AllByRecursion (HoldsNumber there) (with_updates s u ls).values
updates_hold s there u [] all = all
updates_hold s there u (l ∷ ls) all =
    updates_hold s there (with_step s l (step_of s u.values l) u) ls
    (given_by_holds there (described_of s l).claims (step_of s u.values l) u.values all)

-- and what is not available holds nothing, where all that these claim is
pub updates_empty : (s : State) (there : Whose → Bool) (interfaces : List Interface) (u : Updates) (ls : List Loaded)
    → map (λ (v : InterfaceValue). v.interface) u.values ≡ interfaces
    → AllByRecursion (λ l. ClaimsAreThere there (described_of s l) interfaces) ls
    → AllByRecursion (IsEmptyUnless there) u.values
    → AllByRecursion (IsEmptyUnless there) (with_updates s u ls).values
updates_empty s there interfaces u [] same claimed empty = empty
updates_empty s there interfaces u (l ∷ ls) same claimed empty =
    updates_empty s there interfaces (with_step s l (step_of s u.values l) u) ls
    (given_by_keeps (described_of s l).claims (step_of s u.values l) u.values ∙ same) claimed.1
    (given_by_empty there (described_of s l) (step_of s u.values l) u.values
    (subst (ClaimsAreThere there (described_of s l)) (sym same) claimed.0) empty)

-- nor does what no member of a set claims, of which each of these is
pub updates_unclaimed : (s : State) (set : Places) (u : Updates) (ls : List Loaded)
    → AllByRecursion (λ l. set l.place ≡ true) ls
    → AllByRecursion (IsUnsetUnlessClaimed s.description.controllers set) u.values
    → AllByRecursion (IsUnsetUnlessClaimed s.description.controllers set) (with_updates s u ls).values
updates_unclaimed s set u [] members unclaimed = unclaimed
updates_unclaimed s set u (l ∷ ls) members unclaimed =
    updates_unclaimed s set (with_step s l (step_of s u.values l) u) ls members.1
    (given_by_unclaimed s.description.controllers set l.place members.0 (step_of s u.values l) u.values unclaimed)

-- ---- Bodies

-- as many bodies are driven as there are
driven_count : (commands : List JointInterface) (values : List Value) (dt_us : ℕ) (js : List JointDesc)
    (claims : List (Option ℕ)) (bodies : List BodyState)
    → length claims ≡ length js → length bodies ≤ length js
    → length (driven_bodies commands values dt_us js claims bodies) ≡ length bodies
driven_count commands values dt_us [] claims [] claimed most = refl
driven_count commands values dt_us [] claims (b ∷ bodies) claimed most = absurd (omega (arith, most))
driven_count commands values dt_us (j ∷ js) [] bodies claimed most = absurd (omega (arith, claimed))
driven_count commands values dt_us (j ∷ js) (claim ∷ claims) [] claimed most = refl
driven_count commands values dt_us (j ∷ js) (claim ∷ claims) (b ∷ bodies) claimed most =
    ap suc (driven_count commands values dt_us js claims bodies (omega (arith, claimed)) (omega (arith, most)))

-- so of a component
step_count : (c : CompDesc) (commanded : Bool) (claims : List ℕ) (values : List Value) (dt_us : ℕ)
    (bodies : List BodyState) → length bodies ≤ length c.joints
    → length (bodies_after_step c commanded (claimed_by c claims) values dt_us bodies) ≡ length bodies
step_count c true claims values dt_us bodies most =
    driven_count (command_interfaces c) values dt_us c.joints (claimed_by c claims) bodies
    (length-map-range_with_len (claim_on (command_interfaces c) claims) 0 (length c.joints)) most
step_count c false claims values dt_us bodies most = length-map bodies stopped

-- and each body of a joint of components steps to one
pub stepped_below : (s : State) (values : List InterfaceValue) (component : ℕ) (cs : List CompDesc)
    (bodies : List BodyState) (k : ℕ) → k < length (joints_of cs)
    → k < length bodies → k < length (components_stepped s values component cs bodies)
stepped_below s values component [] bodies k joint body = absurd (omega (arith, joint))
stepped_below s values component (c ∷ cs) bodies k joint body =
    let n = length c.joints in
    let long : length (c.joints ++ joints_of cs) ≡ n + length (joints_of cs) = length-append c.joints (joints_of cs) in
    let taken : length (take n bodies) ≡ min n (length bodies) = length-take n bodies in
    let left : length (drop n bodies) ≡ length bodies - n = length-drop n bodies in
    let commands = commands_at component values in
    let first : length (component_stepped s component c commands (take n bodies)) ≡ length (take n bodies) =
    step_count c (component_is is_written s component) (claims_in s commands) (map (λ v. v.value) commands)
    (period s.description) (take n bodies) (omega (arith, taken)) in
    let rest = components_stepped s values (component + 1) cs (drop n bodies) in
    let both : length (component_stepped s component c commands (take n bodies) ++ rest)
    ≡ length (component_stepped s component c commands (take n bodies)) + length rest =
    length-append (component_stepped s component c commands (take n bodies)) rest in
    elim (cases_lt k n) [
      | inl here ↦ omega (arith, here, body, taken, first, both)
      | inr later ↦
          let more : k - n < length rest =
          stepped_below s values (component + 1) cs (drop n bodies) (k - n) (omega (arith, later, joint, long))
          (omega (arith, later, body, left)) in
          omega (arith, later, body, taken, first, both, more)
    ]
