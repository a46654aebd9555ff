-- What can be made of a description: the components of a valid one.
use Rattle.std.proofs.Common.{◌≡◌, ℕ, ◌+◌, ◌*◌, div-le_self, ◌≤◌, ℤ, pos, negsuc, ◌≤ℤ◌}
use Rattle.std.proofs.Common.{true, List, [], ◌∷◌, length, Result, Ok, arith, length-append}
use Rattle.std.specs.Prelude.{codes}
use Rattle.std.specs.List.{All}
use Rattle.std.proofs.lemmas.Nat.{le-div}
use Rattle.joint_body.specs.declared.TheConstants.{LONGEST_STEP}
use Rattle.cm_model.specs.Cycle.{period}
use Rattle.cm_model.specs.declared.TheConstants.{SECOND_US}
use Rattle.std.proofs.lemmas.Int.{ints}
use Rattle.std.proofs.lemmas.List.Elements.{All-nil, All-cons}
use Rattle.fixed_num.specs.Bodies.{IsPlant}
use Rattle.cm_document.specs.declared.limits.TheConstants.{MOST_JOINTS}
use Rattle.cm_document.specs.Forms.{item_path, inside}
use Rattle.cm_document.specs.Links.{joints_of}
use Rattle.cm_document.specs.Valid.{not_negative, ranged, each_ranged, joint_ranged}
use Rattle.cm_document.specs.Valid.{component_ranged, joint_count_fits, IsValid}
use Rattle.cm_document.specs.declared.description.CompDesc.{CompDesc}
use Rattle.cm_document.specs.declared.description.CompKind.{CompKind}
use Rattle.cm_document.specs.declared.description.Description.{Description}
use Rattle.cm_document.specs.declared.description.JointDesc.{JointDesc}
use Rattle.cm_document.specs.declared.faults.CheckFault.{CheckFault}
use Rattle.cm_document.proofs.ReadingLemmas.{bind_Ok}
use Rattle.cm_model.specs.Components.{plant_of}
use Rattle.hw_component.specs.Hardware.{CanBeMade}
use Rattle.cm_document.proofs.ValidParts.{in_range_passes, parts_of_valid}

-- ---- Ranges

-- where each item of a list is within its ranges, what that means holds of each
each_so : {A : Type 0} (P : A → Type 0) (rule : List ℕ → A → Result (Unit {0}) CheckFault)
    → ((path : List ℕ) (x : A) (u : Unit {0}) → rule path x ≡ Ok u → P x)
    → (key : List ℕ) (k : ℕ) (xs : List A) (u : Unit {0}) → each_ranged rule key k xs ≡ Ok u → All P xs
each_so P rule means key k [] u e = All-nil P
each_so P rule means key k (x ∷ xs) u e =
    let here = bind_Ok (rule (inside (item_path key k)) x) _ u e in
    All-cons P x xs (means _ x here.0 here.1) (each_so P rule means key (k + 1) xs u here.2)

-- a number that is not negative
some : (z : ℤ) → not_negative z ≡ true → pos 0 ≤ℤ z
some (pos n) e = omega (arith, ints)
some (negsuc n) e = let f = e in cc

-- of a joint within its ranges no number that its body moves by is negative
joint_so : (kind : CompKind) (path : List ℕ) (joint : JointDesc) (u : Unit {0}) → joint_ranged kind path joint ≡ Ok u
    → IsPlant (plant_of joint)
joint_so kind path joint u e =
    let vmax = bind_Ok (ranged (not_negative joint.vmax) _) _ u e in
    let gain = bind_Ok (ranged (not_negative joint.gain) _) _ u vmax.2 in
    let damping = bind_Ok (ranged (not_negative joint.damping) _) _ u gain.2 in
    record {
      vmax = some joint.vmax (in_range_passes _ _ vmax.1);
      gain = some joint.gain (in_range_passes _ _ gain.1);
      damping = some joint.damping (in_range_passes _ _ damping.1);
    }

-- nor of one of a component
component_so : (path : List ℕ) (c : CompDesc) (u : Unit {0}) → component_ranged path c ≡ Ok u
    → All (λ joint. IsPlant (plant_of joint)) c.joints
component_so path c u e =
    let count = bind_Ok (ranged (joint_count_fits c.kind (length c.joints)) _) _ u e in
    each_so (λ joint. IsPlant (plant_of joint)) (joint_ranged c.kind) (joint_so c.kind) _ 0 c.joints u count.2

-- ---- Counts

-- no component has more joints than all together
joints_fit : (n : ℕ) (cs : List CompDesc) → length (joints_of cs) ≤ n → All (λ c. length c.joints ≤ n) cs
joints_fit n [] few = All-nil (λ c. length c.joints ≤ n)
joints_fit n (c ∷ cs) few =
    let both = length-append c.joints (joints_of cs) in
    All-cons (λ c. length c.joints ≤ n) c cs (omega (arith, both, few)) (joints_fit n cs (omega (arith, both, few)))

-- both together
both_so : (cs : List CompDesc) → All (λ c. All (λ joint. IsPlant (plant_of joint)) c.joints) cs
    → All (λ c. length c.joints ≤ MOST_JOINTS) cs → All CanBeMade cs
both_so cs plants few k d below =
    record { plants = plants k d below; joints = let n = few k d below in omega (arith, n) }

-- ---- The period

-- the period of a valid description is a time by which bodies can step
pub valid_period : (d : Description) → IsValid d → (1 ≤ d.update_rate) × (1 ≤ period d) × (period d ≤ LONGEST_STEP)
valid_period d sound =
    let ranges = (parts_of_valid d sound).ranges in
    let fits : 1 * d.update_rate ≤ SECOND_US = omega (arith, ranges.rate) in (
      ranges.rate_is_some,
      le-div 1 SECOND_US d.update_rate ranges.rate_is_some fits,
      div-le_self SECOND_US d.update_rate,
    )

-- ---- Components

-- each component of a valid description can be made
pub valid_can_be_made : (d : Description) → IsValid d → All CanBeMade d.components
valid_can_be_made d ok =
    let parts = parts_of_valid d ok in
    both_so d.components
    (each_so (λ c. All (λ joint. IsPlant (plant_of joint)) c.joints) component_ranged component_so (codes "component") 0
    d.components tt parts.ranges.components)
    (joints_fit MOST_JOINTS d.components parts.few.joints)
