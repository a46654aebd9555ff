-- Lemmas about what is among interfaces.
use Rattle.std.proofs.Common.{◌≡◌, Bool, true, false, List, ℕ, ◌+◌, ◌<◌, length, get_or}
use Rattle.std.proofs.Common.{take, sym, Some, Err, [], ◌∷◌, ◌++◌, map, ap, refl}
use Rattle.std.specs.Prelude.{not}
use Rattle.std.specs.List.{find}
use Rattle.iface_names.specs.Names.{same_name}
use Rattle.iface_names.specs.declared.interface.IfaceName.TheVariants.{Joint, Reference}
use Rattle.iface_names.specs.declared.kind.Kind.{Kind}
use Rattle.iface_names.specs.declared.interface.IfaceName.{IfaceName}
use Rattle.cm_document.specs.declared.description.CtlDesc.{CtlDesc}
use Rattle.std.proofs.lemmas.List.{append-nil, take_more}
use Rattle.std.proofs.lemmas.List.Concat.{flat_map-append}
use Rattle.cm_document.specs.declared.faults.CheckFault.TheVariants.{NoInterface}
use Rattle.cm_document.specs.Valid.{all_among}
use Rattle.cm_document.specs.Links.{is_among, refs_of, references_of}

-- no reference is among interfaces of a joint
pub no_reference_among : (controller joint named : List ℕ) (kind : Kind) (kinds : List Kind)
    → is_among (Reference controller joint kind) (map (Joint named) kinds) ≡ false
no_reference_among controller joint named kind [] = refl
no_reference_among controller joint named kind (k ∷ ks) = no_reference_among controller joint named kind ks

-- what is not so is false
is_false : (b : Bool) → not b ≡ true → b ≡ false
is_false false so = refl
is_false true so = sym so

-- no interface of another joint is among those of a joint
pub no_other_joint_among : (joint named : List ℕ) (kind : Kind) (kinds : List Kind) → not (same_name joint named) ≡ true
    → is_among (Joint joint kind) (map (Joint named) kinds) ≡ false
no_other_joint_among joint named kind [] other = refl
no_other_joint_among joint named kind (k ∷ ks) other =
    rw (is_false (same_name joint named) other) (no_other_joint_among joint named kind ks other)

-- the references of one controller more
pub references_more : (cs : List CtlDesc) (k : ℕ) (c : CtlDesc) (so_far more : List IfaceName)
    → k < length cs → c ≡ get_or cs k c → so_far ≡ references_of (take k cs) → more ≡ so_far ++ refs_of c
    → more ≡ references_of (take (k + 1) cs)
references_more cs k c so_far more inside at is grown =
    rw (take_more cs k c inside, ← at, flat_map-append refs_of (take k cs) (c ∷ []), ← is, grown)
    (ap (λ rs. so_far ++ rs) (sym (append-nil (refs_of c))))

-- the first interface that is missing is told
pub all_among_missing : (there : List IfaceName) (controller : List ℕ) (interfaces : List IfaceName)
    (missing : IfaceName)
    → Some missing ≡ find (λ i. not (is_among i there)) interfaces
    → all_among there controller interfaces ≡ Err (NoInterface controller missing)
all_among_missing there controller interfaces missing found = rw (← found, all_among) refl
