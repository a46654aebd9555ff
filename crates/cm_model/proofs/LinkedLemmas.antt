-- What a valid description says of what its controllers claim and read.
use Rattle.std.proofs.Common.{◌≡◌, ℕ, zero, suc, true, false, List, [], ◌∷◌, Ok, sym, subst, inl, inr, true≢false}
use Rattle.std.specs.Prelude.{not}
use Rattle.std.specs.List.{AllByRecursion, IsDistinct, find}
use Rattle.std.proofs.lemmas.Bool.{not-false, or_cases}
use Rattle.iface_names.specs.Interfaces.{same_interface}
use Rattle.iface_names.specs.Sameness.{same_interface-Decides}
use Rattle.iface_names.specs.declared.interface.IfaceName.{IfaceName}
use Rattle.cm_document.specs.Described.{states_of}
use Rattle.cm_document.specs.Links.{is_among}
use Rattle.cm_document.specs.Valid.{interfaces_apart, names_apart, links_apart}
use Rattle.cm_document.specs.Valid.{claimable, all_among, links_exist, IsValid}
use Rattle.cm_document.specs.declared.description.CtlDesc.{CtlDesc}
use Rattle.cm_document.specs.declared.description.Description.{Description}
use Rattle.cm_document.specs.declared.faults.CheckFault.TheVariants.{NoInterface}
use Rattle.cm_document.proofs.DistinctLemmas.{all_so, none_found}
use Rattle.cm_document.proofs.ReadingLemmas.{bind_Ok}
use Rattle.cm_document.proofs.ValidParts.{none_told, interfaces_apart-IsDistinct, parts_of_valid}
use Rattle.cm_model.specs.Order.{controller_at}

-- Of what a controller claims and reads:
pub record AreLinked (d : Description) (c : CtlDesc) : Type 0 where
  -- it exists,
  pub claimed : AllByRecursion (λ name. is_among name (claimable d) ≡ true) c.claims
  pub read : AllByRecursion (λ name. is_among name (states_of d.components) ≡ true) c.reads
  -- and nothing stands twice.
  pub claims_differ : IsDistinct same_interface c.claims
  pub reads_differ : IsDistinct same_interface c.reads

-- what was found among these is among them
each_among : (there : List IfaceName) (name : List ℕ) (names : List IfaceName) → all_among there name names ≡ Ok tt
    → AllByRecursion (λ each. is_among each there ≡ true) names
each_among there name names e =
    all_so (λ each. not (is_among each there) ≡ false) (λ each. is_among each there ≡ true)
    (λ each found. not-false (is_among each there) found) names
    (none_found (λ each. not (is_among each there)) names
    (none_told (λ each. NoInterface name each) (find (λ each. not (is_among each there)) names) e))

-- the links of one controller that exist
record Exist (commands states : List IfaceName) (c : CtlDesc) : Type 0 where
  claimed : AllByRecursion (λ name. is_among name commands ≡ true) c.claims
  read : AllByRecursion (λ name. is_among name states ≡ true) c.reads

exist_at : (commands states : List IfaceName) (cs : List CtlDesc) → links_exist commands states cs ≡ Ok tt
    → (p : ℕ) → Exist commands states (controller_at cs p)
exist_at commands states [] e p = record { claimed = tt; read = tt }
exist_at commands states (c ∷ cs) e zero =
    let claims = bind_Ok (all_among commands c.name c.claims) _ tt e in
    let reads = bind_Ok (all_among states c.name c.reads) _ tt claims.2 in
    record { claimed = each_among commands c.name c.claims claims.1; read = each_among states c.name c.reads reads.1 }
exist_at commands states (c ∷ cs) e (suc p) =
    let claims = bind_Ok (all_among commands c.name c.claims) _ tt e in
    let reads = bind_Ok (all_among states c.name c.reads) _ tt claims.2 in
    exist_at commands states cs reads.2 p

-- the links of one controller that differ
record Differ (c : CtlDesc) : Type 0 where
  claims : IsDistinct same_interface c.claims
  reads : IsDistinct same_interface c.reads

differ_at : (cs : List CtlDesc) → links_apart cs ≡ Ok tt → (p : ℕ) → Differ (controller_at cs p)
unfolding IsDistinct
differ_at [] e p = record { claims = tt; reads = tt }
differ_at (c ∷ cs) e zero =
    let claims = bind_Ok (interfaces_apart c.claims) _ tt e in
    let reads = bind_Ok (interfaces_apart c.reads) _ tt claims.2 in
    record {
      claims = interfaces_apart-IsDistinct c.claims claims.1;
      reads =
          interfaces_apart-IsDistinct c.reads reads.1;
    }
differ_at (c ∷ cs) e (suc p) =
    let claims = bind_Ok (interfaces_apart c.claims) _ tt e in
    let reads = bind_Ok (interfaces_apart c.reads) _ tt claims.2 in
    let fallbacks = bind_Ok (names_apart c.fallback) _ tt reads.2 in
    differ_at cs fallbacks.2 p

-- So it is of each controller of a valid description.
pub links_of_valid : (d : Description) → IsValid d → (p : ℕ) → AreLinked d (controller_at d.controllers p)
links_of_valid d ok p =
    let parts = parts_of_valid d ok in
    let exist = exist_at (claimable d) (states_of d.components) d.controllers parts.links p in
    let differ = differ_at d.controllers parts.names.links p in
    record { claimed = exist.claimed; read = exist.read; claims_differ = differ.claims; reads_differ = differ.reads }

-- what holds of all these holds of each that is among them
pub among_all : (P : IfaceName → Type 0) (names : List IfaceName) → AllByRecursion P names → (name : IfaceName)
    → is_among name names ≡ true → P name
among_all P [] all name among = absurd (true≢false (sym among))
among_all P (x ∷ xs) all name among =
    elim (or_cases (same_interface name x) (is_among name xs) among) [
      | inl same ↦ subst P (sym ((same_interface-Decides name x).0 same)) all.0
      | inr later ↦ among_all P xs all.1 name later
    ]
