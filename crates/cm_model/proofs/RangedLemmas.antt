-- A controller of a valid description has parameters with which it can be configured.
use Rattle.std.proofs.Common.{◌≡◌, ℕ, zero, suc, ◌+◌, ◌≤◌, ◌^◌, ◌-◌, Bool, true, false, List}
use Rattle.std.proofs.Common.{[], ◌∷◌, length, min, Some, Ok, refl, sym, subst, ◌∙◌, arith}
use Rattle.std.specs.Prelude.{IfOk, IfSome, Option, None, codes, nat_le, ◌&&◌, slice_get}
use Rattle.std.specs.List.{AllByRecursion, list_all}
use Rattle.std.specs.Option.{option_map_or}
use Rattle.std.proofs.lemmas.Bool.{leb-true, le-leb, and_parts}
use Rattle.std.proofs.lemmas.Option.{same_Some}
use Rattle.sequence.proofs.ListLemmas.{all_at}
use Rattle.iface_names.specs.declared.interface.IfaceName.{IfaceName}
use Rattle.cm_document.specs.Forms.{item_path, inside, tables_of}
use Rattle.cm_document.specs.Described.{a_description, a_grouped, controller_table, controller_form}
use Rattle.cm_document.specs.Described.{type_of, top_table, described_states, is_second, description_form}
use Rattle.cm_document.specs.Params.{fewest_claims, most_claims, limits_at, Bounded, claimed_kind}
use Rattle.cm_document.specs.Params.{read_kind, may_carry, told_claims, shape_of, AreMadeOf}
use Rattle.cm_document.specs.Valid.{ranged, each_ranged, controller_ranged, claims_fit}
use Rattle.cm_document.specs.Valid.{reads_fit, limits_ranged, IsDescribed, IsValid, is_bounded}
use Rattle.cm_document.specs.Valid.{are_all_of, claims_carried, all_bounded, links_ranged}
use Rattle.cm_document.specs.declared.description.CompDesc.{CompDesc}
use Rattle.cm_document.specs.declared.description.CtlDesc.{CtlDesc}
use Rattle.cm_document.specs.declared.description.CtlKind.{CtlKind}
use Rattle.cm_document.specs.declared.description.Description.{Description}
use Rattle.cm_document.specs.declared.description.GroupDesc.{GroupDesc}
use Rattle.cm_document.specs.declared.description.Params.{Params}
use Rattle.cm_document.specs.declared.description.Params.TheVariants.{Forward}
use Rattle.cm_document.specs.declared.limits.TheConstants.{HIGHEST_RATE, MOST_FALLBACKS}
use Rattle.cm_document.specs.declared.shape.Shape.{Shape}
use Rattle.cm_document.proofs.GivenLemmas.{Gives, filled_gives, next_key, any_key}
use Rattle.cm_document.proofs.GivenLemmas.{defaulted_gives, walk_gives, tables_give, anything}
use Rattle.cm_document.proofs.OwnLemmas.{made_once, told_claims_are, shape_is}
use Rattle.cm_document.proofs.ReadingLemmas.{bind_keeps, bind_Ok}
use Rattle.cm_document.proofs.ValidParts.{in_range_passes, parts_of_valid}
use Rattle.cm_model.specs.Kinds.{limits_fit, are_ranged}

-- ---- Parameters count the links

-- the parameters of a described controller tell of its claims and reads what is so
abbrev pub IsShaped : CtlDesc → Type 0
IsShaped c = AreMadeOf c.params c.claims c.reads

-- a controller of each type is read so
table_gives : (states : List IfaceName) (kind : CtlKind) → Gives (controller_table states kind).form.read IsShaped
unfolding controller_table
table_gives states kind =
    any_key {A = Params} _ _ _ (any_key {A = List IfaceName} _ _ _ (any_key {A = List IfaceName} _ _ _
    (any_key {A = List (List ℕ)} _ _ _
    (any_key {A = ℕ} _ _ _ (any_key {A = CtlKind} _ _ _ (any_key {A = List ℕ} _ _ _ (filled_gives _ _
    (λ name type rate fallback claims reads own. made_once own claims reads))))))))

controller_gives : (states : List IfaceName) → Gives (controller_form states).read IsShaped
controller_gives states = record {
  given = λ prefix ms. bind_keeps (λ _. Unit {0}) IsShaped (type_of prefix ms) _ (anything _)
      (λ kind _. (walk_gives (controller_table states kind) IsShaped (table_gives states kind)).given prefix ms);
}

-- and so is each of a description
abbrev AllShaped : Description → Type 0
AllShaped d = AllByRecursion IsShaped d.controllers

top_gives : (states : List IfaceName) (second : Bool) → Gives (top_table states second).form.read AllShaped
unfolding top_table
top_gives states true =
    any_key {A = List GroupDesc} _ _ _ (next_key _ _ (AllByRecursion IsShaped) _
    (any_key {A = List CompDesc} _ _ _
    (any_key {A = ℕ} _ _ _ (any_key {A = ℕ} _ _ _ (any_key {A = ℕ} _ _ _ (filled_gives a_grouped _
    (λ version update_rate cycles components controllers shaped groups. shaped))))))
    (defaulted_gives (codes "controller") (tables_of (controller_form states)) [] _
    (tables_give (controller_form states) IsShaped (controller_gives states)) tt))
top_gives states false =
    next_key _ _ (AllByRecursion IsShaped) AllShaped
    (any_key {A = List CompDesc} _ _ _
    (any_key {A = ℕ} _ _ _ (any_key {A = ℕ} _ _ _ (any_key {A = ℕ} _ _ _ (filled_gives a_description _
    (λ version update_rate cycles components controllers shaped. shaped))))))
    (defaulted_gives (codes "controller") (tables_of (controller_form states)) [] _
    (tables_give (controller_form states) IsShaped (controller_gives states)) tt)

IsDescribed-AllShaped : (d : Description) → IsDescribed d → AllShaped d
unfolding description_form
IsDescribed-AllShaped d (ms, same) =
    subst (λ read. IfOk read AllShaped) same
    ((walk_gives (top_table (described_states ms) (is_second ms)) AllShaped
    (top_gives (described_states ms) (is_second ms))).given [] ms)

-- the parameters of each controller of a description tell of its claims and its reads
pub described_shapes : (d : Description) → IsDescribed d → (place : ℕ) (c : CtlDesc)
    → slice_get d.controllers place ≡ Some c → IsShaped c
described_shapes d described place c there =
    all_at IsShaped d.controllers place c (IsDescribed-AllShaped d described) there

-- ---- Ranges

-- A controller was found within its ranges, under some path.
pub record IsRanged (c : CtlDesc) : Type 0 where
  pub path : List ℕ
  pub passes : controller_ranged path c ≡ Ok tt

in_range_at : (key : List ℕ) (k : ℕ) (cs : List CtlDesc) → each_ranged controller_ranged key k cs ≡ Ok tt
    → (place : ℕ) (c : CtlDesc) → slice_get cs place ≡ Some c → IsRanged c
in_range_at key k [] passes place c there = cc
in_range_at key k (first ∷ later) passes zero c there =
    let here = bind_Ok (controller_ranged (inside (item_path key k)) first) _ tt passes in
    subst IsRanged (same_Some first c there) (record { path = inside (item_path key k); passes = here.1 })
in_range_at key k (first ∷ later) passes (suc place) c there =
    let here = bind_Ok (controller_ranged (inside (item_path key k)) first) _ tt passes in
    in_range_at key (k + 1) later here.2 place c there

-- so was each of a valid description
pub controller_in_range : (d : Description) → IsValid d → (place : ℕ) (c : CtlDesc)
    → slice_get d.controllers place ≡ Some c → IsRanged c
controller_in_range d ok = in_range_at (codes "controller") 0 d.controllers (parts_of_valid d ok).ranges.controllers

both_true : (first b : Bool) → first ≡ true → b ≡ true → (first && b) ≡ true
both_true first b one other = rw (one, other) refl

-- no controller may have more claims than any may
pub at_most : (params : Params) → most_claims params ≤ 32
at_most (Forward outs) = omega arith
at_most _ = omega arith

-- as many as may be are counted
few : (n : ℕ) → n ≤ 32 → min n (2 ^ 32 - 1) ≡ n
few n le = omega (arith, le)

counted_fit : (params : Params) (outs n : ℕ) → outs ≡ min n (2 ^ 32 - 1) → claims_fit params n ≡ true
    → claims_fit params outs ≡ true
counted_fit params outs n counted fits =
    let both = and_parts (nat_le (fewest_claims params) n) (nat_le n (most_claims params)) fits in
    let small : n ≤ 32 = omega (arith, leb-true n (most_claims params) both.1, at_most params) in
    let same : outs ≡ n = counted ∙ few n small in
    rw same fits

-- what its parameters tell of, or else what it has at most, is as many as there may be
told_fit : (params : Params) (told : Option ℕ) (n : ℕ) → IfSome told (λ outs. outs ≡ min n (2 ^ 32 - 1))
    → claims_fit params n ≡ true
    → claims_fit params (option_map_or (λ claims. claims) told (most_claims params)) ≡ true
told_fit params (Some outs) n counted fits = counted_fit params outs n counted fits
told_fit params None n counted fits =
    let most = most_claims params in
    let both = and_parts (nat_le (fewest_claims params) n) (nat_le n most) fits in
    let some : fewest_claims params ≤ most =
    omega (arith, leb-true (fewest_claims params) n both.0, leb-true n most both.1) in
    both_true (nat_le (fewest_claims params) most) (nat_le most most) (le-leb (fewest_claims params) most some)
    (le-leb most most (omega arith))

-- the claims that its parameters tell of are as many as there may be
claims_so : (params : Params) (claims reads : List IfaceName) → AreMadeOf params claims reads
    → claims_fit params (length claims) ≡ true → claims_fit params (shape_of params).claims ≡ true
claims_so params claims reads made fits =
    subst (λ (s : Shape). claims_fit params s.claims ≡ true) (sym (shape_is params))
    (told_fit params (told_claims params) (length claims) (told_claims_are params claims reads made) fits)

-- limits that were found so are not below their least
limits_so : (path : List ℕ) (limits : List Bounded) → all_bounded path limits ≡ Ok tt
    → list_all is_bounded limits ≡ true
limits_so path [] passes = refl
limits_so path (limit ∷ limits) passes =
    let first = bind_Ok (ranged (is_bounded limit) _) _ tt passes in
    both_true (is_bounded limit) (list_all is_bounded limits) (in_range_passes _ _ first.1)
    (limits_so path limits first.2)

params_so : (path : List ℕ) (params : Params) (claims reads : List IfaceName) → AreMadeOf params claims reads
    → claims_fit params (length claims) ≡ true
    → claims_carried params claims ≡ true → limits_ranged path params ≡ Ok tt → are_ranged params ≡ true
params_so path params claims reads shape fits carried limits =
    let carries = and_parts (may_carry params) (are_all_of (claimed_kind params) claims) carried in
    both_true (claims_fit params (shape_of params).claims) (may_carry params && limits_fit params)
    (claims_so params claims reads shape fits)
    (both_true (may_carry params) (limits_fit params) carries.0 (limits_so path (limits_at params) limits))

-- What was found of the links of a controller that was found within its ranges.
pub record HasLinksRanged (c : CtlDesc) : Type 0 where
  pub claims : claims_fit c.params (length c.claims) ≡ true
  pub carried : claims_carried c.params c.claims ≡ true
  pub reads : reads_fit c.params (length c.claims) (length c.reads) ≡ true
  pub read : are_all_of (read_kind c.params) c.reads ≡ true

links_so : (path : List ℕ) (c : CtlDesc) → links_ranged path c ≡ Ok tt → HasLinksRanged c
links_so path c passes =
    let claims = bind_Ok (ranged (claims_fit c.params (length c.claims)) _) _ tt passes in
    let carried = bind_Ok (ranged (claims_carried c.params c.claims) _) _ tt claims.2 in
    let reads = bind_Ok (ranged (reads_fit c.params (length c.claims) (length c.reads)) _) _ tt carried.2 in
    record {
      claims = in_range_passes _ _ claims.1;
      carried = in_range_passes _ _ carried.1;
      reads = in_range_passes _ _ reads.1;
      read = in_range_passes _ _ reads.2;
    }

-- What was found of a controller within its ranges: its links, and its limits.
pub record HasPartsRanged (path : List ℕ) (c : CtlDesc) : Type 0 where
  pub links : HasLinksRanged c
  pub limits : limits_ranged path c.params ≡ Ok tt

pub ranged_parts : (path : List ℕ) (c : CtlDesc) → controller_ranged path c ≡ Ok tt → HasPartsRanged path c
ranged_parts path c passes =
    let rate = bind_Ok (ranged (nat_le c.rate HIGHEST_RATE) _) _ tt passes in
    let fallbacks = bind_Ok (ranged (nat_le (length c.fallback) MOST_FALLBACKS) _) _ tt rate.2 in
    let links = bind_Ok (links_ranged path c) _ tt fallbacks.2 in
    record { links = links_so path c links.1; limits = links.2 }

controller_so : (path : List ℕ) (c : CtlDesc) → IsShaped c → controller_ranged path c ≡ Ok tt
    → are_ranged c.params ≡ true
controller_so path c shaped passes =
    let parts = ranged_parts path c passes in
    params_so path c.params c.claims c.reads shaped parts.links.claims parts.links.carried parts.limits

-- The parameters of each controller of a valid description are in their ranges.
pub described_params_are_ranged : (d : Description) → IsValid d → (place : ℕ) (c : CtlDesc)
    → slice_get d.controllers place ≡ Some c → are_ranged c.params ≡ true
described_params_are_ranged d sound place c there =
    let range = controller_in_range d sound place c there in
    controller_so range.path c (described_shapes d sound.described place c there) range.passes
