-- A controller of a valid description has as many claims, reads and references as its parameters say.
use Rattle.std.proofs.Common.{◌≡◌, ℕ, ◌≤◌, ◌^◌, ◌-◌, Bool, true, false, List, length, map, min, Option}
use Rattle.std.proofs.Common.{Some, None, is_some, Ok, refl, sym, ap, subst, ◌∙◌, length-take, arith}
use Rattle.std.specs.Option.{option_map_or}
use Rattle.std.specs.Prelude.{nat_le, ◌==◌, ◌||◌, slice_get, IfSome}
use Rattle.std.proofs.lemmas.Bool.{leb-true, eqb-true, and_parts}
use Rattle.std.proofs.lemmas.List.{length-map}
use Rattle.cm_document.specs.Links.{reference_for, exported_as, exported_for, refs_of}
use Rattle.cm_document.specs.Params.{fewest_claims, most_claims, reads_beside, exports_of}
use Rattle.cm_document.specs.Params.{told_claims, told_reads, claims_of, references_by, AreMadeOf}
use Rattle.cm_document.specs.Valid.{controller_ranged, claims_fit, reads_fit, IsValid}
use Rattle.cm_document.specs.declared.description.CtlDesc.{CtlDesc}
use Rattle.cm_document.specs.declared.description.Description.{Description}
use Rattle.cm_document.specs.declared.description.Params.{Params}
use Rattle.cm_document.specs.declared.description.Exports.{Exports}
use Rattle.cm_document.specs.declared.description.Exports.TheVariants.{Nothing, FirstRead, EachClaim}
use Rattle.cm_document.specs.declared.description.Params.TheVariants.{Forward}
use Rattle.cm_document.specs.declared.shape.Shape.{Shape}
use Rattle.cm_document.proofs.OwnLemmas.{told_claims_are, told_reads_are, reads_of, shape_is}
use Rattle.cm_model.proofs.RangedLemmas.{at_most, IsShaped, described_shapes, controller_in_range, ranged_parts}
use Rattle.cm_model.specs.Controllers.{AreItsCounts}
use Rattle.cm_model.specs.Kinds.{AreItsReads}

-- ---- Ranges

-- what is counted is as long as it is, where it is not long
counted : (outs n : ℕ) → outs ≡ min n (2 ^ 32 - 1) → n ≤ 256 → n ≡ outs
counted outs n is few = omega (arith, is, few)

-- no more are claimed than one may claim
few_by : (p : Params) (n : ℕ) → claims_fit p n ≡ true → n ≤ 32
few_by p n fits =
    let both = and_parts (nat_le (fewest_claims p) n) (nat_le n (most_claims p)) fits in
    omega (arith, leb-true n (most_claims p) both.1, at_most p)

-- ---- Kinds with a number of their own

-- parameters that tell of no claims are of a kind that has as many at least as at most
settled : (p : Params) → (is_some (told_claims p) || nat_le (most_claims p) (fewest_claims p)) ≡ true
settled (Forward outs) = refl
settled _ = refl

-- what exports a reference for what it reads first reads something
abbrev reads_first : Exports → Option ℕ → Bool
reads_first FirstRead reads = option_map_or (nat_le 1) reads false
reads_first _ reads = true

reads_some : (p : Params) → reads_first (exports_of p) (reads_of p) ≡ true
reads_some (Forward outs) = refl
reads_some _ = refl

-- ---- The counts

-- as many are claimed as the parameters tell of, else as many as the kind has
claims_so : (p : Params) (told : Option ℕ) (n : ℕ) → IfSome told (λ outs. outs ≡ min n (2 ^ 32 - 1))
    → (is_some told || nat_le (most_claims p) (fewest_claims p)) ≡ true
    → claims_fit p n ≡ true → n ≡ option_map_or (λ claims. claims) told (most_claims p)
claims_so p (Some outs) n is own fits = counted outs n is (omega (arith, few_by p n fits))
claims_so p None n is own fits =
    let both = and_parts (nat_le (fewest_claims p) n) (nat_le n (most_claims p)) fits in
    omega (
      arith,
      leb-true (fewest_claims p) n both.0,
      leb-true n (most_claims p) both.1,
      leb-true (most_claims p) (fewest_claims p) own,
    )

-- as many are read as the kind has beside its claims
beside_so : (beside : Option ℕ) (n : ℕ) → option_map_or (λ reads. n == reads) beside true ≡ true → AreItsReads beside n
beside_so None n fits = tt
beside_so (Some reads) n fits = eqb-true n reads fits

reads_so : (told beside : Option ℕ) (n : ℕ) → IfSome told (λ ins. ins ≡ min n (2 ^ 32 - 1)) → n ≤ 256
    → option_map_or (λ reads. n == reads) beside true ≡ true
    → AreItsReads (option_map_or Some told beside) n
reads_so (Some ins) beside n is few fits = counted ins n is few
reads_so None beside n is few fits = beside_so beside n fits

-- at least one is read of what is read first
some_read : (reads : Option ℕ) (n : ℕ) → option_map_or (nat_le 1) reads false ≡ true → AreItsReads reads n → 1 ≤ n
some_read None n some are = cc
some_read (Some reads) n some are = omega (arith, leb-true 1 reads some, are)

references_so : (exports : Exports) (c : CtlDesc) (reads : Option ℕ) (claims : ℕ) → reads_first exports reads ≡ true
    → AreItsReads reads (length c.reads) → length c.claims ≡ claims
    → length (exported_as exports c) ≡ references_by exports claims
references_so Nothing c reads claims some are all = refl
references_so FirstRead c reads claims some are all =
    omega (arith, length-take 1 c.reads, some_read reads (length c.reads) some are)
references_so EachClaim c reads claims some are all = all

counts_by : (c : CtlDesc) (p : Params) → AreMadeOf p c.claims c.reads → claims_fit p (length c.claims) ≡ true
    → reads_fit p (length c.claims) (length c.reads) ≡ true → length c.reads ≤ 256
    → AreItsCounts p (length c.reads) (length (map (reference_for c.name) (exported_for p c))) (length c.claims)
counts_by c p made claims reads few =
    let all : length c.claims ≡ claims_of p =
    claims_so p (told_claims p) (length c.claims) (told_claims_are p c.claims c.reads made) (settled p) claims in
    let beside : option_map_or (λ n. length c.reads == n) (reads_beside p (claims_of p)) true ≡ true =
    subst (λ (n : ℕ). option_map_or (λ m. length c.reads == m) (reads_beside p n) true ≡ true) all reads in
    let read : AreItsReads (reads_of p) (length c.reads) =
    reads_so (told_reads p) (reads_beside p (claims_of p)) (length c.reads) (told_reads_are p c.claims c.reads made) few
    beside in
    let shape = sym (shape_is p) in
    record {
      reads = subst (λ (s : Shape). AreItsReads s.reads (length c.reads)) shape read;
      references =
          length-map (exported_for p c) (reference_for c.name)
          ∙ references_so (exports_of p) c (reads_of p) (claims_of p) (reads_some p) read all
          ∙ ap (λ (s : Shape). s.references) shape;
      claims = all ∙ ap (λ (s : Shape). s.claims) shape;
    }

-- the counts of a controller are those of its parameters, and it claims no more than one may
pub record IsWellShaped (c : CtlDesc) : Type 0 where
  pub counts : AreItsCounts c.params (length c.reads) (length (refs_of c)) (length c.claims)
  pub few_claims : length c.claims ≤ 32

controller_so : (path : List ℕ) (c : CtlDesc) → IsShaped c → controller_ranged path c ≡ Ok tt → length c.reads ≤ 256
    → IsWellShaped c
controller_so path c shaped passes few =
    let links = (ranged_parts path c passes).links in
    record {
      counts = counts_by c c.params shaped links.claims links.reads few;
      few_claims = few_by c.params (length c.claims) links.claims;
    }

-- Each controller of a valid description, which reads no more than may be read, has the counts that its parameters say.
pub described_shape : (d : Description) → IsValid d → (place : ℕ) (c : CtlDesc) → slice_get d.controllers place ≡ Some c
    → length c.reads ≤ 256
    → IsWellShaped c
described_shape d sound place c there few =
    let range = controller_in_range d sound place c there in
    controller_so range.path c (described_shapes d sound.described place c there) range.passes few
