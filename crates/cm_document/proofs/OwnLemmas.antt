-- What the claims and the reads tell of parameters.
use Rattle.std.proofs.Common.{◌≡◌, ℕ, List, Option, Some, None, option_map, refl, sym, ap, ◌∙◌}
use Rattle.std.specs.Prelude.{IfSome}
use Rattle.std.specs.Option.{option_map_or}
use Rattle.std.proofs.lemmas.Option.{same_Some}
use Rattle.iface_names.specs.declared.interface.IfaceName.{IfaceName}
use Rattle.cm_document.specs.Given.{AreNumbers}
use Rattle.cm_document.specs.Params.{count, reads_beside, exports_of, told_claims, told_reads}
use Rattle.cm_document.specs.Params.{made_of, claims_of, references_by, shape_of, AreMadeOf}
use Rattle.cm_document.specs.declared.description.Params.{Params}
use Rattle.cm_document.specs.declared.description.Params.TheVariants as params

-- ---- What claims and reads tell

-- told once more, it is the same
pub made_once : (own : Params) (claims reads : List IfaceName) → AreMadeOf (made_of own claims reads) claims reads
made_once (params.Forward outs) claims reads = refl
made_once _ claims reads = refl

-- the count of claims is told, where there is one
claims_told : (own : Params) (claims reads : List IfaceName)
    → told_claims (made_of own claims reads) ≡ option_map (λ outs. count claims) (told_claims own)
claims_told (params.Forward outs) claims reads = refl
claims_told _ claims reads = refl

-- so is that of the reads
reads_told : (own : Params) (claims reads : List IfaceName)
    → told_reads (made_of own claims reads) ≡ option_map (λ ins. count reads) (told_reads own)
reads_told (params.Forward outs) claims reads = refl
reads_told _ claims reads = refl

told_so : (told : Option ℕ) (n : ℕ) → told ≡ option_map (λ m. n) told → IfSome told (λ m. m ≡ n)
told_so None n same = tt
told_so (Some m) n same = same_Some m n same

-- as many claims are told of as there are
pub told_claims_are : (p : Params) (claims reads : List IfaceName) → AreMadeOf p claims reads
    → IfSome (told_claims p) (λ outs. outs ≡ count claims)
told_claims_are p claims reads made =
    told_so (told_claims p) (count claims) (ap told_claims (sym made) ∙ claims_told p claims reads)

-- and as many reads
pub told_reads_are : (p : Params) (claims reads : List IfaceName) → AreMadeOf p claims reads
    → IfSome (told_reads p) (λ ins. ins ≡ count reads)
told_reads_are p claims reads made =
    told_so (told_reads p) (count reads) (ap told_reads (sym made) ∙ reads_told p claims reads)

-- ---- Shapes

-- how many it reads: as many as it tells of, else as many as beside its claims
abbrev pub reads_of : Params → Option ℕ
reads_of p = option_map_or Some (told_reads p) (reads_beside p (claims_of p))

-- how many interfaces it has of each sort
pub shape_is : (own : Params)
    → shape_of own
    ≡ record {
      claims = claims_of own;
      reads = reads_of own;
      references =
          references_by (exports_of own) (claims_of own);
    }
shape_is (params.Forward outs) = refl
shape_is _ = refl

-- ---- Numbers

-- what claims and reads tell is none of these
pub made_numbers : (own : Params) (claims reads : List IfaceName) → AreNumbers own
    → AreNumbers (made_of own claims reads)
made_numbers (params.Forward outs) claims reads numbers = record { within = numbers.within; wholes = numbers.wholes }
made_numbers _ claims reads numbers = record { within = numbers.within; wholes = numbers.wholes }
