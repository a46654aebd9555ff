-- The descriptions of loaded controllers.
use Rattle.std.proofs.Common.{◌≡◌, ℕ, List, Option, Some, None, refl, subst}
use Rattle.std.specs.Prelude.{slice_get, option_map}
use Rattle.std.specs.List.{All}
use Rattle.std.proofs.lemmas.Option.{slice_get_within, get_or_from_slice_get}
use Rattle.cm_document.specs.Params.{kind_of}
use Rattle.cm_document.specs.declared.description.CtlDesc.{CtlDesc}
use Rattle.cm_document.specs.declared.description.CtlKind.{CtlKind}
use Rattle.cm_document.specs.declared.description.Description.{Description}
use Rattle.cm_model.specs.State.{Loaded}
use Rattle.cm_resources.specs.Described.{IsAsDescribed}

described_from : (o : Option CtlDesc) (kind : CtlKind) → option_map (λ c. kind_of c.params) o ≡ Some kind
    → (c : CtlDesc) × (o ≡ Some c) × (kind_of c.params ≡ kind)
described_from None kind e = cc
described_from (Some c) kind e = (c, refl, cc)

-- the description of a loaded controller is there
pub described_there : (d : Description) (l : Loaded) → IsAsDescribed d l
    → (c : CtlDesc) × (slice_get d.controllers l.place ≡ Some c) × (kind_of c.params ≡ l.ctl.kind)
described_there d l e = described_from (slice_get d.controllers l.place) l.ctl.kind e

-- the one that stands somewhere is as described
pub kept_there : (d : Description) (ls : List Loaded) (i : ℕ) (l : Loaded) → All (IsAsDescribed d) ls
    → slice_get ls i ≡ Some l → IsAsDescribed d l
kept_there d ls i l described there =
    subst (IsAsDescribed d) (get_or_from_slice_get ls i l l there) (described i l (slice_get_within ls i l there))
