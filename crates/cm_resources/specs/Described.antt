-- How a loaded controller stands to its description.
use Rattle.std.specs.Prelude.{◌≡◌, true, slice_get, is_some, Some, option_map}
use Rattle.cm_document.specs.Params.{kind_of}
use Rattle.cm_document.specs.declared.description.Description.{Description}
use Rattle.cm_model.specs.State.{Loaded}

-- the controller is of the kind that is described at its place
abbrev pub IsAsDescribed : Description → Loaded → Type 0
IsAsDescribed d l = option_map (λ c. kind_of c.params) (slice_get d.controllers l.place) ≡ Some l.ctl.kind

-- one that has parameters is updated once in some cycles
abbrev pub IsDivided : Loaded → Type 0
IsDivided l = is_some l.ctl.params ≡ true → is_some l.divisor ≡ true
