-- What a valid description says of joints, links and loops.
use Rattle.std.proofs.Common.{◌≡◌, ℕ, true, map, None}
use Rattle.std.specs.List.{IsDistinct}
use Rattle.iface_names.specs.Interfaces.{same_interface}
use Rattle.iface_names.specs.Names.{same_name}
use Rattle.iface_names.specs.declared.interface.IfaceName.{IfaceName}
use Rattle.cm_document.specs.Described.{states_of}
use Rattle.cm_document.specs.Links.{joints_of, references_of, is_among, first_in_loop}
use Rattle.cm_document.specs.Valid.{IsValid}
use Rattle.cm_document.specs.declared.description.Description.{Description}
use Rattle.cm_document.proofs.ValidParts.{parts_of_valid}
use Rattle.cm_model.specs.Order.{controller_at}
use Rattle.cm_model.proofs.LinkedLemmas.{links_of_valid, among_all}

-- what the checks of a valid description found, as far as soundness asks for it
pub record IsChecked (d : Description) : Type 0 where
  -- joints differ by name,
  pub joints : IsDistinct same_name (map (λ j. j.name) (joints_of d.components))
  -- and so do references,
  pub references : IsDistinct same_interface (references_of d.controllers)
  -- what a controller reads is a state interface,
  pub reads : (p : ℕ) (interface : IfaceName) → is_among interface (controller_at d.controllers p).reads ≡ true
      → is_among interface (states_of d.components) ≡ true
  -- and no controller precedes itself at some distance.
  pub free : first_in_loop d.controllers ≡ None

pub valid-IsChecked : (d : Description) → IsValid d → IsChecked d
valid-IsChecked d ok =
    let parts = parts_of_valid d ok in
    record {
      joints = parts.names.joints;
      references = parts.names.references;
      reads = λ p interface read.
          among_all (λ name. is_among name (states_of d.components) ≡ true) (controller_at d.controllers p).reads
          (links_of_valid d ok p).read interface read;
      free = parts.loop_free;
    }
