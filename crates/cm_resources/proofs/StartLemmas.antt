-- What works in cycles at start.
use Rattle.std.proofs.Common.{◌≡◌, ℕ, length, sym, ap, ◌∙◌, arith}
use Rattle.std.proofs.lemmas.List.{length-map}
use Rattle.cm_document.specs.Places.{interfaces_of}
use Rattle.cm_document.specs.declared.description.Description.{Description}
use Rattle.cm_model.specs.State.{State, boot}
use Rattle.cm_model.specs.Values.{InterfaceValue}
use Rattle.cm_model.specs.declared.blanks.Blanks.{Blanks}
use Rattle.cm_hardware.specs.Holding.{IsHardwareOf}
use Rattle.cm_hardware.specs.Shown.{HasLinesFor}
use Rattle.cm_hardware.specs.Wiring.{Wired, Mounted, most_failures, all_joints}
use Rattle.cm_hardware.specs.declared.lists.Lists.{Lists}
use Rattle.cm_model.specs.Blanks.{no_blanks}
use Rattle.cm_resources.specs.CycleResources.{HasLines}
use Rattle.cm_resources.specs.CycleNeeds.{IsSizeOf}
use Rattle.cm_resources.specs.declared.needs.HardwareSize.{HardwareSize}
use Rattle.cm_resources.proofs.NeedsLemmas.{most_of, joints_of}

-- on the board stands what is described
pub loans_count : (s : State) (w : Wired) → IsHardwareOf s w → length w.loans ≡ length (interfaces_of s.description)
loans_count s w is =
    ap length is.loans ∙ length-map s.values _ ∙ sym (length-map s.values (λ (v : InterfaceValue). v.interface))
    ∙ ap length is.wired.interfaces

-- room for the lists of the hardware at start is room for those of its description
pub lines_at_start : (d : Description) (w : Wired) (l : Lists)
    → ((blanks : Blanks) (sessions : ℕ) → IsHardwareOf (boot d blanks sessions) w) → HasLinesFor w l → HasLines d l
lines_at_start d w l starts room =
    let is = starts no_blanks 0 in record {
      components =
          omega (
            arith,
            room.components,
            ap length is.wired.components,
            length-map w.components (λ (m : Mounted). m.hardware.description),
          );
      loans = omega (arith, room.loans, loans_count (boot d no_blanks 0) w is);
    }

-- and there is as much to tell as is described
pub size_at_start : (d : Description) (w : Wired)
    → ((blanks : Blanks) (sessions : ℕ) → IsHardwareOf (boot d blanks sessions) w) → (size : HardwareSize)
    → size.failures ≡ most_failures w.components
    → size.joints ≡ all_joints w.components → IsSizeOf d size
size_at_start d w starts size failures joints =
    let is = starts no_blanks 0 in record {
      failures = failures ∙ most_of d w is.wired.components;
      joints = joints ∙ joints_of d w is.wired.components;
    }
