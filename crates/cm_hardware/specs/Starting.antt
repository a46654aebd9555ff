-- Hardware at start: what is made of described components, and of the board of their interfaces, which are unavailable
-- and Unset at first.
use Rattle.std.specs.Prelude.{ℕ, ◌+◌, ◌-◌, Bool, true, false, if◌then◌else◌, List, [], ◌∷◌, ◌++◌, length, replicate}
use Rattle.std.specs.Prelude.{slice_get, Option, Some, None}
use Rattle.std.specs.Option.{option_map_or}
use Rattle.cm_document.specs.declared.description.CompDesc.{CompDesc}
use Rattle.cm_model.specs.Components.{is_available, measured_states}
use Rattle.hw_component.specs.Hardware.{at_start}
use Rattle.loan_board.specs.Loans.{made_available}
use Rattle.loan_board.specs.declared.board.Loan.{Loan}
use Rattle.cm_hardware.specs.Wiring.{Mounted, states_count, commands_count, with_values, changed_where}

-- a component as it is put to work
abbrev pub mounted : CompDesc → Mounted
mounted c = record { hardware = at_start c; failed = false }

-- ---- Places

-- the component of each of so many places, for these components, the first of which has this place
abbrev pub places_from : (Mounted → ℕ) → ℕ → List Mounted → List (Option ℕ)
places_from count component [] = []
places_from count component (m ∷ ms) = replicate (count m) (Some component) ++ places_from count (component + 1) ms

-- those of the state and the command interfaces of these components
abbrev pub places_of : List Mounted → List (Option ℕ)
places_of ms = places_from states_count 0 ms ++ places_from commands_count 0 ms

-- of so many places, those that follow are of no component
abbrev pub all_places : List Mounted → ℕ → List (Option ℕ)
all_places ms count = places_of ms ++ replicate (count - length (places_of ms)) None

-- ---- Available

-- the interfaces of the component of this place are available; those of no component are not
abbrev pub is_up : List Mounted → Option ℕ → Bool
is_up ms None = false
is_up ms (Some place) = option_map_or (λ m. is_available m.hardware.life) (slice_get ms place) false

-- The interfaces of inactive and active components become available; these are the components of the places from this
-- one on.
abbrev pub opened : List Mounted → ℕ → List (Option ℕ) → List Loan → List Loan
opened ms at cs loans = changed_where (is_up ms) (made_available true) at cs loans

-- ---- Measured

-- The state interfaces of a component, the first of which has this place, hold what they measure, where it is inactive
-- or active.
abbrev pub after_measure_of : ℕ → List Loan → Mounted → List Loan
after_measure_of at loans m =
    if is_available m.hardware.life then with_values loans at (measured_states m.hardware.description m.hardware.bodies)
    else loans

-- so those of components, one after the other
abbrev pub after_measures_of : ℕ → List Loan → List Mounted → List Loan
after_measures_of at loans [] = loans
after_measures_of at loans (m ∷ ms) = after_measures_of (at + states_count m) (after_measure_of at loans m) ms
