-- Why a component is not moved.
use Rattle.std.specs.Prelude.{◌≡◌, ℕ, List, map, Option}
use Rattle.cm_document.specs.declared.description.Description.{Description}
use Rattle.cm_document.specs.declared.life.Life.{Life}
use Rattle.cm_model.specs.Boundary.{life_at, move_fault}
use Rattle.cm_model.specs.Cycle.{active_order}
use Rattle.cm_model.specs.State.{State}
use Rattle.cm_model.specs.declared.cause.Cause.{Cause}

-- This speaks against the move of the component at a place, or nothing does, in each state of the description in which
-- the component is in this lifecycle state and the controllers of these places are active, in the order of their
-- updates.
abbrev pub IsMoveFault : Description → ℕ → Life → Life → List ℕ → Option Cause → Type 0
IsMoveFault d component life target order fault =
    (s : State) → s.description ≡ d → life_at s component ≡ life → map (λ l. l.place) (active_order s) ≡ order
    → fault ≡ move_fault s component target
