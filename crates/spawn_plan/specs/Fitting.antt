-- The first cycle in which wanted controllers can start together, if nothing is active before.
use Rattle.std.specs.Prelude.{ℕ, zero, suc, Bool, not, ◌&&◌, false, List, [], ◌∷◌, find, slice_get, Option, Some, None}
use Rattle.std.specs.Prelude.{Result, Ok, Err}
use Rattle.std.specs.List.{list_all, range_with_len}
use Rattle.std.specs.Option.{option_map_or}
use Rattle.cm_document.specs.declared.description.CompDesc.{CompDesc}
use Rattle.cm_document.specs.declared.description.Description.{Description}
use Rattle.cm_document.specs.declared.life.Life.{Life}
use Rattle.cm_model.specs.Claims.{uses}
use Rattle.cm_model.specs.Components.{is_available, life_after}
use Rattle.cm_model.specs.Kinds.{is_ready_in}
use Rattle.cm_model.specs.Order.{controller_at}
use Rattle.spawn_plan.specs.declared.fault.SpawnFault.{SpawnFault}
use Rattle.spawn_plan.specs.declared.fault.SpawnFault.TheVariants as fault

-- ---- Components

-- the lifecycle state of a component after so many cycles in which no controller was active
abbrev pub life_by : CompDesc → ℕ → Life
life_by component zero = component.initial
life_by component (suc n) = life_after component (life_by component n) n

-- it is inactive or active then
abbrev pub is_there_by : ℕ → CompDesc → Bool
is_there_by cycles component = is_available (life_by component cycles)

-- the component at this place is neither
abbrev pub is_gone_by : List CompDesc → ℕ → ℕ → Bool
is_gone_by components cycles place =
    option_map_or (λ component. not (is_there_by cycles component)) (slice_get components place) false

-- ---- Cycles

-- The controller at this place can start with this cycle: it is ready then, and each component that it uses is inactive
-- or active.
abbrev pub can_start : Description → ℕ → ℕ → Bool
can_start d cycle place =
    is_ready_in (controller_at d.controllers place).params cycle
    && not (uses d.components (is_gone_by d.components cycle) (controller_at d.controllers place))

-- The cycle fits: each of these controllers can start with it.
abbrev pub fits : Description → List ℕ → ℕ → Bool
fits d places cycle = list_all (can_start d cycle) places

-- the first cycle of the run that fits
unfoldable pub first_fit : Description → List ℕ → Option ℕ
first_fit d places = find (fits d places) (range_with_len 0 d.cycles)

-- The cycle with which these start: the first that fits. If there are none, no cycle is awaited.
abbrev pub start_of : Description → List ℕ → Result ℕ SpawnFault
start_of d [] = Ok 0
start_of d (place ∷ places) =
    elim (first_fit d (place ∷ places)) [ None ↦ Err fault.NoCycle | Some cycle ↦ Ok cycle ]
