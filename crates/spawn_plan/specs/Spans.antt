-- How long components are there, and which cycles a start has to pass over: so the first cycle that fits is found at
-- once. Proofs and code alone need it.
use Rattle.std.specs.Prelude.{ℕ, ◌+◌, nat_lt, Bool, false, ◌||◌, if◌then◌else◌, List, [], ◌∷◌, map, slice_get}
use Rattle.std.specs.Option.{option_map_or}
use Rattle.cm_document.specs.declared.description.CompDesc.{CompDesc}
use Rattle.cm_document.specs.declared.description.CtlDesc.{CtlDesc}
use Rattle.cm_document.specs.declared.description.Params.{Params}
use Rattle.cm_document.specs.declared.description.Params.TheVariants.{Mock}
use Rattle.cm_model.specs.Components.{is_available, is_listed, write_runs}
use Rattle.cm_model.specs.Order.{controller_at}

-- ---- Components

-- so many cycles, or as many as go on to the first of these, with it
abbrev pub up_to_first : ℕ → List ℕ → ℕ
up_to_first count [] = count
up_to_first count (cycle ∷ cycles) = up_to_first (if nat_lt cycle count then cycle + 1 else count) cycles

-- With how many cycles from the first on, at most so many, a component is there if no controller is active: a failure
-- takes it away behind its cycle.
abbrev pub span_of : ℕ → CompDesc → ℕ
span_of count component =
    if is_available component.initial then (if is_available component.on_error then count
    else (if write_runs component.initial then up_to_first (up_to_first count component.fail_read) component.fail_write
    else up_to_first count component.fail_read))
    else 0

-- the span of each component
abbrev pub spans_of : ℕ → List CompDesc → List ℕ
spans_of count components = map (span_of count) components

-- the least of this and of the spans at these places
abbrev pub least_span : List ℕ → ℕ → List ℕ → ℕ
least_span spans least [] = least
least_span spans least (place ∷ places) =
    least_span spans (option_map_or (λ span. if nat_lt span least then span else least) (slice_get spans place) least)
    places

-- the least of this and of the spans of the components in these rows, each row that of a controller
abbrev pub least_of_rows : List ℕ → ℕ → List (List ℕ) → ℕ
least_of_rows spans least [] = least
least_of_rows spans least (row ∷ rows) = least_of_rows spans (least_span spans least row) rows

-- ---- Controllers

-- the cycles in which a controller with these parameters is not ready
abbrev pub unready_in : Params → List ℕ
unready_in (Mock outs refuse_config not_ready fail_update) = not_ready
unready_in _ = []

-- one of these controllers is not ready in this cycle
abbrev pub is_unready : List CtlDesc → List ℕ → ℕ → Bool
is_unready controllers [] cycle = false
is_unready controllers (place ∷ places) cycle =
    is_listed (unready_in (controller_at controllers place).params) cycle || is_unready controllers places cycle
