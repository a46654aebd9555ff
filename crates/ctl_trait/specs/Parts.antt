-- A controller whose outputs are values that were set: a forward, a passthrough, a mock.
use Rattle.std.specs.Prelude.{ℕ, Bool, false, List, length, Option, Some, None, option_map}
use Rattle.std.specs.Option.{option_map_or}
use Rattle.fixed_num.specs.declared.value.Value.{Value}
use Rattle.cm_document.specs.declared.description.CtlKind.{CtlKind}
use Rattle.cm_document.specs.declared.description.Params.{Params}
use Rattle.cm_model.specs.State.{fresh}
use Rattle.cm_model.specs.declared.data.CtlData.{CtlData}
use Rattle.cm_model.specs.declared.data.RunData.{RunData}
use Rattle.cm_model.specs.declared.data.RunData.TheVariants.{Set}

-- What it keeps while it is configured: a value for each claim, and while it runs, whether it is chained.
pub record Part : Type 0 where
  pub set : List Value
  pub chained : Option Bool

-- its running part, while it runs
abbrev pub running_of : Part → Option RunData
running_of part = option_map (λ chained. Set chained part.set) part.chained

-- its data: its kind alone, or with the parameters of so many claims and its running part
abbrev pub data_of : CtlKind → (ℕ → Params) → Option Part → CtlData
data_of kind params None = fresh kind
data_of kind params (Some part) = record {
  kind = kind;
  params = Some (params (length part.set));
  run = running_of part;
}

-- it runs chained
abbrev pub is_chained_part : Part → Bool
is_chained_part part = option_map_or (λ chained. chained) part.chained false
