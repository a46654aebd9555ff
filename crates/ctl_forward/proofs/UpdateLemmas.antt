-- What an update of a controller over set values puts out.
use Rattle.std.proofs.Common.{◌≡◌, ℕ, ℤ, Bool, false, List, length, Option, Some, None, ap}
use Rattle.std.specs.Prelude.{◌&&◌, option_map, IsSomeAnd}
use Rattle.std.specs.Option.{option_map_or}
use Rattle.fixed_num.specs.declared.value.Value.{Value}
use Rattle.cm_document.specs.declared.description.CtlKind.{CtlKind}
use Rattle.cm_document.specs.declared.description.Params.{Params}
use Rattle.cm_model.specs.Controllers.{Updated, wanted, stepped_to, step_with, update_step, put_out}
use Rattle.cm_model.specs.declared.data.CtlData.{CtlData}
use Rattle.cm_model.specs.declared.data.RunData.TheVariants.{Set}
use Rattle.cm_model.specs.declared.tick.Tick.{Tick}
use Rattle.ctl_trait.specs.Parts.{Part, data_of, is_chained_part}
use Rattle.ctl_forward.specs.SetRows.{GivesWhatIsSet}

-- if it runs, by whether it is chained
gives_by : (own : CtlKind) (params : Params) (outs : ℕ) (exporting : Bool) → GivesWhatIsSet own params outs exporting
    → (ctl : CtlData) (set : List Value) (chained : Option Bool) (tick : Tick) (states : List ℤ)
    (refs held : List Value)
    → IsSomeAnd (option_map (λ (c : Bool). Set c set) chained) (λ part. Unit {0})
    → put_out (step_with ctl (Some params) (option_map (λ (c : Bool). Set c set) chained) tick states refs) held
    ≡ wanted (exporting && option_map_or (λ (c : Bool). c) chained false) refs set
gives_by own params outs exporting row ctl set None tick states refs held runs = absurd runs
gives_by own params outs exporting row ctl set (Some c) tick states refs held runs =
    ap (λ (given : Updated). put_out (stepped_to ctl given) held) (row.updates c set tick states refs)

-- its references if it takes them, else the values that are set
pub gives_wanted : (own : CtlKind) (with_claims : ℕ → Params) (exporting : Bool)
    → ((outs : ℕ) → GivesWhatIsSet own (with_claims outs) outs exporting)
    → (part : Part) (tick : Tick) (states : List ℤ) (refs held : List Value)
    → IsSomeAnd (data_of own with_claims (Some part)).run (λ r. Unit {0})
    → put_out (update_step (data_of own with_claims (Some part)) tick states refs) held
    ≡ wanted (exporting && is_chained_part part) refs part.set
gives_wanted own with_claims exporting row part tick states refs held runs =
    gives_by own (with_claims (length part.set)) (length part.set) exporting (row (length part.set))
    (data_of own with_claims (Some part)) part.set part.chained tick states refs held runs
