-- The rows of the table of controllers that give what is wanted of them and nothing else.
use Rattle.std.specs.Prelude.{◌≡◌, ℕ, ℤ, Bool, true, false, ◌&&◌, ◌==◌, if◌then◌else◌, List, length, replicate}
use Rattle.std.specs.Prelude.{Some, refl}
use Rattle.fixed_num.specs.declared.value.Value.{Value}
use Rattle.fixed_num.specs.declared.value.Value.TheVariants.{Unset}
use Rattle.cm_document.specs.declared.call.Mail.TheVariants.{Values}
use Rattle.cm_document.specs.declared.description.CtlKind.{CtlKind}
use Rattle.cm_document.specs.declared.description.CtlKind.TheVariants as kind
use Rattle.cm_document.specs.declared.description.Params.{Params}
use Rattle.cm_document.specs.declared.description.Params.TheVariants.{Forward, Passthrough}
use Rattle.cm_model.specs.Controllers.{started, updated, gives, wanted}
use Rattle.cm_document.specs.Params.{shape_of}
use Rattle.cm_model.specs.Kinds.{publishes, is_refused, is_ready_in, takes}
use Rattle.cm_model.specs.declared.data.RunData.TheVariants.{Set}
use Rattle.cm_model.specs.declared.tick.Tick.{Tick}

-- A controller of this kind with these parameters reads nothing, is always ready, and is never refused. It has so many
-- claims, and if it exports references, one for each claim. It takes a value for each claim as mail. Its update gives
-- the references if it is chained, else the values that are set.
pub record GivesWhatIsSet (own : CtlKind) (params : Params) (outs : ℕ) (exporting : Bool) : Type 0 where
  pub shape : shape_of params ≡ record { claims = outs; reads = Some 0; references = if exporting then outs else 0 }
  pub accepted : is_refused params ≡ false
  pub ready : (cycle : ℕ) → is_ready_in params cycle ≡ true
  pub fits : (values : List ℤ) → takes params (Values values) ≡ (length values == outs)
  pub told : publishes own ≡ false
  pub starts : (states : List ℤ) (chained : Bool) → started params states chained
      ≡ Set (exporting && chained) (replicate outs Unset)
  pub updates : (chained : Bool) (set : List Value) (tick : Tick) (states : List ℤ) (refs : List Value)
      → updated params (Set chained set) tick states refs
      ≡ gives (Set chained set) (wanted (exporting && chained) refs set)

-- a forward's
pub forward_row : (outs : ℕ) → GivesWhatIsSet kind.Forward (Forward outs) outs false
forward_row outs = record {
  shape = refl;
  accepted = refl;
  ready = λ cycle. refl;
  fits = λ values. refl;
  told = refl;
  starts = λ states chained. refl;
  updates = λ chained set tick states refs. refl;
}

-- and a passthrough's
pub passthrough_row : (outs : ℕ) → GivesWhatIsSet kind.Passthrough (Passthrough outs) outs true
passthrough_row outs = record {
  shape = refl;
  accepted = refl;
  ready = λ cycle. refl;
  fits = λ values. refl;
  told = refl;
  starts = λ states chained. refl;
  updates = λ chained set tick states refs. refl;
}
