-- What it is that a planned script does.
use Rattle.std.specs.Prelude.{◌≡◌, ℕ, List, [], ◌∷◌, ◌++◌, Ok, Some}
use Rattle.cm_document.specs.declared.call.Call.TheVariants.{Begin}
use Rattle.cm_document.specs.declared.description.Description.{Description}
use Rattle.cm_document.specs.declared.script.Script.{Script}
use Rattle.cm_model.specs.Machine.{state_after}
use Rattle.cm_model.specs.Scheduled.{scheduled}
use Rattle.cm_model.specs.Sound.{decisions_in}
use Rattle.cm_model.specs.State.{State, boot, active}
use Rattle.cm_model.specs.declared.blanks.Blanks.{Blanks}
use Rattle.cm_model.specs.declared.cause.Outcome.TheVariants as outcome
use Rattle.cm_model.specs.declared.entry.Entry.{Entry}
use Rattle.spawn_plan.specs.Fitting.{first_fit}
use Rattle.spawn_plan.specs.Wanted.{places_in, is_wanted}

-- exactly the controllers at these places are active
abbrev pub AreActive : List ℕ → State → Type 0
AreActive places s = (p : ℕ) → active s p ≡ is_wanted places p

-- A script starts exactly the wanted controllers, with the first cycle that fits.
pub record StartsThem (d : Description) (blanks : Blanks) (wanted : List (List ℕ)) (script : Script) : Type 0 where
  pub places : List ℕ
  pub described : places_in d.controllers wanted ≡ Ok places
  pub cycle : ℕ
  pub least : first_fit d places ≡ Some cycle
  -- its scheduled history comes to the begin of that cycle, by the loop,
  pub before : List Entry
  pub begin : Entry
  pub after : List Entry
  pub history : scheduled (record { description = d; script = script }) blanks ≡ before ++ begin ∷ after
  pub call : begin.call ≡ Begin cycle
  -- which decides one request, the switch: it is done, and none is dropped;
  pub done : decisions_in begin.reply ≡ record { ticket = Some 0; outcome = outcome.Done [] } ∷ []
  -- and then exactly they are active.
  pub started : AreActive places (state_after (boot d blanks 1) (before ++ begin ∷ []))
