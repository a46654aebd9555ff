-- What a planned switch says of wanted controllers.
use Rattle.std.specs.Prelude.{Result, Ok, Err}
use Rattle.cm_model.specs.declared.cause.Outcome.{Outcome}
use Rattle.cm_model.specs.declared.cause.Outcome.TheVariants as outcome
use Rattle.spawn_plan.specs.declared.fault.SpawnFault.{SpawnFault}
use Rattle.spawn_plan.specs.declared.fault.SpawnFault.TheVariants as fault

-- it was not refused: else its refusal says why they are never active together
abbrev pub not_refused : Outcome → Result (Unit {0}) SpawnFault
not_refused (outcome.Refused name cause) = Err (fault.Never name cause)
not_refused _ = Ok tt
