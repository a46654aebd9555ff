-- What the checks say, without the description itself.
use Rattle.std.specs.Prelude.{Result, Ok}
use Rattle.cm_document.specs.Reading.{◌>>=◌}
use Rattle.cm_document.specs.Valid.{valid}
use Rattle.cm_document.specs.declared.description.Description.{Description}
use Rattle.cm_document.specs.declared.faults.CheckFault.{CheckFault}

-- that the description is valid, or its first fault
unfoldable pub verdict : Description → Result (Unit {0}) CheckFault
verdict d = valid d >>= λ _. Ok tt
