use Rattle.cm_document.proofs.PlaceLemmas.{IsValid-EachStandsOnce}
use Rattle.cm_document.proofs.laws.interfaces_stand_once.Goals as goal

pub returns : goal.returns
returns c = IsValid-EachStandsOnce c.args.checked.now c.description.ensures.valid
