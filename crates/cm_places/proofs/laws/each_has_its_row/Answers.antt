use Rattle.cm_places.proofs.PlacedLemmas.{placed_of-HasAllRows}
use Rattle.cm_places.proofs.laws.each_has_its_row.Goals as goal

pub returns : goal.returns
returns c = λ d. placed_of-HasAllRows d
