use Rattle.cm_places.proofs.OutputLemmas.{given-placed}
use Rattle.cm_places.proofs.PlacedLemmas.{states_for-placed, refs_for-placed}
use Rattle.cm_places.proofs.laws.places_serve_for_names.Goals as goal

pub returns-clause-states : goal.returns-clause-states
returns-clause-states c = λ d values p ok are. states_for-placed d ok values are p

pub returns-clause-references : goal.returns-clause-references
returns-clause-references c = λ d values p are. refs_for-placed d values are p

pub returns-clause-outputs : goal.returns-clause-outputs
returns-clause-outputs c = λ d values p outs ok are count. given-placed d ok values are p outs count
