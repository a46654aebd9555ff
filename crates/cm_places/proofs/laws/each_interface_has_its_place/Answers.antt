use Rattle.cm_places.proofs.PlacedLemmas.{reads-AreFound, references-AreFound, claims-AreFound, claims-AreClaims}
use Rattle.cm_places.proofs.laws.each_interface_has_its_place.Goals as goal

pub returns-clause-reads : goal.returns-clause-reads
returns-clause-reads c = λ d p ok. reads-AreFound d ok p

pub returns-clause-references : goal.returns-clause-references
returns-clause-references c = λ d p. references-AreFound d p

pub returns-clause-claims : goal.returns-clause-claims
returns-clause-claims c = λ d p ok. claims-AreFound d ok p

pub returns-clause-claimed : goal.returns-clause-claimed
returns-clause-claimed c = λ d p. claims-AreClaims d p
