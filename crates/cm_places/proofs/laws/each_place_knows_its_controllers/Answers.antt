use Rattle.cm_places.proofs.PlacedLemmas.{claimers-placed, claimed_by-placed, exporter-placed}
use Rattle.cm_places.proofs.laws.each_place_knows_its_controllers.Goals as goal

pub returns-clause-claimers : goal.returns-clause-claimers
returns-clause-claimers c = λ d k i stands command p. claimers-placed d k i stands command p

pub returns-clause-members : goal.returns-clause-members
returns-clause-members c = λ d k i stands command set. claimed_by-placed d k i stands command set

pub returns-clause-exporter : goal.returns-clause-exporter
returns-clause-exporter c = λ d k i stands. exporter-placed d k i stands
