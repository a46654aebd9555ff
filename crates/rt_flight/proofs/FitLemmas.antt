-- A workspace has the room that its controller needs where the test says so.
use Rattle.std.proofs.Common.{◌≡◌, true, length}
use Rattle.std.specs.Prelude.{◌==◌, ◌&&◌}
use Rattle.std.proofs.lemmas.Bool.{and_parts, eqb-true}
use Rattle.chain_order.specs.Links.{linked}
use Rattle.cm_places.specs.Placed.{Placed}
use Rattle.rt_flight.specs.Workspaces.{WorkspaceFacts, IsFitted, is_fitted}

pub fitted_from : (placed : Placed) (s : WorkspaceFacts) → is_fitted placed s ≡ true → IsFitted placed s
fitted_from placed s fits =
    let states = length s.states == length (linked placed.reads s.place) in
    let references = length s.references == length (linked placed.references s.place) in
    let outs = length s.outs == length (linked placed.claims s.place) in
    let parts = and_parts (states && references) outs fits in
    let read = and_parts states references parts.0 in
    record { states = eqb-true _ _ read.0; references = eqb-true _ _ read.1; outs = eqb-true _ _ parts.1 }
