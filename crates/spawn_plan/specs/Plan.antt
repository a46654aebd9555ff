-- The plan of a start: a script, or the first reason why there is none.
use Rattle.std.specs.Prelude.{ℕ, List, Result, Ok}
use Rattle.cm_document.specs.Reading.{◌>>=◌}
use Rattle.cm_document.specs.declared.description.Description.{Description}
use Rattle.cm_document.specs.declared.script.Script.{Script}
use Rattle.cm_model.specs.declared.blanks.Blanks.{Blanks}
use Rattle.spawn_plan.specs.Fitting.{start_of}
use Rattle.spawn_plan.specs.Never.{can_be_active}
use Rattle.spawn_plan.specs.Starting.{starting}
use Rattle.spawn_plan.specs.Wanted.{places_in, each_once, have_blanks, can_be_configured}
use Rattle.spawn_plan.specs.declared.fault.SpawnFault.{SpawnFault}

-- the cycle with which these start together: they may be active together in some state, and some cycle fits
abbrev pub start_together : Description → List ℕ → Result ℕ SpawnFault
start_together d places = can_be_active d places >>= λ _. start_of d places

-- What a plan is, in the order in which a reason counts: each wanted name is described, none is wanted twice, the stock
-- has a blank for each, each can be configured, they can be active together in some state, and some cycle fits. Then it
-- is the script that starts them with the first such cycle.
unfoldable pub spawned : Description → Blanks → List (List ℕ) → Result Script SpawnFault
spawned d blanks wanted =
    places_in d.controllers wanted >>= λ places.
    each_once wanted >>= λ _.
    have_blanks d.controllers blanks places >>= λ _.
    can_be_configured d.controllers places >>= λ _.
    start_together d places >>= λ cycle.
    Ok (starting wanted cycle)
