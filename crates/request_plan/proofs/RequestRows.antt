-- Worked rows of requests as the desk keeps them, computed from the definitions alone: what is written down here is by
-- hand.
use Rattle.std.proofs.Common.{◌≡◌, true, false, [], ◌∷◌, Some, refl}
use Rattle.std.specs.Prelude.{codes, drop}
use Rattle.cm_document.specs.Described.{a_description}
use Rattle.cm_document.specs.declared.life.Life.TheVariants.{Inactive, Active}
use Rattle.cm_model.specs.Blanks.{no_blanks}
use Rattle.cm_model.specs.Boundary.{waiting, request_reply, request_effect, decisions_from, close_effect}
use Rattle.cm_model.specs.State.{State, boot}
use Rattle.cm_model.specs.declared.blanks.Blanks.{Blanks}
use Rattle.cm_model.specs.declared.cause.Outcome.TheVariants as outcome
use Rattle.cm_model.specs.declared.reply.Reply.TheVariants as reply
use Rattle.cm_model.specs.declared.reply.Why.TheVariants as why
use Rattle.cm_model.specs.declared.request.Request.{Request}
use Rattle.cm_model.specs.declared.request.Request.TheVariants as request
use Rattle.request_plan.specs.Requests.{Asked, with_asked}

-- ---- Three requests, the first of which is done

abbrev stock : Blanks
stock = no_blanks

abbrev opening : State
opening = boot (a_description 1 100 6 [] []) stock 1

abbrev up : Request
up = request.Hardware (codes "arm") Active

abbrev down : Request
down = request.Hardware (codes "arm") Inactive

abbrev two_wait : Asked
two_wait = record { requests = up ∷ down ∷ up ∷ []; outcomes = outcome.Done [] ∷ [] }

abbrev three_wait : Asked
three_wait = record { requests = up ∷ down ∷ up ∷ down ∷ []; outcomes = outcome.Done [] ∷ [] }

abbrev four_wait : Asked
four_wait = record { requests = up ∷ down ∷ up ∷ down ∷ up ∷ []; outcomes = outcome.Done [] ∷ [] }

-- ---- Rows

-- those without an outcome wait
who_waits : waiting (with_asked opening two_wait false) ≡ down ∷ up ∷ []
who_waits = refl

-- the next ticket is the number of requests, and a request that is queued comes last
next_waits :
    (request_reply (with_asked opening two_wait false) ≡ reply.Queued 3)
    × (request_effect (with_asked opening two_wait false) down (reply.Queued 3) ≡ with_asked opening three_wait false)
next_waits = (refl, refl)

-- where four wait no more is taken, and after the close none, however few wait
refused :
    (request_reply (with_asked opening four_wait false) ≡ reply.Not why.QueueFull)
    × (request_reply (with_asked opening four_wait true) ≡ reply.Not why.LoopEnded)
    × (request_reply (with_asked opening two_wait true) ≡ reply.Not why.LoopEnded)
refused = (refl, refl, refl)

-- the close ends the two that wait, and tells of them by ticket
closed :
    (close_effect (with_asked opening two_wait false)
    ≡ with_asked opening (record two_wait { outcomes = outcome.Done [] ∷ outcome.LoopEnded ∷ outcome.LoopEnded ∷ [] })
    true)
    × (decisions_from 1 (drop 1 (outcome.Done [] ∷ outcome.LoopEnded ∷ outcome.LoopEnded ∷ []))
    ≡ record { ticket = Some 1; outcome = outcome.LoopEnded } ∷ record { ticket = Some 2; outcome = outcome.LoopEnded }
    ∷ [])
closed = (refl, refl)
