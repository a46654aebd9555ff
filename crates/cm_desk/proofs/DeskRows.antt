-- Worked rows of what a desk is seen as, computed from the definitions alone: what is written down here is by hand.
use Rattle.std.proofs.Common.{◌≡◌, ℕ, true, false, List, [], ◌∷◌, length, Some, None, refl, ap}
use Rattle.std.specs.Prelude.{codes}
use Rattle.cm_document.specs.Described.{a_controller, a_description}
use Rattle.cm_document.specs.declared.call.Call.{Call}
use Rattle.cm_document.specs.declared.call.Call.TheVariants.{Load, Unload, Told, Await, Close}
use Rattle.cm_document.specs.declared.description.CtlKind.TheVariants as kind
use Rattle.cm_document.specs.declared.description.Params.TheVariants.{Mock}
use Rattle.cm_model.specs.Blanks.{blanks_of, no_blanks, with_count}
use Rattle.cm_model.specs.Boundary.{all_concluded}
use Rattle.cm_model.specs.Machine.{LegalFrom, step}
use Rattle.cm_model.specs.State.{State, boot, fresh}
use Rattle.cm_model.specs.declared.blanks.Blanks.{Blanks}
use Rattle.cm_model.specs.declared.entry.Entry.{Entry}
use Rattle.cm_model.specs.declared.reply.Reply.{Reply}
use Rattle.cm_model.specs.declared.reply.Reply.TheVariants as reply
use Rattle.cm_model.specs.declared.reply.Why.TheVariants as why
use Rattle.cm_desk.specs.Desk.{GoesOnWithoutLoop, now_of, owed, hands_out, seen}

-- ---- A day with one mock

abbrev stock : Blanks
stock = with_count no_blanks kind.Mock 2

-- at boot, with one session
abbrev opening : State
opening = boot (a_description 1 100 6 [] (a_controller (codes "mk") 0 [] [] (Mock 0 false [] []) ∷ [])) stock 1

-- an entry of a caller: session 0, or the loop, which is 1
abbrev by : ℕ → Call → Reply → Entry
by who call r = record { who = who; call = call; reply = r }

-- the state after these entries
abbrev after : List Entry → State
after made = now_of (record { opening = opening; made = made })

abbrev loaded : List Entry
loaded = by 0 (Load (codes "mk")) (reply.Serial 0) ∷ []

abbrev unloaded : List Entry
unloaded = by 0 (Load (codes "mk")) (reply.Serial 0) ∷ by 0 (Unload (codes "mk")) reply.Done ∷ []

abbrev loaded_again : List Entry
loaded_again =
    by 0 (Load (codes "mk")) (reply.Serial 0) ∷ by 0 (Unload (codes "mk")) reply.Done
    ∷ by 0 (Load (codes "mk")) (reply.Serial 1)
    ∷ by 1 Close (reply.Decisions []) ∷ []

-- ---- Rows

-- an unload gives no blank back, and no serial is given twice
no_blank_back : ((after unloaded).loaded ≡ []) × (blanks_of (after unloaded).blanks kind.Mock ≡ 1)
    × (blanks_of (after loaded_again).blanks kind.Mock ≡ 0) × ((after loaded_again).loads ≡ 2)
unfolding step
no_blank_back = (refl, refl, refl, refl)

-- each of these entries is a step
day_is_legal : LegalFrom opening loaded_again
unfolding step all_concluded
day_is_legal = (refl, (refl, (refl, (refl, tt))))

-- the box that is handed out is a blank mock; another reply, or another call, hands none out
box_of_unload :
    (hands_out (after loaded) (Unload (codes "mk")) reply.Done ≡ Some (fresh kind.Mock))
    × (hands_out (after loaded) (Unload (codes "mk")) (reply.Not why.Active) ≡ None)
    × (hands_out (after loaded) (Load (codes "mk")) (reply.Serial 0) ≡ None)
unfolding step
box_of_unload = (refl, refl, refl)

-- the close is owed, with a cycle aloft its end too, and nothing once it is closed
what_is_owed : (owed opening ≡ 1) × (owed (record opening { aloft = true }) ≡ 2) × (owed (after loaded_again) ≡ 0)
unfolding step all_concluded
what_is_owed = (refl, refl, refl)

-- a session waits for a cycle that has not ended and for a request that is not decided, and goes on where it need not
-- wait
who_waits :
    (step opening 0 (Await 1) ≡ None)
    × (step opening 0 (Await 0) ≡ Some (opening, reply.Done))
    × (step (after loaded_again) 0 (Await 1) ≡ Some (after loaded_again, reply.Done))
    × (step opening 0 (Told 0) ≡ None)
unfolding step all_concluded
who_waits = (refl, refl, refl, refl)

-- a desk that stands there is seen as that history
seen_so : seen stock (after loaded) loaded ≡ record { opening = opening; made = loaded }
unfolding step
seen_so = refl

-- A session that loads leaves the loop as it was, and the loop's close does not.
goes_on_without_loop : GoesOnWithoutLoop (record { opening = opening; made = loaded })
    (record { opening = opening; made = unloaded })
goes_on_without_loop =
    record { opening = refl; begins = (by 0 (Unload (codes "mk")) reply.Done ∷ [], refl); own = refl }

not_without_loop : GoesOnWithoutLoop (record { opening = opening; made = unloaded })
    (record { opening = opening; made = loaded_again }) → ⊥
not_without_loop goes_on = let wrong : 1 ≡ 0 = ap length goes_on.own in cc
