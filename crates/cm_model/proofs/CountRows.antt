-- Worked rows of what is counted in a history, computed from the definitions alone.
use Rattle.std.proofs.Common.{◌≡◌, ℕ, List, [], ◌∷◌, Some, refl}
use Rattle.std.specs.Prelude.{codes}
use Rattle.cm_document.specs.declared.call.Call.{Call}
use Rattle.cm_document.specs.declared.call.Call.TheVariants.{Load, Told, Begin, End, Close}
use Rattle.cm_model.specs.Histories.{ends_in, decided_in}
use Rattle.cm_model.specs.declared.cause.Outcome.TheVariants as outcome
use Rattle.cm_model.specs.declared.entry.Entry.{Entry}
use Rattle.cm_model.specs.declared.reply.Reply.{Reply}
use Rattle.cm_model.specs.declared.reply.Reply.TheVariants as reply

by : ℕ → Call → Reply → Entry
by who call r = record { who = who; call = call; reply = r }

-- Two cycles and a close: the first begin decides two requests, the second none, and the close one. A Told tells of no
-- decision.
two_cycles : List Entry
two_cycles =
    by 0 (Load (codes "fwd")) (reply.Serial 0)
    ∷ by 1 (Begin 0)
    (reply.Decisions
    (record { ticket = Some 0; outcome = outcome.Done [] } ∷ record { ticket = Some 1; outcome = outcome.Done [] }
    ∷ []))
    ∷ by 1 (End 0) reply.Done
    ∷ by 0 (Told 1) (reply.Outcome (outcome.Done []))
    ∷ by 1 (Begin 1) (reply.Decisions [])
    ∷ by 1 (End 1) reply.Done
    ∷ by 1 Close (reply.Decisions (record { ticket = Some 2; outcome = outcome.LoopEnded } ∷ []))
    ∷ []

nothing_ended : ends_in [] ≡ 0
nothing_ended = refl

nothing_decided : decided_in [] ≡ 0
nothing_decided = refl

two_ended : ends_in two_cycles ≡ 2
unfolding two_cycles by
two_ended = refl

three_decided : decided_in two_cycles ≡ 3
unfolding two_cycles by
three_decided = refl
