-- What is counted of a history.
use Rattle.std.specs.Prelude.{ℕ, ◌+◌, List, [], ◌∷◌, length, Option, Some, None}
use Rattle.fixed_num.specs.declared.value.BodyState.{BodyState}
use Rattle.cm_storage.specs.Happened.{Happened}
use Rattle.cm_model.specs.declared.cause.Decision.{Decision}
use Rattle.cm_model.specs.declared.cause.Outcome.{Outcome}
use Rattle.cm_model.specs.declared.cause.Outcome.TheVariants as outcome
use Rattle.cm_model.specs.declared.entry.Entry.{Entry}
use Rattle.cm_model.specs.declared.reply.Reply.{Reply}
use Rattle.cm_model.specs.declared.reply.Reply.TheVariants as reply

-- The cycles that ended, the entries, the updates in these cycles; the requests that were done, were refused, or waited
-- at the close; and the bodies after the last cycle, which are none before the first.
pub record Counted : Type 0 where
  pub cycles : ℕ
  pub entries : ℕ
  pub updates : ℕ
  pub done : ℕ
  pub refused : ℕ
  pub ended : ℕ
  pub bodies : List BodyState

-- of no entry
abbrev pub nothing : Counted
nothing = record { cycles = 0; entries = 0; updates = 0; done = 0; refused = 0; ended = 0; bodies = [] }

-- a request more, that ended so
abbrev pub with_outcome : Outcome → Counted → Counted
with_outcome (outcome.Done _) c = record c { done = c.done + 1 }
with_outcome (outcome.Refused _ _) c = record c { refused = c.refused + 1 }
with_outcome outcome.LoopEnded c = record c { ended = c.ended + 1 }

-- a decision more: what has no ticket was asked for by nobody, and is not counted
abbrev pub with_decided : Option ℕ → Outcome → Counted → Counted
with_decided (Some ticket) became c = with_outcome became c
with_decided None became c = c

-- each decided request more
abbrev pub with_decisions : List Decision → Counted → Counted
with_decisions [] c = c
with_decisions (d ∷ ds) c = with_decisions ds (with_decided d.ticket d.outcome c)

-- a cycle more, with as many updates as its record tells of; the bodies are those after it
abbrev pub with_cycle : Happened → Counted → Counted
with_cycle happened c = record c {
  cycles = c.cycles + 1;
  updates = c.updates + length happened.ran;
  bodies = happened.bodies;
}

-- What a reply adds: that of an end is the record of its cycle; a begin and the close tell what they decided.
abbrev pub with_reply : Reply → Counted → Counted
with_reply (reply.Cycle happened) c = with_cycle happened c
with_reply (reply.Decisions decisions) c = with_decisions decisions c
with_reply _ c = c

-- an entry more
abbrev pub with_entry : Entry → Counted → Counted
with_entry e c = with_reply e.reply (record c { entries = c.entries + 1 })

-- each entry more
abbrev pub with_entries : List Entry → Counted → Counted
with_entries [] c = c
with_entries (e ∷ es) c = with_entries es (with_entry e c)

-- what is counted of a history
abbrev pub counted : List Entry → Counted
counted history = with_entries history nothing
