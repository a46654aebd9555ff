-- What is read off a history: how many cycles have ended in it, and of how many requests it tells the decision. And the
-- loop's part of a state.
use Rattle.std.specs.Prelude.{◌≡◌, ℕ, Bool, true, false, List, length, filter, sum_by}
use Rattle.cm_document.specs.declared.call.Call.{Call}
use Rattle.cm_document.specs.declared.call.Call.TheVariants.{End}
use Rattle.cm_model.specs.Sound.{decisions_in, ticketed}
use Rattle.cm_model.specs.State.{State}
use Rattle.cm_model.specs.declared.entry.Entry.{Entry}

-- it is the end of a cycle
abbrev pub is_end : Call → Bool
is_end (End _) = true
is_end _ = false

-- how many cycles have ended in these entries
abbrev pub ends_in : List Entry → ℕ
ends_in entries = length (filter (λ e. is_end e.call) entries)

-- of how many requests they tell the decision
abbrev pub decided_in : List Entry → ℕ
decided_in entries = sum_by (λ e. length (ticketed (decisions_in e.reply))) entries

-- The loop's part of two states is the same: as many cycles have ended, one is aloft in both or in none, and both are
-- open or closed; with the description and the number of sessions, which no step changes.
pub record SameLoop (s after : State) : Type 0 where
  pub sessions : after.sessions ≡ s.sessions
  pub description : after.description ≡ s.description
  pub ended : after.ended ≡ s.ended
  pub aloft : after.aloft ≡ s.aloft
  pub closed : after.closed ≡ s.closed
