use Rattle.std.proofs.Common.{◌≡◌, ◌++◌, drop, string_bytes}
use Rattle.std.specs.Prelude.{flat_map}
use Rattle.cm_document.specs.CallText.{turn_text}
use Rattle.script_text.proofs.print.push_turns.Given as goal

-- the text so far, and the turns that are left, are all turns
abbrev pub invariant-loop-turn : goal.invariant-loop-turn
invariant-loop-turn l = string_bytes l.text ++ flat_map (turn_text l.sessions) (drop l.turn-index l.turns)
    ≡ string_bytes l.fn.text ++ flat_map (turn_text l.sessions) l.turns
