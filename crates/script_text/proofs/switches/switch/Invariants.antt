use Rattle.std.proofs.Common.{length}
use Rattle.cm_document.specs.Lines.{words}
use Rattle.script_text.proofs.SwitchLemmas.{Switched}
use Rattle.script_text.proofs.switches.switch.Given as goal

-- the names so far, and the words that are left
abbrev pub invariant-loop-word : goal.invariant-loop-word
invariant-loop-word l = Switched l.on l.off (words l.left) (words l.text)

abbrev pub decreases-loop-word : goal.decreases-loop-word
decreases-loop-word l = length (words l.left)
