use Rattle.std.proofs.Common.{◌≡◌, length}
use Rattle.cm_document.specs.Lines.{words}
use Rattle.cm_document.specs.LineGrammar.{points_after, timed}
use Rattle.script_text.proofs.MailLemmas.{found_before}
use Rattle.script_text.proofs.mail.points.Given as goal

-- the points so far, and those that come later
abbrev pub invariant-loop-word : goal.invariant-loop-word
invariant-loop-word l =
    found_before l.found (points_after l.before (timed (words l.left))) ≡ points_after 0 (timed (words l.text))

abbrev pub decreases-loop-word : goal.decreases-loop-word
decreases-loop-word l = length (words l.left)
