use Rattle.std.proofs.Common.{◌≡◌, length}
use Rattle.cm_document.specs.Lines.{words}
use Rattle.cm_document.specs.LineGrammar.{all_words, value_word, untimed}
use Rattle.script_text.proofs.MailLemmas.{found_before}
use Rattle.script_text.proofs.mail.values_to_time.Given as goal

-- the values so far, and those of the words up to the first time
abbrev pub invariant-loop-word : goal.invariant-loop-word
invariant-loop-word l =
    found_before l.found (all_words value_word (untimed (words l.left))) ≡ all_words value_word (untimed (words l.text))

abbrev pub decreases-loop-word : goal.decreases-loop-word
decreases-loop-word l = length (words l.left)
