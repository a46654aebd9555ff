use Rattle.script_text.proofs.ReadScriptLemmas.{read_script_meets, read_script_uses}
use Rattle.script_text.proofs.PrintScriptLemmas.{printed_reads_back}
use Rattle.script_text.proofs.laws.printing_keeps_what_was_read.Goals as goal

-- what was read meets the rules, and what is printed of such a script reads back
pub returns : goal.returns
returns c = λ grammar n m text s read. printed_reads_back s grammar m (read_script_meets grammar n text s read)
    (read_script_uses grammar n text s read)
