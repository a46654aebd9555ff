use Rattle.script_text.proofs.ReadScriptLemmas.{read_script_meets, read_script_uses}
use Rattle.script_text.proofs.laws.read_scripts_meet_the_rules.Goals as goal

pub returns-clause-rules : goal.returns-clause-rules
returns-clause-rules c = read_script_meets

pub returns-clause-grammar : goal.returns-clause-grammar
returns-clause-grammar c = read_script_uses
