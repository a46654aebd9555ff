use Rattle.cm_model.proofs.EnabledLemmas.{enabled-IsConsole}
use Rattle.cm_model.proofs.laws.sessions_make_console_calls.Goals as goal

pub returns : goal.returns
returns c = enabled-IsConsole
