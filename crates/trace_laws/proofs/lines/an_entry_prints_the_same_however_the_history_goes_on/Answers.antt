use Rattle.trace_laws.proofs.SameLineLemmas.{line_stays}
use Rattle.trace_laws.proofs.lines.an_entry_prints_the_same_however_the_history_goes_on.Goals as goal

pub returns : goal.returns
returns c = λ document blanks history later e legal. line_stays document.description blanks document.script.sessions
    history later e legal
