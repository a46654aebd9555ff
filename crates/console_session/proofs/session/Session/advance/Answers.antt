use Rattle.console_session.proofs.SessionLemmas.{advance_written}
use Rattle.console_session.proofs.session.Session.advance.Goals as goal

-- an advance over a told history is the written one
pub returns-in-Some-clause-as_written : goal.returns-in-Some-clause-as_written
returns-in-Some-clause-as_written g c = advance_written _ _ _ _ _ c.be_told.ensures.advanced

pub returns-in-None-clause-as_written : goal.returns-in-None-clause-as_written
returns-in-None-clause-as_written g c = advance_written _ _ _ _ _ c.make_line.ensures.advanced
