use Rattle.std.proofs.Common.{◌≡◌}
use Rattle.console_session.proofs.SessionLemmas.{none_left}
use Rattle.console_session.proofs.session.Session.ended.Goals as goal

-- without a ticket the lines decide
pub returns-in-None : goal.returns-in-None
returns-in-None c =
    rw (← c.self.view_is, c.as_slice.ensures, c.in-None.is) (none_left c.self.inside.line _ c.self.invariant.1)
