use Rattle.sound_laws.proofs.TicketLemmas.{begin_tells, close_tells, told_rightly}
use Rattle.sound_laws.proofs.tickets.each_ticket_is_told_once.Goals as goal

pub returns-clause-begin : goal.returns-clause-begin
returns-clause-begin c = begin_tells

pub returns-clause-close : goal.returns-clause-close
returns-clause-close c = close_tells

pub returns-clause-told : goal.returns-clause-told
returns-clause-told c = told_rightly
