use Rattle.cm_model.proofs.SteadyLemmas.{request_steady, close_steady, begun_steady}
use Rattle.cm_model.proofs.steady.requests_and_the_close_keep_a_state_steady.Goals as goal

pub returns-clause-request : goal.returns-clause-request
returns-clause-request c = request_steady

pub returns-clause-close : goal.returns-clause-close
returns-clause-close c = close_steady

pub returns-clause-begin : goal.returns-clause-begin
returns-clause-begin c = begun_steady
