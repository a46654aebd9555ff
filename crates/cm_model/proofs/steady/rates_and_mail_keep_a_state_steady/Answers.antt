use Rattle.cm_model.proofs.SteadyLemmas.{rate_steady, send_steady}
use Rattle.cm_model.proofs.steady.rates_and_mail_keep_a_state_steady.Goals as goal

pub returns-clause-rate : goal.returns-clause-rate
returns-clause-rate c = rate_steady

pub returns-clause-send : goal.returns-clause-send
returns-clause-send c = send_steady
