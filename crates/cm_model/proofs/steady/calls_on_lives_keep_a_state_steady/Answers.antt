use Rattle.cm_model.proofs.SteadyLemmas.{load_steady, configure_steady, cleanup_steady, unload_steady}
use Rattle.cm_model.proofs.steady.calls_on_lives_keep_a_state_steady.Goals as goal

pub returns-clause-load : goal.returns-clause-load
returns-clause-load c = load_steady

pub returns-clause-configure : goal.returns-clause-configure
returns-clause-configure c = configure_steady

pub returns-clause-cleanup : goal.returns-clause-cleanup
returns-clause-cleanup c = cleanup_steady

pub returns-clause-unload : goal.returns-clause-unload
returns-clause-unload c = unload_steady
