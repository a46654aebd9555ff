use Rattle.ctl_shape.proofs.LimitLemmas.{all_between, one_step}
use Rattle.ctl_shape.proofs.SearchLemmas.{search_finds}
use Rattle.ctl_shape.proofs.laws.there_is_one_new_step.Goals as goal

pub returns-clause-between : goal.returns-clause-between
returns-clause-between c = all_between

pub returns-clause-one : goal.returns-clause-one
returns-clause-one c = one_step

pub returns-clause-found : goal.returns-clause-found
returns-clause-found c = search_finds
