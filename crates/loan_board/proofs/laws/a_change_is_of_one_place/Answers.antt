use Rattle.std.specs.Prelude.{false}
use Rattle.std.proofs.lemmas.List.{get_or-set_same, get_or-set_other, length-set}
use Rattle.loan_board.specs.Loans.{idle, loan_at}
use Rattle.loan_board.proofs.laws.a_change_is_of_one_place.Goals as goal

pub returns-clause-changed : goal.returns-clause-changed
returns-clause-changed c loans place change less =
    get_or-set_same loans place (change (loan_at loans place)) (idle false) less

pub returns-clause-others : goal.returns-clause-others
returns-clause-others c loans place other change differ =
    get_or-set_other loans place other (change (loan_at loans place)) (idle false) differ

pub returns-clause-places : goal.returns-clause-places
returns-clause-places c loans place change = length-set loans place (change (loan_at loans place))
