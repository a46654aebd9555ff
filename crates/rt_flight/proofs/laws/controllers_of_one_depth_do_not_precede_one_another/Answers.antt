use Rattle.cm_model.specs.State.{active}
use Rattle.sound_laws.proofs.ValidLemmas.{valid-IsChecked}
use Rattle.rt_flight.proofs.DepthLemmas.{none_precedes, no_reference}
use Rattle.rt_flight.proofs.laws.controllers_of_one_depth_do_not_precede_one_another.Goals as goal

pub returns-clause-none : goal.returns-clause-none
returns-clause-none c = λ s p q valid member same.
    none_precedes s.description.controllers (valid-IsChecked s.description valid).free (active s) p q member same

pub returns-clause-references : goal.returns-clause-references
returns-clause-references c = λ s p q interface valid member same claims.
    no_reference s.description.controllers (valid-IsChecked s.description valid).free (active s) p q member same
    interface claims
