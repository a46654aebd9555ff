use Rattle.rt_flight.proofs.laws.claims_of_active_controllers_differ.Goals as goal

pub returns : goal.returns
returns c = λ s p q interface steady here there claims also. steady.together.exclusive p q interface here there claims
    also
