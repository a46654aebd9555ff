use Rattle.live_run.proofs.looping.compute_at.Goals as goal

-- it computes the flight
pub returns : goal.returns
returns g c = c.requires.computes.leaves _ _ _ _ c.requires.out c.compute.ensures
