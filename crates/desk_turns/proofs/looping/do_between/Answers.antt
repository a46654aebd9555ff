use Rattle.desk_turns.proofs.looping.do_between.Goals as goal

-- the job is as far as before
pub returns : goal.returns
returns g c = c.requires.leaves _ _ c.between.ensures
