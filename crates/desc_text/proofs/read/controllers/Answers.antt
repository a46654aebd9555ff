use Rattle.desc_text.proofs.read.controllers.Goals as goal

pub returns : goal.returns
returns c = rw (c.in_ok-all.ensures, c.new.ensures) at c.defaulted.ensures
