use Rattle.ctl_shape.proofs.FormulaLemmas.{longest_step_fits, no_step_longer}
use Rattle.ctl_shape.proofs.way.farthest.Goals as goal

pub returns-clause-fits : goal.returns-clause-fits
returns-clause-fits c =
    longest_step_fits c.args.room c.args.change c.changes_in-slower.result c.requires.some
    c.changes_in-slower.ensures.fits c.changes_in-slower.ensures.no_more

pub returns-clause-no_farther : goal.returns-clause-no_farther
returns-clause-no_farther c =
    no_step_longer c.args.room c.args.change c.changes_in-slower.result c.requires.some c.changes_in-slower.ensures.fits
    c.changes_in-slower.ensures.no_more
