use Rattle.ctl_traj.proofs.BetweenLemmas.{led_goes_between}
use Rattle.ctl_traj.proofs.laws.it_goes_from_point_to_point.Goals as goal

pub returns : goal.returns
returns c = led_goes_between
