use Rattle.ctl_traj.proofs.BetweenLemmas.{led_ends}
use Rattle.ctl_traj.proofs.laws.it_ends_at_its_last_point.Goals as goal

pub returns : goal.returns
returns c = led_ends
