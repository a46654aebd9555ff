-- The summaries of runs, computed from the definitions alone.
use Rattle.std.proofs.Common.{◌≡◌, refl}
use Rattle.std.specs.Fmt.{digits}
use Rattle.fixed_num.specs.Arithmetic.{floor_div, within}
use Rattle.fixed_num.specs.Bodies.{stepped}
use Rattle.fixed_num.specs.Micro.{clamped}
use Rattle.fixed_num.specs.Text.{spelled}
use Rattle.cm_model.specs.BestEffort.{stays_within}
use Rattle.cm_model.specs.Boundary.{all_concluded}
use Rattle.cm_model.specs.Commit.{commit}
use Rattle.cm_model.specs.Cycle.{reaches, cycle, after_cycle}
use Rattle.cm_model.specs.Machine.{step}
use Rattle.cm_model.specs.Order.{rank_within}
use Rattle.cm_model.specs.Scheduled.{advance, settle, settle_all, looped, with_cycle, finish, start, scheduled}
use Rattle.summary_text.specs.Summary.{summary}
use Rattle.make_document.specs.Meant.{opening_calls}
use Rattle.made_laws.specs.Runs.{summed_up, summary_of_one, summary_of_two}

pub one_round : summed_up 1 ≡ summary_of_one
unfolding digits rank_within stays_within reaches all_concluded commit spelled stepped within clamped floor_div cycle
    after_cycle step advance settle settle_all looped with_cycle finish start scheduled summary opening_calls
one_round = refl

pub two_rounds : summed_up 2 ≡ summary_of_two
unfolding digits rank_within stays_within reaches all_concluded commit spelled stepped within clamped floor_div cycle
    after_cycle step advance settle settle_all looped with_cycle finish start scheduled summary opening_calls
two_rounds = refl
