use Rattle.draw_causes.specs.Words.{stop_mend}
use Rattle.draw_causes.proofs.WordLemmas.{at_case}
use Rattle.draw_causes.proofs.failures.push_stop_mend.Goals as goal

pub returns-in_ok-write-in-Component : goal.returns-in_ok-write-in-Component
returns-in_ok-write-in-Component c =
    at_case _ (λ kind. stop_mend c.args.name.now kind c.args.because_of.now) c.in-Component.is
    c.in_ok-write-in-Component.ensures.bytes

pub returns-in_ok-write-in-Finalized : goal.returns-in_ok-write-in-Finalized
returns-in_ok-write-in-Finalized c =
    at_case _ (λ kind. stop_mend c.args.name.now kind c.args.because_of.now) c.in-Finalized.is
    c.in_ok-write-in-Finalized.ensures.bytes

pub returns-in_ok-write-in-Follower : goal.returns-in_ok-write-in-Follower
returns-in_ok-write-in-Follower c =
    at_case _ (λ kind. stop_mend c.args.name.now kind c.args.because_of.now) c.in-Follower.is
    c.in_ok-write-in-Follower.ensures.bytes
