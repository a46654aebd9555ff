use Rattle.std.proofs.Common.{◌≡◌, rules, refl, length}
use Rattle.cm_model.specs.Scheduled.{start}
use Rattle.desk_turns.proofs.NumberLemmas.{as_many, first_left, first_numbered}
use Rattle.desk_turns.proofs.jobs.RunningJob.start.Goals as goal

-- no session has made a line
pub returns-clause-started : goal.returns-clause-started
unfolding start
returns-clause-started g c =
    rw (
      c.in_ok-desk.ensures,
      first_left 0 _ _ c.in_ok-sessions.ensures.first c.in_ok-sessions.ensures.lines,
      c.as_slice-texts.ensures,
    ) refl

-- a desk for as many sessions as there are
pub invariant_of-result : goal.invariant_of-result
invariant_of-result g c =
    let many : length c.in_ok-sessions.sessions.items ≡ length c.as_slice-texts.result.now =
    as_many _ _ c.in_ok-sessions.ensures.lines in (
      record {
        many = rw (c.in_ok-desk.ensures, many) (search rules);
        numbered =
            first_numbered 0 _ c.in_ok-sessions.ensures.first;
      },
      rw c.in_ok-desk.ensures (search rules),
    )
