use Rattle.std.proofs.Common.{arith}
use Rattle.std.specs.Prelude.{codes}
use Rattle.trace_text.specs.Quiet.{quiet_end}
use Rattle.trace_text.proofs.QuietLemmas.{next_differs}
use Rattle.trace_text.proofs.quiet.other_digits.Goals as goal

-- the line of the next begin
pub returns-in-Begin-Begin : goal.returns-in-Begin-Begin
returns-in-Begin-Begin c = rw (c.in_ok-last.was, c.in-Begin-Begin.is-0, c.in-Begin-Begin.is-1)
    (next_differs quiet_end (codes "loop begin ") c.in-Begin-Begin.last c.in-Begin-Begin.cycle c.next_digits.result
    (omega arith) c.next_digits.ensures)

-- the line of the next end
pub returns-in-End-End : goal.returns-in-End-End
returns-in-End-End c = rw (c.in_ok-last.was, c.in-End-End.is-0, c.in-End-End.is-1)
    (next_differs quiet_end (codes "loop end ") c.in-End-End.last c.in-End-End.cycle c.next_digits-in-End-End.result
    (omega arith) c.next_digits-in-End-End.ensures)
