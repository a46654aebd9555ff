use Rattle.cm_resources.proofs.start.robot_at_start.Goals as goal

-- what is worked out of the description is with its hardware
pub returns : goal.returns
returns c = record {
  hardware = λ blanks sessions. c.in_ok-hardware.ensures blanks sessions;
  placed = c.in_ok-places.ensures;
  related = c.in_ok-relations.ensures;
  timed = c.period_us.ensures.period;
}
