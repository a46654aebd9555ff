use Rattle.std.proofs.Common.{sym}
use Rattle.cm_desk.proofs.works.Works.act.Goals as goal

pub switch-requires-clause-can : goal.switch-requires-clause-can
switch-requires-clause-can g c = (c.requires.can.0, rw (c.in-Switch.is) at c.requires.can.1.act)

pub move_component-requires : goal.move_component-requires
move_component-requires g c =
    record {
      down = c.requires.down;
      can =
          (c.requires.can.0, (rw (c.in-Move.is) at c.requires.can.1.act, c.requires.can.1.steady));
    }

pub returns-in-Nothing : goal.returns-in-Nothing
returns-in-Nothing g c = λ after can. sym (rw (c.in-Nothing.is) at can.act)

pub returns-in-Switch : goal.returns-in-Switch
returns-in-Switch g c = λ after can. c.switch.ensures after (rw (c.in-Switch.is) at can.act)

pub returns-in-Move : goal.returns-in-Move
returns-in-Move g c = λ after can. c.move_component.ensures after (rw (c.in-Move.is) at can.act)
