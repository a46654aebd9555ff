use Rattle.std.proofs.Common.{◌≡◌, List, [], true, Some, length, refl, sym, ap, subst, ◌∙◌, arith}
use Rattle.std.proofs.lemmas.List.{nil_from_length}
use Rattle.cm_model.specs.declared.member.Member.{Member}
use Rattle.stop_plan.specs.Ending.{HasFlags}
use Rattle.switch_plan.specs.Relations.{Related}
use Rattle.rt_flight.specs.Calls.Cycles.{Decides}
use Rattle.rt_flight.specs.Calls.Turns.{Ends}
use Rattle.rt_flight.specs.Cells.{CellFacts}
use Rattle.rt_flight.specs.Flights.{CanSettle}
use Rattle.rt_flight.specs.declared.robot.Robot.{Robot}
use Rattle.rt_flight.proofs.CycleLemmas.{flags_after, ran_after}
use Rattle.rt_flight.proofs.EndLemmas.{computed, equipped, few_failures, few_joints, flagged, lines}
use Rattle.rt_flight.proofs.EndLemmas.{nobody_told, none_there, same_count, settles, some_time}
use Rattle.rt_flight.proofs.compute.end_turns.Goals as goal

pub write_components-requires-clause-time : goal.write_components-requires-clause-time
write_components-requires-clause-time g c =
    some_time c.args.number c.requires.0 c.args.cells.now c.requires.1.0 c.args.context.now c.in-Some.room
    c.requires.1.1 c.in-Some.is

pub write_components-requires-clause-failures : goal.write_components-requires-clause-failures
write_components-requires-clause-failures g c =
    few_failures c.args.number c.requires.0 c.args.cells.now c.requires.1.0 c.args.context.now c.in-Some.room
    c.requires.1.1 c.in-Some.is

pub write_components-requires-clause-joints : goal.write_components-requires-clause-joints
write_components-requires-clause-joints g c =
    few_joints c.args.number c.requires.0 c.args.cells.now c.requires.1.0 c.args.context.now c.in-Some.room
    c.requires.1.1 c.in-Some.is

pub settle-context-requires-clause-can : goal.settle-context-requires-clause-can
settle-context-requires-clause-can g c =
    let k = c.args.context.now in
    let has = c.write_components.ensures in
    let made = c.write_components.new.room in
    subst (λ (w : Related). CanSettle w c.deref.result.now made) (sym (ap (λ (x : Robot). x.relations) has.robot))
    (subst (λ (ms : List Member). CanSettle k.robot.relations ms made) (sym c.deref.ensures.value)
    (settles c.args.number c.requires.0 c.args.cells.now c.requires.1.0 k c.in-Some.room c.requires.1.1 c.in-Some.is
    c.write_components.new.robot.hardware made has.finished has.told))

pub settle-context-requires-clause-flags : goal.settle-context-requires-clause-flags
settle-context-requires-clause-flags g c =
    let k = c.args.context.now in
    subst (λ (w : Related). HasFlags (length w.leaders) k.ending)
    (sym (ap (λ (x : Robot). x.relations) c.write_components.ensures.robot))
    (flagged c.args.number c.requires.0 c.args.cells.now c.requires.1.0 k c.in-Some.room c.requires.1.1 c.in-Some.is)

pub show-requires : goal.show-requires
show-requires g c =
    let k = c.args.context.now in
    let has = c.write_components.ensures in
    lines c.args.number c.requires.0 c.args.cells.now c.requires.1.0 k c.in-Some.room c.requires.1.1 c.in-Some.is
    c.write_components.new.robot.hardware c.write_components.new.room has.finished has.told
    k.lists (refl, refl)

-- nobody ran where nobody flies
pub told-requires-clause-ran : goal.told-requires-clause-ran
told-requires-clause-ran g c = λ nobody.
    let k = c.args.context.now in
    let has = c.write_components.ensures in
    let made = c.write_components.new.room in
    let empty : c.args.cells.now ≡ [] =
    none_there c.args.cells.now c.is_empty-flies.result c.is_empty-flies.ensures nobody in
    let count = same_count c.args.number c.requires.0 c.args.cells.now c.requires.1.0 k c.in-Some.room c.requires.1.1
    c.in-Some.is in
    let none : c.requires.0 ≡ [] =
    nil_from_length c.requires.0 (omega (arith, count, ap (λ (cs : List CellFacts). length cs) empty)) in
    ran_after c.write_components.new.robot.relations c.deref.result.now c.deref-2.result.now made
    c.settle-context.new.room k.ending c.settle-context.new.ending c.settle-context.result
    c.settle-context.ensures.quiet c.settle-context.ensures.decided
    ∙ ap (λ r. r.ran.rans) has.told
    ∙ nobody_told c.args.number c.requires.0 c.args.cells.now c.requires.1.0 k c.in-Some.room c.requires.1.1
    c.in-Some.is none

-- what the flight keeps is kept, and it is computed of each state of which its turns began
pub returns : goal.returns
returns g c =
    let number = c.args.number in
    let cells = c.args.cells.now in
    let k = c.args.context.now in
    let room = c.in-Some.room in
    let has = c.write_components.ensures in
    let w = c.write_components.new.robot.hardware in
    let made = c.write_components.new.room in
    let told = c.settle-context.new.room in
    let ending = c.settle-context.new.ending in
    let still = c.settle-context.ensures.quiet in
    let relations : c.write_components.new.robot.relations ≡ k.robot.relations =
    ap (λ (x : Robot). x.relations) has.robot in
    let decides : c.settle-context.result ≡ true
    → Decides k.robot.relations c.deref.result.now c.deref-2.result.now made told ending =
    λ some. subst (λ (v : Related). Decides v c.deref.result.now c.deref-2.result.now made told ending) relations
    (c.settle-context.ensures.decided some) in
    let before = flagged number c.requires.0 cells c.requires.1.0 k room c.requires.1.1 c.in-Some.is in
    let flags = flags_after k.robot.relations c.deref.result.now c.deref-2.result.now made told k.ending ending
    c.settle-context.result before still decides in
    let has_lines =
    lines number c.requires.0 cells c.requires.1.0 k room c.requires.1.1 c.in-Some.is w made has.finished has.told
    c.show.new.lists c.show.ensures.room in
    subst (λ (x : Robot). Ends number cells k (record k {
      robot = x;
      ending = ending;
      lists = c.show.new.lists;
      has_failed = c.settle-context.result;
      room = c.told.new.room;
      left_over = c.told.new.left_over;
      «record» = Some c.told.result;
      standing = c.told.new.standing;
    })) (sym has.robot) (record {
      done = record {
        equipped = equipped number c.requires.0 cells c.requires.1.0 k room c.requires.1.1 c.in-Some.is w made
            has.finished has.told ending c.show.new.lists flags has_lines;
        left = c.told.ensures.left;
      };
      computed = refl;
      cycle = λ begun read all progress s of.
          computed number begun cells read k room all c.in-Some.is w made has.finished has.told told c.deref.result.now
          c.deref-2.result.now k.ending ending c.settle-context.result c.deref.ensures.value
          c.deref-2.ensures.value still decides s of c.show.new.lists progress c.told.result c.show.ensures.shown
          c.told.ensures.told;
    })
