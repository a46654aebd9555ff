use Rattle.std.proofs.Common.{refl, sym, ap, subst, ◌∙◌}
use Rattle.cm_hardware.specs.Holding.{IsHardwareOf}
use Rattle.cm_hardware.specs.Wiring.{Wired}
use Rattle.cm_model.specs.State.{boot}
use Rattle.rt_flight.specs.declared.context.CycleContext.{CycleContext}
use Rattle.rt_flight.specs.declared.robot.Robot.{Robot}
use Rattle.cm_resources.specs.CycleResources.{HasLines, IsRobotAtStart}
use Rattle.cm_resources.proofs.StartLemmas.{lines_at_start, size_at_start}
use Rattle.cm_resources.proofs.resources.CycleResources.make.Goals as goal

pub returns : goal.returns
returns c =
    let d = c.args.checked.now in
    let start = c.in_ok-context.ensures in
    let wired : IsRobotAtStart d c.deref.result.now.robot =
    subst (λ (k : CycleContext). IsRobotAtStart d k.robot) (sym c.deref.ensures) start.robot in
    let robot = c.of.ensures ∙ ap (λ (k : CycleContext). k.robot) c.deref-2.ensures in
    let ending = c.of-2.ensures ∙ ap (λ (k : CycleContext). k.ending) c.deref-3.ensures in
    let members = ap (λ x. x.items) (c.of-4.ensures ∙ ap (λ (k : CycleContext). k.order) c.deref-4.ensures) in
    let erred = ap (λ x. x.items) (c.of-5.ensures ∙ ap (λ (k : CycleContext). k.erred) c.deref-5.ensures) in
    let lists = c.of-6.ensures ∙ ap (λ (k : CycleContext). k.lists) c.deref-6.ensures in record {
      hardware = λ blanks sessions.
          subst (λ (w : Wired). IsHardwareOf (boot d blanks sessions) w) (sym (ap (λ (g : Robot). g.hardware) robot))
          (start.robot.hardware blanks sessions);
      placed = ap (λ (g : Robot). g.places) robot ∙ start.robot.placed;
      related = ap (λ (g : Robot). g.relations) robot ∙ start.robot.related;
      timed = ap (λ (g : Robot). g.period_us) robot ∙ start.robot.timed;
      no_mail = rw (c.of-3.ensures) c.none-buffers.ensures.mails;
      none_erred = erred ∙ start.erred;
      based = λ box_places. record {
        wide = c.in_ok-room.ensures;
        flags = rw (ending ∙ start.ending) c.requires;
        home = record {
          robot = sym robot;
          ending = sym ending;
          order = sym members;
          erred = sym erred;
          next_lists = sym lists;
          told = rw (start.told) tt;
        };
        home_is = refl;
        fitted = rw (c.none-buffers.ensures.workspaces) tt;
        ordered = λ down. rw (c.none-buffers.ensures.workspaces) (members ∙ start.order);
        size = size_at_start d _ wired.hardware _ c.most_failures.ensures c.joints.ensures;
        lines = lines_at_start d _ c.in_ok-lists.lists wired.hardware c.in_ok-lists.ensures;
        shown = λ none. cc;
        told = λ yes. cc;
        next_lines = λ down.
            subst (HasLines d) (sym lists)
            (lines_at_start d c.in_ok-context.context.value.robot.hardware c.in_ok-context.context.value.lists
            start.robot.hardware start.lines);
        stands = λ aloft. cc;
        box_places = λ aloft. cc;
      };
    }
