use Rattle.std.proofs.Common.{◌≡◌, List, length, map, vec_capacity, Option, refl, sym, ap, subst, ◌∙◌, arith}
use Rattle.std.specs.Prelude.{Box, IsSomeAnd}
use Rattle.std.specs.declared.alloc.Global.{Global}
use Rattle.cm_model.specs.Cycle.{begun, members_in_order, without_mail_off}
use Rattle.cm_model.specs.State.{Loaded}
use Rattle.cm_slots.specs.Slots.{Slotted, IsRunOf}
use Rattle.rt_flight.specs.declared.context.CycleContext.{CycleContext}
use Rattle.cm_resources.specs.CycleNeeds.{IsFittedOut}
use Rattle.cm_resources.specs.declared.resources.CycleResources.{CycleResources}
use Rattle.cm_desk.proofs.BeginLemmas.{all_timed}
use Rattle.cm_desk.proofs.TakeOffLemmas.{lines_for, lines_stay, lent_so, cells_so, mails_so, stands_room}
use Rattle.cm_desk.proofs.TakeOffLemmas.{is_run, run_count, can_fill, aloft_over, equipped, ready_in}
use Rattle.cm_desk.proofs.begin.take_off.Goals as goal

-- no mail is aloft yet, and there is room for that of each
pub send_off-requires-clause-room : goal.send_off-requires-clause-room
send_off-requires-clause-room g c =
    let is = c.requires.1 in
    omega (arith, ap length is.prepared.no_mail, is.prepared.mails, ap length is.loaded)

pub send_off-requires-clause-time : goal.send_off-requires-clause-time
send_off-requires-clause-time g c =
    let s = c.requires.0 in
    let is = c.requires.1 in
    rw (is.loaded) (all_timed s.description s.loaded is.fit.timed)

-- the controllers without the mail that went aloft are those of the cycle
pub lend-requires : goal.lend-requires
lend-requires g c =
    let s = c.requires.0 in
    let is = c.requires.1 in
    let sent = c.send_off.ensures.slots s (sym is.number) in
    let loaded : c.send_off.new.self.loaded ≡ (begun s).loaded =
    ap (λ (x : Slotted). x.loaded) sent ∙ ap (map (without_mail_off s)) is.loaded in record {
      home = ap (λ (x : Slotted). x.aloft) sent ∙ is.down;
      run = (
        begun s,
        subst (λ (ls : List Loaded). IsRunOf (begun s) ls c.args.run.now) (sym loaded) (is_run s _ _ _ _ _ _ _ _ is),
      );
      empty = is.no_box;
      room = omega (arith, run_count s _ _ _ _ _ _ _ _ is, is.box_places);
    }

-- with the boxes that were lent their cells are filled
pub fill_cells-requires : goal.fill_cells-requires
fill_cells-requires g c =
    let s = c.requires.0 in
    let is = c.requires.1 in
    let lent = lent_so s _ _ _ _ _ _ _ _ is c.send_off.new.self c.lend.new.self _
    (c.send_off.ensures.slots s (sym is.number)) c.lend.ensures.lent in
    rw (c.as_slice.ensures, lent.loaded) (can_fill s _ _ _ _ _ _ _ _ is _ lent.ctls c.lend.ensures.lent.running)

-- what works in the cycle is at home,
pub send_out-requires : goal.send_out-requires
send_out-requires g c =
    let is = c.requires.1 in
    record { home = is.home; lines = lines_for (begun c.requires.0) _ _ is.hardware is.lines; told = is.told }

-- and leaves as it was there
pub take_off-requires-clause-equipped : goal.take_off-requires-clause-equipped
take_off-requires-clause-equipped g c =
    let s = c.requires.0 in
    let is = c.requires.1 in
    let lent = lent_so s _ _ _ _ _ _ _ _ is c.send_off.new.self c.lend.new.self _
    (c.send_off.ensures.slots s (sym is.number)) c.lend.ensures.lent in
    let cells = cells_so s _ _ _ _ _ _ _ _ is c.as_slice.result.now _ c.send_off.new.mails.items
    c.fill_cells.new.cells.items (c.as_slice.ensures ∙ lent.loaded) lent.ctls
    (c.send_off.ensures.mails s (sym is.number)) c.fill_cells.ensures.cells_filled in
    let out = subst
    (λ (o : Option (Box CycleContext Global)). IsSomeAnd o
    (λ h. IsFittedOut s.description c.args.resources.now.robot.value.places (members_in_order (begun s)) h.value))
    c.send_out.ensures.idle_context is.prepared.context in
    rw (cells, c.send_out.ensures.robot, c.send_out.ensures.ending, c.send_out.ensures.next_lists)
    (equipped s _ _ _ _ _ _ _ _ is c.send_out.result.value out)

-- no update failed in it
pub take_off-requires-clause-none_erred : goal.take_off-requires-clause-none_erred
take_off-requires-clause-none_erred g c =
    let s = c.requires.0 in
    let is = c.requires.1 in
    let out = subst
    (λ (o : Option (Box CycleContext Global)). IsSomeAnd o
    (λ h. IsFittedOut s.description c.args.resources.now.robot.value.places (members_in_order (begun s)) h.value))
    c.send_out.ensures.idle_context is.prepared.context in
    out.none_erred

pub take_off-requires-clause-ready : goal.take_off-requires-clause-ready
take_off-requires-clause-ready g c =
    let s = c.requires.0 in
    let is = c.requires.1 in
    let lent = lent_so s _ _ _ _ _ _ _ _ is c.send_off.new.self c.lend.new.self _
    (c.send_off.ensures.slots s (sym is.number)) c.lend.ensures.lent in
    let cells = cells_so s _ _ _ _ _ _ _ _ is c.as_slice.result.now _ c.send_off.new.mails.items
    c.fill_cells.new.cells.items (c.as_slice.ensures ∙ lent.loaded) lent.ctls
    (c.send_off.ensures.mails s (sym is.number)) c.fill_cells.ensures.cells_filled in
    let out = subst
    (λ (o : Option (Box CycleContext Global)). IsSomeAnd o
    (λ h. IsFittedOut s.description c.args.resources.now.robot.value.places (members_in_order (begun s)) h.value))
    c.send_out.ensures.idle_context is.prepared.context in
    rw (cells, c.send_out.ensures.robot)
    (ready_in s _ _ _ _ _ _ _ _ is c.send_out.result.value out (rw (lent.ctls) at c.lend.ensures.lent.running))

pub returns-clause-off : goal.returns-clause-off
returns-clause-off g c = λ s is.
    let lent = lent_so s _ _ _ _ _ _ _ _ is c.send_off.new.self c.lend.new.self _
    (c.send_off.ensures.slots s (sym is.number)) c.lend.ensures.lent in
    let cells = cells_so s _ _ _ _ _ _ _ _ is c.as_slice.result.now _ c.send_off.new.mails.items
    c.fill_cells.new.cells.items (c.as_slice.ensures ∙ lent.loaded) lent.ctls
    (c.send_off.ensures.mails s (sym is.number)) c.fill_cells.ensures.cells_filled in
    record {
      slots = lent.whole;
      resources = rw (c.send_out.ensures.resources) refl;
      mails = ap (λ (b : CycleResources). b.mails.value.items) c.send_out.ensures.resources
          ∙ rw (c.of.ensures)
          (mails_so s _ _ _ _ _ _ _ _ is c.send_off.new.mails.items (c.send_off.ensures.mails s (sym is.number)));
      none_stands =
          ap (λ (b : CycleResources). b.buffers.workspaces.items) c.send_out.ensures.resources
          ∙ c.fill_cells.ensures.workspaces.empty;
      stands = omega (
        arith,
        ap (λ (b : CycleResources). vec_capacity b.buffers.workspaces) c.send_out.ensures.resources,
        c.fill_cells.ensures.workspaces.room,
        stands_room s _ _ _ _ _ _ _ _ is,
        c.args.resources.now.buffers.workspaces.ok.0,
      );
      lines = lines_stay s _ c.send_out.new.self.lists is.lines
          (c.send_out.ensures.components, c.send_out.ensures.loans);
      shown = c.send_out.ensures.shown;
      flight = rw (c.take_off.ensures)
          (record {
            over = rw (cells, c.send_out.ensures.robot) (aloft_over s _ _ _ _ _ _ _ _ is);
            not_yet =
                (refl, refl);
          });
    }

pub returns-clause-room : goal.returns-clause-room
returns-clause-room g c = c.fill_cells.ensures.boxes.room ∙ c.lend.ensures.capacity
