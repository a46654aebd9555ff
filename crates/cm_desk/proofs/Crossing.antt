-- A desk may cross threads where its boxes may.
use denote.RattleType.{RattleType}
use denote.Param.Send.{IsSend, sendable, view_send}
use denote.Param.SendFields.{declared_send, as_row_send}
use Rattle.std.proofs.Crossing as heap
use Rattle.std.specs.contracts.alloc.Global as Heap
use Rattle.std.specs.contracts.impls.GlobalAllocator.TheImpl.{ghosts as heap_ghosts}
use Rattle.std.specs.contracts.vec.Vec as Vec
use Rattle.cm_document.proofs.call.Mail.TheSendSync as mail
use Rattle.cm_document.proofs.life.Life.TheSendSync as life
use Rattle.std.proofs.option.Option.TheSendSync as option
use Rattle.cm_document.proofs.description.CtlKind.TheSendSync as kind
use Rattle.ctl_trait.specs.declared.controller.Controller.{Ghosts}
use Rattle.std.specs.contracts.snapshot.Snapshot as Snapshot
use Rattle.std.specs.contracts.option.Option as Option
use Rattle.cm_slots.specs.contracts.slot.Slot as Slot
use Rattle.cm_slots.specs.contracts.slot.Slot.TheInside as SlotInside
use Rattle.cm_slots.specs.contracts.slots.Slots as Slots
use Rattle.cm_slots.specs.contracts.slots.Slots.TheInside as SlotsInside
use Rattle.cm_model.specs.contracts.entry.Entry as Entry
use Rattle.cm_model.proofs.entry.Entry.TheSendSync as entry
use Rattle.cm_model.proofs.blanks.Blanks.TheSendSync as blanks
use Rattle.rt_flight.specs.contracts.cell.Cell as Cell
use Rattle.rt_flight.proofs.cell.Cell.TheSendSync as cell
use Rattle.cm_resources.proofs.active_set.ActiveSet.TheSendSync as active_set
use Rattle.cm_desk.specs.contracts.works.Works as Works
use Rattle.cm_desk.specs.contracts.works.Works.TheInside as WorksInside
use Rattle.cm_desk.specs.contracts.desk.Desk as Desk
use Rattle.cm_desk.specs.contracts.desk.Desk.TheInside as DeskInside
use Rattle.cm_stock.proofs.stock.Stock.TheSendSync as stock
use Rattle.request_plan.proofs.requests.Requests.TheSendSync as requests
use Rattle.cm_document.proofs.checked.Checked.TheSendSync as checked
use Rattle.iface_names.specs.contracts.name.Name as Name
use Rattle.iface_names.proofs.name.Name.TheSendSync as name
use Rattle.sequence.specs.contracts.shared.Shared as Shared
use Rattle.sequence.proofs.shared.Shared.TheSendSync as shared
use Rattle.cm_resources.proofs.Crossing.{resources_send, snapshot_send, vec_send}

slot_send : (C : RattleType) (m : Ghosts C.Denot) → IsSend C → IsSend (Slot.the_row C m)
slot_send C m s = view_send _ _ _ _ _ (declared_send (SlotInside.the_type C m) (
  search sendable,
  (
    search sendable,
    (
      search sendable,
      (
        search sendable depth 30,
        (
          search (sendable, kind.the_send) depth 30,
          (
            search (sendable, life.the_send) depth 30,
            (search (sendable, mail.the_send) depth 30, (as_row_send (Snapshot.the_field C) (snapshot_send C), tt)),
          ),
        ),
      ),
    ),
  ),
))

option_send : (C : RattleType) → IsSend C → IsSend (Option.the_row C)
option_send C s = option.the_send C s

slots_send : (C : RattleType) (m : Ghosts C.Denot) → IsSend C → IsSend (Slots.the_row C m)
slots_send C m s =
    let slot = slot_send C m s in
    view_send _ _ _ _ _ (declared_send (SlotsInside.the_type C m) (
      as_row_send (Vec.the_field (Slot.the_row C m) Heap.the_row heap_ghosts) (heap.Vec-send (Slot.the_row C m) slot),
      (
        as_row_send (Vec.the_field (Option.the_row C) Heap.the_row heap_ghosts)
            (heap.Vec-send (Option.the_row C) (option_send C s)),
        (search sendable, (search sendable, tt)),
      ),
    ))

works_send : (C : RattleType) (m : Ghosts C.Denot) → IsSend C → IsSend (Works.the_row C m)
works_send C m s = view_send _ _ _ _ _ (declared_send (WorksInside.the_type C m) (
  checked.the_send,
  (
    vec_send (Shared.the_row Name.the_row) (shared.the_send Name.the_row name.the_send name.the_sync),
    (
      search sendable,
      (
        stock.the_send C m s,
        (
          search sendable,
          (
            slots_send C m s,
            (
              requests.the_send,
              (
                resources_send,
                (
                  vec_send (Cell.the_row C m) (cell.the_send C m s),
                  (
                    vec_send C s,
                    (
                      active_set.the_send,
                      (
                        search sendable,
                        (search sendable, tt),
                      ),
                    ),
                  ),
                ),
              ),
            ),
          ),
        ),
      ),
    ),
  ),
))

pub desk_send : (C : RattleType) (m : Ghosts C.Denot) → IsSend C → IsSend (Desk.the_row C m)
desk_send C m s = view_send _ _ _ _ _ (declared_send (DeskInside.the_type C m) (
  works_send C m s,
  (blanks.the_send, (vec_send Entry.the_row entry.the_send, (vec_send C s, tt))),
))
