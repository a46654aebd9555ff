use denote.Exit as exit
use denote.Param.{param}
use denote.Param.Send.{sendable, param_send, param_sync, arg_send, arg_sync}
use Rattle.shared_desk.proofs.Crossing.{console_pass_send}
use Rattle.cm_bench.proofs.Crossing.{with_passes}
use Rattle.cm_bench.proofs.crowds.by_passes.Goals as goal

pub map_vec-requires-send-J : goal.map_vec-requires-send-J
map_vec-requires-send-J g c κs within =
    param_send 1 _
    (arg_send _ exit.no _
    (console_pass_send (param 1 g.row.C) g.C.Controller (search (sendable, c.type_bounds.send-C))))

pub map_vec-requires-sync-F : goal.map_vec-requires-sync-F
map_vec-requires-sync-F g c κs within =
    param_sync 4 _
    (arg_sync _ exit.no _
    (with_passes _ (param 1 g.row.C) g.C.Controller c.type_bounds.sync-R (search (sendable, c.type_bounds.send-C)) _ _
    _ _))
