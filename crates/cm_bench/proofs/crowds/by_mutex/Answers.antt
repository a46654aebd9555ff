use denote.Exit as exit
use denote.Param.{param}
use denote.Param.Send.{sendable, param_sync, arg_sync}
use Rattle.cm_bench.proofs.Crossing.{at_mutex}
use Rattle.cm_bench.proofs.crowds.by_mutex.Goals as goal

pub map_indices-requires-sync-F : goal.map_indices-requires-sync-F
map_indices-requires-sync-F g c κs within =
    param_sync 3 _
    (arg_sync _ exit.no _
    (at_mutex _ (param 1 g.row.C) g.C.Controller c.type_bounds.sync-R (search (sendable, c.type_bounds.send-C)) _ _ _
    _ _))
