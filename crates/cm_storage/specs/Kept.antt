-- A call as the history keeps it stands for the call.
use Rattle.std.specs.Prelude.{ℕ, Bool, true, false, List, Option, Some, None}
use Rattle.cm_document.specs.declared.call.Call.{Call}
use Rattle.cm_document.specs.declared.call.Call.TheVariants as call
use Rattle.cm_storage.specs.declared.kept_call.CycleCall.{CycleCall}
use Rattle.cm_storage.specs.declared.kept_call.CycleCall.TheVariants as of_cycle
use Rattle.cm_storage.specs.declared.kept_call.Short.{Short}
use Rattle.cm_storage.specs.declared.kept_call.Short.TheVariants as short

-- the call that is kept so
abbrev pub kept_call : Short → Call
kept_call (short.Told ticket) = call.Told ticket
kept_call (short.Await cycles) = call.Await cycles
kept_call short.ListControllers = call.ListControllers
kept_call short.ListInterfaces = call.ListInterfaces
kept_call short.ListComponents = call.ListComponents
kept_call (short.Begin cycle) = call.Begin cycle
kept_call (short.End cycle) = call.End cycle
kept_call short.Close = call.Close
kept_call (short.Long kept) = kept

-- whether a call begins or ends a cycle
abbrev pub is_of_cycle : Call → Bool
is_of_cycle (call.Begin _) = true
is_of_cycle (call.End _) = true
is_of_cycle _ = false

-- what the loop calls so
abbrev pub call_of : CycleCall → Call
call_of (of_cycle.Begin cycle) = call.Begin cycle
call_of (of_cycle.End cycle) = call.End cycle

-- the controller that a load is of
abbrev pub load_name : Call → Option (List ℕ)
load_name (call.Load name) = Some name
load_name _ = None
