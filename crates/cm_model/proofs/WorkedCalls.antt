-- What worked rows of calls are written with: calls, one after the other, with their replies as they print.
use Rattle.std.proofs.Common.{ℕ, true, false, List, [], ◌∷◌, map}
use Rattle.std.specs.Prelude.{flat_map, unwrap_or}
use Rattle.cm_document.specs.declared.call.Call.{Call}
use Rattle.cm_document.specs.declared.call.Call.TheVariants.{Load, Configure, Switch}
use Rattle.cm_document.specs.declared.call.Pick.TheVariants.{One}
use Rattle.cm_model.specs.Items.{Names}
use Rattle.cm_model.specs.Machine.{reply_of, answered}
use Rattle.cm_model.specs.State.{State}
use Rattle.cm_model.specs.Trace.{reply_text}
use Rattle.cm_model.specs.declared.reply.Reply.{Reply}
use Rattle.cm_model.specs.declared.reply.Reply.TheVariants as reply

-- the state after a call that is enabled, with the reply
abbrev pub made : State → Call → State × Reply
made s call = answered s call (unwrap_or (reply_of s call) reply.Done)

-- the replies to calls, one after the other, as they print with these names
abbrev pub replies : Names → State → List Call → List (List ℕ)
replies names s [] = []
replies names s (call ∷ calls) = reply_text names (made s call).1 ∷ replies names (made s call).0 calls

-- the state after calls, one after the other
abbrev pub after : State → List Call → State
after s [] = s
after s (call ∷ calls) = after (made s call).0 calls

-- a strict switch of controllers, and one of best effort
abbrev pub strictly : List (List ℕ) → List (List ℕ) → Call
strictly off on = Switch (record { on = map One on; off = map One off; strict = true })

abbrev pub at_best : List (List ℕ) → List (List ℕ) → Call
at_best off on = Switch (record { on = map One on; off = map One off; strict = false })

-- a controller is loaded and configured
abbrev pub ready : List (List ℕ) → List Call
ready names = flat_map (λ name. Load name ∷ Configure name ∷ []) names
