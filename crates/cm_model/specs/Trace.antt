-- The trace: one line for each entry of a history. It is a function of the description, the script's sessions and the
-- history.
use Rattle.std.specs.Prelude.{ℕ, List, [], ◌∷◌, ◌++◌, map, flat_map, filter_map, codes, decimal, slice_get, Option}
use Rattle.std.specs.Prelude.{None, option_map, unwrap_or}
use Rattle.iface_names.specs.Interfaces.{interface_text}
use Rattle.cm_document.specs.CallText.{call_text}
use Rattle.cm_document.specs.Links.{joints_of}
use Rattle.cm_document.specs.Places.{interfaces_of}
use Rattle.cm_document.specs.declared.call.Call.{Call}
use Rattle.cm_document.specs.declared.description.Description.{Description}
use Rattle.cm_document.specs.declared.document.Document.{Document}
use Rattle.cm_document.specs.declared.script.SessionText.{SessionText}
use Rattle.cm_storage.specs.Kept.{load_name}
use Rattle.cm_model.specs.Causes.{outcome_text, decision_text}
use Rattle.cm_model.specs.Items.{Names, controller_text, iface_text, component_text, record_items}
use Rattle.cm_model.specs.declared.entry.Entry.{Entry}
use Rattle.cm_model.specs.declared.reply.Reply.{Reply}
use Rattle.cm_model.specs.declared.reply.Reply.TheVariants as reply
use Rattle.cm_model.specs.declared.reply.Why.{Why}
use Rattle.cm_model.specs.declared.reply.Why.TheVariants as why

-- ---- Names

-- the name of the controller that a call loaded with this answer
abbrev pub loaded_by : Call → Reply → Option (List ℕ)
loaded_by call (reply.Serial _) = load_name call
loaded_by call _ = None

-- The names of the controllers by serial: each load that was given one is of the next.
abbrev pub names_of : List Entry → List (List ℕ)
names_of history = filter_map (λ e. loaded_by e.call e.reply) history

-- what stands for each number in the trace of a history
abbrev pub names_in : Description → List Entry → Names
names_in d history = record {
  controllers = names_of history;
  components = d.components;
  joints = map (λ joint. joint.name) (joints_of d.components);
  interfaces = map (λ interface. interface_text interface.called.name) (interfaces_of d);
}

-- ---- Replies

-- why a call did nothing
abbrev pub why_word : Why → List ℕ
why_word why.NotDescribed = codes "not_described"
why_word why.Loaded = codes "loaded"
why_word why.StockEmpty = codes "stock_empty"
why_word why.NotLoaded = codes "not_loaded"
why_word why.Active = codes "active"
why_word why.Refused = codes "refused"
why_word why.NotInactive = codes "not_inactive"
why_word why.NotActive = codes "not_active"
why_word why.Chained = codes "chained"
why_word why.TakesNone = codes "takes_none"
why_word why.WrongCount = codes "wrong_count"
why_word why.LoopEnded = codes "loop_ended"
why_word why.QueueFull = codes "queue_full"

-- items joined by `; `, or `none` where there is none
abbrev pub joined : List (List ℕ) → List ℕ
joined [] = codes "none"
joined (item ∷ items) = item ++ flat_map (λ other. codes "; " ++ other) items

-- the reply
abbrev pub reply_text : Names → Reply → List ℕ
reply_text names reply.Done = codes "ok"
reply_text names (reply.Serial serial) = codes "ok " ++ decimal serial
reply_text names (reply.Queued ticket) = codes "queued " ++ decimal ticket
reply_text names (reply.Not reason) = why_word reason
reply_text names (reply.Outcome outcome) = outcome_text outcome
reply_text names (reply.Controllers lines) = joined (map controller_text lines)
reply_text names (reply.Interfaces lines) = joined (map (iface_text names) lines)
reply_text names (reply.Components lines) = joined (map (component_text names) lines)
reply_text names (reply.Decisions decisions) = joined (map decision_text decisions)
reply_text names (reply.Cycle happened) = joined (record_items names happened)

-- ---- Lines

-- a session's name, or `loop` for the number after the sessions
abbrev pub caller_text : List SessionText → ℕ → List ℕ
caller_text sessions who = unwrap_or (option_map (λ session. session.name) (slice_get sessions who)) (codes "loop")

-- caller, call and reply: `a load mk: ok 0`
abbrev pub line_text : List SessionText → Names → Entry → List ℕ
line_text sessions names e =
    caller_text sessions e.who ++ codes " " ++ call_text e.call ++ codes ": " ++ reply_text names e.reply ++ codes "\n"

-- the trace of a history
abbrev pub trace : Description → List SessionText → List Entry → List ℕ
trace d sessions history = flat_map (line_text sessions (names_in d history)) history

-- what is printed of the run of a document with this history
unfoldable pub output : Document → List Entry → List ℕ
output document history = trace document.description document.script.sessions history
