-- The written manager as a machine: one call, one step. A history is legal where each of its entries is such a step.
use Rattle.std.specs.Prelude.{◌≡◌, ℕ, ◌+◌, ◌==◌, nat_lt, Bool, false, not, ◌&&◌, ◌||◌, if◌then◌else◌, List, [], ◌∷◌}
use Rattle.std.specs.Prelude.{◌++◌, slice_get, Option, Some, None, is_some, option_map, IsSomeAnd}
use Rattle.std.specs.List.{list_any}
use Rattle.std.specs.Option.{option_map_or}
use Rattle.cm_document.specs.Params.{kind_of}
use Rattle.cm_document.specs.declared.call.Call.{Call}
use Rattle.cm_document.specs.declared.call.Call.TheVariants.{Load, Configure, Cleanup, Unload, Rate, Send, Switch}
use Rattle.cm_document.specs.declared.call.Call.TheVariants.{Hardware, Told, Await, ListControllers, ListInterfaces}
use Rattle.cm_document.specs.declared.call.Call.TheVariants.{ListComponents, Begin, End, Close}
use Rattle.cm_document.specs.declared.description.CtlDesc.{CtlDesc}
use Rattle.cm_document.specs.declared.description.Description.{Description}
pub use Rattle.cm_model.specs.Boundary.{is_decided}
use Rattle.cm_model.specs.Boundary.{request_reply, request_effect, told_reply, begin_reply, begin_effect, close_reply}
use Rattle.cm_model.specs.Boundary.{close_effect}
pub use Rattle.cm_model.specs.Console.{unless_refused, place_of}
use Rattle.cm_model.specs.Console.{configure_reply, configure_effect, cleanup_reply, cleanup_effect, unload_reply}
use Rattle.cm_model.specs.Console.{unload_effect, rate_reply, rate_effect, send_reply, send_effect}
use Rattle.cm_model.specs.Cycle.{cycle, after_cycle}
use Rattle.cm_model.specs.Blanks.{blanks_of, with_one_less}
use Rattle.cm_model.specs.State.{State, boot, newly_loaded, controller_lines, interface_lines}
use Rattle.cm_model.specs.State.{component_lines}
use Rattle.cm_model.specs.declared.entry.Entry.{Entry}
use Rattle.cm_model.specs.declared.reply.Reply.{Reply}
use Rattle.cm_model.specs.declared.reply.Reply.TheVariants as reply
use Rattle.cm_model.specs.declared.reply.Why.{Why}
use Rattle.cm_model.specs.declared.reply.Why.TheVariants as why
use Rattle.cm_model.specs.declared.blanks.Blanks.{Blanks}
use Rattle.cm_model.specs.declared.request.Request.TheVariants as request

-- ---- Who may call what, and when

-- Sessions are numbered below their count, and the loop has that count as its number.
abbrev pub is_session : State → ℕ → Bool
is_session s who = nat_lt who s.sessions

abbrev pub is_loop : State → ℕ → Bool
is_loop s who = who == s.sessions

-- So many cycles have ended, or the loop is closed.
abbrev pub is_reached : State → ℕ → Bool
is_reached s cycles = not (nat_lt s.ended cycles) || s.closed

-- A cycle begins where none is aloft, the loop is open, so many have ended, and the description has one more.
abbrev pub can_begin : State → ℕ → Bool
can_begin s cycle = (((not s.aloft && not s.closed) && s.ended == cycle) && nat_lt cycle s.description.cycles)

-- It ends where it is aloft.
abbrev pub can_end : State → ℕ → Bool
can_end s cycle = s.aloft && s.ended == cycle

-- The loop closes once, where no cycle is aloft.
abbrev pub can_close : State → Bool
can_close s = not s.aloft && not s.closed

-- whether this caller can make this call now
abbrev pub is_enabled : State → ℕ → Call → Bool
is_enabled s who (Told ticket) = is_session s who && is_decided s ticket
is_enabled s who (Await cycles) = is_session s who && is_reached s cycles
is_enabled s who (Begin cycle) = is_loop s who && can_begin s cycle
is_enabled s who (End cycle) = is_loop s who && can_end s cycle
is_enabled s who Close = is_loop s who && can_close s
is_enabled s who _ = is_session s who

-- ---- Replies

-- the controller at this place is loaded
abbrev pub is_loaded_at : State → ℕ → Bool
is_loaded_at s place = list_any (λ l. l.place == place) s.loaded

-- the stock has no blank of the kind of the controller at this place
abbrev pub is_sold_out_at : State → ℕ → Bool
is_sold_out_at s place =
    option_map_or (λ c. blanks_of s.blanks (kind_of c.params) == 0) (slice_get s.description.controllers place) false

-- why a load of what stands at this place is refused, in order
abbrev pub load_refusals : State → Option ℕ → List (Bool × Why)
load_refusals s place =
    (not (is_some place), why.NotDescribed)
    ∷ (option_map_or (is_loaded_at s) place false, why.Loaded)
    ∷ (option_map_or (is_sold_out_at s) place false, why.StockEmpty)
    ∷ []

-- The reply to each call, where it is enabled.
abbrev pub reply_of : State → Call → Option Reply
reply_of s (Load name) = Some (unless_refused (load_refusals s (place_of s name)) (reply.Serial s.loads))
reply_of s (Configure name) = Some (configure_reply s name)
reply_of s (Cleanup name) = Some (cleanup_reply s name)
reply_of s (Unload name) = Some (unload_reply s name)
reply_of s (Rate name hz) = Some (rate_reply s name)
reply_of s (Send name mail) = Some (send_reply s name mail)
reply_of s (Switch _) = Some (request_reply s)
reply_of s (Hardware _ _) = Some (request_reply s)
reply_of s (Told ticket) = told_reply s ticket
reply_of s (Await _) = Some reply.Done
reply_of s ListControllers = Some (reply.Controllers (controller_lines s))
reply_of s ListInterfaces = Some (reply.Interfaces (interface_lines s))
reply_of s ListComponents = Some (reply.Components (component_lines s))
reply_of s (Begin _) = Some (begin_reply s)
reply_of s (End _) = Some (reply.Cycle (cycle s).happened)
reply_of s Close = Some (close_reply s)

-- ---- Effects

-- The controller at this place takes a blank of its kind and the next serial.
abbrev pub with_controller : State → ℕ → Option CtlDesc → State
with_controller s place None = s
with_controller s place (Some c) = record s {
  blanks = with_one_less s.blanks (kind_of c.params);
  loads = s.loads + 1;
  loaded = s.loaded ++ newly_loaded s.loads place c ∷ [];
}

-- what stands at this place is loaded
abbrev pub with_loaded : State → Option ℕ → State
with_loaded s None = s
with_loaded s (Some place) = with_controller s place (slice_get s.description.controllers place)

-- what a load that was answered so leaves: it loads where it gave a serial
abbrev pub load_effect : State → List ℕ → Reply → State
load_effect s name (reply.Serial serial) = with_loaded s (place_of s name)
load_effect s name _ = s

-- the state after each call that was answered so
abbrev pub effect : State → Call → Reply → State
effect s (Load name) r = load_effect s name r
effect s (Configure name) r = configure_effect s name r
effect s (Cleanup name) r = cleanup_effect s name r
effect s (Unload name) r = unload_effect s name r
effect s (Rate name hz) r = rate_effect s name hz r
effect s (Send name mail) r = send_effect s name mail r
effect s (Switch asked) r = request_effect s (request.Switch asked) r
effect s (Hardware component target) r = request_effect s (request.Hardware component target) r
effect s (Begin _) r = begin_effect s
effect s (End _) r = after_cycle s (cycle s)
effect s Close r = close_effect s
effect s _ r = s

-- ---- A step

-- the state after a reply, with the reply
abbrev pub answered : State → Call → Reply → State × Reply
answered s call r = (effect s call r, r)

-- The state after a call and the reply, where the call is enabled.
unfoldable pub step : State → ℕ → Call → Option (State × Reply)
step s who call = if is_enabled s who call then option_map (answered s call) (reply_of s call) else None

-- ---- Histories

-- from this state each entry is enabled in turn and has the reply of the step
abbrev pub LegalFrom : State → List Entry → Type 0
LegalFrom s [] = Unit {0}
LegalFrom s (e ∷ es) = IsSomeAnd (step s e.who e.call) (λ made. (made.1 ≡ e.reply) × LegalFrom made.0 es)

-- A history is legal where it is one from boot.
abbrev pub IsLegal : Description → Blanks → ℕ → List Entry → Type 0
IsLegal description blanks sessions history = LegalFrom (boot description blanks sessions) history

-- the state after a history that begins in this state
abbrev pub state_after : State → List Entry → State
state_after s [] = s
state_after s (e ∷ es) = elim (step s e.who e.call) [ None ↦ s | Some made ↦ state_after made.0 es ]
