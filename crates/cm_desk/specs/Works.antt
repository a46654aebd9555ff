-- What the desk keeps, and how it answers.
use Rattle.std.specs.Prelude.{◌≡◌, ℕ, ◌+◌, ◌<◌, ◌≤◌, ◌^◌, Bool, true, false, not, List, [], ◌∷◌, length, map, slice_get}
use Rattle.std.specs.Prelude.{◌&&◌, Some, Result, Ok, Err, flat_map}
use Rattle.std.specs.List.{All, list_any}
use Rattle.std.specs.Option.{option_map_or}
use Rattle.cm_document.specs.Valid.{IsValid}
use Rattle.cm_document.specs.declared.call.Mail.{Mail}
use Rattle.cm_document.specs.declared.description.CtlDesc.{CtlDesc}
use Rattle.cm_document.specs.declared.description.Description.{Description}
use Rattle.cm_document.specs.declared.description.Params.{Params}
use Rattle.cm_model.specs.Console.{unless_refused, place_of, reply_on, with_changed, configure_refusals}
use Rattle.cm_model.specs.Console.{after_configure}
use Rattle.cm_model.specs.Cycle.{period}
use Rattle.cm_model.specs.Kinds.{takes, takes_none}
use Rattle.cm_model.specs.Machine.{load_refusals}
use Rattle.cm_model.specs.State.{State, Loaded, is_active, precedes_described}
use Rattle.cm_model.specs.declared.blanks.Blanks.{Blanks}
use Rattle.cm_model.specs.declared.reply.Reply.{Reply}
use Rattle.cm_model.specs.declared.reply.Reply.TheVariants as reply
use Rattle.cm_model.specs.declared.reply.Why.{Why}
use Rattle.cm_model.specs.declared.reply.Why.TheVariants as why
use Rattle.cm_hardware.specs.Holding.{IsHardwareOf}
use Rattle.cm_hardware.specs.Listed.{with_hardware}
use Rattle.cm_places.specs.Placed.{placed_of}
use Rattle.cm_model.specs.Blanks.{total}
use Rattle.switch_plan.specs.Relations.{relations_of}
pub use Rattle.request_plan.specs.Requests.{IsAnswered}
use Rattle.request_plan.specs.Requests.{Asked}
use Rattle.cm_slots.specs.Fit.{AreFit}
use Rattle.cm_slots.specs.Slots.{Slotted}
use Rattle.rt_flight.specs.declared.robot.Robot.{Robot}
use Rattle.cm_resources.specs.CycleResources.{Base, IsBased}
use Rattle.cm_resources.specs.ActiveSet.{Listed, IsListedOf}
use Rattle.cm_resources.specs.Described.{IsAsDescribed, IsDivided}
use Rattle.ctl_trait.specs.declared.fault.CfgFault.{CfgFault}
use Rattle.ctl_trait.specs.declared.fault.CfgFault.TheVariants.{Refused, Memory}

-- the fallbacks of the controller that is described at this place
abbrev pub fallbacks_at : Description → ℕ → List (List ℕ)
fallbacks_at d place = option_map_or (λ c. c.fallback) (slice_get d.controllers place) []

-- who stands in for the controllers of these places, as they are described
abbrev pub stand_ins_for : Description → List ℕ → List (List ℕ)
stand_ins_for d places = flat_map (fallbacks_at d) places

-- The state with these controllers loaded, by so many loads, and these requests, over this base, when so many cycles
-- have ended.
abbrev pub state_with : Description → Blanks → ℕ → ℕ → Slotted → Asked → Base → ℕ → Bool → State
state_with description blanks sessions loads slots asked base ended closed = with_hardware (record {
  description = description;
  sessions = sessions;
  blanks = blanks;
  loads = loads;
  loaded = slots.loaded;
  lives = [];
  bodies = [];
  values = [];
  requests = asked.requests;
  outcomes = asked.outcomes;
  ended = ended;
  aloft = slots.aloft;
  mails = base.mails;
  fallbacks = stand_ins_for description base.erred;
  closed = closed;
}) base.robot.hardware

-- One of these that is active claims a reference of the controller.
abbrev pub has_precedent : Description → CtlDesc → List Loaded → Bool
has_precedent d c loaded = list_any (λ l. is_active l && precedes_described d.controllers c l) loaded

-- What is worked out of the description once: the names of its controllers; and over this robot, whom and what each has
-- to do with, where their interfaces stand on the board, and the time from one cycle to the next.
pub record IsWorkedOut (d : Description) (names : List (List ℕ)) (g : Robot) : Type 0 where
  pub valid : IsValid d
  pub named : names ≡ map (λ c. c.name) d.controllers
  pub related : g.relations ≡ relations_of d
  pub placed : g.places ≡ placed_of d
  pub timed : g.period_us ≡ period d

-- What the desk keeps of its state. Each loaded controller is of its described kind, and has a divisor where it has
-- parameters; the blanks that are left are few enough that each can still get a serial; the hardware is that of the
-- state; a cycle that is aloft is one of the described ones, its order of updates is the one of now, and the loop is
-- not closed; no mail is aloft between two cycles; and what is looked up is so.
pub record IsKept (s : State) (names : List (List ℕ)) (base : Base) (looked : Listed) : Type 0 where
  pub worked_out : IsWorkedOut s.description names base.robot
  pub described : All (IsAsDescribed s.description) s.loaded
  pub divided : All IsDivided s.loaded
  pub counted : s.loads + total s.blanks < 2 ^ 32
  pub few : length s.loaded ≤ s.loads
  pub hardware : IsHardwareOf s base.robot.hardware
  pub within : s.aloft ≡ true → s.ended < s.description.cycles
  pub ordered : s.aloft ≡ true → looked.current ≡ true
  pub unclosed : s.aloft ≡ true → s.closed ≡ false
  pub no_mail : s.aloft ≡ false → s.mails ≡ []
  pub listed : IsListedOf s looked
  pub fit : AreFit s
  pub based : IsBased s.description s.aloft looked.order base

-- ---- Answers

-- the reply of a load: the first refusal that applies, else its serial
abbrev pub load_reply : State → List ℕ → Reply
load_reply s name = unless_refused (load_refusals s (place_of s name)) (reply.Serial s.loads)

-- why mail is refused by a controller that is active, chained or not, and has these parameters
abbrev pub active_refusals : Bool → Params → Mail → List (Bool × Why)
active_refusals chained params mail =
    (chained, why.Chained) ∷ (takes_none params, why.TakesNone) ∷ (not (takes params mail), why.WrongCount) ∷ []

-- the reply to mail then
abbrev pub active_reply : Bool → Params → Mail → Reply
active_reply chained params mail = unless_refused (active_refusals chained params mail) reply.Done

-- What a configure of the loaded controller that stands there comes to: done, with what that makes of the state; or,
-- with a fault, nothing, and it is the refusal only where that is the reply.
abbrev pub IsConfigured : State → ℕ → State → Result (Unit {0}) CfgFault → Type 0
IsConfigured old i new (Ok u) =
    (reply_on (configure_refusals old) (slice_get old.loaded i) ≡ reply.Done)
    × (new ≡ with_changed (after_configure old) old (Some i))
IsConfigured old i new (Err Refused) =
    (reply_on (configure_refusals old) (slice_get old.loaded i) ≡ reply.Not why.Refused) × (new ≡ old)
IsConfigured old i new (Err Memory) = new ≡ old
