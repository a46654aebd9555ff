-- The state of the manager: all that it knows at one moment, its opening, and what is read off it.
use Rattle.std.specs.Prelude.{◌≡◌, ℕ, ◌+◌, ◌==◌, Bool, false, ◌&&◌, if◌then◌else◌, List, [], ◌∷◌, map, flat_map}
use Rattle.std.specs.Prelude.{find, slice_get, filter_map, Option, Some, None, option_map, is_some}
use Rattle.std.specs.List.{AllByRecursion, list_any}
use Rattle.std.specs.Option.{option_map_or}
use Rattle.fixed_num.specs.declared.value.BodyState.{BodyState}
use Rattle.iface_names.specs.declared.interface.IfaceName.{IfaceName}
use Rattle.cm_document.specs.Params.{kind_of}
use Rattle.cm_document.specs.Links.{is_among, precedes}
use Rattle.cm_document.specs.Places.{Whose, of_joint, of_controller, Interface, interfaces_of}
use Rattle.cm_document.specs.declared.call.Mail.{Mail}
use Rattle.cm_document.specs.declared.description.CtlKind.{CtlKind}
use Rattle.cm_document.specs.declared.description.CtlDesc.{CtlDesc}
use Rattle.cm_document.specs.declared.description.Description.{Description}
use Rattle.cm_document.specs.declared.life.Life.{Life}
use Rattle.cm_document.specs.declared.life.Life.TheVariants.{Unconfigured, Inactive, Active}
use Rattle.cm_model.specs.Components.{bodies_at_start}
use Rattle.cm_model.specs.Values.{InterfaceValue, unset, running, after_reads}
use Rattle.cm_model.specs.declared.cause.Outcome.{Outcome}
use Rattle.cm_model.specs.declared.data.CtlData.{CtlData}
use Rattle.cm_model.specs.declared.request.Request.{Request}
use Rattle.cm_model.specs.declared.lines.CompLine.{CompLine}
use Rattle.cm_model.specs.declared.lines.CtlLine.{CtlLine}
use Rattle.cm_model.specs.declared.lines.IfaceLine.{IfaceLine}
use Rattle.cm_model.specs.declared.blanks.Blanks.{Blanks}

-- A loaded controller: the number that its load gave, its place in the description, its update rate, in how many cycles
-- it is updated once where it is configured, its data, and the mail that waits for it.
pub record Loaded : Type 0 where
  pub serial : ℕ
  pub place : ℕ
  pub rate : ℕ
  pub divisor : Option ℕ
  pub ctl : CtlData
  pub mail : Option Mail

-- mail that went aloft with a cycle, and the serial of the controller that it is for
pub record MailAloft : Type 0 where
  pub serial : ℕ
  pub mail : Mail

-- The state: the description, which nothing changes; the number of sessions, which is also the loop's number as a
-- caller; the blanks that are left; how many loads were given a serial; the loaded controllers, by serial; the
-- lifecycle states of the components, the bodies of the joints, and the interfaces with what they hold, each by place;
-- all requests by ticket, and the outcomes of the first of them, for the others wait; the names of those that are to
-- stand in for controllers whose update failed, which the next begin asks for; how many cycles have ended;
-- whether one has begun that has not ended, and the mails that went aloft with it; whether the loop is closed.
pub record State : Type 0 where
  pub description : Description
  pub sessions : ℕ
  pub blanks : Blanks
  pub loads : ℕ
  pub loaded : List Loaded
  pub lives : List Life
  pub bodies : List BodyState
  pub values : List InterfaceValue
  pub requests : List Request
  pub outcomes : List Outcome
  pub fallbacks : List (List ℕ)
  pub ended : ℕ
  pub aloft : Bool
  pub mails : List MailAloft
  pub closed : Bool

-- At start each component is in the described lifecycle state, and each body where it is described to be.
abbrev pub lives_at_start : Description → List Life
lives_at_start d = map (λ component. component.initial) d.components

abbrev pub all_bodies_at_start : Description → List BodyState
all_bodies_at_start d = flat_map bodies_at_start d.components

-- The state interfaces of inactive and active components hold their bodies' numbers, and every other interface is
-- Unset.
abbrev pub values_at_start : Description → List InterfaceValue
values_at_start d = after_reads (running (lives_at_start d)) (all_bodies_at_start d) (map unset (interfaces_of d))

-- At boot nothing is loaded, asked, aloft or ended, nobody is to stand in, the loop is open, and the hardware is as at
-- start.
abbrev pub boot : Description → Blanks → ℕ → State
boot description blanks sessions = record {
  description = description;
  sessions = sessions;
  blanks = blanks;
  loads = 0;
  loaded = [];
  lives = lives_at_start description;
  bodies = all_bodies_at_start description;
  values = values_at_start description;
  requests = [];
  outcomes = [];
  fallbacks = [];
  ended = 0;
  aloft = false;
  mails = [];
  closed = false;
}

-- ---- Controllers

-- the data of a controller that was loaded: its kind, no parameters, not running
abbrev pub fresh : CtlKind → CtlData
fresh kind = record { kind = kind; params = None; run = None }

-- a controller as its load leaves it
abbrev pub newly_loaded : ℕ → ℕ → CtlDesc → Loaded
newly_loaded serial place c = record {
  serial = serial;
  place = place;
  rate = c.rate;
  divisor = None;
  ctl = fresh (kind_of c.params);
  mail = None;
}

-- It is unconfigured without parameters, inactive with parameters and without a running part, active with both.
abbrev pub life_of : CtlData → Life
life_of ctl =
    elim ctl.params [ None ↦ Unconfigured | Some params ↦ elim ctl.run [ None ↦ Inactive | Some part ↦ Active ] ]

-- it runs
abbrev pub is_active : Loaded → Bool
is_active l = is_some l.ctl.run

-- no controller is active
abbrev pub IsStill : State → Type 0
IsStill s = AllByRecursion (λ l. is_active l ≡ false) s.loaded

-- the loaded controller precedes this described one: it claims one of its references
abbrev pub precedes_described : List CtlDesc → CtlDesc → Loaded → Bool
precedes_described described c l = option_map_or (λ other. precedes other c) (slice_get described l.place) false

-- A controller is chained where an active one claims one of its references.
abbrev pub is_chained : State → CtlDesc → Bool
is_chained s c = list_any (λ l. is_active l && precedes_described s.description.controllers c l) s.loaded

-- there is an active controller of this place in the description
abbrev pub active : State → ℕ → Bool
active s place = list_any (λ l. is_active l && l.place == place) s.loaded

-- ---- Interfaces

-- A component's interface is available where the component is inactive or active, a reference where the controller that
-- exports it is among these.
abbrev pub available_in : List Life → (ℕ → Bool) → Whose → Bool
available_in lives controllers (of_joint component joint) = running lives component
available_in lives controllers (of_controller place) = controllers place

-- the interface is available
abbrev pub available : State → Interface → Bool
available s interface = available_in s.lives (active s) interface.whose

-- the loaded controller claims what has this name
abbrev pub claims_name : List CtlDesc → IfaceName → Loaded → Bool
claims_name described name l = option_map_or (λ c. is_among name c.claims) (slice_get described l.place) false

-- The owner of a command interface or a reference is the active controller that claims it. A state interface has none.
abbrev pub owner : State → Interface → Option ℕ
owner s interface =
    if interface.called.is_command
    then option_map (λ l. l.serial)
    (find (λ l. is_active l && claims_name s.description.controllers interface.called.name l) s.loaded)
    else None

-- ---- Lists

-- the line of a loaded controller
abbrev pub controller_line : State → Loaded → Option CtlLine
controller_line s l = option_map (λ c. record {
  name = c.name;
  serial = l.serial;
  divisor = l.divisor;
  kind = l.ctl.kind;
  life = life_of l.ctl;
  chained = is_chained s c;
}) (slice_get s.description.controllers l.place)

-- the list of controllers, by serial
abbrev pub controller_lines : State → List CtlLine
controller_lines s = filter_map (controller_line s) s.loaded

-- the line of an interface at a place
abbrev pub interface_line : State → ℕ → InterfaceValue → IfaceLine
interface_line s place v = record {
  value = v.value;
  place = place;
  owner = owner s v.interface;
  command = v.interface.called.is_command;
  available = available s v.interface;
}

-- those of interfaces, the first of which stands at this place
abbrev pub interface_lines_from : State → ℕ → List InterfaceValue → List IfaceLine
interface_lines_from s place [] = []
interface_lines_from s place (v ∷ vs) = interface_line s place v ∷ interface_lines_from s (place + 1) vs

-- the list of interfaces, by place
abbrev pub interface_lines : State → List IfaceLine
interface_lines s = interface_lines_from s 0 s.values

-- the lines of components, the first of which stands at this place
abbrev pub component_lines_from : ℕ → List Life → List CompLine
component_lines_from place [] = []
component_lines_from place (life ∷ lives) = record {
  place = place;
  life = life;
} ∷ component_lines_from (place + 1) lives

-- the list of components, by place
abbrev pub component_lines : State → List CompLine
component_lines s = component_lines_from 0 s.lives
