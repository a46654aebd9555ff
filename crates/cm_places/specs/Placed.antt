-- Where the interfaces of each described controller stand on the board: by place in place of by name.
use Rattle.std.specs.Prelude.{◌≡◌, ℕ, zero, suc, ◌<◌, true, if◌then◌else◌, List, [], ◌∷◌, length, map, filter_map}
use Rattle.std.specs.Prelude.{position, slice_get, All, Option, None, Some}
use Rattle.std.specs.Option.{option_map_or}
use Rattle.fixed_num.specs.declared.value.Value.{Value}
use Rattle.fixed_num.specs.declared.value.Value.TheVariants.{Unset}
use Rattle.iface_names.specs.declared.interface.IfaceName.{IfaceName}
use Rattle.cm_document.specs.Links.{refs_of}
use Rattle.cm_document.specs.Places.{Whose, of_joint, of_controller, Interface, interfaces_of}
use Rattle.cm_document.specs.declared.description.CtlDesc.{CtlDesc}
use Rattle.cm_document.specs.declared.description.Description.{Description}
pub use Rattle.cm_model.specs.Components.{is_listed}
use Rattle.cm_model.specs.Claims.{is_state_named, is_command_named}
use Rattle.cm_model.specs.Scene.{claims_at}
use Rattle.cm_model.specs.Values.{InterfaceValue}
use Rattle.chain_order.specs.Links.{places_below}

-- the place of the state interface of this name
abbrev pub state_place : Description → IfaceName → Option ℕ
state_place d name = position (λ i. is_state_named name i.called) (interfaces_of d)

-- the place of the command interface or reference of this name
abbrev pub command_place : Description → IfaceName → Option ℕ
command_place d name = position (λ i. is_command_named name i.called) (interfaces_of d)

-- the controllers that claim an interface, by their places in the description, ascending; nobody claims a state
-- interface
abbrev pub claimers_of : List CtlDesc → Interface → List ℕ
claimers_of controllers i =
    if i.called.is_command then places_below (λ p. claims_at controllers p i.called.name) (length controllers) else []

-- the controller that exports a reference, by its place in the description; no controller exports a component's
-- interface
abbrev pub exporter_of : Whose → Option ℕ
exporter_of (of_joint component joint) = None
exporter_of (of_controller place) = Some place

-- For each described controller, by place, the places on the board of what it reads, of its references and of what it
-- claims, each in the order of its list; and for each place on the board, who claims it and who exports it.
pub record Placed : Type 0 where
  pub reads : List (List ℕ)
  pub references : List (List ℕ)
  pub claims : List (List ℕ)
  pub claimers : List (List ℕ)
  pub exporters : List (Option ℕ)

abbrev pub placed_of : Description → Placed
placed_of d = record {
  reads = map (λ c. filter_map (state_place d) c.reads) d.controllers;
  references = map (λ c. filter_map (command_place d) (refs_of c)) d.controllers;
  claims = map (λ c. filter_map (command_place d) c.claims) d.controllers;
  claimers = map (claimers_of d.controllers) (interfaces_of d);
  exporters = map (λ i. exporter_of i.whose) (interfaces_of d);
}

-- what the interface at a place holds
abbrev pub value_at : List InterfaceValue → ℕ → Value
value_at values place = option_map_or (λ v. v.value) (slice_get values place) Unset

-- the interfaces of a description, each at its place, hold these values
abbrev pub AreValuesOf : Description → List InterfaceValue → Type 0
AreValuesOf d values = map (λ v. v.interface) values ≡ interfaces_of d

-- the interface at a place holds this value, and every other what it held
abbrev pub with_value : List InterfaceValue → ℕ → Value → List InterfaceValue
with_value [] place value = []
with_value (v ∷ vs) zero value = record v { value = value } ∷ vs
with_value (v ∷ vs) (suc place) value = v ∷ with_value vs place value

-- the interfaces at these places hold these outputs, one after the other
abbrev pub with_outputs : List InterfaceValue → List ℕ → List Value → List InterfaceValue
with_outputs values (place ∷ places) (out ∷ outs) = with_outputs (with_value values place out) places outs
with_outputs values _ _ = values

-- Each of these names has its place, and no place is past the last interface of the description.
pub record AreFound (d : Description) (names : List IfaceName) (places : List ℕ) : Type 0 where
  pub count : length places ≡ length names
  pub within : All (λ place. place < length (interfaces_of d)) places

-- What stands at a place on the board is a command interface or a reference that the controller claims.
pub record IsClaimOf (d : Description) (controller place : ℕ) : Type 0 where
  pub interface : Interface
  pub stands : slice_get (interfaces_of d) place ≡ Some interface
  pub command : interface.called.is_command ≡ true
  pub claimed : claims_at d.controllers controller interface.called.name ≡ true

-- There is a row for each described controller, and one for each interface.
pub record HasAllRows (d : Description) (placed : Placed) : Type 0 where
  pub reads : length placed.reads ≡ length d.controllers
  pub references : length placed.references ≡ length d.controllers
  pub claims : length placed.claims ≡ length d.controllers
  pub claimers : length placed.claimers ≡ length (interfaces_of d)
  pub exporters : length placed.exporters ≡ length (interfaces_of d)
