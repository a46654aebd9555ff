-- How the items of lists and of records print. Serials and places are told by names.
use Rattle.std.specs.Prelude.{ℕ, ℤ, suc, Bool, true, false, if◌then◌else◌, List, [], ◌∷◌, ◌++◌, map, flat_map, codes}
use Rattle.std.specs.Prelude.{decimal, slice_get, Option, Some, None, option_map, unwrap_or}
use Rattle.fixed_num.specs.Text.{spelled}
use Rattle.fixed_num.specs.declared.value.BodyState.{BodyState}
use Rattle.fixed_num.specs.declared.value.Value.{Value}
use Rattle.fixed_num.specs.declared.value.Value.TheVariants.{Unset, Num}
use Rattle.cm_document.specs.Vocabulary.{component_word, controller_word, life_word}
use Rattle.cm_document.specs.declared.description.CompDesc.{CompDesc}
use Rattle.cm_storage.specs.Happened.{Happened}
use Rattle.cm_storage.specs.Ran.{Ran}
use Rattle.cm_model.specs.declared.lines.CompLine.{CompLine}
use Rattle.cm_model.specs.declared.lines.CtlLine.{CtlLine}
use Rattle.cm_model.specs.declared.lines.IfaceLine.{IfaceLine}
use Rattle.cm_storage.specs.declared.ran.Done.{Done}
use Rattle.cm_storage.specs.declared.ran.Done.TheVariants as done
use Rattle.cm_storage.specs.declared.record.FailedPart.{FailedPart}

-- What stands for each number in a trace: the names of the controllers by serial, the components by place, the names of
-- the joints and of the interfaces by place.
pub record Names : Type 0 where
  pub controllers : List (List ℕ)
  pub components : List CompDesc
  pub joints : List (List ℕ)
  pub interfaces : List (List ℕ)

-- the name at this place; nothing past the last
abbrev pub nth_name : List (List ℕ) → ℕ → List ℕ
nth_name names place = unwrap_or (slice_get names place) []

-- the name of the component at this place
abbrev pub component_name : Names → ℕ → List ℕ
component_name names place = unwrap_or (option_map (λ component. component.name) (slice_get names.components place)) []

-- what an interface holds
abbrev pub value_text : Value → List ℕ
value_text Unset = codes "unset"
value_text (Num n) = spelled n

-- ---- Lines of lists

-- in how many cycles a configured controller is updated once
abbrev pub divisor_text : Option ℕ → List ℕ
divisor_text None = []
divisor_text (Some divisor) = codes " every " ++ decimal divisor

-- a mark of a chained controller
abbrev pub chained_text : Bool → List ℕ
chained_text true = codes " chained"
chained_text false = []

-- a controller, as `mk mock unconfigured 0` or `fwd forward active 1 every 3 chained`
abbrev pub controller_head : CtlLine → List ℕ
controller_head line = line.name ++ codes " " ++ controller_word line.kind ++ codes " " ++ life_word line.life

abbrev pub controller_text : CtlLine → List ℕ
controller_text line =
    controller_head line ++ codes " " ++ decimal line.serial ++ divisor_text line.divisor ++ chained_text line.chained

-- a component, as `arm system active`
abbrev pub described_component : Option CompDesc → List ℕ
described_component None = []
described_component (Some component) = component.name ++ codes " " ++ component_word component.kind

abbrev pub component_text : Names → CompLine → List ℕ
component_text names line =
    described_component (slice_get names.components line.place) ++ codes " " ++ life_word line.life

-- the controller that claims a command interface, or `free`
abbrev pub owner_text : Names → Option ℕ → List ℕ
owner_text names None = codes "free"
owner_text names (Some serial) = nth_name names.controllers serial

-- an interface, as `state j1/position 0.000000` or `command j1/velocity unset free`
abbrev pub held_text : Names → IfaceLine → List ℕ
held_text names line =
    if line.available
    then value_text line.value ++ (if line.command then codes " " ++ owner_text names line.owner else [])
    else codes "unavailable"

abbrev pub iface_text : Names → IfaceLine → List ℕ
iface_text names line =
    (if line.command then codes "command " else codes "state ") ++ nth_name names.interfaces line.place ++ codes " "
    ++ held_text names line

-- ---- Items of a cycle's record

-- a failed component, as `fail arm read`
abbrev pub failed_text : Names → FailedPart → List ℕ
failed_text names failed =
    codes "fail " ++ component_name names failed.place ++ (if failed.reading then codes " read" else codes " write")

-- values, each after a space
abbrev pub outs_text : List Value → List ℕ
outs_text values = flat_map (λ value. codes " " ++ value_text value) values

abbrev pub numbers_text : List ℤ → List ℕ
numbers_text numbers = flat_map (λ number. codes " " ++ spelled number) numbers

-- what an update gave out and published, or `error`
abbrev pub done_text : Ran → Done → List ℕ
done_text ran done.Ok = codes " ok" ++ outs_text ran.outs ++ numbers_text ran.published
done_text ran done.Error = codes " error"

-- an updated controller, as `run fwd ok 0.500000`
abbrev pub ran_text : Names → Ran → List ℕ
ran_text names ran = codes "run " ++ nth_name names.controllers ran.serial ++ done_text ran ran.done

-- the body of a joint, as `joint j1 0.000000 0.000000 0.000000`
abbrev pub body_text : List ℕ → BodyState → List ℕ
body_text joint body =
    codes "joint " ++ joint ++ codes " " ++ spelled body.x ++ codes " " ++ spelled body.v ++ codes " " ++ spelled body.f

-- the bodies of the joints from this place on
abbrev pub body_texts : Names → ℕ → List BodyState → List (List ℕ)
body_texts names place [] = []
body_texts names place (body ∷ bodies) =
    body_text (nth_name names.joints place) body ∷ body_texts names (suc place) bodies

-- a stopped controller
abbrev pub stop_text : Names → ℕ → List ℕ
stop_text names serial = codes "stop " ++ nth_name names.controllers serial

-- all items of a record: what failed, what was updated, the bodies, what was stopped
abbrev pub record_items : Names → Happened → List (List ℕ)
record_items names happened =
    map (failed_text names) happened.failed ++ map (ran_text names) happened.ran ++ body_texts names 0 happened.bodies
    ++ map (stop_text names) happened.stops
