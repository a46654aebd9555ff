-- Vocabularies: tables of words, each with what it stands for. A reader looks up a word, a printer what it stands for.
use Rattle.std.specs.Prelude.{ℕ, Bool, true, false, not, if◌then◌else◌, List, [], ◌∷◌, map, find, position, Option}
use Rattle.std.specs.Prelude.{Some, None}
use Rattle.std.specs.Option.{option_map_or}
use Rattle.iface_names.specs.Names.{same_name}
use Rattle.cm_document.specs.Params.{same_controller_kind}
use Rattle.cm_document.specs.declared.description.CompKind.{CompKind}
use Rattle.cm_document.specs.declared.description.CompKind.TheVariants.{Sensor, Actuator, System}
use Rattle.cm_document.specs.declared.description.CtlKind.{CtlKind}
use Rattle.cm_document.specs.declared.description.TheConstants.{CONTROLLER_KINDS}
use Rattle.cm_document.specs.declared.life.Life.{Life}
use Rattle.cm_document.specs.declared.life.Life.TheVariants.{Unconfigured, Inactive, Active, Finalized}
use Rattle.cm_document.specs.declared.script.Verb.{Verb}
use Rattle.cm_document.specs.declared.script.Verb.TheVariants as verb
use Rattle.cm_document.specs.declared.vocabulary.TheConstants.{COMPONENT_KINDS, LIVES, LIVES_ON_ERROR}
use Rattle.cm_document.specs.declared.vocabulary.TheConstants.{VERBS, STRICTNESSES}

-- ---- Looking up

-- what a word stands for, where it is one of the listed
abbrev pub listed : {A : Type 0} → List (List ℕ × A) → List ℕ → Option A
listed [] word = None
listed ((w, meaning) ∷ ws) word = if same_name word w then Some meaning else listed ws word

-- ---- The tables

-- the words for what a component is for
abbrev pub component_kinds : List (List ℕ × CompKind)
component_kinds = map (λ row. (row.0.now, row.1)) COMPONENT_KINDS

-- the words for the lifecycle states
abbrev pub lives : List (List ℕ × Life)
lives = map (λ row. (row.0.now, row.1)) LIVES

-- those for a component's state after a failure
abbrev pub lives_on_error : List (List ℕ × Life)
lives_on_error = map (λ row. (row.0.now, row.1)) LIVES_ON_ERROR

-- the words for the kinds of controllers
abbrev pub controller_kinds : List (List ℕ × CtlKind)
controller_kinds = map (λ row. (row.0.now, row.1)) CONTROLLER_KINDS

-- the words that a line of a script can begin with
abbrev pub verbs : List (List ℕ × Verb)
verbs = map (λ row. (row.0.now, row.1)) VERBS

-- the words for whether a switch is strict
abbrev pub strictnesses : List (List ℕ × Bool)
strictnesses = map (λ row. (row.0.now, row.1)) STRICTNESSES

-- ---- Words

-- the two kinds are one
abbrev pub same_component_kind : CompKind → CompKind → Bool
same_component_kind Sensor Sensor = true
same_component_kind Actuator Actuator = true
same_component_kind System System = true
same_component_kind _ _ = false

-- the word beside what a component is for
abbrev pub component_word : CompKind → List ℕ
component_word kind = option_map_or (λ row. row.0.now) (find (λ row. same_component_kind row.1 kind) COMPONENT_KINDS) []

-- the word beside a kind of controller
abbrev pub controller_word : CtlKind → List ℕ
controller_word kind =
    option_map_or (λ row. row.0.now) (find (λ row. same_controller_kind row.1 kind) CONTROLLER_KINDS) []

-- the place of a kind of controller among all kinds
abbrev pub place_of : CtlKind → ℕ
place_of kind = option_map_or (λ place. place) (position (λ row. same_controller_kind row.1 kind) CONTROLLER_KINDS) 0

-- the two states are one
abbrev pub same_life : Life → Life → Bool
same_life Unconfigured Unconfigured = true
same_life Inactive Inactive = true
same_life Active Active = true
same_life Finalized Finalized = true
same_life _ _ = false

-- the word beside a lifecycle state
abbrev pub life_word : Life → List ℕ
life_word life = option_map_or (λ row. row.0.now) (find (λ row. same_life row.1 life) LIVES) []

-- the two verbs are one
abbrev pub same_verb : Verb → Verb → Bool
same_verb verb.Session verb.Session = true
same_verb verb.Load verb.Load = true
same_verb verb.Configure verb.Configure = true
same_verb verb.Cleanup verb.Cleanup = true
same_verb verb.Unload verb.Unload = true
same_verb verb.Rate verb.Rate = true
same_verb verb.Send verb.Send = true
same_verb verb.Switch verb.Switch = true
same_verb verb.Hardware verb.Hardware = true
same_verb verb.Await verb.Await = true
same_verb verb.List verb.List = true
same_verb verb.Schedule verb.Schedule = true
same_verb verb.Step verb.Step = true
same_verb verb.Begin verb.Begin = true
same_verb verb.End verb.End = true
same_verb _ _ = false

-- the word beside a verb
abbrev pub verb_word : Verb → List ℕ
verb_word v = option_map_or (λ row. row.0.now) (find (λ row. same_verb row.1 v) VERBS) []

-- both are so, or neither is
abbrev pub bool_eq : Bool → Bool → Bool
bool_eq true b = b
bool_eq false b = not b

-- the word beside a strictness
abbrev pub strictness_word : Bool → List ℕ
strictness_word strict = option_map_or (λ row. row.0.now) (find (λ row. bool_eq row.1 strict) STRICTNESSES) []
