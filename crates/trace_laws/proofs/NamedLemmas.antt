-- What is named in a description prints without a byte that ends a line.
use Rattle.std.proofs.Common.{◌≡◌, ℕ, zero, suc, ◌+◌, List, [], ◌∷◌, ◌++◌, length, map, refl, sym, subst}
use Rattle.std.specs.Prelude.{take, codes}
use Rattle.std.specs.List.{AllByRecursion}
use Rattle.iface_names.specs.Interfaces.{interface_text, kind_word}
use Rattle.iface_names.specs.declared.interface.IfaceName.{IfaceName}
use Rattle.iface_names.specs.declared.interface.IfaceName.TheVariants.{Joint, Reference}
use Rattle.iface_names.specs.declared.kind.Kind.{Kind}
use Rattle.iface_names.specs.declared.kind.Kind.TheVariants.{Position, Velocity, Effort}
use Rattle.sequence.proofs.ListLemmas.{all_append}
use Rattle.cm_document.proofs.DistinctLemmas.{all_so, all_map}
use Rattle.cm_document.specs.Links.{joints_of, reference_for, exported_as, refs_of}
use Rattle.cm_document.specs.Params.{exports_of}
use Rattle.cm_document.specs.Places.{Called, a_state, a_command, Interface, at_joints, at_components}
use Rattle.cm_document.specs.Places.{at_controllers, interfaces_of, of_joint, of_controller}
use Rattle.cm_document.specs.Valid.{IsValid}
use Rattle.cm_document.specs.declared.description.CompDesc.{CompDesc}
use Rattle.cm_document.specs.declared.description.CtlDesc.{CtlDesc}
use Rattle.cm_document.specs.declared.description.Description.{Description}
use Rattle.cm_document.specs.declared.description.Exports.{Exports}
use Rattle.cm_document.specs.declared.description.Exports.TheVariants.{Nothing, FirstRead, EachClaim}
use Rattle.cm_document.specs.declared.description.GroupDesc.{GroupDesc}
use Rattle.cm_document.specs.declared.description.JointDesc.{JointDesc}
use Rattle.cm_model.proofs.InterfaceLemmas.{joints_all}
use Rattle.cm_model.specs.Faults.{joint_name}
use Rattle.cm_model.specs.Order.{controller_at}
use Rattle.desc_text.proofs.ReadableLemmas.{valid_IsReadable}
use Rattle.cm_document.specs.Given.{IsNamed, IsOfJoint}
use Rattle.desc_text.specs.Readable.{JointIsReadable, ComponentIsReadable, ControllerIsReadable, GroupIsReadable}
use Rattle.script_text.proofs.PrintWordLemmas.{IsPrinted}
use Rattle.trace_laws.proofs.SpellingLemmas.{word_printed, between, name_printed}

-- ---- Interfaces

-- an interface is named by what prints
abbrev pub InterfacePrints : IfaceName → Type 0
InterfacePrints (Joint joint kind) = IsPrinted joint
InterfacePrints (Reference controller joint kind) = IsPrinted controller × IsPrinted joint

kind_printed : (kind : Kind) → IsPrinted (kind_word kind)
kind_printed Position = word_printed (kind_word Position) refl
kind_printed Velocity = word_printed (kind_word Velocity) refl
kind_printed Effort = word_printed (kind_word Effort) refl

slash : IsPrinted (codes "/")
slash = word_printed (codes "/") refl

pub interface_printed : (interface : IfaceName) → InterfacePrints interface → IsPrinted (interface_text interface)
interface_printed (Joint joint kind) prints =
    between joint (codes "/") (kind_word kind) prints slash (kind_printed kind)
interface_printed (Reference controller joint kind) prints =
    between (controller ++ codes "/" ++ joint) (codes "/") (kind_word kind)
    (between controller (codes "/") joint prints.0 slash prints.1) slash (kind_printed kind)

pub joint_printed : (interface : IfaceName) → InterfacePrints interface → IsPrinted (joint_name interface)
joint_printed (Joint joint kind) prints = prints
joint_printed (Reference controller joint kind) prints = prints.1

named_prints : (interface : IfaceName) → IsNamed interface → InterfacePrints interface
named_prints (Joint joint kind) named = name_printed joint named
named_prints (Reference controller joint kind) named = (name_printed controller named.0, name_printed joint named.1)

read_prints : (interface : IfaceName) → IsOfJoint interface → InterfacePrints interface
read_prints (Joint joint kind) named = name_printed joint named
read_prints (Reference controller joint kind) named = absurd named

-- ---- Descriptions

-- The names of a controller print, and so do those of a component, and of the members of a group.
pub record ControllerPrints (c : CtlDesc) : Type 0 where
  pub name : IsPrinted c.name
  pub claims : AllByRecursion InterfacePrints c.claims
  pub reads : AllByRecursion InterfacePrints c.reads
  pub fallback : AllByRecursion IsPrinted c.fallback

pub record ComponentPrints (c : CompDesc) : Type 0 where
  pub name : IsPrinted c.name
  pub joints : AllByRecursion (λ (j : JointDesc). IsPrinted j.name) c.joints

abbrev pub GroupPrints : GroupDesc → Type 0
GroupPrints g = AllByRecursion IsPrinted g.members

pub record DescriptionPrints (d : Description) : Type 0 where
  pub components : AllByRecursion ComponentPrints d.components
  pub controllers : AllByRecursion ControllerPrints d.controllers
  pub groups : AllByRecursion GroupPrints d.groups

component_prints : (c : CompDesc) → ComponentIsReadable c → ComponentPrints c
component_prints c is = record {
  name = name_printed c.name is.named;
  joints = all_so JointIsReadable (λ (j : JointDesc). IsPrinted j.name) (λ j joint. name_printed j.name joint.named)
      c.joints is.joints;
}

controller_prints : (c : CtlDesc) → ControllerIsReadable c → ControllerPrints c
controller_prints c is = record {
  name = name_printed c.name is.named;
  claims = all_so IsNamed InterfacePrints named_prints c.claims is.claims;
  reads = all_so IsOfJoint InterfacePrints read_prints c.reads is.reads;
  fallback = all_so _ IsPrinted name_printed c.fallback is.fallback;
}

group_prints : (g : GroupDesc) → GroupIsReadable g → GroupPrints g
group_prints g is = all_so _ IsPrinted name_printed g.members is.members

-- so does all that a valid description names
pub valid_prints : (d : Description) → IsValid d → DescriptionPrints d
valid_prints d valid =
    let is = valid_IsReadable d valid in
    record {
      components = all_so ComponentIsReadable ComponentPrints component_prints d.components is.components;
      controllers = all_so ControllerIsReadable ControllerPrints controller_prints d.controllers is.controllers;
      groups = all_so GroupIsReadable GroupPrints group_prints d.groups is.groups;
    }

-- ---- Controllers

pub at_prints : (controllers : List CtlDesc) → AllByRecursion ControllerPrints controllers → (place : ℕ)
    → ControllerPrints (controller_at controllers place)
at_prints [] all place = record { name = tt; claims = tt; reads = tt; fallback = tt }
at_prints (c ∷ cs) all zero = all.0
at_prints (c ∷ cs) all (suc place) = at_prints cs all.1 place

reference_prints : (name : List ℕ) → IsPrinted name → (interface : IfaceName) → InterfacePrints interface
    → InterfacePrints (reference_for name interface)
reference_prints name printed (Joint joint kind) prints = (printed, prints)
reference_prints name printed (Reference other joint kind) prints = (printed, prints.1)

first_prints : (interfaces : List IfaceName) → AllByRecursion InterfacePrints interfaces
    → AllByRecursion InterfacePrints (take 1 interfaces)
first_prints [] all = tt
first_prints (i ∷ []) all = (all.0, tt)
first_prints (i ∷ j ∷ is) all = (all.0, tt)

exported_prints : (c : CtlDesc) → ControllerPrints c → (exports : Exports)
    → AllByRecursion InterfacePrints (exported_as exports c)
exported_prints c prints Nothing = tt
exported_prints c prints FirstRead = first_prints c.reads prints.reads
exported_prints c prints EachClaim = prints.claims

pub refs_print : (c : CtlDesc) → ControllerPrints c → AllByRecursion InterfacePrints (refs_of c)
refs_print c prints =
    let exported = exported_as (exports_of c.params) c in
    all_map InterfacePrints (reference_for c.name) exported
    (all_so InterfacePrints (λ (i : IfaceName). InterfacePrints (reference_for c.name i))
    (reference_prints c.name prints.name) exported (exported_prints c prints (exports_of c.params)))

-- ---- What a trace names by number

-- the joints of components
pub joints_print : (cs : List CompDesc) → AllByRecursion ComponentPrints cs
    → AllByRecursion (λ (j : JointDesc). IsPrinted j.name) (joints_of cs)
joints_print [] all = tt
joints_print (c ∷ cs) all =
    all_append (λ (j : JointDesc). IsPrinted j.name) c.joints (joints_of cs) all.0.joints (joints_print cs all.1)

-- an interface prints by its name
abbrev pub ListedPrints : Interface → Type 0
ListedPrints i = IsPrinted (interface_text i.called.name)

module _ (call : IfaceName → Called) (kinds : JointDesc → List Kind)
    (keeps : (name : IfaceName) → (call name).name ≡ name) where
  of_joint_prints : (j : JointDesc) → IsPrinted j.name → (component n : ℕ) (kind : Kind)
      → ListedPrints (record { called = call (Joint j.name kind); whose = of_joint component n })
  of_joint_prints j printed component n kind =
      subst (λ (name : IfaceName). IsPrinted (interface_text name)) (sym (keeps (Joint j.name kind)))
      (interface_printed (Joint j.name kind) printed)

  of_components : (component place : ℕ) (cs : List CompDesc) → AllByRecursion ComponentPrints cs
      → AllByRecursion ListedPrints (at_components call kinds component place cs)
  of_components component place [] all = tt
  of_components component place (c ∷ cs) all =
      all_append ListedPrints (at_joints call kinds component place c.joints)
      (at_components call kinds (component + 1) (place + length c.joints) cs)
      (joints_all ListedPrints call kinds component place c.joints
      (all_so (λ (j : JointDesc). IsPrinted j.name) _ (λ j printed n kind. of_joint_prints j printed component n kind)
      c.joints all.0.joints))
      (of_components (component + 1) (place + length c.joints) cs all.1)

of_references : (place : ℕ) (names : List IfaceName) → AllByRecursion InterfacePrints names
    → AllByRecursion ListedPrints
    (map (λ (name : IfaceName). record { called = a_command name; whose = of_controller place }) names)
of_references place [] all = tt
of_references place (name ∷ names) all = (interface_printed name all.0, of_references place names all.1)

of_controllers : (place : ℕ) (cs : List CtlDesc) → AllByRecursion ControllerPrints cs
    → AllByRecursion ListedPrints (at_controllers place cs)
of_controllers place [] all = tt
of_controllers place (c ∷ cs) all =
    all_append ListedPrints _ (at_controllers (place + 1) cs) (of_references place (refs_of c) (refs_print c all.0))
    (of_controllers (place + 1) cs all.1)

-- all interfaces
pub interfaces_print : (d : Description) → DescriptionPrints d → AllByRecursion ListedPrints (interfaces_of d)
interfaces_print d prints =
    let states = at_components a_state (λ j. j.states) 0 0 d.components in
    let commands = at_components a_command (λ j. j.commands) 0 0 d.components in
    all_append ListedPrints states (commands ++ at_controllers 0 d.controllers)
    (of_components a_state (λ j. j.states) (λ name. refl) 0 0 d.components prints.components)
    (all_append ListedPrints commands (at_controllers 0 d.controllers)
    (of_components a_command (λ j. j.commands) (λ name. refl) 0 0 d.components prints.components)
    (of_controllers 0 d.controllers prints.controllers))
