-- Which descriptions are read back from their table. Each that was read and checked is one.
use Rattle.std.specs.Prelude.{◌≡◌, ◌⊎◌, ◌≤◌, true, List, length}
use Rattle.std.specs.List.{AllByRecursion, IsDistinct}
use Rattle.fixed_num.specs.Micro.{IsInRange}
use Rattle.iface_names.specs.Interfaces.{same_kind}
use Rattle.iface_names.specs.declared.interface.IfaceName.{IfaceName}
use Rattle.cm_document.specs.Given.{IsName, IsWhole, AreWholes, IsNamed, IsOfJoint, AreNumbers}
use Rattle.cm_document.specs.Params.{AreMadeOf}
use Rattle.cm_document.specs.Valid.{claims_fit, reads_fit}
use Rattle.cm_document.specs.declared.description.CompDesc.{CompDesc}
use Rattle.cm_document.specs.declared.description.CtlDesc.{CtlDesc}
use Rattle.cm_document.specs.declared.description.Description.{Description}
use Rattle.cm_document.specs.declared.description.GroupDesc.{GroupDesc}
use Rattle.cm_document.specs.declared.description.JointDesc.{JointDesc}
use Rattle.cm_document.specs.declared.description.Params.{Params}
use Rattle.cm_document.specs.declared.life.Life.TheVariants.{Unconfigured, Finalized}
use Rattle.cm_document.specs.declared.limits.TheConstants.{SECOND_VERSION}

-- ---- Components

pub record JointIsReadable (j : JointDesc) : Type 0 where
  pub named : IsName j.name
  pub vmax : IsInRange j.vmax
  pub gain : IsInRange j.gain
  pub damping : IsInRange j.damping
  pub position : IsInRange j.position
  pub velocity : IsInRange j.velocity
  pub commands : IsDistinct same_kind j.commands
  pub states : IsDistinct same_kind j.states

pub record ComponentIsReadable (c : CompDesc) : Type 0 where
  pub named : IsName c.name
  pub on_error : (c.on_error ≡ Unconfigured) ⊎ (c.on_error ≡ Finalized)
  pub fail_read : AreWholes c.fail_read
  pub fail_write : AreWholes c.fail_write
  pub some : 1 ≤ length c.joints
  pub joints : AllByRecursion JointIsReadable c.joints

-- ---- Controllers

-- A controller has these parameters with these claims and reads.
pub record Fits (params : Params) (claimed read : List IfaceName) : Type 0 where
  pub made : AreMadeOf params claimed read
  pub numbers : AreNumbers params
  pub claims : claims_fit params (length claimed) ≡ true
  pub reads : reads_fit params (length claimed) (length read) ≡ true

pub record ControllerIsReadable (c : CtlDesc) : Type 0 where
  pub named : IsName c.name
  pub rate : IsWhole c.rate
  pub fallback : AllByRecursion IsName c.fallback
  pub claims : AllByRecursion IsNamed c.claims
  pub reads : AllByRecursion IsOfJoint c.reads
  pub fits : Fits c.params c.claims c.reads

-- ---- The whole

pub record GroupIsReadable (g : GroupDesc) : Type 0 where
  pub named : IsName g.name
  pub some : 1 ≤ length g.members
  pub members : AllByRecursion IsName g.members

-- A description that its table is read as.
pub record IsReadable (d : Description) : Type 0 where
  pub version : d.version ≡ SECOND_VERSION
  pub rate : IsWhole d.update_rate
  pub cycles : IsWhole d.cycles
  pub components : AllByRecursion ComponentIsReadable d.components
  pub controllers : AllByRecursion ControllerIsReadable d.controllers
  pub groups : AllByRecursion GroupIsReadable d.groups
