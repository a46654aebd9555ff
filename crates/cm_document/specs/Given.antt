-- What is known of a value that was read, and of parameters.
use Rattle.std.specs.Prelude.{ℕ, ◌<◌, ◌^◌, IsTrue, List}
use Rattle.std.specs.List.{AllByRecursion}
use Rattle.fixed_num.specs.Micro.{IsInRange}
use Rattle.iface_names.specs.Names.{is_name}
use Rattle.iface_names.specs.declared.interface.IfaceName.{IfaceName}
use Rattle.iface_names.specs.declared.interface.IfaceName.TheVariants.{Joint, Reference}
use Rattle.cm_document.specs.Params.{quantities, cycle_lists}
use Rattle.cm_document.specs.declared.description.Params.{Params}

-- ---- Values

-- a text is a name
abbrev pub IsName : List ℕ → Type 0
IsName name = IsTrue (is_name name)

-- a number is a whole
abbrev pub IsWhole : ℕ → Type 0
IsWhole n = n < 2 ^ 32

abbrev pub AreWholes : List ℕ → Type 0
AreWholes list = AllByRecursion IsWhole list

-- an interface is named by names
abbrev pub IsNamed : IfaceName → Type 0
IsNamed (Joint joint kind) = IsName joint
IsNamed (Reference controller joint kind) = IsName controller × IsName joint

-- it is one of a joint
abbrev pub IsOfJoint : IfaceName → Type 0
IsOfJoint (Joint joint kind) = IsName joint
IsOfJoint (Reference controller joint kind) = ⊥

-- ---- Parameters

-- The quantities of a controller are in the range, and its lists of cycles are of wholes.
pub record AreNumbers (params : Params) : Type 0 where
  pub within : AllByRecursion (λ q. IsInRange q.1) (quantities params)
  pub wholes : AllByRecursion (λ list. AreWholes list.1) (cycle_lists params)
