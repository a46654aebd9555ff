-- Names of interfaces: a joint's, or a controller's reference.
use Rattle.std.specs.Prelude.{ℕ, Bool, true, false, ◌&&◌, ◌==◌, if◌then◌else◌, List, [], ◌∷◌, ◌++◌, codes, find, Option}
use Rattle.std.specs.Prelude.{Some, None, Result, Ok, Err}
use Rattle.std.specs.List.{slice_split}
use Rattle.std.specs.Option.{option_map, option_map_or}
use Rattle.iface_names.specs.Names.{is_name, same_name}
use Rattle.iface_names.specs.declared.interface.IfaceName.{IfaceName}
use Rattle.iface_names.specs.declared.interface.IfaceName.TheVariants.{Joint, Reference}
use Rattle.iface_names.specs.declared.kind.Kind.{Kind}
use Rattle.iface_names.specs.declared.kind.TheConstants.{KINDS}
use Rattle.iface_names.specs.declared.kind.Kind.TheVariants.{Position, Velocity, Effort}
use Rattle.iface_names.specs.declared.name.NameFault.{NameFault}
use Rattle.iface_names.specs.declared.name.NameFault.TheVariants.{BadName}

-- ---- Kinds

-- the two kinds are one
abbrev pub same_kind : Kind → Kind → Bool
same_kind Position Position = true
same_kind Velocity Velocity = true
same_kind Effort Effort = true
same_kind _ _ = false

-- the word that stands beside a kind in the table of kinds
abbrev pub kind_word : Kind → List ℕ
kind_word kind = option_map_or (λ row. row.0.now) (find (λ row. same_kind row.1 kind) KINDS) []

-- the kind that stands beside a word there
abbrev pub kind_named : List ℕ → Option Kind
kind_named word = option_map (λ row. row.1) (find (λ row. same_name row.0.now word) KINDS)

-- ---- Text

-- The parts of a text: it is cut at each `/`. There is always one part, though it may be empty.
abbrev pub interface_parts : List ℕ → List (List ℕ)
interface_parts text = slice_split (λ b. b == 47) text

-- the interface of this joint and kind, where the joint's name is one and there is such a kind
abbrev pub joint_of : List ℕ → Option Kind → Result IfaceName NameFault
joint_of joint None = Err BadName
joint_of joint (Some kind) = if is_name joint then Ok (Joint joint kind) else Err BadName

-- the reference of this controller, joint and kind, where both names are names and there is such a kind
abbrev pub reference_of : List ℕ → List ℕ → Option Kind → Result IfaceName NameFault
reference_of controller joint None = Err BadName
reference_of controller joint (Some kind) =
    if is_name controller && is_name joint then Ok (Reference controller joint kind) else Err BadName

-- Two parts are a joint and a kind, three are a controller, a joint and a kind. Any other number of parts is no
-- interface.
abbrev pub interface_of_parts : List (List ℕ) → Result IfaceName NameFault
interface_of_parts (joint ∷ kind ∷ []) = joint_of joint (kind_named kind)
interface_of_parts (controller ∷ joint ∷ kind ∷ []) = reference_of controller joint (kind_named kind)
interface_of_parts _ = Err BadName

-- the interface that this text names
unfoldable pub interface_of : List ℕ → Result IfaceName NameFault
interface_of text = interface_of_parts (interface_parts text)

-- the text of an interface: `joint/kind`, or `controller/joint/kind`
abbrev pub interface_text : IfaceName → List ℕ
interface_text (Joint joint kind) = joint ++ codes "/" ++ kind_word kind
interface_text (Reference controller joint kind) = controller ++ codes "/" ++ joint ++ codes "/" ++ kind_word kind

-- ---- Sameness

-- the two interfaces are of one form, and have the same names and the same kind
abbrev pub same_interface : IfaceName → IfaceName → Bool
same_interface (Joint joint kind) (Joint joint' kind') = same_name joint joint' && same_kind kind kind'
same_interface (Reference controller joint kind) (Reference controller' joint' kind') =
    (same_name controller controller' && same_name joint joint') && same_kind kind kind'
same_interface _ _ = false
