-- The form of a description is sound: table by table, whatever keys a table has.
use Rattle.std.proofs.Common.{◌≡◌, Bool, true, false, List, [], ◌++◌, Some, is_ok, take}
use Rattle.std.specs.Prelude.{codes}
use Rattle.toml.specs.Data.{Members, get_member}
use Rattle.iface_names.specs.declared.interface.IfaceName.{IfaceName}
use Rattle.cm_document.specs.Vocabulary.{controller_kinds}
use Rattle.cm_document.specs.Forms.{fault_in, word_in}
use Rattle.cm_document.specs.Tables.{walk}
use Rattle.cm_document.specs.Described.{joint_table, component_table, controller_table, controller_form}
use Rattle.cm_document.specs.Described.{group_table, top_table, described_states, is_second}
use Rattle.cm_document.specs.Described.{description_form, description_in, all_faults, fits_description}
use Rattle.cm_document.specs.declared.description.CtlKind.{CtlKind}
use Rattle.cm_document.specs.declared.description.CtlKind.TheVariants.{Forward}
use Rattle.cm_document.proofs.FormLemmas.{Tells, Tells-first, Tells-fits, IsSound, IsSoundTable}
use Rattle.cm_document.proofs.FormLemmas.{sound_parts, walk-IsSound, chosen-Tells}

joint-IsSound : IsSoundTable joint_table
unfolding joint_table
joint-IsSound = search sound_parts depth 20

component-IsSound : IsSoundTable component_table
unfolding component_table
component-IsSound = search (sound_parts, joint-IsSound) depth 20

controller_table-IsSound : (states : List IfaceName) (kind : CtlKind) → IsSoundTable (controller_table states kind)
unfolding controller_table
controller_table-IsSound states Forward = search sound_parts depth 20
controller_table-IsSound states _ = search sound_parts depth 20

-- a controller: its type says which table
controller-IsSound : (states : List IfaceName) → IsSound (controller_form states)
controller-IsSound states = record {
  tells = λ prefix ms. chosen-Tells (word_in controller_kinds) (prefix ++ codes "type") (codes "type")
      (get_member (codes "type") ms)
      (λ kind. walk (controller_table states kind)) (λ kind. walk-IsSound (controller_table-IsSound states kind)) prefix
      ms;
}

group-IsSound : IsSoundTable group_table
unfolding group_table
group-IsSound = search sound_parts depth 20

top-IsSound : (states : List IfaceName) (second : Bool) → IsSoundTable (top_table states second)
unfolding top_table
top-IsSound states true = search (sound_parts, component-IsSound, controller-IsSound, group-IsSound) depth 24
top-IsSound states false = search (sound_parts, component-IsSound, controller-IsSound) depth 24

-- the whole tree
description-Tells : (ms : Members) → Tells (description_in (Some ms)) (all_faults ms) (fits_description ms)
unfolding description_form
description-Tells ms = (walk-IsSound (top-IsSound (described_states ms) (is_second ms))).tells [] ms

-- the fault that is told of a tree is the first of all its faults
pub description-first : (ms : Members) → fault_in (description_in (Some ms)) ≡ take 1 (all_faults ms)
description-first ms =
    Tells-first (description_in (Some ms)) (all_faults ms) (fits_description ms) (description-Tells ms)

-- a tree is accepted exactly where it has the form of a description
pub description-fits : (ms : Members) → is_ok (description_in (Some ms)) ≡ fits_description ms
description-fits ms = Tells-fits (description_in (Some ms)) (all_faults ms) (fits_description ms) (description-Tells ms)
