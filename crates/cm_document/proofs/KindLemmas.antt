-- A kind stands once among the states and once among the commands of each joint that is read.
use Rattle.std.proofs.Common.{◌≡◌, ℕ, ◌+◌, ℤ, Bool, true, false, List, []}
use Rattle.std.proofs.Common.{◌∷◌, ◌++◌, Option, Some, None, Ok, Err, subst}
use Rattle.std.specs.Prelude.{IfOk, codes}
use Rattle.std.specs.Cmp.{decided}
use Rattle.std.specs.List.{AllByRecursion, IsDistinct, list_any}
use Rattle.std.proofs.lemmas.Bool.{cond_both}
use Rattle.std.proofs.lemmas.Map.Keys.{IsDistinct-push}
use Rattle.toml.specs.Data.{Data, string, array, Items, no_items, item}
use Rattle.iface_names.specs.Interfaces.{kind_named, same_kind}
use Rattle.iface_names.specs.Sameness.{same_kind-Decides}
use Rattle.iface_names.specs.declared.interface.IfaceName.{IfaceName}
use Rattle.iface_names.specs.declared.kind.Kind.{Kind}
use Rattle.cm_document.specs.Forms.{item_path, placed, new_kind, kind_in, items_from, list_read, list_after, tables_of}
use Rattle.cm_document.specs.Tables.{defaulted, walk}
use Rattle.cm_document.specs.Described.{a_joint, a_component, a_description, a_grouped, joint_table}
use Rattle.cm_document.specs.Described.{component_table, top_table, described_states, is_second, description_form}
use Rattle.cm_document.specs.Valid.{IsDescribed}
use Rattle.cm_document.specs.declared.description.CompDesc.{CompDesc}
use Rattle.cm_document.specs.declared.description.CompKind.{CompKind}
use Rattle.cm_document.specs.declared.description.CtlDesc.{CtlDesc}
use Rattle.cm_document.specs.declared.description.Description.{Description}
use Rattle.cm_document.specs.declared.description.GroupDesc.{GroupDesc}
use Rattle.cm_document.specs.declared.description.JointDesc.{JointDesc}
use Rattle.cm_document.specs.declared.faults.Wrong.TheVariants as wrong
use Rattle.cm_document.specs.declared.life.Life.{Life}
use Rattle.cm_document.proofs.GivenLemmas.{Gives, filled_gives, next_key, any_key, required_gives}
use Rattle.cm_document.proofs.GivenLemmas.{defaulted_gives, walk_gives, tables_give}
use Rattle.cm_document.proofs.ReadingLemmas.{bind_keeps}

-- ---- Lists of kinds

-- no kind stands twice in the list
abbrev KindsDiffer : List Kind → Type 0
KindsDiffer kinds = IsDistinct same_kind kinds

-- a kind that is read does not stand before
placed_kind_is_new : (path : List ℕ) (before : List Kind) (kind : Option Kind)
    → IfOk (placed path (new_kind before kind)) (λ x. list_any (same_kind x) before ≡ false)
placed_kind_is_new path before None = tt
placed_kind_is_new path before (Some kind) =
    cond_both (list_any (same_kind kind) before) (Err wrong.Value) (Ok kind)
    (λ r. IfOk (placed path r) (λ x. list_any (same_kind x) before ≡ false)) (λ _. tt) (λ new. new)

-- nor does one that is read of a value
kind_is_new : (path : List ℕ) (before : List Kind) (d : Data)
    → IfOk (placed path (kind_in before d)) (λ x. list_any (same_kind x) before ≡ false)
kind_is_new path before (string text) = placed_kind_is_new path before (kind_named text)
kind_is_new path before _ = tt

-- kinds read after others differ with them
kinds_keep : (path : List ℕ) (k : ℕ) (ds : Items) (found : List Kind) → KindsDiffer found
    → IfOk (items_from kind_in path k ds found) KindsDiffer
kinds_keep path k no_items found differ = differ
kinds_keep path k (item d ds) found differ =
    bind_keeps (λ x. list_any (same_kind x) found ≡ false) KindsDiffer (placed (item_path path k) (kind_in found d)) _
    (kind_is_new _ found d)
    (λ x new. kinds_keep path (k + 1) ds (found ++ x ∷ [])
    (IsDistinct-push (decided same_kind same_kind-Decides) found x differ new))

-- kinds of a list differ
kind_list_keeps : (path : List ℕ) (d : Data) → IfOk (list_read kind_in path d) KindsDiffer
unfolding IsDistinct
kind_list_keeps path (array ds) = kinds_keep path 0 ds [] tt
kind_list_keeps path _ = tt

-- a list of kinds gives kinds that differ
kinds_give : Gives (list_after kind_in).read KindsDiffer
kinds_give = record { given = kind_list_keeps }

-- ---- Joints, components, descriptions

-- no kind stands twice among the commands of a joint, nor among its states
pub record KindsOnce (j : JointDesc) : Type 0 where
  pub commands : KindsDiffer j.commands
  pub states : KindsDiffer j.states

-- the key of a list of kinds
kinds_key : (key : List ℕ) → Gives (defaulted key (list_after kind_in) []).form.read KindsDiffer
unfolding IsDistinct
kinds_key key = defaulted_gives key (list_after kind_in) [] KindsDiffer kinds_give tt

-- a joint is read with kinds that differ
joint_gives : Gives joint_table.form.read KindsOnce
unfolding joint_table
joint_gives =
    next_key _ _ KindsDiffer KindsOnce
    (next_key _ _ KindsDiffer _
    (any_key {A = ℤ} _ _ _
    (any_key {A = ℤ} _ _ _
    (any_key {A = ℤ} _ _ _
    (any_key {A = ℤ} _ _ _ (any_key {A = ℤ} _ _ _ (any_key {A = List ℕ} _ _ _ (filled_gives a_joint _
    (λ name vmax gain damping position velocity commands differ states differ'. record
    { commands = differ; states = differ' })))))))
    ) (kinds_key (codes "command")))
    (kinds_key (codes "state"))

-- no kind stands twice in a joint of a component
abbrev JointsOnce : CompDesc → Type 0
JointsOnce c = AllByRecursion KindsOnce c.joints

-- a component is read with such joints
component_gives : Gives component_table.form.read JointsOnce
unfolding component_table
component_gives =
    next_key _ _ (AllByRecursion KindsOnce) JointsOnce
    (any_key {A = List ℕ} _ _ _
    (any_key {A = List ℕ} _ _ _
    (any_key {A = Life} _ _ _
    (any_key {A = Life} _ _ _ (any_key {A = CompKind} _ _ _ (any_key {A = List ℕ} _ _ _ (filled_gives a_component _
    (λ name kind initial on_error fail_read fail_write joints once. once))))))))
    (required_gives (codes "joint") (tables_of (walk joint_table)) _
    (tables_give (walk joint_table) KindsOnce (walk_gives joint_table KindsOnce joint_gives)))

-- no kind stands twice in a joint of a description
abbrev pub DescribesOnce : Description → Type 0
DescribesOnce d = AllByRecursion JointsOnce d.components

-- and a description with such components
description_gives : (states : List IfaceName) (second : Bool) → Gives (top_table states second).form.read DescribesOnce
unfolding top_table
description_gives states false =
    any_key {A = List CtlDesc} _ _ _ (next_key _ _ (AllByRecursion JointsOnce) _
    (any_key {A = ℕ} _ _ _ (any_key {A = ℕ} _ _ _ (any_key {A = ℕ} _ _ _ (filled_gives a_description _
    (λ version update_rate cycles components once controllers. once)))))
    (defaulted_gives (codes "component") (tables_of (walk component_table)) [] _
    (tables_give (walk component_table) JointsOnce (walk_gives component_table JointsOnce component_gives)) tt))
description_gives states true =
    any_key {A = List GroupDesc} _ _ _ (any_key {A = List CtlDesc} _ _ _ (next_key _ _ (AllByRecursion JointsOnce) _
    (any_key {A = ℕ} _ _ _ (any_key {A = ℕ} _ _ _ (any_key {A = ℕ} _ _ _ (filled_gives a_grouped _
    (λ version update_rate cycles components once controllers groups. once)))))
    (defaulted_gives (codes "component") (tables_of (walk component_table)) [] _
    (tables_give (walk component_table) JointsOnce (walk_gives component_table JointsOnce component_gives)) tt)))

-- No kind stands twice in a joint of a description that a tree stands for.
pub IsDescribed-DescribesOnce : (d : Description) → IsDescribed d → DescribesOnce d
unfolding description_form
IsDescribed-DescribesOnce d (ms, e) =
    subst (λ r. IfOk r DescribesOnce) e
    ((walk_gives (top_table (described_states ms) (is_second ms)) DescribesOnce
    (description_gives (described_states ms) (is_second ms))).given [] ms)
