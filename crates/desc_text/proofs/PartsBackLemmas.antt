-- The tables of joints, components and groups are read back.
use Rattle.std.proofs.Common.{◌≡◌, ◌⊎◌, ℕ, pos, List, [], ◌∷◌, ◌++◌, Ok, refl, inl, inr}
use Rattle.std.specs.Prelude.{codes}
use Rattle.toml.specs.Data.{Members, string, get_member}
use Rattle.fixed_num.specs.declared.TheConstants.{MICRO}
use Rattle.cm_document.specs.Vocabulary.{component_kinds, lives, lives_on_error, life_word}
use Rattle.cm_document.specs.Forms.{one, list_of, list_after, tables_of, whole_in}
use Rattle.cm_document.specs.Forms.{quantity_in, name_in, word_in, kind_in}
use Rattle.cm_document.specs.Tables.{required_read, defaulted_read, unlisted, walk}
use Rattle.cm_document.specs.Described.{joint_table, component_table, group_table}
use Rattle.cm_document.specs.declared.description.CompDesc.{CompDesc}
use Rattle.cm_document.specs.declared.description.GroupDesc.{GroupDesc}
use Rattle.cm_document.specs.declared.description.JointDesc.{JointDesc}
use Rattle.cm_document.specs.declared.life.Life.{Life}
use Rattle.cm_document.specs.declared.life.Life.TheVariants.{Unconfigured, Inactive, Active, Finalized}
use Rattle.desc_text.specs.Printed.{joint_rows, joint_tree, component_rows, component_tree, group_rows, group_tree}
use Rattle.cm_document.specs.Given.{IsName}
use Rattle.desc_text.specs.Readable.{JointIsReadable, ComponentIsReadable, GroupIsReadable}
use Rattle.desc_text.proofs.RowLemmas.{none_besides}
use Rattle.desc_text.proofs.BackLemmas.{name_back, quantity_back, component_word_back, life_back}
use Rattle.desc_text.proofs.BackLemmas.{each_so, cycles_back, full_list_back, kind_list_back}
use Rattle.desc_text.proofs.BackLemmas.{full_tables_back, required_at, defaulted_at, one_back}

-- ---- Joints

-- the keys of a joint, in the order in which they are visited
abbrev joint_keys : List (List ℕ)
joint_keys =
    codes "name" ∷ codes "vmax" ∷ codes "gain" ∷ codes "damping" ∷ codes "position" ∷ codes "velocity" ∷ codes "command"
    ∷ codes "state" ∷ []

-- a joint is read from what stands at its keys
joint_read : (prefix : List ℕ) (ms : Members) (j : JointDesc) → unlisted joint_keys ms ≡ []
    → required_read (one name_in) (prefix ++ codes "name") (get_member (codes "name") ms) ≡ Ok j.name
    → required_read (one quantity_in) (prefix ++ codes "vmax") (get_member (codes "vmax") ms) ≡ Ok j.vmax
    → defaulted_read (one quantity_in) (pos MICRO) (prefix ++ codes "gain") (get_member (codes "gain") ms) ≡ Ok j.gain
    → defaulted_read (one quantity_in) (pos 0) (prefix ++ codes "damping") (get_member (codes "damping") ms)
    ≡ Ok j.damping
    → defaulted_read (one quantity_in) (pos 0) (prefix ++ codes "position") (get_member (codes "position") ms)
    ≡ Ok j.position
    → defaulted_read (one quantity_in) (pos 0) (prefix ++ codes "velocity") (get_member (codes "velocity") ms)
    ≡ Ok j.velocity
    → defaulted_read (list_after kind_in) [] (prefix ++ codes "command") (get_member (codes "command") ms)
    ≡ Ok j.commands
    → defaulted_read (list_after kind_in) [] (prefix ++ codes "state") (get_member (codes "state") ms) ≡ Ok j.states
    → (walk joint_table).read prefix ms ≡ Ok j
unfolding joint_table
joint_read prefix ms j listed a b c d e f g h = rw (listed, a, b, c, d, e, f, g, h, joint_table) refl

-- the table of a joint is read back
joint_back : (j : JointDesc) → JointIsReadable j → (prefix : List ℕ)
    → (walk joint_table).read prefix (joint_tree j) ≡ Ok j
joint_back j can prefix =
    let rows = joint_rows j in
    joint_read prefix (joint_tree j) j (none_besides joint_keys rows refl)
    (required_at (codes "name") (one name_in) rows (prefix ++ codes "name") j.name
    (one_back _ _ _ (name_back j.name can.named)))
    (required_at (codes "vmax") (one quantity_in) rows (prefix ++ codes "vmax") j.vmax
    (one_back _ _ _ (quantity_back j.vmax can.vmax)))
    (defaulted_at (codes "gain") (one quantity_in) (pos MICRO) rows (prefix ++ codes "gain") j.gain
    (one_back _ _ _ (quantity_back j.gain can.gain)))
    (defaulted_at (codes "damping") (one quantity_in) (pos 0) rows (prefix ++ codes "damping") j.damping
    (one_back _ _ _ (quantity_back j.damping can.damping)))
    (defaulted_at (codes "position") (one quantity_in) (pos 0) rows (prefix ++ codes "position") j.position
    (one_back _ _ _ (quantity_back j.position can.position)))
    (defaulted_at (codes "velocity") (one quantity_in) (pos 0) rows (prefix ++ codes "velocity") j.velocity
    (one_back _ _ _ (quantity_back j.velocity can.velocity)))
    (defaulted_at (codes "command") (list_after kind_in) [] rows (prefix ++ codes "command") j.commands
    (kind_list_back (prefix ++ codes "command") j.commands can.commands))
    (defaulted_at (codes "state") (list_after kind_in) [] rows (prefix ++ codes "state") j.states
    (kind_list_back (prefix ++ codes "state") j.states can.states))

-- ---- Components

abbrev component_keys : List (List ℕ)
component_keys =
    codes "name" ∷ codes "kind" ∷ codes "initial" ∷ codes "on_error" ∷ codes "fail_read" ∷ codes "fail_write"
    ∷ codes "joint" ∷ []

-- a component is read from what stands at its keys
component_read : (prefix : List ℕ) (ms : Members) (c : CompDesc) → unlisted component_keys ms ≡ []
    → required_read (one name_in) (prefix ++ codes "name") (get_member (codes "name") ms) ≡ Ok c.name
    → required_read (one (word_in component_kinds)) (prefix ++ codes "kind") (get_member (codes "kind") ms) ≡ Ok c.kind
    → defaulted_read (one (word_in lives)) Active (prefix ++ codes "initial") (get_member (codes "initial") ms)
    ≡ Ok c.initial
    → defaulted_read (one (word_in lives_on_error)) Unconfigured (prefix ++ codes "on_error")
    (get_member (codes "on_error") ms) ≡ Ok c.on_error
    → defaulted_read (list_of whole_in) [] (prefix ++ codes "fail_read") (get_member (codes "fail_read") ms)
    ≡ Ok c.fail_read
    → defaulted_read (list_of whole_in) [] (prefix ++ codes "fail_write") (get_member (codes "fail_write") ms)
    ≡ Ok c.fail_write
    → required_read (tables_of (walk joint_table)) (prefix ++ codes "joint") (get_member (codes "joint") ms)
    ≡ Ok c.joints
    → (walk component_table).read prefix ms ≡ Ok c
unfolding component_table
component_read prefix ms c listed a b d e f g h = rw (listed, a, b, d, e, f, g, h, component_table) refl

-- the state after a failure is read back from its word
on_error_back : (life : Life) → (life ≡ Unconfigured) ⊎ (life ≡ Finalized)
    → word_in lives_on_error (string (life_word life)) ≡ Ok life
on_error_back Unconfigured one = refl
on_error_back Finalized one = refl
on_error_back Inactive (inl e) = cc
on_error_back Inactive (inr e) = cc
on_error_back Active (inl e) = cc
on_error_back Active (inr e) = cc

-- the table of a component is read back
pub component_back : (c : CompDesc) → ComponentIsReadable c → (prefix : List ℕ)
    → (walk component_table).read prefix (component_tree c) ≡ Ok c
component_back c can prefix =
    let rows = component_rows c in
    component_read prefix (component_tree c) c (none_besides component_keys rows refl)
    (required_at (codes "name") (one name_in) rows (prefix ++ codes "name") c.name
    (one_back _ _ _ (name_back c.name can.named)))
    (required_at (codes "kind") (one (word_in component_kinds)) rows (prefix ++ codes "kind") c.kind
    (one_back _ _ _ (component_word_back c.kind)))
    (defaulted_at (codes "initial") (one (word_in lives)) Active rows (prefix ++ codes "initial") c.initial
    (one_back _ _ _ (life_back c.initial)))
    (defaulted_at (codes "on_error") (one (word_in lives_on_error)) Unconfigured rows (prefix ++ codes "on_error")
    c.on_error (one_back _ _ _ (on_error_back c.on_error can.on_error)))
    (defaulted_at (codes "fail_read") (list_of whole_in) [] rows (prefix ++ codes "fail_read") c.fail_read
    (cycles_back (prefix ++ codes "fail_read") c.fail_read can.fail_read))
    (defaulted_at (codes "fail_write") (list_of whole_in) [] rows (prefix ++ codes "fail_write") c.fail_write
    (cycles_back (prefix ++ codes "fail_write") c.fail_write can.fail_write))
    (required_at (codes "joint") (tables_of (walk joint_table)) rows (prefix ++ codes "joint") c.joints
    (full_tables_back (walk joint_table) joint_tree (prefix ++ codes "joint") c.joints
    (each_so JointIsReadable _ joint_back c.joints can.joints) can.some))

-- ---- Groups

abbrev group_keys : List (List ℕ)
group_keys = codes "name" ∷ codes "members" ∷ []

-- a group is read from what stands at its keys
group_read : (prefix : List ℕ) (ms : Members) (g : GroupDesc) → unlisted group_keys ms ≡ []
    → required_read (one name_in) (prefix ++ codes "name") (get_member (codes "name") ms) ≡ Ok g.name
    → required_read (list_of name_in) (prefix ++ codes "members") (get_member (codes "members") ms) ≡ Ok g.members
    → (walk group_table).read prefix ms ≡ Ok g
unfolding group_table
group_read prefix ms g listed a b = rw (listed, a, b, group_table) refl

-- the table of a group is read back
pub group_back : (g : GroupDesc) → GroupIsReadable g → (prefix : List ℕ)
    → (walk group_table).read prefix (group_tree g) ≡ Ok g
group_back g can prefix =
    let rows = group_rows g in
    group_read prefix (group_tree g) g (none_besides group_keys rows refl)
    (required_at (codes "name") (one name_in) rows (prefix ++ codes "name") g.name
    (one_back _ _ _ (name_back g.name can.named)))
    (required_at (codes "members") (list_of name_in) rows (prefix ++ codes "members") g.members
    (full_list_back name_in string (prefix ++ codes "members") g.members
    (each_so IsName _ name_back g.members can.members) can.some))
