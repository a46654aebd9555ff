-- The printed tree of a description is read as it, and is no deeper than texts may be.
use Rattle.std.proofs.Common.{◌≡◌, ℕ, suc, ℤ, pos, ◌≤◌, Bool, true, false, List, []}
use Rattle.std.proofs.Common.{◌∷◌, ◌++◌, map, Some, Ok, refl, ap, ◌∙◌, arith}
use Rattle.std.specs.Prelude.{codes, IsUtf8}
use Rattle.std.specs.List.{AllByRecursion}
use Rattle.std.specs.Option.{option_map_or}
use Rattle.toml.specs.Data.{Data, string, integer, table, Members, depth, items_depth, members_depth}
use Rattle.toml.specs.Parse.{parse_document}
use Rattle.toml.specs.View.{items_of}
use Rattle.iface_names.specs.Interfaces.{interface_text, kind_word}
use Rattle.sequence.proofs.ListLemmas.{all_append}
use Rattle.cm_document.specs.Params.{kind_of, reads_asked, flags, quantities, cycle_lists}
use Rattle.cm_document.specs.Forms.{one, tables_of, whole_in}
use Rattle.cm_document.specs.Tables.{none_unlisted, walk}
use Rattle.cm_document.specs.Described.{component_table, component_key, controller_form}
use Rattle.cm_document.specs.Described.{group_table, states_of, top_table, described_states, is_two}
use Rattle.cm_document.specs.Described.{is_second, description_form, description_in, tree_of}
use Rattle.cm_document.specs.declared.description.CompDesc.{CompDesc}
use Rattle.cm_document.specs.declared.description.CtlDesc.{CtlDesc}
use Rattle.cm_document.specs.declared.description.Description.{Description}
use Rattle.cm_document.specs.declared.description.GroupDesc.{GroupDesc}
use Rattle.cm_document.specs.declared.description.JointDesc.{JointDesc}
use Rattle.cm_document.specs.declared.description.KeyAsked.{KeyAsked}
use Rattle.cm_document.specs.declared.description.KeyAsked.TheVariants.{ListedOrAll}
use Rattle.cm_document.specs.declared.description.Params.{Params}
use Rattle.cm_document.specs.declared.limits.TheConstants.{SECOND_VERSION}
use Rattle.desc_text.specs.Printed.{listed, joint_rows, joint_tree, component_rows, component_tree, reads_row}
use Rattle.desc_text.specs.Printed.{flag_row, quantity_row, cycles_row, params_rows, controller_rows}
use Rattle.desc_text.specs.Printed.{controller_tree, group_rows, group_tree, description_rows, description_tree}
use Rattle.desc_text.specs.Readable.{ComponentIsReadable, ControllerIsReadable, GroupIsReadable, IsReadable}
use Rattle.desc_text.proofs.TreeLemmas.{tree_of_parsed, top_keys, second_read}
use Rattle.desc_text.proofs.RowLemmas.{RowIsWithin, table_at, none_besides, table_within}
use Rattle.desc_text.proofs.BackLemmas.{whole_back, each_so, tables_back, required_at, defaulted_at, one_back}
use Rattle.desc_text.proofs.PartsBackLemmas.{component_back, group_back}
use Rattle.desc_text.proofs.ControllersBackLemmas.{controller_back}

-- ---- It is read back

-- the printed tree is of the second version
is_of_second : (d : Description) → d.version ≡ SECOND_VERSION → is_second (description_tree d) ≡ true
is_of_second d e =
    ap (λ there. option_map_or is_two there false) (table_at (codes "version") (description_rows d))
    ∙ ap (λ version. is_two (integer (pos version))) e

-- The printed tree of a description is read as it.
pub description_back : (d : Description) → IsReadable d → description_in (Some (description_tree d)) ≡ Ok d
unfolding description_form
description_back d can =
    let rows = description_rows d in
    let ms = description_tree d in
    let components : component_key.form.read [] ms ≡ Ok d.components =
    defaulted_at (codes "component") (tables_of (walk component_table)) [] rows (codes "component") d.components
    (tables_back (walk component_table) component_tree (codes "component") d.components
    (each_so ComponentIsReadable _ component_back d.components can.components)) in
    let controllers =
    defaulted_at (codes "controller") (tables_of (controller_form (states_of d.components))) [] rows
    (codes "controller") d.controllers
    (tables_back (controller_form (states_of d.components)) controller_tree (codes "controller") d.controllers
    (each_so ControllerIsReadable _ (controller_back (states_of d.components)) d.controllers can.controllers)) in
    let groups =
    defaulted_at (codes "group") (tables_of (walk group_table)) [] rows (codes "group") d.groups
    (tables_back (walk group_table) group_tree (codes "group") d.groups
    (each_so GroupIsReadable _ group_back d.groups can.groups)) in
    let version = whole_back d.version (omega (arith, can.version)) in
    ap (λ second. (walk (top_table (described_states ms) second)).read [] ms) (is_of_second d can.version)
    ∙ second_read ms d.version d.update_rate d.cycles d.components d.components
    (ap (none_unlisted []) (none_besides (top_keys ++ codes "group" ∷ []) rows refl))
    (required_at (codes "version") (one whole_in) rows (codes "version") d.version (one_back _ _ _ version))
    (required_at (codes "update_rate") (one whole_in) rows (codes "update_rate") d.update_rate
    (one_back _ _ _ (whole_back d.update_rate can.rate)))
    (required_at (codes "cycles") (one whole_in) rows (codes "cycles") d.cycles
    (one_back _ _ _ (whole_back d.cycles can.cycles)))
    components refl
    ∙ rw (controllers, groups) refl

-- ---- It is not deep

-- values that are no deeper make items that are no deeper
items_within : {A : Type 0} (n : ℕ) (value : A → Data) → ((x : A) → depth (value x) ≤ n) → (xs : List A)
    → items_depth (items_of (map value xs)) ≤ n
items_within n value within [] = omega arith
items_within n value within (x ∷ xs) = omega (arith, within x, items_within n value within xs)

-- a list of values is one deeper than each
list_within : {A : Type 0} (n : ℕ) (key : List ℕ) (value : A → Data) → ((x : A) → depth (value x) ≤ n) → (xs : List A)
    → RowIsWithin (suc n) (key, listed value xs)
list_within n key value within [] = tt
list_within n key value within (x ∷ xs) = omega (arith, items_within n value within (x ∷ xs))

-- one value is not deep
flat : (n : ℕ) → 0 ≤ n
flat n = omega arith

joint_within : (j : JointDesc) → depth (table (joint_tree j)) ≤ 2
joint_within j =
    let rows = joint_rows j in
    let inside =
    table_within 1 rows (
      flat 1,
      (
        flat 1,
        (
          flat 1,
          (
            flat 1,
            (
              flat 1,
              (
                flat 1,
                (
                  list_within 0 (codes "command") (λ kind. string (kind_word kind)) (λ _. flat 0) j.commands,
                  (list_within 0 (codes "state") (λ kind. string (kind_word kind)) (λ _. flat 0) j.states, tt),
                ),
              ),
            ),
          ),
        ),
      ),
    ) in
    omega (arith, inside)

component_within : (c : CompDesc) → depth (table (component_tree c)) ≤ 4
component_within c =
    let rows = component_rows c in
    let inside = table_within 3 rows (
      flat 3,
      (
        flat 3,
        (
          flat 3,
          (
            flat 3,
            (
              list_within 2 (codes "fail_read") (λ n. integer (pos n)) (λ _. flat 2) c.fail_read,
              (
                list_within 2 (codes "fail_write") (λ n. integer (pos n)) (λ _. flat 2) c.fail_write,
                (list_within 2 (codes "joint") (λ j. table (joint_tree j)) joint_within c.joints, tt),
              ),
            ),
          ),
        ),
      ),
    ) in
    omega (arith, inside)

group_within : (g : GroupDesc) → depth (table (group_tree g)) ≤ 4
group_within g =
    let rows = group_rows g in
    let inside = table_within 3 rows (flat 3, (list_within 2 (codes "members") string (λ _. flat 2) g.members, tt)) in
    omega (arith, inside)

-- what a controller reads
reads_within : (asked : KeyAsked) (c : CtlDesc) → RowIsWithin 3 (reads_row asked c)
reads_within ListedOrAll c = omega (arith, items_within 0 (λ i. string (interface_text i)) (λ _. flat 0) c.reads)
reads_within _ c = list_within 2 (codes "reads") (λ interface. string (interface_text interface)) (λ _. flat 2) c.reads

-- its parameters
flags_within : (fs : List (List ℕ × Bool)) → AllByRecursion (RowIsWithin 3) (map flag_row fs)
flags_within [] = tt
flags_within (f ∷ fs) = (flat 3, flags_within fs)

quantities_within : (qs : List (List ℕ × ℤ)) → AllByRecursion (RowIsWithin 3) (map quantity_row qs)
quantities_within [] = tt
quantities_within (q ∷ qs) = (flat 3, quantities_within qs)

cycles_within : (ls : List (List ℕ × List ℕ)) → AllByRecursion (RowIsWithin 3) (map cycles_row ls)
cycles_within [] = tt
cycles_within (l ∷ ls) = (list_within 2 l.0 (λ n. integer (pos n)) (λ _. flat 2) l.1, cycles_within ls)

params_within : (p : Params) → AllByRecursion (RowIsWithin 3) (params_rows p)
params_within p =
    all_append (RowIsWithin 3) (map flag_row (flags p))
    (map quantity_row (quantities p) ++ map cycles_row (cycle_lists p)) (flags_within (flags p))
    (all_append (RowIsWithin 3) (map quantity_row (quantities p)) (map cycles_row (cycle_lists p))
    (quantities_within (quantities p)) (cycles_within (cycle_lists p)))

controller_within : (c : CtlDesc) → depth (table (controller_tree c)) ≤ 4
controller_within c =
    let rows = controller_rows c in
    let inside = table_within 3 rows (
      flat 3,
      (
        flat 3,
        (
          flat 3,
          (
            list_within 2 (codes "fallback") string (λ _. flat 2) c.fallback,
            (
              list_within 2 (codes "claims") (λ interface. string (interface_text interface)) (λ _. flat 2) c.claims,
              (reads_within (reads_asked (kind_of c.params)) c, params_within c.params),
            ),
          ),
        ),
      ),
    ) in
    omega (arith, inside)

-- the printed tree of a description
description_within : (d : Description) → members_depth (description_tree d) ≤ 5
description_within d =
    table_within 5 (description_rows d) (
      flat 5,
      (
        flat 5,
        (
          flat 5,
          (
            list_within 4 (codes "component") (λ c. table (component_tree c)) component_within d.components,
            (
              list_within 4 (codes "controller") (λ c. table (controller_tree c)) controller_within d.controllers,
              (list_within 4 (codes "group") (λ g. table (group_tree g)) group_within d.groups, tt),
            ),
          ),
        ),
      ),
    )

-- ---- As a text

-- The text that the printed tree is parsed from is read as the description; TOML's reader nests tables no deeper than
-- 80.
pub printed_back : (d : Description) → IsReadable d → (text : List ℕ) (made : Members) → IsUtf8 text
    → made ≡ description_tree d
    → (members_depth made ≤ 80 → parse_document text ≡ Some made) → description_in (tree_of text) ≡ Ok d
printed_back d can text made utf8 is parses =
    let within : members_depth made ≤ 80 = rw is (omega (arith, description_within d)) in
    ap description_in (tree_of_parsed text made utf8 (parses within) ∙ ap Some is) ∙ description_back d can
