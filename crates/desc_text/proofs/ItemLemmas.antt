-- Lemmas for reading the items of a list one by one.
use Rattle.std.proofs.Common.{◌≡◌, ℕ, ◌+◌, ◌<◌, List, [], ◌∷◌, ◌++◌, length, get_or}
use Rattle.std.proofs.Common.{drop, Result, Some, None, Ok, Err, refl, sym}
use Rattle.toml.specs.Data.{Data, string, integer, float, boolean, datetime}
use Rattle.toml.specs.Data.{array, table, Members, Items, item, as_table}
use Rattle.toml.specs.View.{view, items_view}
use Rattle.toml.specs.declared.value.Value.{Value}
use Rattle.toml.proofs.Views.{items_view-drop}
use Rattle.cm_document.specs.Forms.{Form, placed, item_path, inside, items_from, tables_from}
use Rattle.cm_document.specs.declared.faults.DescFault.{DescFault}
use Rattle.cm_document.specs.declared.faults.DescFault.TheVariants.{BadValue}
use Rattle.cm_document.specs.declared.faults.Wrong.{Wrong}

-- ---- One value an item

-- an item that was read is the next of those found
pub items_from_read : {A : Type 0} (rule : List A → Data → Result A Wrong) (path : List ℕ) (k : ℕ) (vs : List Value)
    (v : Value) (x : A) (found more : List A) (all : Result (List A) DescFault)
    → k < length vs → v ≡ get_or vs k v → placed (item_path path k) (rule found (view v)) ≡ Ok x
    → more ≡ found ++ x ∷ [] → items_from rule path k (items_view (drop k vs)) found ≡ all
    → items_from rule path (k + 1) (items_view (drop (k + 1) vs)) more ≡ all
items_from_read rule path k vs v x found more all inside at read grown so_far =
    rw grown (rw (items_view-drop vs k v inside, ← at, read) at so_far)

-- the fault of an item is the fault of all
pub items_from_fault : {A : Type 0} (rule : List A → Data → Result A Wrong) (path : List ℕ) (k : ℕ) (vs : List Value)
    (v : Value) (e : DescFault) (found : List A) (all : Result (List A) DescFault)
    → k < length vs → v ≡ get_or vs k v → placed (item_path path k) (rule found (view v)) ≡ Err e
    → items_from rule path k (items_view (drop k vs)) found ≡ all → all ≡ Err e
items_from_fault rule path k vs v e found all inside at read so_far =
    sym (rw (items_view-drop vs k v inside, ← at, read) at so_far)

-- ---- One table an item

-- what is read as a table is one
table_of : (d : Data) (ms : Members) → Some ms ≡ as_table d → d ≡ table ms
table_of (table ns) ms e = cc
table_of (string s) ms e = cc
table_of (integer z) ms e = cc
table_of (float x) ms e = cc
table_of (boolean b) ms e = cc
table_of (datetime t) ms e = cc
table_of (array ds) ms e = cc

-- an item that is no table
at_other : {A : Type 0} (form : Form Members A) (path : List ℕ) (k : ℕ) (d : Data) (ds : Items) (found : List A)
    → None ≡ as_table d → tables_from form path k (item d ds) found ≡ Err (BadValue (item_path path k))
at_other form path k (table ns) ds found e = cc
at_other form path k (string s) ds found e = refl
at_other form path k (integer z) ds found e = refl
at_other form path k (float x) ds found e = refl
at_other form path k (boolean b) ds found e = refl
at_other form path k (datetime t) ds found e = refl
at_other form path k (array es) ds found e = refl

-- a table that was read is the next of those found
pub tables_from_read : {A : Type 0} (form : Form Members A) (path : List ℕ) (k : ℕ) (vs : List Value) (v : Value)
    (ms : Members) (prefix : List ℕ) (x : A) (found more : List A) (all : Result (List A) DescFault)
    → k < length vs → v ≡ get_or vs k v → Some ms ≡ as_table (view v) → prefix ≡ inside (item_path path k)
    → form.read prefix ms ≡ Ok x
    → more ≡ found ++ x ∷ [] → tables_from form path k (items_view (drop k vs)) found ≡ all
    → tables_from form path (k + 1) (items_view (drop (k + 1) vs)) more ≡ all
tables_from_read form path k vs v ms prefix x found more all within at is place read grown so_far =
    rw grown (rw (items_view-drop vs k v within, ← at, table_of (view v) ms is, ← place, read) at so_far)

-- the fault of a table is the fault of all
pub tables_from_fault : {A : Type 0} (form : Form Members A) (path : List ℕ) (k : ℕ) (vs : List Value) (v : Value)
    (ms : Members) (prefix : List ℕ) (e : DescFault) (found : List A) (all : Result (List A) DescFault)
    → k < length vs → v ≡ get_or vs k v → Some ms ≡ as_table (view v) → prefix ≡ inside (item_path path k)
    → form.read prefix ms ≡ Err e
    → tables_from form path k (items_view (drop k vs)) found ≡ all → all ≡ Err e
tables_from_fault form path k vs v ms prefix e found all within at is place read so_far =
    sym (rw (items_view-drop vs k v within, ← at, table_of (view v) ms is, ← place, read) at so_far)

-- an item that is no table is the fault of all
pub tables_from_other : {A : Type 0} (form : Form Members A) (path : List ℕ) (k : ℕ) (vs : List Value) (v : Value)
    (at_k : List ℕ) (found : List A) (all : Result (List A) DescFault)
    → k < length vs → v ≡ get_or vs k v → None ≡ as_table (view v) → at_k ≡ item_path path k
    → tables_from form path k (items_view (drop k vs)) found ≡ all → all ≡ Err (BadValue at_k)
tables_from_other form path k vs v at_k found all within at other place so_far =
    rw place (sym
    (rw (
      items_view-drop vs k v within,
      ← at,
      at_other form path k (view v) (items_view (drop (k + 1) vs)) found other,
    ) at so_far))
