-- Each form is sound: it reads a value exactly where nothing is wrong with it, and else tells the first of all faults.
use Rattle.std.proofs.Common.{◌≡◌, ℕ, ◌+◌, List, [], ◌∷◌, ◌++◌, length, map, take, Option, Some, None, Result}
use Rattle.std.proofs.Common.{Ok, Err, Bool, true, false, ◌&&◌, ◌==◌, refl, ◌⊎◌, inl, inr, is_ok, arith}
use Rattle.std.specs.Prelude.{cond, codes}
use Rattle.std.proofs.lemmas.Bool.Decides.{nat_tests}
use Rattle.toml.specs.Data.{Data, string, array, table, Items, no_items, item, Members, get_member, same_key}
use Rattle.iface_names.specs.declared.interface.IfaceName.{IfaceName}
use Rattle.cm_document.specs.Reading.{◌>>=◌}
use Rattle.cm_document.specs.Forms.{Form, placed, item_path, inside, fault_in, one, items_from, item_faults}
use Rattle.cm_document.specs.Forms.{items_fit, list_read, list_faults, list_fits, list_after, list_of, tables_from}
use Rattle.cm_document.specs.Forms.{tables_faults, tables_fit, array_read, array_faults, array_fits, tables_of}
use Rattle.cm_document.specs.Forms.{all_or_read, all_or_faults, all_or_fits, all_or_list, state_in}
use Rattle.cm_document.specs.Tables.{Table, filled, required_read, required_faults, required_fits}
use Rattle.cm_document.specs.Tables.{required, defaulted_read, defaulted_faults, defaulted_fits}
use Rattle.cm_document.specs.Tables.{defaulted, ◌&◌, unlisted, none_unlisted, walk}
use Rattle.cm_document.specs.declared.faults.Wrong.{Wrong}
use Rattle.cm_document.specs.declared.faults.DescFault.TheVariants.{BadKey, BadValue}

-- ---- A reading beside all faults

-- A reading tells of these faults and of this test: a value has no fault and passes, and a fault is the first and does
-- not pass.
abbrev pub Tells : {A E : Type 0} → Result A E → List E → Bool → Type 0
Tells (Ok x) faults fits = (faults ≡ []) × (fits ≡ true)
Tells {E = E} (Err e) faults fits = (others : List E) × (faults ≡ e ∷ others) × (fits ≡ false)

-- the fault of such a reading is the first of all
pub Tells-first : {A E : Type 0} (r : Result A E) (faults : List E) (fits : Bool) → Tells r faults fits
    → fault_in r ≡ take 1 faults
Tells-first (Ok x) faults fits told = rw told.0 refl
Tells-first (Err e) faults fits told = rw told.1 refl

-- it gives a value exactly where the test passes
pub Tells-fits : {A E : Type 0} (r : Result A E) (faults : List E) (fits : Bool) → Tells r faults fits → is_ok r ≡ fits
Tells-fits (Ok x) faults fits told = rw told.1 refl
Tells-fits (Err e) faults fits told = rw told.2 refl

-- a reading that goes on with another has the faults of both, and fits where both do
then-Tells : {A B E : Type 0} (r : Result A E) (faults more : List E) (fits further : Bool) (k : A → Result B E)
    → Tells r faults fits → ((x : A) → Tells (k x) more further) → Tells (r >>= k) (faults ++ more) (fits && further)
then-Tells (Ok x) faults more fits further k told next = rw (told.0, told.1) (next x)
then-Tells (Err e) faults more fits further k told next = (told.0 ++ more, rw told.1 refl, rw told.2 refl)

-- the value made into another has the same faults
made-Tells : {A B E : Type 0} (r : Result A E) (faults : List E) (fits : Bool) (f : A → B) → Tells r faults fits
    → Tells (r >>= λ x. Ok (f x)) faults fits
made-Tells (Ok x) faults fits f told = told
made-Tells (Err e) faults fits f told = told

-- a reading at its path tells of its own fault
placed-Tells : {A : Type 0} (path : List ℕ) (r : Result A Wrong)
    → Tells (placed path r) (fault_in (placed path r)) (is_ok r)
placed-Tells path (Ok x) = (refl, refl)
placed-Tells path (Err w) = ([], refl, refl)

-- a reading gives a value or a fault
cases_Result : {A E : Type 0} (r : Result A E) → ((x : A) × (r ≡ Ok x)) ⊎ ((e : E) × (r ≡ Err e))
cases_Result (Ok x) = inl (x, refl)
cases_Result (Err e) = inr (e, refl)

-- ---- Forms of a value

-- a form whose reading tells of its faults and of whether a value fits, at every path
pub record IsSound {D A : Type 0} (form : Form D A) : Type 0 where
  pub tells : (path : List ℕ) (d : D) → Tells (form.read path d) (form.faults path d) (form.fits d)

-- one value
pub one-IsSound : {A : Type 0} (rule : Data → Result A Wrong) → IsSound (one rule)
one-IsSound rule = record { tells = λ path d. placed-Tells path (rule d) }

items-Tells : {A : Type 0} (rule : List A → Data → Result A Wrong) (path : List ℕ) (k : ℕ) (ds : Items) (found : List A)
    → Tells (items_from rule path k ds found) (item_faults rule path k ds found) (items_fit rule ds found)
items-Tells rule path k no_items found = (refl, refl)
items-Tells rule path k (item d ds) found = elim (cases_Result (rule found d)) [
  | inl (x, e) ↦ rw (e, items_from, item_faults, items_fit) (items-Tells rule path (k + 1) ds (found ++ x ∷ []))
  | inr (w, e) ↦ rw (e, items_from, item_faults, items_fit) (item_faults rule path (k + 1) ds found, refl, refl)
]

list-Tells : {A : Type 0} (rule : List A → Data → Result A Wrong) (path : List ℕ) (d : Data)
    → Tells (list_read rule path d) (list_faults rule path d) (list_fits rule d)
list-Tells rule path (array ds) = items-Tells rule path 0 ds []
list-Tells rule path _ = ([], refl, refl)

-- a list whose items may look at those before them
pub list_after-IsSound : {A : Type 0} (rule : List A → Data → Result A Wrong) → IsSound (list_after rule)
list_after-IsSound rule = record { tells = list-Tells rule }

-- a list
pub list_of-IsSound : {A : Type 0} (rule : Data → Result A Wrong) → IsSound (list_of rule)
list_of-IsSound rule = list_after-IsSound (λ found. rule)

tables-Tells : {A : Type 0} (form : Form Members A) → IsSound form
    → (path : List ℕ) (k : ℕ) (ds : Items) (found : List A)
    → Tells (tables_from form path k ds found) (tables_faults form path k ds) (tables_fit form ds)
tables-Tells form sound path k no_items found = (refl, refl)
tables-Tells form sound path k (item (table ms) ds) found =
    then-Tells (form.read (inside (item_path path k)) ms) _ _ _ _
    (λ x. tables_from form path (k + 1) ds (found ++ x ∷ []))
    (sound.tells (inside (item_path path k)) ms) (λ x. tables-Tells form sound path (k + 1) ds (found ++ x ∷ []))
tables-Tells form sound path k (item _ ds) found = (tables_faults form path (k + 1) ds, refl, refl)

array-Tells : {A : Type 0} (form : Form Members A) → IsSound form → (path : List ℕ) (d : Data)
    → Tells (array_read form path d) (array_faults form path d) (array_fits form d)
array-Tells form sound path (array ds) = tables-Tells form sound path 0 ds []
array-Tells form sound path _ = ([], refl, refl)

-- an array of tables of a sound form
pub tables_of-IsSound : {A : Type 0} {form : Form Members A} → IsSound form → IsSound (tables_of form)
tables_of-IsSound {form = form} sound = record { tells = array-Tells form sound }

all-Tells : (states : List IfaceName) (path : List ℕ) (b : Bool)
    → Tells (cond b (Ok states) (Err (BadValue path))) (cond b [] (BadValue path ∷ [])) b
all-Tells states path true = (refl, refl)
all-Tells states path false = ([], refl, refl)

all_or-Tells : (states : List IfaceName) (path : List ℕ) (d : Data)
    → Tells (all_or_read states path d) (all_or_faults path d) (all_or_fits d)
all_or-Tells states path (string text) = all-Tells states path (same_key text (codes "all"))
all_or-Tells states path d = list-Tells (λ found. state_in) path d

-- the text `all`, or a list
pub all_or_list-IsSound : (states : List IfaceName) → IsSound (all_or_list states)
all_or_list-IsSound states = record { tells = all_or-Tells states }

-- ---- Forms of a table

-- a table whose form is sound
pub record IsSoundTable {A : Type 0} (t : Table A) : Type 0 where
  pub tells : (prefix : List ℕ) (ms : Members)
      → Tells (t.form.read prefix ms) (t.form.faults prefix ms) (t.form.fits ms)

-- a table that has no keys yet
pub filled-IsSound : {A : Type 0} (x : A) → IsSoundTable (filled x)
filled-IsSound x = record { tells = λ prefix ms. (refl, refl) }

required-Tells : {A : Type 0} (form : Form Data A) → IsSound form → (path : List ℕ) (o : Option Data)
    → Tells (required_read form path o) (required_faults form path o) (required_fits form o)
required-Tells form sound path None = ([], refl, refl)
required-Tells form sound path (Some d) = sound.tells path d

-- a required key
pub required-IsSound : {A : Type 0} (key : List ℕ) {form : Form Data A} → IsSound form
    → IsSoundTable (required key form)
required-IsSound key {form = form} sound =
    record { tells = λ prefix ms. required-Tells form sound (prefix ++ key) (get_member key ms) }

defaulted-Tells : {A : Type 0} (form : Form Data A) (default : A) → IsSound form → (path : List ℕ) (o : Option Data)
    → Tells (defaulted_read form default path o) (defaulted_faults form path o) (defaulted_fits form o)
defaulted-Tells form default sound path None = (refl, refl)
defaulted-Tells form default sound path (Some d) = sound.tells path d

-- a key that may be missing
pub defaulted-IsSound : {A : Type 0} (key : List ℕ) {form : Form Data A} → IsSound form → (default : A)
    → IsSoundTable (defaulted key form default)
defaulted-IsSound key {form = form} sound default =
    record { tells = λ prefix ms. defaulted-Tells form default sound (prefix ++ key) (get_member key ms) }

-- the next key of a table
pub next-IsSound : {A B : Type 0} {before : Table (A → B)} {next : Table A} → IsSoundTable before → IsSoundTable next
    → IsSoundTable (before & next)
next-IsSound {before = before} {next = next} first second = record {
  tells = λ prefix ms. then-Tells (before.form.read prefix ms) _ _ _ _
      (λ make. next.form.read prefix ms >>= λ x. Ok (make x))
      (first.tells prefix ms) (λ make. made-Tells (next.form.read prefix ms) _ _ make (second.tells prefix ms));
}

unlisted-Tells : (prefix : List ℕ) (keys : List (List ℕ))
    → Tells (none_unlisted prefix keys) (map (λ key. BadKey (prefix ++ key)) keys) (length keys == 0)
unlisted-Tells prefix [] = (refl, refl)
unlisted-Tells prefix (key ∷ others) = (map (λ key. BadKey (prefix ++ key)) others, refl, grind (arith, nat_tests))

-- the walk of a table
pub walk-IsSound : {A : Type 0} {t : Table A} → IsSoundTable t → IsSound (walk t)
walk-IsSound {t = t} sound = record {
  tells = λ prefix ms. then-Tells (none_unlisted prefix (unlisted t.keys ms)) _ _ _ _ (λ _. t.form.read prefix ms)
      (unlisted-Tells prefix (unlisted t.keys ms)) (λ _. sound.tells prefix ms);
}

-- what tables are made of
pub ruleset sound_parts = (
  one-IsSound,
  list_after-IsSound,
  list_of-IsSound,
  tables_of-IsSound,
  all_or_list-IsSound,
  filled-IsSound,
  required-IsSound,
  defaulted-IsSound,
  next-IsSound,
  walk-IsSound,
)

-- A form that is chosen by a key's value is sound where each choice is: the fault of that key is then the only one.
pub chosen-Tells : {K A : Type 0} (rule : Data → Result K Wrong) (path short : List ℕ) (o : Option Data)
    (form : K → Form Members A)
    → ((kind : K) → IsSound (form kind)) → (prefix : List ℕ) (ms : Members)
    → Tells (required_read (one rule) path o >>= λ kind. (form kind).read prefix ms)
    (elim (required_read (one rule) path o) [ Ok kind ↦ (form kind).faults prefix ms | Err e ↦ e ∷ [] ])
    (elim (required_read (one rule) short o) [ Ok kind ↦ (form kind).fits ms | Err e ↦ false ])
chosen-Tells rule path short None form sound prefix ms = ([], refl, refl)
chosen-Tells rule path short (Some d) form sound prefix ms = elim (cases_Result (rule d)) [
  | inl (kind, e) ↦ rw e ((sound kind).tells prefix ms)
  | inr (w, e) ↦ rw e ([], refl, refl)
]
