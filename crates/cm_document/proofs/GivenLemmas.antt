-- What holds of all that is read: of a key's value, of a table, of each table of a list.
use Rattle.std.proofs.Common.{ℕ, ◌+◌, List, [], ◌∷◌, ◌++◌, Option, Some, None, Result, Ok, Err}
use Rattle.std.specs.Prelude.{IfOk}
use Rattle.std.specs.List.{AllByRecursion}
use Rattle.toml.specs.Data.{Data, array, table, Items, no_items, item, Members, get_member}
use Rattle.cm_document.specs.Reading.{◌>>=◌}
use Rattle.cm_document.specs.Forms.{Form, item_path, inside, tables_from, array_read, tables_of}
use Rattle.cm_document.specs.Tables.{Table, required, required_read, defaulted, defaulted_read, walk}
use Rattle.cm_document.specs.declared.faults.DescFault.{DescFault}
use Rattle.sequence.proofs.ListLemmas.{all_append}
use Rattle.cm_document.proofs.ReadingLemmas.{bind_keeps}

-- how a value or a table is read at its path
abbrev pub Reads : Type 0 → Type 0 → Type 0
Reads D A = List ℕ → D → Result A DescFault

-- whatever is read so has the property
pub record Gives {D A : Type 0} (reads : Reads D A) (P : A → Type 0) : Type 0 where
  pub given : (path : List ℕ) (d : D) → IfOk (reads path d) P

-- ---- A table, key by key

-- of what is read, nothing need be known
pub anything : {A E : Type 0} (r : Result A E) → IfOk r (λ _. Unit {0})
anything (Ok x) = tt
anything (Err e) = tt

-- a table without keys gives what it is filled with
pub filled_gives : {D A : Type 0} (x : A) (P : A → Type 0) → P x → Gives {D = D} (λ prefix ms. Ok x) P
filled_gives x P holds = record { given = λ prefix ms. holds }

-- the next key of a table, of whose value something is known
pub next_key : {D A B : Type 0} (before : Reads D (A → B)) (next : Reads D A) (Q : A → Type 0) (P : B → Type 0)
    → Gives before (λ make. (x : A) → Q x → P (make x)) → Gives next Q
    → Gives (λ prefix ms. before prefix ms >>= λ make. next prefix ms >>= λ x. Ok (make x)) P
next_key before next Q P b n = record {
  given = λ prefix ms. bind_keeps (λ make. (x : _) → Q x → P (make x)) P (before prefix ms) _ (b.given prefix ms)
      (λ make makes. bind_keeps Q P (next prefix ms) _ (n.given prefix ms) makes);
}

-- the next key of a table, whatever stands there
pub any_key : {D A B : Type 0} (before : Reads D (A → B)) (next : Reads D A) (P : B → Type 0)
    → Gives before (λ make. (x : A) → P (make x))
    → Gives (λ prefix ms. before prefix ms >>= λ make. next prefix ms >>= λ x. Ok (make x)) P
any_key before next P b = record {
  given = λ prefix ms. bind_keeps (λ make. (x : _) → P (make x)) P (before prefix ms) _ (b.given prefix ms)
      (λ make makes. bind_keeps (λ _. Unit {0}) P (next prefix ms) _ (anything _) (λ x _. makes x));
}

-- a value that must be there has what its form gives
required_keeps : {A : Type 0} (form : Form Data A) (P : A → Type 0) → Gives form.read P
    → (path : List ℕ) (there : Option Data) → IfOk (required_read form path there) P
required_keeps form P gives path None = tt
required_keeps form P gives path (Some d) = gives.given path d

-- a required key gives what its form does
pub required_gives : {A : Type 0} (key : List ℕ) (form : Form Data A) (P : A → Type 0) → Gives form.read P
    → Gives (required key form).form.read P
required_gives key form P gives =
    record { given = λ prefix ms. required_keeps form P gives (prefix ++ key) (get_member key ms) }

-- a value that may be missing has what its form gives, and so must the default
defaulted_keeps : {A : Type 0} (form : Form Data A) (default : A) (P : A → Type 0) → Gives form.read P → P default
    → (path : List ℕ) (there : Option Data)
    → IfOk (defaulted_read form default path there) P
defaulted_keeps form default P gives holds path None = holds
defaulted_keeps form default P gives holds path (Some d) = gives.given path d

-- a key that may be missing gives what its form does, or the default
pub defaulted_gives : {A : Type 0} (key : List ℕ) (form : Form Data A) (default : A) (P : A → Type 0)
    → Gives form.read P → P default
    → Gives (defaulted key form default).form.read P
defaulted_gives key form default P gives holds =
    record { given = λ prefix ms. defaulted_keeps form default P gives holds (prefix ++ key) (get_member key ms) }

-- a walk gives what its table does
pub walk_gives : {A : Type 0} (t : Table A) (P : A → Type 0) → Gives t.form.read P → Gives (walk t).read P
walk_gives t P gives =
    record { given = λ prefix ms. bind_keeps (λ _. Unit {0}) P _ _ (anything _) (λ _ _. gives.given prefix ms) }

-- ---- Lists of tables

-- tables read after others have what those have
tables_keep : {A : Type 0} (form : Form Members A) (P : A → Type 0) → Gives form.read P
    → (path : List ℕ) (k : ℕ) (ds : Items) (found : List A)
    → AllByRecursion P found → IfOk (tables_from form path k ds found) (AllByRecursion P)
tables_keep form P gives path k no_items found all = all
tables_keep form P gives path k (item (table ms) ds) found all =
    bind_keeps P (AllByRecursion P) (form.read (inside (item_path path k)) ms) _ (gives.given _ ms)
    (λ x holds. tables_keep form P gives path (k + 1) ds (found ++ x ∷ [])
    (all_append P found (x ∷ []) all (holds, tt)))
tables_keep form P gives path k (item _ ds) found all = tt

-- so have all tables of a list
array_keeps : {A : Type 0} (form : Form Members A) (P : A → Type 0) → Gives form.read P → (path : List ℕ) (d : Data)
    → IfOk (array_read form path d) (AllByRecursion P)
array_keeps form P gives path (array ds) = tables_keep form P gives path 0 ds [] tt
array_keeps form P gives path _ = tt

-- what the form of a table gives holds of each table of a list
pub tables_give : {A : Type 0} (form : Form Members A) (P : A → Type 0) → Gives form.read P
    → Gives (tables_of form).read (AllByRecursion P)
tables_give form P gives = record { given = array_keeps form P gives }
