-- The tables of a description: each as one table of its keys, in the order in which they are visited, with what each
-- key wants.
use Rattle.std.specs.Prelude.{ℕ, Bool, true, false, ◌&&◌, if◌then◌else◌, List, [], ◌∷◌, ◌++◌, length, map, ◌==◌, Option}
use Rattle.std.specs.Prelude.{Some, None, Result, Ok, Err}
use Rattle.std.specs.List.{list_any}
use Rattle.toml.specs.Data.{Data, Members, no_members, member, get_member, same_key}
use Rattle.cm_document.specs.Reading.{◌>>=◌}
use Rattle.cm_document.specs.Forms.{Form}
use Rattle.cm_document.specs.declared.faults.DescFault.{DescFault}
use Rattle.cm_document.specs.declared.faults.DescFault.TheVariants.{BadKey}

-- ---- What a table of keys says

-- The keys that a table may have, and the form of what stands at them. A key's path is the table's prefix with the key:
-- `name` in the table at `component[0].` stands at `component[0].name`.
pub record Table (A : Type 0) : Type 0 where
  pub keys : List (List ℕ)
  pub form : Form Members A

-- a table that has no keys yet
abbrev pub filled : {A : Type 0} → A → Table A
filled x = record { keys = []; form = record { read = λ prefix ms. Ok x; faults = λ prefix ms. []; fits = λ ms. true } }

-- the value of a required key: without it there is a bad key
abbrev pub required_read : {A : Type 0} → Form Data A → List ℕ → Option Data → Result A DescFault
required_read form path None = Err (BadKey path)
required_read form path (Some d) = form.read path d

-- its faults
abbrev pub required_faults : {A : Type 0} → Form Data A → List ℕ → Option Data → List DescFault
required_faults form path None = BadKey path ∷ []
required_faults form path (Some d) = form.faults path d

-- it is there, with a value of its form
abbrev pub required_fits : {A : Type 0} → Form Data A → Option Data → Bool
required_fits form None = false
required_fits form (Some d) = form.fits d

-- a required key
abbrev pub required : {A : Type 0} → List ℕ → Form Data A → Table A
required key form = record {
  keys = key ∷ [];
  form = record {
    read = λ prefix ms. required_read form (prefix ++ key) (get_member key ms);
    faults = λ prefix ms. required_faults form (prefix ++ key) (get_member key ms);
    fits = λ ms. required_fits form (get_member key ms);
  };
}

-- the value of a key that may be missing
abbrev pub defaulted_read : {A : Type 0} → Form Data A → A → List ℕ → Option Data → Result A DescFault
defaulted_read form default path None = Ok default
defaulted_read form default path (Some d) = form.read path d

-- its faults
abbrev pub defaulted_faults : {A : Type 0} → Form Data A → List ℕ → Option Data → List DescFault
defaulted_faults form path None = []
defaulted_faults form path (Some d) = form.faults path d

-- where it is there, it has a value of its form
abbrev pub defaulted_fits : {A : Type 0} → Form Data A → Option Data → Bool
defaulted_fits form None = true
defaulted_fits form (Some d) = form.fits d

-- a key that may be missing, and what stands in its place then
abbrev pub defaulted : {A : Type 0} → List ℕ → Form Data A → A → Table A
defaulted key form default = record {
  keys = key ∷ [];
  form = record {
    read = λ prefix ms. defaulted_read form default (prefix ++ key) (get_member key ms);
    faults = λ prefix ms. defaulted_faults form (prefix ++ key) (get_member key ms);
    fits = λ ms. defaulted_fits form (get_member key ms);
  };
}

infixl 15 ◌&◌
-- the next key of a table: it is visited after those before it
abbrev pub ◌&◌ : {A B : Type 0} → Table (A → B) → Table A → Table B
before & next = record {
  keys = before.keys ++ next.keys;
  form = record {
    read = λ prefix ms. before.form.read prefix ms >>= λ make. next.form.read prefix ms >>= λ x. Ok (make x);
    faults = λ prefix ms. before.form.faults prefix ms ++ next.form.faults prefix ms;
    fits = λ ms. before.form.fits ms && next.form.fits ms;
  };
}

-- ---- The walk of one table

-- the keys of a table that are not listed, least by bytes first: a tree keeps its keys in that order
abbrev pub unlisted : List (List ℕ) → Members → List (List ℕ)
unlisted keys no_members = []
unlisted keys (member key d ms) = if list_any (same_key key) keys then unlisted keys ms else key ∷ unlisted keys ms

-- no key but the listed ones: else the first of the others is a bad key
abbrev pub none_unlisted : List ℕ → List (List ℕ) → Result (Unit {0}) DescFault
none_unlisted prefix [] = Ok tt
none_unlisted prefix (key ∷ others) = Err (BadKey (prefix ++ key))

-- a table has first no key but the listed ones, and then at these, in their order, what each wants
abbrev pub walk : {A : Type 0} → Table A → Form Members A
walk t = record {
  read = λ prefix ms. none_unlisted prefix (unlisted t.keys ms) >>= λ _. t.form.read prefix ms;
  faults = λ prefix ms. map (λ key. BadKey (prefix ++ key)) (unlisted t.keys ms) ++ t.form.faults prefix ms;
  fits = λ ms. length (unlisted t.keys ms) == 0 && t.form.fits ms;
}
