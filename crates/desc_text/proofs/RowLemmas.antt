-- A table of rows: what stands at a key, no key without a row, and how deep it is.
use Rattle.std.proofs.Common.{◌≡◌, ℕ, ◌≤◌, cond, ◌||◌, not, Bool, true, false, List, [], ◌∷◌, length, ◌==◌}
use Rattle.std.proofs.Common.{Option, Some, None, Ordering, Less, Equal, Greater, String, Global, string_bytes}
use Rattle.std.proofs.Common.{nat_cmp, is_eq, is_some, refl, sym, ap, ◌∙◌, ◌⊎◌, inl, inr, arith}
use Rattle.std.specs.BTreeMap.{insert_entry}
use Rattle.std.specs.Cmp.Lexicographic.{slice_cmp}
use Rattle.std.specs.List.{AllByRecursion, list_any, list_all}
use Rattle.std.specs.Ordering.{match_ordering, ordering_reverse}
use Rattle.std.specs.String.{string_cmp}
use Rattle.std.proofs.lemmas.Bool.{and_parts, cases_Bool}
use Rattle.std.proofs.lemmas.Cmp.{nat_list_cmp_total}
use Rattle.toml.specs.Data.{Data, array, Members, no_members, member, get_member, same_key, depth, members_depth}
use Rattle.toml.specs.View.{view, items_view, members_view}
use Rattle.toml.specs.declared.value.Value.{Value}
use Rattle.toml.proofs.Views.{Entry}
use Rattle.cm_document.specs.Tables.{unlisted}
use Rattle.desc_text.specs.Printed.{if_items, with_member, Row, with_row, with_rows, table_of}

-- ---- A value is put in

-- the members of what an ordering chooses
members_of_choice : (o : Ordering) (a b c : List Entry)
    → members_view (match_ordering o a b c) ≡ match_ordering o (members_view a) (members_view b) (members_view c)
members_of_choice Less a b c = refl
members_of_choice Equal a b c = refl
members_of_choice Greater a b c = refl

-- the members of a table into which a value is put
pub members_of_insert : (es : List Entry) (k : String Global) (v : Value)
    → members_view (insert_entry string_cmp es k v) ≡ with_member (string_bytes k) (view v) (members_view es)
members_of_insert [] k v = refl
members_of_insert (e ∷ es) k v = members_of_choice (string_cmp k e.0) _ _ _ ∙ rw (members_of_insert es k v)

-- items of which there are some
pub some_items : (vs : List Value) (count : ℕ) → count ≡ length vs → (count == 0) ≡ false
    → if_items (items_view vs) ≡ Some (array (items_view vs))
some_items [] count same some = (let none = rw same at some in cc)
some_items (v ∷ vs) count same some = refl

-- ---- What stands at a key

-- an ordering is one of three
cases_ordering : (o : Ordering) → (o ≡ Less) ⊎ ((o ≡ Equal) ⊎ (o ≡ Greater))
cases_ordering Less = inl refl
cases_ordering Equal = inr (inl refl)
cases_ordering Greater = inr (inr refl)

-- what is found at a tie, and else further on
at_tie : (o : Ordering) (found : Data) (further : Option Data)
    → match_ordering o further (Some found) further ≡ cond (is_eq o) (Some found) further
at_tie Less found further = refl
at_tie Equal found further = refl
at_tie Greater found further = refl

-- a value that took the place of another
in_place : (o : Ordering) (found before : Data) (further : Option Data)
    → match_ordering o further (Some found) further
    ≡ cond (is_eq o) (Some found) (match_ordering o further (Some before) further)
in_place Less found before further = refl
in_place Equal found before further = refl
in_place Greater found before further = refl

-- a key beside two that are one
beside_one : (k key other : List ℕ) → slice_cmp nat_cmp key other ≡ Equal
    → slice_cmp nat_cmp k key ≡ slice_cmp nat_cmp k other
beside_one k key other e =
    nat_list_cmp_total.antisymm k key ∙ ap ordering_reverse (nat_list_cmp_total.congr key other k e)
    ∙ sym (nat_list_cmp_total.antisymm k other)

-- a key that is another is not the one above it
is_no_other : (k key other : List ℕ) → slice_cmp nat_cmp key other ≡ Greater → slice_cmp nat_cmp k other ≡ Equal
    → slice_cmp nat_cmp k key ≡ Less
is_no_other k key other above e =
    nat_list_cmp_total.congr k other key e ∙ nat_list_cmp_total.antisymm other key ∙ ap ordering_reverse above

-- where one value stands further on
further_on : (o here : Ordering) (found before : Data) (further : Option Data) → (o ≡ Equal → here ≡ Less)
    → match_ordering o (cond (is_eq here) (Some found) further) (Some before) (cond (is_eq here) (Some found) further)
    ≡ cond (is_eq here) (Some found) (match_ordering o further (Some before) further)
further_on Less here found before further apart = refl
further_on Equal here found before further apart = rw (apart refl)
further_on Greater here found before further apart = refl

-- after a value is put in at a key it stands there, and all else as before
pub at_key : (k key : List ℕ) (d : Data) (ms : Members)
    → get_member k (with_member key d ms) ≡ cond (same_key k key) (Some d) (get_member k ms)
at_key k key d no_members = at_tie (slice_cmp nat_cmp k key) d None
at_key k key d (member other e ms) =
    elim (cases_ordering (slice_cmp nat_cmp key other)) [
      | inl below ↦ rw below (at_tie (slice_cmp nat_cmp k key) d (get_member k (member other e ms)))
      | inr (inl tie) ↦ rw (tie, beside_one k key other tie)
          (in_place (slice_cmp nat_cmp k other) d e (get_member k ms))
      | inr (inr above) ↦
          rw (above, at_key k key d ms)
          (further_on (slice_cmp nat_cmp k other) (slice_cmp nat_cmp k key) d e (get_member k ms)
          (is_no_other k key other above))
    ]

-- a row over what stood before
abbrev pub over : Option Data → Option Data → Option Data
over None o = o
over (Some d) None = Some d
over (Some d) (Some e) = Some e

-- what stands at a key after these rows
abbrev pub value_at : List ℕ → List Row → Option Data → Option Data
value_at k [] before = before
value_at k (row ∷ rows) before = value_at k rows (cond (same_key k row.0) (over before row.1) before)

-- a row without a value changes nothing
nothing_over : (b : Bool) (before : Option Data) → before ≡ cond b (over before None) before
nothing_over true None = refl
nothing_over true (Some d) = refl
nothing_over false before = refl

-- one with a value is it
value_over : (b : Bool) (d : Data) (before : Option Data)
    → cond b (Some d) before ≡ cond b (over before (Some d)) before
value_over true d None = refl
value_over true d (Some e) = refl
value_over false d before = refl

-- what one row makes of a key
row_at : (k key : List ℕ) (there : Option Data) (ms : Members)
    → get_member k (with_row (key, there) ms) ≡ cond (same_key k key) (over (get_member k ms) there) (get_member k ms)
row_at k key None ms = nothing_over (same_key k key) (get_member k ms)
row_at k key (Some d) ms = at_key k key d ms ∙ value_over (same_key k key) d (get_member k ms)

-- what stands at a key after these rows are put in
rows_at : (k : List ℕ) (rows : List Row) (ms : Members)
    → get_member k (with_rows rows ms) ≡ value_at k rows (get_member k ms)
rows_at k [] ms = refl
rows_at k (row ∷ rows) ms = rows_at k rows (with_row row ms) ∙ ap (value_at k rows) (row_at k row.0 row.1 ms)

-- what stands at a key of a table of rows
pub table_at : (k : List ℕ) (rows : List Row) → get_member k (table_of rows) ≡ value_at k rows None
table_at k rows = rows_at k rows no_members

-- ---- No other key

-- the key of a row is listed, or nothing stands there
abbrev pub is_listed_row : List (List ℕ) → Row → Bool
is_listed_row keys row = list_any (same_key row.0) keys || not (is_some row.1)

-- a listed key more is no unlisted one
listed_key : (keys : List (List ℕ)) (key : List ℕ) (d : Data) (ms : Members) → list_any (same_key key) keys ≡ true
    → unlisted keys ms ≡ []
    → unlisted keys (with_member key d ms) ≡ []
listed_key keys key d no_members is none = rw is refl
listed_key keys key d (member other e ms) is none =
    elim (cases_Bool (list_any (same_key other) keys)) [
      | inl known ↦
          (let rest : unlisted keys ms ≡ [] = rw known at none in
          elim (cases_ordering (slice_cmp nat_cmp key other)) [
            | inl below ↦ rw (below, is, known) rest
            | inr (inl tie) ↦ rw (tie, known) rest
            | inr (inr above) ↦ rw (above, known) (listed_key keys key d ms is rest)
          ])
      | inr other_key ↦ (let wrong = rw other_key at none in cc)
    ]

without_false : (b : Bool) → (b || false) ≡ true → b ≡ true
without_false true e = refl
without_false false e = e

-- so does a listed row
listed_row : (keys : List (List ℕ)) (key : List ℕ) (there : Option Data) (ms : Members)
    → is_listed_row keys (key, there) ≡ true → unlisted keys ms ≡ []
    → unlisted keys (with_row (key, there) ms) ≡ []
listed_row keys key None ms is none = none
listed_row keys key (Some d) ms is none =
    listed_key keys key d ms (without_false (list_any (same_key key) keys) is) none

-- so do listed rows
listed_rows : (keys : List (List ℕ)) (rows : List Row) (ms : Members) → list_all (is_listed_row keys) rows ≡ true
    → unlisted keys ms ≡ []
    → unlisted keys (with_rows rows ms) ≡ []
listed_rows keys [] ms are none = none
listed_rows keys (row ∷ rows) ms are none =
    let both = and_parts (is_listed_row keys row) (list_all (is_listed_row keys) rows) are in
    listed_rows keys rows (with_row row ms) both.1 (listed_row keys row.0 row.1 ms both.0 none)

-- a table of listed rows has no unlisted key
pub none_besides : (keys : List (List ℕ)) (rows : List Row) → list_all (is_listed_row keys) rows ≡ true
    → unlisted keys (table_of rows) ≡ []
none_besides keys rows are = listed_rows keys rows no_members are refl

-- ---- Depth

-- what stands there, if anything does, is no deeper
abbrev pub RowIsWithin : ℕ → Row → Type 0
RowIsWithin n (key, None) = Unit {0}
RowIsWithin n (key, Some d) = depth d ≤ n

-- a value is put in
member_within : (n : ℕ) (key : List ℕ) (d : Data) (ms : Members) → depth d ≤ n → members_depth ms ≤ n
    → members_depth (with_member key d ms) ≤ n
member_within n key d no_members here all = omega (arith, here)
member_within n key d (member other e ms) here all =
    elim (cases_ordering (slice_cmp nat_cmp key other)) [
      | inl below ↦ rw below (omega (arith, here, all))
      | inr (inl tie) ↦ rw tie (omega (arith, here, all))
      | inr (inr above) ↦ rw above
          (let rest = member_within n key d ms here (omega (arith, all)) in omega (arith, rest, all))
    ]

row_within : (n : ℕ) (row : Row) (ms : Members) → RowIsWithin n row → members_depth ms ≤ n
    → members_depth (with_row row ms) ≤ n
row_within n (key, None) ms here all = all
row_within n (key, Some d) ms here all = member_within n key d ms here all

rows_within : (n : ℕ) (rows : List Row) (ms : Members) → AllByRecursion (RowIsWithin n) rows → members_depth ms ≤ n
    → members_depth (with_rows rows ms) ≤ n
rows_within n [] ms each all = all
rows_within n (row ∷ rows) ms each all = rows_within n rows (with_row row ms) each.1 (row_within n row ms each.0 all)

-- a table is no deeper than its rows
pub table_within : (n : ℕ) (rows : List Row) → AllByRecursion (RowIsWithin n) rows → members_depth (table_of rows) ≤ n
table_within n rows each = rows_within n rows no_members each (omega arith)
