-- Lemmas about keys, and about the tree of a text.
use Rattle.std.proofs.Common.{◌≡◌, ℕ, List, [], ◌∷◌, ◌++◌, true, false, Some, None, Ok, inl, inr}
use Rattle.std.specs.Prelude.{IsUtf8, codes}
use Rattle.std.specs.Str.{is_utf8}
use Rattle.std.proofs.lemmas.Bool.{cases_Bool}
use Rattle.std.proofs.lemmas.Str.{IsUtf8-from_is_utf8, is_utf8-from_IsUtf8}
use Rattle.toml.specs.Data.{Members, get_member}
use Rattle.toml.specs.Parse.{parse_document}
use Rattle.cm_document.specs.Described.{tree_of, component_key, controller_form, group_table, a_grouped}
use Rattle.cm_document.specs.Described.{a_description, described_states, top_table, states_of}
use Rattle.cm_document.specs.Forms.{one, tables_of, whole_in}
use Rattle.cm_document.specs.Reading.{◌>>=◌}
use Rattle.cm_document.specs.Tables.{none_unlisted, unlisted, required_read, defaulted_read, walk}
use Rattle.cm_document.specs.declared.description.CompDesc.{CompDesc}

-- the tree of a text that was parsed
pub tree_of_parsed : (text : List ℕ) (ms : Members) → IsUtf8 text → parse_document text ≡ Some ms
    → tree_of text ≡ Some ms
unfolding tree_of
tree_of_parsed text ms utf8 parsed = rw (is_utf8-from_IsUtf8 text utf8, parsed)

-- no tree where no UTF-8 text was parsed
pub tree_of_refused : (text : List ℕ) → (IsUtf8 text → parse_document text ≡ None) → tree_of text ≡ None
unfolding tree_of
tree_of_refused text refused =
    elim (cases_Bool (is_utf8 text)) [
      | inl utf8 ↦ rw (utf8, refused (IsUtf8-from_is_utf8 text utf8))
      | inr other ↦ rw other
    ]

-- the keys that the top table has in every version, in the order in which they are visited
abbrev pub top_keys : List (List ℕ)
top_keys = codes "version" ∷ codes "update_rate" ∷ codes "cycles" ∷ codes "component" ∷ codes "controller" ∷ []

-- In the first version the controllers are left where all before them was read; `shown` stands for the components whose
-- states are `all`.
pub first_read : (ms : Members) (version rate cycles : ℕ) (components shown : List CompDesc)
    → none_unlisted [] (unlisted top_keys ms) ≡ Ok tt
    → required_read (one whole_in) (codes "version") (get_member (codes "version") ms) ≡ Ok version
    → required_read (one whole_in) (codes "update_rate") (get_member (codes "update_rate") ms) ≡ Ok rate
    → required_read (one whole_in) (codes "cycles") (get_member (codes "cycles") ms) ≡ Ok cycles
    → component_key.form.read [] ms ≡ Ok components → shown ≡ components
    → (walk (top_table (described_states ms) false)).read [] ms
    ≡ (defaulted_read (tables_of (controller_form (states_of shown))) [] (codes "controller")
    (get_member (codes "controller") ms)
    >>= λ controllers. Ok (a_description version rate cycles components controllers))
unfolding described_states top_table
first_read ms version rate cycles components shown listed a b c d same =
    rw (same, listed, a, b, c, d, described_states, top_table)

-- In the second version the controllers are left, and the groups behind them.
pub second_read : (ms : Members) (version rate cycles : ℕ) (components shown : List CompDesc)
    → none_unlisted [] (unlisted (top_keys ++ codes "group" ∷ []) ms) ≡ Ok tt
    → required_read (one whole_in) (codes "version") (get_member (codes "version") ms) ≡ Ok version
    → required_read (one whole_in) (codes "update_rate") (get_member (codes "update_rate") ms) ≡ Ok rate
    → required_read (one whole_in) (codes "cycles") (get_member (codes "cycles") ms) ≡ Ok cycles
    → component_key.form.read [] ms ≡ Ok components → shown ≡ components
    → (walk (top_table (described_states ms) true)).read [] ms
    ≡ ((defaulted_read (tables_of (controller_form (states_of shown))) [] (codes "controller")
    (get_member (codes "controller") ms)
    >>= λ controllers. Ok (a_grouped version rate cycles components controllers))
    >>= λ make. defaulted_read (tables_of (walk group_table)) [] (codes "group") (get_member (codes "group") ms)
    >>= λ groups. Ok (make groups))
unfolding described_states top_table
second_read ms version rate cycles components shown listed a b c d same =
    rw (same, listed, a, b, c, d, described_states, top_table)
