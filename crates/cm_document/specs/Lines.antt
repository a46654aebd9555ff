-- The lines of a document, the separator, and the words of a line.
use Rattle.std.specs.Prelude.{ℕ, ◌+◌, Bool, true, false, not, ◌||◌, ◌==◌, if◌then◌else◌, List, [], ◌∷◌, ◌++◌, length}
use Rattle.std.specs.Prelude.{filter, codes, Option, Some, None, nat_eq}
use Rattle.std.specs.List.{onto_first, slice_split}
use Rattle.std.specs.Cmp.Lexicographic.{pointwise}

-- The lines of a text, each with its line feed, which the last may lack. After the last line feed no empty line stands.
abbrev pub raw_lines : List ℕ → List (List ℕ)
raw_lines [] = []
raw_lines (b ∷ bs) = if b == 10 then (b ∷ []) ∷ raw_lines bs else onto_first b (raw_lines bs)

-- the text without this byte at its end, if it stands there
abbrev pub without_last : ℕ → List ℕ → List ℕ
without_last end [] = []
without_last end (b ∷ []) = if b == end then [] else b ∷ []
without_last end (b ∷ c ∷ bs) = b ∷ without_last end (c ∷ bs)

-- a line without its line feed and without a carriage return before it
abbrev pub bare : List ℕ → List ℕ
bare line = without_last 13 (without_last 10 line)

-- the line between the description and the script
abbrev pub is_separator : List ℕ → Bool
is_separator line = pointwise nat_eq (bare line) (codes "--- script ---")

-- The parts of a document: the bytes before the separator, how many lines they are, and the bytes after it, where it
-- stands.
pub record Parts : Type 0 where
  pub description : List ℕ
  pub lines : ℕ
  pub script : Option (List ℕ)

-- the lines joined again
abbrev pub joined : List (List ℕ) → List ℕ
joined [] = []
joined (line ∷ lines) = line ++ joined lines

-- the parts of these lines: the first separator divides them
abbrev pub parts_of_lines : List (List ℕ) → Parts
parts_of_lines [] = record { description = []; lines = 0; script = None }
parts_of_lines (line ∷ lines) =
    if is_separator line then record { description = []; lines = 0; script = Some (joined lines) }
    else (let rest = parts_of_lines lines in record {
      description = line ++ rest.description;
      lines = rest.lines + 1;
      script = rest.script;
    })

-- the parts of a document
unfoldable pub parts_of : List ℕ → Parts
parts_of bytes = parts_of_lines (raw_lines bytes)

-- a space or a tab
abbrev pub is_blank : ℕ → Bool
is_blank b = b == 32 || b == 9

-- the words of a line: the parts between blanks that are not empty
abbrev pub words : List ℕ → List (List ℕ)
words text = filter (λ word. not (length word == 0)) (slice_split is_blank text)

-- a word that begins a comment
abbrev pub is_comment : List ℕ → Bool
is_comment [] = false
is_comment (b ∷ bs) = b == 35

-- A line without words, or whose first word begins with `#`, is skipped and has no fault.
abbrev pub is_skipped : List (List ℕ) → Bool
is_skipped [] = true
is_skipped (word ∷ _) = is_comment word
