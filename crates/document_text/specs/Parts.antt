-- What dividing a document at its separators comes to.
use Rattle.std.specs.Prelude.{◌≡◌, ℕ, ◌+◌, ◌≤◌, Bool, List, length, Option, None, option_map, unwrap_or}
use Rattle.cm_document.specs.Lines.{parts_of, raw_lines}
use Rattle.document_text.specs.Traced.{cut_lines, trace_in, without_trace}

-- A text was divided at the first line that is this separator, into what is before it, of so many lines, and what is
-- behind it. No byte is counted twice, nor is a line.
pub record Divides (is : List ℕ → Bool) (text before : List ℕ) (lines : ℕ) (behind : Option (List ℕ)) : Type 0 where
  pub cut : cut_lines is (raw_lines text) ≡ record { before = before; lines = lines; behind = behind }
  pub fits : length before + unwrap_or (option_map length behind) 0 ≤ length text
  pub few : lines ≤ length before
  pub counted : length (raw_lines text) ≡ lines + unwrap_or (option_map (λ t. 1 + length (raw_lines t)) behind) 0

-- A document was divided into its description, of so many lines, its script and its trace; without a trace it has so
-- many lines in all.
pub record DividesTwice (bytes description : List ℕ) (lines : ℕ) (script trace : Option (List ℕ)) (all_lines : ℕ) :
    Type 0 where
  pub description_is : description ≡ (parts_of bytes).description
  pub lines_are : lines ≡ (parts_of bytes).lines
  pub script_is : script ≡ (without_trace (parts_of bytes)).script
  pub trace_is : trace ≡ trace_in (parts_of bytes)
  pub counted : trace ≡ None → all_lines ≡ length (raw_lines bytes)
  pub fits : lines + unwrap_or (option_map length script) 0 ≤ length bytes
  pub trace_fits : unwrap_or (option_map length trace) 0 ≤ length bytes
  pub few : all_lines ≤ length bytes
