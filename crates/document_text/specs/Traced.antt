-- Documents with a third part: behind the script stands a trace.
use Rattle.std.specs.Prelude.{ℕ, ◌+◌, Bool, if◌then◌else◌, List, [], ◌∷◌, ◌++◌, length, codes, nat_eq}
use Rattle.std.specs.Prelude.{Option, Some, None, option_map, option_and_then, Result, Ok, Err}
use Rattle.std.specs.Cmp.Lexicographic.{pointwise}
use Rattle.cm_document.specs.Document.{document_of}
use Rattle.cm_document.specs.Grammars.{whole_grammar}
use Rattle.cm_document.specs.Lines.{bare, is_separator, joined, raw_lines, Parts, parts_of}
use Rattle.cm_document.specs.Reading.{◌>>=◌}
use Rattle.cm_document.specs.declared.document.Document.{Document}
use Rattle.cm_document.specs.declared.faults.DocumentFault.{DocumentFault}
use Rattle.cm_document.specs.declared.faults.DocumentFault.TheVariants as fault
use Rattle.cm_document.specs.declared.faults.ScriptFault.TheVariants.{BadLine}
use Rattle.document_text.specs.declared.parts.Separator.{Separator}
use Rattle.document_text.specs.declared.parts.Separator.TheVariants as separator

-- the line between the script and the trace
abbrev pub is_trace_separator : List ℕ → Bool
is_trace_separator line = pointwise nat_eq (bare line) (codes "--- trace ---")

-- this line is the separator
abbrev pub separates : Separator → List ℕ → Bool
separates separator.Script = is_separator
separates separator.Trace = is_trace_separator

-- A text divided at a line: the bytes before it, how many lines they are, and the bytes behind it, if it stands.
pub record Cut : Type 0 where
  pub before : List ℕ
  pub lines : ℕ
  pub behind : Option (List ℕ)

-- these lines divided at the first that is a separator
abbrev pub cut_lines : (List ℕ → Bool) → List (List ℕ) → Cut
cut_lines is [] = record { before = []; lines = 0; behind = None }
cut_lines is (line ∷ lines) =
    if is line then record { before = []; lines = 0; behind = Some (joined lines) }
    else (let rest = cut_lines is lines in record {
      before = line ++ rest.before;
      lines = rest.lines + 1;
      behind = rest.behind;
    })

-- What stands behind the separator of a script, divided at the first separator of a trace: the script, and the trace.
unfoldable pub behind_of : List ℕ → Cut
behind_of text = cut_lines is_trace_separator (raw_lines text)

-- the parts of a document whose script ends before the trace
abbrev pub without_trace : Parts → Parts
without_trace parts = record parts { script = option_map (λ text. (behind_of text).before) parts.script }

-- the trace in these parts, if it stands
abbrev pub trace_in : Parts → Option (List ℕ)
trace_in parts = option_and_then (λ text. (behind_of text).behind) parts.script

-- What the bytes of a job without a book are accepted as: a document, and the trace behind its script; of a job that
-- reads no trace none.
pub record Given : Type 0 where
  pub document : Document
  pub trace : List ℕ

-- a document with its trace; without one the line behind the last of so many is bad
abbrev pub with_trace : ℕ → Option (List ℕ) → Document → Result Given DocumentFault
with_trace lines None d = Err (fault.Script (BadLine (lines + 1)))
with_trace lines (Some trace) d = Ok (record { document = d; trace = trace })

-- The document with its trace that these bytes are, or its first fault.
unfoldable pub traced : List ℕ → Result Given DocumentFault
traced bytes =
    document_of whole_grammar (without_trace (parts_of bytes)) >>= λ d.
    with_trace (length (raw_lines bytes)) (trace_in (parts_of bytes)) d
