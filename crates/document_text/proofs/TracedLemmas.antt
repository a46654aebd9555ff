-- A document with a trace, read part by part.
use Rattle.std.proofs.Common.{◌≡◌, ℕ, ◌+◌, ◌≤◌, List, length, Option, Some, None}
use Rattle.std.proofs.Common.{Ok, refl, sym, ap, subst, ◌∙◌, inl, inr, ◌⊎◌, arith}
use Rattle.std.specs.Prelude.{Result, Err, option_map, option_and_then, unwrap_or}
use Rattle.cm_document.proofs.LineLemmas.{raw_lines_within}
use Rattle.cm_document.specs.Document.{accepted_description, accepted_script, document_of}
use Rattle.cm_document.specs.Grammars.{whole_grammar}
use Rattle.cm_document.specs.Lines.{raw_lines, parts_of}
use Rattle.cm_document.specs.Reading.{◌>>=◌, fault_as}
use Rattle.cm_document.specs.declared.description.Description.{Description}
use Rattle.cm_document.specs.declared.document.Document.{Document}
use Rattle.cm_document.specs.declared.faults.DocumentFault.{DocumentFault}
use Rattle.cm_document.specs.declared.faults.DocumentFault.TheVariants as fault
use Rattle.cm_document.specs.declared.faults.ScriptFault.TheVariants.{BadLine}
use Rattle.cm_document.specs.declared.script.Script.{Script}
use Rattle.document_text.specs.Parts.{Divides, DividesTwice}
use Rattle.document_text.specs.Traced.{Cut, Given, behind_of, is_trace_separator, trace_in, traced}
use Rattle.document_text.specs.Traced.{with_trace, without_trace}

-- the reading of a description, and of a script behind so many lines
abbrev pub described_by : List ℕ → Result Description DocumentFault
described_by text = fault_as fault.Description (accepted_description text)

abbrev pub said_by : ℕ → Option (List ℕ) → Result Script DocumentFault
said_by lines script = fault_as fault.Script (accepted_script whole_grammar lines script)

abbrev joined_parts : Result Description DocumentFault → Result Script DocumentFault → Result Document DocumentFault
joined_parts described said =
    described >>= λ description. said >>= λ script. Ok (record { description = description; script = script })

-- a document of these readings, with its trace, in so many lines
abbrev whole_of : Result Description DocumentFault → Result Script DocumentFault → Option (List ℕ) → ℕ
    → Result Given DocumentFault
whole_of described said trace lines = joined_parts described said >>= λ d. with_trace lines trace d

traced_parts : (bytes : List ℕ)
    → traced bytes
    ≡ whole_of (described_by (parts_of bytes).description)
    (said_by (parts_of bytes).lines (without_trace (parts_of bytes)).script) (trace_in (parts_of bytes))
    (length (raw_lines bytes))
unfolding traced document_of
traced_parts bytes = refl

module _ (bytes description : List ℕ) (lines : ℕ) (script trace : Option (List ℕ)) (all : ℕ)
    (divides : DividesTwice bytes description lines script trace all) where
  -- its parts are those that it was divided into
  divided : traced bytes ≡ whole_of (described_by description) (said_by lines script) trace (length (raw_lines bytes))
  divided =
      let n = length (raw_lines bytes) in
      let parts = parts_of bytes in
      traced_parts bytes
      ∙ ap (λ (text : List ℕ). whole_of (described_by text) (said_by parts.lines (without_trace parts).script)
      (trace_in parts) n) (sym divides.description_is)
      ∙ ap (λ (count : ℕ). whole_of (described_by description) (said_by count (without_trace parts).script)
      (trace_in parts) n) (sym divides.lines_are)
      ∙ ap (λ (text : Option (List ℕ)). whole_of (described_by description) (said_by lines text) (trace_in parts) n)
      (sym divides.script_is)
      ∙ ap (λ (text : Option (List ℕ)). whole_of (described_by description) (said_by lines script) text n)
      (sym divides.trace_is)

  -- the readings of its parts make the document
  read_parts : (d : Description) (s : Script) → described_by description ≡ Ok d → said_by lines script ≡ Ok s
      → traced bytes ≡ with_trace (length (raw_lines bytes)) trace (record { description = d; script = s })
  read_parts d s described said =
      divided ∙ ap
      (λ (reading : Result Description DocumentFault). whole_of reading (said_by lines script) trace
      (length (raw_lines bytes))) described
      ∙ ap (λ (reading : Result Script DocumentFault). whole_of (Ok d) reading trace (length (raw_lines bytes))) said

  pub traced_whole : (d : Description) (s : Script) (text : List ℕ) → described_by description ≡ Ok d
      → said_by lines script ≡ Ok s → trace ≡ Some text
      → traced bytes ≡ Ok (record { document = record { description = d; script = s }; trace = text })
  traced_whole d s text described said there =
      read_parts d s described said
      ∙ ap (λ (o : Option (List ℕ)). with_trace (length (raw_lines bytes)) o (record { description = d; script = s }))
      there

  -- without a trace the line behind the last is bad
  abbrev missing_behind : ℕ → Result Given DocumentFault
  missing_behind lines = Err (fault.Script (BadLine (lines + 1)))

  pub traced_without : (d : Description) (s : Script) → described_by description ≡ Ok d → said_by lines script ≡ Ok s
      → trace ≡ None
      → traced bytes ≡ Err (fault.Script (BadLine (all + 1)))
  traced_without d s described said none =
      let counted = divides.counted none in
      read_parts d s described said
      ∙ ap (λ (o : Option (List ℕ)). with_trace (length (raw_lines bytes)) o (record { description = d; script = s }))
      none
      ∙ ap missing_behind (sym counted)

  -- the description's fault comes first, and then the script's
  pub traced_description : (f : DocumentFault) → (f ≡ fault.Memory) ⊎ (described_by description ≡ Err f)
      → (f ≡ fault.Memory → ⊥) → traced bytes ≡ Err f
  traced_description f (inl memory) other = absurd (other memory)
  traced_description f (inr refused) other =
      divided ∙ ap
      (λ (reading : Result Description DocumentFault). whole_of reading (said_by lines script) trace
      (length (raw_lines bytes))) refused

  pub traced_script : (d : Description) (f : DocumentFault) → described_by description ≡ Ok d
      → (f ≡ fault.Memory) ⊎ (said_by lines script ≡ Err f) → (f ≡ fault.Memory → ⊥) → traced bytes ≡ Err f
  traced_script d f described (inl memory) other = absurd (other memory)
  traced_script d f described (inr refused) other =
      divided ∙ ap
      (λ (reading : Result Description DocumentFault). whole_of reading (said_by lines script) trace
      (length (raw_lines bytes))) described
      ∙ ap (λ (reading : Result Script DocumentFault). whole_of (Ok d) reading trace (length (raw_lines bytes))) refused

-- a trace that is there is within what all of it is within
pub trace_within : (n : ℕ) (o : Option (List ℕ)) (text : List ℕ) → o ≡ Some text → unwrap_or (option_map length o) 0 ≤ n
    → length text ≤ n
trace_within n o text there fits = subst (λ (o : Option (List ℕ)). unwrap_or (option_map length o) 0 ≤ n) there fits

-- ---- Divided at both separators

pub divides_behind : (bytes description text script : List ℕ) (lines behind : ℕ) (trace : Option (List ℕ))
    → description ≡ (parts_of bytes).description → lines ≡ (parts_of bytes).lines
    → Some text ≡ (parts_of bytes).script → lines + length text ≤ length bytes
    → length (raw_lines bytes) ≡ lines + (1 + length (raw_lines text))
    → Divides is_trace_separator text script behind trace
    → DividesTwice bytes description lines (Some script) trace (lines + 1 + behind)
unfolding behind_of
divides_behind bytes description text script lines behind trace described lined there sized counted divides = record {
  description_is = described;
  lines_are = lined;
  script_is = ap (λ (cut : Cut). Some cut.before) (sym divides.cut)
      ∙ ap (λ (o : Option (List ℕ)). option_map (λ t. (behind_of t).before) o) there;
  trace_is = ap (λ (cut : Cut). cut.behind) (sym divides.cut)
      ∙ ap (λ (o : Option (List ℕ)). option_and_then (λ t. (behind_of t).behind) o) there;
  counted = λ none.
      let all = subst
      (λ (o : Option (List ℕ)). length (raw_lines text)
      ≡ behind + unwrap_or (option_map (λ t. 1 + length (raw_lines t)) o) 0) none divides.counted in
      omega (arith, all, counted);
  fits = omega (arith, sized, divides.fits);
  trace_fits = omega (arith, sized, divides.fits);
  few = let within = raw_lines_within bytes in omega (arith, within, counted, divides.counted);
}

pub divides_none : (bytes description : List ℕ) (lines : ℕ) → description ≡ (parts_of bytes).description
    → lines ≡ (parts_of bytes).lines → None ≡ (parts_of bytes).script → lines ≤ length bytes
    → length (raw_lines bytes) ≡ lines → DividesTwice bytes description lines None None lines
divides_none bytes description lines described lined there within counted = record {
  description_is = described;
  lines_are = lined;
  script_is = ap (λ (o : Option (List ℕ)). option_map (λ t. (behind_of t).before) o) there;
  trace_is = ap (λ (o : Option (List ℕ)). option_and_then (λ t. (behind_of t).behind) o) there;
  counted = λ none. sym counted;
  fits = omega (arith, within);
  trace_fits = omega arith;
  few = within;
}
