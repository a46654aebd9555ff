-- A text divided line by line at the first that is a separator.
use Rattle.std.proofs.Common.{◌≡◌, ℕ, ◌+◌, ◌-◌, ◌<◌, ◌≤◌, Bool, true, false, List, [], ◌∷◌, ◌++◌, length, take, Some}
use Rattle.std.proofs.Common.{None, refl, sym, ap, ◌∙◌, arith, append_assoc, append-nil, add-zero, length-append}
use Rattle.std.proofs.Common.{Option, inl, inr}
use Rattle.std.proofs.lemmas.Bool.{cases_Bool}
use Rattle.std.specs.Prelude.{option_map, unwrap_or}
use Rattle.std.proofs.lemmas.List.{take_at}
use Rattle.cm_document.specs.Lines.{Parts, raw_lines, is_separator, parts_of_lines, parts_of}
use Rattle.cm_document.proofs.LineLemmas.{joined_raw_lines}
use Rattle.document_text.specs.Parts.{Divides}
use Rattle.document_text.specs.Traced.{Cut, cut_lines}

-- what is before a rest, and how that is cut
abbrev pub cut_after : List ℕ → ℕ → Cut → Cut
cut_after before lines rest =
    record { before = before ++ rest.before; lines = lines + rest.lines; behind = rest.behind }

module _ (is : List ℕ → Bool) where
  -- So many lines of the text were passed, none of them the separator, and this is left.
  pub record Passed (bytes : List ℕ) (lines : ℕ) (rest : List ℕ) : Type 0 where
    pub before : List ℕ
    pub whole : bytes ≡ before ++ rest
    pub few : lines ≤ length before
    pub counted : length (raw_lines bytes) ≡ lines + length (raw_lines rest)
    pub cut : cut_lines is (raw_lines bytes) ≡ cut_after before lines (cut_lines is (raw_lines rest))

  -- nothing was passed yet
  pub Passed_none : (bytes : List ℕ) → Passed bytes 0 bytes
  Passed_none bytes =
      let cut = cut_lines is (raw_lines bytes) in
      let none : 0 + cut.lines ≡ cut.lines = omega arith in
      record { before = []; whole = refl; few = omega arith; counted = omega arith; cut = rw none refl }

  -- a text whose first line is no separator
  cut_past : (line : List ℕ) (lines : List (List ℕ)) → is line ≡ false
      → cut_lines is (line ∷ lines) ≡ cut_after line 1 (cut_lines is lines)
  cut_past line lines other =
      let e : 1 + (cut_lines is lines).lines ≡ (cut_lines is lines).lines + 1 = omega arith in rw (other, e) refl

  -- two pieces before a rest are one
  cut_after_twice : (front line : List ℕ) (n : ℕ) (rest : Cut)
      → cut_after front n (cut_after line 1 rest) ≡ cut_after (front ++ line) (n + 1) rest
  cut_after_twice front line n rest =
      let e : n + (1 + rest.lines) ≡ n + 1 + rest.lines = omega arith in
      rw (e, append_assoc front line rest.before) refl

  -- a line that is no separator was passed
  pub Passed_more : (bytes : List ℕ) (lines : ℕ) (rest line more : List ℕ) → Passed bytes lines rest
      → raw_lines rest ≡ line ∷ raw_lines more → rest ≡ line ++ more → length more < length rest
      → is line ≡ false → Passed bytes (lines + 1) more
  Passed_more bytes lines rest line more p cut whole shorter other = record {
    before = p.before ++ line;
    whole = p.whole ∙ ap (λ r. p.before ++ r) whole ∙ sym (append_assoc p.before line more);
    few = omega (arith, p.few, length-append p.before line, length-append line more, ap length whole);
    counted = omega (arith, p.counted, ap (λ (l : List (List ℕ)). length l) cut);
    cut = p.cut ∙ ap (λ r. cut_after p.before lines (cut_lines is r)) cut
        ∙ ap (cut_after p.before lines) (cut_past line (raw_lines more) other)
        ∙ cut_after_twice p.before line lines (cut_lines is (raw_lines more));
  }

  -- the separator divides the text
  pub cut_at_separator : (bytes : List ℕ) (lines : ℕ) (rest line more : List ℕ) → Passed bytes lines rest
      → raw_lines rest ≡ line ∷ raw_lines more → rest ≡ line ++ more → is line ≡ true
      → Divides is bytes (take (length bytes - length rest) bytes) lines (Some more)
  cut_at_separator bytes lines rest line more p cut whole same =
      let size : length p.before ≡ length (p.before ++ rest) - length rest =
      omega (arith, length-append p.before rest) in
      let front : take (length bytes - length rest) bytes ≡ p.before =
      rw p.whole (take_at p.before rest (length (p.before ++ rest) - length rest) size) in
      rw front (record {
        cut = p.cut ∙ rw (cut, same, joined_raw_lines more) (rw (append-nil, add-zero) refl);
        fits = omega (arith, ap length p.whole, length-append p.before rest, ap length whole, length-append line more);
        few = p.few;
        counted = omega (arith, p.counted, ap (λ (l : List (List ℕ)). length l) cut);
      })

  -- a text without one is not divided
  pub cut_nowhere : (bytes : List ℕ) (lines : ℕ) (rest : List ℕ) → Passed bytes lines rest → length rest ≡ 0
      → Divides is bytes bytes lines None
  cut_nowhere bytes lines [] p none =
      let all : bytes ≡ p.before = p.whole ∙ append-nil p.before in
      record {
        cut = p.cut ∙ rw (all) (rw (append-nil, add-zero) refl);
        fits = omega arith;
        few = omega (arith, p.few, ap length all);
        counted = omega (arith, p.counted);
      }
  cut_nowhere bytes lines (b ∷ bs) p none = absurd (omega arith)

-- the parts of a document are what its separator divides
abbrev as_parts : Cut → Parts
as_parts cut = record { description = cut.before; lines = cut.lines; script = cut.behind }

parts_are_cut : (lines : List (List ℕ)) → parts_of_lines lines ≡ as_parts (cut_lines is_separator lines)
parts_are_cut [] = refl
parts_are_cut (line ∷ lines) = elim (cases_Bool (is_separator line)) [
  | inl same ↦ rw same refl
  | inr other ↦ rw (other, parts_are_cut lines) refl
]

pub divided : (bytes before : List ℕ) (lines : ℕ) (behind : Option (List ℕ))
    → Divides is_separator bytes before lines behind
    → parts_of bytes ≡ record { description = before; lines = lines; script = behind }
unfolding parts_of
divided bytes before lines behind divides = parts_are_cut (raw_lines bytes) ∙ ap as_parts divides.cut

-- the length of a text that may be there, and how many lines it has, seen either way
pub length_of : {A : Type 0} (view : A → List ℕ) (o : Option A)
    → unwrap_or (option_map length (option_map view o)) 0 ≡ unwrap_or (option_map (λ t. length (view t)) o) 0
length_of view None = refl
length_of view (Some t) = refl

pub lines_of : {A : Type 0} (view : A → List ℕ) (o : Option A)
    → unwrap_or (option_map (λ t. 1 + length (raw_lines t)) (option_map view o)) 0
    ≡ unwrap_or (option_map (λ t. 1 + length (raw_lines (view t))) o) 0
lines_of view None = refl
lines_of view (Some t) = refl

pub ruleset dividing = (Passed_none, Passed_more)
