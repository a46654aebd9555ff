-- Lines and words, cut off a text one by one.
use Rattle.std.proofs.Common.{◌≡◌, ℕ, suc, ◌+◌, ◌<◌, ◌≤◌, Bool, true, false, cond, List, [], ◌∷◌, ◌++◌, length}
use Rattle.std.proofs.Common.{take, drop, Some, None, refl, ap, ◌∙◌, arith, ltb-false, ltb-true, length-drop}
use Rattle.std.specs.Prelude.{position, filter, if◌then◌else◌, not, ◌==◌}
use Rattle.std.specs.List.{position_or_len, onto_first, slice_split}
use Rattle.std.proofs.lemmas.List.{take_all, drop_all}
use Rattle.std.proofs.lemmas.Option.{cond_some}
use Rattle.sequence.proofs.ListLemmas.{not_empty}
use Rattle.cm_document.specs.Lines.{raw_lines, without_last, joined, is_blank, words}

-- ---- Lines

-- the bytes before the first line feed
abbrev line_end : List ℕ → ℕ
line_end xs = position_or_len (λ b. b == 10) xs

-- one byte more in front of a text whose first line is known
first_line_more : (v : Bool) (b : ℕ) (bs : List ℕ) (n : ℕ)
    → raw_lines bs ≡ take (n + 1) bs ∷ raw_lines (drop (n + 1) bs)
    → (if v then (b ∷ []) ∷ raw_lines bs else onto_first b (raw_lines bs))
    ≡ take (cond (not v) (1 + n) 0 + 1) (b ∷ bs) ∷ raw_lines (drop (cond (not v) (1 + n) 0 + 1) (b ∷ bs))
first_line_more true b bs n h = refl
first_line_more false b bs n h = let e : 1 + n + 1 ≡ suc (n + 1) = omega arith in rw (e, h) refl

-- a text of one byte is one line
first_line_last : (v : Bool) (b : ℕ)
    → (if v then (b ∷ []) ∷ [] else (b ∷ []) ∷ [])
    ≡ take (cond (not v) 1 0 + 1) (b ∷ []) ∷ raw_lines (drop (cond (not v) 1 0 + 1) (b ∷ []))
first_line_last true b = refl
first_line_last false b = refl

-- a line feed ends the first line, and without one all is the first line
first_line : (b : ℕ) (bs : List ℕ)
    → raw_lines (b ∷ bs) ≡ take (line_end (b ∷ bs) + 1) (b ∷ bs) ∷ raw_lines (drop (line_end (b ∷ bs) + 1) (b ∷ bs))
first_line b [] = first_line_last (b == 10) b
first_line b (c ∷ cs) = first_line_more (b == 10) b (c ∷ cs) (line_end (c ∷ cs)) (first_line c cs)

-- the same of any text that is not empty
first_line_of_some : (xs : List ℕ) → 0 < length xs
    → raw_lines xs ≡ take (line_end xs + 1) xs ∷ raw_lines (drop (line_end xs + 1) xs)
first_line_of_some [] h = absurd (omega arith)
first_line_of_some (b ∷ bs) h = first_line b bs

-- a text with a line feed is cut behind it
pub raw_lines_at_feed : (xs : List ℕ) (k : ℕ) → 0 < length xs → position (λ b. b == 10) xs ≡ Some k
    → raw_lines xs ≡ take (k + 1) xs ∷ raw_lines (drop (k + 1) xs)
raw_lines_at_feed xs k some h = rw (← (cond_some _ _ _ h).1) (first_line_of_some xs some)

-- nothing found means that the test failed
cond_none : (v : Bool) (k : ℕ) → cond v (Some k) None ≡ None → v ≡ false
cond_none true k h = cc
cond_none false k h = refl

-- a text without a line feed is one line
pub raw_lines_without_feed : (xs : List ℕ) → 0 < length xs → position (λ b. b == 10) xs ≡ None
    → raw_lines xs ≡ take (length xs) xs ∷ raw_lines (drop (length xs) xs)
raw_lines_without_feed xs some h =
    let past : length xs ≤ line_end xs = ltb-false _ _ (cond_none _ _ h) in
    let far : length xs ≤ line_end xs + 1 = omega arith in
    let own : length xs ≤ length xs = omega arith in
    first_line_of_some xs some
    ∙ rw (
      take_all (line_end xs + 1) xs far,
      drop_all (line_end xs + 1) xs far,
      take_all (length xs) xs own,
      drop_all (length xs) xs own,
    ) refl

pub ruleset cutting_lines = (raw_lines_at_feed, raw_lines_without_feed)

-- a byte in front of the first line is a byte in front of all
joined_onto_first : (b : ℕ) (xs : List (List ℕ)) → joined (onto_first b xs) ≡ b ∷ joined xs
joined_onto_first b [] = refl
joined_onto_first b (x ∷ xs) = refl

-- one byte more in front of joined lines
joined_more : (v : Bool) (b : ℕ) (bs : List ℕ) → joined (raw_lines bs) ≡ bs
    → joined (if v then (b ∷ []) ∷ raw_lines bs else onto_first b (raw_lines bs)) ≡ b ∷ bs
joined_more true b bs h = rw h refl
joined_more false b bs h = joined_onto_first b (raw_lines bs) ∙ ap (λ xs. b ∷ xs) h

-- the lines joined are the text
pub joined_raw_lines : (xs : List ℕ) → joined (raw_lines xs) ≡ xs
joined_raw_lines [] = refl
joined_raw_lines (b ∷ bs) = joined_more (b == 10) b bs (joined_raw_lines bs)

-- a byte in front makes one line more at most
onto_first_length : (b : ℕ) (xs : List (List ℕ)) → length (onto_first b xs) ≤ length xs + 1
onto_first_length b [] = omega arith
onto_first_length b (x ∷ xs) = omega arith

-- the same of a byte that may end a line
more_lines : (v : Bool) (b : ℕ) (bs : List ℕ) → length (raw_lines bs) ≤ length bs
    → length (if v then (b ∷ []) ∷ raw_lines bs else onto_first b (raw_lines bs)) ≤ length (b ∷ bs)
more_lines true b bs h = omega arith
more_lines false b bs h = omega (arith, onto_first_length b (raw_lines bs))

-- a text has no more lines than bytes
pub raw_lines_within : (xs : List ℕ) → length (raw_lines xs) ≤ length xs
raw_lines_within [] = omega arith
raw_lines_within (b ∷ bs) = more_lines (b == 10) b bs (raw_lines_within bs)

-- ---- The end of a text

-- a text with this last byte loses it, if it is the one to go
without_last_push : (end : ℕ) (front : List ℕ) (last : ℕ)
    → without_last end (front ++ last ∷ []) ≡ (if last == end then front else front ++ last ∷ [])
without_last_push end [] last = refl
without_last_push end (b ∷ []) last =
    elim (last == end) as (λ v. b ∷ (if v then [] else last ∷ []) ≡ (if v then b ∷ [] else b ∷ last ∷ []))
    [ true ↦ refl | false ↦ refl ]
without_last_push end (b ∷ c ∷ cs) last =
    rw (without_last_push end (c ∷ cs) last)
    (elim (last == end) as
    (λ v. b ∷ (if v then c ∷ cs else c ∷ (cs ++ last ∷ [])) ≡ (if v then b ∷ c ∷ cs else b ∷ c ∷ (cs ++ last ∷ [])))
    [ true ↦ refl | false ↦ refl ])

-- the byte at the end goes
pub without_last_same : (end : ℕ) (xs front : List ℕ) (last : ℕ) → xs ≡ front ++ last ∷ [] → (last == end) ≡ true
    → without_last end xs ≡ front
without_last_same end xs front last split same = rw (split, without_last_push end front last, same) refl

-- another byte at the end stays
pub without_last_other : (end : ℕ) (xs front : List ℕ) (last : ℕ) → xs ≡ front ++ last ∷ [] → (last == end) ≡ false
    → without_last end xs ≡ xs
without_last_other end xs front last split other = rw (split, without_last_push end front last, other) refl

pub ruleset cutting_ends = (without_last_same, without_last_other)

-- ---- Words

-- the blanks in front of a text
abbrev blanks : List ℕ → ℕ
blanks xs = position_or_len (λ b. not (is_blank b)) xs

-- the bytes before the first blank
abbrev word_end : List ℕ → ℕ
word_end xs = position_or_len is_blank xs

-- a blank in front does not count
words_blank : (b : ℕ) (bs : List ℕ) → is_blank b ≡ true → words (b ∷ bs) ≡ words bs
words_blank b bs h = rw h refl

-- the first part of a text that is split at its blanks: so many bytes; the parts behind it have the words of the rest
record FirstPart (xs : List ℕ) (n : ℕ) : Type 0 where
  behind : List (List ℕ)
  parts : slice_split is_blank xs ≡ take n xs ∷ behind
  others : filter (λ word. not (length word == 0)) behind ≡ words (drop n xs)

-- one byte more in front of it
first_part_more : (v : Bool) (b : ℕ) (bs : List ℕ) (n : ℕ) → is_blank b ≡ v → FirstPart bs n
    → FirstPart (b ∷ bs) (cond (not v) (1 + n) 0)
first_part_more true b bs n e first = record { behind = slice_split is_blank bs; parts = rw e refl; others = rw e refl }
first_part_more false b bs n e first =
    let k : 1 + n ≡ suc n = omega arith in
    record { behind = first.behind; parts = rw (e, k, first.parts) refl; others = rw k first.others }

-- it ends before the first blank
first_part : (xs : List ℕ) → FirstPart xs (word_end xs)
first_part [] = record { behind = []; parts = refl; others = refl }
first_part (b ∷ bs) = first_part_more (is_blank b) b bs (word_end bs) refl (first_part bs)

-- the first blank ends a word
words_word : (b : ℕ) (bs : List ℕ) → is_blank b ≡ false
    → words (b ∷ bs) ≡ take (word_end (b ∷ bs)) (b ∷ bs) ∷ words (drop (word_end (b ∷ bs)) (b ∷ bs))
words_word b bs h =
    let first = first_part bs in
    let k : 1 + word_end bs ≡ suc (word_end bs) = omega arith in
    rw (h, k, first.parts, not_empty (b ∷ take (word_end bs) bs) (omega arith), first.others) refl

-- what stands behind the blanks begins with a word
abbrev BeginsWithWord : List ℕ → List ℕ → Type 0
BeginsWithWord xs from = words xs ≡ take (word_end from) from ∷ words (drop (word_end from) from)

-- one byte more in front of a text whose first word is known
next_more : (v : Bool) (b : ℕ) (bs : List ℕ) (n : ℕ) → is_blank b ≡ v
    → (0 < length (drop n bs) → BeginsWithWord bs (drop n bs))
    → 0 < length (drop (cond (not (not v)) (1 + n) 0) (b ∷ bs))
    → BeginsWithWord (b ∷ bs) (drop (cond (not (not v)) (1 + n) 0) (b ∷ bs))
next_more true b bs n e h some = let k : 1 + n ≡ suc n = omega arith in rw k (words_blank b bs e ∙ h (rw k at some))
next_more false b bs n e h some = words_word b bs e

-- the word at which blanks end is the first
words_next : (xs : List ℕ) → 0 < length (drop (blanks xs) xs) → BeginsWithWord xs (drop (blanks xs) xs)
words_next [] h = absurd (omega arith)
words_next (b ∷ bs) h = next_more (is_blank b) b bs (blanks bs) refl (words_next bs) h

-- one byte more in front of a text without a word
none_more : (v : Bool) (b : ℕ) (bs : List ℕ) (n : ℕ) → is_blank b ≡ v
    → (length bs ≤ n → words bs ≡ []) → length bs + 1 ≤ cond (not (not v)) (1 + n) 0 → words (b ∷ bs) ≡ []
none_more true b bs n e h past = words_blank b bs e ∙ h (omega arith)
none_more false b bs n e h past = absurd (omega arith)

-- a text of blanks has no word
none_past : (xs : List ℕ) → length xs ≤ blanks xs → words xs ≡ []
none_past [] h = refl
none_past (b ∷ bs) h = none_more (is_blank b) b bs (blanks bs) refl (none_past bs) (omega arith)

-- blanks alone are no word
pub words_none : (xs : List ℕ) → position (λ b. not (is_blank b)) xs ≡ None → words xs ≡ []
words_none xs h = none_past xs (ltb-false _ _ (cond_none _ _ h))

-- behind the blanks a word begins
words_from : (xs : List ℕ) (k : ℕ) → position (λ b. not (is_blank b)) xs ≡ Some k → BeginsWithWord xs (drop k xs)
words_from xs k h =
    let found = cond_some _ _ _ h in
    let within : blanks xs < length xs = ltb-true _ _ found.0 in
    let e : blanks xs ≡ k = found.1 in
    rw (← e) (words_next xs (omega (arith, length-drop (blanks xs) xs)))

-- a word ends before a blank
pub words_to_blank : (xs : List ℕ) (k j : ℕ) → position (λ b. not (is_blank b)) xs ≡ Some k
    → position is_blank (drop k xs) ≡ Some j
    → words xs ≡ take j (drop k xs) ∷ words (drop j (drop k xs))
words_to_blank xs k j h g = let e : word_end (drop k xs) ≡ j = (cond_some _ _ _ g).1 in rw (← e) (words_from xs k h)

-- a word ends at the end of the text
pub words_to_end : (xs : List ℕ) (k : ℕ) → position (λ b. not (is_blank b)) xs ≡ Some k
    → position is_blank (drop k xs) ≡ None
    → words xs ≡ take (length (drop k xs)) (drop k xs) ∷ words (drop (length (drop k xs)) (drop k xs))
words_to_end xs k h g =
    let from = drop k xs in
    let past : length from ≤ word_end from = ltb-false _ _ (cond_none _ _ g) in
    let own : length from ≤ length from = omega arith in
    words_from xs k h
    ∙ rw (
      take_all (word_end from) from past,
      drop_all (word_end from) from past,
      take_all (length from) from own,
      drop_all (length from) from own,
    ) refl

pub ruleset cutting_words = (words_none, words_to_blank, words_to_end)
