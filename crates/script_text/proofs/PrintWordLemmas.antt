-- Words parted by single spaces are the words of their line, and lines with a feed behind each are the lines of their
-- text.
use Rattle.std.proofs.Common.{◌≡◌, ℕ, suc, ◌+◌, ◌*◌, ◌<◌, ◌≤◌, false, List, [], ◌∷◌, ◌++◌}
use Rattle.std.proofs.Common.{length, Ok, refl, ap, ◌∙◌, arith, append_assoc, length-append}
use Rattle.std.specs.Prelude.{flat_map, nat_lt, ◌==◌}
use Rattle.std.specs.List.{AllByRecursion, onto_first, slice_split}
use Rattle.std.proofs.lemmas.Bool.{le-ltb}
use Rattle.std.proofs.lemmas.Bool.Decides.{nat_tests}
use Rattle.std.proofs.lemmas.List.{append-nil}
use Rattle.sequence.proofs.ListLemmas.{not_empty}
use Rattle.cm_document.specs.Reading.{◌>>=◌}
use Rattle.cm_document.specs.Lines.{raw_lines, without_last, bare, is_blank, words, is_comment}
use Rattle.cm_document.specs.LineGrammar.{line_of}
use Rattle.cm_document.specs.ScriptRules.{Draft, with_said, with_line, with_lines}
use Rattle.cm_document.specs.declared.script.Grammar.{Grammar}

-- bytes from the space on: none of them ends a line
abbrev pub IsPrinted : List ℕ → Type 0
IsPrinted text = AllByRecursion (λ b. 32 ≤ b) text

-- a word: one or more bytes behind the space
pub record IsWord (word : List ℕ) : Type 0 where
  pub some : 0 < length word
  pub shown : AllByRecursion (λ b. 32 < b) word

-- each word after a space
abbrev pub spaced : List (List ℕ) → List ℕ
spaced ws = flat_map (λ w. 32 ∷ w) ws

-- ---- Words

not_blank : (b : ℕ) → 32 < b → is_blank b ≡ false
not_blank b h = grind (arith, nat_tests)

-- a word before a space is a part of the text
word_then : (word rest : List ℕ) → AllByRecursion (λ b. 32 < b) word
    → slice_split is_blank (word ++ 32 ∷ rest) ≡ word ∷ slice_split is_blank rest
word_then [] rest shown = refl
word_then (b ∷ bs) rest shown = rw (not_blank b shown.0, word_then bs rest shown.1) refl

-- a word alone is all of it
word_alone : (word : List ℕ) → AllByRecursion (λ b. 32 < b) word → slice_split is_blank word ≡ word ∷ []
word_alone [] shown = refl
word_alone (b ∷ bs) shown = rw (not_blank b shown.0, word_alone bs shown.1) refl

-- words parted by single spaces
pub words_spaced : (word : List ℕ) (ws : List (List ℕ)) → IsWord word → AllByRecursion IsWord ws
    → words (word ++ spaced ws) ≡ word ∷ ws
words_spaced word [] one more = rw (append-nil, word_alone word one.shown, not_empty word one.some) refl
words_spaced word (w ∷ ws) one more =
    rw (word_then word (w ++ spaced ws) one.shown, not_empty word one.some)
    (ap (λ ws. word ∷ ws) (words_spaced w ws more.0 more.1))

-- ---- Lines

-- a printed line ends at its feed
pub line_then : (line rest : List ℕ) → IsPrinted line
    → raw_lines (line ++ 10 ∷ rest) ≡ (line ++ 10 ∷ []) ∷ raw_lines rest
line_then [] rest printed = refl
line_then (b ∷ bs) rest printed =
    let inside : (b == 10) ≡ false = grind (arith, nat_tests, printed.0) in
    rw inside (ap (onto_first b) (line_then bs rest printed.1))

-- the feed goes
pub without_feed : (line : List ℕ) → without_last 10 (line ++ 10 ∷ []) ≡ line
without_feed [] = refl
without_feed (b ∷ []) = refl
without_feed (b ∷ c ∷ bs) = ap (λ l. b ∷ l) (without_feed (c ∷ bs))

-- and nothing else does
without_return : (line : List ℕ) → IsPrinted line → without_last 13 line ≡ line
without_return [] printed = refl
without_return (b ∷ []) printed =
    let inside : (b == 13) ≡ false = grind (arith, nat_tests, printed.0) in rw inside refl
without_return (b ∷ c ∷ bs) printed = ap (λ l. b ∷ l) (without_return (c ∷ bs) printed.1)

bare_line : (line : List ℕ) → IsPrinted line → bare (line ++ 10 ∷ []) ≡ line
bare_line line printed = ap (without_last 13) (without_feed line) ∙ without_return line printed

-- what two printed texts are together
pub IsPrinted-append : (xs ys : List ℕ) → IsPrinted xs → IsPrinted ys → IsPrinted (xs ++ ys)
IsPrinted-append [] ys p q = q
IsPrinted-append (x ∷ xs) ys p q = (p.0, IsPrinted-append xs ys p.1 q)

pub shown_IsPrinted : (word : List ℕ) → AllByRecursion (λ b. 32 < b) word → IsPrinted word
shown_IsPrinted [] shown = tt
shown_IsPrinted (b ∷ bs) shown = (omega (arith, shown.0), shown_IsPrinted bs shown.1)

pub spaced_IsPrinted : (ws : List (List ℕ)) → AllByRecursion IsWord ws → IsPrinted (spaced ws)
spaced_IsPrinted [] all = tt
spaced_IsPrinted (w ∷ ws) all =
    (omega arith, IsPrinted-append w (spaced ws) (shown_IsPrinted w all.0.shown) (spaced_IsPrinted ws all.1))

-- ---- Reading

-- reading this text leads from what stands before it to what stands behind it, whatever text follows
abbrev pub Reads : Grammar → List ℕ → Draft → Draft → Type 0
Reads grammar text before behind =
    (n : ℕ) (rest : List ℕ)
    → (m : ℕ) × (with_lines grammar n before (raw_lines (text ++ rest)) ≡ with_lines grammar m behind (raw_lines rest))

-- no text leads nowhere
pub Reads-nil : (grammar : Grammar) (w : Draft) → Reads grammar [] w w
Reads-nil grammar w = λ n rest. (n, refl)

-- one text after another
pub Reads-append : (grammar : Grammar) (xs ys : List ℕ) (a b c : Draft) → Reads grammar xs a b → Reads grammar ys b c
    → Reads grammar (xs ++ ys) a c
Reads-append grammar xs ys a b c f g = λ n rest.
    let first = f n (ys ++ rest) in
    let second = g first.0 rest in
    (second.0, ap (λ text. with_lines grammar n a (raw_lines text)) (append_assoc xs ys rest) ∙ first.1 ∙ second.1)

-- a line of these words, which is no comment and not too long
pub record IsLine (word : List ℕ) (ws : List (List ℕ)) : Type 0 where
  pub first : IsWord word
  pub others : AllByRecursion IsWord ws
  pub said : is_comment word ≡ false
  pub short : length (word ++ spaced ws) ≤ 65536

line_read : (grammar : Grammar) (n : ℕ) (word : List ℕ) (ws : List (List ℕ)) (before : Draft) → IsLine word ws
    → with_line grammar n before ((word ++ spaced ws) ++ 10 ∷ [])
    ≡ with_said grammar n before (line_of grammar (word ∷ ws))
unfolding with_line
line_read grammar n word ws before line =
    let printed =
    IsPrinted-append word (spaced ws) (shown_IsPrinted word line.first.shown) (spaced_IsPrinted ws line.others) in
    let fits : nat_lt 65536 (length (word ++ spaced ws)) ≡ false =
    le-ltb 65536 (length (word ++ spaced ws)) line.short in
    rw (bare_line (word ++ spaced ws) printed, words_spaced word ws line.first line.others, line.said, fits) refl

-- reading a line is what it says
pub Reads-line : (grammar : Grammar) (word : List ℕ) (ws : List (List ℕ)) (before behind : Draft) → IsLine word ws
    → ((n : ℕ) → with_said grammar n before (line_of grammar (word ∷ ws)) ≡ Ok behind)
    → Reads grammar ((word ++ spaced ws) ++ 10 ∷ []) before behind
Reads-line grammar word ws before behind line says = λ n rest.
    let text = word ++ spaced ws in
    let printed =
    IsPrinted-append word (spaced ws) (shown_IsPrinted word line.first.shown) (spaced_IsPrinted ws line.others) in
    let read : with_line grammar n before (text ++ 10 ∷ []) ≡ Ok behind =
    line_read grammar n word ws before line ∙ says n in (
      n + 1,
      ap (λ t. with_lines grammar n before (raw_lines t)) (append_assoc text (10 ∷ []) rest)
          ∙ ap (with_lines grammar n before) (line_then text rest printed)
          ∙ ap (λ r. r >>= λ more. with_lines grammar (n + 1) more (raw_lines rest)) read,
    )

-- ---- Length

-- so many words of at most so many bytes
pub spaced_long : (k : ℕ) (ws : List (List ℕ)) → AllByRecursion (λ w. length w ≤ k) ws
    → length (spaced ws) ≤ length ws * suc k
spaced_long k [] all = omega arith
spaced_long k (w ∷ ws) all =
    let more = spaced_long k ws all.1 in
    let e = length-append w (spaced ws) in
    omega (arith, all.0)
