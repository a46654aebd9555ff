use Rattle.std.proofs.Common.{◌≡◌, ◌∷◌, ◌++◌, drop, map, string_bytes, codes}
use Rattle.cm_words.proofs.words.line.Given as goal

-- the words so far, and those that are left, are the line
abbrev pub invariant-loop-word : goal.invariant-loop-word
invariant-loop-word l =
    map (λ w. w.now) l.line.items ++ map string_bytes (drop l.word-index l.words)
    ≡ codes "cm" ∷ map string_bytes l.words
