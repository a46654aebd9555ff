-- Lines that are made one by one are the summary.
use Rattle.std.proofs.Common.{◌≡◌, ℕ, List, [], ◌∷◌, ◌++◌, map, refl, sym, ap, ◌∙◌}
use Rattle.std.specs.Prelude.{flat_map}
use Rattle.cm_document.specs.declared.description.Description.{Description}
use Rattle.cm_model.specs.declared.entry.Entry.{Entry}
use Rattle.summary_text.specs.Counted.{Counted, counted}
use Rattle.summary_text.specs.Summary.{lines_of, summary}

-- lines joined are their texts joined
joined_texts : {X : Type 0} (text : X → List ℕ) (xs : List X) → flat_map (λ line. line) (map text xs) ≡ flat_map text xs
joined_texts text [] = refl
joined_texts text (x ∷ xs) = ap (λ rest. text x ++ rest) (joined_texts text xs)

-- the lines of this description and of what is counted of this history
pub lines_are_summary : {X : Type 0} (text : X → List ℕ) (xs : List X) (d e : Description) (c : Counted)
    (history : List Entry)
    → map text xs ≡ lines_of e c → e ≡ d → c ≡ counted history → flat_map text xs ≡ summary d history
unfolding summary
lines_are_summary text xs d e c history made same all =
    sym (joined_texts text xs)
    ∙ ap (λ lines. flat_map (λ line. line) lines) (made ∙ ap (λ e. lines_of e c) same ∙ ap (lines_of d) all)
