-- Blanks are blanks in boxes too.
use Rattle.std.proofs.Common.{◌≡◌, List, [], ◌∷◌, length, map, sym, ap, subst, ◌∙◌}
use Rattle.std.specs.List.{All}
use Rattle.std.proofs.lemmas.List.{length-map}
use Rattle.std.proofs.lemmas.List.Elements.{All-nil, All-cons, All-head, All-tail}
use Rattle.cm_model.specs.Controllers.{IsBlank}
use Rattle.cm_model.specs.declared.blanks.Blanks.{Blanks}
use Rattle.cm_model.specs.declared.data.CtlData.{CtlData}
use Rattle.cm_stock.specs.Stocks.{counts_of, AreBlanks}

-- those with the data of blank ones are blank
blank_alike : {A B : Type 0} (m : A → CtlData) (n : B → CtlData) (xs : List A) (ys : List B) → map m xs ≡ map n ys
    → All (λ y. IsBlank (n y)) ys → All (λ x. IsBlank (m x)) xs
blank_alike m n [] ys same all = All-nil (λ x. IsBlank (m x))
blank_alike m n (x ∷ xs) [] same all = cc
blank_alike m n (x ∷ xs) (y ∷ ys) same all =
    let first : m x ≡ n y = cc in
    let others : map m xs ≡ map n ys = cc in
    All-cons (λ z. IsBlank (m z)) x xs (subst IsBlank (sym first) (All-head (λ z. IsBlank (n z)) y ys all))
    (blank_alike m n xs ys others (All-tail (λ z. IsBlank (n z)) y ys all))

-- what has the data of so many blanks is so many blanks
pub AreBlanks-alike : {A B : Type 0} (m : A → CtlData) (n : B → CtlData) (xs : List A) (ys : List B) (b : Blanks)
    → map m xs ≡ map n ys → AreBlanks n ys b → AreBlanks m xs b
AreBlanks-alike m n xs ys b same are = record {
  blank = blank_alike m n xs ys same are.blank;
  counted = ap counts_of same ∙ are.counted;
  number = sym (length-map xs m) ∙ ap length same ∙ length-map ys n ∙ are.number;
}
