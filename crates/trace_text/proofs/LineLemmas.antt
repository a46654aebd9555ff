-- Lines on their way into a sink.
use Rattle.std.proofs.Common.{◌≡◌, ℕ, ◌+◌, ◌<◌, List, [], ◌∷◌, ◌++◌, Option, length, get_or, take}
use Rattle.std.proofs.Common.{drop, sym, ap, ◌∙◌, subst, append-nil, add-one, take-append-drop}
use Rattle.std.specs.Prelude.{flat_map}
use Rattle.std.specs.Io.KnownBytes.{Appends}
use Rattle.std.proofs.KnownBytes.{Appends-trans}
use Rattle.std.proofs.Math.Seq.{take-suc}
use Rattle.std.proofs.lemmas.Grind.{flat_map-append}
use Rattle.outside_io.specs.Bytes.{AppendsPrefix}
use Rattle.outside_io.proofs.Prefixes.{AppendsPrefix-then, AppendsPrefix-front}

-- the texts of the items so far and of the next one
texts_next : {X : Type 0} (text : X → List ℕ) (xs : List X) (i : ℕ) (d : X) → i < length xs
    → flat_map text (take (i + 1) xs) ≡ flat_map text (take i xs) ++ text (get_or xs i d)
texts_next text xs i d less =
    rw (add-one, take-suc xs i d less)
    (flat_map-append text (take i xs) (get_or xs i d ∷ [])
    ∙ ap (λ l. flat_map text (take i xs) ++ l) (append-nil (text (get_or xs i d))))

-- the texts of the items so far and of the rest
texts_whole : {X : Type 0} (text : X → List ℕ) (xs : List X) (i : ℕ)
    → flat_map text xs ≡ flat_map text (take i xs) ++ flat_map text (drop i xs)
texts_whole text xs i = ap (flat_map text) (sym (take-append-drop i xs)) ∙ flat_map-append text (take i xs) (drop i xs)

-- the text of one item more is taken
pub texts_taken : {X : Type 0} (text : X → List ℕ) (xs : List X) (i : ℕ) (d : X) (a b c : Option (List ℕ))
    → i < length xs
    → Appends a b (flat_map text (take i xs)) → Appends b c (text (get_or xs i d))
    → Appends a c (flat_map text (take (i + 1) xs))
texts_taken text xs i d a b c less before now =
    subst (λ (l : List ℕ). Appends a c l) (sym (texts_next text xs i d less))
    (Appends-trans a b c (flat_map text (take i xs)) (text (get_or xs i d)) before now)

-- a front of the text of one item more is taken, so a front of all texts is
pub texts_cut : {X : Type 0} (text : X → List ℕ) (xs : List X) (i : ℕ) (d : X) (a b c : Option (List ℕ)) → i < length xs
    → Appends a b (flat_map text (take i xs)) → AppendsPrefix b c (text (get_or xs i d))
    → AppendsPrefix a c (flat_map text xs)
texts_cut text xs i d a b c less before now =
    let front : AppendsPrefix a c (flat_map text (take (i + 1) xs)) =
    subst (λ (l : List ℕ). AppendsPrefix a c l) (sym (texts_next text xs i d less))
    (AppendsPrefix-then a b c (flat_map text (take i xs)) (text (get_or xs i d)) before now) in
    subst (λ (l : List ℕ). AppendsPrefix a c l) (sym (texts_whole text xs (i + 1)))
    (AppendsPrefix-front a c (flat_map text (take (i + 1) xs)) (flat_map text (drop (i + 1) xs)) front)
