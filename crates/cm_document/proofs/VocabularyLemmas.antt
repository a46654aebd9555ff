-- What is looked up in a table.
use Rattle.std.proofs.Common.{◌≡◌, ℕ, ◌<◌, ◌==◌, Bool, true, false, List, [], ◌∷◌, get_or, map, refl, inl, inr}
use Rattle.std.proofs.Common.{subst, sym, ap, ◌∙◌, arith}
use Rattle.std.specs.Prelude.{find, option_map}
use Rattle.std.specs.List.{list_all}
use Rattle.std.proofs.lemmas.Bool.{cases_Bool, eqb-true}
use Rattle.std.proofs.lemmas.List.Elements.{All-get_or}
use Rattle.std.proofs.lemmas.List.Sums.{AllPass-from_list_all}
use Rattle.iface_names.specs.Names.{same_name}
use Rattle.cm_document.specs.Params.{same_controller_kind}
use Rattle.cm_document.specs.Vocabulary.{listed, place_of, bool_eq}
use Rattle.cm_document.specs.declared.description.CtlKind.{CtlKind}
use Rattle.cm_document.specs.declared.description.CtlKind.TheVariants.{Forward}
use Rattle.cm_document.specs.declared.description.TheConstants.{CONTROLLER_KINDS, NUMBER_OF_KINDS}

-- the first row with the word has the meaning that is listed for it
pub found_is_listed : {R A : Type 0} (text : R → List ℕ) (meaning : R → A) (rows : List R) (word : List ℕ)
    → option_map meaning (find (λ row. same_name word (text row)) rows)
    ≡ listed (map (λ row. (text row, meaning row)) rows) word
found_is_listed text meaning [] word = refl
found_is_listed text meaning (row ∷ rows) word = elim (cases_Bool (same_name word (text row))) [
  | inl this ↦ rw this refl
  | inr other ↦ rw other (found_is_listed text meaning rows word)
]

-- ---- Places of kinds

-- each kind has a place
pub place_is_within : (kind : CtlKind) → place_of kind < NUMBER_OF_KINDS
place_is_within Forward = omega arith
place_is_within _ = omega arith

-- the kinds in the order of their places
abbrev kinds : List CtlKind
kinds = map (λ row. row.1) CONTROLLER_KINDS

-- each kind stands at its place
stands_there : (kind : CtlKind) → get_or kinds (place_of kind) Forward ≡ kind
stands_there Forward = refl
stands_there _ = refl

-- of a kind and each of the table, their places tell if they are one
told_of_each : (kind : CtlKind)
    → list_all (λ other. bool_eq (same_controller_kind kind other) (place_of kind == place_of other)) kinds ≡ true
told_of_each Forward = refl
told_of_each _ = refl

-- two truths of which each is told by the other are equal
told_equal : (a b : Bool) → bool_eq a b ≡ true → a ≡ b
told_equal true true told = refl
told_equal false false told = refl
told_equal true false told = cc
told_equal false true told = cc

-- no two kinds have the same place
pub same_place : (kind other : CtlKind) → same_controller_kind kind other ≡ (place_of kind == place_of other)
same_place kind other =
    let test : CtlKind → Bool = λ o. bool_eq (same_controller_kind kind o) (place_of kind == place_of o) in
    let all = AllPass-from_list_all test kinds (told_of_each kind) in
    let there = All-get_or (λ o. test o ≡ true) kinds (place_of other) Forward (place_is_within other) all in
    told_equal (same_controller_kind kind other) (place_of kind == place_of other)
    (subst (λ o. test o ≡ true) (stands_there other) there)

-- kinds that are told to be one are
pub same_kind_is : (kind other : CtlKind) → same_controller_kind kind other ≡ true → kind ≡ other
same_kind_is kind other same =
    let places : place_of kind ≡ place_of other = eqb-true _ _ (sym (same_place kind other) ∙ same) in
    sym (stands_there kind) ∙ ap (λ place. get_or kinds place Forward) places ∙ stands_there other
