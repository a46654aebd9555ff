-- One controller after the other comes to its cell, or leaves it.
use Rattle.std.proofs.Common.{◌≡◌, ℕ, ◌+◌, ◌<◌, ◌≤◌, List, [], ◌∷◌, ◌++◌, length, get_or}
use Rattle.std.proofs.Common.{drop, Option, Some, refl, sym, ap, ap₂, ◌∙◌, arith}
use Rattle.std.specs.Prelude.{reverse, slice_get}
use Rattle.std.specs.Option.{option_map_or}
use Rattle.std.proofs.lemmas.List.{drop_more, reverse-append}
use Rattle.cm_model.specs.State.{Loaded, MailAloft}
use Rattle.cm_model.specs.declared.data.CtlData.{CtlData}
use Rattle.cm_slots.specs.Mails.{without_mail}
use Rattle.rt_flight.specs.Cells.{CellFacts}
use Rattle.rt_flight.specs.Workspaces.{WorkspaceFacts}
use Rattle.cm_desk.specs.Filling.{cells_filled, cell_of}

-- what is popped comes first of the list turned round
pub popped : {A : Type 0} (xs ys : List A) (x : A) → xs ≡ ys ++ x ∷ [] → reverse xs ≡ x ∷ reverse ys
popped xs ys x is = ap reverse is ∙ reverse-append ys (x ∷ [])

-- a list of one, or of none, is the same turned round
pub reverse_few : {A : Type 0} (xs : List A) → length xs ≤ 1 → xs ≡ reverse xs
reverse_few [] few = refl
reverse_few (x ∷ []) few = refl
reverse_few (x ∷ y ∷ xs) few = absurd (omega (arith, few))

-- one that was pushed stands before what is left
pub pushed : {A : Type 0} (xs : List A) (x : A) (ys : List A) → (xs ++ x ∷ []) ++ ys ≡ xs ++ x ∷ ys
pushed [] x ys = refl
pushed (y ∷ xs) x ys = ap (λ zs. y ∷ zs) (pushed xs x ys)

cells_first : (loaded : List Loaded) (mails : List MailAloft) (i : ℕ) (is : List ℕ) (s : WorkspaceFacts)
    (ss : List WorkspaceFacts) (c : CtlData) (cs : List CtlData) (l : Loaded) → slice_get loaded i ≡ Some l
    → cells_filled loaded mails (i ∷ is) (s ∷ ss) (c ∷ cs)
    ≡ cell_of mails l s c ∷ cells_filled loaded (without_mail s.serial mails) is ss cs
cells_first loaded mails i is s ss c cs l there =
    ap (λ (o : Option Loaded). option_map_or
    (λ (k : Loaded). cell_of mails k s c ∷ cells_filled loaded (without_mail s.serial mails) is ss cs) o []) there

-- The next one boards: it comes after those that did, before those that are left.
pub fill_next : (loaded : List Loaded) (mails : List MailAloft) (run : List ℕ) (k : ℕ) (ss ss' : List WorkspaceFacts)
    (s : WorkspaceFacts) (cs cs' : List CtlData) (c : CtlData) (l : Loaded) (cells : List CellFacts)
    → k < length run → slice_get loaded (get_or run k 0) ≡ Some l → ss ≡ s ∷ ss' → cs ≡ c ∷ cs'
    → (cells ++ cell_of mails l s c ∷ [])
    ++ cells_filled loaded (without_mail s.serial mails) (drop (k + 1) run) ss' cs'
    ≡ cells ++ cells_filled loaded mails (drop k run) ss cs
fill_next loaded mails run k ss ss' s cs cs' c l cells within there first own =
    pushed cells (cell_of mails l s c) (cells_filled loaded (without_mail s.serial mails) (drop (k + 1) run) ss' cs')
    ∙ ap (λ more. cells ++ more) (sym (cells_first loaded mails (get_or run k 0) (drop (k + 1) run) s ss' c cs' l there)
    ∙ ap₂ (λ (is : List ℕ) (xs : List WorkspaceFacts). cells_filled loaded mails is xs (c ∷ cs'))
    (sym (drop_more run k 0 within)) (sym first)
    ∙ ap (cells_filled loaded mails (drop k run) ss) (sym own))
