-- Blanks of one kind, counted up, and of all kinds.
use Rattle.std.proofs.Common.{◌≡◌, ℕ, ◌+◌, ◌<◌, Bool, true, false, List, [], ◌∷◌}
use Rattle.std.proofs.Common.{length, map, get_or, drop, refl, sym, ap, ◌∙◌, arith}
use Rattle.std.specs.Prelude.{if◌then◌else◌, sum_by}
use Rattle.std.proofs.lemmas.List.{drop_more}
use Rattle.std.proofs.lemmas.List.Sums.{sum_by-cons}
use Rattle.cm_document.specs.Params.{same_controller_kind}
use Rattle.cm_document.specs.declared.description.CtlKind.{CtlKind}
use Rattle.cm_document.specs.declared.description.CtlKind.TheVariants.{Forward}
use Rattle.cm_document.specs.declared.description.TheConstants.{CONTROLLER_KINDS}
use Rattle.cm_document.proofs.VocabularyLemmas.{same_kind_is}
use Rattle.cm_model.proofs.BlankLemmas.{count_is, same_counts}
use Rattle.cm_model.specs.Blanks.{blanks_of, counted_by, no_blanks, with_count, with_one_more}
use Rattle.cm_model.specs.declared.blanks.Blanks.{Blanks}
use Rattle.ctl_any.specs.Stocks.{with_some_of}

as_many : (is : Bool) (one all : ℕ) → (is ≡ true → one ≡ all) → (if is then one + 0 else all) ≡ all
as_many true one all same = omega (arith, same refl)
as_many false one all same = refl

-- none more are as many
pub none_more : (b : Blanks) (kind : CtlKind) → b ≡ counted_by (blanks_of b)
    → with_count b kind (blanks_of b kind + 0) ≡ b
none_more b kind is =
    same_counts (λ other. if same_controller_kind other kind then blanks_of b kind + 0 else blanks_of b other)
    (blanks_of b)
    (λ other. as_many (same_controller_kind other kind) (blanks_of b kind) (blanks_of b other)
    (λ yes. ap (blanks_of b) (sym (same_kind_is other kind yes))))
    ∙ sym is

counted_on : (b : Blanks) (kind : CtlKind) (n : ℕ)
    → with_one_more (with_count b kind n) kind ≡ with_count b kind (n + 1)
counted_on b Forward n = refl
counted_on b _ n = refl

-- one more is one more
pub one_counted : (b : Blanks) (kind : CtlKind) (more : ℕ)
    → with_one_more (with_count b kind (blanks_of b kind + more)) kind
    ≡ with_count b kind (blanks_of b kind + (more + 1))
one_counted b kind more =
    let sum : (blanks_of b kind + more) + 1 ≡ blanks_of b kind + (more + 1) = omega arith in
    counted_on b kind (blanks_of b kind + more) ∙ ap (with_count b kind) sum

-- ---- All kinds, one after the other

-- of the kinds that are left none is listed
pub no_kind_left : (counts b : Blanks) → b ≡ counted_by (blanks_of b) → with_some_of counts b [] ≡ b
no_kind_left counts b is = same_counts (λ kind. blanks_of b kind + 0) (blanks_of b) (λ kind. omega arith) ∙ sym is

more_of_one : (is : Bool) (one all more left : ℕ) → (is ≡ true → one ≡ all)
    → (if is then one + more else all) + left ≡ all + ((if is then more else 0) + left)
more_of_one true one all more left same = omega (arith, same refl)
more_of_one false one all more left same = omega arith

-- first as many more of this kind, and then of those behind it
one_kind : (counts b : Blanks) (kind : CtlKind) (kinds : List CtlKind)
    → with_some_of counts (with_count b kind (blanks_of b kind + blanks_of counts kind)) kinds
    ≡ with_some_of counts b (kind ∷ kinds)
one_kind counts b kind kinds =
    let more = blanks_of counts kind in
    let listed : CtlKind → CtlKind
    → ℕ = λ k other. if same_controller_kind k other then blanks_of counts other else 0 in
    let now : CtlKind → ℕ = λ k. if same_controller_kind k kind then blanks_of b kind + more else blanks_of b k in
    same_counts (λ k. blanks_of (counted_by now) k + sum_by (listed k) kinds)
    (λ k. blanks_of b k + sum_by (listed k) (kind ∷ kinds))
    (λ k. ap (λ n. n + sum_by (listed k) kinds) (count_is now k)
    ∙ more_of_one (same_controller_kind k kind) (blanks_of b kind) (blanks_of b k) more (sum_by (listed k) kinds)
    (λ yes. ap (blanks_of b) (sym (same_kind_is k kind yes)))
    ∙ ap (λ n. blanks_of b k + n) (sym (sum_by-cons (listed k) kind kinds)))

all_at : (counts : Blanks) (kind : CtlKind)
    → blanks_of (with_some_of counts no_blanks (map (λ row. row.1) CONTROLLER_KINDS)) kind ≡ blanks_of counts kind
all_at counts Forward = omega arith
all_at counts _ = omega arith

-- so many of each kind are as many as were counted
pub all_counted : (counts : Blanks)
    → with_some_of counts no_blanks (map (λ row. row.1) CONTROLLER_KINDS) ≡ counted_by (blanks_of counts)
all_counted counts = λ i. counted_by (λ kind. all_at counts kind i)

-- the blanks so far with those of the next kind too, and those of the kinds behind it, are all of them still
pub next_kind : {R : Type 0} (Are : Blanks → Type 0) (kind_of : R → CtlKind) (counts b all : Blanks) (rows : List R)
    (i : ℕ) (d : R) (n : ℕ) → i < length rows
    → n ≡ blanks_of counts (kind_of (get_or rows i d))
    → Are (with_count b (kind_of (get_or rows i d)) (blanks_of b (kind_of (get_or rows i d)) + n))
    → with_some_of counts b (map kind_of (drop i rows)) ≡ all
    → (so_far : Blanks) × Are so_far × (with_some_of counts so_far (map kind_of (drop (i + 1) rows)) ≡ all)
next_kind Are kind_of counts b all rows i d n below is are before =
    let kind = kind_of (get_or rows i d) in (
      with_count b kind (blanks_of b kind + n),
      are,
      ap (λ k. with_some_of counts (with_count b kind (blanks_of b kind + k)) (map kind_of (drop (i + 1) rows))) is
          ∙ one_kind counts b kind (map kind_of (drop (i + 1) rows))
          ∙ sym (ap (λ rs. with_some_of counts b (map kind_of rs)) (drop_more rows i d below)) ∙ before,
    )
