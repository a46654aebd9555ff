-- Texts of which no byte ends a line: words, numbers of any size, and items that are joined.
use Rattle.std.proofs.Common.{◌≡◌, ℕ, zero, suc, ◌-◌, ◌/◌, ◌%◌, ◌≤◌, Bool, true, false, List, [], ◌∷◌, ◌++◌, length}
use Rattle.std.proofs.Common.{replicate, Option, Some, None, ℤ, pos, negsuc, nat_abs, inl, inr, refl, subst, arith}
use Rattle.std.specs.Prelude.{◌==◌, nat_le, nat_lt, flat_map, filter_map, find, slice_get, option_map, codes, IfSome}
use Rattle.std.specs.Fmt.{decimal, digits, digits_onto, digit_glyph}
use Rattle.std.specs.List.{AllByRecursion, list_all}
use Rattle.std.specs.Option.{option_or}
use Rattle.std.proofs.lemmas.Bool.{and_parts, cases_Bool}
use Rattle.std.proofs.lemmas.Bool.Decides.{nat_tests}
use Rattle.fixed_num.specs.Text.{sign_text, six_digits, spelled}
use Rattle.cm_document.proofs.ReadingLemmas.{cases_Option}
use Rattle.cm_document.specs.Given.{IsName}
use Rattle.cm_model.specs.Trace.{joined}
use Rattle.script_text.proofs.PrintValueLemmas.{name_IsWord}
use Rattle.script_text.proofs.PrintWordLemmas.{IsPrinted, IsPrinted-append, shown_IsPrinted}

-- ---- Words

-- a text whose bytes pass the test
pub word_printed : (text : List ℕ) → list_all (nat_le 32) text ≡ true → IsPrinted text
word_printed [] passes = tt
word_printed (b ∷ bs) passes =
    let both = and_parts (nat_le 32 b) (list_all (nat_le 32) bs) passes in
    (grind (arith, nat_tests, both.0), word_printed bs both.1)

-- two texts with one between them
pub between : (xs middle ys : List ℕ) → IsPrinted xs → IsPrinted middle → IsPrinted ys → IsPrinted (xs ++ middle ++ ys)
between xs middle ys first parts last = IsPrinted-append (xs ++ middle) ys (IsPrinted-append xs middle first parts) last

pub space : IsPrinted (codes " ")
space = (omega arith, tt)

pub name_printed : (name : List ℕ) → IsName name → IsPrinted name
name_printed name named = shown_IsPrinted name (name_IsWord name named).shown

-- ---- Numbers

glyph_printed : (d : ℕ) → 32 ≤ digit_glyph false d
glyph_printed d = elim (cases_Bool (nat_lt d 10)) [
  | inl low ↦ rw low (omega arith)
  | inr high ↦ rw high (omega arith)
]

onto_printed : (k n : ℕ) (text : List ℕ) → IsPrinted text → IsPrinted (digits_onto k 10 false n text)
onto_printed zero n text printed = printed
onto_printed (suc k) n text printed = elim (cases_Bool (n / 10 == 0)) [
  | inl last ↦ rw last (glyph_printed (n % 10), printed)
  | inr more ↦ rw more (onto_printed k (n / 10) (digit_glyph false (n % 10) ∷ text) (glyph_printed (n % 10), printed))
]

pub decimal_printed : (n : ℕ) → IsPrinted (decimal n)
unfolding digits
decimal_printed n = onto_printed 64 n [] tt

zeros_printed : (k : ℕ) → IsPrinted (replicate k 48)
zeros_printed zero = tt
zeros_printed (suc k) = (omega arith, zeros_printed k)

sign_printed : (v : ℤ) → IsPrinted (sign_text v)
sign_printed (pos n) = tt
sign_printed (negsuc n) = (omega arith, tt)

pub spelled_printed : (v : ℤ) → IsPrinted (spelled v)
unfolding spelled
spelled_printed v =
    let w = nat_abs v / 1000000 in
    let p = nat_abs v % 1000000 in
    let six : IsPrinted (six_digits p) =
    IsPrinted-append (replicate (6 - length (decimal p)) 48) (decimal p) (zeros_printed _) (decimal_printed p) in
    let front = IsPrinted-append (sign_text v) (decimal w) (sign_printed v) (decimal_printed w) in
    let point = IsPrinted-append (sign_text v ++ decimal w) (46 ∷ []) front (omega arith, tt) in
    IsPrinted-append ((sign_text v ++ decimal w) ++ 46 ∷ []) (six_digits p) point six

-- ---- Items

-- texts one after another
pub each_printed : {A : Type 0} (f : A → List ℕ) (xs : List A) → AllByRecursion (λ x. IsPrinted (f x)) xs
    → IsPrinted (flat_map f xs)
each_printed f [] all = tt
each_printed f (x ∷ xs) all = IsPrinted-append (f x) (flat_map f xs) all.0 (each_printed f xs all.1)

others_printed : (items : List (List ℕ)) → AllByRecursion IsPrinted items
    → IsPrinted (flat_map (λ other. codes "; " ++ other) items)
others_printed [] all = tt
others_printed (item ∷ items) all = (
  omega arith,
  (
    omega arith,
    IsPrinted-append item (flat_map (λ other. codes "; " ++ other) items) all.0 (others_printed items all.1),
  ),
)

pub joined_printed : (items : List (List ℕ)) → AllByRecursion IsPrinted items → IsPrinted (joined items)
joined_printed [] all = word_printed (codes "none") refl
joined_printed (item ∷ items) all =
    IsPrinted-append item (flat_map (λ other. codes "; " ++ other) items) all.0 (others_printed items all.1)

-- ---- What is found

-- the first of two that is there
pub either_so : {A : Type 0} (P : A → Type 0) (o other : Option A) → IfSome o P → IfSome other P
    → IfSome (option_or o other) P
either_so P None other first second = second
either_so P (Some x) other first second = first

-- what a function makes of it
pub mapped_so : {A B : Type 0} (P : B → Type 0) (f : A → B) (o : Option A) → ((x : A) → P (f x))
    → IfSome (option_map f o) P
mapped_so P f None each = tt
mapped_so P f (Some x) each = each x

-- what is found among some
pub found_so : {A : Type 0} (P : A → Type 0) (test : A → Bool) (xs : List A) → AllByRecursion P xs
    → IfSome (find test xs) P
found_so P test [] all = tt
found_so P test (x ∷ xs) all = elim (cases_Bool (test x)) [
  | inl passes ↦ rw passes all.0
  | inr fails ↦ rw fails (found_so P test xs all.1)
]

-- all that is found of some
pub each_found_so : {A B : Type 0} (P : B → Type 0) (f : A → Option B) (xs : List A)
    → AllByRecursion (λ x. IfSome (f x) P) xs → AllByRecursion P (filter_map f xs)
each_found_so P f [] all = tt
each_found_so P f (x ∷ xs) all = elim (cases_Option (f x)) [
  | inl none ↦ rw none (each_found_so P f xs all.1)
  | inr (y, some) ↦ rw some (subst (λ o. IfSome o P) some all.0, each_found_so P f xs all.1)
]

-- what stands at a place
pub got_so : {A : Type 0} (P : A → Type 0) (xs : List A) → AllByRecursion P xs → (i : ℕ) → IfSome (slice_get xs i) P
got_so P [] all i = tt
got_so P (x ∷ xs) all zero = all.0
got_so P (x ∷ xs) all (suc i) = got_so P xs all.1 i

-- what a function makes of what is so
pub mapped_from : {A B : Type 0} (P : A → Type 0) (Q : B → Type 0) (f : A → B) (o : Option A) → IfSome o P
    → ((x : A) → P x → Q (f x)) → IfSome (option_map f o) Q
mapped_from P Q f None is each = tt
mapped_from P Q f (Some x) is each = each x is
