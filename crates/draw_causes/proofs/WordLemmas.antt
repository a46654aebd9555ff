-- A text to which a row of the table is appended: the row that is meant, by what is known of the case.
use Rattle.std.proofs.Common.{◌≡◌, ℕ, Bool, true, false, List, ◌++◌, sym, ap, ◌∙◌}
use Rattle.std.specs.Prelude.{if◌then◌else◌}

-- the row of a case that is known
pub at_case : {A : Type 0} (t : List ℕ) (row : A → List ℕ) {u : List ℕ} {a b : A}
    → a ≡ b → u ≡ t ++ row b → u ≡ t ++ row a
at_case t row is bytes = bytes ∙ ap (λ x. t ++ row x) (sym is)

-- the first of two rows if the test is passed, and the second if it is not
pub at_true : (t first second : List ℕ) {u : List ℕ} {b : Bool}
    → b ≡ true → u ≡ t ++ first → u ≡ t ++ (if b then first else second)
at_true t first second is bytes = at_case t (λ b. if b then first else second) is bytes

pub at_false : (t first second : List ℕ) {u : List ℕ} {b : Bool}
    → b ≡ false → u ≡ t ++ second → u ≡ t ++ (if b then first else second)
at_false t first second is bytes = at_case t (λ b. if b then first else second) is bytes
