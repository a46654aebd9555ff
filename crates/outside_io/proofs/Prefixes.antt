-- What a sink took of some bytes, over several calls.
use Rattle.std.proofs.Common.{ℕ, ◌+◌, List, [], ◌++◌, length, take, sym, subst, arith, Option, le_refl, length-append}
use Rattle.std.proofs.Math.Seq.{take-length, take-append_seam, take-append-add}
use Rattle.std.proofs.lemmas.List.{take-append-le}
use Rattle.std.specs.Io.KnownBytes.{Keeps, Appends}
use Rattle.std.proofs.KnownBytes.{Appends-nil, Appends-kept, Appends-trans}
use Rattle.outside_io.specs.Bytes.{AppendsPrefix}

-- A sink that is as it was has taken a front of any bytes: none of them.
pub AppendsPrefix-none : (a : Option (List ℕ)) (xs : List ℕ) → AppendsPrefix a a xs
AppendsPrefix-none a xs = (0, omega arith, Appends-nil a)

-- A sink that kept what it had has taken a front of any bytes: none of them.
pub AppendsPrefix-kept : (a b : Option (List ℕ)) (xs : List ℕ) → Keeps a b → AppendsPrefix a b xs
AppendsPrefix-kept a b xs kept = (0, omega arith, Appends-kept a a b [] (Appends-nil a) kept)

-- All of some bytes are a front of them.
pub AppendsPrefix-all : (a b : Option (List ℕ)) (xs : List ℕ) → Appends a b xs → AppendsPrefix a b xs
AppendsPrefix-all a b xs whole = (length xs, le_refl (length xs), subst (Appends a b) (sym (take-length xs)) whole)

-- All of some bytes are a front of them with more behind.
pub AppendsPrefix-whole : (a b : Option (List ℕ)) (xs ys : List ℕ) → Appends a b xs → AppendsPrefix a b (xs ++ ys)
AppendsPrefix-whole a b xs ys whole =
    (length xs, omega (arith, length-append xs ys), subst (Appends a b) (sym (take-append_seam xs ys)) whole)

-- A front of some bytes is a front of them with more behind.
pub AppendsPrefix-front : (a b : Option (List ℕ)) (xs ys : List ℕ) → AppendsPrefix a b xs → AppendsPrefix a b (xs ++ ys)
AppendsPrefix-front a b xs ys front = (
  front.0,
  omega (arith, length-append xs ys, front.1),
  subst (Appends a b) (sym (take-append-le front.0 xs ys front.1)) front.2,
)

-- All of some bytes and then a front of others are a front of both.
pub AppendsPrefix-then : (a b c : Option (List ℕ)) (xs ys : List ℕ) → Appends a b xs → AppendsPrefix b c ys
    → AppendsPrefix a c (xs ++ ys)
AppendsPrefix-then a b c xs ys whole front = (
  length xs + front.0,
  omega (arith, length-append xs ys, front.1),
  subst (Appends a c) (sym (take-append-add xs ys front.0)) (Appends-trans a b c xs (take front.0 ys) whole front.2),
)
