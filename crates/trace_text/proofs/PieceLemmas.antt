-- A piece that a sink takes in two parts.
use Rattle.std.proofs.Common.{ℕ, ◌-◌, List, Option, length, take, drop, subst, take-append-drop}
use Rattle.std.specs.Prelude.{Result, Ok, Err, OnErr}
use Rattle.std.proofs.lemmas.List.{take_rest}
use Rattle.std.specs.Io.KnownBytes.{Appends}
use Rattle.outside_io.specs.Bytes.{AppendsPrefix}
use Rattle.outside_io.proofs.Prefixes.{AppendsPrefix-then}

-- a front of it was taken, and then a front of the rest, where the second call failed
pub cut_in_two : {T E : Type 0} (a b c : Option (List ℕ)) (piece : List ℕ) (n : ℕ) (result : Result T E)
    → Appends a b (take n piece)
    → OnErr result (AppendsPrefix b c (take (length piece - n) (drop n piece))) → OnErr result (AppendsPrefix a c piece)
cut_in_two a b c piece n (Ok x) front rest = rest
cut_in_two a b c piece n (Err e) front rest =
    subst (AppendsPrefix a c) (take-append-drop n piece)
    (AppendsPrefix-then a b c (take n piece) (drop n piece) front (rw (take_rest piece n) at rest))
