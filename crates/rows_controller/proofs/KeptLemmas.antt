-- What is not some is none.
use Rattle.std.proofs.Common.{◌≡◌, false, refl}
use Rattle.std.specs.Prelude.{Option, Some, None, is_some}

pub none_of : {A : Type 0} (o : Option A) → is_some o ≡ false → None ≡ o
none_of None h = refl
none_of (Some x) h = cc
