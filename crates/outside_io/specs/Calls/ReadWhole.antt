-- What a call of `read_whole` gives, or why it ends without the bytes.
use Rattle.std.specs.Prelude.{◌≡◌, ◌≢◌, ℕ, ◌≤◌, List, length, Option, Result, Err}
use Rattle.outside_io.specs.Bytes.{GivesAll, IsLonger}
use Rattle.outside_io.specs.Faults.{one_more}
use Rattle.outside_io.specs.declared.whole.ReadFault.{ReadFault}
use Rattle.outside_io.specs.declared.whole.ReadFault.TheVariants as fault

-- The bytes that were read of a source are all that it had left, and no more than the limit.
pub record ReadsAll (left left' : Option (List ℕ)) (limit : ℕ) (bytes : List ℕ) : Type 0 where
  pub whole : GivesAll left left' bytes
  pub within : length bytes ≤ limit

-- A whole read of a source that had these bytes left, with its count of faults before and after: it is too long only
-- where more than the limit were left, and it failed exactly where a read did, once. The count never falls.
pub record ReadHasCause {T : Type 0} (left : Option (List ℕ)) (limit before now : ℕ) (result : Result T ReadFault) :
    Type 0 where
  pub long : result ≡ Err fault.TooLong → IsLonger left limit
  pub later : before ≤ now
  pub counted : result ≡ Err fault.Failed → now ≡ one_more before
  pub uncounted : result ≢ Err fault.Failed → now ≡ before
