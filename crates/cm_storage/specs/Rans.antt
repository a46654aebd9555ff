-- How the updated controllers of a cycle are kept flat: a head for each, and all values and numbers one after another.
use Rattle.std.specs.Prelude.{◌≡◌, ℤ, List, [], ◌∷◌, length, take, drop, sum_by}
use Rattle.fixed_num.specs.declared.value.Value.{Value}
use Rattle.cm_storage.specs.Ran.{Ran}
use Rattle.cm_storage.specs.declared.ran.RanHead.{RanHead}
use Rattle.cm_storage.specs.declared.ran.RanRef.{RanRef}

-- each head takes as many values and numbers as it counts
abbrev pub rans : List RanHead → List Value → List ℤ → List Ran
rans [] values numbers = []
rans (h ∷ hs) values numbers =
    record { serial = h.serial; done = h.done; outs = take h.outs values; published = take h.published numbers }
    ∷ rans hs (drop h.outs values) (drop h.published numbers)

-- the heads count all values and all numbers
pub record IsWhole (heads : List RanHead) (values : List Value) (numbers : List ℤ) : Type 0 where
  pub outs : sum_by (λ h. h.outs) heads ≡ length values
  pub published : sum_by (λ h. h.published) heads ≡ length numbers

-- one of these, as it is handed out
abbrev pub ran_of : RanRef → Ran
ran_of ran = record { serial = ran.serial; done = ran.done; outs = ran.outs.now; published = ran.published.now }
