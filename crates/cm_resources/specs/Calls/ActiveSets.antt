-- What becomes of who is active, as it is looked up.
use Rattle.std.specs.Prelude.{◌≡◌, ℕ, true, List}
use Rattle.cm_model.specs.declared.member.Member.{Member}
use Rattle.cm_resources.specs.ActiveSet.{Listed, AreAt}

-- These are the members in order from now on, and where they stand among these serials is known; the same are active.
pub record IsPut (serials : List ℕ) (members : List Member) (before after : Listed) : Type 0 where
  pub active : after.active ≡ before.active
  pub order : after.order ≡ members
  pub run : AreAt serials members after.run
  pub current : after.current ≡ true

-- Where the members stand among these serials is looked up anew, if their order is the one of now; nothing else has
-- changed.
pub record IsIndexedAnew (serials : List ℕ) (before after : Listed) : Type 0 where
  pub active : after.active ≡ before.active
  pub order : after.order ≡ before.order
  pub run : before.current ≡ true → AreAt serials before.order after.run
  pub current : after.current ≡ before.current
