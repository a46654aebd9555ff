-- What it leaves that the mail of one controller goes aloft.
use Rattle.std.specs.Prelude.{◌≡◌, ℕ, ◌+◌, ◌≤◌, List, length}
use Rattle.cm_model.specs.State.{Loaded, MailAloft}
use Rattle.cm_slots.specs.Mails.{without_sent, with_sent}

-- The mail of this controller is aloft with the cycle of this number, where it is due in it: one at most, in the room
-- that there was.
pub record HasSent (cycle : ℕ) (old new : Loaded) (had has : List MailAloft) (capacity left : ℕ) : Type 0 where
  pub slot : new ≡ without_sent cycle old
  pub mails : has ≡ with_sent cycle old had
  pub one : length has ≤ length had + 1
  pub room : left ≡ capacity
