-- What `count` asks.
use Rattle.std.specs.Prelude.{◌≡◌, ◌<◌, [], ◌∷◌, ◌++◌, length}
use Rattle.turn_lock.specs.declared.kept.Kept.{Ghosts}
use Rattle.turn_lock.specs.declared.pass.TurnPass.{TurnPass}
use Rattle.turn_lock.specs.declared.TheConstants.{TOO_MANY_ENTRIES}
use Rattle.turn_lock.specs.Passes.{view}

-- The value's list is the counted one and one entry of this pass, and is not too long.
pub record AddsOne {K E G : Type 0} {g : Ghosts K E G} (p : TurnPass K E G g) (kept : K) : Type 0 where
  pub entry : E
  pub list : g.entries kept ≡ (view p).seen ++ entry ∷ []
  pub caller : g.caller entry ≡ p.number
  pub room : length (g.entries kept) < TOO_MANY_ENTRIES
