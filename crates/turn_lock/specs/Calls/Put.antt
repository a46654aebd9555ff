-- What `put` asks.
use Rattle.std.specs.Prelude.{◌≡◌, false, Some}
use Rattle.turn_lock.specs.declared.kept.Kept.{Ghosts}
use Rattle.turn_lock.specs.declared.pass.TurnPass.{TurnPass}
use Rattle.turn_lock.specs.Passes.{view}

-- The value has the lock's ground and the counted list, and no publish is owed, which is so where this turn counted
-- nothing.
pub record IsSettled {K E G : Type 0} {g : Ghosts K E G} (p : TurnPass K E G g) (kept : K) : Type 0 where
  pub ground_is : (view p).footing ≡ Some (g.footing kept)
  pub all_counted : g.entries kept ≡ (view p).seen
  pub cycles : (view p).cycles.owes ≡ false
  pub tickets : (view p).tickets.owes ≡ false
