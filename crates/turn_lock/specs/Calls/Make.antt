-- What `make` promises.
use Rattle.std.specs.Prelude.{◌≡◌, ℕ, ◌+◌, false, List, [], map, length, All, Option, Some}
use Rattle.std.specs.List.{range_with_len}
use Rattle.turn_lock.specs.declared.kept.Kept.{Ghosts}
use Rattle.turn_lock.specs.declared.lock.TurnLock.{TurnLock}
use Rattle.turn_lock.specs.declared.pass.TurnPass.{TurnPass}
use Rattle.turn_lock.specs.declared.view.SeatView.{SeatView}
use Rattle.turn_lock.specs.Passes.{view, seats_of, IsPassOf}

-- who knows this has taken no turn and seen nothing
pub record IsFresh {E G : Type 0} (footing : Option G) (v : SeatView E G) : Type 0 where
  pub idle : v.holds ≡ false
  pub seen : v.seen ≡ []
  pub turns : v.turns ≡ 0
  pub loads : v.loads ≡ 0
  pub cycles : v.cycles.number ≡ 0
  pub tickets : v.tickets.number ≡ 0
  pub footing_is : v.footing ≡ footing

module _ {K E G : Type 0} {g : Ghosts K E G} where
  -- passes of the lock that are fresh, so many from this number on, in order
  pub record AreFresh (lock : TurnLock K E G) (footing : Option G) (from count : ℕ) (passes : List (TurnPass K E G g)) :
      Type 0 where
    pub numbers : map (λ p. p.number) passes ≡ range_with_len from count
    pub of_lock : All (IsPassOf lock) passes
    pub fresh : All (λ p. IsFresh footing (view p)) passes

  -- those of a lock with so many seats, without the first
  pub record AreOthers (lock : TurnLock K E G) (footing : Option G) (seats : ℕ) (passes : List (TurnPass K E G g)) :
      Type 0 where
    pub count : length passes + 1 ≡ seats
    pub passes_are : AreFresh lock footing 1 (length passes) passes

  -- A lock with so many passes, numbered from 0 in order, which know its ground and have seen nothing yet.
  pub record Made (footing : G) (seats : ℕ) (lock : TurnLock K E G) (passes : List (TurnPass K E G g)) : Type 0 where
    pub seats_are : seats_of lock ≡ seats
    pub passes_are : AreFresh lock (Some footing) 0 seats passes
