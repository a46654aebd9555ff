-- What `take` promises.
use Rattle.std.specs.Prelude.{◌≡◌, ℕ, ◌%◌, ◌^◌, true, false, [], ◌∷◌, Contains, Some}
use mathlib.Core.List.{IsPrefix}
use Rattle.atomic_table.specs.Table.{Me}
use Rattle.turn_lock.specs.declared.pass.TurnPass.{TurnPass}
use Rattle.turn_lock.specs.declared.table.Spot.{Spot}
use Rattle.turn_lock.specs.declared.table.Spot.TheVariants.{Away}
use Rattle.turn_lock.specs.declared.view.SeatView.{SeatView}
use Rattle.turn_lock.specs.declared.kept.Kept.{Ghosts}
use Rattle.turn_lock.specs.Entries.{of}
use Rattle.turn_lock.specs.Passes.{view, IsSamePass}
use Rattle.turn_lock.specs.Views.{waiting, at_turn}

-- A turn at this value, of a pass that was p and is now q.
pub record Takes {K E G : Type 0} {g : Ghosts K E G} (p q : TurnPass K E G g) (kept : K) : Type 0 where
  pub same : IsSamePass p q
  pub holds : (view q).holds ≡ true
  -- the value has the lock's ground
  pub ground_is : (view p).footing ≡ Some (g.footing kept)
  -- and the counted list, which begins with what the pass had seen and has no more entries of its number
  pub seen : (view q).seen ≡ g.entries kept
  pub begins : IsPrefix (view p).seen (g.entries kept)
  pub own : of g.caller p.number (g.entries kept) ≡ of g.caller p.number (view p).seen
  -- nothing is counted yet, so no publish is owed
  pub owes_nothing : ((view q).cycles.owes ≡ false) × ((view q).tickets.owes ≡ false)
  -- what else the pass knows stays
  pub turns : (view q).turns ≡ (view p).turns
  pub loads : (view q).loads ≡ (view p).loads
  pub cycles : (view q).cycles ≡ (view p).cycles
  pub tickets : (view q).tickets ≡ (view p).tickets
  pub footing_stays : (view q).footing ≡ (view p).footing

-- ---- What its parts promise each other

module _ {K E G : Type 0} where
  -- a seat that was idle waits with a ticket, whose remainder this is
  pub record Waits (old me : Me (Spot K) (SeatView E G)) (mine : ℕ) : Type 0 where
    pub ticket : ℕ
    pub is : me ≡ (waiting ticket old.0, [])
    pub remainder : ticket % 2 ^ 64 ≡ mine
    pub alive : old.0.alive ≡ true
    pub waits : old.0.holds ≡ false

  -- the seat holds the turn and the emptied slot, and this is the value
  pub record Found (m : Ghosts K E G) (old me : Me (Spot K) (SeatView E G)) (kept : K) : Type 0 where
    pub is : me ≡ (at_turn (m.entries kept) old.0, (0, Away) ∷ [])
    pub begins : IsPrefix old.0.seen (m.entries kept)
    pub own : (pass : ℕ) → Contains old.0.mine pass → of m.caller pass old.0.seen ≡ of m.caller pass (m.entries kept)
    pub ground_is : old.0.footing ≡ Some (m.footing kept)
