-- The rule of the lock: what holds between any two steps, of the words, the slot and the views of all seats.
use Rattle.std.specs.Prelude.{◌≡◌, ◌≢◌, ◌⊎◌, ℕ, ◌+◌, ◌%◌, ◌^◌, ◌<◌, ◌≤◌, Bool, true, false, cond, List, [], ◌∷◌, length}
use Rattle.std.specs.Prelude.{All, Contains, sum_by, Option, Some, None}
use mathlib.Core.List.{IsPrefix}
use mathlib.Core.Option.{Option as Maybe, none, some}
use lib.ListN.{get_elem?}
use Rattle.atomic_table.specs.Table.{State}
use Rattle.turn_lock.specs.declared.kept.Shown.{Shown}
use Rattle.turn_lock.specs.declared.TheConstants.{MOST_SEATS}
use Rattle.turn_lock.specs.declared.table.Spot.{Spot}
use Rattle.turn_lock.specs.declared.table.Spot.TheVariants.{Home}
use Rattle.turn_lock.specs.declared.view.Known.{Known}
use Rattle.turn_lock.specs.declared.view.SeatView.{SeatView}
use Rattle.turn_lock.specs.declared.kept.Kept.{Ghosts}
use Rattle.turn_lock.specs.Entries.{of, pick}
use Rattle.turn_lock.specs.Views.{known}

-- where a lock stands: the next ticket and the one that is served, never wrapped, the count of numbers given, the
-- counted list, and what is published
pub record LockState (E : Type 0) : Type 0 where
  pub ticket : ℕ
  pub serving : ℕ
  pub given : ℕ
  pub log : List E
  pub cycles : ℕ
  pub tickets : ℕ

module _ {E : Type 0} where
  -- the published number
  abbrev pub value : Shown → LockState E → ℕ
  value which t = pick which t.cycles t.tickets

  -- the same lock, which publishes this number
  abbrev pub with_value : Shown → ℕ → LockState E → LockState E
  with_value which n t = record t { cycles = pick which n t.cycles; tickets = pick which t.tickets n }

  -- the words: a ticket's word is its remainder, so tickets may wrap
  abbrev pub atomic_words : LockState E → List ℕ
  atomic_words t = t.ticket % 2 ^ 64 ∷ t.serving % 2 ^ 64 ∷ length t.log ∷ t.cycles ∷ t.tickets ∷ []

module _ {E : Type 0} where
  -- this list was seen by the passes of these numbers: the counted list begins with it, and has no more entries of
  -- theirs
  pub record Saw (caller : E → ℕ) (log : List E) (numbers : List ℕ) (seen : List E) : Type 0 where
    pub begins : IsPrefix seen log
    pub own : (pass : ℕ) → Contains numbers pass → of caller pass seen ≡ of caller pass log

  -- the same of a pass that was joined into a seat with these numbers
  pub record Absorbed (caller : E → ℕ) (log : List E) (mine : List ℕ) (absorbed : List ℕ × List E) : Type 0 where
    pub saw : Saw caller log absorbed.0 absorbed.1
    pub within : (pass : ℕ) → Contains absorbed.0 pass → Contains mine pass

  -- this list was seen, and what is told of those that were joined into the seat is so
  pub record Learned (caller : E → ℕ) (log : List E) (mine : List ℕ) (seen : List E) (told : List (List ℕ × List E))
      : Type 0 where
    pub saw : Saw caller log mine seen
    pub absorbed : All (Absorbed caller log mine) told

  -- What is published is not below what the seat knows, nor below what it has seen, unless it owes this publish; and
  -- only the turn's holder owes one
  pub record Posted (published : ℕ) (shown : List E → ℕ) (k : Known) (holds : Bool) (seen : List E) : Type 0 where
    pub knows : k.number ≤ published
    pub current : k.owes ≡ false → shown seen ≤ published
    pub owes : k.owes ≡ true → holds ≡ true

-- 1 if there is one, else 0
abbrev pub one_if_some : Option ℕ → ℕ
one_if_some None = 0
one_if_some (Some n) = 1

-- only a pass's seat has a ticket out, at most one, which is from the served one up to the next one
pub record Queues (serving next : ℕ) (number : Option ℕ) (alive : Bool) : Type 0 where
  pub one : one_if_some number ≤ cond alive 1 0
  pub within : (ticket : ℕ) → number ≡ Some ticket → (serving ≤ ticket) × (ticket < next)

-- a pass's seat knows the ground of the lock; its numbers are given ones, a pass's seat has one, and who keeps count of
-- them is right
pub record Owns {G : Type 0} (footing : G) (next : ℕ) (alive : Bool) (ground : Option G) (mine : List ℕ)
    (kept : Option ℕ) : Type 0 where
  pub ground_is : alive ≡ true → ground ≡ Some footing
  pub given : (pass : ℕ) → Contains mine pass → pass < next
  pub owner : alive ≡ true → (pass : ℕ) × Contains mine pass
  pub counts : (k : ℕ) → kept ≡ Some k → k ≡ next

module _ {E G : Type 0} where
  -- how many tickets a seat has out, and whether it is a pass's
  abbrev pub out : SeatView E G → ℕ
  out v = one_if_some v.number

  abbrev pub living : SeatView E G → ℕ
  living v = cond v.alive 1 0

  -- Two seats have no ticket and no number in common, and do not both keep count of the numbers given
  pub record Apart (v w : SeatView E G) : Type 0 where
    pub tickets : (ticket : ℕ) → v.number ≡ Some ticket → w.number ≡ Some ticket → ⊥
    pub numbers : (pass : ℕ) → Contains v.mine pass → Contains w.mine pass → ⊥
    pub counts : (k l : ℕ) → v.given ≡ Some k → w.given ≡ Some l → ⊥

module _ {K E G : Type 0} where
  -- the slot is away with a seat that holds the turn
  pub record IsOut (homes : List (Maybe (Spot K))) (views : List (SeatView E G)) : Type 0 where
    pub away : homes ≡ none ∷ []
    pub seat : ℕ
    pub holder : SeatView E G
    pub sits : get_elem? views seat ≡ some holder
    pub holds : holder.holds ≡ true

module _ {K E G : Type 0} (m : Ghosts K E G) (footing : G) where
  -- what holds of each seat
  pub record Fits (homes : List (Maybe (Spot K))) (t : LockState E) (v : SeatView E G) : Type 0 where
    pub queue : Queues t.serving t.ticket v.number v.alive
    pub open queue use *
    -- who holds the turn has the served ticket and has seen the counted list, and the slot is away
    pub turn : v.holds ≡ true → (v.number ≡ Some t.serving) × (v.seen ≡ t.log) × (homes ≡ none ∷ [])
    -- what it has seen, and what those had seen that were joined into it
    pub learned : Learned m.caller t.log v.mine v.seen v.absorbed
    pub open learned use *
    pub owns : Owns footing t.given v.alive v.footing v.mine v.given
    pub open owns use *
    pub posted : (which : Shown) → Posted (value which t) (m.shown which) (known which v) v.holds v.seen

  -- the value is at home, with the counted list, all of which is published
  pub record IsHome (homes : List (Maybe (Spot K))) (t : LockState E) : Type 0 where
    pub kept : K
    pub there : homes ≡ some (Home kept) ∷ []
    pub list : m.entries kept ≡ t.log
    pub ground_is : m.footing kept ≡ footing
    pub current : (which : Shown) → m.shown which t.log ≤ value which t

  -- the rule, of a lock with so many passes at most
  pub record Ruled (seats : ℕ) (s : State (Spot K) (SeatView E G)) : Type 0 where
    pub at : LockState E
    pub words_are : s.words ≡ atomic_words at
    -- as many tickets are out as lie from the served one up to the next one, and so few that their remainders differ
    pub as_many : sum_by out s.views + at.serving ≡ at.ticket
    pub few : sum_by living s.views ≤ at.given
    pub most : (at.given ≤ seats) × (seats ≤ MOST_SEATS)
    -- each entry's number is a given one, and nothing is published that the counted list does not have
    pub callers : (pass : ℕ) → at.given ≤ pass → of m.caller pass at.log ≡ []
    pub published : (which : Shown) → value which at ≤ m.shown which at.log
    pub fits : (i : ℕ) (v : SeatView E G) → get_elem? s.views i ≡ some v → Fits s.homes at v
    pub apart : (i j : ℕ) (v w : SeatView E G) → i ≢ j → get_elem? s.views i ≡ some v → get_elem? s.views j ≡ some w
        → Apart v w
    pub slot : IsHome s.homes at ⊎ IsOut s.homes s.views
