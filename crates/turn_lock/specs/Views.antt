-- What a seat knows, and what it knows after each kind of step.
use Rattle.std.specs.Prelude.{ℕ, ◌+◌, max, true, false, cond, ltb, List, [], ◌∷◌, ◌++◌, length, Option, Some, None}
use Rattle.turn_lock.specs.declared.kept.Shown.{Shown}
use Rattle.turn_lock.specs.declared.view.Known.{Known}
use Rattle.turn_lock.specs.declared.view.SeatView.{SeatView}
use Rattle.turn_lock.specs.Entries.{pick}

-- nothing is known of a published number, and none is owed
abbrev pub unknown : Known
unknown = record { number = 0; owes = false }

-- a count that may be unknown, and one more
abbrev pub one_more : Option ℕ → Option ℕ
one_more None = None
one_more (Some n) = Some (n + 1)

-- the number, if there is one
abbrev pub if_any : Option ℕ → List ℕ
if_any None = []
if_any (Some n) = n ∷ []

-- the longer of two lists
abbrev pub longer : {E : Type 0} → List E → List E → List E
longer xs ys = cond (ltb (length xs) (length ys)) ys xs

-- the first count, or the second if the first is none
abbrev pub either_count : Option ℕ → Option ℕ → Option ℕ
either_count None b = b
either_count (Some n) b = Some n

-- the greater of what both know
abbrev pub better : Known → Known → Known
better k l = record { number = max k.number l.number; owes = false }

module _ {E G : Type 0} where
  -- what a seat knows of one of the published numbers
  abbrev pub known : Shown → SeatView E G → Known
  known which v = pick which v.cycles v.tickets

  -- the same seat, which knows this of that published number
  abbrev pub with_known : Shown → Known → SeatView E G → SeatView E G
  with_known which k v = record v { cycles = pick which k v.cycles; tickets = pick which v.tickets k }

  -- the seat of pass 0, before any other: it has seen the empty list, and keeps count of the numbers given
  abbrev pub first_view : G → SeatView E G
  first_view footing = record {
    alive = true;
    number = None;
    holds = false;
    turns = 0;
    loads = 0;
    seen = [];
    footing = Some footing;
    mine = 0 ∷ [];
    given = Some 1;
    cycles = unknown;
    tickets = unknown;
    absorbed = [];
  }

  -- ---- Steps of one seat

  -- draw: it waits with this ticket
  abbrev pub waiting : ℕ → SeatView E G → SeatView E G
  waiting ticket v = record v { number = Some ticket }

  -- a look that found its ticket: it holds the turn, and has seen the counted list
  abbrev pub at_turn : List E → SeatView E G → SeatView E G
  at_turn list v = record v { holds = true; seen = list }

  -- count: it has seen the value's list, and owes both publishes
  abbrev pub counted : List E → SeatView E G → SeatView E G
  counted list v = record v {
    seen = list;
    cycles = record v.cycles { owes = true };
    tickets = record v.tickets { owes = true };
  }

  -- publish: it no longer owes this number
  abbrev pub published : Shown → SeatView E G → SeatView E G
  published which v = with_known which (record (known which v) { owes = false }) v

  -- load: it knows the number that it found, and has loaded once more
  abbrev pub loaded : Shown → ℕ → SeatView E G → SeatView E G
  loaded which n v = with_known which (record (known which v) { number = n }) (record v { loads = v.loads + 1 })

  -- pass on: it has no ticket, and has taken one turn more
  abbrev pub passed_on : SeatView E G → SeatView E G
  passed_on v = record v { number = None; holds = false; turns = v.turns + 1 }

  -- ---- A seat is cut in two

  -- the seat that keeps count has given one number more
  abbrev pub dealer : SeatView E G → SeatView E G
  dealer v = record v { given = one_more v.given }

  -- and the new seat has that number, has seen what the other has, and has no entries yet
  abbrev pub dealt : SeatView E G → SeatView E G
  dealt v = record v { turns = 0; loads = 0; mine = if_any v.given; given = None; absorbed = [] }

  -- ---- A seat is joined into another

  -- it has the longer list, the numbers of both, the greater of what both know and the count if either kept it, and
  -- remembers what each had seen
  abbrev pub joined : SeatView E G → SeatView E G → SeatView E G
  joined v w = record v {
    number = None;
    holds = false;
    seen = longer v.seen w.seen;
    mine = v.mine ++ w.mine;
    given = either_count v.given w.given;
    cycles = better v.cycles w.cycles;
    tickets = better v.tickets w.tickets;
    absorbed = (v.mine, v.seen) ∷ (w.mine, w.seen) ∷ (v.absorbed ++ w.absorbed);
  }

  -- a seat that was joined into another
  abbrev pub spent : SeatView E G
  spent = record {
    alive = false;
    number = None;
    holds = false;
    turns = 0;
    loads = 0;
    seen = [];
    footing = None;
    mine = [];
    given = None;
    cycles = unknown;
    tickets = unknown;
    absorbed = [];
  }
