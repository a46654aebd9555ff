-- What a flight shows of itself, and what it keeps, as its parts are called.
use Rattle.std.proofs.Common.{◌≡◌, ℕ, ◌+◌, ◌<◌, ◌≤◌, Bool, true, false, List, [], ◌∷◌, ◌++◌, length, map}
use Rattle.std.proofs.Common.{take, drop, Option, Some, None, refl, sym, ap, ap₂, subst, ◌∙◌, arith}
use Rattle.std.specs.Prelude.{vec_len, is_some, IfSome, IsSomeAnd}
use Rattle.std.specs.List.{AllByRecursion}
use Rattle.std.proofs.lemmas.List.{length-append, length-drop, take-append-drop, take-append-le}
use Rattle.std.proofs.lemmas.Option.{same_Some}
use Rattle.cm_model.specs.State.{State}
use Rattle.cm_storage.specs.Happened.{Happened}
use Rattle.cm_storage.specs.declared.ran.Done.{Done}
use Rattle.cm_places.specs.Placed.{Placed}
use Rattle.rt_flight.specs.Calls.Parts.{waiting_of, with_waiting, CanComplete, CanGather}
use Rattle.rt_flight.specs.Calls.Parts.{HasGathered, HasScattered, HasStarted, Waits}
use Rattle.rt_flight.specs.Calls.Turns.{Begins, HaveAllTurned, Scatters}
use Rattle.rt_flight.specs.Cells.{CellFacts, Flying, all_put, cell_put, cell_read, flying_put, CanMakeStep}
use Rattle.rt_flight.specs.Flights.{FlightFacts, facts_with}
use Rattle.rt_flight.specs.Progress.{Progress, flying_in, round_in, shown}
use Rattle.rt_flight.specs.UnderWay.{with_lent, HasBegunOf, IsDone, IsFlight, IsFresh, IsTurning, IsUnderWay}
use Rattle.rt_flight.specs.declared.context.CycleContext.{CycleContext}
use Rattle.rt_flight.proofs.PartsLemmas.{lent_back}
use Rattle.rt_flight.proofs.WayLemmas.{all_turned, can_step, lent}
use Rattle.rt_flight.proofs.RoundLemmas.{at_first}

-- ---- What is shown

pub not_shown : (b : Bool) (p : Progress) → shown b p ≡ None → b ≡ false
not_shown true p none = cc
not_shown false p none = refl

pub shown_some : (b : Bool) (p : Progress) (Q : Progress → Type 0) → IsSomeAnd (shown b p) Q → (b ≡ true) × Q p
shown_some true p Q holds = (refl, holds)
shown_some false p Q holds = absurd holds

pub shown_is : (b : Bool) (p q : Progress) → shown b p ≡ Some q → (b ≡ true) × (p ≡ q)
shown_is true p q is = (refl, same_Some p q is)
shown_is false p q is = cc

pub if_shown : (b : Bool) (p : Progress) (Q : Progress → Type 0) → (b ≡ true → Q p) → IfSome (shown b p) Q
if_shown true p Q holds = holds refl
if_shown false p Q holds = tt

pub is_shown : (b : Bool) (p : Progress) → is_some (shown b p) ≡ b
is_shown true p = refl
is_shown false p = refl

pub told_some : (o : Option Happened) → o ≡ None → is_some o ≡ true → ⊥
told_some None none some = cc
told_some (Some told) none some = cc

-- ---- What is kept

-- a flight that was not started
pub flight_fresh : (number : ℕ) (cells : List CellFacts) (k : CycleContext) (p : Progress) → IsFresh number cells k
    → IsFlight number cells k false p
flight_fresh number cells k p fresh = record {
  fresh = λ no_more. fresh;
  turning = λ (e : false ≡ true). cc;
  done = λ some. absurd (told_some k.record fresh.not_yet some);
}

-- one that is under way
pub flight_turning : (number : ℕ) (cells : List CellFacts) (k : CycleContext) (p : Progress) → k.record ≡ None
    → IsTurning number cells k p → IsFlight number cells k true p
flight_turning number cells k p none turning = record {
  fresh = λ (e : true ≡ false). cc;
  turning = λ truly none. turning;
  done = λ some. absurd (told_some k.record none some);
}

-- and one that is computed
pub flight_done : (number : ℕ) (cells : List CellFacts) (k : CycleContext) (p : Progress) → is_some k.record ≡ true
    → IsDone cells k → IsFlight number cells k true p
flight_done number cells k p some done = record {
  fresh = λ (e : true ≡ false). cc;
  turning = λ truly none. absurd (told_some k.record none some);
  done = λ told. done;
}

-- whatever stands in place of the cells that wait
pub flight_lent : (number : ℕ) (cells cells' : List CellFacts) (k : CycleContext) (b : Bool) (p : Progress) → b ≡ true
    → k.record ≡ None → p.gathered ≡ true → length cells' ≡ length cells
    → IsFlight number cells k b p → IsFlight number cells' k b p
flight_lent number cells cells' k true p started none truly long is =
    flight_turning number cells' k p none (lent number cells k p (is.turning refl none) truly cells' long)
flight_lent number cells cells' k false p started none truly long is = cc

pub shown_fresh : (b : Bool) (p : Progress) → b ≡ false → shown b p ≡ None
shown_fresh true p fresh = cc
shown_fresh false p fresh = refl

pub shown_if : (b : Bool) (p : Progress) (Q : Progress → Type 0) → b ≡ true → IfSome (shown b p) Q → Q p
shown_if true p Q started holds = holds
shown_if false p Q started holds = cc

pub flight_at_first : (number : ℕ) (cells : List CellFacts) (k : CycleContext) (b : Bool) (p : Progress) → b ≡ false
    → IsFresh number cells k → IsFlight number cells k b p
flight_at_first number cells k true p none fresh = cc
flight_at_first number cells k false p none fresh = flight_fresh number cells k p fresh

pub flight_on : (number : ℕ) (cells : List CellFacts) (k : CycleContext) (b : Bool) (p : Progress) → b ≡ true
    → k.record ≡ None → IsTurning number cells k p → IsFlight number cells k b p
flight_on number cells k true p started none turning = flight_turning number cells k p none turning
flight_on number cells k false p started none turning = cc

-- ---- What its conditions say

module _ (number : ℕ) (cells : List CellFacts) (k : CycleContext) (b : Bool) (p : Progress) where
  abbrev pub seen : FlightFacts
  seen = facts_with number cells k (shown b p)

  module _ (depth : ℕ) (waits : Waits depth seen) where
    at_depth : (b ≡ true) × ((p.gathered ≡ true) × (p.scattered ≡ depth))
    at_depth = shown_some b p (λ x. (x.gathered ≡ true) × (x.scattered ≡ depth)) waits.1

    pub started_of : b ≡ true
    started_of = at_depth.0

    pub waits_of : p.gathered ≡ true
    waits_of = at_depth.1.0

    pub depth_of : p.scattered ≡ depth
    depth_of = at_depth.1.1

  pub before_depth : (depth : ℕ) → CanGather depth seen
      → (b ≡ true) × ((p.gathered ≡ false) × ((p.scattered ≡ depth) × (depth < p.depths)))
  before_depth depth may =
      shown_some b p (λ x. (x.gathered ≡ false) × ((x.scattered ≡ depth) × (depth < x.depths))) may.1

  pub turning_of : IsFlight number cells k b p → b ≡ true → k.record ≡ None → IsTurning number cells k p
  turning_of flight started none = flight.turning started none

  pub steps_of : IsFlight number cells k b p → b ≡ true → k.record ≡ None → cells ≡ p.left
      → AllByRecursion CanMakeStep (waiting_of p cells)
  steps_of flight started none same = can_step number cells k p (flight.turning started none) same

  pub all_turned_of : IsFlight number cells k b p → CanComplete seen → HaveAllTurned number p.begun cells p.read k
  all_turned_of flight may =
      let last = shown_some b p (λ x. (x.gathered ≡ false) × (x.scattered ≡ x.depths)) may.1 in
      all_turned number cells k p (flight.turning last.0 may.0) last.1.0 last.1.1

  pub begun_in : (s : State) → IsUnderWay s seen → HasBegunOf s number p.begun p.read
  begun_in s way = (shown_some b p (λ x. HasBegunOf s number x.begun x.read) way.begun).1

-- ---- Lent

lent_items : {A : Type 0} (len n : ℕ) (xs ws : List A) → length xs ≡ len
    → take len ((take n xs ++ (ws ++ drop (length ws) (drop n xs)))
    ++ drop (length (take n xs ++ (ws ++ drop (length ws) (drop n xs)))) xs)
    ≡ take (length xs) (take n xs ++ (ws ++ drop (length ws) (drop n xs)))
lent_items {A} len n xs ws long =
    let filled : List A = take n xs ++ (ws ++ drop (length ws) (drop n xs)) in
    let whole : length xs ≡ length (take n xs) + length (drop n xs) =
    ap (λ (ys : List A). length ys) (sym (take-append-drop n xs)) ∙ length-append (take n xs) (drop n xs) in
    let enough : length xs ≤ length filled =
    omega (
      arith,
      whole,
      length-append (take n xs) (ws ++ drop (length ws) (drop n xs)),
      length-append ws (drop (length ws) (drop n xs)),
      length-drop (length ws) (drop n xs),
    ) in
    ap (λ (k : ℕ). take k (filled ++ drop (length filled) xs)) (sym long)
    ∙ take-append-le (length xs) filled (drop (length filled) xs) enough

-- the flight that is lent shows what stands in place of the cells that wait
pub lent_facts : (number len : ℕ) (items ws : List CellFacts) (k : CycleContext) (b : Bool) (p : Progress) → b ≡ true
    → length items ≡ len
    → facts_with number
    (take len ((take p.turned items ++ (ws ++ drop (length ws) (drop p.turned items)))
    ++ drop (length (take p.turned items ++ (ws ++ drop (length ws) (drop p.turned items)))) items)) k (shown b p)
    ≡ with_lent (facts_with number items k (shown b p)) ws
lent_facts number len items ws k true p started long =
    ap (λ (xs : List CellFacts). facts_with number xs k (Some p)) (lent_items len p.turned items ws long)
lent_facts number len items ws k false p started long = cc

-- what came back in place of the cells from one on
pub items_back : (len n m : ℕ) (xs ws : List CellFacts) → length xs ≡ len → length ws ≡ length (take m (drop n xs))
    → take len ((take n xs ++ (ws ++ drop (length ws) (drop n xs)))
    ++ drop (length (take n xs ++ (ws ++ drop (length ws) (drop n xs)))) xs) ≡ take n xs ++ (ws ++ drop m (drop n xs))
items_back len n m xs ws long as_many = lent_items len n xs ws long ∙ lent_back n m xs ws as_many

-- ---- Gathered and scattered

-- what is kept of the cells is what they are
pub gathered_with : (number : ℕ) (cells : List CellFacts) (k : CycleContext) (p : Progress) (count : ℕ)
    (left : List CellFacts) → left ≡ cells
    → IsTurning number cells k (record p { gathered = true; waiting = count; left = cells })
    → IsTurning number cells k (record p { gathered = true; waiting = count; left = left })
gathered_with number cells k p count left same =
    subst (λ (xs : List CellFacts). IsTurning number cells k (record p { gathered = true; waiting = count; left = xs }))
    (sym same)

-- and another depth gave out
pub scattered_with : (number : ℕ) (cells : List CellFacts) (k : CycleContext) (p : Progress) (depth : ℕ)
    (left : List CellFacts) → p.scattered ≡ depth → left ≡ cells
    → IsTurning number cells k
    (record p {
      scattered = p.scattered + 1;
      gathered = false;
      turned = p.turned + p.waiting;
      waiting = 0;
      left =
          cells;
    })
    → IsTurning number cells k
    (record p { scattered = depth + 1; gathered = false; turned = p.turned + p.waiting; waiting = 0; left = left })
scattered_with number cells k p depth left here same is =
    subst (λ (n : ℕ). IsTurning number cells k
    (record p { scattered = n + 1; gathered = false; turned = p.turned + p.waiting; waiting = 0; left = left })) here
    (subst (λ (xs : List CellFacts). IsTurning number cells k
    (record p { scattered = p.scattered + 1; gathered = false; turned = p.turned + p.waiting; waiting = 0; left = xs }))
    (sym same) is)

pub gathered_seen : (depth : ℕ) (p q : Progress) (f f' new : FlightFacts) → p ≡ q → f ≡ f' → HasGathered depth p f new
    → HasGathered depth q f' new
gathered_seen depth p q f f' new same seen has =
    subst (λ (x : FlightFacts). HasGathered depth q x new) seen
    (subst (λ (x : Progress). HasGathered depth x f new) same has)

pub scattered_seen : (p q : Progress) (f f' new : FlightFacts) → p ≡ q → f ≡ f' → HasScattered p f new
    → HasScattered q f' new
scattered_seen p q f f' new same seen has =
    subst (λ (x : FlightFacts). HasScattered q x new) seen (subst (λ (x : Progress). HasScattered x f new) same has)

pub has_gathered : (depth number : ℕ) (cells cells' : List CellFacts) (k : CycleContext) (b : Bool) (p : Progress)
    (count : ℕ) (left : List CellFacts) → b ≡ true → left ≡ cells'
    → AllByRecursion (λ c. c.depth ≡ depth) (take count (drop p.turned cells))
    → AllByRecursion (λ c. depth < c.depth) (drop count (drop p.turned cells))
    → cells' ≡ take p.turned cells
    ++ (map (cell_read (round_in number p.read) k.robot.hardware.loans) (take count (drop p.turned cells))
    ++ drop count (drop p.turned cells))
    → HasGathered depth p (facts_with number cells k (shown b p))
    (facts_with number cells' k (shown b (record p { gathered = true; waiting = count; left = left })))
has_gathered depth number cells cells' k true p count left started same one deeper came = record {
  count = count;
  one_depth = one;
  deeper = deeper;
  progress = ap (λ (xs : List CellFacts). Some (record p { gathered = true; waiting = count; left = xs })) same;
  cells = came;
  same = refl;
}
has_gathered depth number cells cells' k false p count left started same one deeper came = cc

put_so : (placed : Placed) (o : Option Done) (c : CellFacts) (f : Flying)
    → record (flying_put placed (record c { done = o }) f) { ran = [] }
    ≡ record (flying_put placed (record c { done = o }) (record f { ran = [] })) { ran = [] }
put_so placed None c f = refl
put_so placed (Some answer) c f = refl

put_less : (placed : Placed) (c : CellFacts) (f : Flying)
    → record (flying_put placed c f) { ran = [] } ≡ record (flying_put placed c (record f { ran = [] })) { ran = [] }
put_less placed c f = put_so placed c.done c f

-- what is put does not go by what is told
all_less : (placed : Placed) (cs : List CellFacts) (f : Flying)
    → record (all_put placed cs f) { ran = [] } ≡ record (all_put placed cs (record f { ran = [] })) { ran = [] }
all_less placed [] f = refl
all_less placed (c ∷ cs) f =
    all_less placed cs (flying_put placed c f)
    ∙ ap (λ (x : Flying). record (all_put placed cs x) { ran = [] }) (put_less placed c f)
    ∙ sym (all_less placed cs (flying_put placed c (record f { ran = [] })))

pub has_scattered : (number : ℕ) (cells cells' puts : List CellFacts) (k k' : CycleContext) (b : Bool) (p : Progress)
    (scattered : ℕ) (left : List CellFacts) → b ≡ true → left ≡ cells' → scattered ≡ p.scattered + 1
    → Scatters (waiting_of p cells) puts k k' → cells' ≡ with_waiting p cells (map cell_put (waiting_of p cells))
    → HasScattered p (facts_with number cells k (shown b p))
    (facts_with number cells' k'
    (shown b (record p
    { scattered = scattered; gathered = false; turned = p.turned + p.waiting; waiting = 0; left = left })))
has_scattered number cells cells' puts k k' true p scattered left started same more is came =
    let less = ap (λ (x : Flying). record x { ran = [] }) is.flying
    ∙ all_less k.robot.places (waiting_of p cells) (flying_in k) in
    record {
      cells = came;
      board = ap (λ (x : Flying). x.hardware) less;
      erred = ap (λ (x : Flying). x.erred) less;
      progress = ap₂
          (λ (n : ℕ) (xs : List CellFacts). Some
          (record p { scattered = n; gathered = false; turned = p.turned + p.waiting; waiting = 0; left = xs })) more
          same;
      same = ap (λ (x : CycleContext). facts_with number cells' x
          (Some (record p
          { scattered = scattered; gathered = false; turned = p.turned + p.waiting; waiting = 0; left = left })))
          is.context;
    }
has_scattered number cells cells' puts k k' false p scattered left started same more is came = cc

-- ---- At first

module _ (number : ℕ) (cells cells' : List CellFacts) (k k' : CycleContext) (depths : ℕ)
    (begins : Begins number cells cells' k k' depths) (none : k.record ≡ None) where
  record_none : k'.record ≡ None
  record_none = ap (λ (x : CycleContext). x.record) begins.context ∙ none

  -- the turns begin with these cells and in this context
  module _ (begun left : List CellFacts) (read : CycleContext) (begun_is : begun ≡ cells') (left_is : left ≡ cells')
      (read_is : read ≡ k') where
    abbrev pub first : Progress
    first = record {
      depths = depths;
      scattered = 0;
      gathered = false;
      turned = 0;
      waiting = 0;
      begun = begun;
      read = read;
      left =
          left;
    }

    pub kept_at_first : vec_len k'.erred ≡ length k'.erred.items → IsFlight number cells' k' true first
    kept_at_first long =
        subst (λ (xs : List CellFacts). IsFlight number cells' k' true (record first { begun = xs })) (sym begun_is)
        (subst (λ (xs : List CellFacts). IsFlight number cells' k' true (record first { begun = cells'; left = xs }))
        (sym left_is)
        (subst (λ (x : CycleContext). IsFlight number cells' k' true
        (record first { begun = cells'; left = cells'; read = x })) (sym read_is)
        (flight_turning number cells' k' (record first { begun = cells'; left = cells'; read = k' }) record_none
        (at_first number cells' k' depths begins.begun begins.count long))))

    pub way_at_first : (s : State) → HasBegunOf s number cells' k'
        → IsUnderWay s (facts_with number cells' k' (Some first))
    way_at_first s of = record {
      begun = subst (λ (xs : List CellFacts). HasBegunOf s number xs read) (sym begun_is)
          (subst (HasBegunOf s number cells') (sym read_is) of);
      not_yet = record_none;
    }

    pub started_at_first : HasStarted (facts_with number cells k None) (facts_with number cells' k' (Some first))
    started_at_first = record {
      first = record { scattered = refl; gathered = refl; turned = refl; deepened = begins.deepened; begun = begun_is };
      not_yet = record_none;
      same = ap (λ (x : CycleContext). facts_with number cells' x (Some first)) begins.context;
    }
