-- Lists and rooms of a flight at first, and the round of its cycle.
use Rattle.std.proofs.Common.{◌≡◌, ℕ, zero, suc, ◌+◌, ◌≤◌, true, false, List, [], ◌∷◌, ◌++◌, length}
use Rattle.std.proofs.Common.{take, drop, Option, Some, None, refl, sym, ap, subst, ◌∙◌, arith}
use Rattle.std.specs.Prelude.{vec_len, vec_capacity, is_some, IsSomeAnd}
use Rattle.std.specs.List.{AllByRecursion}
use Rattle.std.proofs.lemmas.List.{drop_all}
use Rattle.std.proofs.Math.Seq.{drop-append_seam, take-append_seam}
use Rattle.cm_storage.specs.declared.record.FailedPart.{FailedPart}
use Rattle.cm_storage.specs.declared.record_room.RecordRoom.{RecordRoom}
use Rattle.rt_flight.specs.Calls.Cells.{CanTurn}
use Rattle.rt_flight.specs.Cells.{CellFacts}
use Rattle.rt_flight.specs.Depths.{depths_of}
use Rattle.rt_flight.specs.Progress.{failed_in_room, round_in}
use Rattle.rt_flight.specs.UnderWay.{HasBegun, HasRoomFor, HasTurned, IsTurning, TellsBut}
use Rattle.rt_flight.specs.declared.context.CycleContext.{CycleContext}

-- ---- Lists

pub drop_more_parts : {A : Type 0} (n m : ℕ) (xs : List A) → drop (n + m) xs ≡ drop m (drop n xs)
drop_more_parts zero m xs = let on : zero + m ≡ m = omega arith in ap (λ k. drop k xs) on
drop_more_parts (suc n) m [] = drop_all (suc n + m) [] (omega arith) ∙ sym (drop_all m [] (omega arith))
drop_more_parts (suc n) m (x ∷ xs) =
    let on : suc n + m ≡ suc (n + m) = omega arith in ap (λ k. drop k (x ∷ xs)) on ∙ drop_more_parts n m xs

-- the front and the rest of two lists that are put together
pub front_is : {A : Type 0} (n : ℕ) (xs ys : List A) → length xs ≡ n → take n (xs ++ ys) ≡ xs
front_is n xs ys long = ap (λ (k : ℕ). take k (xs ++ ys)) (sym long) ∙ take-append_seam xs ys

pub rest_is : {A : Type 0} (n : ℕ) (xs ys : List A) → length xs ≡ n → drop n (xs ++ ys) ≡ ys
rest_is n xs ys long = ap (λ (k : ℕ). drop k (xs ++ ys)) (sym long) ∙ drop-append_seam xs ys

no_less_than_none : (cs : List CellFacts) → AllByRecursion (λ c. 0 ≤ c.depth) cs
no_less_than_none [] = tt
no_less_than_none (c ∷ cs) = (omega arith, no_less_than_none cs)

-- ---- Rooms

-- where both are there, what is known of both
pub some_of_both : (o o' : Option RecordRoom) (P : RecordRoom → Type 0) (T : RecordRoom → RecordRoom → Type 0)
    → IsSomeAnd o P → IsSomeAnd o (λ r. IsSomeAnd o' (T r))
    → (r : RecordRoom) × ((r' : RecordRoom) × ((o ≡ Some r) × ((o' ≡ Some r') × (P r × T r r'))))
some_of_both None o' P T known both = absurd known
some_of_both (Some r) None P T known both = absurd both
some_of_both (Some r) (Some r') P T known both = (r, (r', (refl, (refl, (known, both)))))

some_itself : (o : Option RecordRoom) (P : RecordRoom → Type 0) → IsSomeAnd o P
    → IsSomeAnd o (λ r. IsSomeAnd o (TellsBut r))
some_itself None P known = absurd known
some_itself (Some r) P known = refl

pub some_mapped : (o : Option RecordRoom) (P Q : RecordRoom → Type 0) → ((r : RecordRoom) → P r → Q r) → IsSomeAnd o P
    → IsSomeAnd o Q
some_mapped None P Q over known = absurd known
some_mapped (Some r) P Q over known = over r known

pub some_at : (o : Option RecordRoom) (r : RecordRoom) (P : RecordRoom → Type 0) → o ≡ Some r → P r → IsSomeAnd o P
some_at o r P is known = subst (λ (o : Option RecordRoom). IsSomeAnd o P) (sym is) known

pub at_some : (o : Option RecordRoom) (r : RecordRoom) (P : RecordRoom → Type 0) → o ≡ Some r → IsSomeAnd o P → P r
at_some o r P is known = subst (λ (o : Option RecordRoom). IsSomeAnd o P) is known

-- ---- At first

pub at_first : (number : ℕ) (cells : List CellFacts) (k : CycleContext) (depths : ℕ) → HasBegun number cells k
    → depths ≡ depths_of cells → vec_len k.erred ≡ length k.erred.items
    → IsTurning number cells k
    (record {
      depths = depths;
      scattered = 0;
      gathered = false;
      turned = 0;
      waiting = 0;
      begun = cells;
      read = k;
      left =
          cells;
    })
at_first number cells k depths begun count erred_len = record {
  begun = begun;
  depths = count;
  turned = record {
    context = refl;
    room = some_itself k.room (HasRoomFor number cells k) begun.room;
    turned = record { cells = refl; flying = refl; posts = refl };
    can = some_mapped k.room (HasRoomFor number cells k)
        (λ r. CanTurn (round_in number k) (length k.robot.hardware.loans) cells r.ran (vec_len k.erred)
        (vec_capacity k.erred))
        (λ r has. record {
          timely = begun.timely;
          each = begun.each;
          told = has.told;
          erred = omega (arith, erred_len, ap (λ (ns : List ℕ). length ns) begun.none_erred, begun.equipped.erred);
        }) begun.room;
    capacity = refl;
  };
  later = refl;
  one_depth = tt;
  after = no_less_than_none cells;
  deeper = λ (e : false ≡ true). cc;
  below = λ (e : false ≡ true). cc;
  settled = λ e. (refl, refl);
  within = omega arith;
  as_many = refl;
  many = refl;
}

-- ---- The round

module _ (number : ℕ) (read k : CycleContext) (first later cells begun : List CellFacts)
    (has : HasBegun number begun read) (is : HasTurned number read first later cells k) where
  rooms : (r : RecordRoom)
      × ((r' : RecordRoom)
      × ((read.room ≡ Some r) × ((k.room ≡ Some r') × (HasRoomFor number begun read r × TellsBut r r'))))
  rooms = some_of_both read.room k.room (HasRoomFor number begun read) TellsBut has.room is.room

  failed_same : failed_in_room k.room ≡ failed_in_room read.room
  failed_same =
      ap failed_in_room rooms.1.1.1.0 ∙ ap (λ (r : RecordRoom). r.failed.items) rooms.1.1.1.1.1
      ∙ sym (ap failed_in_room rooms.1.1.0)

  -- the round is the same as after the reads
  pub same_round : round_in number k ≡ round_in number read
  same_round =
      ap (λ (parts : List FailedPart). record {
        number = number;
        period_us = k.robot.period_us;
        placed = k.robot.places;
        related = k.robot.relations;
        failed =
            parts;
      }) failed_same
      ∙ ap (λ (x : CycleContext). record {
        number = number;
        period_us = x.robot.period_us;
        placed = x.robot.places;
        related = x.robot.relations;
        failed =
            failed_in_room read.room;
      }) is.context

  pub room_there : is_some k.room ≡ true
  room_there = ap (λ (o : Option RecordRoom). is_some o) rooms.1.1.1.0

  -- and the cells that are left can have their turns
  pub can_turn : (r : RecordRoom) → k.room ≡ Some r
      → CanTurn (round_in number read) (length k.robot.hardware.loans) later r.ran (vec_len k.erred)
      (vec_capacity k.erred)
  can_turn r there =
      at_some k.room r
      (λ x. CanTurn (round_in number read) (length k.robot.hardware.loans) later x.ran (vec_len k.erred)
      (vec_capacity k.erred)) there is.can

  pub can_turn_somehow : (r : RecordRoom)
      × ((k.room ≡ Some r)
      × CanTurn (round_in number read) (length k.robot.hardware.loans) later r.ran (vec_len k.erred)
      (vec_capacity k.erred))
  can_turn_somehow = (rooms.1.0, (rooms.1.1.1.0, can_turn rooms.1.0 rooms.1.1.1.0))
