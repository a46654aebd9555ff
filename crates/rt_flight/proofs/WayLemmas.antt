-- The way of a flight that was started: what it keeps from call to call.
use Rattle.std.proofs.Common.{◌≡◌, ℕ, ◌+◌, ◌<◌, ◌≤◌, ◌^◌, true, false, List, [], ◌++◌, length, map, take}
use Rattle.std.proofs.Common.{drop, Some, refl, sym, ap, ap₂, subst, ◌∙◌, arith, append_assoc, true≢false}
use Rattle.std.specs.Prelude.{vec_len, vec_capacity, is_some, IsSomeAnd}
use Rattle.std.specs.List.{AllByRecursion}
use Rattle.std.proofs.lemmas.List.{append-nil, drop-map, length-append, length-drop, length-map}
use Rattle.std.proofs.lemmas.List.{length-take-le, map-append, take-append-drop, take-map}
use Rattle.std.proofs.Math.Seq.{take-add}
use Rattle.cm_storage.specs.declared.record_room.RecordRoom.{RecordRoom}
use Rattle.cm_places.specs.Placed.{Placed, placed_of}
use Rattle.cm_slots.specs.Updates.{Aloft, IsTimely}
use Rattle.switch_plan.specs.Relations.{Related}
use Rattle.rt_flight.specs.Calls.Cells.{CanPutAll, CanTurn, LeavesPut}
use Rattle.rt_flight.specs.Calls.Depths.{StartsElsewhere}
use Rattle.rt_flight.specs.Calls.Parts.{waiting_of, with_waiting, HaveMadeSteps}
use Rattle.rt_flight.specs.Calls.Turns.{Scatters, HaveAllTurned}
use Rattle.rt_flight.specs.Cells.{CellFacts, Flying, Post, all_flown, all_numbers, all_outs}
use Rattle.rt_flight.specs.Cells.{all_put, cell_put, cell_read, cell_run, cells_after}
use Rattle.rt_flight.specs.Cells.{post_of, CanFly, CanMakeStep, CanStep, NonePrecedes, TellsApart}
use Rattle.rt_flight.specs.Depths.{depths_of, IsLayered}
use Rattle.rt_flight.specs.Progress.{Progress, flying_in, round_in}
use Rattle.rt_flight.specs.UnderWay.{HasTurned, IsTurning, TellsBut}
use Rattle.rt_flight.specs.Workspaces.{IsConnectedTo}
use Rattle.rt_flight.specs.declared.context.CycleContext.{CycleContext}
use Rattle.rt_flight.proofs.ApartLemmas.{tells_apart}
use Rattle.rt_flight.proofs.LayerLemmas.{all_apart, reads_itself, together, IsTogether}
use Rattle.rt_flight.proofs.PutDownLemmas.{deeper_from, layered_parts, none_in_layer, none_left}
use Rattle.rt_flight.proofs.RankLemmas.{all_weaker}
use Rattle.rt_flight.proofs.TurnLemmas.{all_by_posts, all_parts, cells_append, connected_by, count_by, each_of}
use Rattle.rt_flight.proofs.TurnLemmas.{few_outs_by, few_states_by, flown_append, numbers_append, numbers_by}
use Rattle.rt_flight.proofs.TurnLemmas.{outs_append, outs_by, put_posts, read_can_steps, read_posts}
use Rattle.rt_flight.proofs.RoundLemmas.{at_some, can_turn_somehow, drop_more_parts, front_is, rest_is}
use Rattle.rt_flight.proofs.RoundLemmas.{room_there, same_round, some_at, some_mapped, some_of_both}

-- ---- A flight under way

module _ (number : ℕ) (cells : List CellFacts) (k : CycleContext) (p : Progress) (is : IsTurning number cells k p) where
  abbrev a : Aloft
  a = round_in number p.read

  -- the cells that are left to have their turns, those of them that wait, and the others
  abbrev pub left_over : List CellFacts
  left_over = drop p.turned p.begun

  abbrev pub layer : List CellFacts
  layer = take p.waiting left_over

  abbrev pub others : List CellFacts
  others = drop p.waiting left_over

  abbrev pub has_read : List CellFacts
  has_read = map (cell_read a k.robot.hardware.loans) layer

  pub round_now : round_in number k ≡ a
  round_now = same_round number p.read k (take p.turned p.begun) left_over (take p.turned p.left) p.begun is.begun
      is.turned

  pub room_now : is_some k.room ≡ true
  room_now = room_there number p.read k (take p.turned p.begun) left_over (take p.turned p.left) p.begun is.begun
      is.turned

  can : (r : RecordRoom)
      × ((k.room ≡ Some r)
      × CanTurn a (length k.robot.hardware.loans) left_over r.ran (vec_len k.erred) (vec_capacity k.erred))
  can = can_turn_somehow number p.read k (take p.turned p.begun) left_over (take p.turned p.left) p.begun is.begun
      is.turned

  front_long : length (take p.turned p.left) ≡ p.turned
  front_long = length-take-le p.turned p.left (omega (arith, is.within, is.as_many))

  layer_long : length layer ≡ p.waiting
  layer_long = length-take-le p.waiting left_over (omega (arith, is.within, length-drop p.turned p.begun))

  read_long : length has_read ≡ p.waiting
  read_long = length-map layer (cell_read a k.robot.hardware.loans) ∙ layer_long

  -- each that is left can be updated
  pub each_left : AllByRecursion (CanFly a.placed a.related a.period_us (length k.robot.hardware.loans)) left_over
  each_left = can.1.1.each

  each_parts : AllByRecursion (CanFly a.placed a.related a.period_us (length k.robot.hardware.loans)) layer
      × AllByRecursion (CanFly a.placed a.related a.period_us (length k.robot.hardware.loans)) others
  each_parts = all_parts (CanFly a.placed a.related a.period_us (length k.robot.hardware.loans)) layer others
      (subst (AllByRecursion (CanFly a.placed a.related a.period_us (length k.robot.hardware.loans)))
      (sym (take-append-drop p.waiting left_over)) each_left)

  waiting_left : waiting_of p p.left ≡ has_read
  waiting_left = ap (take p.waiting) is.later ∙ front_is p.waiting has_read others read_long

  -- ---- Before a depth

  -- the cells stand as they began
  pub stand_as_begun : p.gathered ≡ false → drop p.turned cells ≡ left_over
  stand_as_begun none =
      let settled = is.settled none in
      ap (drop p.turned) settled.1 ∙ is.later
      ∙ ap (λ (m : ℕ). map (cell_read a k.robot.hardware.loans) (take m left_over) ++ drop m left_over) settled.0

  pub depths_left : p.gathered ≡ false
      → IsLayered p.read.robot.relations (drop p.turned cells)
      × AllByRecursion (λ c. p.scattered ≤ c.depth) (drop p.turned cells)
  depths_left none = (
    subst (IsLayered p.read.robot.relations) (sym (stand_as_begun none))
        (layered_parts p.read.robot.relations (take p.turned p.begun) left_over
        (subst (IsLayered p.read.robot.relations) (sym (take-append-drop p.turned p.begun)) is.begun.layered)).1,
    subst (AllByRecursion (λ c. p.scattered ≤ c.depth)) (sym (stand_as_begun none)) is.after,
  )

  -- each that is to read can read
  pub gathers_timely : IsTimely (round_in number k)
  gathers_timely = subst IsTimely (sym round_now) can.1.1.timely

  pub gathers_can : p.gathered ≡ false → (count : ℕ)
      → AllByRecursion (CanFly k.robot.places k.robot.relations k.robot.period_us (length k.robot.hardware.loans))
      (take count (drop p.turned cells))
  gathers_can none count =
      let all = subst (AllByRecursion (CanFly a.placed a.related a.period_us (length k.robot.hardware.loans)))
      (sym (stand_as_begun none)) each_left in
      let some = (all_parts (CanFly a.placed a.related a.period_us (length k.robot.hardware.loans))
      (take count (drop p.turned cells)) (drop count (drop p.turned cells))
      (subst (AllByRecursion (CanFly a.placed a.related a.period_us (length k.robot.hardware.loans)))
      (sym (take-append-drop count (drop p.turned cells))) all)).0 in
      subst (λ (x : Aloft). AllByRecursion (CanFly x.placed x.related x.period_us (length k.robot.hardware.loans))
      (take count (drop p.turned cells))) (sym round_now) some

  -- and those that follow the ones of the depth are deeper
  pub gathers_deeper : p.gathered ≡ false → (count : ℕ) → StartsElsewhere p.scattered (drop count (drop p.turned cells))
      → AllByRecursion (λ c. p.scattered < c.depth) (drop count (drop p.turned cells))
  gathers_deeper none count elsewhere =
      let left = depths_left none in
      let whole = sym (take-append-drop count (drop p.turned cells)) in
      deeper_from p.read.robot.relations p.scattered (drop count (drop p.turned cells))
      (layered_parts p.read.robot.relations (take count (drop p.turned cells)) (drop count (drop p.turned cells))
      (subst (IsLayered p.read.robot.relations) whole left.0)).1
      (all_parts (λ c. p.scattered ≤ c.depth) (take count (drop p.turned cells)) (drop count (drop p.turned cells))
      (subst (AllByRecursion (λ c. p.scattered ≤ c.depth)) whole left.1)).1 elsewhere

  pub within_now : p.turned ≤ length cells
  within_now = omega (arith, is.within, is.as_many, is.many)

  -- those of the depth have read
  pub gathered : p.gathered ≡ false → (count : ℕ) (cells' : List CellFacts) → count ≤ length (drop p.turned cells)
      → p.scattered < p.depths
      → AllByRecursion (λ c. c.depth ≡ p.scattered) (take count (drop p.turned cells))
      → AllByRecursion (λ c. p.scattered < c.depth) (drop count (drop p.turned cells))
      → cells' ≡ take p.turned cells
      ++ (map (cell_read a k.robot.hardware.loans) (take count (drop p.turned cells))
      ++ drop count (drop p.turned cells))
      → IsTurning number cells' k (record p { gathered = true; waiting = count; left = cells' })
  gathered none count cells' few below one deeper came =
      let settled = is.settled none in
      let stand = stand_as_begun none in
      let long : length (take p.turned cells) ≡ p.turned = length-take-le p.turned cells within_now in
      let rest : List CellFacts =
      map (cell_read a k.robot.hardware.loans) (take count (drop p.turned cells)) ++ drop count (drop p.turned cells) in
      let front : take p.turned cells' ≡ take p.turned p.left =
      ap (take p.turned) came ∙ front_is p.turned (take p.turned cells) rest long ∙ ap (take p.turned) settled.1 in
      let back : drop p.turned cells' ≡ rest =
      ap (drop p.turned) came ∙ rest_is p.turned (take p.turned cells) rest long in
      let count_rest : length rest ≡ length (drop p.turned cells) =
      omega (
        arith,
        length-append (map (cell_read a k.robot.hardware.loans) (take count (drop p.turned cells)))
            (drop count (drop p.turned cells)),
        length-map (take count (drop p.turned cells)) (cell_read a k.robot.hardware.loans),
        length-take-le count (drop p.turned cells) few,
        length-drop count (drop p.turned cells),
        few,
      ) in
      record {
        begun = is.begun;
        depths = is.depths;
        turned = subst (λ (xs : List CellFacts). HasTurned number p.read (take p.turned p.begun) left_over xs k)
            (sym front) is.turned;
        later = back
            ∙ ap (λ (xs : List CellFacts). map (cell_read a k.robot.hardware.loans) (take count xs) ++ drop count xs)
            stand;
        one_depth = subst (λ (xs : List CellFacts). AllByRecursion (λ c. c.depth ≡ p.scattered) (take count xs)) stand
            one;
        after = is.after;
        deeper = λ truly. subst (λ (xs : List CellFacts). AllByRecursion (λ c. p.scattered < c.depth) (drop count xs))
            stand deeper;
        below = λ truly. below;
        settled = λ (e : true ≡ false). cc;
        within = omega (arith, few, length-drop p.turned cells, is.many, is.as_many, is.within);
        as_many = omega (
          arith,
          ap (λ (xs : List CellFacts). length xs) came,
          length-append (take p.turned cells) rest,
          long,
          count_rest,
          length-drop p.turned cells,
          within_now,
          is.many,
          is.as_many,
        );
        many = refl;
      }

  -- ---- Between

  -- whatever stands there while it is lent
  pub lent : p.gathered ≡ true → (cells' : List CellFacts) → length cells' ≡ length cells → IsTurning number cells' k p
  lent truly cells' as_many = record {
    begun = is.begun;
    depths = is.depths;
    turned = is.turned;
    later = is.later;
    one_depth = is.one_depth;
    after = is.after;
    deeper = is.deeper;
    below = is.below;
    settled = λ no_more. absurd (true≢false (sym truly ∙ no_more));
    within = is.within;
    as_many = is.as_many;
    many = as_many ∙ is.many;
  }

  -- those that wait can make their steps
  pub can_step : cells ≡ p.left → AllByRecursion CanMakeStep (waiting_of p cells)
  can_step same =
      subst (AllByRecursion CanMakeStep) (sym (ap (waiting_of p) same ∙ waiting_left))
      (read_can_steps a k.robot.hardware.loans (length k.robot.hardware.loans) can.1.1.timely layer each_parts.0)

  -- ---- Once they made their steps

  module _ (made : HaveMadeSteps p cells) where
    abbrev ran : List CellFacts
    ran = map cell_run has_read

    parted : cells ≡ take p.turned p.left ++ (ran ++ others)
    parted = made.stand
        ∙ ap₂ (λ (xs ys : List CellFacts). take p.turned p.left ++ (map cell_run xs ++ ys)) waiting_left
        (ap (drop p.waiting) is.later ∙ rest_is p.waiting has_read others read_long)

    ran_long : length ran ≡ p.waiting
    ran_long = length-map has_read cell_run ∙ read_long

    front_now : take p.turned cells ≡ take p.turned p.left
    front_now = ap (take p.turned) parted ∙ front_is p.turned (take p.turned p.left) (ran ++ others) front_long

    back_now : drop p.turned cells ≡ ran ++ others
    back_now = ap (drop p.turned) parted ∙ rest_is p.turned (take p.turned p.left) (ran ++ others) front_long

    pub waiting_now : waiting_of p cells ≡ ran
    waiting_now = ap (take p.waiting) back_now ∙ front_is p.waiting ran others ran_long

    others_now : drop p.waiting (drop p.turned cells) ≡ others
    others_now = ap (drop p.waiting) back_now ∙ rest_is p.waiting ran others ran_long

    -- who stands where is as before
    posts_now : map post_of (waiting_of p cells) ≡ map post_of layer
    posts_now =
        sym (take-map post_of p.waiting (drop p.turned cells))
        ∙ ap (take p.waiting)
        (sym (drop-map post_of p.turned cells) ∙ ap (drop p.turned) made.posts ∙ drop-map post_of p.turned p.left)
        ∙ take-map post_of p.waiting (drop p.turned p.left) ∙ ap (map post_of) waiting_left
        ∙ read_posts a k.robot.hardware.loans (length k.robot.hardware.loans) layer each_parts.0

    -- so what they came to can be put
    pub can_put : IsSomeAnd k.room
        (λ r. CanPutAll k.robot.places (length k.robot.hardware.loans) (waiting_of p cells) r.ran (vec_len k.erred)
        (vec_capacity k.erred))
    can_put =
        let board = length k.robot.hardware.loans in
        let after = waiting_of p cells in
        let posts : map post_of layer ≡ map post_of after = sym posts_now in
        let outs = outs_by layer after posts in
        let numbers = numbers_by layer after posts in
        let count = count_by layer after posts in
        let room = can.1.1 in
        let parts : left_over ≡ layer ++ others = sym (take-append-drop p.waiting left_over) in
        let all_count : length left_over ≡ length layer + length others =
        ap (λ (cs : List CellFacts). length cs) parts ∙ length-append layer others in
        let out_count : all_outs left_over ≡ all_outs layer + all_outs others =
        ap all_outs parts ∙ outs_append layer others in
        let number_count : all_numbers left_over ≡ all_numbers layer + all_numbers others =
        ap all_numbers parts ∙ numbers_append layer others in
        some_at k.room can.0 (λ r. CanPutAll k.robot.places board after r.ran (vec_len k.erred) (vec_capacity k.erred))
        can.1.0
        (subst (λ (placed : Placed). CanPutAll placed board after can.0.ran (vec_len k.erred) (vec_capacity k.erred))
        (sym (ap (λ (x : Aloft). x.placed) round_now)) (record {
          connected = all_by_posts (λ (d : CellFacts). IsConnectedTo a.placed board d.workspace)
              (connected_by a.placed board) layer after posts
              (each_of a board (λ d. IsConnectedTo a.placed board d.workspace) (λ d each. each.connected) layer
              each_parts.0);
          few_states =
              all_by_posts (λ (d : CellFacts). length d.workspace.states < 2 ^ 8) few_states_by layer after posts
              (each_of a board (λ d. length d.workspace.states < 2 ^ 8) (λ d each. each.few_states) layer each_parts.0);
          few_outs = all_by_posts (λ (d : CellFacts). length d.workspace.outs < 2 ^ 8) few_outs_by layer after posts
              (each_of a board (λ d. length d.workspace.outs < 2 ^ 8) (λ d each. each.few_outs) layer each_parts.0);
          told = record {
            heads = omega (arith, room.told.heads, count, all_count);
            values = omega (arith, room.told.values, outs, out_count);
            numbers = omega (arith, room.told.numbers, numbers, number_count);
          };
          erred = omega (arith, room.erred, count, all_count);
        }))

    tells : TellsApart a.placed a.related
    tells =
        let s = is.begun.aloft.0 in
        let of = is.begun.aloft.1 in
        subst (λ (placed : Placed). TellsApart placed a.related) (sym of.placed)
        (subst (λ (related : Related). TellsApart (placed_of s.description) related) (sym of.related)
        (tells_apart s.description))

    none_precedes : NonePrecedes a.related layer
    none_precedes =
        let rest = (layered_parts a.related (take p.turned p.begun) left_over
        (subst (IsLayered a.related) (sym (take-append-drop p.turned p.begun)) is.begun.layered)).1 in
        none_in_layer a.related p.scattered layer
        (layered_parts a.related layer others
        (subst (IsLayered a.related) (sym (take-append-drop p.waiting left_over)) rest)).0 is.one_depth

    -- the turns of the depth are had,
    module _ (k' : CycleContext) (puts : Scatters (waiting_of p cells) (map cell_put (waiting_of p cells)) k k') where
      abbrev first : List CellFacts
      first = take p.turned p.begun

      abbrev done : List CellFacts
      done = take p.turned p.left

      abbrev put : List CellFacts
      put = map cell_put (waiting_of p cells)

      abbrev f : Flying
      f = flying_in k

      same : IsTogether a k.robot.hardware.loans layer f
      same = together a k.robot.hardware.loans can.1.1.timely layer f
          (each_of a (length k.robot.hardware.loans) (CanStep a.related a.period_us) (λ d each. each.steps) layer
          each_parts.0)
          (all_apart a.placed a.related tells layer none_precedes) (reads_itself a f layer)

      put_now : put ≡ cells_after a layer f
      put_now = ap (map cell_put) waiting_now ∙ same.cells

      flown : flying_in k' ≡ all_flown a layer f
      flown = puts.flying ∙ ap (λ (x : Aloft). all_put x.placed (waiting_of p cells) f) round_now
          ∙ ap (λ (cs : List CellFacts). all_put a.placed cs f) waiting_now ∙ same.flying

      -- as much room is left as the others need
      abbrev LeavesRoom : RecordRoom → RecordRoom → Type 0
      LeavesRoom before after =
          TellsBut before after
          × LeavesPut (length (waiting_of p cells)) (all_outs (waiting_of p cells)) (all_numbers (waiting_of p cells))
          (length k.robot.hardware.loans)
          (length k'.robot.hardware.loans) before.ran after.ran (vec_len k.erred) (vec_len k'.erred)
          (vec_capacity k.erred) (vec_capacity k'.erred)

      abbrev CanTurnIn : RecordRoom → Type 0
      CanTurnIn r = CanTurn a (length k.robot.hardware.loans) left_over r.ran (vec_len k.erred) (vec_capacity k.erred)

      rooms_now : (r : RecordRoom)
          × ((r' : RecordRoom) × ((k.room ≡ Some r) × ((k'.room ≡ Some r') × (CanTurnIn r × LeavesRoom r r'))))
      rooms_now = some_of_both k.room k'.room CanTurnIn LeavesRoom is.turned.can puts.room

      has_turned : HasTurned number p.read (first ++ layer) others (done ++ put) k'
      has_turned =
          let before = rooms_now.0 in
          let after = rooms_now.1.0 in
          let there = rooms_now.1.1.0 in
          let there' = rooms_now.1.1.1.0 in
          let room = rooms_now.1.1.1.1.0 in
          let told = rooms_now.1.1.1.1.1.0 in
          let leaves = rooms_now.1.1.1.1.1.1 in
          let turned = is.turned.turned in
          let parts : left_over ≡ layer ++ others = sym (take-append-drop p.waiting left_over) in
          let all_count : length left_over ≡ length layer + length others =
          ap (λ (cs : List CellFacts). length cs) parts ∙ length-append layer others in
          let out_count : all_outs left_over ≡ all_outs layer + all_outs others =
          ap all_outs parts ∙ outs_append layer others in
          let number_count : all_numbers left_over ≡ all_numbers layer + all_numbers others =
          ap all_numbers parts ∙ numbers_append layer others in
          let count = count_by (waiting_of p cells) layer posts_now in
          let outs = outs_by (waiting_of p cells) layer posts_now in
          let numbers = numbers_by (waiting_of p cells) layer posts_now in
          record {
            context = puts.context
                ∙ ap (λ (x : CycleContext). record x
                { robot = record x.robot { hardware = k'.robot.hardware }; erred = k'.erred; room = k'.room })
                is.turned.context;
            room = some_mapped p.read.room (λ r. IsSomeAnd k.room (TellsBut r)) (λ r. IsSomeAnd k'.room (TellsBut r))
                (λ r tells_now. some_at k'.room after (TellsBut r) there'
                (told ∙ ap (λ (x : RecordRoom). record x { ran = after.ran })
                (at_some k.room before (TellsBut r) there tells_now))) is.turned.room;
            turned = record {
              cells = ap₂ (λ (xs ys : List CellFacts). xs ++ ys) turned.cells
                  (put_now ∙ ap (cells_after a layer) turned.flying)
                  ∙ sym (cells_append a first layer (flying_in p.read));
              flying = flown ∙ ap (all_flown a layer) turned.flying
                  ∙ sym (flown_append a first layer (flying_in p.read));
              posts = map-append post_of done put
                  ∙ ap₂ (λ (xs ys : List Post). xs ++ ys) turned.posts (put_posts (waiting_of p cells) ∙ posts_now)
                  ∙ sym (map-append post_of first layer);
            };
            can = some_at k'.room after
                (λ r. CanTurn a (length k'.robot.hardware.loans) others r.ran (vec_len k'.erred)
                (vec_capacity k'.erred)) there' (record {
                  timely = room.timely;
                  each = subst (λ (board : ℕ). AllByRecursion (CanFly a.placed a.related a.period_us board) others)
                      (sym leaves.board) each_parts.1;
                  told = record {
                    heads = omega (arith, room.told.heads, leaves.heads, count, all_count);
                    values = omega (arith, room.told.values, leaves.values, outs, out_count);
                    numbers = omega (arith, room.told.numbers, leaves.numbers, numbers, number_count);
                  };
                  erred = omega (arith, room.erred, leaves.erred, leaves.capacity, count, all_count);
                });
            capacity = leaves.capacity ∙ is.turned.capacity;
          }

      -- and the next one may be gathered
      pub scattered : p.gathered ≡ true → (cells' : List CellFacts) → cells' ≡ with_waiting p cells put
          → IsTurning number cells' k'
          (record p {
            scattered = p.scattered + 1;
            gathered = false;
            turned = p.turned + p.waiting;
            waiting = 0;
            left =
                cells';
          })
      scattered truly cells' came =
          let n = p.turned in
          let m = p.waiting in
          let put_long : length put ≡ m =
          length-map (waiting_of p cells) cell_put ∙ ap (λ (cs : List CellFacts). length cs) waiting_now ∙ ran_long in
          let both_long : length (done ++ put) ≡ n + m = omega (arith, length-append done put, front_long, put_long) in
          let whole : cells' ≡ (done ++ put) ++ others =
          came ∙ ap₂ (λ (xs ys : List CellFacts). xs ++ (put ++ ys)) front_now others_now
          ∙ sym (append_assoc done put others) in
          let front : take (n + m) cells' ≡ done ++ put =
          ap (take (n + m)) whole ∙ front_is (n + m) (done ++ put) others both_long in
          let back : drop (n + m) cells' ≡ others =
          ap (drop (n + m)) whole ∙ rest_is (n + m) (done ++ put) others both_long in
          let begun_front : take (n + m) p.begun ≡ first ++ layer = take-add n m p.begun in
          let begun_back : drop (n + m) p.begun ≡ others = drop_more_parts n m p.begun in
          record {
            begun = is.begun;
            depths = is.depths;
            turned = subst
                (λ (xs : List CellFacts). HasTurned number p.read xs (drop (n + m) p.begun) (take (n + m) cells') k')
                (sym begun_front)
                (subst (λ (xs : List CellFacts). HasTurned number p.read (first ++ layer) xs (take (n + m) cells') k')
                (sym begun_back)
                (subst (λ (xs : List CellFacts). HasTurned number p.read (first ++ layer) others xs k') (sym front)
                has_turned));
            later = back ∙ sym begun_back;
            one_depth = tt;
            after = subst (AllByRecursion (λ c. p.scattered + 1 ≤ c.depth)) (sym begun_back)
                (all_weaker (λ c. p.scattered < c.depth) (λ c. p.scattered + 1 ≤ c.depth)
                (λ c less. omega (arith, less)) others (is.deeper truly));
            deeper = λ (e : false ≡ true). cc;
            below = λ (e : false ≡ true). cc;
            settled = λ e. (refl, refl);
            within = omega (arith, is.within);
            as_many = omega (
              arith,
              ap (λ (xs : List CellFacts). length xs) whole,
              length-append (done ++ put) others,
              both_long,
              length-drop m left_over,
              length-drop n p.begun,
              is.within,
            );
            many = refl;
          }

  -- ---- At the end

  -- where all depths gave out, all cells had their turns
  pub all_turned : p.gathered ≡ false → p.scattered ≡ p.depths → HaveAllTurned number p.begun cells p.read k
  all_turned none last =
      let settled = is.settled none in
      let nobody : left_over ≡ [] =
      none_left p.scattered (take p.turned p.begun) left_over
      (last ∙ is.depths ∙ ap depths_of (sym (take-append-drop p.turned p.begun))) is.after in
      let all : take p.turned p.begun ≡ p.begun =
      sym (append-nil (take p.turned p.begun)) ∙ ap (λ (xs : List CellFacts). take p.turned p.begun ++ xs) (sym nobody)
      ∙ take-append-drop p.turned p.begun in
      let left : drop p.turned p.left ≡ [] = ap (drop p.turned) (sym settled.1) ∙ stand_as_begun none ∙ nobody in
      let here : take p.turned p.left ≡ cells =
      sym (append-nil (take p.turned p.left)) ∙ ap (λ (xs : List CellFacts). take p.turned p.left ++ xs) (sym left)
      ∙ take-append-drop p.turned p.left ∙ sym settled.1 in
      record {
        start = is.begun;
        turned = subst (λ (xs : List CellFacts). HasTurned number p.read xs [] cells k) all
            (subst (λ (xs : List CellFacts). HasTurned number p.read (take p.turned p.begun) xs cells k) nobody
            (subst (λ (xs : List CellFacts). HasTurned number p.read (take p.turned p.begun) left_over xs k) here
            is.turned));
      }
