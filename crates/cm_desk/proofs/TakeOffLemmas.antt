-- A cycle takes off: its flight is that of the state.
use Rattle.std.proofs.Common.{◌≡◌, ℕ, suc, ◌<◌, ◌≤◌, Bool, true, false, List, [], ◌∷◌, ◌++◌, length, map}
use Rattle.std.proofs.Common.{vec_len, vec_capacity, Option, Some, None, refl, sym, ap, ap₂, subst, ◌∙◌, arith}
use Rattle.std.specs.Prelude.{◌==◌, is_some, slice_get, filter_map, IsSomeAnd}
use Rattle.std.specs.List.{All, AllByRecursion, IsDistinct}
use Rattle.std.proofs.lemmas.List.{length-map}
use Rattle.std.proofs.lemmas.List.Elements.{recursion_from_All, All-from_recursion}
use Rattle.std.proofs.lemmas.Option.{slice_get_within}
use Rattle.sequence.proofs.ListLemmas.{head_same, tail_same}
use Rattle.cm_document.specs.Places.{interfaces_of}
use Rattle.cm_document.specs.declared.life.Life.TheVariants.{Active}
use Rattle.cm_model.specs.Cycle.{begun, mail_off, without_mail_off, active_order, members_in_order, period}
use Rattle.cm_model.specs.State.{State, Loaded, MailAloft}
use Rattle.cm_model.specs.Steady.{IsOwn}
use Rattle.cm_model.specs.declared.data.CtlData.{CtlData}
use Rattle.cm_model.specs.declared.member.Member.{Member}
use Rattle.cm_model.proofs.InterfaceLemmas.{all_map_back}
use Rattle.cm_model.specs.Order.{precedes_at}
use Rattle.cm_storage.specs.declared.record_room.RecordRoom.{RecordRoom}
use Rattle.chain_order.specs.Links.{places_below}
use Rattle.chain_order.proofs.LinkLemmas.{length-each_below}
use Rattle.cm_hardware.specs.Holding.{IsHardwareOf}
use Rattle.cm_hardware.specs.Shown.{HasLinesFor}
use Rattle.cm_hardware.specs.Wiring.{Wired, Mounted}
use Rattle.cm_hardware.specs.declared.lists.Lists.{Lists}
use Rattle.cm_places.specs.Placed.{placed_of}
use Rattle.cm_slots.specs.Calls.Slots.{HasLent}
use Rattle.cm_slots.specs.Lives.{IsKept}
use Rattle.cm_slots.specs.Connections.{IsConnected}
use Rattle.cm_slots.specs.Slots.{Slotted, IsRunOf}
use Rattle.cm_slots.specs.Updates.{HasTime}
use Rattle.cm_slots.specs.Updates.{IsInTime as IsTimed}
use Rattle.cm_slots.proofs.FitLemmas.{can_run, fit_begun}
use Rattle.ctl_trait.specs.Taking.{CanTake}
use Rattle.hw_component.proofs.MakingLemmas.{valid_period}
use Rattle.rt_flight.specs.Cells.{CellFacts}
use Rattle.rt_flight.specs.Flights.{FlightFacts, round_over, CanSettle, IsAloftOver, IsEquipped, IsReady}
use Rattle.rt_flight.specs.Workspaces.{WorkspaceFacts}
use Rattle.rt_flight.specs.declared.context.CycleContext.{CycleContext}
use Rattle.rt_flight.specs.declared.robot.Robot.{Robot}
use Rattle.sound_laws.proofs.ActiveLemmas.{from_active_order}
use Rattle.sound_laws.proofs.ParamsLemmas.{all_at, all_each}
use Rattle.sound_laws.proofs.RunLemmas.{ordered_once}
use Rattle.sound_laws.proofs.ValidLemmas.{valid-IsChecked}
use Rattle.switch_plan.specs.Relations.{Related, components_at, relations_of}
use Rattle.cm_resources.specs.CycleResources.{base_of, HasLines, IsBased, IsMadeReady, IsPrepared}
use Rattle.cm_desk.specs.Begin.{CanTakeOff, HasTakenOff}
use Rattle.cm_desk.specs.Filling.{cells_filled, CanFill}
use Rattle.cm_resources.specs.ActiveSet.{Listed, IsListedOf}
use Rattle.cm_resources.specs.CycleNeeds.{AreWorkspacesFor, HasRoom, IsFittedOut}
use Rattle.cm_resources.specs.Described.{IsAsDescribed, IsDivided}
use Rattle.cm_desk.specs.Works.{IsKept as KeepsState}
use Rattle.cm_resources.specs.declared.resources.CycleResources.{CycleResources}
use Rattle.cm_resources.proofs.ActiveLemmas.{same_order, hardware_stays}
use Rattle.cm_resources.proofs.StartLemmas.{loans_count}
use Rattle.cm_desk.proofs.BeginLemmas.{HasDecided, begun_actives, based_aloft, kept_aloft}
use Rattle.cm_resources.proofs.StayLemmas.{begun_stays, serials_stay, described_stay, divided_stay}
use Rattle.cm_resources.proofs.CommitLemmas.{connections, places_within}
use Rattle.cm_desk.proofs.EndLemmas.{leaders_count, flags_in}
use Rattle.cm_desk.proofs.FlightLemmas.{connected, cells_filled_are, mailed_all, cells_are, members_are}
use Rattle.cm_desk.proofs.FlightLemmas.{cells_fitted, cells_count, each_flies, can_tell, CanRunAs}
use Rattle.cm_resources.proofs.OrderLemmas.{run_is, order_within, order_described}
use Rattle.cm_resources.proofs.NeedsLemmas.{most_of, joints_of}
use Rattle.cm_desk.proofs.TimeLemmas.{timely}

-- ---- The lists

-- there is room for the lists
pub lines_for : (s : State) (w : Wired) (l : Lists) → IsHardwareOf s w → HasLines s.description l → HasLinesFor w l
lines_for s w l is room = record {
  components =
      omega (
        arith,
        room.components,
        ap length is.wired.components,
        length-map w.components (λ (m : Mounted). m.hardware.description),
      );
  loans = omega (arith, room.loans, loans_count s w is);
}

pub lines_stay : (s : State) (before after : Lists) → HasLines s.description before
    → (vec_capacity after.components ≡ vec_capacity before.components) × (vec_len after.loans ≡ vec_len before.loans)
    → HasLines s.description after
lines_stay s before after room same =
    record { components = omega (arith, room.components, same.0); loans = omega (arith, room.loans, same.1) }

-- ---- Those that stand at indices

each_within : {A : Type 0} (xs : List A) (is : List ℕ) (ys : List A) → map (slice_get xs) is ≡ map Some ys
    → AllByRecursion (λ i. i < length xs) is
each_within xs [] ys same = tt
each_within xs (i ∷ is) [] same = cc
each_within xs (i ∷ is) (y ∷ ys) same =
    (slice_get_within xs i y (head_same None _ _ _ _ same), each_within xs is ys (tail_same _ _ _ _ same))

-- indices at which something stands are within,
all_within : {A : Type 0} (xs : List A) (is : List ℕ) (ys : List A) → map (slice_get xs) is ≡ map Some ys
    → All (λ i. i < length xs) is
all_within xs is ys same = All-from_recursion (λ i. i < length xs) is (each_within xs is ys same)

-- and as many as stand there
as_many : {A : Type 0} (xs : List A) (is : List ℕ) (ys : List A) → map (slice_get xs) is ≡ map Some ys
    → length is ≡ length ys
as_many xs is ys same = sym (length-map is (slice_get xs)) ∙ ap length same ∙ length-map ys Some

-- there are as many workspaces as controllers whose they are
stands_count : (ms : List Member) (ss : List WorkspaceFacts) → AreWorkspacesFor ms ss → length ss ≡ length ms
stands_count [] [] stands = refl
stands_count [] (s ∷ ss) stands = absurd stands
stands_count (m ∷ ms) [] stands = absurd stands
stands_count (m ∷ ms) (s ∷ ss) stands = ap suc (stands_count ms ss stands.1)

-- it can be settled who stops of those that run
settles_so : (t : State) (g : Robot) (order : List Member) (r : RecordRoom) → g.relations ≡ relations_of t.description
    → order ≡ members_in_order t → All (IsAsDescribed t.description) t.loaded
    → length (members_in_order t) ≤ r.stops.room → CanSettle g.relations order r
settles_so t g order r related is described room =
    let n = length t.description.controllers in
    let leaders : length g.relations.leaders ≡ n =
    ap (λ (w : Related). length w.leaders) related ∙ leaders_count t.description in
    let within = order_within t described in
    record {
      followers = ap (λ (w : Related). length w.followers) related
          ∙ length-each_below (λ q. places_below (precedes_at t.description.controllers q) n) n ∙ sym leaders;
      components =
          ap (λ (w : Related). length w.components) related ∙ length-each_below (components_at t.description) n
          ∙ sym leaders;
      within = rw is (λ k m below. let here = within k m below in omega (arith, leaders, here));
      stops = rw is room;
    }

module _ (s : State) (slots : Slotted) (run : List ℕ) (b : CycleResources) (boxes : List CtlData) (box_places : ℕ)
    (cells : List CellFacts) (places number : ℕ)
    (can : CanTakeOff s slots run b boxes box_places cells places number) where
  -- ---- Who runs

  runs_at : map (slice_get (begun s).loaded) run ≡ map Some (active_order (begun s))
  runs_at = run_is (begun s) (members_in_order (begun s)) run can.numbered.once refl can.run

  pub is_run : IsRunOf (begun s) (begun s).loaded run
  is_run = record { valid = can.valid; once = can.numbered.once; loaded = refl; order = runs_at }

  pub run_count : length run ≡ length (members_in_order (begun s))
  run_count = as_many (begun s).loaded run (active_order (begun s)) runs_at
      ∙ sym (length-map (active_order (begun s)) _)

  apart : IsDistinct (λ m n. m == n) (map (λ (l : Loaded). l.serial) (active_order (begun s)))
  apart = ordered_once (begun s) (valid-IsChecked s.description can.valid).free can.numbered.once

  divided : AllByRecursion (λ (l : Loaded). is_some l.divisor ≡ true) (active_order (begun s))
  divided = all_each (λ (l : Loaded). is_some l.divisor ≡ true) (active_order (begun s)) (λ l inside.
      let from = from_active_order (begun s) l inside in
      let own = all_at (IsOwn s.description.controllers) (begun s).loaded can.steady.in_order.own l from.0 in
      all_at IsDivided (begun s).loaded (recursion_from_All IsDivided (begun s).loaded can.divided) l from.0
      (own.configured from.1))

  -- ---- Their cells are filled

  stands : length b.buffers.workspaces.items ≡ length run
  stands = stands_count (members_in_order (begun s)) b.buffers.workspaces.items can.prepared.workspaces.stands
      ∙ sym run_count

  pub can_fill : (lent : List CtlData) → lent ≡ map (λ (l : Loaded). l.ctl) (active_order (begun s))
      → AllByRecursion (IsKept Active) lent
      → CanFill (begun s).loaded run b.buffers.workspaces.items lent cells places
  can_fill lent are running = record {
    within = all_within (begun s).loaded run (active_order (begun s)) runs_at;
    workspaces = stands;
    boxes = ap length are ∙ length-map (active_order (begun s)) _
        ∙ sym (as_many (begun s).loaded run (active_order (begun s)) runs_at);
    running = running;
    empty = can.no_cell;
    room = omega (arith, can.places, run_count);
  }

  aboard : List CellFacts
  aboard = connected (begun s).mails (active_order (begun s)) b.buffers.workspaces.items

  pub all_cells_filled_are : (lent : List CtlData) → lent ≡ map (λ (l : Loaded). l.ctl) (active_order (begun s))
      → cells_filled (begun s).loaded (begun s).mails run b.buffers.workspaces.items lent
      ≡ connected (begun s).mails (active_order (begun s)) b.buffers.workspaces.items
  all_cells_filled_are lent are =
      cells_filled_are (begun s).loaded (begun s).mails run (active_order (begun s)) b.buffers.workspaces.items lent
      runs_at can.prepared.workspaces.stands are

  -- what the slots are once the boxes were lent, and the boxes
  pub record IsLent (before after : Slotted) (lent : List CtlData) : Type 0 where
    pub whole : after ≡ record before { loaded = (begun s).loaded; aloft = true }
    pub loaded : after.loaded ≡ (begun s).loaded
    pub ctls : lent ≡ map (λ (l : Loaded). l.ctl) (active_order (begun s))

  pub lent_so : (sent after : Slotted) (lent : List CtlData)
      → sent ≡ record slots { loaded = map (without_mail_off s) slots.loaded } → HasLent sent after run lent
      → IsLent slots after lent
  lent_so sent after lent went has =
      let loaded : sent.loaded ≡ (begun s).loaded =
      ap (λ (x : Slotted). x.loaded) went ∙ ap (map (without_mail_off s)) can.loaded in
      record {
        whole = has.slots ∙ ap (λ (x : Slotted). record x { aloft = true }) went
            ∙ ap (λ (ls : List Loaded). record slots { loaded = map (without_mail_off s) ls; aloft = true }) can.loaded;
        loaded = ap (λ (x : Slotted). x.loaded) has.slots ∙ loaded;
        ctls = has.boxes (begun s) (subst (λ (ls : List Loaded). IsRunOf (begun s) ls run) (sym loaded) is_run);
      }

  -- the mail that is aloft
  pub mails_so : (mails : List MailAloft) → mails ≡ b.buffers.mails.items ++ filter_map (mail_off s) slots.loaded
      → mails ≡ (begun s).mails
  mails_so mails off =
      off ∙ ap₂ (λ (ms : List MailAloft) (ls : List Loaded). ms ++ filter_map (mail_off s) ls) can.prepared.no_mail
      can.loaded

  -- and who came to their cells
  pub cells_so : (loaded : List Loaded) (lent : List CtlData) (mails : List MailAloft) (cells' : List CellFacts)
      → loaded ≡ (begun s).loaded → lent ≡ map (λ (l : Loaded). l.ctl) (active_order (begun s))
      → mails ≡ b.buffers.mails.items ++ filter_map (mail_off s) slots.loaded
      → cells' ≡ cells_filled loaded mails run b.buffers.workspaces.items lent
      → cells' ≡ connected (begun s).mails (active_order (begun s)) b.buffers.workspaces.items
  cells_so loaded lent mails cells' same are off made =
      made ∙ ap₂ (λ (ls : List Loaded) (ms : List MailAloft). cells_filled ls ms run b.buffers.workspaces.items lent)
      same (mails_so mails off) ∙ all_cells_filled_are lent are

  pub stands_room : length b.buffers.workspaces.items ≡ length (members_in_order (begun s))
  stands_room = stands_count (members_in_order (begun s)) b.buffers.workspaces.items can.prepared.workspaces.stands

  -- ---- Each can be updated

  runs_as : AllByRecursion (λ (l : Loaded). IsKept Active l.ctl) (active_order (begun s))
      → AllByRecursion
      (CanRunAs b.robot.value.places b.robot.value.relations b.robot.value.period_us
      (length b.robot.value.hardware.loans) (begun s).mails) (active_order (begun s))
  runs_as running =
      let placed = can.worked_out.1.placed in
      let related = can.worked_out.1.related in
      let timed = can.worked_out.1.timed in
      all_each (CanRunAs b.robot.value.places b.robot.value.relations b.robot.value.period_us
      (length b.robot.value.hardware.loans) (begun s).mails) (active_order (begun s)) (λ l inside.
      let from = from_active_order (begun s) l inside in
      let cell_for =
      all_at (IsConnected (placed_of s.description) (length (interfaces_of s.description))) (begun s).loaded
      (connections (begun s) can.valid can.steady.in_order can.described) l from.0 in
      let below = all_at (λ (m : Loaded). m.place < length s.description.controllers) (begun s).loaded
      (recursion_from_All (λ (m : Loaded). m.place < length s.description.controllers) (begun s).loaded
      (places_within s.description (begun s).loaded can.described)) l from.0 in
      let fit = all_at
      (λ (m : Loaded). HasTime m
      × (IsTimed (period s.description) m
      × AllByRecursion (λ (a : MailAloft). a.serial ≡ m.serial → CanTake m.ctl a.mail) (begun s).mails))
      (begun s).loaded (can_run (begun s) can.fit_then) l from.0 in
      record {
        connected = rw (placed, loans_count (begun s) b.robot.value.hardware can.hardware) cell_for;
        related = rw related
            (omega (arith, below, length-each_below (components_at s.description) (length s.description.controllers)));
        led = omega (arith, below, ap (λ (w : Related). length w.leaders) related, leaders_count s.description);
        has_time = fit.0;
        in_time = rw timed fit.1.0;
        mail = fit.1.1;
        running = all_at (λ (m : Loaded). IsKept Active m.ctl) (active_order (begun s)) running l inside;
      })

  -- ---- The flight

  pub equipped : (k : CycleContext) → IsFittedOut s.description b.robot.value.places (members_in_order (begun s)) k
      → IsEquipped (connected (begun s).mails (active_order (begun s)) b.buffers.workspaces.items) k.order.items
      b.robot.value b.ending.value b.next_lists.value (vec_capacity k.erred)
  equipped k out = record {
    order = out.order
        ∙ sym (members_are (begun s).mails (active_order (begun s)) b.buffers.workspaces.items
        can.prepared.workspaces.stands);
    fitted = cells_fitted b.robot.value.places (begun s).mails (active_order (begun s)) b.buffers.workspaces.items
        can.prepared.workspaces.fitted;
    flags = flags_in s.description b.robot.value.relations b.ending.value can.worked_out.1.related can.flags;
    lines = lines_for (begun s) b.robot.value.hardware b.next_lists.value can.hardware can.next_lines;
    erred = omega (
      arith,
      cells_count (begun s).mails (active_order (begun s)) b.buffers.workspaces.items
          can.prepared.workspaces.stands,
      out.erred,
      length-map {B = Member} (active_order (begun s)) (λ (l : Loaded). record { serial = l.serial; place = l.place }),
    );
  }

  pub aloft_over : IsAloftOver (begun s) number
      (connected (begun s).mails (active_order (begun s)) b.buffers.workspaces.items) b.robot.value
  aloft_over = record {
    valid = can.valid;
    steady = can.steady;
    once = can.numbered.once;
    number = can.number;
    placed = can.worked_out.1.placed;
    related = can.worked_out.1.related;
    timed = can.worked_out.1.timed;
    hardware = can.hardware;
    cells = cells_are (begun s).mails (begun s).mails (active_order (begun s)) b.buffers.workspaces.items
        can.prepared.workspaces.stands divided apart (mailed_all (begun s).mails (active_order (begun s)));
  }

  ready : (k : CycleContext) (r : RecordRoom) → k.order.items ≡ members_in_order (begun s)
      → HasRoom s.description b.robot.value.places (members_in_order (begun s)) r
      → AllByRecursion (IsKept Active) (map (λ (l : Loaded). l.ctl) (active_order (begun s)))
      → IsReady number (connected (begun s).mails (active_order (begun s)) b.buffers.workspaces.items) k.order.items
      b.robot.value r
  ready k r order told running =
      let fits = valid_period s.description can.valid in
      let kept = all_map_back (IsKept Active) (λ (l : Loaded). l.ctl) (active_order (begun s)) running in
      record {
        makes = record {
          aloft = (begun s, aloft_over);
          timely = timely s.description (round_over number b.robot.value) can.valid
              (omega (arith, can.number, can.within)) can.worked_out.1.timed;
          short = rw (can.worked_out.1.timed) fits.2;
          each = each_flies b.robot.value.places b.robot.value.relations b.robot.value.period_us
              (length b.robot.value.hardware.loans) (begun s).mails (begun s).mails (active_order (begun s))
              b.buffers.workspaces.items (runs_as kept) can.prepared.workspaces.stands can.prepared.workspaces.fitted
              divided apart (mailed_all (begun s).mails (active_order (begun s)));
          told = can_tell s.description b.robot.value.places (begun s).mails (active_order (begun s))
              b.buffers.workspaces.items r can.prepared.workspaces.stands can.prepared.workspaces.fitted
              (order_described (begun s) can.described) told;
          failures = omega
              (arith, most_of s.description b.robot.value.hardware can.hardware.wired.components, told.failures);
          joints = omega
              (arith, joints_of s.description b.robot.value.hardware can.hardware.wired.components, told.bodies);
        };
        settles = settles_so (begun s) b.robot.value k.order.items r can.worked_out.1.related order can.described
            told.stops;
        empty = record {
          no_failure = told.no_failure;
          none_ran = told.none_ran;
          no_body = told.no_body;
          none_stopped = told.none_stopped;
        };
      }

  -- with the room that it has to tell in
  pub ready_in : (k : CycleContext) → IsFittedOut s.description b.robot.value.places (members_in_order (begun s)) k
      → AllByRecursion (IsKept Active) (map (λ (l : Loaded). l.ctl) (active_order (begun s)))
      → IsSomeAnd k.room
      (IsReady number (connected (begun s).mails (active_order (begun s)) b.buffers.workspaces.items) k.order.items
      b.robot.value)
  ready_in k out running = each k.room out.told
    where
      each : (o : Option RecordRoom)
          → IsSomeAnd o (HasRoom s.description b.robot.value.places (members_in_order (begun s)))
          → IsSomeAnd o
          (IsReady number (connected (begun s).mails (active_order (begun s)) b.buffers.workspaces.items) k.order.items
          b.robot.value)
      each None none = absurd none
      each (Some r) told = ready k r out.order told running

-- ---- A begin

-- a cycle can take off once all is decided, with what was prepared for it
pub can_take_off : (s t : State) (names : List (List ℕ)) (before b : CycleResources) (box_places : ℕ)
    (was looked : Listed) (slots : Slotted) (boxes : List CtlData) (box_room : ℕ) (cells : List CellFacts)
    (cell_room count : ℕ)
    → KeepsState t names (base_of before box_places) was → HasDecided s t → IsListedOf t looked → looked.current ≡ true
    → IsMadeReady before b
    → slots.loaded ≡ t.loaded → slots.aloft ≡ t.aloft → count ≡ t.ended
    → IsPrepared t.description looked.order (length t.loaded) b
    → boxes ≡ [] → length looked.order ≤ box_room → cells ≡ [] → length looked.order ≤ cell_room
    → CanTakeOff t slots looked.run b boxes box_room cells cell_room count
can_take_off s t names before b box_places was looked slots boxes box_room cells cell_room count kept decided listed
    current ready loaded aloft number prepared no_box enough_box_places no_cell cell_places =
    let actives = begun_actives t in
    let stays = begun_stays t in
    let order : looked.order ≡ members_in_order (begun t) =
    listed.order current ∙ sym (same_order t (begun t) actives refl) in
    let robot : b.robot.value ≡ before.robot.value = ap (λ (x : CycleResources). x.robot.value) ready.resources in
    let ending : b.ending.value ≡ before.ending.value = ap (λ (x : CycleResources). x.ending.value) ready.resources in
    let lists : b.lists ≡ before.lists = ap (λ (x : CycleResources). x.lists) ready.resources in
    let told : b.told ≡ before.told = ap (λ (x : CycleResources). x.told) ready.resources in
    let next_lists : b.next_lists.value ≡ before.next_lists.value =
    ap (λ (x : CycleResources). x.next_lists.value) ready.resources in
    record {
      valid = kept.worked_out.valid;
      steady = decided.steady_then;
      numbered = decided.numbered_then;
      fit = kept.fit;
      fit_then = fit_begun t decided.numbered (kept.no_mail decided.down) kept.fit;
      described = described_stay t.description t.loaded (begun t).loaded stays kept.described;
      divided = divided_stay t.loaded (begun t).loaded stays kept.divided;
      within = decided.within;
      number = number;
      down = aloft ∙ decided.down;
      loaded = loaded;
      run = rw (← order, serials_stay t.loaded (begun t).loaded stays) (listed.run current);
      hardware = rw robot
          (hardware_stays t (begun t) actives refl before.robot.value.hardware refl refl refl kept.hardware);
      worked_out = (names, rw robot kept.worked_out);
      home = ready.home;
      flags = rw ending kept.based.flags;
      lines = rw lists kept.based.lines;
      told = λ yes. rw (robot, lists) (kept.based.told (sym told ∙ yes));
      next_lines = rw next_lists (kept.based.next_lines decided.down);
      prepared = rw (← order) prepared;
      no_box = no_box;
      box_places = rw (← order) enough_box_places;
      no_cell = no_cell;
      places = rw (← order) cell_places;
    }

-- and once it did, this is kept
pub kept_off : (s t : State) (names : List (List ℕ)) (before b b' : CycleResources) (box_places : ℕ) (box_places' : ℕ)
    (was looked : Listed) (slots slots' : Slotted) (f : FlightFacts)
    → KeepsState t names (base_of before box_places) was → HasDecided s t → IsListedOf t looked → looked.current ≡ true
    → IsMadeReady before b → HasTakenOff t slots slots' b b' f
    → length looked.order ≤ box_places' → KeepsState (begun t) names (base_of b' box_places') looked
kept_off s t names before b b' box_places box_places' was looked slots slots' f kept decided listed current ready off
    enough_box_places =
    let actives = begun_actives t in
    let order : looked.order ≡ members_in_order (begun t) =
    listed.order current ∙ sym (same_order t (begun t) actives refl) in
    let robot : b'.robot.value ≡ before.robot.value =
    ap (λ (x : CycleResources). x.robot.value) off.resources
    ∙ ap (λ (x : CycleResources). x.robot.value) ready.resources in
    let ending : b'.ending.value ≡ before.ending.value =
    ap (λ (x : CycleResources). x.ending.value) off.resources
    ∙ ap (λ (x : CycleResources). x.ending.value) ready.resources in
    let size : b'.size ≡ before.size =
    ap (λ (x : CycleResources). x.size) off.resources ∙ ap (λ (x : CycleResources). x.size) ready.resources in
    let room : b'.room ≡ before.room =
    ap (λ (x : CycleResources). x.room) off.resources ∙ ap (λ (x : CycleResources). x.room) ready.resources in
    let same : b'.robot.value ≡ b.robot.value = ap (λ (x : CycleResources). x.robot.value) off.resources in
    let based : IsBased t.description false was.order (base_of before box_places) =
    subst (λ (aloft : Bool). IsBased t.description aloft was.order (base_of before box_places)) decided.down
    kept.based in
    kept_aloft t names (base_of before box_places) (base_of b' box_places') was looked kept decided.numbered
    decided.down decided.unclosed decided.within listed current robot
    (based_aloft t.description was.order looked.order (base_of before box_places) (base_of b' box_places') based size
    room ending (ap (λ (x : CycleResources). x.idle_context) off.resources) off.none_stands off.lines
    (rw same off.shown) (rw order off.stands) enough_box_places)
