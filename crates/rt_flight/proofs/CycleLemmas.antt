-- That a flight makes the cycle of the state from which it began.
use Rattle.std.proofs.Common.{◌≡◌, ℕ, Bool, true, false, List, [], ◌∷◌, ◌++◌, length}
use Rattle.std.proofs.Common.{map, Option, Some, refl, sym, ap, ap₂, subst, ◌∙◌, arith}
use Rattle.std.specs.Prelude.{◌==◌, ◌&&◌, if◌then◌else◌, vec_len, vec_capacity}
use Rattle.std.specs.List.{AllByRecursion}
use Rattle.std.proofs.lemmas.Bool.{and_from, eq-eqb}
use Rattle.std.proofs.lemmas.List.{append-nil, length-map}
use Rattle.fixed_num.specs.declared.value.BodyState.{BodyState}
use Rattle.cm_document.specs.Places.{interfaces_of}
use Rattle.cm_model.specs.Cycle.{failed_in, active_order, updates, Updates, cycle, landed, stops, member_of}
use Rattle.cm_storage.specs.Happened.{Happened}
use Rattle.cm_storage.specs.Ran.{Ran}
use Rattle.cm_model.specs.Sound.{running_part, configuration}
use Rattle.cm_model.specs.State.{State, Loaded, is_active, active}
use Rattle.cm_model.specs.Values.{InterfaceValue}
use Rattle.cm_model.specs.declared.member.Member.{Member}
use Rattle.cm_storage.specs.declared.record.FailedPart.{FailedPart}
use Rattle.cm_storage.specs.declared.record_room.RecordRoom.{RecordRoom}
use Rattle.cm_hardware.specs.Holding.{IsHardwareOf, IsInCycle, IsMoved, FinishedCycle, values_read}
use Rattle.cm_hardware.specs.Holding.{values_updated, reads_failed_in, writes_failed_in}
use Rattle.cm_hardware.specs.Shown.{HasLinesFor, Shows}
use Rattle.cm_hardware.specs.Wiring.{Mounted, Wired, IsWired}
use Rattle.cm_hardware.specs.declared.lists.Lists.{Lists}
use Rattle.sound_laws.proofs.ActiveLemmas.{from_active_order}
use Rattle.sound_laws.proofs.ParamsLemmas.{all_each}
use Rattle.sound_laws.proofs.RunLemmas.{ordered_once}
use Rattle.sound_laws.proofs.ValidLemmas.{valid-IsChecked}
use Rattle.stop_plan.specs.Ending.{HasFlags, told_in, erred_in}
use Rattle.stop_plan.specs.declared.ending.Ending.{Ending}
use Rattle.stop_plan.proofs.QuietLemmas.{none_stop}
use Rattle.switch_plan.specs.Relations.{Related, relations_of}
use Rattle.switch_plan.proofs.ElementLemmas.{any_from}
use Rattle.cm_slots.specs.Cycles.{IsAloftOf}
use Rattle.cm_slots.specs.Updates.{Aloft}
use Rattle.cm_places.specs.Placed.{Placed}
use Rattle.rt_flight.specs.Workspaces.{flies, IsFitted}
use Rattle.rt_flight.specs.Cells.{CellFacts, Flying, cell_gathered, step_of, with_step}
use Rattle.rt_flight.specs.Cells.{flying_after, all_flown, cells_after, CanFly}
use Rattle.rt_flight.specs.Flights.{AreCellsOf, IsComputed, AreCellsAfter, member_in, HasMade, IsEquipped}
use Rattle.rt_flight.specs.Progress.{Progress, round_in}
use Rattle.rt_flight.specs.UnderWay.{HasBegunOf}
use Rattle.rt_flight.specs.declared.context.CycleContext.{CycleContext}
use Rattle.rt_flight.specs.declared.robot.Robot.{Robot}
use Rattle.rt_flight.specs.Calls.Cycles.{LeavesFlight, IsToldOf, Decides, IsQuiet}
use Rattle.rt_flight.proofs.CellLemmas.{Stands, AreLeft, IsFound, found_once, all_stand, cells_are}

-- ---- The board

-- as many interfaces stand on it as are described, between two cycles and in one
board_of : (s : State) (w : Wired) → IsHardwareOf s w → length w.loans ≡ length (interfaces_of s.description)
board_of s w is =
    ap length is.loans ∙ length-map s.values _ ∙ sym (length-map s.values (λ (v : InterfaceValue). v.interface))
    ∙ ap length is.wired.interfaces

board_in_cycle : (s : State) (values : List InterfaceValue) (w : Wired) → IsInCycle s values w
    → length w.loans ≡ length (interfaces_of s.description)
board_in_cycle s values w is =
    ap length is.loans ∙ length-map values _ ∙ sym (length-map values (λ (v : InterfaceValue). v.interface))
    ∙ ap length is.wired.interfaces

-- so each cell can be updated after the reads
pub can_fly_each : (s : State) (values : List InterfaceValue) (w after : Wired) (number : ℕ) (cells : List CellFacts)
    (g : Robot) → IsHardwareOf s w → IsInCycle s values after
    → AllByRecursion (CanFly g.places g.relations g.period_us (length w.loans)) cells
    → AllByRecursion (CanFly g.places g.relations g.period_us (length after.loans)) cells
can_fly_each s values w after number cells g is inside each =
    subst (λ (n : ℕ). AllByRecursion (CanFly g.places g.relations g.period_us n) cells)
    (board_of s w is ∙ sym (board_in_cycle s values after inside)) each

-- and has a workspace that is fitted
pub fitted_each : (placed : Placed) (related : Related) (period_us board : ℕ) (cells : List CellFacts)
    → AllByRecursion (CanFly placed related period_us board) cells
    → AllByRecursion (λ c. IsFitted placed c.workspace) cells
fitted_each placed related period_us board [] each = tt
fitted_each placed related period_us board (c ∷ cs) each =
    (each.0.connected.fitted, fitted_each placed related period_us board cs each.1)

-- the turns of the cells leave the components as they are
pub components_flown : (a : Aloft) (cs : List CellFacts) (f : Flying)
    → (all_flown a cs f).hardware.components ≡ f.hardware.components
components_flown a [] f = refl
components_flown a (c ∷ cs) f =
    components_flown a cs (flying_after a c f)
    ∙ either (flies a c.workspace) (with_step a c (step_of a (cell_gathered a.placed f.hardware.loans c)) f) refl
  where
    either : (b : Bool) (stepped : Flying) → stepped.hardware.components ≡ f.hardware.components
        → (if b then stepped else f).hardware.components ≡ f.hardware.components
    either true stepped same = same
    either false stepped same = refl

-- ---- The updates

-- What the turns of all cells come to in the state.
pub record HasFlown (s : State) (a : Aloft) (cells : List CellFacts) (f : Flying) : Type 0 where
  pub stands : Stands s f.ran f.erred (updates s (values_read s)) (all_flown a cells f)
  pub cell_facts : AreCellsAfter (updates s (values_read s)).loaded (configuration s).running (cells_after a cells f)

pub has_flown : (s : State) (number : ℕ) (cells : List CellFacts) (k : CycleContext) (a : Aloft) (f : Flying)
    → HasBegunOf s number cells k → IsAloftOf s a → IsInCycle s (values_read s) f.hardware
    → HasFlown s a cells f
has_flown s number cells k a f is aloft inside =
    let begun : Updates = record { loaded = s.loaded; values = values_read s; ran = [] } in
    let stands : Stands s f.ran f.erred begun f =
    record { hardware = inside; ran = sym (append-nil f.ran); erred = sym (append-nil f.erred) } in
    let left : AreLeft s (active_order s) cells = record {
      cell_facts = is.cells;
      running = all_each (λ l. active s l.place ≡ true) (active_order s) (λ l within.
          let loaded = from_active_order s l within in
          any_from (λ (m : Loaded). is_active m && m.place == l.place) s.loaded l loaded.0
          (and_from (is_active l) (l.place == l.place) loaded.1 (eq-eqb l.place l.place refl)));
    } in
    let found : AllByRecursion (IsFound s.loaded) (active_order s) =
    all_each (IsFound s.loaded) (active_order s)
    (λ l within. found_once s.loaded l is.once (from_active_order s l within).0) in
    record {
      stands = all_stand s a is.valid aloft is.steady f.ran f.erred (active_order s) cells begun f stands left;
      cell_facts = cells_are s a is.valid aloft is.steady f.ran f.erred (active_order s) cells begun f stands left
          (ordered_once s (valid-IsChecked s.description is.valid).free is.once) found;
    }

-- ---- The cells after them

-- they are the active controllers, in the order of updates
pub members_are : (s : State) (ls : List Loaded) (cs : List CellFacts) → AreCellsOf s.mails (map running_part ls) cs
    → map member_in cs ≡ map member_of ls
members_are s [] [] are = refl
members_are s [] (c ∷ cs) are = absurd are
members_are s (l ∷ ls) [] are = absurd are
members_are s (l ∷ ls) (c ∷ cs) are =
    ap₂ (λ (m : Member) (ms : List Member). m ∷ ms)
    (ap₂ (λ (n p : ℕ). record { serial = n; place = p }) are.0.workspace.serial are.0.workspace.place)
    (members_are s ls cs are.1)

-- ---- The whole

-- this is the cycle that is aloft, once the reads were told
pub round_is : (s : State) (number : ℕ) (cells : List CellFacts) (k : CycleContext) → HasBegunOf s number cells k
    → IsAloftOf s (round_in number k)
round_is s number cells k is =
    record { number = is.number; period = is.timed; placed = is.placed; related = is.related; failed = is.failed }

-- What was made of the cycle: of the cells, of the hardware, and what is told.
pub record WasMade (s : State) (cell_facts : List CellFacts) (w : Wired) (parts : List FailedPart) (rans : List Ran)
    (states : List BodyState) (serials : List ℕ) : Type 0 where
  pub cells : AreCellsAfter (cycle s).loaded (configuration s).running cell_facts
  pub hardware : IsMoved (landed s (cycle s)) w
  pub failed : parts ≡ failed_in s
  pub ran : rans ≡ told_in s
  pub bodies : states ≡ (cycle s).happened.bodies
  pub erred : serials ≡ erred_in (told_in s)

pub was_made : (s : State) (a : Aloft) (cells after : List CellFacts) (begun flown : Flying) (finished : Wired)
    (none first all : List FailedPart) (nothing states : List BodyState)
    → HasFlown s a cells begun → after ≡ cells_after a cells begun → flown ≡ all_flown a cells begun
    → begun.ran ≡ [] → begun.erred ≡ [] → none ≡ [] → nothing ≡ []
    → first ≡ none ++ reads_failed_in s → FinishedCycle s finished first all nothing states
    → WasMade s after finished all flown.ran states flown.erred
unfolding cycle
was_made s a cells after begun flown finished none first all nothing states has left come ran erred no_part no_body told
    done = record {
      cells = subst (AreCellsAfter (updates s (values_read s)).loaded (configuration s).running) (sym left)
          has.cell_facts;
      hardware = done.hardware;
      failed = done.failed
          ∙ ap (λ (ps : List FailedPart). ps ++ writes_failed_in s)
          (told ∙ ap (λ (ps : List FailedPart). ps ++ reads_failed_in s) no_part);
      ran = ap (λ (f : Flying). f.ran) come ∙ has.stands.ran ∙ ap (λ (rans : List Ran). rans ++ told_in s) ran;
      bodies = done.bodies ∙ ap (λ (bodies : List BodyState). bodies ++ (cycle s).happened.bodies) no_body;
      erred = ap (λ (f : Flying). f.erred) come ∙ has.stands.erred
          ∙ ap (λ (serials : List ℕ). serials ++ erred_in (told_in s)) erred;
    }

-- so the hardware is that in the cycle, before its end
pub flown_in_cycle : (s : State) (a : Aloft) (cells : List CellFacts) (begun flown : Flying) → HasFlown s a cells begun
    → flown ≡ all_flown a cells begun
    → IsInCycle s (values_updated s) flown.hardware
flown_in_cycle s a cells begun flown has come =
    subst (λ (f : Flying). IsInCycle s (values_updated s) f.hardware) (sym come) has.stands.hardware

-- ---- Its record

-- what is told is the record of the cycle, whoever stops
pub outcome_is : (s : State) (failed : List FailedPart) (ran : List Ran) (states : List BodyState) (stopped : List ℕ)
    → failed ≡ failed_in s → ran ≡ told_in s → states ≡ (cycle s).happened.bodies
    → stopped ≡ stops s (told_in s)
    → record { cycle = s.ended; failed = failed; ran = ran; bodies = states; stops = stopped } ≡ (cycle s).happened
unfolding cycle
outcome_is s failed ran states stopped parts told bodies who = rw (parts, told, bodies, who) refl

-- nobody stops where nothing failed
pub quiet_stops : (s : State) → failed_in s ≡ [] → erred_in (told_in s) ≡ [] → stops s (told_in s) ≡ []
quiet_stops s parts erred = none_stop s (told_in s) parts erred

-- ---- The flight, once it is computed

module _ (s : State) (number : ℕ) (begun : List CellFacts) (read : CycleContext) (order : List Member)
    (r made told : RecordRoom) (cells : List CellFacts) (g : Robot) (erred : List ℕ)
    (before ending : Ending) (failed : Bool) (room room' : ℕ) (is : HasBegunOf s number begun read)
    (same : order ≡ map member_in begun) (none_stopped : r.stops.items ≡ [])
    (has : HasMade s cells g erred made) (leaves : LeavesFlight begun cells read.robot g r made room room')
    (still : failed ≡ false → IsQuiet erred made told before ending)
    (decides : failed ≡ true → Decides g.relations order erred made told ending) where
  related : g.relations ≡ relations_of s.description
  related = ap (λ (x : Robot). x.relations) leaves.robot ∙ is.related

  told_so : IsToldOf s g.relations order made.failed.items erred
  told_so = record {
    valid = is.valid;
    steady = is.steady;
    related = related;
    order = same ∙ members_are s (active_order s) begun is.cells;
    failed = has.failed;
    erred = has.erred;
  }

  quiet : failed ≡ false → (failed_in s ≡ []) × (erred_in (told_in s) ≡ [])
  quiet none = (sym has.failed ∙ (still none).failed, sym has.erred ∙ (still none).erred)

  none_yet : made.stops.items ≡ []
  none_yet = ap (λ stops. stops.items) leaves.stops ∙ none_stopped

  -- only who stops is told besides
  tells : told ≡ record made { stops = told.stops }
  tells = by_end failed refl
    where
      by_end : (b : Bool) → failed ≡ b → told ≡ record made { stops = told.stops }
      by_end false e = rw ((still e).same) refl
      by_end true e = (decides e).told

  stops_are : told.stops.items ≡ stops s (told_in s)
  stops_are = by_end failed refl
    where
      by_end : (b : Bool) → failed ≡ b → told.stops.items ≡ stops s (told_in s)
      by_end false e =
          ap (λ (x : RecordRoom). x.stops.items) (still e).same ∙ none_yet ∙ sym (quiet_stops s (quiet e).0 (quiet e).1)
      by_end true e = (decides e).stops s told_so ∙ ap (λ (ns : List ℕ). ns ++ stops s (told_in s)) none_yet

  pub computed_is : (lists : Lists) (progress : Option Progress) (outcome : Happened) → Shows g.hardware lists
      → outcome ≡ record {
        cycle = number;
        failed = told.failed.items;
        ran = told.ran.rans;
        bodies = told.bodies.items;
        stops =
            told.stops.items;
      }
      → IsComputed s
      (record {
        number = number;
        cells = cells;
        robot = g;
        ending = ending;
        lists = lists;
        has_failed = failed;
        erred =
            erred;
        progress = progress;
        outcome = Some outcome;
      })
  computed_is lists progress outcome shown is_told = record {
    number = is.number;
    outcome = ap Some (is_told
        ∙ ap (λ (n : ℕ). record {
          cycle = n;
          failed = told.failed.items;
          ran = told.ran.rans;
          bodies = told.bodies.items;
          stops =
              told.stops.items;
        }) is.number
        ∙ outcome_is s told.failed.items told.ran.rans told.bodies.items told.stops.items
        (ap (λ (x : RecordRoom). x.failed.items) tells ∙ has.failed)
        (ap (λ (x : RecordRoom). x.ran.rans) tells ∙ has.ran)
        (ap (λ (x : RecordRoom). x.bodies.items) tells ∙ has.bodies) stops_are);
    cells = has.cells;
    fitted = subst (λ (p : Placed). AllByRecursion (λ c. IsFitted p c.workspace) cells)
        (sym (ap (λ (x : Robot). x.places) leaves.robot)) leaves.fitted;
    hardware = has.hardware;
    shown = shown;
    placed = ap (λ (x : Robot). x.places) leaves.robot ∙ is.placed;
    related = related;
    timed = ap (λ (x : Robot). x.period_us) leaves.robot ∙ is.timed;
    quiet = quiet;
    erred = has.erred;
    ending = λ some. (decides some).ending s told_so;
  }

-- ---- What it keeps

-- the sets have their flags, whether it was decided who stops or not
pub flags_after : (w : Related) (members : List Member) (serials : List ℕ) (made told : RecordRoom)
    (before ending : Ending) (failed : Bool) → HasFlags (length w.leaders) before
    → (failed ≡ false → IsQuiet serials made told before ending)
    → (failed ≡ true → Decides w members serials made told ending) → HasFlags (length w.leaders) ending
flags_after w members serials made told before ending false flags quiet decides =
    subst (HasFlags (length w.leaders)) (sym (quiet refl).ending) flags
flags_after w members serials made told before ending true flags quiet decides = (decides refl).flags

-- nor does the end change who ran
pub ran_after : (w : Related) (members : List Member) (serials : List ℕ) (made told : RecordRoom)
    (before ending : Ending) (failed : Bool)
    → (failed ≡ false → IsQuiet serials made told before ending)
    → (failed ≡ true → Decides w members serials made told ending) → told.ran.rans ≡ made.ran.rans
ran_after w members serials made told before ending false quiet decides =
    ap (λ (r : RecordRoom). r.ran.rans) (quiet refl).same
ran_after w members serials made told before ending true quiet decides =
    ap (λ (r : RecordRoom). r.ran.rans) (decides refl).told

-- where a cycle was made as many interfaces stand on the board
pub board_moved : (s : State) (w : Wired) → IsMoved s w → length w.loans ≡ length (interfaces_of s.description)
board_moved s w is =
    ap length is.lent.loans ∙ length-map s.values _ ∙ sym (length-map s.values (λ (v : InterfaceValue). v.interface))
    ∙ ap length is.lent.wired.interfaces

-- as components there are, as are described
pub components_of : (s : State) (ms : List Mounted) → IsWired s ms → length ms ≡ length s.description.components
components_of s ms is = sym (length-map ms (λ m. m.hardware.description)) ∙ sym (ap length is.components)

-- so there is room for the lists once the components were read, as there was before,
pub lines_read : (s : State) (w after : Wired) (l : Lists) → IsHardwareOf s w → IsInCycle s (values_read s) after
    → HasLinesFor w l → HasLinesFor after l
lines_read s w after l is inside lines =
    let count : length w.components ≡ length s.description.components = components_of s w.components is.wired in
    let count' : length after.components ≡ length s.description.components =
    components_of (record s { values = values_read s }) after.components inside.wired in
    let board : length w.loans ≡ length (interfaces_of s.description) = board_of s w is in
    let board' : length after.loans ≡ length (interfaces_of s.description) =
    board_in_cycle s (values_read s) after inside in
    record {
      components = omega (arith, count, count', lines.components);
      loans =
          omega (arith, board, board', lines.loans);
    }

-- and once the cycle was made
pub lines_after : (s : State) (number : ℕ) (begun cells : List CellFacts) (read : CycleContext) (g : Robot)
    (serials : List ℕ) (r : RecordRoom) (l : Lists) → HasBegunOf s number begun read
    → HasMade s cells g serials r → HasLinesFor read.robot.hardware l → HasLinesFor g.hardware l
lines_after s number begun cells read g serials r l over has lines =
    let count : length read.robot.hardware.components ≡ length s.description.components =
    components_of (record s { values = values_read s }) read.robot.hardware.components over.hardware.wired in
    let count' : length g.hardware.components ≡ length s.description.components =
    components_of (landed s (cycle s)) g.hardware.components has.hardware.lent.wired in
    let board : length read.robot.hardware.loans ≡ length (interfaces_of s.description) =
    board_in_cycle s (values_read s) read.robot.hardware over.hardware in
    let board' : length g.hardware.loans ≡ length (interfaces_of s.description) =
    board_moved (landed s (cycle s)) g.hardware has.hardware in
    record {
      components = omega (arith, count, count', lines.components);
      loans =
          omega (arith, board, board', lines.loans);
    }

-- and in lists with as much room
pub lines_in : (w : Wired) (l l' : Lists) → HasLinesFor w l
    → (vec_capacity l'.components ≡ vec_capacity l.components) × (vec_len l'.loans ≡ vec_len l.loans) → HasLinesFor w l'
lines_in w l l' lines same =
    record { components = omega (arith, same.0, lines.components); loans = omega (arith, same.1, lines.loans) }

-- so all that a flight keeps is kept once the cycle is made
pub equipped_after : (cells cells' : List CellFacts) (members : List Member) (g g' : Robot) (r made : RecordRoom)
    (before ending : Ending) (l l' : Lists) (capacity most : ℕ)
    → IsEquipped cells members g before l capacity → LeavesFlight cells cells' g g' r made capacity most
    → HasFlags (length g'.relations.leaders) ending → HasLinesFor g'.hardware l'
    → IsEquipped cells' members g' ending l' most
equipped_after cells cells' members g g' r made before ending l l' capacity most is leaves flags lines =
    let count : length cells' ≡ length cells =
    sym (length-map cells' member_in) ∙ ap length leaves.order ∙ length-map cells member_in in
    record {
      order = is.order ∙ sym leaves.order;
      fitted = subst (λ (p : Placed). AllByRecursion (λ c. IsFitted p c.workspace) cells')
          (sym (ap (λ (x : Robot). x.places) leaves.robot)) leaves.fitted;
      flags = flags;
      lines = lines;
      erred = omega (arith, is.erred, count, leaves.capacity);
    }
