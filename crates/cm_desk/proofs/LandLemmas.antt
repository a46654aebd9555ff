-- A flight comes home: what it brings is what the cycle leaves.
use Rattle.std.proofs.Common.{◌≡◌, ℕ, suc, Bool, true, false, List, [], ◌∷◌, length, map}
use Rattle.std.proofs.Common.{Some, vec_capacity, refl, sym, ap, ap₂, subst, ◌∙◌, arith}
use Rattle.std.specs.Prelude.{not, slice_get}
use Rattle.std.specs.List.{AllByRecursion}
use Rattle.std.proofs.lemmas.List.{length-map}
use Rattle.cm_model.specs.Cycle.{cycle, landed, active_order, after_cycle}
use Rattle.cm_storage.specs.Happened.{Happened}
use Rattle.cm_model.specs.Sound.{running_part}
use Rattle.cm_model.specs.State.{State, Loaded}
use Rattle.cm_model.specs.declared.data.CtlData.{CtlData}
use Rattle.cm_model.specs.declared.member.Member.{Member}
use Rattle.cm_hardware.specs.Holding.{IsMoved}
use Rattle.cm_hardware.specs.Shown.{HasLinesFor, Shows}
use Rattle.cm_hardware.specs.Wiring.{Wired}
use Rattle.cm_hardware.specs.declared.lists.Lists.{Lists}
use Rattle.cm_places.specs.Placed.{Placed}
use Rattle.cm_slots.specs.Calls.Slots.{CanPark, HasParked}
use Rattle.cm_slots.specs.Slots.{Slotted, AreDataIn, IsRunOf}
use Rattle.rt_flight.specs.Cells.{CellFacts}
use Rattle.rt_flight.specs.Flights.{FlightFacts, AreCellsAfter, ComesHome, member_in}
use Rattle.rt_flight.specs.Workspaces.{WorkspaceFacts, IsFitted}
use Rattle.rt_flight.specs.declared.context.CycleContext.{CycleContext}
use Rattle.rt_flight.specs.declared.robot.Robot.{Robot}
use Rattle.rt_flight.proofs.CycleLemmas.{board_moved, components_of}
use Rattle.stop_plan.specs.Ending.{HasFlags, IsEndingOf, told_in, erred_in, member_of, members_in_order}
use Rattle.cm_resources.specs.CycleResources.{base_of, place_among, HasLines}
use Rattle.cm_desk.specs.Filling.{CanLeave, HaveLeft}
use Rattle.cm_desk.specs.End.{CanLand, CanComeHome, HasComeHome, CanSettle}
use Rattle.cm_resources.specs.ActiveSet.{Listed}
use Rattle.cm_resources.specs.CycleNeeds.{stands_for}
use Rattle.cm_desk.specs.Works.{IsKept as KeepsState}
use Rattle.cm_resources.specs.declared.resources.CycleResources.{CycleResources}
use Rattle.cm_desk.proofs.AfterLemmas.{kept_ended}
use Rattle.cm_desk.proofs.EndLemmas.{flags_from}
use Rattle.cm_resources.proofs.OrderLemmas.{run_is}

-- the boxes have the data that the cycle gives their controllers,
data_are : (loaded ls : List Loaded) (cs : List CellFacts) → AreCellsAfter loaded (map running_part ls) cs
    → AreDataIn loaded ls (map (λ (c : CellFacts). c.ctl) cs)
data_are loaded [] [] after = tt
data_are loaded [] (c ∷ cs) after = absurd after
data_are loaded (l ∷ ls) [] after = absurd after
data_are loaded (l ∷ ls) (c ∷ cs) after = (after.0.ctl, data_are loaded ls cs after.1)

-- and there are as many
cells_run : (loaded ls : List Loaded) (cs : List CellFacts) → AreCellsAfter loaded (map running_part ls) cs
    → length cs ≡ length ls
cells_run loaded [] [] after = refl
cells_run loaded [] (c ∷ cs) after = absurd after
cells_run loaded (l ∷ ls) [] after = absurd after
cells_run loaded (l ∷ ls) (c ∷ cs) after = ap suc (cells_run loaded ls cs after.1)

-- and who sits in them is updated in that order
who_flew : (loaded ls : List Loaded) (cs : List CellFacts) → AreCellsAfter loaded (map running_part ls) cs
    → map member_in cs ≡ map member_of ls
who_flew loaded [] [] after = refl
who_flew loaded [] (c ∷ cs) after = absurd after
who_flew loaded (l ∷ ls) [] after = absurd after
who_flew loaded (l ∷ ls) (c ∷ cs) after =
    ap₂ (λ (m : Member) (ms : List Member). m ∷ ms)
    (ap₂ (λ (serial place : ℕ). record { serial = serial; place = place }) after.0.workspace.serial
    after.0.workspace.place) (who_flew loaded ls cs after.1)

-- the workspaces are fitted as they were in their cells
workspaces_fitted : (placed : Placed) (cs : List CellFacts)
    → AllByRecursion (λ (c : CellFacts). IsFitted placed c.workspace) cs
    → AllByRecursion (IsFitted placed) (map (λ (c : CellFacts). c.workspace) cs)
workspaces_fitted placed [] fitted = tt
workspaces_fitted placed (c ∷ cs) fitted = (fitted.0, workspaces_fitted placed cs fitted.1)

-- who stood in these cells stands at their workspaces
who_stood : (cs : List CellFacts) → map stands_for (map (λ (c : CellFacts). c.workspace) cs) ≡ map member_in cs
who_stood [] = refl
who_stood (c ∷ cs) = ap (λ (ms : List Member). member_in c ∷ ms) (who_stood cs)

-- there is room for the lists of a description where there is for those of its hardware
lines_of : (s : State) (w : Wired) (l : Lists) → IsMoved s w → HasLinesFor w l → HasLines s.description l
lines_of s w l is lines = record {
  components = omega (arith, components_of s w.components is.lent.wired, lines.components);
  loans = omega (arith, board_moved s w is, lines.loans);
}

-- what its contrary holds of does not
pub not_so : (b : Bool) → not b ≡ true → b ≡ false
not_so true so = cc
not_so false so = refl

module _ (s : State) (slots : Slotted) (looked : Listed) (b : CycleResources) (box_places : ℕ) (f : FlightFacts)
    (can : CanComeHome s slots looked b box_places f)
    (cells : List CellFacts) (k : CycleContext) (told : Happened) (home : ComesHome f cells k told) where
  after : AreCellsAfter (cycle s).loaded (map running_part (active_order s)) cells
  after = subst (AreCellsAfter (cycle s).loaded (map running_part (active_order s))) (sym home.cells)
      can.lands.computed.cells

  runs_at : map (slice_get s.loaded) looked.run ≡ map Some (active_order s)
  runs_at = run_is s looked.order looked.run can.lands.numbered.once (can.listed.order can.current)
      (can.listed.run can.current)

  is_run : IsRunOf s slots.loaded looked.run
  is_run = record { valid = can.valid; once = can.lands.numbered.once; loaded = can.loaded; order = runs_at }

  count : length cells ≡ length looked.order
  count = cells_run (cycle s).loaded (active_order s) cells after
      ∙ sym (ap length (can.listed.order can.current) ∙ length-map (active_order s) _)

  -- there is room for what comes home
  pub can_leave : CanLeave (length cells) (vec_capacity b.buffers.workspaces) box_places
  can_leave = record { workspaces = omega (arith, count, can.stands); boxes = omega (arith, count, can.box_places) }

  pub can_park : (workspaces : List WorkspaceFacts) (boxes : List CtlData) → HaveLeft cells workspaces boxes
      → CanPark slots looked.run boxes
  can_park workspaces boxes left = record {
    lent = can.away;
    run = (s, is_run);
    as_many = ap length left.boxes ∙ length-map cells (λ (c : CellFacts). c.ctl)
        ∙ cells_run (cycle s).loaded (active_order s) cells after
        ∙ sym (sym (length-map looked.run (slice_get s.loaded)) ∙ ap length runs_at ∙ length-map (active_order s) Some);
    running = left.running;
  }

  -- and so it can be settled who stops
  pub can_settle : (slots' : Slotted) (workspaces : List WorkspaceFacts) (boxes : List CtlData)
      → HaveLeft cells workspaces boxes → HasParked slots slots' looked.run boxes
      → CanSettle s slots' k b.room looked
  can_settle slots' workspaces boxes left parked = record {
    landed = record {
      valid = can.valid;
      steady = can.lands.steady;
      described = can.described;
      loaded = parked.landed s is_run
          (subst (AreDataIn (cycle s).loaded (active_order s)) (sym left.boxes)
          (data_are (cycle s).loaded (active_order s) cells after));
      hardware = subst (λ (h : Robot). IsMoved (landed s (cycle s)) h.hardware) (sym home.robot)
          can.lands.computed.hardware;
      wide = can.wide;
      listed = can.listed;
    };
    down = ap (λ (x : Slotted). x.aloft) parked.slots;
    placed = ap (λ (h : Robot). h.places) home.robot ∙ can.lands.computed.placed;
    quiet = λ none. can.lands.computed.quiet (sym home.has_failed ∙ none);
    ending = λ some. subst (IsEndingOf s) (sym home.ending) (can.lands.computed.ending (sym home.has_failed ∙ some));
  }

  pub flags : HasFlags (length s.description.controllers) k.ending
  flags = flags_from s.description k.robot.relations k.ending
      (ap (λ (h : Robot). h.relations) home.robot ∙ can.lands.computed.related) home.equipped.flags

  pub fitted : (workspaces : List WorkspaceFacts) (boxes : List CtlData) → HaveLeft cells workspaces boxes
      → AllByRecursion (IsFitted k.robot.places) workspaces
  fitted workspaces boxes left =
      subst (AllByRecursion (IsFitted k.robot.places)) (sym left.workspaces)
      (workspaces_fitted k.robot.places cells home.equipped.fitted)

  -- it is known who stands there
  pub ordered : (workspaces : List WorkspaceFacts) (boxes : List CtlData) → HaveLeft cells workspaces boxes
      → k.order.items ≡ map stands_for workspaces
  ordered workspaces boxes left =
      home.equipped.order ∙ sym (who_stood cells) ∙ ap (map stands_for) (sym left.workspaces)

  -- so it is known at which places an update failed
  pub erred : map (place_among k.order.items) k.erred.items
      ≡ map (place_among (members_in_order s)) (erred_in (told_in s))
  erred =
      ap₂ (λ (ms : List Member) (serials : List ℕ). map (place_among ms) serials)
      (home.equipped.order ∙ who_flew (cycle s).loaded (active_order s) cells after)
      (home.erred ∙ can.lands.computed.erred)

  -- the lists that come home are those of the hardware, and there is room for as many lines
  pub lines : HasLines s.description k.lists
  lines = lines_of (landed s (cycle s)) k.robot.hardware k.lists
      (subst (λ (h : Robot). IsMoved (landed s (cycle s)) h.hardware) (sym home.robot) can.lands.computed.hardware)
      home.equipped.lines

  pub shows : Shows k.robot.hardware k.lists
  shows = rw (home.robot, home.lists) can.lands.computed.shown

-- ---- The whole landing

-- the flight comes home to the desk that keeps this,
pub comes_home : (s : State) (names : List (List ℕ)) (b : CycleResources) (box_places : ℕ) (looked : Listed)
    (slots : Slotted) (f : FlightFacts) → KeepsState s names (base_of b box_places) looked → CanLand s f
    → slots.loaded ≡ s.loaded → slots.aloft ≡ s.aloft → CanComeHome s slots looked b box_places f
comes_home s names b box_places looked slots f kept lands loaded aloft = record {
  lands = lands;
  valid = kept.worked_out.valid;
  described = kept.described;
  loaded = loaded;
  away = aloft ∙ lands.aloft;
  listed = kept.listed;
  current = kept.ordered lands.aloft;
  wide = kept.based.wide;
  lines = kept.based.lines;
  stands = kept.based.stands lands.aloft;
  box_places = kept.based.box_places lands.aloft;
}

-- so it keeps it on
pub kept_home : (s : State) (names : List (List ℕ)) (b b' : CycleResources) (box_places box_places' : ℕ)
    (was looked : Listed) (slots slots' : Slotted) (f : FlightFacts) → KeepsState s names (base_of b box_places) was
    → CanLand s f
    → HasComeHome s slots slots' looked b b' f
    → KeepsState (after_cycle s (cycle s)) names (base_of b' box_places') looked
kept_home s names b b' box_places box_places' was looked slots slots' f kept lands home =
    kept_ended s slots'.loaded names (base_of b box_places) (base_of b' box_places') was looked kept home.settled
    (record {
      valid = kept.worked_out.valid;
      named = kept.worked_out.named;
      related = ap (λ (g : Robot). g.relations) home.robot ∙ lands.computed.related;
      placed = ap (λ (g : Robot). g.places) home.robot ∙ lands.computed.placed;
      timed = ap (λ (g : Robot). g.period_us) home.robot ∙ lands.computed.timed;
    })
    (record {
      home = home.home;
      flags = home.flags;
      fitted = home.fitted;
      ordered = home.ordered;
      lines =
          home.lines;
      told = home.told;
      next_lines = home.next_lines;
      size = home.size;
      room = home.room;
    })
