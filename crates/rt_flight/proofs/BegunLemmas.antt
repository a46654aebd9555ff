-- What holds once a flight was started: its cells have their depths, and its components were read.
use Rattle.std.proofs.Common.{◌≡◌, ℕ, ◌<◌, ◌≤◌, true, List, [], ◌∷◌, ◌++◌}
use Rattle.std.proofs.Common.{length, map, Some, refl, sym, ap, subst, ◌∙◌, arith}
use Rattle.std.specs.List.{AllByRecursion}
use Rattle.cm_model.specs.Components.{is_listed}
use Rattle.cm_model.specs.Order.{depth}
use Rattle.cm_model.specs.Sound.{Running}
use Rattle.cm_model.specs.State.{State, MailAloft, active}
use Rattle.cm_storage.specs.declared.record.FailedPart.{FailedPart}
use Rattle.cm_storage.specs.declared.record_room.RecordRoom.{RecordRoom}
use Rattle.cm_hardware.specs.Holding.{ReadInCycle, reads_failed_in, values_read}
use Rattle.cm_hardware.specs.Wiring.{IsSameBuild, Wired, writes_to_fail}
use Rattle.cm_places.specs.Placed.{Placed}
use Rattle.chain_order.specs.Links.{linked}
use Rattle.switch_plan.specs.Relations.{Related}
use Rattle.rt_flight.specs.Cells.{CellFacts, post_of, CanFly}
use Rattle.rt_flight.specs.Depths.{places_in, AreDeepened, RanksDepths, StandBy}
use Rattle.rt_flight.specs.Flights.{member_in, AreCellsOf, IsAloftOver, IsReady}
use Rattle.rt_flight.specs.UnderWay.{HasBegun, HasBegunOf, HasRoomFor, IsFresh}
use Rattle.rt_flight.specs.Workspaces.{IsFitted}
use Rattle.rt_flight.specs.declared.context.CycleContext.{CycleContext}
use Rattle.rt_flight.proofs.CycleLemmas.{can_fly_each, lines_read}
use Rattle.rt_flight.proofs.PutDownLemmas.{all_deepened, deepened_map, deepened_places, layered}
use Rattle.rt_flight.proofs.RankLemmas.{depths_ranked}
use Rattle.rt_flight.proofs.TurnLemmas.{count_by, numbers_by, outs_by}

-- the same cells with their depths are those of the same controllers,
deepened_cells : (mails : List MailAloft) (rs : List Running) (cs ds : List CellFacts) → AreDeepened cs ds
    → AreCellsOf mails rs cs → AreCellsOf mails rs ds
deepened_cells mails [] [] [] same are = tt
deepened_cells mails [] [] (d ∷ ds) same are = absurd same
deepened_cells mails [] (c ∷ cs) ds same are = absurd are
deepened_cells mails (r ∷ rs) [] ds same are = absurd are
deepened_cells mails (r ∷ rs) (c ∷ cs) [] same are = absurd same
deepened_cells mails (r ∷ rs) (c ∷ cs) (d ∷ ds) same are = (
  record {
    workspace = record {
      serial = ap (λ (e : CellFacts). e.workspace.serial) same.0 ∙ are.0.workspace.serial;
      place = ap (λ (e : CellFacts). e.workspace.place) same.0 ∙ are.0.workspace.place;
      divisor = ap (λ (e : CellFacts). Some e.workspace.divisor) same.0 ∙ are.0.workspace.divisor;
    };
    ctl = ap (λ (e : CellFacts). e.ctl) same.0 ∙ are.0.ctl;
    mail = ap (λ (e : CellFacts). e.mail) same.0 ∙ are.0.mail;
  },
  deepened_cells mails rs cs ds same.1 are.1,
)

-- can be updated as before,
deepened_can_fly : (placed : Placed) (related : Related) (period_us board : ℕ) (c : CellFacts) (n : ℕ)
    → CanFly placed related period_us board c
    → CanFly placed related period_us board (record c { depth = n })
deepened_can_fly placed related period_us board c n can = record {
  connected = can.connected;
  steps = record {
    kept = can.steps.kept;
    counts = can.steps.counts;
    related = can.steps.related;
    led = can.steps.led;
    in_time = can.steps.in_time;
    mail = can.steps.mail;
  };
  few_states = can.few_states;
  few_outs = can.few_outs;
}

-- and stand where they stood
deepened_posts : (cs ds : List CellFacts) → AreDeepened cs ds → map post_of ds ≡ map post_of cs
deepened_posts cs ds same = deepened_map post_of (λ c n. refl) cs ds same

-- ---- Of a state

module _ (number : ℕ) (cells cells' : List CellFacts) (k : CycleContext) (w : Wired) (room room' : RecordRoom)
    (ready : IsReady number cells k.order.items k.robot room) (same : AreDeepened cells cells')
    (ranked : (f : ℕ → ℕ) → RanksDepths k.robot.relations f (places_in cells)
    → AllByRecursion (λ c. c.depth ≡ f c.workspace.place) cells')
    (read : (s : State) → IsAloftOver s number cells k.robot → ReadInCycle s w room.failed.items room'.failed.items)
  where
    -- the context once the components were read
    abbrev pub k' : CycleContext
    k' = record k { robot = record k.robot { hardware = w }; room = Some room' }

    pub begun_of : (s : State) → IsAloftOver s number cells k.robot → HasBegunOf s number cells' k'
    begun_of s is =
        let seen = read s is in record {
          valid = is.valid;
          steady = is.steady;
          once = is.once;
          number = is.number;
          placed = is.placed;
          related = is.related;
          timed = is.timed;
          hardware = seen.hardware;
          failed = seen.failed ∙ ap (λ (ps : List FailedPart). ps ++ reads_failed_in s) ready.empty.no_failure;
          cells = deepened_cells s.mails _ cells cells' same is.cells;
          depths = ranked (λ p. depth s.description.controllers (active s) p) (depths_ranked s number cells k.robot is);
        }

    -- ---- What is kept

    pub begun : IsFresh number cells k → IsSameBuild k.robot.hardware w
        → writes_to_fail number w.components ≤ room'.failed.room → room' ≡ record room { failed = room'.failed }
        → HasBegun number cells' k'
    begun fresh build left rest =
        let s : State = ready.makes.aloft.0 in
        let is : IsAloftOver s number cells k.robot = ready.makes.aloft.1 in
        let seen = read s is in
        let ranks = depths_ranked s number cells k.robot is in
        let posts = deepened_posts cells cells' same in
        let count = count_by cells' cells posts in
        let outs = outs_by cells' cells posts in
        let numbers = numbers_by cells' cells posts in
        let time = ready.makes.timely in
        record {
          aloft = (s, begun_of s is);
          equipped = record {
            order = fresh.equipped.order ∙ sym (deepened_map member_in (λ c n. refl) cells cells' same);
            fitted = all_deepened (λ c. IsFitted k.robot.places c.workspace) (λ c n fitted. fitted) cells cells' same
                fresh.equipped.fitted;
            flags = fresh.equipped.flags;
            lines = lines_read s k.robot.hardware w k.lists is.hardware seen.hardware fresh.equipped.lines;
            erred = omega (arith, fresh.equipped.erred, count);
          };
          layered = layered k.robot.relations (λ p. depth s.description.controllers (active s) p) cells'
              (ranked (λ p. depth s.description.controllers (active s) p) ranks)
              (subst (StandBy (λ p. depth s.description.controllers (active s) p))
              (sym (deepened_places cells cells' same)) ranks.sorted)
              (subst (AllByRecursion
              (λ p. (q : ℕ) → is_listed (linked k.robot.relations.leaders q) p ≡ true
              → depth s.description.controllers (active s) p < depth s.description.controllers (active s) q))
              (sym (deepened_places cells cells' same)) ranks.rises);
          none_erred = fresh.none_erred;
          not_yet = fresh.not_yet;
          timely = record { some_time = time.some_time; no_longer = time.no_longer; time = time.time };
          short = ready.makes.short;
          each = all_deepened (CanFly k.robot.places k.robot.relations k.robot.period_us (length w.loans))
              (deepened_can_fly k.robot.places k.robot.relations k.robot.period_us (length w.loans)) cells cells' same
              (can_fly_each s (values_read s) k.robot.hardware w number cells k.robot is.hardware seen.hardware
              ready.makes.each);
          room = subst (HasRoomFor number cells' k') (sym rest) (record {
            told = record {
              heads = omega (arith, ready.makes.told.heads, count);
              values =
                  omega (arith, ready.makes.told.values, outs);
              numbers = omega (arith, ready.makes.told.numbers, numbers);
            };
            failures = left;
            joints = omega (arith, build.joints, ready.makes.joints);
            settles = record {
              followers = ready.settles.followers;
              components = ready.settles.components;
              within =
                  ready.settles.within;
              stops = ready.settles.stops;
            };
            none_ran = ready.empty.none_ran;
            no_body = ready.empty.no_body;
            none_stopped = ready.empty.none_stopped;
          });
        }
