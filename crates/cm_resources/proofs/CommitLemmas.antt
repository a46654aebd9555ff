-- A commit of a state, with the parts of the desk.
use Rattle.std.proofs.Common.{◌≡◌, ℕ, ◌<◌, ◌≤◌, Bool, false, List, [], ◌∷◌, length, get_or, Option, sym, ap, ◌∙◌, arith}
use Rattle.std.proofs.Common.{subst}
use Rattle.std.specs.List.{All, AllByRecursion}
use Rattle.std.proofs.lemmas.List.{length-map}
use Rattle.std.proofs.lemmas.List.Elements.{recursion_from_All}
use Rattle.std.proofs.lemmas.Option.{slice_get_within}
use Rattle.cm_document.specs.Places.{interfaces_of}
use Rattle.cm_document.specs.Valid.{IsValid}
use Rattle.cm_document.specs.declared.description.Description.{Description}
use Rattle.cm_model.specs.Commit.{commit}
use Rattle.cm_model.specs.Order.{Places}
use Rattle.cm_model.specs.State.{State, Loaded, active}
use Rattle.cm_model.specs.Steady.{IsInOrder, IsOwn}
use Rattle.cm_model.specs.Values.{InterfaceValue}
use Rattle.cm_hardware.specs.Committed.{IsCommit, Commits}
use Rattle.cm_hardware.specs.Holding.{IsMoved}
use Rattle.cm_hardware.specs.Wiring.{Wired}
use Rattle.cm_hardware.proofs.OutputLemmas.{held_when_moved}
use Rattle.cm_places.specs.Placed.{Placed, HasAllRows, placed_of}
use Rattle.cm_places.proofs.PlacedLemmas.{placed_of-HasAllRows}
use Rattle.cm_slots.specs.Connections.{widest, IsConnected, IsShownOn, HasRoom}
use Rattle.cm_slots.proofs.ConnectionLemmas.{own_connection, own_room}
use Rattle.cm_resources.specs.ActiveSet.{Listed, TellsActive, serial_in}
use Rattle.cm_resources.specs.Described.{IsAsDescribed}
use Rattle.cm_resources.specs.Commits.{CanCommit, HasCommitted}
use Rattle.cm_resources.proofs.StayLemmas.{commit_stays, described_stay}
use Rattle.cm_resources.proofs.DescribedLemmas.{described_there}

-- ---- Places

-- each loaded controller has its place in the description
pub places_within : (d : Description) (ls : List Loaded) → All (IsAsDescribed d) ls
    → All (λ l. l.place < length d.controllers) ls
places_within d ls described = λ i l within.
    let there = described_there d (get_or ls i l) (described i l within) in
    slice_get_within d.controllers (get_or ls i l).place there.0 there.1

-- on the board stands what is described
pub fill_count : (s : State) (w : Wired) → IsInOrder s → IsMoved s w
    → length w.loans ≡ length (interfaces_of s.description)
fill_count s w kept moved =
    ap length moved.lent.loans ∙ length-map s.values _ ∙ sym (length-map s.values (λ (v : InterfaceValue). v.interface))
    ∙ ap length kept.described

cells_of : (d : Description) (ls : List Loaded) → IsValid d → AllByRecursion (λ l. l.place < length d.controllers) ls
    → AllByRecursion (IsOwn d.controllers) ls
    → AllByRecursion (IsConnected (placed_of d) (length (interfaces_of d))) ls
cells_of d [] valid below own = tt
cells_of d (l ∷ ls) valid below own = (own_connection d valid l below.0 own.0, cells_of d ls valid below.1 own.1)

-- each stands on the board, and there is room for it
pub connections : (s : State) → IsValid s.description → IsInOrder s → All (IsAsDescribed s.description) s.loaded
    → AllByRecursion (IsConnected (placed_of s.description) (length (interfaces_of s.description))) s.loaded
connections s valid kept described =
    cells_of s.description s.loaded valid
    (recursion_from_All (λ (l : Loaded). l.place < length s.description.controllers) s.loaded
    (places_within s.description s.loaded described)) kept.own

rooms_of : (d : Description) (ls : List Loaded) → IsValid d → AllByRecursion (λ l. l.place < length d.controllers) ls
    → AllByRecursion (HasRoom (placed_of d) widest) ls
rooms_of d [] valid below = tt
rooms_of d (l ∷ ls) valid below = (own_room d valid l below.0, rooms_of d ls valid below.1)

pub rooms : (s : State) → IsValid s.description → All (IsAsDescribed s.description) s.loaded
    → AllByRecursion (HasRoom (placed_of s.description) widest) s.loaded
rooms s valid described =
    rooms_of s.description s.loaded valid
    (recursion_from_All (λ (l : Loaded). l.place < length s.description.controllers) s.loaded
    (places_within s.description s.loaded described))

-- ---- The commit

module _ (s : State) (set again : Places) (placed : Placed) (room : ℕ) (loaded : List Loaded) (w : Wired)
    (listed : Listed) (chains stops starts : List Bool)
    (can : CanCommit s set again placed room loaded w listed chains stops starts) where
  pub can_connected : AllByRecursion (IsConnected placed (length w.loans)) loaded
  can_connected =
      rw (can.placed, can.loaded, fill_count s w can.in_order can.hardware)
      (connections s can.valid can.in_order can.described)

  pub can_hold : AllByRecursion (HasRoom placed room) loaded
  can_hold = rw (can.placed, can.wide, can.loaded) (rooms s can.valid can.described)

  pub can_place : All (λ l. l.place < length listed.active) loaded
  can_place = rw (can.loaded, can.listed) (places_within s.description s.loaded can.described)

  pub can_show : IsShownOn w.loans s.description s.values
  can_show = record { held = held_when_moved s w can.hardware; described = can.in_order.described }

  rows : HasAllRows s.description placed
  rows = rw (can.placed) (placed_of-HasAllRows s.description)

  pub can_claim : length w.loans ≤ length placed.claimers
  can_claim = omega (arith, fill_count s w can.in_order can.hardware, rows.claimers)

  pub can_export : length w.loans ≤ length placed.exporters
  can_export = omega (arith, fill_count s w can.in_order can.hardware, rows.exporters)

  -- the places stay
  pub still_place : (after : List Loaded) → after ≡ (commit s set again).loaded
      → All (λ l. l.place < length listed.active) after
  still_place after is =
      rw (is, can.listed) (places_within s.description (commit s set again).loaded
      (described_stay s.description s.loaded (commit s set again).loaded (commit_stays s set again) can.described))

  -- and so it is told to the hardware
  pub told_to_hardware : (after : List Loaded) (active : List (Option ℕ)) → after ≡ (commit s set again).loaded
      → TellsActive (length listed.active) after active
      → IsCommit s set again placed active stops
  told_to_hardware after active is tells = record {
    valid = can.valid;
    places = can.placed;
    active = λ p below. tells.told p (rw (can.listed) below) ∙ ap (λ ls. serial_in ls p) is;
    stopped = λ p below. ap (λ f. f p) can.told.stopped;
    in_order = can.in_order;
    loaded = can.all_loaded;
    configured = can.configured;
    together = can.together;
  }

  pub has_committed : (after : List Loaded) (w' : Wired) (looked : Listed) → after ≡ (commit s set again).loaded
      → TellsActive (length listed.active) after looked.active
      → looked.current ≡ false → Commits placed looked.active stops w w' → HasCommitted s set again after w' looked
  has_committed after w' looked is tells stale commits = record {
    loaded = is;
    hardware = commits.moved s set again (told_to_hardware after looked.active is tells) can.hardware;
    active = rw (can.listed) at tells;
    stale = stale;
  }

-- it can be with what works in a cycle as it is at home
pub can_there : (s : State) (set again : Places) (places : Placed) (room : ℕ) (slots : List Loaded) (w : Wired)
    (looked : Listed) (chains stops starts : List Bool) (places' : Placed) (room' : ℕ) (w' : Wired)
    → CanCommit s set again places room slots w looked chains stops starts → places' ≡ places → room' ≡ room → w' ≡ w
    → CanCommit s set again places' room' slots w' looked chains stops starts
can_there s set again places room slots w looked chains stops starts places' room' w' can at_places of_room
    of_hardware =
    subst (λ (p : Placed). CanCommit s set again p room' slots w' looked chains stops starts) (sym at_places)
    (subst (λ (n : ℕ). CanCommit s set again places n slots w' looked chains stops starts) (sym of_room)
    (subst (λ (x : Wired). CanCommit s set again places room slots x looked chains stops starts) (sym of_hardware) can))
