-- How controllers come to their cells, and leave them.
use Rattle.std.specs.Prelude.{◌≡◌, ℕ, ◌<◌, ◌≤◌, List, [], ◌∷◌, length, map, slice_get, unwrap_or, None}
use Rattle.std.specs.List.{All, AllByRecursion}
use Rattle.std.specs.Option.{option_map_or}
use Rattle.cm_document.specs.declared.life.Life.TheVariants.{Active}
use Rattle.cm_model.specs.State.{Loaded, MailAloft}
use Rattle.cm_model.specs.declared.data.CtlData.{CtlData}
use Rattle.cm_slots.specs.Lives.{IsKept}
use Rattle.cm_slots.specs.Mails.{mail_in, without_mail}
use Rattle.rt_flight.specs.Cells.{CellFacts}
use Rattle.rt_flight.specs.Workspaces.{WorkspaceFacts}

-- in how many cycles the controller is updated once
abbrev pub divisor_of : Loaded → ℕ
divisor_of l = unwrap_or l.divisor 1

-- the cell of this controller, with its workspace and its data, while these mails are aloft
abbrev pub cell_of : List MailAloft → Loaded → WorkspaceFacts → CtlData → CellFacts
cell_of mails l s ctl = record {
  workspace = record s { divisor = divisor_of l };
  ctl = ctl;
  mail = mail_in mails s.serial;
  depth = 0;
  turn = None;
  done = None;
}

-- the cells of those at these indices, each with the next workspace and the next data; the mail of each is taken
abbrev pub cells_filled : List Loaded → List MailAloft → List ℕ → List WorkspaceFacts → List CtlData → List CellFacts
cells_filled loaded mails (i ∷ is) (s ∷ ss) (c ∷ cs) =
    option_map_or (λ l. cell_of mails l s c ∷ cells_filled loaded (without_mail s.serial mails) is ss cs)
    (slice_get loaded i) []
cells_filled loaded mails _ _ _ = []

-- The cells can be filled: a controller stands at each index, there is a workspace and a box for each, each runs, and
-- there is room in an empty list for all.
pub record CanFill (loaded : List Loaded) (run : List ℕ) (ss : List WorkspaceFacts) (ctls : List CtlData)
    (cells : List CellFacts)
    (capacity : ℕ) : Type 0 where
  pub within : All (λ i. i < length loaded) run
  pub workspaces : length ss ≡ length run
  pub boxes : length ctls ≡ length run
  pub running : AllByRecursion (IsKept Active) ctls
  pub empty : cells ≡ []
  pub room : length run ≤ capacity

-- None of them is left there, and there is as much room.
pub record AreGone {A : Type 0} (left : List A) (before after : ℕ) : Type 0 where
  pub empty : left ≡ []
  pub room : after ≡ before

-- There is room for so many workspaces and boxes.
pub record CanLeave (count stands box_places : ℕ) : Type 0 where
  pub workspaces : count ≤ stands
  pub boxes : count ≤ box_places

-- The workspaces and the boxes of these cells are apart; each of them runs.
pub record HaveLeft (cells : List CellFacts) (ss : List WorkspaceFacts) (ctls : List CtlData) : Type 0 where
  pub workspaces : ss ≡ map (λ c. c.workspace) cells
  pub boxes : ctls ≡ map (λ c. c.ctl) cells
  pub running : AllByRecursion (IsKept Active) ctls
