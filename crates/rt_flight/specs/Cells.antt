-- What stands in a cell, and what the updates of a cycle make of the cells and of the board.
use Rattle.std.specs.Prelude.{◌≡◌, ℕ, ◌+◌, ◌<◌, ◌≤◌, ◌^◌, Bool, false, if◌then◌else◌, List, [], ◌∷◌, ◌++◌, length}
use Rattle.std.specs.Prelude.{Option, None, Some, IfSome}
use Rattle.std.specs.List.{AllByRecursion}
use Rattle.cm_document.specs.declared.call.Mail.{Mail}
use Rattle.cm_document.specs.declared.description.CtlKind.{CtlKind}
use Rattle.cm_document.specs.declared.life.Life.TheVariants.{Active}
use Rattle.cm_model.specs.Components.{is_listed}
use Rattle.cm_model.specs.Controllers.{Stepped, put_out, AreItsCounts}
use Rattle.cm_storage.specs.Ran.{Ran, Filling}
use Rattle.cm_model.specs.declared.data.CtlData.{CtlData}
use Rattle.cm_model.specs.declared.tick.Tick.{Tick}
use Rattle.cm_storage.specs.declared.ran.Done.{Done}
use Rattle.cm_storage.specs.declared.ran.Done.TheVariants as done
use Rattle.cm_hardware.specs.Wiring.{Wired}
use Rattle.loan_board.specs.declared.board.Loan.{Loan}
use Rattle.chain_order.specs.Links.{linked}
use Rattle.cm_places.specs.Placed.{Placed}
use Rattle.cm_model.specs.Kinds.{publishes}
use Rattle.cm_slots.specs.Lives.{CanBeStepped, IsKept}
use Rattle.cm_slots.specs.Updates.{Aloft, put_on, board_after, with_erred}
use Rattle.ctl_trait.specs.Taking.{CanTake}
use Rattle.switch_plan.specs.Relations.{Related}
use Rattle.rt_flight.specs.Workspaces.{WorkspaceFacts, gathered, flies, tick_at, step_from, told_of, IsConnectedTo}
use Rattle.rt_flight.specs.Workspaces.{IsInTime}

-- A controller that runs, in its cell: where it stands, its data, and the mail that went aloft for it; its depth, once
-- the flight started; when it is updated in the cycle, once it has read and until its step; and how its update went,
-- while what it gave out is not yet put into its claims.
pub record CellFacts : Type 0 where
  pub workspace : WorkspaceFacts
  pub ctl : CtlData
  pub mail : Option Mail
  pub depth : ℕ
  pub turn : Option Tick
  pub done : Option Done

-- ---- One update

-- the cell once its states and its references are read, while the board holds this
abbrev pub cell_gathered : Placed → List Loan → CellFacts → CellFacts
cell_gathered placed loans c = record c { workspace = gathered placed loans c.workspace }

-- its step at this time, from what was read for it
abbrev pub step_at : Tick → CellFacts → Stepped
step_at tick c = step_from c.ctl tick c.workspace c.mail

-- its step in this cycle
abbrev pub step_of : Aloft → CellFacts → Stepped
step_of a c = step_at (tick_at a c.workspace) c

-- the cell after this step: it took its mail, and what it gave out stands in it unless it failed
abbrev pub cell_stepped : Stepped → CellFacts → CellFacts
cell_stepped step c = record {
  workspace = record c.workspace { outs = put_out step c.workspace.outs };
  ctl = step.after;
  mail = None;
  depth = c.depth;
  turn = None;
  done = None;
}

-- the cell after its turn, while the board holds this: where it is not updated its mail is lost
abbrev pub cell_after : Aloft → List Loan → CellFacts → CellFacts
cell_after a loans c =
    if flies a c.workspace
    then cell_stepped (step_of a (cell_gathered a.placed loans c)) (cell_gathered a.placed loans c)
    else record c { mail = None; turn = None; done = None }

-- What the updates work on together: the hardware; what is told so far, and the serials of those whose update failed.
pub record Flying : Type 0 where
  pub hardware : Wired
  pub ran : List Ran
  pub erred : List ℕ

-- these parts together
abbrev pub flying : Wired → List Ran → List ℕ → Flying
flying hardware ran erred = record { hardware = hardware; ran = ran; erred = erred }

-- what is told of the step of the controller in this cell
abbrev pub ran_in : CellFacts → Stepped → Ran
ran_in c step = record { serial = c.workspace.serial; done = step.done; outs = step.outs; published = step.published }

-- after this step of the controller in this cell: its claims hold what it gave out, unless it failed, and it is told of
abbrev pub with_step : Aloft → CellFacts → Stepped → Flying → Flying
with_step a c step f = record {
  hardware = record f.hardware { loans = board_after (linked a.placed.claims c.workspace.place) step f.hardware.loans };
  ran = f.ran ++ ran_in c step ∷ [];
  erred = with_erred c.workspace.serial step f.erred;
}

-- after the turn of this cell
abbrev pub flying_after : Aloft → CellFacts → Flying → Flying
flying_after a c f =
    if flies a c.workspace then with_step a c (step_of a (cell_gathered a.placed f.hardware.loans c)) f else f

-- ---- All of them

-- after the turns of these cells, one after the other
abbrev pub all_flown : Aloft → List CellFacts → Flying → Flying
all_flown a [] f = f
all_flown a (c ∷ cs) f = all_flown a cs (flying_after a c f)

-- and the cells then
abbrev pub cells_after : Aloft → List CellFacts → Flying → List CellFacts
cells_after a [] f = []
cells_after a (c ∷ cs) f = cell_after a f.hardware.loans c ∷ cells_after a cs (flying_after a c f)

-- ---- Together

-- the cell once its states and its references are read, and it knows when it is updated, if it is
abbrev pub cell_read : Aloft → List Loan → CellFacts → CellFacts
cell_read a loans c =
    if flies a c.workspace
    then record (cell_gathered a.placed loans c) { turn = Some (tick_at a c.workspace) }
    else record c { turn = None }

-- and once its step is made, of which nothing is put yet; if it is not updated its mail is lost
abbrev pub cell_run : CellFacts → CellFacts
cell_run c = elim c.turn [
  | None ↦ record c { mail = None; turn = None; done = None }
  | Some tick ↦ record (cell_stepped (step_at tick c) c) { done = Some (step_at tick c).done }
]

-- and once all of it is put
abbrev pub cell_put : CellFacts → CellFacts
cell_put c = record c { done = None }

-- what its claims then hold
abbrev pub board_put : Placed → Done → WorkspaceFacts → List Loan → List Loan
board_put placed answer s loans =
    elim answer [ done.Ok ↦ put_on loans (linked placed.claims s.place) s.outs | done.Error ↦ loans ]

-- and what is told
abbrev pub serials_put : Done → ℕ → List ℕ → List ℕ
serials_put answer serial erred = elim answer [ done.Ok ↦ erred | done.Error ↦ erred ++ serial ∷ [] ]

abbrev pub put_with : Placed → Done → CellFacts → Flying → Flying
put_with placed answer c f = record {
  hardware = record f.hardware { loans = board_put placed answer c.workspace f.hardware.loans };
  ran = f.ran ++ told_of c.workspace (publishes c.ctl.kind) answer ∷ [];
  erred = serials_put answer c.workspace.serial f.erred;
}

-- what its step came to is put into its claims, and told
abbrev pub flying_put : Placed → CellFacts → Flying → Flying
flying_put placed c f = elim c.done [ None ↦ f | Some answer ↦ put_with placed answer c f ]

-- that of all of these, one after the other
abbrev pub all_put : Placed → List CellFacts → Flying → Flying
all_put placed [] f = f
all_put placed (c ∷ cs) f = all_put placed cs (flying_put placed c f)

-- The first of these precedes the second: the first claims a reference of the second.
abbrev pub precedes_in : Related → CellFacts → CellFacts → Bool
precedes_in related c d = is_listed (linked related.leaders d.workspace.place) c.workspace.place

-- none of these precedes a later one
abbrev pub NonePrecedes : Related → List CellFacts → Type 0
NonePrecedes related [] = Unit {0}
NonePrecedes related (c ∷ cs) = AllByRecursion (λ d. precedes_in related c d ≡ false) cs × NonePrecedes related cs

-- What is claimed at one place is neither read nor a reference at the other.
pub record AreApart (placed : Placed) (p q : ℕ) : Type 0 where
  pub reads : AllByRecursion (λ k. is_listed (linked placed.claims p) k ≡ false) (linked placed.reads q)
  pub references : AllByRecursion (λ k. is_listed (linked placed.claims p) k ≡ false) (linked placed.references q)

-- so it is of controllers of which the first does not precede the second
abbrev pub TellsApart : Placed → Related → Type 0
TellsApart placed related = (p q : ℕ) → is_listed (linked related.leaders q) p ≡ false → AreApart placed p q

-- ---- What no part of a turn changes

-- Who stands in the cell, of which kind, in how many cycles it is updated once, and how much room it has.
pub record Post : Type 0 where
  pub serial : ℕ
  pub place : ℕ
  pub divisor : ℕ
  pub kind : CtlKind
  pub states : ℕ
  pub references : ℕ
  pub outs : ℕ

abbrev pub post_of : CellFacts → Post
post_of c = record {
  serial = c.workspace.serial;
  place = c.workspace.place;
  divisor = c.workspace.divisor;
  kind = c.ctl.kind;
  states = length c.workspace.states;
  references = length c.workspace.references;
  outs = length c.workspace.outs;
}

-- ---- When that may be done

-- Its data are kept as those of a controller that runs; it is in time, has just the room for what it is given and gives
-- out, and can take its mail.
pub record CanStep (relations : Related) (period_us : ℕ) (c : CellFacts) : Type 0 where
  pub kept : IsKept Active c.ctl
  pub counts : IfSome c.ctl.params
      (λ params. AreItsCounts params (length c.workspace.states) (length c.workspace.references)
      (length c.workspace.outs))
  pub related : c.workspace.place < length relations.components
  pub led : c.workspace.place < length relations.leaders
  pub in_time : IsInTime period_us c.workspace
  pub mail : IfSome c.mail (CanTake c.ctl)

-- If it is updated in the cycle it can make its step then, and can take its mail.
abbrev pub CanMakeStep : CellFacts → Type 0
CanMakeStep c =
    IfSome c.turn
    (λ tick. CanBeStepped c.ctl tick (length c.workspace.states) (length c.workspace.references)
    (length c.workspace.outs) c.mail)

-- Besides it stands on a board of so many interfaces, and claims and reads fewer than 256 each.
pub record CanFly (placed : Placed) (related : Related) (period_us board : ℕ) (c : CellFacts) : Type 0 where
  pub connected : IsConnectedTo placed board c.workspace
  pub steps : CanStep related period_us c
  pub few_states : length c.workspace.states < 2 ^ 8
  pub few_outs : length c.workspace.outs < 2 ^ 8

-- how many numbers it publishes
abbrev pub numbers_of : CellFacts → ℕ
numbers_of c = if publishes c.ctl.kind then length c.workspace.states else 0

-- how many values these give out together, and how many numbers they publish
abbrev pub all_outs : List CellFacts → ℕ
all_outs [] = 0
all_outs (c ∷ cs) = length c.workspace.outs + all_outs cs

abbrev pub all_numbers : List CellFacts → ℕ
all_numbers [] = 0
all_numbers (c ∷ cs) = numbers_of c + all_numbers cs

-- there is room to tell of these
pub record CanTell (cs : List CellFacts) (room : Filling) : Type 0 where
  pub heads : length cs ≤ room.heads
  pub values : all_outs cs ≤ room.values
  pub numbers : all_numbers cs ≤ room.numbers

-- there is room to tell of this one
pub record CanBeTold (c : CellFacts) (room : Filling) : Type 0 where
  pub heads : 0 < room.heads
  pub values : length c.workspace.outs ≤ room.values
  pub numbers : numbers_of c ≤ room.numbers
