-- Worked rows of the turns of cells, computed from the definitions alone: what is written down here is by hand.
use Rattle.std.proofs.Common.{◌≡◌, ℕ, true, false, List, [], ◌∷◌, map, pos, Option, Some, None, refl}
use Rattle.std.specs.Prelude.{codes}
use Rattle.fixed_num.specs.declared.value.Value.{Value}
use Rattle.fixed_num.specs.declared.value.Value.TheVariants.{Unset, Num}
use Rattle.cm_document.specs.declared.call.Mail.{Mail}
use Rattle.cm_document.specs.declared.call.Mail.TheVariants.{Values}
use Rattle.cm_document.specs.declared.description.CtlKind.TheVariants as kind
use Rattle.cm_document.specs.declared.description.Params.TheVariants.{Passthrough, Mock}
use Rattle.cm_storage.specs.Ran.{Ran}
use Rattle.cm_model.specs.declared.data.RunData.TheVariants as run
use Rattle.cm_storage.specs.declared.ran.Done.TheVariants as done
use Rattle.cm_storage.specs.declared.record.FailedPart.{FailedPart}
use Rattle.loan_board.specs.Loans.{idle, set}
use Rattle.loan_board.specs.declared.board.Loan.{Loan}
use Rattle.cm_slots.specs.Updates.{Aloft}
use Rattle.rt_flight.specs.Workspaces.{WorkspaceFacts}
use Rattle.rt_flight.specs.Cells.{CellFacts, Flying, flying, all_flown, cells_after}
use Rattle.rt_flight.specs.Cells.{cell_read, cell_run, all_put, precedes_in}

-- ---- Two controllers, the first of which gives the second its reference

-- A board of a state interface, a reference and a command interface, which hold these.
abbrev board : Value → Value → Value → List Loan
board state reference command = set state (idle false) ∷ set reference (idle true) ∷ set command (idle true) ∷ []

-- The first described controller, top, claims the reference that the second, low, exports. Low claims the command, of
-- the one component. These reads failed in the cycle of this number.
abbrev round : ℕ → List FailedPart → Aloft
round number failed = record {
  number = number;
  period_us = 1000;
  placed = record {
    reads = [] ∷ [] ∷ [];
    references = [] ∷ (1 ∷ []) ∷ [];
    claims = (1 ∷ []) ∷ (2 ∷ []) ∷ [];
    claimers =
        [];
    exporters = [];
  };
  related = record {
    names = codes "top" ∷ codes "low" ∷ [];
    leaders = [] ∷ (0 ∷ []) ∷ [];
    followers = (1 ∷ []) ∷ [] ∷ [];
    odds = [] ∷ [] ∷ [];
    components =
        [] ∷ (0 ∷ []) ∷ [];
    heights = 1 ∷ 0 ∷ [];
  };
  failed = failed;
}

abbrev workspace : ℕ → ℕ → ℕ → List Value → Value → WorkspaceFacts
workspace serial place divisor references out =
    record { serial = serial; place = place; divisor = divisor; states = []; references = references; outs = out ∷ [] }

-- top, which gives out what it is sent
abbrev top : Value → Option Mail → Value → CellFacts
top given mail out = record {
  workspace = workspace 7 0 1 [] out;
  ctl = record { kind = kind.Passthrough; params = Some (Passthrough 1); run = Some (run.Set false (given ∷ [])) };
  mail = mail;
  depth = 0;
  turn = None;
  done = None;
}

-- low, which gives out its reference, and is updated once in so many cycles
abbrev low : ℕ → Value → Value → CellFacts
low divisor reference out = record {
  workspace = workspace 5 1 divisor (reference ∷ []) out;
  ctl = record { kind = kind.Passthrough; params = Some (Passthrough 1); run = Some (run.Set true (Unset ∷ [])) };
  mail = None;
  depth = 0;
  turn = None;
  done = None;
}

-- the work of the cells on this board, when so much is told and these erred
abbrev over : List Loan → List Ran → List ℕ → Flying
over loans ran erred = flying (record { components = []; loans = loans; places = [] }) ran erred

abbrev sent : Option Mail
sent = Some (Values (pos 1_500_000 ∷ []))

abbrev one_and_a_half : Value
one_and_a_half = Num (pos 1_500_000)

-- what is told of an update that went well
abbrev told : ℕ → Value → Ran
told serial out = record { serial = serial; done = done.Ok; outs = out ∷ []; published = [] }

-- what top is sent comes through to the command in one cycle
comes_through : all_flown (round 4 []) (top Unset sent Unset ∷ low 1 Unset Unset ∷ [])
    (over (board Unset Unset Unset) [] [])
    ≡ over (board Unset one_and_a_half one_and_a_half) (told 7 one_and_a_half ∷ told 5 one_and_a_half ∷ []) []
comes_through = refl

-- and the mail is taken
is_taken : cells_after (round 4 []) (top Unset sent Unset ∷ low 1 Unset Unset ∷ [])
    (over (board Unset Unset Unset) [] [])
    ≡ top one_and_a_half None one_and_a_half ∷ low 1 one_and_a_half one_and_a_half ∷ []
is_taken = refl

-- in the other order it comes a cycle late
comes_late : all_flown (round 4 []) (low 1 Unset Unset ∷ top Unset sent Unset ∷ [])
    (over (board Unset Unset Unset) [] [])
    ≡ over (board Unset one_and_a_half Unset) (told 5 Unset ∷ told 7 one_and_a_half ∷ []) []
comes_late = refl

-- as it would if both read before either gives out: so low waits for top
comes_late_together :
    all_put (round 4 []).placed
    (map cell_run
    (map (cell_read (round 4 []) (board Unset Unset Unset)) (top Unset sent Unset ∷ low 1 Unset Unset ∷ [])))
    (over (board Unset Unset Unset) [] [])
    ≡ over (board Unset one_and_a_half Unset) (told 7 one_and_a_half ∷ told 5 Unset ∷ []) []
comes_late_together = refl

waits : precedes_in (round 4 []).related (top Unset sent Unset) (low 1 Unset Unset) ≡ true
waits = refl

-- where the read of its component failed, low is held off, and the command holds what it held
is_held_off : all_flown (round 4 (record { place = 0; reading = true } ∷ []))
    (top Unset sent Unset ∷ low 1 Unset Unset ∷ [])
    (over (board Unset Unset (Num (pos 3))) [] [])
    ≡ over (board Unset one_and_a_half (Num (pos 3))) (told 7 one_and_a_half ∷ []) []
is_held_off = refl

-- so it is where it is not due: it is updated in each third cycle, and this is the fourth
is_not_due : all_flown (round 4 []) (top Unset sent Unset ∷ low 3 Unset Unset ∷ [])
    (over (board Unset Unset (Num (pos 3))) [] [])
    ≡ over (board Unset one_and_a_half (Num (pos 3))) (told 7 one_and_a_half ∷ []) []
is_not_due = refl

-- ---- An update that fails

-- a mock that claims the command and fails in this cycle
abbrev mock : ℕ → CellFacts
mock fails = record {
  workspace = workspace 5 1 1 (Unset ∷ []) (Num (pos 8));
  ctl = record
      { kind = kind.Mock; params = Some (Mock 1 false [] (fails ∷ [])); run = Some (run.Set false (Num (pos 9) ∷ [])) };
  mail = None;
  depth = 0;
  turn = None;
  done = None;
}

-- its serial is told, and the command holds what it held, as its workspace does
fails : all_flown (round 4 []) (mock 4 ∷ []) (over (board Unset Unset (Num (pos 3))) [] [])
    ≡ over (board Unset Unset (Num (pos 3))) (record { serial = 5; done = done.Error; outs = []; published = [] } ∷ [])
    (5 ∷ [])
fails = refl

keeps_outs : cells_after (round 4 []) (mock 4 ∷ []) (over (board Unset Unset (Num (pos 3))) [] []) ≡ mock 4 ∷ []
keeps_outs = refl
