-- Worked rows of a commit: what becomes of a place, and which command interfaces of a component are claimed.
use Rattle.std.proofs.Common.{◌≡◌, ℕ, pos, Bool, true, false, List, [], ◌∷◌, Option, Some, None, refl}
use Rattle.fixed_num.specs.declared.value.Value.TheVariants.{Unset, Num}
use Rattle.loan_board.specs.declared.board.Loan.{Loan}
use Rattle.cm_hardware.specs.Committed.{relent_by, each_changed, numbers_from}

-- Of three controllers the second and the third are active after the commit, under the serials 7 and 9; the first and
-- the third were stopped: that one left, this one restarts.
abbrev serials : List (Option ℕ)
serials = None ∷ Some 7 ∷ Some 9 ∷ []

abbrev stopped : List Bool
stopped = true ∷ false ∷ true ∷ []

-- a command interface that the first had, at 5
abbrev command : Loan
command = record { value = Num (pos 5); owner = Some 4; is_command = true; is_available = true }

-- the second claims it, and has it; it keeps what it holds
kept_by_one_that_stays : relent_by serials stopped (1 ∷ []) None command ≡ record command { owner = Some 7 }
kept_by_one_that_stays = refl

-- the first and the second claim it: it goes from that to this, and becomes Unset
handed_on : relent_by serials stopped (0 ∷ 1 ∷ []) None command ≡ record command { value = Unset; owner = Some 7 }
handed_on = refl

-- the third claims it, and has it again; it becomes Unset
kept_by_one_that_restarts : relent_by serials stopped (2 ∷ []) None command
    ≡ record command { value = Unset; owner = Some 9 }
kept_by_one_that_restarts = refl

-- the first alone claims it: nobody has it any more
left_behind : relent_by serials stopped (0 ∷ []) None command ≡ record command { value = Unset; owner = None }
left_behind = refl

-- it is not available: nobody has it, and it holds nothing
gone : relent_by serials stopped (1 ∷ []) None (record command { owner = None; is_available = false })
    ≡ record { value = Unset; owner = None; is_command = true; is_available = false }
gone = refl

-- a state interface is nobody's, and keeps what it holds
measured : relent_by serials stopped [] None
    (record { value = Num (pos 3); owner = None; is_command = false; is_available = true })
    ≡ record { value = Num (pos 3); owner = None; is_command = false; is_available = true }
measured = refl

-- a reference of the second, which comes: it is available, and the third has it
offered : relent_by serials (true ∷ false ∷ false ∷ []) (2 ∷ []) (Some 1)
    (record { value = Unset; owner = None; is_command = true; is_available = false })
    ≡ record { value = Unset; owner = Some 9; is_command = true; is_available = true }
offered = refl

-- a reference of the first, which left: it is not available any more, and holds nothing
withdrawn : relent_by serials stopped (1 ∷ []) (Some 0) command
    ≡ record { value = Unset; owner = None; is_command = true; is_available = false }
withdrawn = refl

-- the second and the third of three command interfaces are claimed
numbered : numbers_from 0 (record command { owner = None } ∷ command ∷ command ∷ []) ≡ 1 ∷ 2 ∷ []
numbered = refl

-- each place changes by itself, at its number
one_by_one : each_changed (λ place loan. record loan { owner = Some place }) 1 2 (command ∷ command ∷ command ∷ [])
    ≡ command ∷ record command { owner = Some 1 } ∷ record command { owner = Some 2 } ∷ []
one_by_one = refl
