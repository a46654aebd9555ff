-- What a commit makes of the hardware: the board says who is active, place by place, and the joints go by what is
-- claimed.
use Rattle.std.specs.Prelude.{◌≡◌, ℕ, zero, suc, ◌+◌, ◌<◌, ◌==◌, Bool, false, not, ◌&&◌, ◌||◌, if◌then◌else◌, List, []}
use Rattle.std.specs.Prelude.{◌∷◌, ◌++◌, length, take, drop, find, slice_index_or, Option, None, Some, is_none, is_some}
use Rattle.std.specs.Prelude.{option_map}
use Rattle.std.specs.List.{list_any}
use Rattle.std.specs.Option.{option_map_or}
use Rattle.cm_document.specs.Valid.{IsValid}
use Rattle.cm_model.specs.Commit.{scene_of, commit}
use Rattle.cm_model.specs.Components.{mode_fault}
use Rattle.cm_model.specs.Faults.{first_of}
use Rattle.cm_model.specs.Order.{Places, set_of}
use Rattle.cm_model.specs.Sound.{CanRunTogether}
use Rattle.cm_model.specs.State.{State, is_active}
use Rattle.cm_model.specs.Steady.{AreLoaded, AreConfigured, IsInOrder}
use Rattle.cm_model.specs.Switches.{is_stopped}
use Rattle.chain_order.specs.Links.{linked}
use Rattle.cm_places.specs.Placed.{Placed, placed_of}
use Rattle.hw_component.specs.Hardware.{with_claims}
use Rattle.loan_board.specs.Loans.{with_loan, lent}
use Rattle.loan_board.specs.declared.board.Loan.{Loan}
use Rattle.cm_hardware.specs.Holding.{IsHardwareOf, IsMoved}
use Rattle.cm_hardware.specs.Wiring.{Mounted, Wired, all_states, commands_count}

-- ---- What a commit is told

-- the serial of the controller that is active at a place of the description; none where none is
abbrev pub serial_at : State → ℕ → Option ℕ
serial_at s place = option_map (λ l. l.serial) (find (λ l. is_active l && l.place == place) s.loaded)

-- What the hardware is told of a commit of this state, after which this set is active, with these restarted by name.
pub record IsCommit (s : State) (set again : Places) (placed : Placed) (serials : List (Option ℕ)) (flags : List Bool) :
    Type 0 where
  -- The description is valid, and these are the places of its interfaces;
  pub valid : IsValid s.description
  pub places : placed ≡ placed_of s.description
  -- of each described controller the serial is told where it is active after the commit, by place,
  pub active : (p : ℕ) → p < length s.description.controllers
      → slice_index_or serials p None ≡ serial_at (commit s set again) p
  -- and a flag, whether the commit stops it.
  pub stopped : (p : ℕ) → p < length s.description.controllers → set_of flags p ≡ is_stopped (scene_of s) set again p
  -- The state is in order; each of the set is loaded and has parameters; and they can run together.
  pub in_order : IsInOrder s
  pub loaded : AreLoaded s.loaded set
  pub configured : AreConfigured s.loaded set
  pub together : CanRunTogether s.description s.lives set

-- Told so, the hardware comes to be that of the state after the commit: be it that of the state, or be it so that
-- nobody has what is not available, as a move of a component leaves it.
pub record Commits (placed : Placed) (serials : List (Option ℕ)) (flags : List Bool) (before after : Wired) : Type 0
  where
    pub held : (s : State) (set again : Places) → IsCommit s set again placed serials flags → IsHardwareOf s before
        → IsHardwareOf (commit s set again) after
    pub moved : (s : State) (set again : Places) → IsCommit s set again placed serials flags → IsMoved s before
        → IsHardwareOf (commit s set again) after

-- ---- One place

-- the controller at this place is active, by the serials that are told
abbrev pub serial_in : List (Option ℕ) → ℕ → Option ℕ
serial_in active place = slice_index_or active place None

-- whether the interface at a place is available then: a component's as it was, a reference where its controller is
-- active
abbrev pub is_there : List (Option ℕ) → Option ℕ → Bool → Bool
is_there active None was = was
is_there active (Some place) was = is_some (serial_in active place)

-- the first active one of its claimers has it, where it can be had at all
abbrev pub owner_in : List (Option ℕ) → List ℕ → Bool → Option ℕ
owner_in active claimers can_be_had = if can_be_had then first_of (serial_in active) claimers else None

-- one that is stopped claims it or exports it
abbrev pub is_freed_by : List Bool → List ℕ → Option ℕ → Bool
is_freed_by stopped claimers exporter =
    list_any (set_of stopped) claimers || option_map_or (set_of stopped) exporter false

-- what the board keeps of an interface then, by who claims and who exports it
abbrev pub relent_by : List (Option ℕ) → List Bool → List ℕ → Option ℕ → Loan → Loan
relent_by active stopped claimers exporter loan =
    lent (owner_in active claimers (loan.is_command && is_there active exporter loan.is_available))
    (is_there active exporter loan.is_available)
    (is_there active exporter loan.is_available && not (is_freed_by stopped claimers exporter)) loan

-- of the interface at a place
abbrev pub relent : Placed → List (Option ℕ) → List Bool → ℕ → Loan → Loan
relent places active stopped place =
    relent_by active stopped (linked places.claimers place) (slice_index_or places.exporters place None)

-- ---- All places

-- so many places change, from this one on, each by itself
abbrev pub each_changed : (ℕ → Loan → Loan) → ℕ → ℕ → List Loan → List Loan
each_changed change at zero loans = loans
each_changed change at (suc n) loans = each_changed change (at + 1) n (with_loan loans at (change at))

-- the board after a commit
abbrev pub all_relent : Placed → List (Option ℕ) → List Bool → List Loan → List Loan
all_relent places active stopped loans = each_changed (relent places active stopped) 0 (length loans) loans

-- ---- Joints

-- the numbers of those that are claimed, the first of which has this number
abbrev pub numbers_from : ℕ → List Loan → List ℕ
numbers_from number [] = []
numbers_from number (loan ∷ loans) = (if is_some loan.owner then number ∷ [] else []) ++ numbers_from (number + 1) loans

-- the claims of a component, whose first command interface stands at this place
abbrev pub claims_on : List Loan → ℕ → Mounted → List ℕ
claims_on loans at m = numbers_from 0 (take (commands_count m) (drop at loans))

-- its joints go by these claims, where these can be together
abbrev pub performed : List ℕ → Mounted → Mounted
performed claims m = if is_none (mode_fault m.hardware.description claims) then record m {
  hardware = with_claims m.hardware claims;
} else m

-- those of components, the first of which has its first command interface at this place
abbrev pub all_performed : List Loan → ℕ → List Mounted → List Mounted
all_performed loans at [] = []
all_performed loans at (m ∷ ms) = performed (claims_on loans at m) m ∷ all_performed loans (at + commands_count m) ms

-- ---- Both

-- the hardware after the board has changed, and after the joints have
abbrev pub with_loans : Placed → List (Option ℕ) → List Bool → Wired → Wired
with_loans places active stopped w = record w { loans = all_relent places active stopped w.loans }

abbrev pub with_joints : Wired → Wired
with_joints w = record w { components = all_performed w.loans (all_states w.components) w.components }
