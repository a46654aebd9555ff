-- What a commit keeps: how many places there are, that what is claimed is available, and what is described of
-- components.
use Rattle.std.proofs.Common.{◌≡◌, ℕ, zero, suc, ◌+◌, Bool, true, false, List}
use Rattle.std.proofs.Common.{[], ◌∷◌, map, length, Option, refl, ap₂, ◌∙◌}
use Rattle.std.specs.Prelude.{◌&&◌, if◌then◌else◌, is_none}
use Rattle.std.specs.List.{AllByRecursion}
use Rattle.std.proofs.lemmas.Bool.{and_parts}
use Rattle.std.proofs.lemmas.List.{length-set}
use Rattle.cm_model.specs.Components.{mode_fault}
use Rattle.cm_places.specs.Placed.{Placed}
use Rattle.hw_component.specs.Hardware.{with_claims}
use Rattle.loan_board.specs.Loans.{IsSound, loan_at, with_loan, lent}
use Rattle.loan_board.specs.declared.board.Loan.{Loan}
use Rattle.cm_hardware.specs.Committed.{owner_in, relent, all_relent, each_changed, claims_on}
use Rattle.cm_hardware.specs.Committed.{performed, all_performed, with_loans, with_joints}
use Rattle.cm_hardware.specs.Wiring.{Mounted, Wired, all_states, commands_count, AreSound, IsSameBuild, IsManaged}
use Rattle.cm_hardware.proofs.KeepLemmas.{Alike, alike_same, managed_so, same_build}
use Rattle.cm_hardware.proofs.SoundLemmas.{sound_with}

-- ---- The board

-- who is to have an interface that can be had has one that is a command interface or a reference, and available
pub owner_sound : (active : List (Option ℕ)) (claimers : List ℕ) (loan : Loan) (there keeps : Bool)
    → IsSound (lent (owner_in active claimers (loan.is_command && there)) there keeps loan)
owner_sound active claimers loan there keeps = by_test (loan.is_command && there) refl
  where
    by_test : (b : Bool) → (loan.is_command && there) ≡ b → IsSound (lent (owner_in active claimers b) there keeps loan)
    by_test false is = record { command = λ e. cc; available = λ e. cc }
    by_test true is =
        let parts = and_parts loan.is_command there is in record { command = λ e. parts.0; available = λ e. parts.1 }

pub ruleset lending = (owner_sound)

relent_sound : (places : Placed) (active : List (Option ℕ)) (stopped : List Bool) (place : ℕ) (loan : Loan)
    → IsSound (relent places active stopped place loan)
relent_sound places active stopped place loan = owner_sound active _ loan _ _

-- all places
sound_each : (change : ℕ → Loan → Loan) → ((k : ℕ) (loan : Loan) → IsSound (change k loan))
    → (at n : ℕ) (loans : List Loan) → AreSound loans → AreSound (each_changed change at n loans)
sound_each change each at zero loans sound = sound
sound_each change each at (suc n) loans sound =
    sound_each change each (at + 1) n (with_loan loans at (change at))
    (sound_with loans at (change at) sound (each at (loan_at loans at)))

pub length_each : (change : ℕ → Loan → Loan) (at n : ℕ) (loans : List Loan)
    → length (each_changed change at n loans) ≡ length loans
length_each change at zero loans = refl
length_each change at (suc n) loans =
    length_each change (at + 1) n (with_loan loans at (change at)) ∙ length-set loans at (change at (loan_at loans at))

pub managed_lent : (first : ℕ) (places : Placed) (active : List (Option ℕ)) (stopped : List Bool) (w : Wired)
    → IsManaged first w → IsManaged first (with_loans places active stopped w)
managed_lent first places active stopped w m =
    managed_so first w (with_loans places active stopped w) m (alike_same w.components)
    (length_each (relent places active stopped) 0 (length w.loans) w.loans) refl
    (sound_each (relent places active stopped) (relent_sound places active stopped) 0 (length w.loans) w.loans m.sound)

-- ---- The joints

-- a component keeps all but its claims
pub performed_keeps : {B : Type 0} (f : Mounted → B)
    → ((claims : List ℕ) (m : Mounted) → f (record m { hardware = with_claims m.hardware claims }) ≡ f m)
    → (claims : List ℕ) (m : Mounted) → f (performed claims m) ≡ f m
performed_keeps f keeps claims m = by_test (is_none (mode_fault m.hardware.description claims))
  where
    by_test : (b : Bool) → f (if b then record m { hardware = with_claims m.hardware claims } else m) ≡ f m
    by_test true = keeps claims m
    by_test false = refl

pub all_performed_keep : {B : Type 0} (f : Mounted → B)
    → ((claims : List ℕ) (m : Mounted) → f (record m { hardware = with_claims m.hardware claims }) ≡ f m)
    → (loans : List Loan) (at : ℕ) (ms : List Mounted) → map f (all_performed loans at ms) ≡ map f ms
all_performed_keep f keeps loans at [] = refl
all_performed_keep {B = B} f keeps loans at (m ∷ ms) =
    ap₂ (λ (x : B) (xs : List B). x ∷ xs) (performed_keeps f keeps (claims_on loans at m) m)
    (all_performed_keep f keeps loans (at + commands_count m) ms)

pub all_performed_so : (P : Mounted → Type 0)
    → ((claims : List ℕ) (m : Mounted) → P m → P (record m { hardware = with_claims m.hardware claims }))
    → (loans : List Loan) (at : ℕ) (ms : List Mounted) → AllByRecursion P ms
    → AllByRecursion P (all_performed loans at ms)
all_performed_so P keeps loans at [] all = tt
all_performed_so P keeps loans at (m ∷ ms) all = (
  by_test (is_none (mode_fault m.hardware.description (claims_on loans at m))),
  all_performed_so P keeps loans (at + commands_count m) ms all.1,
)
  where
    by_test : (b : Bool) → P (if b then record m { hardware = with_claims m.hardware (claims_on loans at m) } else m)
    by_test true = keeps (claims_on loans at m) m all.0
    by_test false = all.0

pub alike_performed : (loans : List Loan) (at : ℕ) (ms : List Mounted) → Alike ms (all_performed loans at ms)
alike_performed loans at [] = tt
alike_performed loans at (m ∷ ms) = (
  performed_keeps (λ (m : Mounted). m.hardware.description) (λ claims m. refl) (claims_on loans at m) m,
  alike_performed loans (at + commands_count m) ms,
)

pub managed_performed : (first : ℕ) (w : Wired) → IsManaged first w → IsManaged first (with_joints w)
managed_performed first w m =
    managed_so first w (with_joints w) m (alike_performed w.loans (all_states w.components) w.components) refl refl
    m.sound

-- as many failures can be told, and of as many bodies
pub build_committed : (places : Placed) (active : List (Option ℕ)) (stopped : List Bool) (w : Wired)
    → IsSameBuild w (with_joints (with_loans places active stopped w))
build_committed places active stopped w =
    same_build w (with_joints (with_loans places active stopped w))
    (alike_performed (all_relent places active stopped w.loans) (all_states w.components) w.components)
