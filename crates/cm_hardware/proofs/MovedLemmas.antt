-- What the move of a component keeps: what is described, how many places there are, and that what is claimed is
-- available.
use Rattle.std.proofs.Common.{◌≡◌, ℕ, zero, suc, ◌+◌, ◌<◌, ◌≤◌, Bool, true, false, List, [], ◌∷◌}
use Rattle.std.proofs.Common.{length, take, Option, Result, Ok, Err, refl, ap, ◌∙◌, arith, true≢false}
use Rattle.std.specs.Prelude.{slice_set, slice_index_or, if◌then◌else◌}
use Rattle.cm_document.specs.declared.life.Life.{Life}
use Rattle.cm_model.specs.Components.{is_available, has_move, commands_after_move, measured_states}
use Rattle.hw_component.specs.Hardware.{Hardware, after_move}
use Rattle.hw_component.specs.declared.faults.HwFault.{HwFault}
use Rattle.hw_component.specs.declared.faults.HwFault.TheVariants.{NoSuchMove}
use Rattle.loan_board.specs.declared.board.Loan.{Loan}
use Rattle.loan_board.specs.Loans.{IsSound, made_available}
use Rattle.loan_board.proofs.BoardLemmas.{idle-IsSound}
use Rattle.cm_hardware.specs.Wiring.{Mounted, Wired, AreSound, vacated, states_count, all_states}
use Rattle.cm_hardware.specs.Wiring.{life_in, moved_at, move_answer, is_of, measured_in, measured_of}
use Rattle.cm_hardware.specs.Wiring.{changed_where, settled, after_move_at, IsSameBuild, IsManaged}
use Rattle.cm_hardware.proofs.KeepLemmas.{Alike, alike_same, same_build, managed_so, sound_values}
use Rattle.cm_hardware.proofs.KeepLemmas.{sound_where, length_values, length_where}
use Rattle.cm_hardware.proofs.StillLemmas.{if_both}

-- ---- The component that moves

-- what a move keeps
pub move_keeps : {B : Type 0} (f : Hardware → B) (h : Hardware) (target : Life)
    → f (record h { life = target; commands = commands_after_move target h.commands }) ≡ f h
    → f (after_move h target) ≡ f h
move_keeps f h target same =
    if_both f (has_move h.life target) (record h { life = target; commands = commands_after_move target h.commands }) h
    (f h) same refl

-- to set the one at this place is to move it
pub set_moved : (place : ℕ) (target : Life) (ms : List Mounted) (m after : Mounted) → place < length ms
    → m ≡ slice_index_or ms place m → after ≡ record m { hardware = after_move m.hardware target }
    → slice_set ms place after ≡ moved_at place target ms
set_moved place target [] m after within at is = absurd (omega (arith, within))
set_moved zero target (x ∷ ms) m after within at is =
    ap (λ (y : Mounted). y ∷ ms) (is ∙ ap (λ (y : Mounted). record y { hardware = after_move y.hardware target }) at)
set_moved (suc place) target (x ∷ ms) m after within at is =
    ap (λ (l : List Mounted). x ∷ l) (set_moved place target ms m after (omega (arith, within)) at is)

-- where there is no such move it stays as it is
stays_put : (h : Hardware) (target : Life) (can : Bool) → has_move h.life target ≡ can → can ≡ false
    → after_move h target ≡ h
stays_put h target true is none = absurd (true≢false none)
stays_put h target false is none = rw is refl

pub not_moved : (place : ℕ) (target : Life) (ms : List Mounted) → has_move (life_in place ms) target ≡ false
    → moved_at place target ms ≡ ms
not_moved place target [] none = refl
not_moved zero target (m ∷ ms) none =
    ap (λ (h : Hardware). record m { hardware = h } ∷ ms) (stays_put m.hardware target false none refl)
not_moved (suc place) target (m ∷ ms) none = ap (λ (l : List Mounted). m ∷ l) (not_moved place target ms none)

-- a move that is refused does not exist
refused_case : (can : Bool) (e : HwFault)
    → ◌≡◌ {A = Result (Unit {0}) HwFault} (if can then Ok tt else Err NoSuchMove) (Err e) → can ≡ false
refused_case true e told = cc
refused_case false e told = refl

pub refused : (place : ℕ) (target : Life) (ms : List Mounted) (e : HwFault) → move_answer place target ms ≡ Err e
    → has_move (life_in place ms) target ≡ false
refused place target ms e told = refused_case (has_move (life_in place ms) target) e told

-- then the hardware stays as it is
pub not_moved_at : (place : ℕ) (target : Life) (w : Wired) → has_move (life_in place w.components) target ≡ false
    → after_move_at place target w ≡ w
not_moved_at place target w none = rw none refl

-- all are described as before
pub alike_at : (place : ℕ) (target : Life) (ms : List Mounted) → Alike ms (moved_at place target ms)
alike_at place target [] = tt
alike_at zero target (m ∷ ms) = (move_keeps (λ (h : Hardware). h.description) m.hardware target refl, alike_same ms)
alike_at (suc place) target (m ∷ ms) = (refl, alike_at place target ms)

-- ---- State interfaces

-- those of the components before one, with its own, are no more than those of all
pub states_before : (place : ℕ) (ms : List Mounted) → all_states (take place ms) ≤ all_states ms
states_before zero ms = omega arith
states_before (suc place) [] = omega arith
states_before (suc place) (m ∷ ms) = omega (arith, states_before place ms)

pub states_upto : (place : ℕ) (ms : List Mounted) (d : Mounted) → place < length ms
    → all_states (take place ms) + states_count (slice_index_or ms place d) ≤ all_states ms
states_upto place [] d within = absurd (omega (arith, within))
states_upto zero (m ∷ ms) d within = omega arith
states_upto (suc place) (m ∷ ms) d within = omega (arith, states_upto place ms d (omega (arith, within)))

-- what the component at a place measures is told there
pub measured_there : (place : ℕ) (ms : List Mounted) (d : Mounted) → place < length ms
    → measured_in place ms
    ≡ measured_states (slice_index_or ms place d).hardware.description (slice_index_or ms place d).hardware.bodies
measured_there place [] d within = absurd (omega (arith, within))
measured_there zero (m ∷ ms) d within = refl
measured_there (suc place) (m ∷ ms) d within = measured_there place ms d (omega (arith, within))

-- ---- The board

-- what becomes available is sound
opened_sound : (loan : Loan) → IsSound loan → IsSound (made_available true loan)
opened_sound loan sound = record { command = sound.command; available = λ e. refl }

module _ (place : ℕ) (ms : List Mounted) (places : List (Option ℕ)) (loans : List Loan) where
  -- what is made of the places of a component that leaves, and of one that comes
  abbrev emptied : List Loan
  emptied = changed_where (is_of place) vacated 0 places loans

  abbrev opened : List Loan
  opened = changed_where (is_of place) (made_available true) 0 places loans

  -- what holds of the board in each case holds of it
  settled_case : {B : Type 0} (f : List Loan → B) (b : B) → f loans ≡ b → f (measured_of place ms opened) ≡ b
      → f emptied ≡ b → (had : Bool)
      → f (settled place had ms places loans) ≡ b
  settled_case f b same came left had =
      if_both f (is_available (life_in place ms)) (if had then loans else measured_of place ms opened) emptied b
      (if_both f had loans (measured_of place ms opened) b same came) left

  -- there are as many places as before
  pub length_settled : (had : Bool) → length (settled place had ms places loans) ≡ length loans
  length_settled had =
      settled_case (λ (l : List Loan). length l) (length loans) refl
      (length_values opened (all_states (take place ms)) (measured_in place ms)
      ∙ length_where (is_of place) (made_available true) 0 places loans)
      (length_where (is_of place) vacated 0 places loans) had

  -- and what is claimed is available
  sound_case : (here had : Bool) → AreSound loans
      → AreSound (if here then (if had then loans else measured_of place ms opened) else emptied)
  sound_case true true sound = sound
  sound_case true false sound =
      sound_values opened (all_states (take place ms)) (measured_in place ms)
      (sound_where (is_of place) (made_available true) 0 places loans opened_sound sound)
  sound_case false had sound =
      sound_where (is_of place) vacated 0 places loans (λ loan so. idle-IsSound loan.is_command) sound

  pub sound_settled : (had : Bool) → AreSound loans → AreSound (settled place had ms places loans)
  sound_settled had sound = sound_case (is_available (life_in place ms)) had sound

-- ---- All of it

-- what is kept stays so
pub managed_moved : (first place : ℕ) (target : Life) (w : Wired) → IsManaged first w
    → IsManaged first (record w { components = moved_at place target w.components })
managed_moved first place target w m =
    managed_so first w (record w { components = moved_at place target w.components }) m
    (alike_at place target w.components) refl refl m.sound

pub managed_settled : (first place : ℕ) (target : Life) (had : Bool) (w : Wired) → IsManaged first w
    → IsManaged first
    (record w {
      components = moved_at place target w.components;
      loans =
          settled place had (moved_at place target w.components) w.places w.loans;
    })
managed_settled first place target had w m =
    let ms = moved_at place target w.components in
    managed_so first w (record w { components = ms; loans = settled place had ms w.places w.loans }) m
    (alike_at place target w.components)
    (length_settled place ms w.places w.loans had) refl (sound_settled place ms w.places w.loans had m.sound)

-- as many failures and bodies can be told after it
alike_move : (place : ℕ) (target : Life) (w : Wired) → Alike w.components (after_move_at place target w).components
alike_move place target w = by_move (has_move (life_in place w.components) target)
  where
    by_move : (can : Bool) → Alike w.components (if can then record w {
      components = moved_at place target w.components;
      loans = settled place (is_available (life_in place w.components)) (moved_at place target w.components) w.places
          w.loans;
    } else w).components
    by_move true = alike_at place target w.components
    by_move false = alike_same w.components

pub build_stays : (place : ℕ) (target : Life) (w : Wired) → IsSameBuild w (after_move_at place target w)
build_stays place target w = same_build w (after_move_at place target w) (alike_move place target w)
