-- What a cycle keeps: what is described of components, how many places there are, and that what is claimed is
-- available.
use Rattle.std.proofs.Common.{◌≡◌, ℕ, suc, ◌+◌, Bool, true, false, List, []}
use Rattle.std.proofs.Common.{◌∷◌, map, length, Option, refl, sym, ap, ap₂, ◌∙◌}
use Rattle.std.specs.Prelude.{if◌then◌else◌}
use Rattle.std.proofs.lemmas.List.{length-set}
use Rattle.fixed_num.specs.declared.value.Value.{Value}
use Rattle.cm_document.specs.declared.description.CompDesc.{CompDesc}
use Rattle.cm_model.specs.Components.{state_interfaces, command_interfaces, measured_states, read_succeeds}
use Rattle.loan_board.specs.declared.board.Loan.{Loan}
use Rattle.loan_board.specs.Loans.{IsSound, loan_at, with_loan, set}
use Rattle.loan_board.proofs.BoardLemmas.{idle-IsSound, set-IsSound}
use Rattle.cm_hardware.specs.Wiring.{Mounted, Wired, states_count, all_states, commands_count, all_commands, all_joints}
use Rattle.cm_hardware.specs.Wiring.{AreFew, AreSound, vacated, can_fail, most_failures, one_if, read, all_written}
use Rattle.cm_hardware.specs.Wiring.{stepped_on, after_failure, with_values, after_read_of, after_reads_of, has_left}
use Rattle.cm_hardware.specs.Wiring.{changed_where, after_reads_in, components_run, after_run, IsSameBuild, IsManaged}
use Rattle.cm_hardware.proofs.SoundLemmas.{sound_at, sound_with}
use Rattle.cm_hardware.proofs.StillLemmas.{if_both}
use Rattle.cm_hardware.proofs.StepLemmas.{written_description, failure_description}

-- ---- Components

-- the second ones are as many as the first, each described so
abbrev pub Alike : List Mounted → List Mounted → Type 0
Alike [] [] = Unit {0}
Alike [] (y ∷ ys) = ⊥
Alike (x ∷ xs) [] = ⊥
Alike (x ∷ xs) (y ∷ ys) = (y.hardware.description ≡ x.hardware.description) × Alike xs ys

alike_map : (f : Mounted → Mounted) → ((m : Mounted) → (f m).hardware.description ≡ m.hardware.description)
    → (xs ys : List Mounted) → Alike xs ys → Alike xs (map f ys)
alike_map f keeps [] [] alike = tt
alike_map f keeps [] (y ∷ ys) alike = absurd alike
alike_map f keeps (x ∷ xs) [] alike = absurd alike
alike_map f keeps (x ∷ xs) (y ∷ ys) alike = (keeps y ∙ alike.0, alike_map f keeps xs ys alike.1)

alike_written : (n at : ℕ) (loans : List Loan) (xs ys : List Mounted) → Alike xs ys
    → Alike xs (all_written n at loans ys)
alike_written n at loans [] [] alike = tt
alike_written n at loans [] (y ∷ ys) alike = absurd alike
alike_written n at loans (x ∷ xs) [] alike = absurd alike
alike_written n at loans (x ∷ xs) (y ∷ ys) alike =
    (written_description n at loans y ∙ alike.0, alike_written n (at + commands_count y) loans xs ys alike.1)

pub alike_same : (xs : List Mounted) → Alike xs xs
alike_same [] = tt
alike_same (x ∷ xs) = (refl, alike_same xs)

-- what is counted by the descriptions stays
pub states_stay : (xs ys : List Mounted) → Alike xs ys → all_states ys ≡ all_states xs
states_stay [] [] alike = refl
states_stay [] (y ∷ ys) alike = absurd alike
states_stay (x ∷ xs) [] alike = absurd alike
states_stay (x ∷ xs) (y ∷ ys) alike =
    ap₂ (λ (i j : ℕ). i + j) (ap (λ (c : CompDesc). length (state_interfaces c)) alike.0) (states_stay xs ys alike.1)

pub commands_stay : (xs ys : List Mounted) → Alike xs ys → all_commands ys ≡ all_commands xs
commands_stay [] [] alike = refl
commands_stay [] (y ∷ ys) alike = absurd alike
commands_stay (x ∷ xs) [] alike = absurd alike
commands_stay (x ∷ xs) (y ∷ ys) alike =
    ap₂ (λ (i j : ℕ). i + j) (ap (λ (c : CompDesc). length (command_interfaces c)) alike.0)
    (commands_stay xs ys alike.1)

pub joints_stay : (xs ys : List Mounted) → Alike xs ys → all_joints ys ≡ all_joints xs
joints_stay [] [] alike = refl
joints_stay [] (y ∷ ys) alike = absurd alike
joints_stay (x ∷ xs) [] alike = absurd alike
joints_stay (x ∷ xs) (y ∷ ys) alike =
    ap₂ (λ (i j : ℕ). i + j) (ap (λ (c : CompDesc). length c.joints) alike.0) (joints_stay xs ys alike.1)

pub failures_stay : (xs ys : List Mounted) → Alike xs ys → most_failures ys ≡ most_failures xs
failures_stay [] [] alike = refl
failures_stay [] (y ∷ ys) alike = absurd alike
failures_stay (x ∷ xs) [] alike = absurd alike
failures_stay (x ∷ xs) (y ∷ ys) alike =
    ap₂ (λ (i j : ℕ). i + j) (ap (λ (c : CompDesc). one_if (can_fail c)) alike.0) (failures_stay xs ys alike.1)

pub number_stays : (xs ys : List Mounted) → Alike xs ys → length ys ≡ length xs
number_stays [] [] alike = refl
number_stays [] (y ∷ ys) alike = absurd alike
number_stays (x ∷ xs) [] alike = absurd alike
number_stays (x ∷ xs) (y ∷ ys) alike = ap suc (number_stays xs ys alike.1)

pub few_stay : (xs ys : List Mounted) → Alike xs ys → AreFew xs → AreFew ys
few_stay [] [] alike few = tt
few_stay [] (y ∷ ys) alike few = absurd alike
few_stay (x ∷ xs) [] alike few = absurd alike
few_stay (x ∷ xs) (y ∷ ys) alike few = (rw alike.0 few.0, few_stay xs ys alike.1 few.1)

-- after reads, writes, steps and failures
pub alike_read : (n : ℕ) (ms : List Mounted) → Alike ms (map (read n) ms)
alike_read n ms = alike_map (read n) (λ (m : Mounted). refl) ms ms (alike_same ms)

pub alike_run : (n at : ℕ) (loans : List Loan) (ms : List Mounted) → Alike ms (all_written n at loans ms)
alike_run n at loans ms = alike_written n at loans ms ms (alike_same ms)

pub alike_after : (n dt_us at : ℕ) (loans : List Loan) (ms : List Mounted)
    → Alike ms (map after_failure (map (stepped_on dt_us) (all_written n at loans ms)))
alike_after n dt_us at loans ms =
    alike_map after_failure failure_description ms (map (stepped_on dt_us) (all_written n at loans ms))
    (alike_map (stepped_on dt_us) (λ (m : Mounted). refl) ms (all_written n at loans ms) (alike_run n at loans ms))

-- ---- The board

pub sound_set : (loans : List Loan) (place : ℕ) (value : Value) → AreSound loans
    → AreSound (with_loan loans place (set value))
sound_set loans place value sound =
    sound_with loans place (set value) sound (set-IsSound value (loan_at loans place) (sound_at loans place sound))

pub sound_values : (loans : List Loan) (at : ℕ) (values : List Value) → AreSound loans
    → AreSound (with_values loans at values)
sound_values loans at [] sound = sound
sound_values loans at (v ∷ values) sound =
    sound_values (with_loan loans at (set v)) (at + 1) values (sound_set loans at v sound)

sound_read : (succeeds : Bool) (loans : List Loan) (at : ℕ) (values : List Value) → AreSound loans
    → AreSound (if succeeds then with_values loans at values else loans)
sound_read true loans at values sound = sound_values loans at values sound
sound_read false loans at values sound = sound

-- what is claimed is available after reads
pub sound_reads : (n at : ℕ) (loans : List Loan) (ms : List Mounted) → AreSound loans
    → AreSound (after_reads_of n at loans ms)
sound_reads n at loans [] sound = sound
sound_reads n at loans (m ∷ ms) sound =
    let h = m.hardware in
    sound_reads n (at + states_count m) (after_read_of n at loans h) ms
    (sound_read (read_succeeds h.description h.life n) loans at (measured_states h.description h.bodies) sound)

-- and where places change that pass a test, if the change leaves each sound
sound_one : (here : Bool) (change : Loan → Loan) (loans : List Loan) (at : ℕ)
    → ((loan : Loan) → IsSound loan → IsSound (change loan)) → AreSound loans
    → AreSound (if here then with_loan loans at change else loans)
sound_one true change loans at each sound =
    sound_with loans at change sound (each (loan_at loans at) (sound_at loans at sound))
sound_one false change loans at each sound = sound

pub sound_where : (test : Option ℕ → Bool) (change : Loan → Loan) (at : ℕ) (places : List (Option ℕ))
    (loans : List Loan) → ((loan : Loan) → IsSound loan → IsSound (change loan))
    → AreSound loans → AreSound (changed_where test change at places loans)
sound_where test change at [] loans each sound = sound
sound_where test change at (c ∷ places) loans each sound =
    sound_where test change (at + 1) places (if test c then with_loan loans at change else loans) each
    (sound_one (test c) change loans at each sound)

-- there are as many places as before
pub length_values : (loans : List Loan) (at : ℕ) (values : List Value)
    → length (with_values loans at values) ≡ length loans
length_values loans at [] = refl
length_values loans at (v ∷ values) =
    length_values (with_loan loans at (set v)) (at + 1) values ∙ length-set loans at (set v (loan_at loans at))

pub length_reads : (n at : ℕ) (loans : List Loan) (ms : List Mounted)
    → length (after_reads_of n at loans ms) ≡ length loans
length_reads n at loans [] = refl
length_reads n at loans (m ∷ ms) =
    let h = m.hardware in
    length_reads n (at + states_count m) (after_read_of n at loans h) ms
    ∙ if_both (λ (l : List Loan). length l) (read_succeeds h.description h.life n)
    (with_values loans at (measured_states h.description h.bodies)) loans (length loans)
    (length_values loans at (measured_states h.description h.bodies)) refl

pub length_where : (test : Option ℕ → Bool) (change : Loan → Loan) (at : ℕ) (places : List (Option ℕ))
    (loans : List Loan) → length (changed_where test change at places loans) ≡ length loans
length_where test change at [] loans = refl
length_where test change at (c ∷ places) loans =
    length_where test change (at + 1) places (if test c then with_loan loans at change else loans)
    ∙ if_both (λ (l : List Loan). length l) (test c) (with_loan loans at change) loans (length loans)
    (length-set loans at (change (loan_at loans at))) refl

-- ---- All of it

-- what is kept stays so where the components are described as before and the places are as many, and sound
pub managed_so : (first : ℕ) (w after : Wired) → IsManaged first w → Alike w.components after.components
    → length after.loans ≡ length w.loans → after.places ≡ w.places
    → AreSound after.loans → IsManaged first after
managed_so first w after m alike long places sound = record {
  first = m.first ∙ sym (states_stay w.components after.components alike);
  fits = rw (commands_stay w.components after.components alike, long) m.fits;
  places = ap length places ∙ m.places ∙ sym long;
  few = rw (number_stays w.components after.components alike) m.few;
  joints = few_stay w.components after.components alike m.joints;
  sound = sound;
}

pub same_build : (w after : Wired) → Alike w.components after.components → IsSameBuild w after
same_build w after alike =
    record {
      failures = failures_stay w.components after.components alike;
      joints =
          joints_stay w.components after.components alike;
    }

-- after the reads
pub managed_read : (first n : ℕ) (w : Wired) → IsManaged first w → IsManaged first (after_reads_in n w)
managed_read first n w m =
    managed_so first w (after_reads_in n w) m (alike_read n w.components) (length_reads n 0 w.loans w.components) refl
    (sound_reads n 0 w.loans w.components m.sound)

-- after the end of a cycle
pub managed : (first n dt_us : ℕ) (w : Wired) → IsManaged first w → IsManaged first (after_run n dt_us w)
managed first n dt_us w m =
    let run = components_run n dt_us w in
    managed_so first w (after_run n dt_us w) m (alike_after n dt_us (all_states w.components) w.loans w.components)
    (length_where (has_left run) vacated 0 w.places w.loans) refl
    (sound_where (has_left run) vacated 0 w.places w.loans
    (λ (loan : Loan) (so : IsSound loan). idle-IsSound loan.is_command) m.sound)
