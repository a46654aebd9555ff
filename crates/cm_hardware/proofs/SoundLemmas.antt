-- What is claimed stays available through every change of a place; a place whose component is gone is nobody's; and
-- where no component failed, nothing changes.
use Rattle.std.proofs.Common.{◌≡◌, ℕ, zero, suc, ◌+◌, ◌<◌, Bool, true, false, List, [], ◌∷◌}
use Rattle.std.proofs.Common.{map, length, Option, Some, None, refl, sym, ap, arith}
use Rattle.std.specs.Prelude.{◌||◌, slice_get, is_some}
use Rattle.std.specs.List.{list_any}
use Rattle.std.specs.Option.{option_map_or}
use Rattle.loan_board.proofs.BoardLemmas.{idle-IsSound}
use Rattle.loan_board.specs.Loans.{IsSound, loan_at, with_loan, released, made_available}
use Rattle.loan_board.specs.declared.board.Loan.{Loan}
use Rattle.cm_hardware.specs.Wiring.{Mounted, AreSound, vacated, leaves, has_left, after_failure, after_failures_of}

-- ---- One place

-- a place that changed keeps the change
pub changed_at : (loans : List Loan) (place : ℕ) (change : Loan → Loan) → place < length loans
    → loan_at (with_loan loans place change) place ≡ change (loan_at loans place)
changed_at [] place change within = absurd (omega (arith, within))
changed_at (l ∷ loans) zero change within = refl
changed_at (l ∷ loans) (suc place) change within = changed_at loans place change (omega (arith, within))

-- two changes of a place are one
pub changed_twice : (loans : List Loan) (place : ℕ) (first second : Loan → Loan) → place < length loans
    → with_loan (with_loan loans place first) place second ≡ with_loan loans place (λ (l : Loan). second (first l))
changed_twice [] place first second within = absurd (omega (arith, within))
changed_twice (l ∷ loans) zero first second within = refl
changed_twice (l ∷ loans) (suc place) first second within =
    ap (λ (ls : List Loan). l ∷ ls) (changed_twice loans place first second (omega (arith, within)))

-- and two that make the same of what is kept there are the same
pub changed_alike : (loans : List Loan) (place : ℕ) (first second : Loan → Loan)
    → first (loan_at loans place) ≡ second (loan_at loans place)
    → with_loan loans place first ≡ with_loan loans place second
changed_alike [] place first second same = refl
changed_alike (l ∷ loans) zero first second same = ap (λ (k : Loan). k ∷ loans) same
changed_alike (l ∷ loans) (suc place) first second same =
    ap (λ (ls : List Loan). l ∷ ls) (changed_alike loans place first second same)

-- one that is free is vacated when it becomes unavailable
free_vacated : (loan : Loan) → loan.owner ≡ None → made_available false loan ≡ vacated loan
free_vacated loan free = rw free refl

pub vacated_free : (loans : List Loan) (place : ℕ) → (loan_at loans place).owner ≡ None
    → with_loan loans place (made_available false) ≡ with_loan loans place vacated
vacated_free loans place free =
    changed_alike loans place (made_available false) vacated (free_vacated (loan_at loans place) free)

pub vacated_released : (loans : List Loan) (place : ℕ) → place < length loans
    → with_loan (with_loan loans place released) place (made_available false) ≡ with_loan loans place vacated
vacated_released loans place within = changed_twice loans place released (made_available false) within

pub released_free : (loans : List Loan) (place : ℕ) → place < length loans
    → (loan_at (with_loan loans place released) place).owner ≡ None
released_free loans place within = ap (λ (l : Loan). l.owner) (changed_at loans place released within)

pub ruleset vacating = (vacated_free, vacated_released, released_free)

-- one that is claimed stays as it is when it becomes available
offered_stays : (loan : Loan) (serial : ℕ) → IsSound loan → loan.owner ≡ Some serial → made_available true loan ≡ loan
offered_stays loan serial sound claimed =
    let has : is_some loan.owner ≡ true = ap (λ (o : Option ℕ). is_some o) claimed in
    ap (λ (b : Bool). record loan { is_available = b }) (sym (sound.available has))

unchanged : (loans : List Loan) (place : ℕ) (change : Loan → Loan) → change (loan_at loans place) ≡ loan_at loans place
    → with_loan loans place change ≡ loans
unchanged [] place change same = refl
unchanged (l ∷ loans) zero change same = ap (λ (k : Loan). k ∷ loans) same
unchanged (l ∷ loans) (suc place) change same = ap (λ (ls : List Loan). l ∷ ls) (unchanged loans place change same)

pub offered_claimed : (loans : List Loan) (place serial : ℕ) → IsSound (loan_at loans place)
    → (loan_at loans place).owner ≡ Some serial → loans ≡ with_loan loans place (made_available true)
offered_claimed loans place serial sound claimed =
    sym (unchanged loans place (made_available true) (offered_stays (loan_at loans place) serial sound claimed))

pub ruleset offering = (offered_claimed)

-- ---- All places

-- so each place is sound, those past the end too
pub sound_at : (loans : List Loan) (place : ℕ) → AreSound loans → IsSound (loan_at loans place)
sound_at [] place sound = idle-IsSound false
sound_at (l ∷ loans) zero sound = sound.0
sound_at (l ∷ loans) (suc place) sound = sound_at loans place sound.1

-- they stay sound where one changes that is sound then
pub sound_with : (loans : List Loan) (place : ℕ) (change : Loan → Loan) → AreSound loans
    → IsSound (change (loan_at loans place)) → AreSound (with_loan loans place change)
sound_with [] place change sound one = tt
sound_with (l ∷ loans) zero change sound one = (one, sound.1)
sound_with (l ∷ loans) (suc place) change sound one = (sound.0, sound_with loans place change sound.1 one)

-- ---- Nothing failed

-- either of two is so, unless neither is
pub first_not : (a b : Bool) → (a || b) ≡ false → a ≡ false
first_not true b e = cc
first_not false b e = refl

second_not : (a b : Bool) → (a || b) ≡ false → b ≡ false
second_not true b e = cc
second_not false b e = e

-- a component that did not fail stays as it is
pub none_failed-units : (ms : List Mounted) → list_any (λ (m : Mounted). m.failed) ms ≡ false
    → map after_failure ms ≡ ms
none_failed-units [] none = refl
none_failed-units (m ∷ ms) none =
    let here : m.failed ≡ false = first_not m.failed (list_any (λ (m : Mounted). m.failed) ms) none in
    let rest = none_failed-units ms (second_not m.failed (list_any (λ (m : Mounted). m.failed) ms) none) in
    rw (here, rest) refl

-- and does not leave
stays : (ms : List Mounted) (place : ℕ) → list_any (λ (m : Mounted). m.failed) ms ≡ false
    → option_map_or leaves (slice_get ms place) false ≡ false
stays [] place none = refl
stays (m ∷ ms) zero none =
    let here : m.failed ≡ false = first_not m.failed (list_any (λ (m : Mounted). m.failed) ms) none in rw here refl
stays (m ∷ ms) (suc place) none = stays ms place (second_not m.failed (list_any (λ (m : Mounted). m.failed) ms) none)

none_left : (ms : List Mounted) (component : Option ℕ) → list_any (λ (m : Mounted). m.failed) ms ≡ false
    → has_left ms component ≡ false
none_left ms None none = refl
none_left ms (Some place) none = stays ms place none

-- so no place changes
pub none_failed-board : (ms : List Mounted) (at : ℕ) (places : List (Option ℕ)) (loans : List Loan)
    → list_any (λ (m : Mounted). m.failed) ms ≡ false
    → after_failures_of ms at places loans ≡ loans
none_failed-board ms at [] loans none = refl
none_failed-board ms at (c ∷ places) loans none =
    rw (none_left ms c none) (none_failed-board ms (at + 1) places loans none)

pub ruleset none_failed = (none_failed-units, none_failed-board)
