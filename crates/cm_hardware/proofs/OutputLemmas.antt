-- What the board holds is what the interfaces of the state hold, place by place, also after outputs in a cycle.
use Rattle.std.proofs.Common.{◌≡◌, ℕ, zero, suc, Bool, true, false, List, []}
use Rattle.std.proofs.Common.{◌∷◌, map, Option, refl, sym, ap, ◌∙◌, true≢false}
use Rattle.std.specs.List.{AllByRecursion}
use Rattle.fixed_num.specs.declared.value.Value.{Value}
use Rattle.cm_document.specs.Places.{Interface}
use Rattle.cm_model.specs.State.{State, owner, available, available_in, active}
use Rattle.cm_model.specs.Values.{InterfaceValue}
use Rattle.loan_board.specs.Loans.{idle, loan_at, with_loan, set}
use Rattle.loan_board.specs.declared.board.Loan.{Loan}
use Rattle.cm_hardware.specs.Holding.{IsEmptyUnlessAvailable, IsHardwareOf, IsInCycle, holder, IsMoved}
use Rattle.cm_places.proofs.OutputLemmas.{with_value-interfaces, with_value-map}
use Rattle.cm_places.specs.Placed.{value_at, with_value, with_outputs}
use Rattle.cm_hardware.specs.Outputs.{given_out, is_there_at}
use Rattle.cm_hardware.specs.Wiring.{Wired, loan_of}
use Rattle.cm_hardware.proofs.HeldLemmas.{claimed_alike}

-- ---- What a place holds

module _ (own : Interface → Option ℕ) (there : Interface → Bool) where
  value_held : (vs : List InterfaceValue) (place : ℕ)
      → (loan_at (map (loan_of own there) vs) place).value ≡ value_at vs place
  value_held [] place = refl
  value_held (v ∷ vs) zero = refl
  value_held (v ∷ vs) (suc place) = value_held vs place

  set_held : (vs : List InterfaceValue) (place : ℕ) (value : Value)
      → with_loan (map (loan_of own there) vs) place (set value) ≡ map (loan_of own there) (with_value vs place value)
  set_held vs place value = sym (with_value-map (loan_of own there) (set value) value (idle false) (λ v. refl) vs place)

-- The board of a state holds at each place what the interface there holds: between two cycles, in one, and when a
-- component has moved.
pub held_at : (s : State) (w : Wired) → IsHardwareOf s w → (place : ℕ)
    → (loan_at w.loans place).value ≡ value_at s.values place
held_at s w is place =
    ap (λ (loans : List Loan). (loan_at loans place).value) is.loans ∙ value_held (owner s) (available s) s.values place

pub held_in_cycle : (s : State) (vs : List InterfaceValue) (w : Wired) → IsInCycle s vs w → (place : ℕ)
    → (loan_at w.loans place).value ≡ value_at vs place
held_in_cycle s vs w is place =
    ap (λ (loans : List Loan). (loan_at loans place).value) is.loans ∙ value_held (owner s) (available s) vs place

pub held_when_moved : (s : State) (w : Wired) → IsMoved s w → (place : ℕ)
    → (loan_at w.loans place).value ≡ value_at s.values place
held_when_moved s w is place =
    ap (λ (loans : List Loan). (loan_at loans place).value) is.lent.loans
    ∙ value_held (holder s) (λ (i : Interface). available_in s.lives (active s) i.whose) s.values place

-- ---- One output

-- the same interfaces are available
there_stays : (s : State) (vs : List InterfaceValue) (place other : ℕ) (value : Value)
    → is_there_at s (with_value vs place value) other ≡ is_there_at s vs other
there_stays s [] place other value = refl
there_stays s (v ∷ vs) zero zero value = refl
there_stays s (v ∷ vs) zero (suc other) value = refl
there_stays s (v ∷ vs) (suc place) zero value = refl
there_stays s (v ∷ vs) (suc place) (suc other) value = there_stays s vs place other value

-- what is not available is still empty
empty_stays : (s : State) (vs : List InterfaceValue) (place : ℕ) (value : Value) → is_there_at s vs place ≡ true
    → AllByRecursion (IsEmptyUnlessAvailable s) vs
    → AllByRecursion (IsEmptyUnlessAvailable s) (with_value vs place value)
empty_stays s [] place value there empty = tt
empty_stays s (v ∷ vs) zero value there empty = ((λ gone. absurd (true≢false (sym there ∙ gone))), empty.1)
empty_stays s (v ∷ vs) (suc place) value there empty = (empty.0, empty_stays s vs place value there empty.1)

-- Hardware in a cycle is so after an output to an interface that is available, with the value that this makes of it.
pub output_in_cycle : (s : State) (vs : List InterfaceValue) (w : Wired) (place : ℕ) (value : Value) → IsInCycle s vs w
    → is_there_at s vs place ≡ true
    → IsInCycle s (with_value vs place value) (record w { loans = with_loan w.loans place (set value) })
output_in_cycle s vs w place value is there =
    let same = with_value-interfaces vs place value in
    record {
      wired = record {
        components = is.wired.components;
        lives = is.wired.lives;
        bodies = is.wired.bodies;
        joints = is.wired.joints;
        interfaces = same ∙ is.wired.interfaces;
      };
      loans = ap (λ (loans : List Loan). with_loan loans place (set value)) is.loans
          ∙ set_held (owner s) (available s) vs place value;
      places = is.places;
      claims = claimed_alike (record s { values = vs }) (record s { values = with_value vs place value }) 0 w.components
          (λ i. refl) (sym same) is.claims;
      reads = is.reads;
      empty = empty_stays s vs place value there is.empty;
    }

-- ---- Outputs one after the other

all_there : (s : State) (vs : List InterfaceValue) (place : ℕ) (value : Value) (places : List ℕ)
    → AllByRecursion (λ k. is_there_at s vs k ≡ true) places
    → AllByRecursion (λ k. is_there_at s (with_value vs place value) k ≡ true) places
all_there s vs place value [] there = tt
all_there s vs place value (k ∷ places) there =
    (there_stays s vs place k value ∙ there.0, all_there s vs place value places there.1)

-- So it is after outputs to interfaces that are all available.
pub outputs_in_cycle : (s : State) (vs : List InterfaceValue) (w : Wired) (places : List ℕ) (outs : List Value)
    → IsInCycle s vs w
    → AllByRecursion (λ k. is_there_at s vs k ≡ true) places
    → IsInCycle s (with_outputs vs places outs) (given_out w places outs)
outputs_in_cycle s vs w [] outs is there = is
outputs_in_cycle s vs w (place ∷ places) [] is there = is
outputs_in_cycle s vs w (place ∷ places) (out ∷ outs) is there =
    outputs_in_cycle s (with_value vs place out) (record w { loans = with_loan w.loans place (set out) }) places outs
    (output_in_cycle s vs w place out is there.0) (all_there s vs place out places there.1)
