-- Outputs of a controller that are set on the board, and whether an interface stands at a place that is available.
use Rattle.std.specs.Prelude.{ℕ, Bool, false, List, ◌∷◌, slice_get}
use Rattle.std.specs.Option.{option_map_or}
use Rattle.fixed_num.specs.declared.value.Value.{Value}
use Rattle.cm_model.specs.State.{State, available}
use Rattle.cm_model.specs.Values.{InterfaceValue}
use Rattle.loan_board.specs.Loans.{set, with_loan}
use Rattle.cm_hardware.specs.Wiring.{Wired}

-- The board holds these outputs at these places, one after the other.
abbrev pub given_out : Wired → List ℕ → List Value → Wired
given_out w (place ∷ places) (out ∷ outs) = given_out (record w {
  loans = with_loan w.loans place (set out);
}) places outs
given_out w _ _ = w

-- an interface stands at this place that is available
abbrev pub is_there_at : State → List InterfaceValue → ℕ → Bool
is_there_at s vs place = option_map_or (λ v. available s v.interface) (slice_get vs place) false
