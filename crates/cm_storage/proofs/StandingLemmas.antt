-- Bodies that stand, and the records that tell them.
use Rattle.std.proofs.Common.{◌≡◌, ℕ, ℤ, List, length, ap, ◌∙◌}
use Rattle.std.specs.Prelude.{◌==◌}
use Rattle.std.proofs.Math.Bool.{and-true}
use Rattle.fixed_num.specs.declared.value.BodyState.{BodyState}
use Rattle.cm_storage.specs.Held.{bodies_in, tells_nothing}

-- two bodies with the same numbers are the same
pub same_body : (a b : BodyState) → a.x ≡ b.x → a.v ≡ b.v → a.f ≡ b.f → a ≡ b
same_body a b x v f =
    ap (λ (n : ℤ). let y : BodyState = record { x = n; v = a.v; f = a.f } in y) x
    ∙ ap (λ (n : ℤ). let y : BodyState = record { x = b.x; v = n; f = a.f } in y) v
    ∙ ap (λ (n : ℤ). let y : BodyState = record { x = b.x; v = b.v; f = n } in y) f

-- the same bodies are told by the same record
pub told_again : (cycle : ℕ) (list told : List BodyState) → list ≡ told → bodies_in cycle list ≡ bodies_in cycle told
told_again cycle list told same = ap (λ (bodies : List BodyState). bodies_in cycle bodies) same

-- where bodies alone are told, there is nothing to tell if there is none
pub tells_no_body : (cycle : ℕ) (bodies : List BodyState)
    → tells_nothing (bodies_in cycle bodies) ≡ (length bodies == 0)
tells_no_body cycle bodies = and-true (length bodies == 0)
