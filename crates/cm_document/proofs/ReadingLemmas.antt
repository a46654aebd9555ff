-- What a reading gives, step by step.
use Rattle.std.proofs.Common.{◌≡◌, Result, Ok, Err, Option, Some, None, Bool, true, false, ◌⊎◌, inl, inr, refl}
use Rattle.std.specs.Prelude.{IfOk, cond}
use Rattle.cm_document.specs.Reading.{◌>>=◌}

-- a reading goes on with what was kept
pub bind_keeps : {A B E : Type 0} (P : A → Type 0) (Q : B → Type 0) (r : Result A E) (f : A → Result B E) → IfOk r P
    → ((x : A) → P x → IfOk (f x) Q) → IfOk (r >>= f) Q
bind_keeps P Q (Ok x) f p q = q x p
bind_keeps P Q (Err e) f p q = tt

-- a reading that came to its end had a value, and went on with it
pub bind_Ok : {A B E : Type 0} (r : Result A E) (f : A → Result B E) (y : B) → (r >>= f) ≡ Ok y
    → (x : A) × (r ≡ Ok x) × (f x ≡ Ok y)
bind_Ok (Ok x) f y e = (x, refl, e)
bind_Ok (Err fault) f y e = cc

-- an option is none, or has a value
pub cases_Option : {A : Type 0} (o : Option A) → (o ≡ None) ⊎ ((x : A) × (o ≡ Some x))
cases_Option None = inl refl
cases_Option (Some x) = inr (x, refl)

-- what holds of both choices holds of the one taken
pub chosen : {A : Type 0} (P : A → Type 0) (b : Bool) (x y : A) → P x → P y → P (cond b x y)
chosen P true x y p q = p
chosen P false x y p q = q
