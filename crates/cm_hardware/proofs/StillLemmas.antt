-- While no controller is active nobody claims anything.
use Rattle.std.proofs.Common.{◌≡◌, ℕ, ◌+◌, Bool, true, false, List, [], ◌∷◌}
use Rattle.std.proofs.Common.{length, Option, Some, None, refl, sym, ap, ◌∙◌}
use Rattle.std.specs.Prelude.{◌&&◌, slice_get, find, filter, is_some, if◌then◌else◌}
use Rattle.std.specs.List.{AllByRecursion, range_with_len}
use Rattle.std.specs.Option.{option_map_or}
use Rattle.cm_document.specs.Places.{Interface}
use Rattle.cm_model.specs.Components.{claimed_by}
use Rattle.cm_model.specs.Cycle.{commands_at, is_claimed, claims_in}
use Rattle.cm_model.specs.State.{State, Loaded, owner, claims_name, is_active}
use Rattle.cm_model.specs.Values.{InterfaceValue}
use Rattle.cm_hardware.specs.Holding.{AreClaimed, IsStill}
use Rattle.cm_hardware.specs.Wiring.{Mounted}

-- ---- Either of two

-- what holds of both holds of the one that is chosen
pub if_both : {A B : Type 0} (f : A → B) (b : Bool) (x y : A) (c : B) → f x ≡ c → f y ≡ c → f (if b then x else y) ≡ c
if_both f true x y c one other = one
if_both f false x y c one other = other

-- ---- Owners

-- no active controller is found
found_none : (ls : List Loaded) (test : Loaded → Bool) → AllByRecursion (λ l. is_active l ≡ false) ls
    → find (λ (l : Loaded). is_active l && test l) ls ≡ None
found_none [] test still = refl
found_none (l ∷ ls) test still = rw (still.0) (found_none ls test still.1)

-- no interface has an owner
pub no_owner : (s : State) (i : Interface) → IsStill s → owner s i ≡ None
no_owner s i still =
    rw (found_none s.loaded (claims_name s.description.controllers i.called.name) still)
    (if_both (λ (o : Option ℕ). o) i.called.is_command None None None refl refl)

-- ---- Claims

-- none passes a test that none passes
filter_none : (test : ℕ → Bool) (ks : List ℕ) → ((k : ℕ) → test k ≡ false) → filter test ks ≡ []
filter_none test [] none = refl
filter_none test (k ∷ ks) none = rw (none k) (filter_none test ks none)

unclaimed : (s : State) (o : Option InterfaceValue) → IsStill s
    → option_map_or (λ (v : InterfaceValue). is_some (owner s v.interface)) o false ≡ false
unclaimed s None still = refl
unclaimed s (Some v) still = ap (λ (o : Option ℕ). is_some o) (no_owner s v.interface still)

-- no command interface is claimed
pub no_claims : (s : State) (commands : List InterfaceValue) → IsStill s → claims_in s commands ≡ []
no_claims s commands still =
    filter_none (is_claimed s commands) (range_with_len 0 (length commands))
    (λ (k : ℕ). unclaimed s (slice_get commands k) still)

-- so it is with components whose claims are those of the state
pub nothing_claimed : (s : State) (component : ℕ) (ms : List Mounted) → IsStill s → AreClaimed s component ms
    → AllByRecursion (λ (m : Mounted). m.hardware.claimed ≡ claimed_by m.hardware.description []) ms
nothing_claimed s component [] still claims = tt
nothing_claimed s component (m ∷ ms) still claims = (
  claims.0 ∙ ap (claimed_by m.hardware.description) (no_claims s (commands_at component s.values) still),
  nothing_claimed s (component + 1) ms still claims.1,
)

-- and the other way round
pub claimed_nothing : (s : State) (component : ℕ) (ms : List Mounted) → IsStill s
    → AllByRecursion (λ (m : Mounted). m.hardware.claimed ≡ claimed_by m.hardware.description []) ms
    → AreClaimed s component ms
claimed_nothing s component [] still claims = tt
claimed_nothing s component (m ∷ ms) still claims = (
  claims.0 ∙ ap (claimed_by m.hardware.description) (sym (no_claims s (commands_at component s.values) still)),
  claimed_nothing s (component + 1) ms still claims.1,
)
