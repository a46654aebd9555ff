-- The component that moves: its lifecycle states, and how it is measured.
use Rattle.std.proofs.Common.{◌≡◌, ℕ, zero, suc, ◌+◌, ◌<◌, true, false, List, [], ◌∷◌, ◌++◌}
use Rattle.std.proofs.Common.{map, length, take, refl, sym, ap, ap₂, ◌∙◌, arith, ◌⊎◌, inl, inr}
use Rattle.std.specs.Prelude.{◌==◌, zip, flat_map, slice_get, slice_set, slice_index_or}
use Rattle.std.specs.List.{AllByRecursion}
use Rattle.std.specs.Option.{option_map_or}
use Rattle.std.specs.Cmp.{both_ways}
use Rattle.std.proofs.lemmas.Bool.{eq-eqb, eqb-true, ne_eqb}
use Rattle.fixed_num.specs.declared.value.BodyState.{BodyState}
use Rattle.cm_document.specs.declared.description.CompDesc.{CompDesc}
use Rattle.cm_document.specs.declared.life.Life.{Life}
use Rattle.cm_document.specs.declared.life.Life.TheVariants.{Unconfigured, Active}
use Rattle.cm_model.specs.Components.{is_available, has_move, read_succeeds, measured_states, claimed_by}
use Rattle.cm_model.specs.Cycle.{commands_at, claims_in, moved}
use Rattle.cm_model.specs.State.{State, available, active}
use Rattle.cm_model.specs.Values.{running}
use Rattle.hw_component.specs.Hardware.{Hardware, after_move}
use Rattle.loan_board.specs.declared.board.Loan.{Loan}
use Rattle.cm_hardware.specs.Holding.{AreClaimed, IsAtRest}
use Rattle.cm_hardware.specs.Wiring.{Mounted, states_count, all_states, with_values, life_in, moved_at, measured_in}
use Rattle.cm_hardware.specs.Starting.{after_measures_of}
use Rattle.cm_hardware.proofs.MovedLemmas.{move_keeps}
use Rattle.cm_hardware.proofs.MoveLemmas.{moves}
use Rattle.cm_hardware.proofs.StartLemmas.{unfailing, never_failing}

-- ---- The component that moves

-- of all components, what no move changes
moved_keep : {B : Type 0} (f : Mounted → B) (target : Life)
    → ((m : Mounted) → f (record m { hardware = after_move m.hardware target }) ≡ f m) → (place : ℕ) (ms : List Mounted)
    → map f (moved_at place target ms) ≡ map f ms
moved_keep f target keeps place [] = refl
moved_keep {B = B} f target keeps zero (m ∷ ms) = ap (λ (b : B). b ∷ map f ms) (keeps m)
moved_keep {B = B} f target keeps (suc place) (m ∷ ms) =
    ap (λ (bs : List B). f m ∷ bs) (moved_keep f target keeps place ms)

pub moved_descriptions : (place : ℕ) (target : Life) (ms : List Mounted)
    → map (λ (m : Mounted). m.hardware.description) (moved_at place target ms)
    ≡ map (λ (m : Mounted). m.hardware.description) ms
moved_descriptions place target ms =
    moved_keep (λ (m : Mounted). m.hardware.description) target
    (λ m. move_keeps (λ (h : Hardware). h.description) m.hardware target refl) place ms

-- what holds of each still does
moved_all : (P : Mounted → Type 0) (target : Life)
    → ((m : Mounted) → P m → P (record m { hardware = after_move m.hardware target })) → (place : ℕ) (ms : List Mounted)
    → AllByRecursion P ms → AllByRecursion P (moved_at place target ms)
moved_all P target each place [] all = tt
moved_all P target each zero (m ∷ ms) all = (each m all.0, all.1)
moved_all P target each (suc place) (m ∷ ms) all = (all.0, moved_all P target each place ms all.1)

pub moved_bodies : (place : ℕ) (target : Life) (ms : List Mounted)
    → flat_map (λ (m : Mounted). m.hardware.bodies) (moved_at place target ms)
    ≡ flat_map (λ (m : Mounted). m.hardware.bodies) ms
moved_bodies place target [] = refl
moved_bodies zero target (m ∷ ms) =
    ap (λ (b : List BodyState). b ++ flat_map (λ (m : Mounted). m.hardware.bodies) ms)
    (move_keeps (λ (h : Hardware). h.bodies) m.hardware target refl)
moved_bodies (suc place) target (m ∷ ms) =
    ap (λ (b : List BodyState). m.hardware.bodies ++ b) (moved_bodies place target ms)

pub moved_joints : (place : ℕ) (target : Life) (ms : List Mounted)
    → AllByRecursion (λ (m : Mounted). length m.hardware.bodies ≡ length m.hardware.description.joints) ms
    → AllByRecursion (λ (m : Mounted). length m.hardware.bodies ≡ length m.hardware.description.joints)
    (moved_at place target ms)
moved_joints place target ms all =
    moved_all (λ (m : Mounted). length m.hardware.bodies ≡ length m.hardware.description.joints) target
    (λ m same. ap length (move_keeps (λ (h : Hardware). h.bodies) m.hardware target refl) ∙ same
    ∙ sym (ap (λ (c : CompDesc). length c.joints)
    (move_keeps (λ (h : Hardware). h.description) m.hardware target refl)))
    place ms all

pub moved_rest : (place : ℕ) (target : Life) (ms : List Mounted) → AllByRecursion IsAtRest ms
    → AllByRecursion IsAtRest (moved_at place target ms)
moved_rest place target ms all =
    moved_all IsAtRest target
    (λ m rest. record
    { failed = rest.failed; written = move_keeps (λ (h : Hardware). h.written) m.hardware target refl ∙ rest.written })
    place ms all

pub moved_claims : (s : State) (component place : ℕ) (target : Life) (ms : List Mounted) → AreClaimed s component ms
    → AreClaimed s component (moved_at place target ms)
moved_claims s component place target [] claims = tt
moved_claims s component zero target (m ∷ ms) claims = (
  move_keeps (λ (h : Hardware). h.claimed) m.hardware target refl ∙ claims.0
      ∙ sym (ap (λ (d : CompDesc). claimed_by d (claims_in s (commands_at component s.values)))
      (move_keeps (λ (h : Hardware). h.description) m.hardware target refl)),
  claims.1,
)
moved_claims s component (suc place) target (m ∷ ms) claims =
    (claims.0, moved_claims s (component + 1) place target ms claims.1)

-- ---- Lifecycle states

-- the one that moves was in the state that is told
pub life_is : (place : ℕ) (ms : List Mounted)
    → slice_index_or (map (λ (m : Mounted). m.hardware.life) ms) place Unconfigured ≡ life_in place ms
life_is place [] = refl
life_is zero (m ∷ ms) = refl
life_is (suc place) (m ∷ ms) = life_is place ms

-- it comes to its target, and every other component stays as it was
pub moved_lives : (place : ℕ) (target : Life) (ms : List Mounted) → has_move (life_in place ms) target ≡ true
    → slice_set (map (λ (m : Mounted). m.hardware.life) ms) place target
    ≡ map (λ (m : Mounted). m.hardware.life) (moved_at place target ms)
moved_lives place target [] can = refl
moved_lives zero target (m ∷ ms) can = rw can refl
moved_lives (suc place) target (m ∷ ms) can =
    ap (λ (ls : List Life). m.hardware.life ∷ ls) (moved_lives place target ms can)

-- after it, it is in its target
pub life_then : (place : ℕ) (target : Life) (ms : List Mounted) → place < length ms
    → has_move (life_in place ms) target ≡ true → life_in place (moved_at place target ms) ≡ target
life_then place target [] within can = absurd (omega (arith, within))
life_then zero target (m ∷ ms) within can = rw can refl
life_then (suc place) target (m ∷ ms) within can = life_then place target ms (omega (arith, within)) can

-- whether the interfaces of a component are available then: of the one that moved as its target says, of every other as
-- before
abbrev pub Settles : List Life → ℕ → Life → ℕ → Type 0
Settles lives place target c =
    (((c == place) ≡ true)
    × ((running (slice_set lives place target) c ≡ is_available target)
    × (running lives c ≡ is_available (slice_index_or lives place Unconfigured))))
    ⊎ (((c == place) ≡ false) × (running (slice_set lives place target) c ≡ running lives c))

-- numbers are the same where those after them are
suc_zero : (c : ℕ) → (suc c == 0) ≡ false
suc_zero c = ne_eqb (suc c) 0 (λ same. omega (arith, same))

zero_suc : (c : ℕ) → (0 == suc c) ≡ false
zero_suc c = ne_eqb 0 (suc c) (λ same. omega (arith, same))

suc_suc : (c k : ℕ) → (suc c == suc k) ≡ (c == k)
suc_suc c k =
    both_ways (suc c == suc k) (c == k) (λ same. eq-eqb c k (omega (arith, eqb-true (suc c) (suc k) same)))
    (λ same. eq-eqb (suc c) (suc k) (ap suc (eqb-true c k same)))

pub settles : (lives : List Life) (place : ℕ) (target : Life) (c : ℕ) → place < length lives
    → Settles lives place target c
settles [] place target c within = absurd (omega (arith, within))
settles (l ∷ lives) zero target zero within = inl (refl, (refl, refl))
settles (l ∷ lives) zero target (suc c) within = inr (suc_zero c, refl)
settles (l ∷ lives) (suc place) target zero within = inr (zero_suc place, refl)
settles (l ∷ lives) (suc place) target (suc c) within = elim (settles lives place target c (omega (arith, within))) [
  | inl (here, told) ↦ inl (suc_suc c place ∙ here, told)
  | inr (other, same) ↦ inr (suc_suc c place ∙ other, same)
]

-- ---- One component is measured

-- out of service
abbrev pub down : Mounted → Mounted
down m = record m { hardware = record m.hardware { life = Unconfigured } }

-- as if the component at this place alone were active
abbrev pub alone : ℕ → List Mounted → List Mounted
alone place [] = []
alone zero (m ∷ ms) = record m { hardware = record m.hardware { life = Active } } ∷ map down ms
alone (suc place) (m ∷ ms) = down m ∷ alone place ms

none_measured : (at : ℕ) (loans : List Loan) (ms : List Mounted) → after_measures_of at loans (map down ms) ≡ loans
none_measured at loans [] = refl
none_measured at loans (m ∷ ms) = none_measured (at + states_count m) loans ms

pub alone_measured : (place at : ℕ) (loans : List Loan) (ms : List Mounted)
    → after_measures_of at loans (alone place ms)
    ≡ with_values loans (at + all_states (take place ms)) (measured_in place ms)
alone_measured place at loans [] = refl
alone_measured zero at loans (m ∷ ms) =
    let here : at + 0 ≡ at = omega arith in
    let measured = measured_states m.hardware.description m.hardware.bodies in
    none_measured (at + states_count m) (with_values loans at measured) ms
    ∙ ap (λ (k : ℕ). with_values loans k measured) (sym here)
alone_measured (suc place) at loans (m ∷ ms) =
    let here : (at + states_count m) + all_states (take place ms) ≡ at + (states_count m + all_states (take place ms)) =
    omega arith in
    alone_measured place (at + states_count m) loans ms
    ∙ ap (λ (k : ℕ). with_values loans k (measured_in place ms)) here

-- what that leaves
pub alone_keeps : {B : Type 0} (f : Mounted → B)
    → ((m : Mounted) (life : Life) → f (record m { hardware = record m.hardware { life = life } }) ≡ f m)
    → (place : ℕ) (ms : List Mounted) → map f (alone place ms) ≡ map f ms
alone_keeps f keeps place [] = refl
alone_keeps {B = B} f keeps zero (m ∷ ms) = ap₂ (λ (b : B) (bs : List B). b ∷ bs) (keeps m Active) (downs ms)
  where
    downs : (ms : List Mounted) → map f (map down ms) ≡ map f ms
    downs [] = refl
    downs (m ∷ ms) = ap₂ (λ (b : B) (bs : List B). b ∷ bs) (keeps m Unconfigured) (downs ms)
alone_keeps {B = B} f keeps (suc place) (m ∷ ms) =
    ap₂ (λ (b : B) (bs : List B). b ∷ bs) (keeps m Unconfigured) (alone_keeps f keeps place ms)

pub flat_mapped : {A B : Type 0} (f : A → List B) (xs ys : List A) → map f xs ≡ map f ys → flat_map f xs ≡ flat_map f ys
flat_mapped f [] [] same = refl
flat_mapped f [] (y ∷ ys) same = cc
flat_mapped f (x ∷ xs) [] same = cc
flat_mapped {B = B} f (x ∷ xs) (y ∷ ys) same =
    let head : f x ≡ f y = cc in
    let tail : map f xs ≡ map f ys = cc in
    ap₂ (λ (a b : List B). a ++ b) head (flat_mapped f xs ys tail)

pub alone_joints : (place : ℕ) (ms : List Mounted)
    → AllByRecursion (λ (m : Mounted). length m.hardware.bodies ≡ length m.hardware.description.joints) ms
    → AllByRecursion (λ (m : Mounted). length m.hardware.bodies ≡ length m.hardware.description.joints)
    (map never_failing (alone place ms))
alone_joints place [] joints = tt
alone_joints zero (m ∷ ms) joints = (joints.0, downs ms joints.1)
  where
    downs : (ms : List Mounted)
        → AllByRecursion (λ (m : Mounted). length m.hardware.bodies ≡ length m.hardware.description.joints) ms
        → AllByRecursion (λ (m : Mounted). length m.hardware.bodies ≡ length m.hardware.description.joints)
        (map never_failing (map down ms))
    downs [] joints = tt
    downs (m ∷ ms) joints = (joints.0, downs ms joints.1)
alone_joints (suc place) (m ∷ ms) joints = (joints.0, alone_joints place ms joints.1)

-- it alone is read
pub alone_read : (place : ℕ) (ms : List Mounted) (c : ℕ) → place < length ms
    → option_map_or (λ (p : CompDesc × Life). read_succeeds p.0 p.1 0)
    (slice_get (zip (map unfailing (map (λ (m : Mounted). m.hardware.description) ms))
    (map (λ (m : Mounted). m.hardware.life) (alone place ms))) c) false ≡ (c == place)
alone_read place [] c within = absurd (omega (arith, within))
alone_read zero (m ∷ ms) zero within = refl
alone_read zero (m ∷ ms) (suc c) within = downs ms c ∙ sym (suc_zero c)
  where
    downs : (ms : List Mounted) (c : ℕ)
        → option_map_or (λ (p : CompDesc × Life). read_succeeds p.0 p.1 0)
        (slice_get (zip (map unfailing (map (λ (m : Mounted). m.hardware.description) ms))
        (map (λ (m : Mounted). m.hardware.life) (map down ms))) c) false ≡ false
    downs [] c = refl
    downs (m ∷ ms) zero = refl
    downs (m ∷ ms) (suc c) = downs ms c
alone_read (suc place) (m ∷ ms) zero within = sym (zero_suc place)
alone_read (suc place) (m ∷ ms) (suc c) within = alone_read place ms c (omega (arith, within)) ∙ sym (suc_suc c place)
