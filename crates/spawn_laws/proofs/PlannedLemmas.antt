-- What a planned script rests on.
use Rattle.std.proofs.Common.{◌≡◌, ℕ, zero, suc, ◌+◌, ◌<◌, true, List, [], ◌∷◌, Option}
use Rattle.std.proofs.Common.{Some, None, inl, inr, ◌⊎◌, refl, sym, ap, arith}
use Rattle.std.specs.Prelude.{Result, Ok, Err}
use Rattle.std.specs.List.{Contains, range_with_len}
use Rattle.iface_names.specs.Names.{same_name}
use Rattle.cm_document.specs.Reading.{◌>>=◌}
use Rattle.cm_document.specs.Valid.{repeated_after}
use Rattle.cm_document.specs.declared.description.Description.{Description}
use Rattle.cm_document.specs.declared.script.Script.{Script}
use Rattle.cm_model.specs.declared.blanks.Blanks.{Blanks}
use Rattle.cm_model.specs.declared.cause.Dropped.{Dropped}
use Rattle.switch_plan.proofs.ElementLemmas.{none_inside, first_or_later, found}
use Rattle.spawn_plan.specs.Fitting.{fits, first_fit, start_of}
use Rattle.spawn_plan.specs.Never.{never, can_be_active}
use Rattle.spawn_plan.specs.Plan.{start_together, spawned}
use Rattle.spawn_plan.specs.Starting.{starting}
use Rattle.spawn_plan.specs.Wanted.{places_in, each_once, have_blanks, can_be_configured}
use Rattle.spawn_plan.specs.declared.fault.SpawnFault.{SpawnFault}
use Rattle.spawn_plan.specs.declared.fault.SpawnFault.TheVariants as fault
use Rattle.spawn_plan.proofs.OnceLemmas.{once_none}
use Rattle.spawn_laws.proofs.PrepareLemmas.{ArePlaced}

-- ---- The parts of a plan

-- a step of a plan, and what follows
step_parts : {A B : Type 0} (r : Result A SpawnFault) (f : A → Result B SpawnFault) (y : B) → (r >>= f) ≡ Ok y
    → (x : A) × (r ≡ Ok x) × (f x ≡ Ok y)
step_parts (Ok x) f y is = (x, refl, is)
step_parts (Err e) f y is = cc

never_none : (o : Option Dropped)
    → ◌≡◌ {A = Result (Unit {0}) SpawnFault}
    (elim o [ None ↦ Ok tt | Some because ↦ Err (fault.Never because.name because.cause) ]) (Ok tt) → o ≡ None
never_none None is = refl
never_none (Some because) is = cc

cycle_some : (o : Option ℕ) (k : ℕ)
    → ◌≡◌ {A = Result ℕ SpawnFault} (elim o [ None ↦ Err fault.NoCycle | Some cycle ↦ Ok cycle ]) (Ok k) → o ≡ Some k
cycle_some None k is = cc
cycle_some (Some n) k is = let same : n ≡ k = cc in ap (λ (m : ℕ). Some m) same

-- What a plan rests on.
pub record IsPlanned (d : Description) (blanks : Blanks) (wanted : List (List ℕ)) (script : Script) : Type 0 where
  pub places : List ℕ
  pub cycle : ℕ
  pub placed : places_in d.controllers wanted ≡ Ok places
  pub once : repeated_after same_name [] wanted ≡ None
  pub blanks_left : have_blanks d.controllers blanks places ≡ Ok tt
  pub taken : can_be_configured d.controllers places ≡ Ok tt
  pub possible : never d places ≡ None
  pub begins : start_of d places ≡ Ok cycle
  pub script_is : script ≡ starting wanted cycle

pub planned_parts : (d : Description) (blanks : Blanks) (wanted : List (List ℕ)) (script : Script)
    → spawned d blanks wanted ≡ Ok script → IsPlanned d blanks wanted script
unfolding spawned
planned_parts d blanks wanted script is =
    let a = step_parts (places_in d.controllers wanted) _ script is in
    let b = step_parts (each_once wanted) _ script a.2 in
    let c = step_parts (have_blanks d.controllers blanks a.0) _ script b.2 in
    let e = step_parts (can_be_configured d.controllers a.0) _ script c.2 in
    let f = step_parts (start_together d a.0) _ script e.2 in
    let g = step_parts (can_be_active d a.0) (λ _. start_of d a.0) f.0 f.1 in
    let same : starting wanted f.0 ≡ script = cc in
    record {
      places = a.0;
      cycle = f.0;
      placed = a.1;
      once = once_none wanted b.1;
      blanks_left = c.1;
      taken = e.1;
      possible = never_none (never d a.0) g.1;
      begins = g.2;
      script_is = sym same;
    }

-- some are wanted, so they have some places
pub start_parts : (d : Description) (name : List ℕ) (names : List (List ℕ)) (places : List ℕ) (k : ℕ)
    → ArePlaced d.controllers (name ∷ names) places → start_of d places ≡ Ok k → first_fit d places ≡ Some k
start_parts d name names [] k placed starts = absurd placed
start_parts d name names (p ∷ places) k placed starts = cycle_some (first_fit d (p ∷ places)) k starts

-- ---- The first cycle that fits

in_range : (first count k : ℕ) → Contains (range_with_len first count) k → k < first + count
in_range first zero k inside = absurd (none_inside k inside)
in_range first (suc count) k inside =
    elim (first_or_later first (range_with_len (first + 1) count) k inside) [
      | inl same ↦ omega (arith, same)
      | inr after ↦ (let less = in_range (first + 1) count k after in omega (arith, less))
    ]

pub first_parts : (d : Description) (places : List ℕ) (k : ℕ) → first_fit d places ≡ Some k
    → (k < d.cycles) × (fits d places k ≡ true)
unfolding first_fit
first_parts d places k least =
    let r = found (fits d places) (range_with_len 0 d.cycles) k least in
    let less : k < 0 + d.cycles = in_range 0 d.cycles k r.0 in
    (omega (arith, less), r.1)

-- so a start comes with the first cycle or with another of the run
pub start_within : (d : Description) (places : List ℕ) (k : ℕ) → start_of d places ≡ Ok k → (k ≡ 0) ⊎ (k < d.cycles)
start_within d [] k starts = let same : 0 ≡ k = cc in inl (sym same)
start_within d (p ∷ places) k starts =
    inr (first_parts d (p ∷ places) k (cycle_some (first_fit d (p ∷ places)) k starts)).0
