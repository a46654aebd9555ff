-- The script of a plan meets the rules of scripts, and so its text reads back.
use Rattle.std.proofs.Common.{◌≡◌, ℕ, zero, suc, ◌+◌, ◌≤◌, List, [], ◌∷◌, ◌++◌, length}
use Rattle.std.proofs.Common.{length-append, map, inl, inr, refl, sym, ap, subst, arith}
use Rattle.std.specs.Prelude.{IsTrue, Ok}
use Rattle.std.specs.List.{AllByRecursion}
use Rattle.std.proofs.lemmas.List.{length-map}
use Rattle.sequence.proofs.ListLemmas.{all_append}
use Rattle.cm_document.proofs.DistinctLemmas.{all_map}
use Rattle.cm_document.proofs.ValidParts.{parts_of_valid}
use Rattle.cm_document.specs.CallText.{script_text}
use Rattle.cm_document.specs.Grammars.{whole_grammar}
use Rattle.cm_document.specs.Given.{IsName}
use Rattle.cm_document.specs.ScriptLaws.{IsPick, CanBeWritten, MeetsRules, UsesGrammar, allows}
use Rattle.cm_document.specs.ScriptRules.{script_with}
use Rattle.cm_document.specs.Valid.{IsValid}
use Rattle.cm_document.specs.declared.call.Call.{Call}
use Rattle.cm_document.specs.declared.call.Call.TheVariants.{Load, Configure}
use Rattle.cm_document.specs.declared.call.Pick.TheVariants.{One}
use Rattle.cm_document.specs.declared.description.CtlDesc.{CtlDesc}
use Rattle.cm_document.specs.declared.description.Description.{Description}
use Rattle.cm_document.specs.declared.script.Script.{Script}
use Rattle.cm_model.specs.declared.blanks.Blanks.{Blanks}
use Rattle.script_text.proofs.PrintScriptLemmas.{printed_reads_back}
use Rattle.spawn_plan.proofs.WantedLemmas.{wanted_few}
use Rattle.spawn_plan.specs.Plan.{spawned}
use Rattle.spawn_plan.specs.Starting.{waiting_for, starting_all, start_lines, starting}
use Rattle.spawn_laws.proofs.PlannedLemmas.{planned_parts, start_within}
use Rattle.spawn_laws.proofs.PrepareLemmas.{ArePlaced, are_placed}

-- ---- How many lines there are

-- as many places as names
as_many : (cs : List CtlDesc) (names : List (List ℕ)) (places : List ℕ) → ArePlaced cs names places
    → length names ≡ length places
as_many cs [] [] placed = refl
as_many cs (name ∷ names) (p ∷ places) placed = ap suc (as_many cs names places placed.1)
as_many cs [] (p ∷ places) placed = absurd placed
as_many cs (name ∷ names) [] placed = absurd placed

one_wait : (k : ℕ) → length (waiting_for k) ≤ 1
one_wait zero = omega arith
one_wait (suc n) = omega arith

-- two lines for each name, a wait and the switch
few_lines : (names : List (List ℕ)) (k : ℕ) → length names ≤ 64 → length (start_lines names k) ≤ 130
few_lines [] k few = omega arith
few_lines (name ∷ names) k few =
    let wanted = name ∷ names in
    let loads = map Load wanted in
    let configures = map Configure wanted in
    let all : length ((loads ++ configures ++ waiting_for k) ++ starting_all wanted ∷ []) ≤ 130 =
    omega (
      arith,
      length-append (loads ++ configures ++ waiting_for k) (starting_all wanted ∷ []),
      length-append (loads ++ configures) (waiting_for k),
      length-append loads configures,
      length-map wanted Load,
      length-map wanted Configure,
      one_wait k,
      few,
    ) in
    all

-- ---- What holds of each line

lines_all : (P : Call → Type 0) (names : List (List ℕ)) (k : ℕ) → AllByRecursion (λ name. P (Load name)) names
    → AllByRecursion (λ name. P (Configure name)) names
    → AllByRecursion P (waiting_for k) → P (starting_all names) → AllByRecursion P (start_lines names k)
lines_all P [] k loads configures waits asks = tt
lines_all P (name ∷ names) k loads configures waits asks =
    let wanted = name ∷ names in
    all_append P (map Load wanted ++ map Configure wanted ++ waiting_for k) (starting_all wanted ∷ [])
    (all_append P (map Load wanted ++ map Configure wanted) (waiting_for k)
    (all_append P (map Load wanted) (map Configure wanted) (all_map P Load wanted loads)
    (all_map P Configure wanted configures)) waits) (asks, tt)

-- the wait is for a cycle that a line can say
wait_written : (k : ℕ) → k ≤ 999999999 → AllByRecursion CanBeWritten (waiting_for k)
wait_written zero few = tt
wait_written (suc n) few = (few, tt)

wait_allowed : (k : ℕ) → AllByRecursion (λ c. IsTrue (allows whole_grammar c)) (waiting_for k)
wait_allowed zero = tt
wait_allowed (suc n) = (refl, tt)

each_so : {A : Type 0} (P : A → Type 0) → ((x : A) → P x) → (xs : List A) → AllByRecursion P xs
each_so P so [] = tt
each_so P so (x ∷ xs) = (so x, each_so P so xs)

-- ---- The script

module _ (names : List (List ℕ)) (k : ℕ) (named : AllByRecursion IsName names) (few : length names ≤ 64)
    (soon : k ≤ 999999999) where
  asks_written : CanBeWritten (starting_all names)
  asks_written =
      let most : length (map One names) + 0 ≤ 128 = omega (arith, length-map names One, few) in
      record { few = most; on = all_map IsPick One names named; off = tt }

  pub meets : MeetsRules (starting names k)
  meets =
      let one : 1 ≤ 8 = omega arith in
      let calls : (0 + length (start_lines names k)) + 0 ≤ 10000 = omega (arith, few_lines names k few) in
      record {
        few_sessions = one;
        few_calls = calls;
        sessions = (
          record {
            named = refl;
            not_loop = refl;
            written =
                lines_all CanBeWritten names k named named (wait_written k soon) asks_written;
          },
          tt,
        );
        apart = (tt, tt);
        turns = tt;
      }

-- and each line is one of the whole grammar
uses : (names : List (List ℕ)) (k : ℕ) → UsesGrammar whole_grammar (starting names k)
uses names k = record {
  first = λ some. refl;
  further = λ more. refl;
  calls = (
    lines_all (λ c. IsTrue (allows whole_grammar c)) names k
        (each_so (λ name. IsTrue (allows whole_grammar (Load name))) (λ name. refl) names)
        (each_so (λ name. IsTrue (allows whole_grammar (Configure name))) (λ name. refl) names) (wait_allowed k) refl,
    tt,
  );
  turns = λ some. refl;
}

-- ---- Of a plan

-- The script of a plan over names meets the rules of scripts,
pub planned_meets : (d : Description) (blanks : Blanks) (wanted : List (List ℕ)) (script : Script) → IsValid d
    → AllByRecursion IsName wanted → spawned d blanks wanted ≡ Ok script → MeetsRules script
planned_meets d blanks wanted script valid named is =
    let plan = planned_parts d blanks wanted script is in
    let parts = parts_of_valid d valid in
    let controllers : length d.controllers ≤ 64 = parts.few.controllers in
    let cycles : d.cycles ≤ 100000 = parts.ranges.cycles in
    let many = as_many d.controllers wanted plan.places (are_placed d.controllers wanted plan.places plan.placed) in
    let few : length wanted ≤ 64 =
    omega (arith, many, wanted_few d.controllers wanted plan.places plan.placed plan.once, controllers) in
    let soon : plan.cycle ≤ 999999999 = elim (start_within d plan.places plan.cycle plan.begins) [
      | inl first ↦ omega (arith, first)
      | inr later ↦ omega (arith, later, cycles)
    ] in
    subst MeetsRules (sym plan.script_is) (meets wanted plan.cycle named few soon)

-- and its text reads back.
pub planned_reads_back : (d : Description) (blanks : Blanks) (wanted : List (List ℕ)) (script : Script) → IsValid d
    → AllByRecursion IsName wanted → spawned d blanks wanted ≡ Ok script
    → (line : ℕ) → script_with whole_grammar line (script_text script) ≡ Ok script
planned_reads_back d blanks wanted script valid named is line =
    let plan = planned_parts d blanks wanted script is in
    printed_reads_back script whole_grammar line (planned_meets d blanks wanted script valid named is)
    (subst (UsesGrammar whole_grammar) (sym plan.script_is) (uses wanted plan.cycle))
