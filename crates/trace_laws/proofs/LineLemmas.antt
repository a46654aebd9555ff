-- The first word of a line tells its caller, and the first lines of a text are its lines cut short.
use Rattle.std.proofs.Common.{◌≡◌, ℕ, zero, suc, ◌≤◌, ◌<◌, false, List, [], ◌∷◌, ◌++◌, length}
use Rattle.std.proofs.Common.{take, Option, Some, refl, sym, ap, subst, ◌∙◌, inl, inr, arith}
use Rattle.std.specs.Prelude.{◌==◌, ◌||◌, codes, slice_get, option_map, unwrap_or, position}
use Rattle.std.specs.List.{AllByRecursion, onto_first}
use Rattle.std.proofs.lemmas.Bool.{cases_Bool}
use Rattle.std.proofs.lemmas.Bool.Decides.{nat_tests}
use Rattle.std.proofs.lemmas.Option.{slice_get_within}
use Rattle.iface_names.specs.Names.{same_name}
use Rattle.cm_document.proofs.ReadingLemmas.{cases_Option}
use Rattle.cm_document.specs.CallText.{session_name}
use Rattle.cm_document.specs.Lines.{raw_lines, joined}
use Rattle.cm_document.specs.ScriptLaws.{IsSession, MeetsRules}
use Rattle.cm_document.specs.declared.script.Script.{Script}
use Rattle.cm_document.specs.declared.script.SessionText.{SessionText}
use Rattle.cm_model.specs.Trace.{caller_text}
use Rattle.script_text.proofs.PrintScriptLemmas.{found}
use Rattle.script_text.proofs.PrintValueLemmas.{name_IsWord}
use Rattle.trace_laws.specs.Next.{first_word, caller_named}
use Rattle.trace_laws.proofs.WayLemmas.{past_all}

-- ---- The first word

-- a word before a space is the first
pub first_word_is : (word rest : List ℕ) → AllByRecursion (λ b. 32 < b) word → first_word (word ++ 32 ∷ rest) ≡ word
first_word_is [] rest shown = refl
first_word_is (b ∷ bs) rest shown =
    let goes_on : (b == 32 || b == 10) ≡ false = grind (arith, nat_tests, shown.0) in
    rw goes_on (ap (λ word. b ∷ word) (first_word_is bs rest shown.1))

-- ---- Callers

session_at : (sessions : List SessionText) (who : ℕ) (s : SessionText) → AllByRecursion IsSession sessions
    → slice_get sessions who ≡ Some s → IsSession s
session_at [] who s all at = cc
session_at (t ∷ sessions) zero s all at = subst IsSession (same_one at) all.0
  where
    same_one : Some t ≡ Some s → t ≡ s
    same_one e = cc
session_at (t ∷ sessions) (suc who) s all at = session_at sessions who s all.1 at

module _ (script : Script) (rules : MeetsRules script) (who : ℕ) (few : who ≤ length script.sessions) where
  -- the name of a caller is shown
  pub caller_shown : AllByRecursion (λ b. 32 < b) (caller_text script.sessions who)
  caller_shown = elim (cases_Option (slice_get script.sessions who)) [
    | inl none ↦ subst
        (λ (o : Option SessionText). AllByRecursion (λ b. 32 < b)
        (unwrap_or (option_map (λ s. s.name) o) (codes "loop"))) (sym none) (search (arith, rules))
    | inr (s, some) ↦
        subst (λ (o : Option SessionText). AllByRecursion (λ b. 32 < b)
        (unwrap_or (option_map (λ s. s.name) o) (codes "loop"))) (sym some)
        (name_IsWord s.name (session_at script.sessions who s rules.sessions some).named).shown
  ]

  -- and tells the caller
  pub caller_is : caller_named script.sessions (caller_text script.sessions who) ≡ Some who
  caller_is = elim (cases_Option (slice_get script.sessions who)) [
    | inl none ↦
        let past : length script.sessions ≤ who = past_all script.sessions who none in
        let same : length script.sessions ≡ who = omega (arith, past, few) in
        let text : caller_text script.sessions who ≡ codes "loop" =
        ap (λ (o : Option SessionText). unwrap_or (option_map (λ s. s.name) o) (codes "loop")) none in
        ap (caller_named script.sessions) text ∙ ap (λ n. Some n) same
    | inr (s, some) ↦
        let is = session_at script.sessions who s rules.sessions some in
        let text : caller_text script.sessions who ≡ s.name =
        ap (λ (o : Option SessionText). unwrap_or (option_map (λ s. s.name) o) (codes "loop")) some in
        let name : session_name script.sessions who ≡ s.name =
        ap (λ (o : Option SessionText). unwrap_or (option_map (λ s. s.name) o) []) some in
        let there : position (λ t. same_name s.name t.name) script.sessions ≡ Some who =
        subst (λ word. position (λ t. same_name word t.name) script.sessions ≡ Some who) name
        (found script.sessions who (slice_get_within script.sessions who s some) rules.apart) in
        ap (caller_named script.sessions) text ∙ rw is.not_loop there
  ]

-- ---- The first lines

take_none : {A : Type 0} (n : ℕ) (xs : List A) → xs ≡ [] → take n xs ≡ xs
take_none zero [] none = refl
take_none (suc n) [] none = refl
take_none n (x ∷ xs) none = cc

-- lines whose first got one byte more
onto_taken : (b : ℕ) (lines : List (List ℕ)) (n : ℕ)
    → joined (take (suc n) (onto_first b lines)) ≡ b ∷ joined (take (suc n) lines)
onto_taken b [] n = ap (λ (l : List (List ℕ)). b ∷ joined l) (take_none n [] refl)
onto_taken b (l ∷ lines) n = refl

onto_take : (b : ℕ) (lines : List (List ℕ)) (n : ℕ)
    → onto_first b (take (suc n) lines) ≡ take (suc n) (onto_first b lines)
onto_take b [] n = ap (λ (l : List (List ℕ)). (b ∷ []) ∷ l) (sym (take_none n [] refl))
onto_take b (l ∷ lines) n = refl

-- the first lines of a text, joined, have these lines
pub lines_taken : (text : List ℕ) (n : ℕ) → raw_lines (joined (take n (raw_lines text))) ≡ take n (raw_lines text)
lines_taken text zero = refl
lines_taken [] (suc n) = refl
lines_taken (b ∷ bs) (suc n) = elim (cases_Bool (b == 10)) [
  | inl ends ↦ rw ends (rw ends (ap (λ lines. (b ∷ []) ∷ lines) (lines_taken bs n)))
  | inr inside ↦
      rw inside (ap raw_lines (onto_taken b (raw_lines bs) n)
      ∙ rw inside (ap (onto_first b) (lines_taken bs (suc n)) ∙ onto_take b (raw_lines bs) n))
]
