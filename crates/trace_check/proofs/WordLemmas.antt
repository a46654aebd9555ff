-- Words and ends of lines.
use Rattle.std.proofs.Common.{◌≡◌, ℕ, suc, ◌+◌, ◌≤◌, Bool, true, false, List, [], ◌∷◌, ◌++◌, length}
use Rattle.std.proofs.Common.{take, Option, Some, None, refl, sym, ap, subst, ◌∙◌, inl, inr, arith}
use Rattle.std.specs.Prelude.{◌==◌, ◌||◌, nat_lt, position, IfSome}
use Rattle.std.specs.List.{list_any, position_or_len}
use Rattle.std.proofs.lemmas.Bool.{cases_Bool, ne_eqb}
use Rattle.std.proofs.lemmas.Bool.Decides.{nat_tests}
use Rattle.std.proofs.lemmas.List.{take_all}
use Rattle.std.proofs.lemmas.Option.{cond_some}
use Rattle.iface_names.specs.Names.{same_name}
use Rattle.cm_document.specs.Lines.{without_last}
use Rattle.cm_document.specs.declared.description.CtlDesc.{CtlDesc}
use Rattle.cm_document.specs.declared.description.Description.{Description}
use Rattle.cm_model.specs.Trace.{loaded_by}
use Rattle.cm_model.specs.declared.entry.Entry.{Entry}
use Rattle.cm_model.specs.declared.reply.Reply.TheVariants as reply
use Rattle.cm_storage.specs.Kept.{load_name}
use Rattle.script_text.proofs.PrintWordLemmas.{without_feed}
use Rattle.trace_laws.specs.Next.{first_word}
use Rattle.trace_check.specs.Steps.{IsDescribed}

-- ---- The first word

abbrev pub ends_word : ℕ → Bool
ends_word b = b == 32 || b == 10

take_one_more : (n b : ℕ) (bs : List ℕ) → take (1 + n) (b ∷ bs) ≡ b ∷ take n bs
take_one_more n b bs = let one : 1 + n ≡ suc n = omega arith in ap (λ k. take k (b ∷ bs)) one

-- it is what stands before the first byte that ends it
first_taken : (line : List ℕ) → first_word line ≡ take (position_or_len ends_word line) line
first_taken [] = refl
first_taken (b ∷ bs) = elim (cases_Bool (ends_word b)) [
  | inl ends ↦ rw ends refl
  | inr inside ↦ rw inside
      (ap (λ (l : List ℕ). b ∷ l) (first_taken bs) ∙ sym (take_one_more (position_or_len ends_word bs) b bs))
]

pub first_word_cut : (line : List ℕ) (end : ℕ) → position ends_word line ≡ Some end → first_word line ≡ take end line
first_word_cut line end at = let found = cond_some _ _ _ at in first_taken line ∙ ap (λ k. take k line) found.1

pub first_word_all : (line : List ℕ) → position ends_word line ≡ None → first_word line ≡ line
first_word_all line none = elim (cases_Bool (nat_lt (position_or_len ends_word line) (length line))) [
  | inl within ↦ let found : Some (position_or_len ends_word line) ≡ None = rw within at none in cc
  | inr past ↦
      let far : length line ≤ position_or_len ends_word line = grind (arith, nat_tests, past) in
      first_taken line ∙ take_all (position_or_len ends_word line) line far
]

pub ruleset first_words = (first_word_cut, first_word_all)

-- ---- A line without its line feed

kept_end : (front : List ℕ) (last : ℕ) → (last == 10) ≡ false
    → without_last 10 (front ++ last ∷ []) ≡ front ++ last ∷ []
kept_end [] last other = rw other refl
kept_end (b ∷ []) last other = ap (λ (l : List ℕ). b ∷ l) (kept_end [] last other)
kept_end (b ∷ c ∷ bs) last other = ap (λ (l : List ℕ). b ∷ l) (kept_end (c ∷ bs) last other)

pub without_its_feed : (line front : List ℕ) (last : ℕ) → line ≡ front ++ last ∷ [] → last ≡ 10
    → front ≡ without_last 10 line
without_its_feed line front last whole feed =
    sym (without_feed front) ∙ ap (λ b. without_last 10 (front ++ b ∷ [])) (sym feed) ∙ ap (without_last 10) (sym whole)

pub without_a_feed : (line front : List ℕ) (last : ℕ) → line ≡ front ++ last ∷ [] → (last ≡ 10 → ⊥)
    → line ≡ without_last 10 line
without_a_feed line front last whole other =
    let differs : (last == 10) ≡ false = ne_eqb last 10 other in
    whole ∙ sym (kept_end front last differs) ∙ ap (without_last 10) (sym whole)

pub ruleset ending_lines = (without_its_feed, without_a_feed)

-- ---- A load

-- the controller that an entry loaded is described
pub load_described : (d : Description) (e : Entry) (n : ℕ) (name : List ℕ) → IsDescribed d e → e.reply ≡ reply.Serial n
    → load_name e.call ≡ Some name
    → list_any (λ (c : CtlDesc). same_name c.name name) d.controllers ≡ true
load_described d e n name described is loads =
    let loaded : loaded_by e.call e.reply ≡ Some name = ap (loaded_by e.call) is ∙ loads in
    subst (λ (o : Option (List ℕ)). IfSome o
    (λ (each : List ℕ). list_any (λ (c : CtlDesc). same_name c.name each) d.controllers ≡ true)) loaded described
