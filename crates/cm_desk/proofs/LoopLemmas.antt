-- What a history says of the loop: what is counted in it, how it stands after entries of others, and what a landing
-- tells.
use Rattle.std.proofs.Common.{◌≡◌, ℕ, suc, ◌+◌, Bool, true, false, List, [], ◌∷◌, ◌++◌, length}
use Rattle.std.proofs.Common.{length-append, Option, Some, refl, sym, ap, subst, ◌∙◌, cond, arith}
use Rattle.std.specs.Prelude.{◌-◌, ◌≤◌, ◌==◌, nat_lt, not, ◌&&◌}
use Rattle.std.proofs.Math.Nat.{zero-add}
use Rattle.std.proofs.lemmas.Bool.Decides.{nat_tests}
use Rattle.std.proofs.lemmas.List.{append_cancel_left}
use Rattle.std.proofs.lemmas.List.Elements.{filter-append}
use mathlib.Core.List.{append-nil, append_assoc}
use Rattle.cm_document.specs.declared.call.Call.{Call}
use Rattle.cm_document.specs.declared.call.Call.TheVariants.{Begin, End, Close}
use Rattle.cm_document.specs.declared.description.Description.{Description}
use Rattle.cm_model.specs.Boundary.{decisions_from}
use Rattle.cm_model.specs.Cycle.{cycle}
use Rattle.cm_model.specs.Histories.{decided_in, SameLoop}
use Rattle.cm_model.specs.Machine.{LegalFrom, IsLegal, can_begin, can_end, can_close, is_enabled, state_after, step}
use Rattle.cm_model.specs.Sessions.{IsConsole, entries_by}
use Rattle.cm_model.specs.Sound.{moments, decisions_in, ticketed, TicketsFrom}
use Rattle.cm_model.specs.State.{State, boot}
use Rattle.cm_model.specs.declared.blanks.Blanks.{Blanks}
use Rattle.cm_model.specs.declared.cause.Decision.{Decision}
use Rattle.cm_model.specs.declared.cause.Outcome.{Outcome}
use Rattle.cm_model.specs.declared.entry.Entry.{Entry}
use Rattle.cm_model.proofs.CountLemmas.{decided_append, ended_from_boot}
use Rattle.cm_model.proofs.HistoryLemmas.{sessions_stay}
use Rattle.cm_model.proofs.LegalLemmas.{step_of}
use Rattle.cm_model.proofs.StayLemmas.{same, same-trans, effect-SameLoop, step-IsStep}
use Rattle.cm_model.proofs.WaitingLemmas.{step-enabled}
use Rattle.sound_laws.proofs.BetweenLemmas.{HasBegun}
use Rattle.sound_laws.proofs.CoreLemmas.{core_cycle}
use Rattle.sound_laws.proofs.ToldLemmas.{tickets_from}
use Rattle.cm_desk.specs.Desk.{History, begun_of, now_of, AreFew, Grows, GoesOnWithoutLoop, IsRight, Keeps, StandsAlike}
use Rattle.cm_desk.proofs.BegunLemmas.{after_cons, called_alike, has_begun, moments_cons}

-- ---- When the loop goes on

-- with none aloft, none closed and cycles left a cycle can begin,
pub begins_where : (aloft closed : Bool) (ended cycles : ℕ) → aloft ≡ false → closed ≡ false → 1 ≤ cycles - ended
    → (((not aloft && not closed) && ended == ended) && nat_lt ended cycles) ≡ true
begins_where true closed ended cycles home unclosed left = cc
begins_where false true ended cycles home unclosed left = cc
begins_where false false ended cycles home unclosed left =
    let same : (ended == ended) ≡ true = grind (arith, nat_tests) in
    let more : nat_lt ended cycles ≡ true = grind (arith, nat_tests) in
    rw (same, more) refl

-- and the loop can close
pub closes_where : (aloft closed : Bool) → aloft ≡ false → closed ≡ false → (not aloft && not closed) ≡ true
closes_where true closed home unclosed = cc
closes_where false true home unclosed = cc
closes_where false false home unclosed = refl

-- ---- What is counted

length_decisions : (first : ℕ) (outcomes : List Outcome) → length (decisions_from first outcomes) ≡ length outcomes
length_decisions first [] = refl
length_decisions first (o ∷ outcomes) = ap suc (length_decisions (first + 1) outcomes)

no_more : (n : ℕ) → n ≡ n + 0
no_more n = omega arith

sum_of : (a b c n m k : ℕ) → b ≡ a + n → c ≡ b + m → k ≡ n + m → c ≡ a + k
sum_of a b c n m k first rest all = omega (arith, first, rest, all)

-- From where so much was told as requests have outcomes, as many more have one as decisions are told.
decided_from : (made : List Entry) (s : State) (so_far : List Decision) → so_far ≡ decisions_from 0 s.outcomes
    → LegalFrom s made → TicketsFrom so_far (moments s made)
    → length (state_after s made).outcomes ≡ length so_far + decided_in made
decided_from [] s so_far are legal right =
    sym (length_decisions 0 s.outcomes) ∙ ap length (sym are) ∙ no_more (length so_far)
decided_from (e ∷ made) s so_far are legal right =
    let first = step_of (step s e.who e.call) e.reply (λ each. LegalFrom each made) legal in
    let told = subst (TicketsFrom so_far) (moments_cons s first.0 e made first.1) right in
    let all : length (so_far ++ ticketed (decisions_in e.reply))
    ≡ length so_far + length (ticketed (decisions_in e.reply)) =
    length-append so_far (ticketed (decisions_in e.reply)) in
    let rest = decided_from made first.0 (so_far ++ ticketed (decisions_in e.reply)) told.0.each_once first.2 told.1 in
    ap (λ (t : State). length t.outcomes) (after_cons s first.0 e made first.1)
    ∙ sum_of (length so_far) (length (so_far ++ ticketed (decisions_in e.reply)))
    (length (state_after first.0 made).outcomes) (length (ticketed (decisions_in e.reply))) (decided_in made)
    (decided_in (e ∷ made)) all rest
    (decided_append (e ∷ []) made ∙ ap (λ n. n + decided_in made) (zero-add (length (ticketed (decisions_in e.reply)))))

-- After a legal history from boot as many requests are decided as it tells decisions.
pub decided_after : (d : Description) (blanks : Blanks) (sessions : ℕ) (made : List Entry)
    → IsLegal d blanks sessions made
    → length (state_after (boot d blanks sessions) made).outcomes ≡ decided_in made
decided_after d blanks sessions made legal =
    decided_from made (boot d blanks sessions) [] refl legal (tickets_from (boot d blanks sessions) [] made refl legal)
    ∙ zero-add (decided_in made)

-- What every desk keeps of its history.
pub right_of : (d : Description) (blanks : Blanks) (sessions : ℕ) (made : List Entry) (now : State) (entries boxes : ℕ)
    → Keeps (boot d blanks sessions) made now entries boxes
    → IsRight (record { opening = boot d blanks sessions; made = made })
right_of d blanks sessions made now entries boxes kept = record {
  valid = kept.valid;
  opening = refl;
  legal = kept.legal;
  sound = kept.sound;
  ended = ended_from_boot d blanks sessions made kept.legal;
  decided = decided_after d blanks sessions made kept.legal;
  few = subst (AreFew made) (sym kept.ends) kept.few;
}

-- ---- Entries of others

clash : (a b : Bool) → a ≡ false → (a && b) ≡ true → ⊥
clash false b is both = cc
clash true b is both = cc

-- who is not the loop makes console calls
other_is_console : (s : State) (who : ℕ) (call : Call) → (who == s.sessions) ≡ false → is_enabled s who call ≡ true
    → IsConsole call
other_is_console s who (Begin n) other enabled = absurd (clash (who == s.sessions) (can_begin s n) other enabled)
other_is_console s who (End n) other enabled = absurd (clash (who == s.sessions) (can_end s n) other enabled)
other_is_console s who Close other enabled = absurd (clash (who == s.sessions) (can_close s) other enabled)
other_is_console s who _ other enabled = tt

-- an entry of a legal history is a step
step_at : (made : List Entry) (s : State) (e : Entry) (rest : List Entry) → LegalFrom s (made ++ e ∷ rest)
    → step (state_after s made) e.who e.call ≡ Some (state_after s (made ++ e ∷ []), e.reply)
step_at [] s e rest legal =
    let first = step_of (step s e.who e.call) e.reply (λ each. LegalFrom each rest) legal in
    first.1 ∙ ap (λ (t : State). Some (t, e.reply)) (sym (after_cons s first.0 e [] first.1))
step_at (d ∷ made) s e rest legal =
    let first = step_of (step s d.who d.call) d.reply (λ each. LegalFrom each (made ++ e ∷ rest)) legal in
    rw (first.1, state_after) (step_at made first.0 e rest first.2)

head_other : (b : Bool) (x : Entry) (xs : List Entry) → cond b (x ∷ xs) xs ≡ [] → (b ≡ false) × (xs ≡ [])
head_other false x xs none = (refl, none)
head_other true x xs none = cc

stands_on : (rest : List Entry) (opening : State) (made : List Entry) (loop : ℕ) → LegalFrom opening (made ++ rest)
    → opening.sessions ≡ loop → entries_by loop rest ≡ []
    → StandsAlike (record { opening = opening; made = made }) (record { opening = opening; made = made ++ rest })
stands_on [] opening made loop legal is none =
    rw (append-nil made)
    (record { alike = record { begun = refl; aloft = refl }; loop = same (state_after opening made) })
stands_on (e ∷ rest) opening made loop legal is none =
    let h : List Entry → History = λ entries. record { opening = opening; made = entries } in
    let before = state_after opening made in
    let after = state_after opening (made ++ e ∷ []) in
    let apart = head_other (e.who == loop) e (entries_by loop rest) none in
    let stepped = step_at made opening e rest legal in
    let grows : Grows (h made) (h (made ++ e ∷ [])) e.who e.call e.reply =
    record { opening = refl; made = refl; stepped = stepped } in
    let is_step = step-IsStep before e.who e.call (after, e.reply) stepped in
    let other : (e.who == before.sessions) ≡ false = rw (sessions_stay made opening ∙ is) apart.0 in
    let console =
    other_is_console before e.who e.call other (step-enabled before e.who e.call (after, e.reply) stepped) in
    let whole : (made ++ e ∷ []) ++ rest ≡ made ++ e ∷ rest = append_assoc made (e ∷ []) rest in
    let later = stands_on rest opening (made ++ e ∷ []) loop (rw whole legal) is apart.1 in
    let later_here : StandsAlike (h (made ++ e ∷ [])) (h (made ++ e ∷ rest)) =
    subst (λ (entries : List Entry). StandsAlike (h (made ++ e ∷ [])) (h entries)) whole later in
    let now = called_alike (h made) (h (made ++ e ∷ [])) e.who e.call e.reply console grows in
    let loop_now : SameLoop before after = rw is_step.next (effect-SameLoop before e.call e.reply console) in
    record {
      alike = record { begun = later_here.alike.begun ∙ now.begun; aloft = later_here.alike.aloft ∙ now.aloft };
      loop = same-trans _ _ _ loop_now later_here.loop;
    }

-- Entries of others leave the loop as it stood.
pub stands_alike : (old new : History) → LegalFrom new.opening new.made → GoesOnWithoutLoop old new
    → StandsAlike old new
stands_alike old new legal goes_on =
    let rest = goes_on.begins.0 in
    let whole : old.made ++ rest ≡ new.made = goes_on.begins.1 in
    let loop = old.opening.sessions in
    let none : entries_by loop rest ≡ [] =
    append_cancel_left (entries_by loop old.made) (entries_by loop rest) []
    (sym (filter-append (λ (e : Entry). e.who == loop) old.made rest) ∙ ap (entries_by loop) whole ∙ goes_on.own
    ∙ sym (append-nil (entries_by loop old.made))) in
    let legal_here : LegalFrom old.opening (old.made ++ rest) =
    subst (λ (s : State). LegalFrom s (old.made ++ rest)) goes_on.opening
    (subst (LegalFrom new.opening) (sym whole) legal) in
    subst (λ (h : History). StandsAlike old h)
    (λ i. record { opening = sym goes_on.opening i; made = whole i })
    (stands_on rest old.opening old.made loop legal_here refl none)

-- ---- Landings

-- A landing tells what the cycle of the state tells that its begin left.
pub lands_as_begun : (h : History) (begun : State) → LegalFrom h.opening h.made → begun_of h ≡ Some begun
    → (cycle (now_of h)).happened ≡ (cycle begun).happened
lands_as_begun h begun legal is =
    let aloft = subst (λ (o : Option State). HasBegun o (now_of h)) is (has_begun h legal) in
    sym (core_cycle (now_of h)) ∙ ap (λ (t : State). (cycle t).happened) aloft.same ∙ core_cycle begun
