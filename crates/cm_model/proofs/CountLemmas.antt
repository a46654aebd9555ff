-- What is counted in a history: along a legal one as many cycles have ended as it has ends, and each end is the loop's.
use Rattle.std.proofs.Common.{◌≡◌, ℕ, ◌+◌, ◌≤◌, Bool, true, false, List, [], ◌∷◌, ◌++◌, length, filter}
use Rattle.std.proofs.Common.{cond, refl, sym, ap, subst, ◌∙◌, length-append, le-add_right, arith}
use Rattle.std.specs.Prelude.{◌==◌, ◌&&◌}
use Rattle.std.proofs.Math.Nat.{zero-add}
use Rattle.std.proofs.lemmas.List.Elements.{filter-append}
use Rattle.std.proofs.lemmas.List.Sums.{sum_by-append}
use Rattle.cm_document.specs.declared.call.Call.{Call}
use Rattle.cm_document.specs.declared.call.Call.TheVariants.{Load, Configure, Cleanup, Unload, Rate}
use Rattle.cm_document.specs.declared.call.Call.TheVariants.{Send, Switch, Hardware, Begin, End}
use Rattle.cm_document.specs.declared.description.Description.{Description}
use Rattle.cm_model.specs.Commit.{commit}
use Rattle.cm_model.specs.Cycle.{after_cycle}
use Rattle.cm_model.specs.Histories.{is_end, ends_in, decided_in}
use Rattle.cm_model.specs.Machine.{can_end, is_enabled, effect, step, LegalFrom, IsLegal, state_after}
use Rattle.cm_model.specs.Sessions.{entries_by}
use Rattle.cm_model.specs.Sound.{decisions_in, ticketed}
use Rattle.cm_model.specs.State.{State, boot}
use Rattle.cm_model.specs.declared.blanks.Blanks.{Blanks}
use Rattle.cm_model.specs.declared.entry.Entry.{Entry}
use Rattle.cm_model.specs.declared.reply.Reply.{Reply}
use Rattle.cm_model.proofs.LegalLemmas.{step_of}
use Rattle.cm_model.proofs.StayLemmas.{effect-SameLoop, boundary-SameLoop, step-IsStep, step-Stands}
use Rattle.cm_model.proofs.WaitingLemmas.{step-enabled}

-- ---- Counts add up, and never fall

pub ends_append : (xs ys : List Entry) → ends_in (xs ++ ys) ≡ ends_in xs + ends_in ys
ends_append xs ys =
    ap length (filter-append (λ (e : Entry). is_end e.call) xs ys)
    ∙ length-append (filter (λ (e : Entry). is_end e.call) xs) (filter (λ (e : Entry). is_end e.call) ys)

pub decided_append : (xs ys : List Entry) → decided_in (xs ++ ys) ≡ decided_in xs + decided_in ys
decided_append xs ys = sum_by-append (λ (e : Entry). length (ticketed (decisions_in e.reply))) xs ys

pub ends_grow : (xs ys : List Entry) → ends_in xs ≤ ends_in (xs ++ ys)
ends_grow xs ys = subst (λ n. ends_in xs ≤ n) (sym (ends_append xs ys)) (le-add_right (ends_in xs) (ends_in ys))

pub decided_grow : (xs ys : List Entry) → decided_in xs ≤ decided_in (xs ++ ys)
decided_grow xs ys =
    subst (λ n. decided_in xs ≤ n) (sym (decided_append xs ys)) (le-add_right (decided_in xs) (decided_in ys))

-- ---- Ends

no_more : (n : ℕ) → n ≡ n + 0
no_more n = omega arith

-- what an entry adds to the ended cycles
effect-ended : (s : State) (who : ℕ) (call : Call) (r : Reply)
    → (effect s call r).ended ≡ s.ended + ends_in (record { who = who; call = call; reply = r } ∷ [])
unfolding after_cycle commit
effect-ended s who (Load name) r = (effect-SameLoop s (Load name) r tt).ended ∙ no_more s.ended
effect-ended s who (Configure name) r = (effect-SameLoop s (Configure name) r tt).ended ∙ no_more s.ended
effect-ended s who (Cleanup name) r = (effect-SameLoop s (Cleanup name) r tt).ended ∙ no_more s.ended
effect-ended s who (Unload name) r = (effect-SameLoop s (Unload name) r tt).ended ∙ no_more s.ended
effect-ended s who (Rate name hz) r = (effect-SameLoop s (Rate name hz) r tt).ended ∙ no_more s.ended
effect-ended s who (Send name mail) r = (effect-SameLoop s (Send name mail) r tt).ended ∙ no_more s.ended
effect-ended s who (Switch asked) r = (effect-SameLoop s (Switch asked) r tt).ended ∙ no_more s.ended
effect-ended s who (Hardware component target) r =
    (effect-SameLoop s (Hardware component target) r tt).ended ∙ no_more s.ended
effect-ended s who (Begin cycle) r = (boundary-SameLoop s).ended ∙ no_more s.ended
effect-ended s who (End cycle) r = refl
effect-ended s who _ r = no_more s.ended

sum_of : (a b c n m k : ℕ) → b ≡ a + n → c ≡ b + m → k ≡ n + m → c ≡ a + k
sum_of a b c n m k first rest all = omega (arith, first, rest, all)

-- In a legal history as many cycles have ended as ends were made, more than had ended before.
pub ended_after : (made : List Entry) (s : State) → LegalFrom s made
    → (state_after s made).ended ≡ s.ended + ends_in made
ended_after [] s legal = no_more s.ended
ended_after (e ∷ made) s legal =
    let first = step_of (step s e.who e.call) e.reply (λ each. LegalFrom each made) legal in
    let is = step-IsStep s e.who e.call (first.0, e.reply) first.1 in
    let one : first.0.ended ≡ s.ended + ends_in (e ∷ []) =
    ap (λ (t : State). t.ended) is.next ∙ effect-ended s e.who e.call e.reply in
    rw (first.1, state_after)
    (sum_of s.ended first.0.ended (state_after first.0 made).ended (ends_in (e ∷ [])) (ends_in made)
    (ends_in (e ∷ made)) one (ended_after made first.0 first.2) (ends_append (e ∷ []) made))

-- from boot on as many as were made
pub ended_from_boot : (d : Description) (blanks : Blanks) (sessions : ℕ) (made : List Entry)
    → IsLegal d blanks sessions made → (state_after (boot d blanks sessions) made).ended ≡ ends_in made
ended_from_boot d blanks sessions made legal = ended_after made (boot d blanks sessions) legal ∙ zero-add (ends_in made)

-- ---- Each end is the loop's

clash : (a b : Bool) → a ≡ false → (a && b) ≡ true → ⊥
clash false b is both = cc
clash true b is both = cc

-- who is not the loop ends no cycle
others_end_none : (s : State) (who : ℕ) (call : Call) → (who == s.sessions) ≡ false → is_enabled s who call ≡ true
    → is_end call ≡ false
others_end_none s who (End n) other enabled = absurd (clash (who == s.sessions) (can_end s n) other enabled)
others_end_none s who _ other enabled = refl

kept_ends : (b : Bool) (e : Entry) (some all : List Entry) → (b ≡ false → is_end e.call ≡ false)
    → ends_in some ≡ ends_in all → ends_in (cond b (e ∷ some) some) ≡ ends_in (e ∷ all)
kept_ends true e some all other same =
    ends_append (e ∷ []) some ∙ ap (λ n. ends_in (e ∷ []) + n) same ∙ sym (ends_append (e ∷ []) all)
kept_ends false e some all other same =
    same ∙ sym (ap
    (λ (b : Bool). length
    (cond b (e ∷ filter (λ (f : Entry). is_end f.call) all) (filter (λ (f : Entry). is_end f.call) all))) (other refl))

pub ends_are_the_loops : (made : List Entry) (s : State) (loop : ℕ) → s.sessions ≡ loop → LegalFrom s made
    → ends_in (entries_by loop made) ≡ ends_in made
ends_are_the_loops [] s loop is legal = refl
ends_are_the_loops (e ∷ made) s loop is legal =
    let first = step_of (step s e.who e.call) e.reply (λ each. LegalFrom each made) legal in
    let stands = step-Stands s e.who e.call (first.0, e.reply) first.1 in
    let enabled = step-enabled s e.who e.call (first.0, e.reply) first.1 in
    kept_ends (e.who == loop) e (entries_by loop made) made
    (λ other. others_end_none s e.who e.call (rw is other) enabled)
    (ends_are_the_loops made first.0 loop (stands.sessions ∙ is) first.2)
