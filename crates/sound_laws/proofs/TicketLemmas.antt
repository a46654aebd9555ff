-- Each ticket is decided once, and told so.
use Rattle.std.proofs.Common.{◌≡◌, ℕ, zero, suc, ◌+◌, true, false, List, [], ◌∷◌, ◌++◌, length, drop, map, cond}
use Rattle.std.proofs.Common.{Option, Some, None, refl, sym, ◌∙◌, ap, ap₂, append_assoc, append-nil, arith}
use Rattle.std.specs.Prelude.{◌==◌, find, option_map, slice_get}
use Rattle.std.proofs.lemmas.Bool.{eq-eqb, ne_eqb}
use Rattle.cm_model.proofs.WaitingLemmas.{standing-requests}
use Rattle.cm_model.specs.Boundary.{waiting, standing_in, after_standing_in, after_fallbacks, told_of_fallbacks}
use Rattle.cm_model.specs.Boundary.{with_switch, component_place, move_fault, with_move_unless, with_move, Concluded}
use Rattle.cm_model.specs.Boundary.{concluded, with_outcome, all_concluded, boundary, decisions_from, decisions_between}
use Rattle.cm_model.specs.Boundary.{begin_effect, begin_reply, close_effect, close_reply, told_reply}
use Rattle.cm_document.specs.declared.life.Life.{Life}
use Rattle.cm_model.specs.BestEffort.{decided}
use Rattle.cm_model.specs.Commit.{scene_of, commit}
use Rattle.cm_model.specs.Sound.{decisions_in, ticketed, outcomes_in, is_of_ticket, outcome_of}
use Rattle.cm_model.specs.State.{State}
use Rattle.cm_model.specs.Switches.{Decided, refused, done}
use Rattle.cm_model.specs.declared.cause.Cause.{Cause}
use Rattle.cm_model.specs.declared.cause.Decision.{Decision}
use Rattle.cm_model.specs.declared.cause.Outcome.{Outcome}
use Rattle.cm_model.specs.declared.cause.Outcome.TheVariants as outcome
use Rattle.cm_model.specs.declared.reply.Reply.TheVariants as reply
use Rattle.cm_model.specs.declared.request.Request.{Request}
use Rattle.cm_model.specs.declared.request.Request.TheVariants as request

-- ---- Outcomes that were told before

-- a request changes none
switch_keeps : (s : State) (d : Decided) → (with_switch s d).state.outcomes ≡ s.outcomes
unfolding commit
switch_keeps s (refused d) = refl
switch_keeps s (done dropped set again) = refl

move_keeps : (s : State) (name : List ℕ) (component : ℕ) (target : Life) (o : Option Cause)
    → (with_move_unless s name component target o).state.outcomes ≡ s.outcomes
move_keeps s name component target None = refl
move_keeps s name component target (Some c) = refl

place_keeps : (s : State) (name : List ℕ) (target : Life) (o : Option ℕ)
    → (with_move s name target o).state.outcomes ≡ s.outcomes
place_keeps s name target None = refl
place_keeps s name target (Some component) = move_keeps s name component target (move_fault s component target)

pub concluded_keeps : (s : State) (r : Request) → (concluded s r).state.outcomes ≡ s.outcomes
concluded_keeps s (request.Switch r) = switch_keeps s (decided (scene_of s) r)
concluded_keeps s (request.Hardware component target) =
    place_keeps s component target (component_place s.description component)

-- what becomes of requests that are decided one after the other
abbrev pub outcomes_from : State → List Request → List Outcome
outcomes_from s [] = []
outcomes_from s (r ∷ rs) = (concluded s r).outcome ∷ outcomes_from (with_outcome (concluded s r)) rs

-- stands behind what became of those before
all_add : (s : State) (rs : List Request) → (all_concluded s rs).outcomes ≡ s.outcomes ++ outcomes_from s rs
unfolding all_concluded
all_add s [] = sym (append-nil s.outcomes)
all_add s (r ∷ rs) =
    let made : Concluded = concluded s r in
    all_add (with_outcome made) rs
    ∙ ap (λ (os : List Outcome). (os ++ made.outcome ∷ []) ++ outcomes_from (with_outcome made) rs)
    (concluded_keeps s r)
    ∙ append_assoc s.outcomes (made.outcome ∷ []) (outcomes_from (with_outcome made) rs)

-- ---- By ticket

decisions_append : (n : ℕ) (xs ys : List Outcome)
    → decisions_from n (xs ++ ys) ≡ decisions_from n xs ++ decisions_from (n + length xs) ys
decisions_append n [] ys = let same : n ≡ n + 0 = omega arith in ap (λ k. decisions_from k ys) same
decisions_append n (x ∷ xs) ys =
    let next : (n + 1) + length xs ≡ n + suc (length xs) = omega arith in
    let first : Decision = record { ticket = Some n; outcome = x } in
    ap (λ (ds : List Decision). first ∷ ds)
    (decisions_append (n + 1) xs ys ∙ ap (λ k. decisions_from (n + 1) xs ++ decisions_from k ys) next)

drop_before : (xs ys : List Outcome) → drop (length xs) (xs ++ ys) ≡ ys
drop_before [] ys = refl
drop_before (x ∷ xs) ys = drop_before xs ys

-- what was told before, with what is told on the way, is told of all
told_between : (before after : State) (told : List Outcome) → after.outcomes ≡ before.outcomes ++ told
    → decisions_from 0 before.outcomes ++ decisions_between before after ≡ decisions_from 0 after.outcomes
told_between before after told is =
    let first : 0 + length before.outcomes ≡ length before.outcomes = omega arith in
    ap (λ (os : List Outcome). decisions_from 0 before.outcomes
    ++ decisions_from (length before.outcomes) (drop (length before.outcomes) os)) is
    ∙ ap (λ (os : List Outcome). decisions_from 0 before.outcomes ++ decisions_from (length before.outcomes) os)
    (drop_before before.outcomes told)
    ∙ sym (ap (λ k. decisions_from 0 before.outcomes ++ decisions_from k told) first)
    ∙ sym (decisions_append 0 before.outcomes told) ∙ sym (ap (decisions_from 0) is)

-- ---- Those that stand in

-- they change no outcome,
pub standing_outcomes : (s : State) (names : List (List ℕ)) → (after_standing_in s names).outcomes ≡ s.outcomes
standing_outcomes s [] = refl
standing_outcomes s (name ∷ names) = concluded_keeps (record s { fallbacks = [] }) (standing_in (name ∷ names))

-- so the same requests wait behind them
pub waiting_stays : (s : State) → waiting (after_fallbacks s) ≡ waiting s
waiting_stays s =
    ap₂ (λ (os : List Outcome) (rs : List Request). drop (length os) rs) (standing_outcomes s s.fallbacks)
    (standing-requests s s.fallbacks)

-- the outcomes of a begin stand behind those before it
begin_adds : (s : State)
    → (boundary s).outcomes ≡ s.outcomes ++ outcomes_from (after_fallbacks s) (waiting (after_fallbacks s))
begin_adds s =
    all_add (after_fallbacks s) (waiting (after_fallbacks s))
    ∙ ap (λ (os : List Outcome). os ++ outcomes_from (after_fallbacks s) (waiting (after_fallbacks s)))
    (standing_outcomes s s.fallbacks)

-- outcomes by ticket have all a ticket
pub all_ticketed : (n : ℕ) (os : List Outcome) → ticketed (decisions_from n os) ≡ decisions_from n os
all_ticketed n [] = refl
all_ticketed n (o ∷ os) =
    let first : Decision = record { ticket = Some n; outcome = o } in
    ap (λ (ds : List Decision). first ∷ ds) (all_ticketed (n + 1) os)

-- and what is told of those that stand in has none
none_ticketed : (s : State) (names : List (List ℕ)) (ds : List Decision)
    → ticketed (told_of_fallbacks s names ++ ds) ≡ ticketed ds
none_ticketed s [] ds = refl
none_ticketed s (name ∷ names) ds = refl

pub between_ticketed : (before after : State)
    → ticketed (decisions_between before after) ≡ decisions_between before after
between_ticketed before after = all_ticketed (length before.outcomes) (drop (length before.outcomes) after.outcomes)

begin_ticketed : (s : State) → ticketed (decisions_in (begin_reply s)) ≡ decisions_between s (boundary s)
begin_ticketed s = none_ticketed s s.fallbacks (decisions_between s (boundary s)) ∙ between_ticketed s (boundary s)

-- A begin tells of each ticket that it decides, and so does the close.
pub begin_tells : (s : State)
    → decisions_from 0 s.outcomes ++ ticketed (decisions_in (begin_reply s))
    ≡ decisions_from 0 (begin_effect s).outcomes
begin_tells s =
    ap (λ (ds : List Decision). decisions_from 0 s.outcomes ++ ds) (begin_ticketed s)
    ∙ told_between s (boundary s) (outcomes_from (after_fallbacks s) (waiting (after_fallbacks s))) (begin_adds s)

pub close_tells : (s : State)
    → decisions_from 0 s.outcomes ++ ticketed (decisions_in (close_reply s))
    ≡ decisions_from 0 (close_effect s).outcomes
close_tells s =
    ap (λ (ds : List Decision). decisions_from 0 s.outcomes ++ ds) (between_ticketed s (close_effect s))
    ∙ told_between s (close_effect s) (map (λ r. outcome.LoopEnded) (waiting s)) refl

-- the outcomes that are told by ticket
told_outcomes : (n : ℕ) (os : List Outcome) → map (λ (d : Decision). d.outcome) (decisions_from n os) ≡ os
told_outcomes n [] = refl
told_outcomes n (o ∷ os) = ap (λ (rest : List Outcome). o ∷ rest) (told_outcomes (n + 1) os)

-- A begin tells what became of those that waited, in order.
pub begin_outcomes : (s : State)
    → outcomes_in (begin_reply s) ≡ outcomes_from (after_fallbacks s) (waiting (after_fallbacks s))
begin_outcomes s =
    let told = outcomes_from (after_fallbacks s) (waiting (after_fallbacks s)) in
    ap (map (λ (d : Decision). d.outcome)) (begin_ticketed s)
    ∙ ap (λ (os : List Outcome). map (λ (d : Decision). d.outcome)
    (decisions_from (length s.outcomes) (drop (length s.outcomes) os))) (begin_adds s)
    ∙ ap (λ (os : List Outcome). map (λ (d : Decision). d.outcome) (decisions_from (length s.outcomes) os))
    (drop_before s.outcomes told)
    ∙ told_outcomes (length s.outcomes) told

-- ---- Who asks

found_first : (ticket n : ℕ) (o : Outcome) (rest : Option Decision) → (n == ticket) ≡ true
    → option_map (λ (d : Decision). d.outcome)
    (cond (n == ticket) (Some (record { ticket = Some n; outcome = o })) rest) ≡ Some o
found_first ticket n o rest same = rw same refl

found_later : (ticket n : ℕ) (o : Outcome) (rest : Option Decision) → (n == ticket) ≡ false
    → option_map (λ (d : Decision). d.outcome)
    (cond (n == ticket) (Some (record { ticket = Some n; outcome = o })) rest)
    ≡ option_map (λ (d : Decision). d.outcome) rest
found_later ticket n o rest other = rw other refl

told_from : (n : ℕ) (os : List Outcome) (k ticket : ℕ) → n + k ≡ ticket
    → outcome_of (decisions_from n os) ticket ≡ slice_get os k
told_from n [] k ticket is = refl
told_from n (o ∷ os) zero ticket is =
    found_first ticket n o (find (is_of_ticket ticket) (decisions_from (n + 1) os))
    (eq-eqb n ticket (omega (arith, is)))
told_from n (o ∷ os) (suc k) ticket is =
    found_later ticket n o (find (is_of_ticket ticket) (decisions_from (n + 1) os))
    (ne_eqb n ticket (λ (e : n ≡ ticket). omega (arith, is, e)))
    ∙ told_from (n + 1) os k ticket (omega (arith, is))

-- Who asks for a ticket is told what was told of it.
pub told_rightly : (s : State) (ticket : ℕ)
    → option_map (λ o. reply.Outcome o) (outcome_of (decisions_from 0 s.outcomes) ticket) ≡ told_reply s ticket
told_rightly s ticket =
    let first : 0 + ticket ≡ ticket = omega arith in
    ap (option_map (λ o. reply.Outcome o)) (told_from 0 s.outcomes ticket ticket first)
