-- Conclusions one after the other, and what is told of them.
use Rattle.std.proofs.Common.{◌≡◌, ℕ, true, false, List, [], ◌∷◌, ◌++◌, length, map, drop, Option, Some}
use Rattle.std.proofs.Common.{None, refl, sym, subst, ap, ap₂, ◌∙◌, append_assoc, append-nil, arith}
use Rattle.std.specs.Prelude.{◌==◌}
use Rattle.std.proofs.lemmas.Bool.{eqb-true}
use Rattle.std.proofs.Math.Seq.{drop-append_seam}
use Rattle.cm_document.specs.declared.description.Description.{Description}
use Rattle.cm_model.specs.Boundary.{waiting, concluded, with_outcome, all_concluded, standing_in, after_fallbacks}
use Rattle.cm_model.specs.Boundary.{boundary, told_of_fallbacks, decisions_from, decisions_between}
use Rattle.cm_model.specs.Cycle.{members_in_order}
use Rattle.cm_model.specs.State.{State}
use Rattle.cm_model.specs.declared.cause.Decision.{Decision}
use Rattle.cm_model.specs.declared.cause.Outcome.{Outcome}
use Rattle.cm_model.specs.declared.request.Request.{Request}
use Rattle.sound_laws.proofs.BoundaryLemmas.{concluded_steady, outcome_steady, emptied_steady}
use Rattle.sound_laws.proofs.TicketLemmas.{concluded_keeps, standing_outcomes, waiting_stays}
use Rattle.request_plan.proofs.ActLemmas.{followed}
use Rattle.request_plan.specs.Acts.{IsConclusionOf, loaded_after, lives_after}
use Rattle.request_plan.specs.Plans.{AreConclusionsOf, AreConcluded, IsStandingIn, told_first, IsPlanOf, HaveStoodInBy}
use Rattle.request_plan.specs.Situations.{IsSeenOf}
use Rattle.request_plan.specs.declared.acts.Conclusion.{Conclusion}
use Rattle.request_plan.specs.declared.plans.Plan.{Plan}
use Rattle.request_plan.specs.declared.situation.Situation.{Situation}

-- ---- On the way

-- After some of the requests: the state that they left, what is seen of it, and how what is concluded of the others
-- goes on.
pub record IsOnTheWay (s : State) (asked : List Request) (so_far : List Conclusion) (rest : List Request)
    (d : Description) (situation : Situation) : Type 0 where
  pub now : State
  pub seen : IsSeenOf now d situation
  pub goes_on : (later : List Conclusion) → AreConclusionsOf now rest later → AreConclusionsOf s asked (so_far ++ later)
  pub ends : all_concluded now rest ≡ all_concluded s asked

pub begun : (s : State) (asked : List Request) (none : List Conclusion) (d : Description) (situation : Situation)
    → none ≡ [] → IsSeenOf s d situation → IsOnTheWay s asked none asked d situation
begun s asked none d situation empty seen = record {
  now = s;
  seen = seen;
  goes_on = λ later each. subst (λ (cs : List Conclusion). AreConclusionsOf s asked (cs ++ later)) (sym empty) each;
  ends = refl;
}

-- one more is concluded
pub one_more : (s : State) (asked : List Request) (so_far more : List Conclusion) (r : Request) (rest : List Request)
    (d : Description) (situation new : Situation) (c : Conclusion)
    → IsOnTheWay s asked so_far (r ∷ rest) d situation → ((t : State) → IsSeenOf t d situation → IsConclusionOf t r c)
    → new.loaded.items ≡ loaded_after c.act situation.loaded.items
    → new.lives.items ≡ lives_after c.act situation.lives.items → more ≡ so_far ++ c ∷ []
    → IsOnTheWay s asked more rest d new
unfolding all_concluded
one_more s asked so_far more r rest d situation new c way concludes loaded lives pushed =
    let of = concludes way.now way.seen in
    let steady = concluded_steady way.now r way.seen.steady in
    let seen = followed way.now d situation new way.seen (concluded way.now r).state c.act of.act steady loaded lives in
    record {
      now = with_outcome (concluded way.now r);
      seen = record { steady = outcome_steady (concluded way.now r) steady; once = seen.once; scene = seen.scene };
      goes_on = λ later each.
          subst (AreConclusionsOf s asked) (append_assoc' so_far c later ∙ ap (λ cs. cs ++ later) (sym pushed))
          (way.goes_on (c ∷ later) (of, each));
      ends = way.ends;
    }
  where
    append_assoc' : (xs : List Conclusion) (x : Conclusion) (ys : List Conclusion) → xs ++ x ∷ ys ≡ (xs ++ x ∷ []) ++ ys
    append_assoc' xs x ys = sym (append_assoc xs (x ∷ []) ys)

-- all are concluded
pub ended : (s : State) (asked : List Request) (all : List Conclusion) (d : Description) (situation : Situation)
    → IsOnTheWay s asked all [] d situation → AreConcluded s asked all d situation
unfolding all_concluded
ended s asked all d situation way = record {
  each = subst (AreConclusionsOf s asked) (append-nil all) (way.goes_on [] tt);
  seen = subst (λ t. IsSeenOf t d situation) way.ends way.seen;
}

-- ---- What is told

-- the outcomes are those from before, and those that are concluded
pub outcomes_after : (s : State) (asked : List Request) (cs : List Conclusion) → AreConclusionsOf s asked cs
    → (all_concluded s asked).outcomes ≡ s.outcomes ++ map (λ c. c.outcome) cs
unfolding all_concluded
outcomes_after s [] [] each = sym (append-nil s.outcomes)
outcomes_after s [] (c ∷ cs) each = absurd each
outcomes_after s (r ∷ rs) [] each = absurd each
outcomes_after s (r ∷ rs) (c ∷ cs) each =
    outcomes_after (with_outcome (concluded s r)) rs cs each.1
    ∙ ap (λ (os : List Outcome). os ++ map (λ (c : Conclusion). c.outcome) cs)
    (ap₂ (λ (os : List Outcome) o. os ++ o ∷ []) (concluded_keeps s r) (sym each.0.outcome))
    ∙ append_assoc s.outcomes (c.outcome ∷ []) (map (λ (c : Conclusion). c.outcome) cs)

-- so what was decided is told of them
pub told_after : (s : State) (asked : List Request) (cs : List Conclusion) → AreConclusionsOf s asked cs
    → decisions_from (length s.outcomes) (map (λ c. c.outcome) cs) ≡ decisions_between s (all_concluded s asked)
told_after s asked cs each =
    let later : List Outcome = map (λ (c : Conclusion). c.outcome) cs in
    ap (decisions_from (length s.outcomes))
    (sym (ap (drop (length s.outcomes)) (outcomes_after s asked cs each) ∙ drop-append_seam s.outcomes later))

-- ---- Those that stand in

-- where nobody is to, nothing is concluded
pub nobody_stands : (s : State) (names : List (List ℕ)) (d : Description) (situation : Situation)
    → (length names == 0) ≡ true → IsSeenOf s d situation → HaveStoodInBy s names None d situation
nobody_stands s [] d situation none seen = record { first = tt; seen = seen }
nobody_stands s (name ∷ names) d situation none seen =
    let none_there : length (name ∷ names) ≡ 0 = eqb-true (length (name ∷ names)) 0 none in
    absurd (omega (arith, none_there))

-- else they are concluded first, in a state in which nobody is to stand in any more
pub somebody_stands : (s : State) (names : List (List ℕ)) (d : Description) (situation new : Situation) (c : Conclusion)
    → (length names == 0) ≡ false
    → ((t : State) → IsSeenOf t d situation → IsConclusionOf t (standing_in names) c)
    → new.loaded.items ≡ loaded_after c.act situation.loaded.items
    → new.lives.items ≡ lives_after c.act situation.lives.items
    → IsSeenOf s d situation → HaveStoodInBy s names (Some c) d new
somebody_stands s [] d situation new c some concludes loaded lives seen = cc
somebody_stands s (name ∷ names) d situation new c some concludes loaded lives seen =
    let t = record s { fallbacks = [] } in
    let before : IsSeenOf t d situation =
    record { steady = emptied_steady s seen.steady; once = seen.once; scene = seen.scene } in
    let of = concludes t before in
    let steady = concluded_steady t (standing_in (name ∷ names)) before.steady in
    record {
      first = of;
      seen =
          followed t d situation new before (concluded t (standing_in (name ∷ names))).state c.act of.act steady loaded
          lives;
    }

-- and so it is told of them
told_of : (s : State) (names : List (List ℕ)) (first : Option Conclusion) → IsStandingIn s names first
    → told_first first ≡ told_of_fallbacks s names
told_of s [] None is = refl
told_of s [] (Some c) is = absurd is
told_of s (name ∷ names) None is = absurd is
told_of s (name ∷ names) (Some c) is = ap (λ (o : Outcome). record { ticket = None; outcome = o } ∷ []) is.outcome

-- ---- The whole plan

pub plan_is : (s : State) (plan : Plan) (d : Description) (between last : Situation)
    → HaveStoodInBy s s.fallbacks plan.first d between
    → AreConcluded (after_fallbacks s) (waiting s) plan.conclusions.items d last
    → plan.order.items ≡ members_in_order (all_concluded (after_fallbacks s) (waiting s))
    → plan.decisions
    ≡ told_first plan.first ++ decisions_from (length s.outcomes) (map (λ c. c.outcome) plan.conclusions.items)
    → IsPlanOf s plan
plan_is s plan d between last stood concluded order decisions =
    let same = waiting_stays s in
    let made = subst (λ (rs : List Request). AreConclusionsOf (after_fallbacks s) rs plan.conclusions.items) (sym same)
    concluded.each in
    let outcomes = standing_outcomes s s.fallbacks in
    let later : List Outcome = map (λ (c : Conclusion). c.outcome) plan.conclusions.items in
    record {
      first = stood.first;
      conclusions = made;
      order = order ∙ ap (λ (rs : List Request). members_in_order (all_concluded (after_fallbacks s) rs)) (sym same);
      decisions = decisions
          ∙ ap₂ (λ (first later : List Decision). first ++ later) (told_of s s.fallbacks plan.first stood.first)
          (ap (λ (os : List Outcome). decisions_from (length os) later) (sym outcomes)
          ∙ told_after (after_fallbacks s) (waiting (after_fallbacks s)) plan.conclusions.items made
          ∙ ap (λ (os : List Outcome). decisions_from (length os) (drop (length os) (boundary s).outcomes)) outcomes);
    }
