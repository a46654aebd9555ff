-- The plan for those that are to stand in, and for all requests that wait.
use Rattle.std.specs.Prelude.{◌≡◌, ℕ, List, [], ◌∷◌, ◌++◌, Option, Some, None}
use Rattle.cm_document.specs.declared.description.Description.{Description}
use Rattle.cm_model.specs.Boundary.{waiting, concluded, with_outcome, all_concluded, standing_in, after_standing_in}
use Rattle.cm_model.specs.Boundary.{after_fallbacks, boundary, told_of_fallbacks, decisions_between}
use Rattle.cm_model.specs.Cycle.{members_in_order}
use Rattle.cm_model.specs.State.{State}
use Rattle.cm_model.specs.declared.cause.Decision.{Decision}
use Rattle.cm_model.specs.declared.request.Request.{Request}
use Rattle.request_plan.specs.Acts.{IsConclusionOf}
use Rattle.request_plan.specs.Situations.{IsSeenOf}
use Rattle.request_plan.specs.declared.acts.Conclusion.{Conclusion}
use Rattle.request_plan.specs.declared.plans.Plan.{Plan}
use Rattle.request_plan.specs.declared.situation.Situation.{Situation}

-- These are concluded of requests, one after the other, each in the state that the one before it left.
abbrev pub AreConclusionsOf : State → List Request → List Conclusion → Type 0
AreConclusionsOf s [] [] = Unit {0}
AreConclusionsOf s [] (c ∷ cs) = ⊥
AreConclusionsOf s (asked ∷ later) [] = ⊥
AreConclusionsOf s (asked ∷ later) (c ∷ cs) =
    IsConclusionOf s asked c × AreConclusionsOf (with_outcome (concluded s asked)) later cs

-- This is concluded of those that are to stand in, in a state in which nobody is any more; nothing where nobody is.
abbrev pub IsStandingIn : State → List (List ℕ) → Option Conclusion → Type 0
IsStandingIn s [] None = Unit {0}
IsStandingIn s [] (Some c) = ⊥
IsStandingIn s (name ∷ names) None = ⊥
IsStandingIn s (name ∷ names) (Some c) =
    IsConclusionOf (record s { fallbacks = [] }) (standing_in (name ∷ names)) c

-- what is told of it: one decision, without a ticket
abbrev pub told_first : Option Conclusion → List Decision
told_first None = []
told_first (Some c) = record { ticket = None; outcome = c.outcome } ∷ []

-- This is planned for a begin in a state: what is concluded of those that are to stand in, and then of each request;
-- then the active controllers in the order of their updates, by serial and place; and what was decided.
pub record IsPlanOf (s : State) (plan : Plan) : Type 0 where
  pub first : IsStandingIn s s.fallbacks plan.first
  pub conclusions : AreConclusionsOf (after_fallbacks s) (waiting (after_fallbacks s)) plan.conclusions.items
  pub order : plan.order.items ≡ members_in_order (boundary s)
  pub decisions : plan.decisions ≡ told_of_fallbacks s s.fallbacks ++ decisions_between s (boundary s)

-- This is concluded of those that are to stand in, and this is seen of the state after it.
pub record HaveStoodInBy (s : State) (names : List (List ℕ)) (concluded_first : Option Conclusion) (d : Description)
    (situation : Situation) : Type 0 where
  pub first : IsStandingIn s names concluded_first
  pub seen : IsSeenOf (after_standing_in s names) d situation

-- These are concluded of requests in a state, and this is seen of the state after all of them.
pub record AreConcluded (s : State) (asked : List Request) (conclusions : List Conclusion) (d : Description)
    (situation : Situation) : Type 0 where
  pub each : AreConclusionsOf s asked conclusions
  pub seen : IsSeenOf (all_concluded s asked) d situation
