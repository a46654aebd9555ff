-- Moments of a legal history: each is a step, and what each step keeps and says holds along it.
use Rattle.std.proofs.Common.{◌≡◌, Bool, true, false, List, [], ◌∷◌, Option, Some, None, refl, sym, ◌∙◌, subst, ap}
use Rattle.std.specs.Prelude.{if◌then◌else◌, option_map, IsSomeAnd}
use Rattle.std.specs.List.{AllByRecursion}
use Rattle.cm_document.specs.declared.call.Call.{Call}
use Rattle.cm_model.proofs.StayLemmas.{IsStep, step-IsStep}
use Rattle.cm_model.specs.Machine.{LegalFrom, is_enabled, reply_of, answered, step}
use Rattle.cm_model.specs.Sound.{Moment, moments}
use Rattle.cm_model.specs.State.{State}
use Rattle.cm_model.specs.declared.entry.Entry.{Entry}
use Rattle.cm_model.specs.declared.reply.Reply.{Reply}

-- the moment of a step
abbrev pub moment_of : State → Call → State × Reply → Moment
moment_of s call made = record { before = s; call = call; reply = made.1; after = made.0 }

-- The first entry of a legal history is a step that was enabled, and the others are legal from where it leads.
pub record IsLegalStep (s : State) (e : Entry) (es : List Entry) : Type 0 where
  pub made : State × Reply
  pub enabled : is_enabled s e.who e.call ≡ true
  pub is : IsStep s e.call made
  pub later : LegalFrom made.0 es
  pub are : moments s (e ∷ es) ≡ moment_of s e.call made ∷ moments made.0 es

-- what was made was enabled
was_enabled : (s : State) (call : Call) (made : State × Reply) (b : Bool)
    → (if b then option_map (answered s call) (reply_of s call) else None) ≡ Some made → b ≡ true
was_enabled s call made true stepped = refl
was_enabled s call made false stepped = cc

enabled_step : (s : State) (e : Entry) (made : State × Reply) → step s e.who e.call ≡ Some made
    → is_enabled s e.who e.call ≡ true
unfolding step
enabled_step s e made stepped = was_enabled s e.call made (is_enabled s e.who e.call) stepped

legal_at : (s : State) (e : Entry) (es : List Entry) (o : Option (State × Reply)) → step s e.who e.call ≡ o
    → IsSomeAnd o (λ made. (made.1 ≡ e.reply) × LegalFrom made.0 es)
    → IsLegalStep s e es
legal_at s e es None stepped legal = absurd legal
legal_at s e es (Some made) stepped legal = record {
  made = made;
  enabled = enabled_step s e made stepped;
  is = step-IsStep s e.who e.call made stepped;
  later = legal.1;
  are =
      ap (λ (o : Option (State × Reply)). elim o [
        | None ↦ []
        | Some reached ↦ record { before = s; call = e.call; reply = e.reply; after = reached.0 } ∷ moments reached.0 es
      ]) stepped
      ∙ ap (λ r. record { before = s; call = e.call; reply = r; after = made.0 } ∷ moments made.0 es) (sym legal.0);
}

pub legal_step : (s : State) (e : Entry) (es : List Entry) → LegalFrom s (e ∷ es) → IsLegalStep s e es
legal_step s e es legal = legal_at s e es (step s e.who e.call) refl legal

module _ (P : State → Type 0) (Q : Moment → Type 0)
    (keeps : (s : State) (call : Call) (made : State × Reply) → P s → IsStep s call made → P made.0)
    (says : (s : State) (call : Call) (made : State × Reply) → P s → IsStep s call made → Q (moment_of s call made))
  where
    -- What each step keeps and says holds of each moment of a legal history.
    pub along : (s : State) (history : List Entry) → P s → LegalFrom s history → AllByRecursion Q (moments s history)
    along s [] holds legal = tt
    along s (e ∷ es) holds legal =
        let first = legal_step s e es legal in
        subst (AllByRecursion Q) (sym first.are) (
          says s e.call first.made holds first.is,
          along first.made.0 es (keeps s e.call first.made holds first.is) first.later,
        )
