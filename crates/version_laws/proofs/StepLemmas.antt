-- In a state of another version each step is the same.
use Rattle.std.proofs.Common.{◌≡◌, ℕ, List, [], ◌∷◌, Option, Some, None, inl}
use Rattle.std.proofs.Common.{inr, Bool, true, false, refl, sym, ap, subst, ◌∙◌}
use Rattle.std.specs.Prelude.{◌↔◌, IsSomeAnd, option_map, slice_get, if◌then◌else◌}
use Rattle.cm_document.specs.declared.call.Call.{Call}
use Rattle.cm_document.specs.declared.description.CtlDesc.{CtlDesc}
use Rattle.cm_document.specs.declared.description.Description.{Description}
use Rattle.cm_model.specs.Console.{place_of}
use Rattle.cm_model.specs.Machine.{is_enabled, reply_of, with_controller, with_loaded}
use Rattle.cm_model.specs.Machine.{load_effect, effect, answered, step, LegalFrom, IsLegal}
use Rattle.cm_model.specs.State.{State, boot}
use Rattle.cm_model.specs.declared.blanks.Blanks.{Blanks}
use Rattle.cm_model.specs.declared.entry.Entry.{Entry}
use Rattle.cm_model.specs.declared.reply.Reply.{Reply}
use Rattle.cm_model.specs.declared.reply.Reply.TheVariants as reply
use Rattle.version_laws.specs.Versions.{of_version}
use Rattle.version_laws.proofs.AlikeLemmas as laws
use Rattle.version_laws.proofs.AlikeLemmas.{altered, load_or_none, leaves}

-- the state that is the same but for the version
abbrev pub state_of : ℕ → State → State
state_of v s = altered v s.blanks s

-- what a step made, but for the version
abbrev pub made_of : ℕ → State × Reply → State × Reply
made_of v made = (state_of v made.0, made.1)

-- ---- Loads

with_controller-same : (v : ℕ) (s : State) (place : ℕ) (o : Option CtlDesc)
    → with_controller (state_of v s) place o ≡ state_of v (with_controller s place o)
with_controller-same v s place None = refl
with_controller-same v s place (Some c) = refl

with_loaded-same : (v : ℕ) (s : State) (place : Option ℕ)
    → with_loaded (state_of v s) place ≡ state_of v (with_loaded s place)
with_loaded-same v s None = refl
with_loaded-same v s (Some place) = with_controller-same v s place (slice_get s.description.controllers place)

load_effect-same : (v : ℕ) (s : State) (name : List ℕ) (r : Reply)
    → load_effect (state_of v s) name r ≡ state_of v (load_effect s name r)
load_effect-same v s name (reply.Serial _) = with_loaded-same v s (place_of s name)
load_effect-same v s name _ = refl

-- ---- Steps

reply_of-same : (v : ℕ) (s : State) (call : Call) → reply_of (state_of v s) call ≡ reply_of s call
reply_of-same v s call = elim (load_or_none call) [
  | inl other ↦ laws.reply_of-same v s.blanks s call other
  | inr (name, is) ↦ subst (λ (asked : Call). reply_of (state_of v s) asked ≡ reply_of s asked) (sym is) refl
]

effect-same : (v : ℕ) (s : State) (call : Call) (r : Reply)
    → effect (state_of v s) call r ≡ state_of v (effect s call r)
effect-same v s call r = elim (load_or_none call) [
  | inl other ↦ (laws.effect-same v s.blanks s call r other
      ∙ ap (λ (blanks : Blanks). altered v blanks (effect s call r)) (sym (leaves s call r other).1))
  | inr (name, is) ↦ subst (λ (asked : Call). effect (state_of v s) asked r ≡ state_of v (effect s asked r)) (sym is)
      (load_effect-same v s name r)
]

-- the answer to a call, where it has one
answered-same : (v : ℕ) (s : State) (call : Call) (o : Option Reply)
    → option_map (answered (state_of v s) call) o ≡ option_map (made_of v) (option_map (answered s call) o)
answered-same v s call None = refl
answered-same v s call (Some r) = ap (λ (after : State). Some (after, r)) (effect-same v s call r)

where_enabled : (v : ℕ) (s : State) (call : Call) (enabled : Bool)
    → (if enabled then option_map (answered (state_of v s) call) (reply_of (state_of v s) call) else None)
    ≡ option_map (made_of v) (if enabled then option_map (answered s call) (reply_of s call) else None)
where_enabled v s call true =
    ap (option_map (answered (state_of v s) call)) (reply_of-same v s call) ∙ answered-same v s call (reply_of s call)
where_enabled v s call false = refl

pub step-same : (v : ℕ) (s : State) (who : ℕ) (call : Call)
    → step (state_of v s) who call ≡ option_map (made_of v) (step s who call)
unfolding step
step-same v s who call =
    ap (λ (enabled : Bool). if enabled then option_map (answered (state_of v s) call) (reply_of (state_of v s) call)
    else None) (laws.is_enabled-same v s.blanks s who call)
    ∙ where_enabled v s call (is_enabled s who call)

-- ---- Legal histories

-- what is so of a step is so of it in a state of another version
goes_on : (v : ℕ) (o : Option (State × Reply)) (r : Reply) (P Q : State → Type 0)
    → ((s : State) → P s → Q (state_of v s))
    → IsSomeAnd o (λ made. (made.1 ≡ r) × P made.0)
    → IsSomeAnd (option_map (made_of v) o) (λ made. (made.1 ≡ r) × Q made.0)
goes_on v None r P Q later legal = absurd legal
goes_on v (Some made) r P Q later legal = (legal.0, later made.0 legal.1)

legal-same : (v : ℕ) (history : List Entry) (s : State) → LegalFrom s history → LegalFrom (state_of v s) history
legal-same v [] s legal = tt
legal-same v (e ∷ es) s legal =
    subst (λ (o : Option (State × Reply)). IsSomeAnd o (λ made. (made.1 ≡ e.reply) × LegalFrom made.0 es))
    (sym (step-same v s e.who e.call))
    (goes_on v (step s e.who e.call) e.reply (λ from. LegalFrom from es) (λ from. LegalFrom from es) (legal-same v es)
    legal)

-- a history is legal for one version exactly where it is for another
pub legal_in_each : (d : Description) (version : ℕ) (blanks : Blanks) (sessions : ℕ) (history : List Entry)
    → IsLegal d blanks sessions history ↔ IsLegal (of_version version d) blanks sessions history
legal_in_each d version blanks sessions history = (
  legal-same version history (boot d blanks sessions),
  legal-same d.version history (boot (of_version version d) blanks sessions),
)
