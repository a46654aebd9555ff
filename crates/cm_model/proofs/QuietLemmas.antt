-- Where nobody asked for anything or is to stand in, and no controller is active, a begin puts a cycle aloft, the close
-- closes, and neither decides anything.
use Rattle.std.proofs.Common.{◌≡◌, true, false, List, [], ◌∷◌, ◌++◌, map, append-nil, refl, sym, ap, ap₂, ◌∙◌}
use Rattle.std.specs.Prelude.{filter_map}
use Rattle.std.specs.List.{AllByRecursion}
use Rattle.cm_model.specs.Boundary.{waiting, all_concluded, boundary, decisions_between}
use Rattle.cm_model.specs.Boundary.{begin_effect, begin_reply, close_effect, close_reply}
use Rattle.cm_model.specs.Cycle.{mail_off, without_mail_off, begun}
use Rattle.cm_model.specs.State.{State, Loaded, MailAloft, is_active, IsStill}
use Rattle.cm_model.specs.declared.cause.Outcome.{Outcome}
use Rattle.cm_model.specs.declared.cause.Outcome.TheVariants as outcome
use Rattle.cm_model.specs.declared.reply.Reply.TheVariants as reply

no_mail_goes : (s : State) (ls : List Loaded) → AllByRecursion (λ (l : Loaded). is_active l ≡ false) ls
    → filter_map (mail_off s) ls ≡ []
no_mail_goes s [] still = refl
no_mail_goes s (l ∷ ls) still = rw still.0 (no_mail_goes s ls still.1)

mail_stays : (s : State) (ls : List Loaded) → AllByRecursion (λ (l : Loaded). is_active l ≡ false) ls
    → map (without_mail_off s) ls ≡ ls
mail_stays s [] still = refl
mail_stays s (l ∷ ls) still = rw still.0 (ap (λ later. l ∷ later) (mail_stays s ls still.1))

module _ (s : State) (none : s.requests ≡ []) (undecided : s.outcomes ≡ []) (nobody : s.fallbacks ≡ []) where
  nothing_waits : waiting s ≡ []
  nothing_waits = rw (none, undecided) refl

  boundary_stays : boundary s ≡ s
  unfolding all_concluded
  boundary_stays = rw nobody (rw nothing_waits refl)

  -- an idle begin puts a cycle aloft
  pub quiet_begin : IsStill s → s.mails ≡ [] → begin_effect s ≡ record s { aloft = true }
  quiet_begin still no_mail =
      ap (λ (t : State). begun t) boundary_stays
      ∙ ap₂ (λ (loaded : List Loaded) (mails : List MailAloft). record s
      { loaded = loaded; aloft = true; mails = mails })
      (mail_stays s s.loaded still) (no_mail_goes s s.loaded still ∙ sym no_mail)

  -- and decides nothing
  pub quiet_begin_reply : begin_reply s ≡ reply.Decisions []
  quiet_begin_reply = rw (boundary_stays, nobody, undecided) refl

  -- the close closes
  pub quiet_close : close_effect s ≡ record s { closed = true }
  quiet_close =
      ap (λ (outcomes : List Outcome). record s { outcomes = outcomes; closed = true })
      (ap (λ waits. s.outcomes ++ map (λ r. outcome.LoopEnded) waits) nothing_waits ∙ append-nil s.outcomes)

  -- and decides nothing either
  pub quiet_close_reply : close_reply s ≡ reply.Decisions []
  quiet_close_reply = ap (λ (t : State). reply.Decisions (decisions_between s t)) quiet_close ∙ rw undecided refl
