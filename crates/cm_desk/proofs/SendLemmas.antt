-- When mail is sent: what its refusals look at.
use Rattle.std.proofs.Common.{◌≡◌, ℕ, Bool, true, false, List, [], ◌∷◌, Option, Some, None, refl, sym, ap, subst, ◌∙◌}
use Rattle.std.specs.Prelude.{not, is_some, slice_get, IfSome}
use Rattle.std.specs.Option.{option_map_or}
use Rattle.std.proofs.lemmas.Option.{get_or_from_slice_get}
use Rattle.std.proofs.lemmas.Bool.{not-false}
use Rattle.cm_document.specs.declared.call.Mail.{Mail}
use Rattle.cm_document.specs.declared.description.CtlDesc.{CtlDesc}
use Rattle.cm_document.specs.declared.description.Params.{Params}
use Rattle.cm_model.specs.Console.{unless_refused, description_of, send_refusals, reply_on}
use Rattle.cm_model.specs.Kinds.{takes, takes_none}
use Rattle.cm_model.specs.Order.{controller_at, nobody}
use Rattle.cm_model.specs.Scene.{is_chained_in}
use Rattle.cm_model.specs.State.{State, Loaded, is_active, active, is_chained}
use Rattle.cm_model.specs.Steady.{IsSteady, IsOwn}
use Rattle.cm_model.specs.declared.reply.Reply.TheVariants as reply
use Rattle.cm_model.specs.declared.reply.Why.{Why}
use Rattle.cm_model.specs.declared.reply.Why.TheVariants as why
use Rattle.cm_model.proofs.SteadyLemmas.{not_first}
use Rattle.ctl_trait.specs.Taking.{CanTake}
use Rattle.cm_desk.specs.Works.{active_reply}
use Rattle.cm_slots.proofs.FitLemmas.{sent_fits}
use Rattle.request_plan.proofs.SituationLemmas.{chained_among}
use Rattle.sequence.proofs.ListLemmas.{all_at}

-- ---- Parameters

own_from : (o : Option Params) (p : Params) → is_some o ≡ true → IfSome o (λ params. params ≡ p) → o ≡ Some p
own_from None p some own = cc
own_from (Some q) p some own = ap Some own

-- an active controller has the described parameters
pub own_params : (s : State) (i : ℕ) (l : Loaded) (c : CtlDesc) → IsSteady s → slice_get s.loaded i ≡ Some l
    → is_active l ≡ true → slice_get s.description.controllers l.place ≡ Some c
    → l.ctl.params ≡ Some c.params
own_params s i l c steady there runs described =
    let own = all_at (IsOwn s.description.controllers) s.loaded i l steady.in_order.own there in
    let is : controller_at s.description.controllers l.place ≡ c =
    get_or_from_slice_get s.description.controllers l.place c nobody described in
    own_from l.ctl.params c.params (own.configured runs)
    (subst (λ (d : CtlDesc). IfSome l.ctl.params (λ params. params ≡ d.params)) is own.described)

-- ---- Refusals

rest_after : (applies : Bool) (reason : Why) (others : List (Bool × Why))
    → unless_refused ((applies, reason) ∷ others) reply.Done ≡ reply.Done
    → (applies ≡ false) × (unless_refused others reply.Done ≡ reply.Done)
rest_after applies reason others done =
    let none = not_first applies reason others done in
    (none, subst (λ b. unless_refused ((b, reason) ∷ others) reply.Done ≡ reply.Done) none done)

-- what was not refused fits
pub allowed_fits : (s : State) (i : ℕ) (l : Loaded) (c : CtlDesc) (mail : Mail) → IsSteady s
    → slice_get s.loaded i ≡ Some l → slice_get s.description.controllers l.place ≡ Some c
    → reply_on (send_refusals s mail) (Some l) ≡ reply.Done → (is_active l ≡ true) × CanTake l.ctl mail
allowed_fits s i l c mail steady there described done =
    let last : List (Bool × Why) =
    (not (option_map_or (λ params. takes params mail) l.ctl.params false), why.WrongCount) ∷ [] in
    let others : List (Bool × Why) = (option_map_or takes_none l.ctl.params false, why.TakesNone) ∷ last in
    let first = rest_after (not (is_active l)) why.NotActive
    ((option_map_or (is_chained s) (description_of s l) false, why.Chained) ∷ others) done in
    let second = rest_after (option_map_or (is_chained s) (description_of s l) false) why.Chained others first.1 in
    let third = rest_after (option_map_or takes_none l.ctl.params false) why.TakesNone last second.1 in
    let fourth =
    rest_after (not (option_map_or (λ params. takes params mail) l.ctl.params false)) why.WrongCount [] third.1 in
    let runs : is_active l ≡ true = not-false (is_active l) first.0 in
    let free : is_chained s c ≡ false = subst (λ o. option_map_or (is_chained s) o false ≡ false) described second.0 in
    let unchained : is_chained_in s.description.controllers (active s) l.place ≡ false =
    sym (chained_among s.description.controllers s.loaded l.place)
    ∙ subst (λ d. is_chained s d ≡ false)
    (sym (get_or_from_slice_get s.description.controllers l.place c nobody described)) free in (
      runs,
      sent_fits s i l mail steady there runs unchained
          (not-false (option_map_or (λ params. takes params mail) l.ctl.params false) fourth.0),
    )

-- what is left to refuse of one that is active, by its description
pub refusal_is : (s : State) (i : ℕ) (l : Loaded) (c : CtlDesc) (mail : Mail) → IsSteady s
    → slice_get s.loaded i ≡ Some l → slice_get s.description.controllers l.place ≡ Some c → is_active l ≡ true
    → reply_on (send_refusals s mail) (slice_get s.loaded i)
    ≡ active_reply (is_chained s c) c.params mail
refusal_is s i l c mail steady there described runs =
    rw (there, runs, described, own_params s i l c steady there runs described) refl

-- so it is refused that is not active
pub refused_idle : (s : State) (i : ℕ) (l : Loaded) (mail : Mail) → slice_get s.loaded i ≡ Some l → is_active l ≡ false
    → reply_on (send_refusals s mail) (slice_get s.loaded i) ≡ reply.Not why.NotActive
refused_idle s i l mail there idle = rw (there, idle) refl
