-- The console's calls on one loaded controller: to configure it, to clean it up, to unload it, to give it a rate, to
-- send it mail. Of each: what refuses it, in order, and what it does where nothing does.
use Rattle.std.specs.Prelude.{ℕ, ◌==◌, Bool, false, not, ◌&&◌, if◌then◌else◌, List, [], ◌∷◌, position, remove}
use Rattle.std.specs.Prelude.{slice_get, slice_set, Option, Some, None, option_map, is_some}
use Rattle.std.specs.Option.{option_map_or}
use Rattle.iface_names.specs.Names.{same_name}
use Rattle.cm_document.specs.declared.call.Mail.{Mail}
use Rattle.cm_document.specs.declared.description.CtlDesc.{CtlDesc}
use Rattle.cm_model.specs.Controllers.{configured, cleaned_up}
use Rattle.cm_model.specs.Kinds.{is_refused, takes, takes_none}
use Rattle.cm_model.specs.Order.{divisor}
use Rattle.cm_model.specs.State.{State, Loaded, is_active, is_chained}
use Rattle.cm_model.specs.declared.data.CtlData.{CtlData}
use Rattle.cm_model.specs.declared.reply.Reply.{Reply}
use Rattle.cm_model.specs.declared.reply.Reply.TheVariants as reply
use Rattle.cm_model.specs.declared.reply.Why.{Why}
use Rattle.cm_model.specs.declared.reply.Why.TheVariants as why

-- ---- Refusals

-- the first of these refusals that applies, else this reply
abbrev pub unless_refused : List (Bool × Why) → Reply → Reply
unless_refused [] r = r
unless_refused (refusal ∷ refusals) r = if refusal.0 then reply.Not refusal.1 else unless_refused refusals r

-- ---- The loaded controller of a name

-- the place of the described controller of this name
abbrev pub place_of : State → List ℕ → Option ℕ
place_of s name = position (λ c. same_name c.name name) s.description.controllers

-- where the controller that is described at this place stands among the loaded ones
abbrev pub slot_at : State → Option ℕ → Option ℕ
slot_at s None = None
slot_at s (Some place) = position (λ l. l.place == place) s.loaded

-- where the controller of this name stands among the loaded ones
abbrev pub slot_of : State → List ℕ → Option ℕ
slot_of s name = slot_at s (place_of s name)

-- the loaded controller that stands there
abbrev pub controller_in : State → Option ℕ → Option Loaded
controller_in s None = None
controller_in s (Some i) = slice_get s.loaded i

-- the loaded controller of this name
abbrev pub controller_of : State → List ℕ → Option Loaded
controller_of s name = controller_in s (slot_of s name)

-- the description of a loaded controller
abbrev pub description_of : State → Loaded → Option CtlDesc
description_of s l = slice_get s.description.controllers l.place

-- ---- What refuses a call, in order

-- it has parameters and does not run
abbrev pub is_inactive : Loaded → Bool
is_inactive l = is_some l.ctl.params && not (is_active l)

-- It is not configured while it is active, nor where its parameters refuse.
abbrev pub configure_refusals : State → Loaded → List (Bool × Why)
configure_refusals s l =
    (is_active l, why.Active)
    ∷ (option_map_or (λ c. is_refused c.params) (description_of s l) false, why.Refused)
    ∷ []

-- It is cleaned up only where it is inactive.
abbrev pub cleanup_refusals : Loaded → List (Bool × Why)
cleanup_refusals l = (not (is_inactive l), why.NotInactive) ∷ []

-- It is not unloaded while it is active.
abbrev pub unload_refusals : Loaded → List (Bool × Why)
unload_refusals l = (is_active l, why.Active) ∷ []

-- It is given no rate while it is active.
abbrev pub rate_refusals : Loaded → List (Bool × Why)
rate_refusals l = (is_active l, why.Active) ∷ []

-- It is sent mail only where it is active and not chained, and its parameters take such mail.
abbrev pub send_refusals : State → Mail → Loaded → List (Bool × Why)
send_refusals s mail l =
    (not (is_active l), why.NotActive)
    ∷ (option_map_or (is_chained s) (description_of s l) false, why.Chained)
    ∷ (option_map_or takes_none l.ctl.params false, why.TakesNone)
    ∷ (not (option_map_or (λ params. takes params mail) l.ctl.params false), why.WrongCount)
    ∷ []

-- ---- Replies

-- The reply of a call on a loaded controller that these refuse; where it is not loaded nothing else is asked.
abbrev pub reply_on : (Loaded → List (Bool × Why)) → Option Loaded → Reply
reply_on refusals None = reply.Not why.NotLoaded
reply_on refusals (Some l) = unless_refused (refusals l) reply.Done

-- the reply of each call
abbrev pub configure_reply : State → List ℕ → Reply
configure_reply s name = reply_on (configure_refusals s) (controller_of s name)

abbrev pub cleanup_reply : State → List ℕ → Reply
cleanup_reply s name = reply_on cleanup_refusals (controller_of s name)

abbrev pub unload_reply : State → List ℕ → Reply
unload_reply s name = reply_on unload_refusals (controller_of s name)

abbrev pub rate_reply : State → List ℕ → Reply
rate_reply s name = reply_on rate_refusals (controller_of s name)

abbrev pub send_reply : State → List ℕ → Mail → Reply
send_reply s name mail = reply_on (send_refusals s mail) (controller_of s name)

-- ---- What a call makes of the controller

-- It has these parameters in place of any others, and its divisor is fixed by its rate.
abbrev pub configured_with : State → Loaded → Option CtlDesc → Loaded
configured_with s l None = l
configured_with s l (Some c) = record l {
  ctl = configured l.ctl c.params;
  divisor = Some (divisor s.description.update_rate l.rate);
}

-- it has the described parameters
abbrev pub after_configure : State → Loaded → Loaded
after_configure s l = configured_with s l (description_of s l)

-- it has neither parameters nor divisor; its rate stays
abbrev pub after_cleanup : Loaded → Loaded
after_cleanup l = record l { ctl = cleaned_up l.ctl; divisor = None }

-- it has this rate, which counts when it is configured next
abbrev pub after_rate : ℕ → Loaded → Loaded
after_rate hz l = record l { rate = hz }

-- this mail waits for it, in place of any other
abbrev pub after_send : Mail → Loaded → Loaded
after_send mail l = record l { mail = Some mail }

-- ---- Effects

-- the state after a reply: this one where the call was done, else as before
abbrev pub where_done : Reply → State → State → State
where_done reply.Done after before = after
where_done _ after before = before

-- this controller stands there in place of the one that stood there
abbrev pub with_slot : State → ℕ → Option Loaded → State
with_slot s i None = s
with_slot s i (Some l) = record s { loaded = slice_set s.loaded i l }

-- the loaded controller that stands there is changed so
abbrev pub with_changed : (Loaded → Loaded) → State → Option ℕ → State
with_changed change s None = s
with_changed change s (Some i) = with_slot s i (option_map change (slice_get s.loaded i))

-- the one that stands there is not loaded any more; no blank comes back for it
abbrev pub without_slot : State → Option ℕ → State
without_slot s None = s
without_slot s (Some i) = record s { loaded = remove s.loaded i }

-- what each call that was answered so leaves
abbrev pub configure_effect : State → List ℕ → Reply → State
configure_effect s name r = where_done r (with_changed (after_configure s) s (slot_of s name)) s

abbrev pub cleanup_effect : State → List ℕ → Reply → State
cleanup_effect s name r = where_done r (with_changed after_cleanup s (slot_of s name)) s

abbrev pub unload_effect : State → List ℕ → Reply → State
unload_effect s name r = where_done r (without_slot s (slot_of s name)) s

abbrev pub rate_effect : State → List ℕ → ℕ → Reply → State
rate_effect s name hz r = where_done r (with_changed (after_rate hz) s (slot_of s name)) s

abbrev pub send_effect : State → List ℕ → Mail → Reply → State
send_effect s name mail r = where_done r (with_changed (after_send mail) s (slot_of s name)) s

-- The data of the box that moves out: an unload that was done gives out that of its controller, and nothing else gives
-- one out.
abbrev pub moves_out : State → List ℕ → Reply → Option CtlData
moves_out s name reply.Done = option_map (λ l. l.ctl) (controller_of s name)
moves_out s name _ = None
