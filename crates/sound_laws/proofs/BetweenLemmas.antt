-- From a begin to its end one configuration holds: what the calls between change is no part of the core.
use Rattle.std.proofs.Common.{◌≡◌, ℕ, zero, suc, Bool, true, false, List, [], ◌∷◌, ◌++◌, map, slice_set}
use Rattle.std.proofs.Common.{cond, Option, Some, None, option_map, refl, sym, ◌∙◌, subst, ap, true≢false}
use Rattle.std.specs.Prelude.{not, ◌==◌, ◌&&◌, nat_lt, filter, slice_get, remove, is_some, IfSome}
use Rattle.std.specs.Option.{option_map_or}
use Rattle.std.proofs.lemmas.Option.{none-some, same_Some}
use Rattle.cm_document.specs.declared.call.Call.{Call}
use Rattle.cm_document.specs.declared.call.Call.TheVariants.{Load, Configure, Cleanup, Unload, Rate}
use Rattle.cm_document.specs.declared.call.Call.TheVariants.{Send, Switch, Hardware, Begin, End, Close}
use Rattle.cm_document.specs.declared.description.CtlDesc.{CtlDesc}
use Rattle.cm_model.proofs.StayLemmas.{effect-SameLoop, IsStep}
use Rattle.cm_model.proofs.SteadyLemmas.{not_first, idle_inactive}
use Rattle.cm_model.specs.Boundary.{request_effect}
use Rattle.cm_model.specs.Console.{unless_refused, place_of, slot_of, controller_in, controller_of}
use Rattle.cm_model.specs.Console.{description_of, is_inactive, configure_refusals, cleanup_refusals}
use Rattle.cm_model.specs.Console.{unload_refusals, reply_on, configure_reply, cleanup_reply, unload_reply}
use Rattle.cm_model.specs.Console.{configured_with, after_configure, after_cleanup, after_rate, after_send}
use Rattle.cm_model.specs.Console.{where_done, with_slot, with_changed, without_slot}
use Rattle.cm_model.specs.Cycle.{cycle}
use Rattle.cm_model.specs.Kinds.{is_refused}
use Rattle.cm_model.specs.Machine.{is_loop, is_enabled, LegalFrom, reply_of}
use Rattle.cm_model.specs.Machine.{with_controller, with_loaded, load_effect, effect}
use Rattle.cm_model.specs.Sessions.{IsConsole}
use Rattle.cm_model.specs.Sound.{moments, configuration, is_done, IsAsBegun, aloft_after, OneConfigurationFrom}
use Rattle.cm_model.specs.State.{State, Loaded, is_active, newly_loaded}
use Rattle.cm_model.specs.declared.entry.Entry.{Entry}
use Rattle.cm_model.specs.declared.request.Request.{Request}
use Rattle.cm_model.specs.declared.request.Request.TheVariants as request
use Rattle.cm_model.specs.declared.reply.Reply.{Reply}
use Rattle.cm_model.specs.declared.reply.Reply.TheVariants as reply
use Rattle.cm_model.specs.declared.reply.Why.{Why}
use Rattle.cm_model.specs.declared.reply.Why.TheVariants as why
use Rattle.sound_laws.proofs.MomentLemmas.{moment_of, legal_step}
use Rattle.sound_laws.proofs.CoreLemmas.{core_configuration, core_cycle}
use Rattle.sound_laws.specs.Core.{bare, running_ones, core}

-- ---- Lists

-- the first of a list, where it is active, before those of the others
running_first : (l : Loaded) (ls : List Loaded) → running_ones (l ∷ ls) ≡ running_ones (l ∷ []) ++ running_ones ls
running_first l ls = one (is_active l)
  where
    one : (b : Bool)
        → map bare (cond b (l ∷ filter is_active ls) (filter is_active ls))
        ≡ map bare (cond b (l ∷ []) []) ++ map bare (filter is_active ls)
    one true = refl
    one false = refl

same_bare : (l new : Loaded) → is_active new ≡ is_active l → bare new ≡ bare l
    → running_ones (new ∷ []) ≡ running_ones (l ∷ [])
same_bare l new runs same = one (is_active new) (is_active l) runs
  where
    one : (now was : Bool) → now ≡ was → map bare (cond now (new ∷ []) []) ≡ map bare (cond was (l ∷ []) [])
    one true was e = ap (λ first. first ∷ []) same ∙ ap (λ (b : Bool). map bare (cond b (l ∷ []) [])) e
    one false was e = ap (λ (b : Bool). map bare (cond b (l ∷ []) [])) e

idle_none : (l : Loaded) → is_active l ≡ false → running_ones (l ∷ []) ≡ []
idle_none l idle = ap (λ (b : Bool). map bare (cond b (l ∷ []) [])) idle

running_set : (ls : List Loaded) (i : ℕ) (l new : Loaded) → slice_get ls i ≡ Some l
    → running_ones (new ∷ []) ≡ running_ones (l ∷ []) → running_ones (slice_set ls i new) ≡ running_ones ls
running_set [] i l new at same = absurd (none-some l at)
running_set (m ∷ ms) zero l new at same =
    running_first new ms
    ∙ ap (λ xs. xs ++ running_ones ms) (same ∙ ap (λ (k : Loaded). running_ones (k ∷ [])) (sym (same_Some m l at)))
    ∙ sym (running_first m ms)
running_set (m ∷ ms) (suc i) l new at same =
    running_first m (slice_set ms i new) ∙ ap (λ xs. running_ones (m ∷ []) ++ xs) (running_set ms i l new at same)
    ∙ sym (running_first m ms)

running_remove : (ls : List Loaded) (i : ℕ) (l : Loaded) → slice_get ls i ≡ Some l → is_active l ≡ false
    → running_ones (remove ls i) ≡ running_ones ls
running_remove [] i l at idle = absurd (none-some l at)
running_remove (m ∷ ms) zero l at idle =
    sym (running_first m ms
    ∙ ap (λ xs. xs ++ running_ones ms)
    (idle_none m (subst (λ (k : Loaded). is_active k ≡ false) (sym (same_Some m l at)) idle)))
running_remove (m ∷ ms) (suc i) l at idle =
    running_first m (remove ms i) ∙ ap (λ xs. running_ones (m ∷ []) ++ xs) (running_remove ms i l at idle)
    ∙ sym (running_first m ms)

running_push : (ls : List Loaded) (l : Loaded) → is_active l ≡ false → running_ones (ls ++ l ∷ []) ≡ running_ones ls
running_push [] l idle = idle_none l idle
running_push (m ∷ ms) l idle =
    running_first m (ms ++ l ∷ []) ∙ ap (λ xs. running_ones (m ∷ []) ++ xs) (running_push ms l idle)
    ∙ sym (running_first m ms)

-- ---- What was done

-- of a controller on which a call was done
done_on : (refusals : Loaded → List (Bool × Why)) (P : Loaded → Type 0)
    → ((l : Loaded) → unless_refused (refusals l) reply.Done ≡ reply.Done → P l)
    → (o : Option Loaded) (l : Loaded) → o ≡ Some l → reply_on refusals o ≡ reply.Done → P l
done_on refusals P says None l at done = absurd (none-some l at)
done_on refusals P says (Some m) l at done = subst P (same_Some m l at) (says m done)

-- ---- The core stays

-- where one controller is changed so that what runs of it stays
slot_core : (s : State) (i : ℕ) (change : Loaded → Loaded) (o : Option Loaded) → slice_get s.loaded i ≡ o
    → ((l : Loaded) → o ≡ Some l → running_ones (change l ∷ []) ≡ running_ones (l ∷ []))
    → core (with_slot s i (option_map change o)) ≡ core s
slot_core s i change None at same = refl
slot_core s i change (Some l) at same =
    ap (λ ls. record (core s) { loaded = ls }) (running_set s.loaded i l (change l) at (same l refl))

changed_core : (s : State) (slot : Option ℕ) (change : Loaded → Loaded)
    → ((l : Loaded) → controller_in s slot ≡ Some l → running_ones (change l ∷ []) ≡ running_ones (l ∷ []))
    → core (with_changed change s slot) ≡ core s
changed_core s None change same = refl
changed_core s (Some i) change same = slot_core s i change (slice_get s.loaded i) refl same

removed_core : (s : State) (slot : Option ℕ) (o : Option Loaded) → controller_in s slot ≡ o
    → ((l : Loaded) → o ≡ Some l → is_active l ≡ false)
    → (is_some o ≡ true) → core (without_slot s slot) ≡ core s
removed_core s None o at idle some = refl
removed_core s (Some i) None at idle some = absurd (true≢false (sym some))
removed_core s (Some i) (Some l) at idle some =
    ap (λ ls. record (core s) { loaded = ls }) (running_remove s.loaded i l at (idle l refl))

with_controller_core : (s : State) (place : ℕ) (o : Option CtlDesc) → core (with_controller s place o) ≡ core s
with_controller_core s place None = refl
with_controller_core s place (Some c) =
    ap (λ ls. record (core s) { loaded = ls }) (running_push s.loaded (newly_loaded s.loads place c) refl)

loaded_core : (s : State) (place : Option ℕ) → core (with_loaded s place) ≡ core s
loaded_core s None = refl
loaded_core s (Some place) = with_controller_core s place (slice_get s.description.controllers place)

load_core : (s : State) (name : List ℕ) (r : Reply) → core (load_effect s name r) ≡ core s
load_core s name (reply.Serial serial) = loaded_core s (place_of s name)
load_core s name _ = refl

where_done_core : (s after : State) (r : Reply) → (r ≡ reply.Done → core after ≡ core s)
    → core (where_done r after s) ≡ core s
where_done_core s after reply.Done same = same refl
where_done_core s after _ same = refl

configured_idle : (s : State) (l : Loaded) (o : Option CtlDesc) → is_active l ≡ false
    → is_active (configured_with s l o) ≡ false
configured_idle s l None idle = idle
configured_idle s l (Some c) idle = refl

-- a controller that was idle and is so runs as little
both_idle : (l new : Loaded) → is_active l ≡ false → is_active new ≡ false
    → running_ones (new ∷ []) ≡ running_ones (l ∷ [])
both_idle l new was is = idle_none new is ∙ sym (idle_none l was)

reply_some : (refusals : Loaded → List (Bool × Why)) (o : Option Loaded) → reply_on refusals o ≡ reply.Done
    → is_some o ≡ true
reply_some refusals None done = absurd (true≢false (sym (ap is_done done)))
reply_some refusals (Some l) done = refl

module _ (s : State) (name : List ℕ) where
  configure_core : configure_reply s name ≡ reply.Done
      → core (with_changed (after_configure s) s (slot_of s name)) ≡ core s
  configure_core done =
      changed_core s (slot_of s name) (after_configure s) (λ l at.
      let idle : is_active l ≡ false =
      done_on (configure_refusals s) (λ m. is_active m ≡ false)
      (λ m free. not_first (is_active m) why.Active
      ((option_map_or (λ c. is_refused c.params) (description_of s m) false, why.Refused) ∷ []) free)
      (controller_of s name) l at done in
      both_idle l (after_configure s l) idle (configured_idle s l (description_of s l) idle))

  cleanup_core : cleanup_reply s name ≡ reply.Done → core (with_changed after_cleanup s (slot_of s name)) ≡ core s
  cleanup_core done =
      changed_core s (slot_of s name) after_cleanup (λ l at.
      let idle : is_active l ≡ false =
      done_on cleanup_refusals (λ m. is_active m ≡ false)
      (λ m free. idle_inactive (is_some m.ctl.params) (is_active m)
      (not_first (not (is_inactive m)) why.NotInactive [] free)) (controller_of s name) l at done in
      both_idle l (after_cleanup l) idle refl)

  unload_core : unload_reply s name ≡ reply.Done → core (without_slot s (slot_of s name)) ≡ core s
  unload_core done =
      removed_core s (slot_of s name) (controller_of s name) refl
      (λ l at. done_on unload_refusals (λ m. is_active m ≡ false) (λ m free. not_first (is_active m) why.Active [] free)
      (controller_of s name) l at done)
      (reply_some unload_refusals (controller_of s name) done)

request_core : (s : State) (asked : Request) (r : Reply) → core (request_effect s asked r) ≡ core s
request_core s asked (reply.Queued _) = refl
request_core s asked _ = refl

effect_core : (s : State) (call : Call) (r : Reply) → IsConsole call → reply_of s call ≡ Some r
    → core (effect s call r) ≡ core s
effect_core s (Load name) r between told = load_core s name r
effect_core s (Configure name) r between told =
    where_done_core s _ r (λ done. configure_core s name (same_Some (configure_reply s name) r told ∙ done))
effect_core s (Cleanup name) r between told =
    where_done_core s _ r (λ done. cleanup_core s name (same_Some (cleanup_reply s name) r told ∙ done))
effect_core s (Unload name) r between told =
    where_done_core s _ r (λ done. unload_core s name (same_Some (unload_reply s name) r told ∙ done))
effect_core s (Rate name hz) r between told =
    where_done_core s _ r
    (λ done. changed_core s (slot_of s name) (after_rate hz) (λ l at. same_bare l (after_rate hz l) refl refl))
effect_core s (Send name mail) r between told =
    where_done_core s _ r
    (λ done. changed_core s (slot_of s name) (after_send mail) (λ l at. same_bare l (after_send mail l) refl refl))
effect_core s (Switch asked) r between told = request_core s (request.Switch asked) r
effect_core s (Hardware component target) r between told = request_core s (request.Hardware component target) r
effect_core s (Begin _) r between told = absurd between
effect_core s (End _) r between told = absurd between
effect_core s Close r between told = absurd between
effect_core s _ r between told = refl

-- ---- Histories

-- A cycle is aloft, and the state has the core of the one that its begin left.
pub record IsAloft (s begun : State) : Type 0 where
  pub aloft : s.aloft ≡ true
  pub same : core s ≡ core begun

abbrev pub HasBegun : Option State → State → Type 0
HasBegun begun s = IfSome begun (λ b. IsAloft s b)

same_configuration : (s b : State) → core s ≡ core b → configuration s ≡ configuration b
same_configuration s b same = sym (core_configuration s) ∙ ap configuration same ∙ core_configuration b

same_cycle : (s b : State) → core s ≡ core b → (cycle s).happened ≡ (cycle b).happened
same_cycle s b same = sym (core_cycle s) ∙ ap (λ t. (cycle t).happened) same ∙ core_cycle b

-- no cycle begins while one is aloft, and the loop does not close
none_begins : (loop aloft closed ended more : Bool) → aloft ≡ true
    → (loop && (((not aloft && not closed) && ended) && more)) ≡ true → ⊥
none_begins true true closed ended more aloft enabled = true≢false (sym enabled)
none_begins false true closed ended more aloft enabled = true≢false (sym enabled)
none_begins loop false closed ended more aloft enabled = true≢false (sym aloft)

none_closes : (loop aloft closed : Bool) → aloft ≡ true → (loop && (not aloft && not closed)) ≡ true → ⊥
none_closes true true closed aloft enabled = true≢false (sym enabled)
none_closes false true closed aloft enabled = true≢false (sym enabled)
none_closes loop false closed aloft enabled = true≢false (sym aloft)

module _ (s : State) (who : ℕ) (made : State × Reply) where
  -- a console call leaves the cycle aloft, with its core
  stays_aloft : (begun : State) → IsAloft s begun → (call : Call) → IsConsole call → IsStep s call made
      → IsAloft made.0 begun
  stays_aloft begun before call between is = record {
    aloft = ap (λ (t : State). t.aloft) is.next ∙ (effect-SameLoop s call made.1 between).aloft ∙ before.aloft;
    same = ap core is.next ∙ effect_core s call made.1 between is.replied ∙ before.same;
  }

  between_begun : (begun : State) → IsAloft s begun → (call : Call) → IsConsole call → IsStep s call made
      → configuration made.0 ≡ configuration begun
  between_begun begun before call between is =
      same_configuration made.0 begun (stays_aloft begun before call between is).same

  as_begun : (begun : State) → IsAloft s begun → (call : Call) → IsStep s call made → is_enabled s who call ≡ true
      → IsAsBegun begun (moment_of s call made) call
  as_begun begun before (Begin number) is enabled =
      absurd (none_begins (is_loop s who) s.aloft s.closed (s.ended == number) (nat_lt number s.description.cycles)
      before.aloft enabled)
  as_begun begun before Close is enabled = absurd (none_closes (is_loop s who) s.aloft s.closed before.aloft enabled)
  as_begun begun before (End number) is enabled =
      sym (same_Some (reply.Cycle (cycle s).happened) made.1 is.replied)
      ∙ ap (λ happened. reply.Cycle happened) (same_cycle s begun before.same)
  as_begun begun before call is enabled = between_begun begun before call tt is

  where_begun : (begun : Option State) → HasBegun begun s → (call : Call) → IsStep s call made
      → is_enabled s who call ≡ true
      → IfSome begun (λ b. IsAsBegun b (moment_of s call made) call)
  where_begun None before call is enabled = tt
  where_begun (Some b) before call is enabled = as_begun b before call is enabled

  -- a console call leaves what began
  on : (begun : Option State) → HasBegun begun s → (call : Call) → IsConsole call → IsStep s call made
      → HasBegun begun made.0
  on None before call between is = tt
  on (Some b) before call between is = stays_aloft b before call between is

  -- after a close nothing is aloft
  closes : (begun : Option State) → HasBegun begun s → is_enabled s who Close ≡ true → HasBegun begun made.0
  closes None before enabled = tt
  closes (Some b) before enabled = absurd (none_closes (is_loop s who) s.aloft s.closed before.aloft enabled)

  pub goes_on : (begun : Option State) → HasBegun begun s → (call : Call) → IsStep s call made
      → is_enabled s who call ≡ true → HasBegun (aloft_after begun (moment_of s call made) call) made.0
  goes_on begun before (Begin number) is enabled = record { aloft = ap (λ (t : State). t.aloft) is.next; same = refl }
  goes_on begun before (End number) is enabled = tt
  goes_on begun before Close is enabled = closes begun before enabled
  goes_on begun before call is enabled = on begun before call tt is

-- From a begin to its end one configuration holds, along each legal history.
pub configuration_from : (s : State) (begun : Option State) (history : List Entry) → HasBegun begun s
    → LegalFrom s history → OneConfigurationFrom begun (moments s history)
configuration_from s begun [] before legal = tt
configuration_from s begun (e ∷ es) before legal =
    let first = legal_step s e es legal in
    let later = aloft_after begun (moment_of s e.call first.made) e.call in
    subst (OneConfigurationFrom begun) (sym first.are) (
      where_begun s e.who first.made begun before e.call first.is first.enabled,
      configuration_from first.made.0 later es (goes_on s e.who first.made begun before e.call first.is first.enabled)
          first.later,
    )
