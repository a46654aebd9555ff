-- An unload leaves nothing behind: a serial that is gone is told of no more.
use Rattle.std.proofs.Common.{◌≡◌, ℕ, zero, suc, ◌+◌, ◌<◌, Bool, true, false, List, [], ◌∷◌, map, Option, Some}
use Rattle.std.proofs.Common.{None, option_map, inl, inr, refl, sym, subst, ap, ◌∙◌, true≢false, arith}
use Rattle.std.specs.Prelude.{◌==◌, ◌&&◌, not, if◌then◌else◌, slice_get, remove, find, filter, filter_map, IfSome}
use Rattle.std.specs.List.{AllByRecursion, IsDistinct, Contains, list_any, cons_option}
use Rattle.std.specs.Option.{option_map_or}
use Rattle.std.proofs.lemmas.Bool.{or_from, or_parts, ne_eqb, false_from_ne_true}
use Rattle.std.proofs.lemmas.List.Folds.{list_any-append}
use Rattle.std.proofs.lemmas.Option.{slice_get-map, same_Some}
use Rattle.sequence.proofs.ListLemmas.{any_map}
use Rattle.cm_document.specs.Places.{Interface}
use Rattle.cm_document.specs.declared.call.Call.{Call}
use Rattle.cm_document.specs.declared.call.Call.TheVariants.{Unload}
use Rattle.cm_model.proofs.LoadedLemmas.{eqb-sym}
use Rattle.cm_model.proofs.StayLemmas.{IsStep}
use Rattle.cm_model.proofs.UpdateLemmas.{cycle_tells}
use Rattle.cm_model.specs.Components.{is_listed}
use Rattle.cm_model.specs.Console.{slot_of, controller_in, controller_of, unload_refusals}
use Rattle.cm_model.specs.Console.{reply_on, unload_reply, where_done, without_slot}
use Rattle.cm_model.specs.Cycle.{active_order, is_due_now, is_held_off, updated_in, must_stop, stops, cycle}
use Rattle.cm_model.specs.Machine.{LegalFrom, reply_of, effect}
use Rattle.cm_storage.specs.Ran.{Ran}
use Rattle.cm_model.specs.Serials.{serials_of, IsNumbered}
use Rattle.cm_model.specs.Sound.{moments, mentions, IsGone, is_done, IfUnload, UnloadsLeaveNothing}
use Rattle.cm_model.specs.State.{State, Loaded, is_active, owner, claims_name, controller_line, interface_lines_from}
use Rattle.cm_model.specs.Values.{InterfaceValue}
use Rattle.cm_model.specs.declared.entry.Entry.{Entry}
use Rattle.cm_model.specs.declared.lines.CtlLine.{CtlLine}
use Rattle.cm_model.specs.declared.lines.IfaceLine.{IfaceLine}
use Rattle.cm_model.specs.declared.reply.Reply.{Reply}
use Rattle.cm_model.specs.declared.reply.Reply.TheVariants as reply
use Rattle.cm_model.specs.declared.reply.Why.TheVariants as why
use Rattle.switch_plan.proofs.ElementLemmas.{map_some, some_of, any_from, found, filter_back}
use Rattle.sound_laws.proofs.ActiveLemmas.{from_active_order}
use Rattle.sound_laws.proofs.MomentLemmas.{moment_of, legal_step, along}
use Rattle.sound_laws.proofs.ReplyLemmas.{of_reply}
use Rattle.sound_laws.proofs.SerialLemmas.{serials_remove, AreRenumbered, renumbered_numbered, effect_renumbered}

-- ---- A serial that is gone

-- It was given, and no loaded controller has it.
record IsAbsent (n : ℕ) (s : State) : Type 0 where
  absent : is_listed (serials_of s.loaded) n ≡ false
  given : n < s.loads

remove_less : (ns : List ℕ) (i n : ℕ) → is_listed ns n ≡ false → is_listed (remove ns i) n ≡ false
remove_less [] zero n none = refl
remove_less [] (suc i) n none = refl
remove_less (m ∷ ms) zero n none = (or_parts (m == n) (is_listed ms n) none).1
remove_less (m ∷ ms) (suc i) n none =
    let parts = or_parts (m == n) (is_listed ms n) none in
    or_from (m == n) (is_listed (remove ms i) n) parts.0 (remove_less ms i n parts.1)

-- it stays so
stays_absent : (n : ℕ) (s t : State) → AreRenumbered s t → IsAbsent n s → IsAbsent n t
stays_absent n s t (inl (loads, serials)) gone = record { absent = rw serials gone.absent; given = rw loads gone.given }
stays_absent n s t (inr (inl (loads, serials))) gone =
    let below : n < s.loads = gone.given in
    let other : (s.loads == n) ≡ false = ne_eqb s.loads n (λ (e : s.loads ≡ n). omega (arith, below, e)) in
    record {
      absent = rw serials
          (list_any-append (λ m. m == n) (serials_of s.loaded) (s.loads ∷ [])
          ∙ or_from (is_listed (serials_of s.loaded) n) (is_listed (s.loads ∷ []) n) gone.absent
          (or_from (s.loads == n) false other refl));
      given = rw loads (omega (arith, below));
    }
stays_absent n s t (inr (inr (i, loads, serials))) gone =
    record { absent = rw serials (remove_less (serials_of s.loaded) i n gone.absent); given = rw loads gone.given }

-- one that is removed is gone, since no other has its serial
removed_gone : (ns : List ℕ) (i n : ℕ) → IsDistinct (λ m n. m == n) ns → slice_get ns i ≡ Some n
    → is_listed (remove ns i) n ≡ false
unfolding IsDistinct
removed_gone [] i n once at = cc
removed_gone (m ∷ ms) zero n once at =
    let same : m ≡ n = same_Some m n at in
    none_other n ms (subst (λ k. AllByRecursion (λ j. (k == j) ≡ false) ms) same once.0)
  where
    none_other : (n : ℕ) (ms : List ℕ) → AllByRecursion (λ j. (n == j) ≡ false) ms → is_listed ms n ≡ false
    none_other n [] others = refl
    none_other n (j ∷ js) others = or_from (j == n) (is_listed js n) (eqb-sym j n ∙ others.0) (none_other n js others.1)
removed_gone (m ∷ ms) (suc i) n once at =
    or_from (m == n) (is_listed (remove ms i) n) (not_at ms i n once.0 at) (removed_gone ms i n once.1 at)
  where
    not_at : (ms : List ℕ) (i n : ℕ) → AllByRecursion (λ j. (m == j) ≡ false) ms → slice_get ms i ≡ Some n
        → (m == n) ≡ false
    not_at [] i n others at = cc
    not_at (j ∷ js) zero n others at = subst (λ k. (m == k) ≡ false) (same_Some j n at) others.0
    not_at (j ∷ js) (suc i) n others at = not_at js i n others.1 at

-- ---- What replies mention

module _ (n : ℕ) (s : State) (gone : IsAbsent n s) where
  -- a loaded controller has another
  other_serial : (l : Loaded) → Contains s.loaded l → (l.serial == n) ≡ false
  other_serial l inside =
      false_from_ne_true (l.serial == n) (λ same.
      true≢false (sym
      (any_map (λ m. m == n) (λ (k : Loaded). k.serial) s.loaded
      ∙ any_from (λ (k : Loaded). k.serial == n) s.loaded l inside same) ∙ gone.absent))

  none_listed : (ls : List Loaded) → ((l : Loaded) → Contains ls l → Contains s.loaded l)
      → is_listed (serials_of ls) n ≡ false
  none_listed ls within =
      false_from_ne_true (is_listed (serials_of ls) n) (λ listed.
      let r = some_of (λ (l : Loaded). l.serial == n) ls
      (sym (any_map (λ m. m == n) (λ (l : Loaded). l.serial) ls) ∙ listed) in
      true≢false (sym r.2 ∙ other_serial r.0 (within r.0 r.1)))

  -- the list of controllers
  with_line : (o : Option CtlLine) (rest : List CtlLine)
      → ((line : CtlLine) → o ≡ Some line → (line.serial == n) ≡ false)
      → list_any (λ (line : CtlLine). line.serial == n) rest ≡ false
      → list_any (λ (line : CtlLine). line.serial == n) (cons_option o rest) ≡ false
  with_line None rest other none = none
  with_line (Some line) rest other none =
      or_from (line.serial == n) (list_any (λ (line : CtlLine). line.serial == n) rest) (other line refl) none

  no_line : (ls : List Loaded) → is_listed (serials_of ls) n ≡ false
      → list_any (λ (line : CtlLine). line.serial == n) (filter_map (controller_line s) ls) ≡ false
  no_line [] none = refl
  no_line (l ∷ ls) none =
      let parts = or_parts (l.serial == n) (is_listed (serials_of ls) n) none in
      with_line (controller_line s l) (filter_map (controller_line s) ls)
      (λ line told. let c = map_some _ (slice_get s.description.controllers l.place) line told in
      ap (λ (k : CtlLine). k.serial == n) (sym c.2) ∙ parts.0)
      (no_line ls parts.1)

  -- the list of interfaces
  of_owner : (command : Bool) (o : Option Loaded) → ((l : Loaded) → o ≡ Some l → (l.serial == n) ≡ false)
      → option_map_or (λ owner. owner == n) (if command then option_map (λ (l : Loaded). l.serial) o else None) false
      ≡ false
  of_owner true None other = refl
  of_owner true (Some l) other = other l refl
  of_owner false o other = refl

  no_owner : (interface : Interface) → option_map_or (λ owner. owner == n) (owner s interface) false ≡ false
  no_owner interface =
      let owns : Loaded
      → Bool = λ (l : Loaded). is_active l && claims_name s.description.controllers interface.called.name l in
      of_owner interface.called.is_command (find owns s.loaded) (λ l at. other_serial l (found owns s.loaded l at).0)

  no_interface : (place : ℕ) (vs : List InterfaceValue)
      → list_any (λ (line : IfaceLine). option_map_or (λ owner. owner == n) line.owner false)
      (interface_lines_from s place vs) ≡ false
  no_interface place [] = refl
  no_interface place (v ∷ vs) =
      or_from (option_map_or (λ owner. owner == n) (owner s v.interface) false)
      (list_any (λ (line : IfaceLine). option_map_or (λ owner. owner == n) line.owner false)
      (interface_lines_from s (place + 1) vs)) (no_owner v.interface) (no_interface (place + 1) vs)

  -- the record of a cycle
  no_stop : (ran : List Ran) → is_listed (stops s ran) n ≡ false
  no_stop ran =
      none_listed (filter (λ (l : Loaded). must_stop s ran l.place) (active_order s)) (λ l inside.
      (from_active_order s l (filter_back (λ (l : Loaded). must_stop s ran l.place) (active_order s) l inside).0).0)

  no_run : is_listed (map (λ (r : Ran). r.serial) (cycle s).happened.ran) n ≡ false
  no_run =
      ap (λ ns. is_listed ns n) (cycle_tells s)
      ∙ none_listed (updated_in s) (λ l inside.
      (from_active_order s l
      (filter_back (λ (l : Loaded). is_due_now s l && not (is_held_off s l)) (active_order s) l inside).0).0)

  no_cycle : mentions n (reply.Cycle (cycle s).happened) ≡ false
  unfolding cycle
  no_cycle = or_from (is_listed (map (λ (r : Ran). r.serial) (cycle s).happened.ran) n)
      (is_listed (cycle s).happened.stops n) no_run (no_stop (cycle s).happened.ran)

  -- No reply mentions it, but the one that gives it.
  silent : (call : Call) (r : Reply) → reply_of s call ≡ Some r → mentions n r ≡ false
  silent call r told = of_reply s (λ r. mentions n r ≡ false) call (record {
    refused = λ reason. refl;
    done = refl;
    serial = refl;
    controllers = no_line s.loaded gone.absent;
    interfaces = no_interface 0 s.values;
    components = refl;
    decisions = λ decides decisions. refl;
    queued = refl;
    became = λ became. refl;
    cycle = no_cycle;
  }) r told

-- ---- Histories

-- one that is gone is mentioned no more
gone_from : (n : ℕ) (s : State) (history : List Entry) → IsAbsent n s → LegalFrom s history
    → IsGone (moments s history) n
gone_from n s history gone legal =
    along (IsAbsent n) (λ moment. mentions n moment.reply ≡ false)
    (λ s call made gone is. subst (IsAbsent n) (sym is.next)
    (stays_absent n s (effect s call made.1) (effect_renumbered s call made.1) gone))
    (λ s call made gone is. silent n s gone call made.1 is.replied) s history gone legal

-- ---- Unloads

unload_done_of : (active : Bool) → is_done (if active then reply.Not why.Active else reply.Done) ≡ not active
unload_done_of true = refl
unload_done_of false = refl

unload_done : (o : Option Loaded)
    → is_done (reply_on unload_refusals o) ≡ option_map_or (λ l. not (is_active l)) o false
unload_done None = refl
unload_done (Some l) = unload_done_of (is_active l)

done_only : (r : Reply) → is_done r ≡ true → r ≡ reply.Done
done_only reply.Done is = refl
done_only _ is = absurd (true≢false (sym is))

given_at : (loads : ℕ) (ns : List ℕ) (i n : ℕ) → AllByRecursion (λ m. m < loads) ns → slice_get ns i ≡ Some n
    → n < loads
given_at loads [] i n below at = cc
given_at loads (m ∷ ms) zero n below at = subst (λ k. k < loads) (same_Some m n at) below.0
given_at loads (m ∷ ms) (suc i) n below at = given_at loads ms i n below.1 at

-- the serial of what was unloaded is gone
unloaded_gone : (s : State) → IsNumbered s → (l : Loaded) (slot : Option ℕ) → controller_in s slot ≡ Some l
    → IsAbsent l.serial (without_slot s slot)
unloaded_gone s numbered l None at = cc
unloaded_gone s numbered l (Some i) at =
    let here : slice_get (serials_of s.loaded) i ≡ Some l.serial =
    slice_get-map (λ (k : Loaded). k.serial) s.loaded i ∙ ap (option_map (λ (k : Loaded). k.serial)) at in
    record {
      absent = ap (λ ns. is_listed ns l.serial) (serials_remove s.loaded i)
          ∙ removed_gone (serials_of s.loaded) i l.serial numbered.once here;
      given = given_at s.loads (serials_of s.loaded) i l.serial numbered.below here;
    }

module _ (s : State) (numbered : IsNumbered s) (made : State × Reply) (es : List Entry) (legal : LegalFrom made.0 es)
  where
    gone_after : (name : List ℕ) → IsStep s (Unload name) made → is_done made.1 ≡ true → (o : Option Loaded)
        → controller_of s name ≡ o
        → IfSome o (λ l. IsGone (moments made.0 es) l.serial)
    gone_after name is done None at = tt
    gone_after name is done (Some l) at =
        let left : without_slot s (slot_of s name) ≡ made.0 =
        sym (is.next ∙ ap (λ r. where_done r (without_slot s (slot_of s name)) s) (done_only made.1 done)) in
        gone_from l.serial made.0 es (subst (IsAbsent l.serial) left (unloaded_gone s numbered l (slot_of s name) at))
        legal

    unload_right : (call : Call) → IsStep s call made → IfUnload (moment_of s call made) call (moments made.0 es)
    unload_right (Unload name) is = record {
      done = ap is_done (sym (same_Some (unload_reply s name) made.1 is.replied)) ∙ unload_done (controller_of s name);
      gone = λ done. gone_after name is done (controller_of s name) refl;
    }
    unload_right _ is = tt

-- An unload leaves nothing behind, along each legal history.
pub unloads_from : (s : State) (history : List Entry) → IsNumbered s → LegalFrom s history
    → UnloadsLeaveNothing (moments s history)
unloads_from s [] numbered legal = tt
unloads_from s (e ∷ es) numbered legal =
    let first = legal_step s e es legal in
    let after : IsNumbered first.made.0 =
    subst IsNumbered (sym first.is.next)
    (renumbered_numbered s (effect s e.call first.made.1) (effect_renumbered s e.call first.made.1) numbered) in
    subst UnloadsLeaveNothing (sym first.are)
    (unload_right s numbered first.made es first.later e.call first.is, unloads_from first.made.0 es after first.later)
