-- What the calls keep that change at most one loaded controller, and no running part: a steady state stays steady.
use Rattle.std.proofs.Common.{◌≡◌, ℕ, zero, suc, ◌+◌, Bool, true, false, List, [], ◌∷◌, ◌++◌, map, slice_set}
use Rattle.std.proofs.Common.{Option, Some, None, option_map, refl, sym, subst, ap, ◌∙◌, true≢false}
use Rattle.std.specs.Prelude.{◌==◌, ◌&&◌, ◌||◌, not, if◌then◌else◌, slice_get, filter_map, remove, is_some}
use Rattle.std.specs.List.{list_any, AllByRecursion, IsDistinct}
use Rattle.std.specs.Option.{option_map_or}
use Rattle.std.proofs.lemmas.List.{map-append}
use Rattle.std.proofs.Math.Path.{fun_ext}
use Rattle.cm_document.proofs.DistinctLemmas.{all_of, all_so, all_map}
use Rattle.cm_document.specs.Params.{kind_of}
use Rattle.cm_document.specs.declared.call.Mail.{Mail}
use Rattle.cm_document.specs.declared.description.CtlDesc.{CtlDesc}
use Rattle.sequence.proofs.ListLemmas.{any_map, all_push, all_at, all_set}
use Rattle.cm_model.proofs.LoadedLemmas.{any_same}
use Rattle.std.proofs.lemmas.Option.{none-some, same_Some, get_or_from_slice_get}
use Rattle.std.proofs.lemmas.Bool.{or_parts}
use Rattle.cm_model.proofs.CommitLemmas.{none_marked, places_stay}
use Rattle.cm_model.specs.Boundary.{request_effect, close_effect}
use Rattle.cm_model.specs.Console.{unless_refused, place_of, slot_of, controller_in, controller_of, description_of}
use Rattle.cm_model.specs.Console.{is_inactive, cleanup_refusals, unload_refusals, reply_on, configure_reply}
use Rattle.cm_model.specs.Console.{cleanup_reply, unload_reply, configured_with, after_configure, after_cleanup}
use Rattle.cm_model.specs.Console.{after_rate, after_send, where_done, with_slot, with_changed, without_slot}
use Rattle.cm_model.specs.Console.{configure_effect, cleanup_effect, unload_effect, rate_effect, send_effect}
use Rattle.cm_model.specs.Cycle.{is_due_now, mail_off, without_mail_off, begun}
use Rattle.cm_model.specs.Kinds.{is_refused}
use Rattle.cm_model.specs.Machine.{is_loaded_at, is_sold_out_at, load_refusals}
use Rattle.cm_model.specs.Machine.{with_controller, with_loaded, load_effect}
use Rattle.cm_model.specs.Order.{Places, nobody}
use Rattle.cm_model.specs.Sound.{IsMarked, is_done}
use Rattle.cm_model.specs.Blanks.{with_one_less}
use Rattle.cm_model.specs.State.{State, Loaded, MailAloft, is_active, newly_loaded}
use Rattle.cm_model.specs.Steady.{has_loaded, IsOwn, IsSteady}
use Rattle.cm_model.specs.declared.blanks.Blanks.{Blanks}
use Rattle.cm_model.specs.declared.reply.Reply.{Reply}
use Rattle.cm_model.specs.declared.reply.Reply.TheVariants as reply
use Rattle.cm_model.specs.declared.reply.Why.{Why}
use Rattle.cm_model.specs.declared.reply.Why.TheVariants as why
use Rattle.cm_model.specs.declared.request.Request.{Request}

-- ---- Calls that leave the controllers, the components and the interfaces as they are

-- a request, in whatever way it was answered
pub request_steady : (s : State) (asked : Request) (answer : Reply) → IsSteady s
    → IsSteady (request_effect s asked answer)
request_steady s asked (reply.Queued ticket) steady = record { in_order = steady.in_order; together = steady.together }
request_steady s asked reply.Done steady = steady
request_steady s asked (reply.Serial _) steady = steady
request_steady s asked (reply.Not why) steady = steady
request_steady s asked (reply.Outcome became) steady = steady
request_steady s asked (reply.Controllers lines) steady = steady
request_steady s asked (reply.Interfaces lines) steady = steady
request_steady s asked (reply.Components lines) steady = steady
request_steady s asked (reply.Decisions decisions) steady = steady
request_steady s asked (reply.Cycle happened) steady = steady

-- the close
pub close_steady : (s : State) → IsSteady s → IsSteady (close_effect s)
close_steady s steady = record { in_order = steady.in_order; together = steady.together }

-- ---- One controller that is changed

-- what an item is mapped to stays where the new one is mapped to the same
map_set : {A B : Type 0} (f : A → B) (xs : List A) (i : ℕ) (x y : A) → slice_get xs i ≡ Some x → f y ≡ f x
    → map f (slice_set xs i y) ≡ map f xs
map_set f [] i x y at same = refl
map_set f (z ∷ zs) zero x y at same = rw (same, same_Some z x at) refl
map_set f (z ∷ zs) (suc i) x y at same = ap (λ ws. f z ∷ ws) (map_set f zs i x y at same)

-- a test of all stays where the new one passes it as the old one did
any_set : {A : Type 0} (test : A → Bool) (xs : List A) (i : ℕ) (x y : A) → slice_get xs i ≡ Some x → test y ≡ test x
    → list_any test (slice_set xs i y) ≡ list_any test xs
any_set test [] i x y at same = refl
any_set test (z ∷ zs) zero x y at same = rw (same, same_Some z x at) refl
any_set test (z ∷ zs) (suc i) x y at same = ap (λ b. test z || b) (any_set test zs i x y at same)

-- The controller stays at its place, active as it was, with its own parameters and marked as it was.
pub record KeepsPlace (controllers : List CtlDesc) (l new : Loaded) : Type 0 where
  pub place : new.place ≡ l.place
  pub active : is_active new ≡ is_active l
  pub own : IsOwn controllers l → IsOwn controllers new
  pub marked : (set : Places) → IsMarked controllers set l → IsMarked controllers set new

-- a steady state stays steady where one controller is changed so
pub slot_steady : (s : State) (i : ℕ) (l new : Loaded) → slice_get s.loaded i ≡ Some l
    → KeepsPlace s.description.controllers l new → IsSteady s
    → IsSteady (record s { loaded = slice_set s.loaded i new })
slot_steady s i l new at keeps steady =
    let kept = steady.in_order in
    let alike : has_loaded is_active (slice_set s.loaded i new) ≡ has_loaded is_active s.loaded =
    fun_ext (λ p. any_set (λ each. is_active each && each.place == p) s.loaded i l
    new at (rw (keeps.active, keeps.place) refl)) in
    record {
      in_order = record {
        once = rw (map_set (λ each. each.place) s.loaded i l new at keeps.place) kept.once;
        own = all_set _ s.loaded i new kept.own (keeps.own (all_at _ s.loaded i l kept.own at));
        marked = rw alike
            (all_set _ s.loaded i new kept.marked (keeps.marked _ (all_at _ s.loaded i l kept.marked at)));
        counted = kept.counted;
        described = kept.described;
        embodied = kept.embodied;
        numbers = kept.numbers;
        empty = rw alike kept.empty;
        unclaimed = rw alike kept.unclaimed;
      };
      together = rw alike steady.together;
    }

-- ---- The console's calls on one controller

-- of a controller that does not run nothing is said of a mark
unmarked : (controllers : List CtlDesc) (set : Places) (l : Loaded) → is_active l ≡ false → IsMarked controllers set l
unmarked controllers set l idle = none_marked l.ctl.run _ idle

-- a configured controller has its own parameters, and runs as little as before
configured_keeps : (s : State) (l : Loaded) (c : CtlDesc) → slice_get s.description.controllers l.place ≡ Some c
    → is_active l ≡ false
    → KeepsPlace s.description.controllers l (configured_with s l (Some c))
configured_keeps s l c at idle = record {
  place = refl;
  active = sym idle;
  own = λ own. record {
    described =
        ap (λ each. each.params) (sym (get_or_from_slice_get s.description.controllers l.place c nobody at));
    configured = λ runs. refl;
  };
  marked = λ set mark. tt;
}

cleaned_keeps : (controllers : List CtlDesc) (l : Loaded) → is_active l ≡ false
    → KeepsPlace controllers l (after_cleanup l)
cleaned_keeps controllers l idle = record {
  place = refl;
  active = sym idle;
  own = λ own. record { described = tt; configured = λ runs. absurd (true≢false (sym runs)) };
  marked = λ set mark. tt;
}

rated_keeps : (controllers : List CtlDesc) (hz : ℕ) (l : Loaded) → KeepsPlace controllers l (after_rate hz l)
rated_keeps controllers hz l =
    record {
      place = refl;
      active = refl;
      own =
          λ own. record { described = own.described; configured = own.configured };
      marked = λ set mark. mark;
    }

sent_keeps : (controllers : List CtlDesc) (mail : Mail) (l : Loaded) → KeepsPlace controllers l (after_send mail l)
sent_keeps controllers mail l =
    record {
      place = refl;
      active = refl;
      own =
          λ own. record { described = own.described; configured = own.configured };
      marked = λ set mark. mark;
    }

-- what is changed so at a slot, where one stands there
changed_at : (change : Loaded → Loaded) (s : State) (i : ℕ) (o : Option Loaded) → slice_get s.loaded i ≡ o
    → ((l : Loaded) → o ≡ Some l → KeepsPlace s.description.controllers l (change l)) → IsSteady s
    → IsSteady (with_slot s i (option_map change o))
changed_at change s i None at keeps steady = steady
changed_at change s i (Some l) at keeps steady = slot_steady s i l (change l) at (keeps l refl) steady

pub changed_steady : (change : Loaded → Loaded) (s : State) (slot : Option ℕ)
    → ((l : Loaded) → controller_in s slot ≡ Some l → KeepsPlace s.description.controllers l (change l)) → IsSteady s
    → IsSteady (with_changed change s slot)
changed_steady change s None keeps steady = steady
changed_steady change s (Some i) keeps steady = changed_at change s i (slice_get s.loaded i) refl keeps steady

-- an effect is there only where the call was done
done_only : (P : State → Type 0) (r : Reply) (after before : State) → (r ≡ reply.Done → P after) → P before
    → P (where_done r after before)
done_only P reply.Done after before done other = done refl
done_only P (reply.Serial _) after before done other = other
done_only P (reply.Queued ticket) after before done other = other
done_only P (reply.Not why) after before done other = other
done_only P (reply.Outcome became) after before done other = other
done_only P (reply.Controllers lines) after before done other = other
done_only P (reply.Interfaces lines) after before done other = other
done_only P (reply.Components lines) after before done other = other
done_only P (reply.Decisions decisions) after before done other = other
done_only P (reply.Cycle happened) after before done other = other

-- a rate and a send keep a steady state steady, whatever was answered
pub rate_steady : (s : State) (name : List ℕ) (hz : ℕ) (r : Reply) → IsSteady s → IsSteady (rate_effect s name hz r)
rate_steady s name hz r steady =
    done_only IsSteady r _ s
    (λ done. changed_steady (after_rate hz) s (slot_of s name) (λ l at. rated_keeps s.description.controllers hz l)
    steady) steady

pub send_steady : (s : State) (name : List ℕ) (mail : Mail) (r : Reply) → IsSteady s
    → IsSteady (send_effect s name mail r)
send_steady s name mail r steady =
    done_only IsSteady r _ s
    (λ done. changed_steady (after_send mail) s (slot_of s name) (λ l at. sent_keeps s.description.controllers mail l)
    steady) steady

-- what comes after the first refusal comes only where that does not apply
pub not_first : (applies : Bool) (reason : Why) (others : List (Bool × Why))
    → unless_refused ((applies, reason) ∷ others) reply.Done ≡ reply.Done → applies ≡ false
not_first true reason others done = absurd (true≢false (sym (ap is_done done)))
not_first false reason others done = refl

-- a controller on which such a call was done
idle_where_done : (others : Loaded → List (Bool × Why)) (o : Option Loaded) (l : Loaded) → o ≡ Some l
    → reply_on (λ other. (is_active other, why.Active) ∷ others other) o ≡ reply.Done → is_active l ≡ false
idle_where_done others None l at done = absurd (none-some l at)
idle_where_done others (Some other) l at done =
    not_first (is_active l) why.Active (others l)
    (subst (λ each. reply_on (λ other. (is_active other, why.Active) ∷ others other) (Some each) ≡ reply.Done)
    (same_Some other l at) done)

-- what a configure makes of it, where it is described or not
configure_keeps : (s : State) (l : Loaded) (o : Option CtlDesc) → slice_get s.description.controllers l.place ≡ o
    → is_active l ≡ false
    → KeepsPlace s.description.controllers l (configured_with s l o)
configure_keeps s l None at idle = record { place = refl; active = refl; own = λ own. own; marked = λ set mark. mark }
configure_keeps s l (Some c) at idle = configured_keeps s l c at idle

pub configure_steady : (s : State) (name : List ℕ) → IsSteady s
    → IsSteady (configure_effect s name (configure_reply s name))
configure_steady s name steady =
    done_only IsSteady (configure_reply s name) _ s
    (λ done. changed_steady (after_configure s) s (slot_of s name)
    (λ l at. configure_keeps s l (description_of s l) refl
    (idle_where_done
    (λ other. (option_map_or (λ c. is_refused c.params) (description_of s other) false, why.Refused) ∷ [])
    (controller_of s name) l at done)) steady)
    steady

-- a cleanup is done of an inactive one
pub idle_inactive : (params run : Bool) → not (params && not run) ≡ false → run ≡ false
idle_inactive true true inactive = absurd (true≢false inactive)
idle_inactive true false inactive = refl
idle_inactive false run inactive = absurd (true≢false inactive)

cleaned_idle : (o : Option Loaded) (l : Loaded) → o ≡ Some l → reply_on cleanup_refusals o ≡ reply.Done
    → is_active l ≡ false
cleaned_idle None l at done = absurd (none-some l at)
cleaned_idle (Some other) l at done = idle_inactive (is_some l.ctl.params) (is_active l)
    (not_first (not (is_inactive l)) why.NotInactive []
    (subst (λ each. reply_on cleanup_refusals (Some each) ≡ reply.Done) (same_Some other l at) done))

pub cleanup_steady : (s : State) (name : List ℕ) → IsSteady s → IsSteady (cleanup_effect s name (cleanup_reply s name))
cleanup_steady s name steady =
    done_only IsSteady (cleanup_reply s name) _ s
    (λ done. changed_steady after_cleanup s (slot_of s name)
    (λ l at. cleaned_keeps s.description.controllers l (cleaned_idle (controller_of s name) l at done)) steady)
    steady

-- ---- One controller less

pub all_remove : {A : Type 0} (P : A → Type 0) (xs : List A) (i : ℕ) → AllByRecursion P xs
    → AllByRecursion P (remove xs i)
all_remove P [] zero all = tt
all_remove P [] (suc i) all = tt
all_remove P (x ∷ xs) zero all = all.1
all_remove P (x ∷ xs) (suc i) all = (all.0, all_remove P xs i all.1)

map_remove : {A B : Type 0} (f : A → B) (xs : List A) (i : ℕ) → map f (remove xs i) ≡ remove (map f xs) i
map_remove f [] zero = refl
map_remove f [] (suc i) = refl
map_remove f (x ∷ xs) zero = refl
map_remove f (x ∷ xs) (suc i) = ap (λ ys. f x ∷ ys) (map_remove f xs i)

pub distinct_remove : (ps : List ℕ) (i : ℕ) → IsDistinct (λ p q. p == q) ps → IsDistinct (λ p q. p == q) (remove ps i)
unfolding IsDistinct
distinct_remove [] zero once = tt
distinct_remove [] (suc i) once = tt
distinct_remove (p ∷ ps) zero once = once.1
distinct_remove (p ∷ ps) (suc i) once = (all_remove _ ps i once.0, distinct_remove ps i once.1)

any_remove : {A : Type 0} (test : A → Bool) (xs : List A) (i : ℕ) (x : A) → slice_get xs i ≡ Some x → test x ≡ false
    → list_any test (remove xs i) ≡ list_any test xs
any_remove test [] zero x at fails = refl
any_remove test [] (suc i) x at fails = refl
any_remove test (y ∷ ys) zero x at fails = rw (subst (λ z. test z ≡ false) (sym (same_Some y x at)) fails) refl
any_remove test (y ∷ ys) (suc i) x at fails = ap (λ b. test y || b) (any_remove test ys i x at fails)

removed_steady : (s : State) (i : ℕ) (l : Loaded) → slice_get s.loaded i ≡ Some l → is_active l ≡ false → IsSteady s
    → IsSteady (record s { loaded = remove s.loaded i })
removed_steady s i l at idle steady =
    let kept = steady.in_order in
    let alike : has_loaded is_active (remove s.loaded i) ≡ has_loaded is_active s.loaded =
    fun_ext (λ p. any_remove (λ each. is_active each && each.place == p) s.loaded i l at (rw idle refl)) in
    record {
      in_order = record {
        once = rw (map_remove (λ each. each.place) s.loaded i)
            (distinct_remove (map (λ each. each.place) s.loaded) i kept.once);
        own = all_remove _ s.loaded i kept.own;
        marked = rw alike (all_remove _ s.loaded i kept.marked);
        counted = kept.counted;
        described = kept.described;
        embodied = kept.embodied;
        numbers = kept.numbers;
        empty = rw alike kept.empty;
        unclaimed = rw alike kept.unclaimed;
      };
      together = rw alike steady.together;
    }

unload_at : (s : State) (slot : Option ℕ) (o : Option Loaded) → controller_in s slot ≡ o
    → reply_on unload_refusals o ≡ reply.Done → IsSteady s → IsSteady (without_slot s slot)
unload_at s None o at done steady = steady
unload_at s (Some i) None at done steady = absurd (true≢false (sym (ap is_done done)))
unload_at s (Some i) (Some l) at done steady =
    removed_steady s i l at (not_first (is_active l) why.Active [] done) steady

pub unload_steady : (s : State) (name : List ℕ) → IsSteady s → IsSteady (unload_effect s name (unload_reply s name))
unload_steady s name steady =
    done_only IsSteady (unload_reply s name) _ s
    (λ done. unload_at s (slot_of s name) (controller_of s name) refl done steady) steady

-- ---- One controller more

distinct_push : (ls : List Loaded) (l : Loaded) → list_any (λ other. other.place == l.place) ls ≡ false
    → IsDistinct (λ p q. p == q) (map (λ other. other.place) ls)
    → IsDistinct (λ p q. p == q) (map (λ other. other.place) (ls ++ l ∷ []))
unfolding IsDistinct
distinct_push [] l new once = (tt, tt)
distinct_push (other ∷ others) l new once =
    let parts = or_parts (other.place == l.place) (list_any (λ each. each.place == l.place) others) new in (
      rw (map-append (λ each. each.place) others (l ∷ []))
          (all_push _ (map (λ each. each.place) others) l.place once.0 parts.0),
      distinct_push others l parts.1 once.1,
    )

any_push : {A : Type 0} (test : A → Bool) (xs : List A) (x : A) → test x ≡ false
    → list_any test (xs ++ x ∷ []) ≡ list_any test xs
any_push test [] x fails = rw fails refl
any_push test (y ∷ ys) x fails = ap (λ b. test y || b) (any_push test ys x fails)

-- a controller is loaded where none of its place is
pub pushed_steady : (s : State) (blanks : Blanks) (place : ℕ) (c : CtlDesc)
    → list_any (λ each. each.place == place) s.loaded ≡ false → IsSteady s
    → IsSteady (record s
    { blanks = blanks; loads = s.loads + 1; loaded = s.loaded ++ newly_loaded s.loads place c ∷ [] })
pushed_steady s blanks place c new steady =
    let kept = steady.in_order in
    let l : Loaded = newly_loaded s.loads place c in
    let alike : has_loaded is_active (s.loaded ++ newly_loaded s.loads place c ∷ []) ≡ has_loaded is_active s.loaded =
    fun_ext (λ p. any_push (λ each. is_active each && each.place == p) s.loaded (newly_loaded s.loads place c) refl) in
    record {
      in_order = record {
        once = distinct_push s.loaded (newly_loaded s.loads place c) new kept.once;
        own = all_push _ s.loaded (newly_loaded s.loads place c) kept.own
            (record { described = tt; configured = λ runs. absurd (true≢false (sym runs)) });
        marked = rw alike (all_push _ s.loaded (newly_loaded s.loads place c) kept.marked tt);
        counted = kept.counted;
        described = kept.described;
        embodied = kept.embodied;
        numbers = kept.numbers;
        empty = rw alike kept.empty;
        unclaimed = rw alike kept.unclaimed;
      };
      together = rw alike steady.together;
    }

load_at : (s : State) (place : ℕ) (o : Option CtlDesc) → list_any (λ each. each.place == place) s.loaded ≡ false
    → IsSteady s → IsSteady (with_controller s place o)
load_at s place None new steady = steady
load_at s place (Some c) new steady = pushed_steady s (with_one_less s.blanks (kind_of c.params)) place c new steady

-- of what is not loaded yet
load_of : (s : State) (place : Option ℕ) → option_map_or (is_loaded_at s) place false ≡ false → IsSteady s
    → IsSteady (with_loaded s place)
load_of s None new steady = steady
load_of s (Some place) new steady = load_at s place (slice_get s.description.controllers place) new steady

-- a load that three refusals did not refuse
load_unless : (s : State) (name : List ℕ) (unknown loaded empty : Bool)
    → (loaded ≡ false → IsSteady (with_loaded s (place_of s name))) → IsSteady s
    → IsSteady (load_effect s name
    (unless_refused ((unknown, why.NotDescribed) ∷ (loaded, why.Loaded) ∷ (empty, why.StockEmpty) ∷ [])
    (reply.Serial s.loads)))
load_unless s name true loaded empty done steady = steady
load_unless s name false true empty done steady = steady
load_unless s name false false true done steady = steady
load_unless s name false false false done steady = done refl

pub load_steady : (s : State) (name : List ℕ) → IsSteady s
    → IsSteady (load_effect s name (unless_refused (load_refusals s (place_of s name)) (reply.Serial s.loads)))
load_steady s name steady =
    load_unless s name (not (is_some (place_of s name))) (option_map_or (is_loaded_at s) (place_of s name) false)
    (option_map_or (is_sold_out_at s) (place_of s name) false)
    (λ new. load_of s (place_of s name) new steady) steady

-- ---- The begin's mail

-- what goes aloft leaves every running part as it is
map_keeps : (s : State) (change : Loaded → Loaded) → ((l : Loaded) → KeepsPlace s.description.controllers l (change l))
    → (aloft : Bool) (mails : List MailAloft)
    → IsSteady s → IsSteady (record s { loaded = map change s.loaded; aloft = aloft; mails = mails })
map_keeps s change keeps aloft mails steady =
    let kept = steady.in_order in
    let alike : has_loaded is_active (map change s.loaded) ≡ has_loaded is_active s.loaded =
    fun_ext (λ p. any_map (λ each. is_active each && each.place == p) change s.loaded
    ∙ any_same (λ each. is_active (change each) && (change each).place == p) (λ each. is_active each && each.place == p)
    s.loaded
    (all_of (λ l. (is_active (change l) && (change l).place == p) ≡ (is_active l && l.place == p))
    (λ l. rw ((keeps l).active, (keeps l).place) refl) s.loaded)) in
    record {
      in_order = record {
        once = rw (places_stay change (λ l. (keeps l).place) s.loaded) kept.once;
        own = all_map _ change s.loaded (all_so _ _ (λ l own. (keeps l).own own) s.loaded kept.own);
        marked = rw alike
            (all_map _ change s.loaded (all_so _ _ (λ l mark. (keeps l).marked _ mark) s.loaded kept.marked));
        counted = kept.counted;
        described = kept.described;
        embodied = kept.embodied;
        numbers = kept.numbers;
        empty = rw alike kept.empty;
        unclaimed = rw alike kept.unclaimed;
      };
      together = rw alike steady.together;
    }

mail_off_keeps : (s : State) (goes : Bool) (l : Loaded)
    → KeepsPlace s.description.controllers l (if goes then record l { mail = None } else l)
mail_off_keeps s true l =
    record {
      place = refl;
      active = refl;
      own =
          λ own. record { described = own.described; configured = own.configured };
      marked = λ set mark. mark;
    }
mail_off_keeps s false l = record { place = refl; active = refl; own = λ own. own; marked = λ set mark. mark }

pub begun_steady : (s : State) → IsSteady s → IsSteady (begun s)
begun_steady s steady =
    map_keeps s (without_mail_off s) (λ l. mail_off_keeps s (is_active l && is_due_now s l) l) true
    (filter_map (mail_off s) s.loaded) steady
