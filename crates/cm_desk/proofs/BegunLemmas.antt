-- The cycle that a history has begun and not ended: what each entry makes of it, and that the state is still one of
-- that cycle.
use Rattle.std.proofs.Common.{◌≡◌, ℕ, Bool, true, false, List, [], ◌∷◌, ◌++◌}
use Rattle.std.proofs.Common.{Option, Some, None, refl, sym, ap, ap₂, subst, ◌∙◌}
use Rattle.std.specs.Prelude.{not, ◌&&◌, is_some, IsSomeAnd}
use Rattle.cm_document.specs.declared.call.Call.{Call}
use Rattle.cm_document.specs.declared.call.Call.TheVariants.{Load, Configure, Cleanup, Unload, Rate, Send}
use Rattle.cm_document.specs.declared.call.Call.TheVariants.{Switch, Hardware, ListControllers, ListInterfaces}
use Rattle.cm_document.specs.declared.call.Call.TheVariants.{ListComponents, Begin, End, Close}
use Rattle.cm_storage.specs.Happened.{Happened}
use Rattle.cm_model.specs.Commit.{commit}
use Rattle.cm_model.specs.Cycle.{after_cycle}
use Rattle.cm_model.specs.Machine.{LegalFrom, state_after, step}
use Rattle.cm_model.specs.Scheduled.{with_entry}
use Rattle.cm_model.specs.Serials.{IsNumbered}
use Rattle.cm_model.specs.Sessions.{IsConsole}
use Rattle.cm_model.specs.Sound.{Moment, moments, aloft_after}
use Rattle.cm_model.specs.State.{State}
use Rattle.cm_model.specs.Steady.{IsSteady}
use Rattle.cm_model.specs.declared.entry.Entry.{Entry}
use Rattle.cm_model.specs.declared.reply.Reply.{Reply}
use Rattle.cm_model.proofs.LegalLemmas.{Leads, step_of}
use Rattle.cm_model.proofs.StayLemmas.{step-IsStep, effect-SameLoop}
use Rattle.rt_flight.specs.Flights.{FlightFacts, IsAloft, IsComputed, StaysAloft, StaysComputed}
use Rattle.rt_flight.proofs.AlikeLemmas.{stays_aloft}
use Rattle.sound_laws.proofs.BetweenLemmas.{HasBegun, goes_on}
use Rattle.sound_laws.proofs.MomentLemmas.{legal_step}
use Rattle.cm_desk.specs.Desk.{History, begun_among, begun_of, now_of, Grows, IsOut}
use Rattle.cm_desk.specs.Desk.{MayLand, IsAtHand, IsAloftAlike, CanBeCalled}
use Rattle.cm_desk.specs.End.{CanLand}

-- the moment of an entry that is a step
abbrev moment : State → Call → Reply → State → Moment
moment s call r next = record { before = s; call = call; reply = r; after = next }

pub moments_cons : (s mid : State) (e : Entry) (es : List Entry) → step s e.who e.call ≡ Some (mid, e.reply)
    → moments s (e ∷ es) ≡ moment s e.call e.reply mid ∷ moments mid es
moments_cons s mid e es stepped =
    ap (λ (o : Option (State × Reply)). elim o [
      | None ↦ []
      | Some reached ↦ record { before = s; call = e.call; reply = e.reply; after = reached.0 }
          ∷ moments reached.0 es
    ]) stepped

moments_some : (s : State) (made : State × Reply) (e : Entry) (es : List Entry) → step s e.who e.call ≡ Some made
    → moments s (e ∷ es) ≡ moment s e.call e.reply made.0 ∷ moments made.0 es
moments_some s made e es stepped =
    ap (λ (o : Option (State × Reply)). elim o [
      | None ↦ []
      | Some reached ↦ record { before = s; call = e.call; reply = e.reply; after = reached.0 }
          ∷ moments reached.0 es
    ]) stepped

moments_none : (s : State) (e : Entry) (es : List Entry) → step s e.who e.call ≡ None → moments s (e ∷ es) ≡ []
moments_none s e es stepped =
    ap (λ (o : Option (State × Reply)). elim o [
      | None ↦ []
      | Some reached ↦ record { before = s; call = e.call; reply = e.reply; after = reached.0 }
          ∷ moments reached.0 es
    ]) stepped

pub after_cons : (s mid : State) (e : Entry) (es : List Entry) → step s e.who e.call ≡ Some (mid, e.reply)
    → state_after s (e ∷ es) ≡ state_after mid es
after_cons s mid e es stepped =
    ap (λ (o : Option (State × Reply)). elim o [ None ↦ s | Some made ↦ state_after made.0 es ]) stepped

-- ---- One entry more

-- what has begun after one entry more
begun_more : (made : List Entry) (from s next : State) (begun : Option State) (who : ℕ) (call : Call) (r : Reply)
    → Leads from made s → step s who call ≡ Some (next, r)
    → begun_among begun (moments from (with_entry made who call r))
    ≡ aloft_after (begun_among begun (moments from made)) (moment s call r next) call
begun_more [] from s next begun who call r leads stepped =
    ap (λ (t : State). begun_among begun (moments t (record { who = who; call = call; reply = r } ∷ []))) leads.ends
    ∙ ap (begun_among begun) (moments_cons s next (record { who = who; call = call; reply = r }) [] stepped)
begun_more (e ∷ made) from s next begun who call r leads stepped =
    let first = step_of (step from e.who e.call) e.reply (λ each. LegalFrom each made) leads.legal in
    let rest : Leads first.0 made s =
    record { legal = first.2; ends = sym (after_cons from first.0 e made first.1) ∙ leads.ends } in
    let m = moment from e.call e.reply first.0 in
    ap (begun_among begun) (moments_cons from first.0 e (with_entry made who call r) first.1)
    ∙ begun_more made first.0 s next (aloft_after begun m e.call) who call r rest stepped
    ∙ ap (λ (ms : List Moment). aloft_after (begun_among begun ms) (moment s call r next) call)
    (sym (moments_cons from first.0 e made first.1))

-- What a history has begun after it grew, where its entries are legal.
pub begun_grown : (old new : History) (who : ℕ) (call : Call) (r : Reply) → LegalFrom old.opening old.made
    → Grows old new who call r
    → begun_of new ≡ aloft_after (begun_of old) (moment (now_of old) call r (now_of new)) call
begun_grown old new who call r legal grows =
    ap₂ (λ (s : State) (made : List Entry). begun_among None (moments s made)) grows.opening grows.made
    ∙ begun_more old.made old.opening (now_of old) (now_of new) None who call r (record { legal = legal; ends = refl })
    grows.stepped

-- a begin begins a cycle, in the state that it leaves,
pub begun_begins : (old new : History) (who n : ℕ) (r : Reply) → LegalFrom old.opening old.made
    → Grows old new who (Begin n) r → begun_of new ≡ Some (now_of new)
begun_begins old new who n r legal grows = begun_grown old new who (Begin n) r legal grows

-- a console call leaves what has begun
console_leaves : (begun : Option State) (m : Moment) (call : Call) → IsConsole call → aloft_after begun m call ≡ begun
console_leaves begun m (Begin n) between = absurd between
console_leaves begun m (End n) between = absurd between
console_leaves begun m call between = refl

kept_last : (s : State) (begun : Option State) (e : Entry) (o : Option (State × Reply)) → IsConsole e.call
    → step s e.who e.call ≡ o → begun_among begun (moments s (e ∷ [])) ≡ begun
kept_last s begun e None between stepped = ap (begun_among begun) (moments_none s e [] stepped)
kept_last s begun e (Some made) between stepped =
    ap (begun_among begun) (moments_some s made e [] stepped)
    ∙ console_leaves begun (moment s e.call e.reply made.0) e.call between

kept_more : (made : List Entry) (from : State) (begun : Option State) (e : Entry) → IsConsole e.call
    → begun_among begun (moments from (made ++ e ∷ [])) ≡ begun_among begun (moments from made)
kept_more [] from begun e between = kept_last from begun e (step from e.who e.call) between refl
kept_more (d ∷ made) from begun e between =
    either (step from d.who d.call) refl
    (λ reached. kept_more made reached.0 (aloft_after begun (moment from d.call d.reply reached.0) d.call) e between)
  where
    either : (o : Option (State × Reply)) → step from d.who d.call ≡ o
        → ((reached : State × Reply)
        → begun_among (aloft_after begun (moment from d.call d.reply reached.0) d.call)
        (moments reached.0 (made ++ e ∷ []))
        ≡ begun_among (aloft_after begun (moment from d.call d.reply reached.0) d.call) (moments reached.0 made))
        → begun_among begun (moments from (d ∷ made ++ e ∷ [])) ≡ begun_among begun (moments from (d ∷ made))
    either None stepped rest =
        ap (begun_among begun) (moments_none from d (made ++ e ∷ []) stepped ∙ sym (moments_none from d made stepped))
    either (Some reached) stepped rest =
        ap (begun_among begun) (moments_some from reached d (made ++ e ∷ []) stepped)
        ∙ rest reached
        ∙ sym (ap (begun_among begun) (moments_some from reached d made stepped))

pub begun_kept : (old new : History) (who : ℕ) (call : Call) (r : Reply) → IsConsole call → Grows old new who call r
    → begun_of new ≡ begun_of old
begun_kept old new who call r between grows =
    ap₂ (λ (s : State) (made : List Entry). begun_among None (moments s made)) grows.opening grows.made
    ∙ kept_more old.made old.opening None (record { who = who; call = call; reply = r }) between

-- and the cycle aloft
pub aloft_kept : (old new : History) (who : ℕ) (call : Call) (r : Reply) → IsConsole call → Grows old new who call r
    → (now_of new).aloft ≡ (now_of old).aloft
aloft_kept old new who call r between grows =
    let is = step-IsStep (now_of old) who call (now_of new, r) grows.stepped in
    ap (λ (t : State). t.aloft) is.next ∙ (effect-SameLoop (now_of old) call r between).aloft

-- a call that the desk answers for a session is one of a console,
pub is_console : (call : Call) → CanBeCalled call → IsConsole call
is_console (Load _) can = tt
is_console (Configure _) can = tt
is_console (Cleanup _) can = tt
is_console (Unload _) can = tt
is_console (Rate _ _) can = tt
is_console (Send _ _) can = tt
is_console (Switch _) can = tt
is_console (Hardware _ _) can = tt
is_console ListControllers can = tt
is_console ListInterfaces can = tt
is_console ListComponents can = tt
is_console _ can = absurd can

-- and after such a call the same cycle is aloft, if one was
pub called_alike : (old new : History) (who : ℕ) (call : Call) (r : Reply) → IsConsole call → Grows old new who call r
    → IsAloftAlike old new
called_alike old new who call r between grows =
    record { begun = begun_kept old new who call r between grows; aloft = aloft_kept old new who call r between grows }

-- a flight that is out stays out, and one that may land may land
pub out_alike : (old new : History) (f : FlightFacts) → IsAloftAlike old new → IsOut old f → IsOut new f
out_alike old new f alike out = record {
  aloft = subst (λ (b : Option State). IsSomeAnd b (λ begun. StaysAloft begun f)) (sym alike.begun) out.aloft;
  not_yet = out.not_yet;
}

pub lands_alike : (old new : History) (f : FlightFacts) → IsAloftAlike old new → MayLand old f → MayLand new f
lands_alike old new f alike may =
    subst (λ (b : Option State). IsSomeAnd b (λ begun. StaysComputed begun f)) (sym alike.begun) may

-- A begin leaves a cycle aloft, an end leaves none, and a close leaves what is.
pub begun_aloft : (old new : History) (who n : ℕ) (r : Reply) → Grows old new who (Begin n) r
    → (now_of new).aloft ≡ true
begun_aloft old new who n r grows =
    ap (λ (t : State). t.aloft) (step-IsStep (now_of old) who (Begin n) (now_of new, r) grows.stepped).next

pub landed_down : (old new : History) (who n : ℕ) (r : Reply) → Grows old new who (End n) r → (now_of new).aloft ≡ false
unfolding after_cycle commit
landed_down old new who n r grows =
    ap (λ (t : State). t.aloft) (step-IsStep (now_of old) who (End n) (now_of new, r) grows.stepped).next

pub closed_alike : (old new : History) (who : ℕ) (r : Reply) → Grows old new who Close r
    → (now_of new).aloft ≡ (now_of old).aloft
closed_alike old new who r grows =
    ap (λ (t : State). t.aloft) (step-IsStep (now_of old) who Close (now_of new, r) grows.stepped).next

-- ---- The state is one of that cycle

begun_holds : (made : List Entry) (from : State) (begun : Option State) → HasBegun begun from → LegalFrom from made
    → HasBegun (begun_among begun (moments from made)) (state_after from made)
begun_holds [] from begun before legal = before
begun_holds (e ∷ made) from begun before legal =
    let first = step_of (step from e.who e.call) e.reply (λ each. LegalFrom each made) legal in
    let one = goes_on from e.who (first.0, e.reply) begun before e.call
    (step-IsStep from e.who e.call (first.0, e.reply) first.1) (legal_step from e made legal).enabled in
    let rest = begun_holds made first.0 (aloft_after begun (moment from e.call e.reply first.0) e.call) one first.2 in
    subst (λ (t : State). HasBegun (begun_among begun (moments from (e ∷ made))) t)
    (sym (after_cons from first.0 e made first.1))
    (subst (λ (ms : List Moment). HasBegun (begun_among begun ms) (state_after first.0 made))
    (sym (moments_cons from first.0 e made first.1)) rest)

-- What a legal history has begun is aloft still, and its state has the core of the one that the begin left.
pub has_begun : (h : History) → LegalFrom h.opening h.made → HasBegun (begun_of h) (now_of h)
has_begun h legal = begun_holds h.made h.opening None tt legal

-- ---- Flights

-- the flight of the cycle that just began is out
pub is_out : (h : History) (s : State) (f : FlightFacts) → begun_of h ≡ Some s → IsAloft s f → IsOut h f
is_out h s f is aloft = record { aloft = rw is (λ t alike. stays_aloft s t f aloft alike); not_yet = aloft.not_yet }

-- and a flight that may land can land
pub can_land : (o : Option State) (s : State) (f : FlightFacts) → HasBegun o s
    → IsSomeAnd o (λ begun. StaysComputed begun f) → IsSteady s → IsNumbered s → CanLand s f
can_land None s f begun may steady numbered = absurd may
can_land (Some b) s f begun may steady numbered = record {
  aloft = begun.aloft;
  steady = steady;
  numbered = numbered;
  computed = may s (record { steady = steady; once = numbered.once; same = begun.same });
}

-- a flight that is out may land once it is computed
pub may_land : (h : History) (f f' : FlightFacts) → IsOut h f → ((s : State) → IsAloft s f → IsComputed s f')
    → MayLand h f'
may_land h f f' out made = each (begun_of h) out.aloft
  where
    each : (o : Option State) → IsSomeAnd o (λ begun. StaysAloft begun f)
        → IsSomeAnd o (λ begun. StaysComputed begun f')
    each None none = absurd none
    each (Some b) stays = λ s alike. made s (stays s alike)

-- ---- The flight

none_told : (o : Option Happened) → o ≡ None → is_some o ≡ true → ⊥
none_told None none some = cc
none_told (Some told) none some = cc

-- a flight that is out is at hand,
pub out_at_hand : (h : History) (f : FlightFacts) → IsOut h f → IsAtHand h f
out_at_hand h f out = record { before = λ none. out; after = λ some. absurd (none_told f.outcome out.not_yet.1 some) }

-- and so is what it is once it is computed
pub computed_at_hand : (h : History) (f f' : FlightFacts) → IsOut h f → ((s : State) → IsAloft s f → IsComputed s f')
    → is_some f'.outcome ≡ true → IsAtHand h f'
computed_at_hand h f f' out made some =
    record { before = λ none. absurd (none_told f'.outcome none some); after = λ told. may_land h f f' out made }

-- the loop closes where none is
pub down_there : (aloft closed : Bool) → (not aloft && not closed) ≡ true → aloft ≡ false
down_there false closed can = refl
down_there true closed can = cc
