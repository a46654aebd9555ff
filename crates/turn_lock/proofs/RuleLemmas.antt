-- The rule is kept where one seat changes, and where a seat is new.
use Rattle.std.proofs.Common.{false, ◌<◌, true≢false, ◌≡◌, ◌≢◌, ◌⊎◌, ℕ, ◌+◌}
use Rattle.std.proofs.Common.{◌≤◌, true, List, [], ◌∷◌, ◌++◌, length, set, sum_by, Option}
use Rattle.std.proofs.Common.{Some, None, sym, ap, ◌∙◌, subst, inl, inr, ⊎_elim, arith}
use mathlib.Core.Logic.{dite}
use native.Mathlib.Decide.{ℕ_discrete}
use mathlib.Core.Option.{Option as Maybe, none, some, some-injective}
use lib.ListN.{get_elem?}
use Rattle.std.proofs.lemmas.List.Sums.{sum_by_push}
use Rattle.atomic_table.specs.Table.{State}
use Rattle.atomic_table.proofs.Lists.{at_snoc, at_longer, set_here, set_else}
use Rattle.turn_lock.specs.declared.kept.Shown.{Shown}
use Rattle.turn_lock.specs.declared.table.Spot.{Spot}
use Rattle.turn_lock.specs.declared.view.SeatView.{SeatView}
use Rattle.turn_lock.specs.declared.kept.Kept.{Ghosts}
use Rattle.turn_lock.specs.Entries.{of}
use Rattle.turn_lock.specs.Views.{known}
use Rattle.turn_lock.specs.Rule.{LockState, atomic_words, value, out, living, Learned}
use Rattle.turn_lock.specs.Rule.{Posted, Owns, Apart, Fits, IsHome, IsOut, Ruled}
use Rattle.turn_lock.proofs.ListLemmas.{at_get, sum_set, every_set, pairs_set, snoc_at}

pub some_none : {C : Type 0} (a : Option ℕ) (n : ℕ) → a ≡ None → a ≡ Some n → C
some_none a n e h = absurd (cc)

pub same_number : (a : Option ℕ) (n k : ℕ) → a ≡ Some n → a ≡ Some k → n ≡ k
same_number a n k e h = cc

module _ {E G : Type 0} where
  pub turned_apart : (v w : SeatView E G) → Apart v w → Apart w v
  turned_apart v w a = record {
    tickets = λ n e h. a.tickets n h e;
    numbers = λ n e h. a.numbers n h e;
    counts = λ k l e h. a.counts l k h e;
  }

-- the slot is away with the seat that changes
pub is_out : {K E G : Type 0} (homes : List (Maybe (Spot K))) (views : List (SeatView E G)) (i : ℕ) (v w : SeatView E G)
    → get_elem? views i ≡ some v → homes ≡ none ∷ [] → w.holds ≡ true → IsOut homes (set views i w)
is_out homes views i v w at away holds =
    record { away = away; seat = i; holder = w; sits = set_here views i w ((at_get views i v at).0); holds = holds }

module _ {K E G : Type 0} (m : Ghosts K E G) (footing : G) (seats : ℕ) where
  -- the seat i goes from v to w, and with it the words, the slot and where the lock stands
  unfoldable pub change : (s : State (Spot K) (SeatView E G)) (r : Ruled m footing seats s) (i : ℕ) (v w : SeatView E G)
      → get_elem? s.views i ≡ some v
      → (ws : List ℕ) (hs : List (Maybe (Spot K))) (t : LockState E)
      → ws ≡ atomic_words t
      → out w + t.serving + r.at.ticket ≡ out v + t.ticket + r.at.serving
      → living w ≤ living v
      → (r.at.given ≤ t.given) × (t.given ≤ seats)
      → ((n : ℕ) → t.given ≤ n → of m.caller n t.log ≡ [])
      → ((which : Shown) → value which t ≤ m.shown which t.log)
      → Fits m footing hs t w
      → ((j : ℕ) (u : SeatView E G) → j ≢ i → get_elem? s.views j ≡ some u → Apart v u → Fits m footing s.homes r.at u
      → Fits m footing hs t u × Apart w u)
      → IsHome m footing hs t ⊎ IsOut hs (set s.views i w)
      → Ruled m footing seats (record { words = ws; homes = hs; views = set s.views i w })
  change s r i v w at ws hs t words_are tickets alive given callers published mine others slot =
      let outs = sum_set out s.views i v w at in
      let lives = sum_set living s.views i v w at in
      let other : (j : ℕ) (u : SeatView E G) → j ≢ i → get_elem? s.views j ≡ some u
      → Fits m footing hs t u × Apart w u =
      λ j u apart e. others j u apart e (r.apart i j v u (λ h. apart (sym h)) at e) (r.fits j u e) in
      record {
        at = t;
        words_are = words_are;
        as_many = omega (arith, r.as_many);
        few = omega (arith, r.few);
        most = (given.1, r.most.1);
        callers = callers;
        published = published;
        fits = every_set (Fits m footing hs t) s.views i w mine (λ j u apart e. (other j u apart e).0);
        apart = pairs_set Apart s.views i w turned_apart r.apart (λ j u apart e. (other j u apart e).1);
        slot = slot;
      }

  -- where the slot is where it was
  pub slot_kept : (s : State (Spot K) (SeatView E G)) (r : Ruled m footing seats s) (i : ℕ) (v w : SeatView E G)
      → get_elem? s.views i ≡ some v
      → (t : LockState E)
      → (IsHome m footing s.homes r.at → IsHome m footing s.homes t)
      → (v.holds ≡ true → w.holds ≡ true)
      → IsHome m footing s.homes t ⊎ IsOut s.homes (set s.views i w)
  slot_kept s r i v w at t home holds = ⊎_elim (λ h. inl (home h)) (λ (o : IsOut s.homes s.views). inr (still o)) r.slot
    where
      still : IsOut s.homes s.views → IsOut s.homes (set s.views i w)
      still o = dite (ℕ_discrete o.seat i)
          (λ here. is_out s.homes s.views i v w at o.away
          (holds
          (subst (λ (u : SeatView E G). u.holds ≡ true)
          (some-injective _ _ (sym o.sits ∙ ap (get_elem? s.views) here ∙ at)) o.holds)))
          (λ there. record {
            away = o.away;
            seat = o.seat;
            holder = o.holder;
            sits = set_else s.views i o.seat w there ∙ o.sits;
            holds = o.holds;
          })

  -- where a seat is out of turn, and so is each that is apart from it, the value is at home
  pub at_home : (s : State (Spot K) (SeatView E G)) (r : Ruled m footing seats s) (i : ℕ) (v : SeatView E G)
      → get_elem? s.views i ≡ some v → v.holds ≡ false
      → ((u : SeatView E G) → Fits m footing s.homes r.at u → u.holds ≡ true → Apart v u → ⊥)
      → IsHome m footing s.homes r.at
  at_home s r i v at waits others = ⊎_elim (λ h. h) (λ (o : IsOut s.homes s.views). absurd (not_out o)) r.slot
    where
      not_out : IsOut s.homes s.views → ⊥
      not_out o = dite (ℕ_discrete o.seat i)
          (λ here. let same : o.holder ≡ v = some-injective _ _ (sym o.sits ∙ ap (get_elem? s.views) here ∙ at) in
          true≢false (sym o.holds ∙ ap (λ (u : SeatView E G). u.holds) same ∙ waits))
          (λ there. others o.holder (r.fits o.seat o.holder o.sits) o.holds
          (r.apart i o.seat v o.holder (λ h. there (sym h)) at o.sits))

  -- while one seat waits with the served ticket, or holds the turn, no other seat holds it
  pub others_wait : (homes : List (Maybe (Spot K))) (t : LockState E) (v u : SeatView E G) → v.number ≡ Some t.serving
      → Apart v u
      → Fits m footing homes t u → {C : Type 0} → u.holds ≡ true → C
  others_wait homes t v u mine apart f h = absurd (apart.tickets t.serving mine (f.turn h).0)

  -- a seat that stays as it is fits wherever the slot, the next ticket and the served one go, if its own ticket and its
  -- turn do
  pub still_fits : (hs homes : List (Maybe (Spot K))) (t : LockState E) (ticket serving : ℕ) (u : SeatView E G)
      → Fits m footing hs t u
      → ((n : ℕ) → u.number ≡ Some n → (serving ≤ n) × (n < ticket))
      → (u.holds ≡ true → (u.number ≡ Some serving) × (u.seen ≡ t.log) × (homes ≡ none ∷ []))
      → Fits m footing homes (record t { ticket = ticket; serving = serving }) u
  still_fits hs homes t ticket serving u f within turn = record {
    queue = record { one = f.one; within = within };
    turn = turn;
    learned = f.learned;
    owns = f.owns;
    posted = f.posted;
  }

  -- a seat without a ticket
  pub idle_fits : (homes : List (Maybe (Spot K))) (t : LockState E) (v : SeatView E G) → v.number ≡ None
      → v.holds ≡ false
      → Learned m.caller t.log v.mine v.seen v.absorbed → Owns footing t.given v.alive v.footing v.mine v.given
      → ((which : Shown) → Posted (value which t) (m.shown which) (known which v) v.holds v.seen)
      → Fits m footing homes t v
  idle_fits homes t v idle waits learned owns posted =
      let none : out v ≡ 0 = rw idle in record {
        queue = record { one = omega arith; within = λ n e. some_none v.number n idle e };
        turn = λ h. absurd (true≢false (sym h ∙ waits));
        learned = learned;
        owns = owns;
        posted = posted;
      }

  -- a new seat, which is idle
  pub enter : (s : State (Spot K) (SeatView E G)) (r : Ruled m footing seats s) (w : SeatView E G)
      → sum_by living s.views + living w ≤ r.at.given
      → w.number ≡ None
      → Fits m footing s.homes r.at w
      → ((j : ℕ) (u : SeatView E G) → get_elem? s.views j ≡ some u → Apart u w)
      → Ruled m footing seats (record { words = s.words; homes = s.homes; views = s.views ++ w ∷ [] })
  enter s r w few idle mine others =
      let none : out w ≡ 0 = rw idle in
      let all : (j : ℕ) (u : SeatView E G) → get_elem? (s.views ++ w ∷ []) j ≡ some u → Fits m footing s.homes r.at u =
      λ j u e. ⊎_elim (λ (old : get_elem? s.views j ≡ some u). r.fits j u old)
      (λ (new : w ≡ u). subst (Fits m footing s.homes r.at) new mine) (at_snoc s.views w u j e) in
      record {
        at = r.at;
        words_are = r.words_are;
        as_many = omega (arith, r.as_many, sum_by_push out s.views w);
        few = omega (arith, sum_by_push living s.views w);
        most = r.most;
        callers = r.callers;
        published = r.published;
        fits = all;
        apart = pairs;
        slot = ⊎_elim (λ h. inl h)
            (λ (o : IsOut s.homes s.views). inr
            (record {
              away = o.away;
              seat = o.seat;
              holder = o.holder;
              sits =
                  at_longer s.views (w ∷ []) o.seat o.holder o.sits;
              holds = o.holds;
            })) r.slot;
      }
    where
      pairs : (j k : ℕ) (a b : SeatView E G) → j ≢ k → get_elem? (s.views ++ w ∷ []) j ≡ some a
          → get_elem? (s.views ++ w ∷ []) k ≡ some b → Apart a b
      pairs j k a b apart e h =
          ⊎_elim
          (λ (old : get_elem? s.views j ≡ some a). ⊎_elim
          (λ (old' : get_elem? s.views k ≡ some b). r.apart j k a b apart old old')
          (λ (new : (k ≡ length s.views) × (w ≡ b)). subst (λ (x : SeatView E G). Apart a x) new.1 (others j a old))
          (snoc_at s.views w b k h))
          (λ (new : (j ≡ length s.views) × (w ≡ a)). ⊎_elim
          (λ (old : get_elem? s.views k ≡ some b). turned_apart b a
          (subst (λ (x : SeatView E G). Apart b x) new.1 (others k b old)))
          (λ (new' : (k ≡ length s.views) × (w ≡ b)). absurd (apart (new.0 ∙ sym new'.0)))
          (snoc_at s.views w b k h))
          (snoc_at s.views w a j e)
