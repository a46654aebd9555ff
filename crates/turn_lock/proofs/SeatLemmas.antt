-- The rule holds at the start, is kept where a seat is cut in two or joined into another, and at the end the value is
-- at home.
use Rattle.std.proofs.Common.{◌≡◌, ◌≢◌, ℕ, zero, suc, ◌+◌, ◌<◌, ◌≤◌, true, false}
use Rattle.std.proofs.Common.{List, [], ◌∷◌, ◌++◌, set, All, Contains, Option, Some, None, refl}
use Rattle.std.proofs.Common.{sym, ap, ◌∙◌, subst, inl, ⊎_elim, arith, true≢false}
use mathlib.Core.List.{IsPrefix}
use mathlib.Core.Option.{Option as Maybe, some, some-injective, some-ne-none}
use lib.ListN.{get_elem?}
use Rattle.std.proofs.lemmas.Bool.{false_from_ne_true, true_from_ne_false}
use Rattle.std.proofs.lemmas.List.{set_comm}
use Rattle.std.proofs.lemmas.List.Elements.{All-cons, All-append, Contains-append_left}
use Rattle.std.proofs.lemmas.List.Elements.{Contains-append_right, Contains-append_cases}
use Rattle.atomic_table.specs.Table.{State, Me, Splits, Joins, opening, Final, Seen}
use Rattle.atomic_table.proofs.Lists.{set_else}
use Rattle.turn_lock.specs.declared.kept.Shown.{Shown}
use Rattle.turn_lock.specs.declared.kept.Shown.TheVariants.{Cycles, Tickets}
use Rattle.turn_lock.specs.declared.table.Spot.{Spot}
use Rattle.turn_lock.specs.declared.table.Spot.TheVariants.{Home}
use Rattle.turn_lock.specs.declared.view.SeatView.{SeatView}
use Rattle.turn_lock.specs.declared.kept.Kept.{Ghosts}
use Rattle.turn_lock.specs.Entries.{of, pick}
use Rattle.turn_lock.specs.Stands.{stands}
use Rattle.turn_lock.specs.Views.{known, unknown, first_view, dealer, dealt, joined, spent, better, longer}
use Rattle.turn_lock.specs.Views.{either_count}
use Rattle.turn_lock.specs.Rule.{LockState, value, out, living, Saw, Absorbed}
use Rattle.turn_lock.specs.Rule.{Posted, Apart, Fits, IsHome, Ruled}
use Rattle.turn_lock.specs.Calls.Finish.{Ends}
use Rattle.turn_lock.proofs.ListLemmas.{sum_set, every_set, prefix_same, of_none, of_between, longer_is, only, nothing}
use Rattle.turn_lock.proofs.RuleLemmas.{some_none, same_number, turned_apart, change, slot_kept, at_home}
use Rattle.turn_lock.proofs.RuleLemmas.{idle_fits, enter}
use Rattle.turn_lock.proofs.PassLemmas.{idle, paid_both}

same_pick : {A : Type 0} (which : Shown) (a : A) → pick which a a ≡ a
same_pick Cycles a = refl
same_pick Tickets a = refl

-- of a list without entries nothing is published, so who knows nothing knows enough
unknown_posted : {E : Type 0} (which : Shown) (n : ℕ) (shown : List E → ℕ) → shown [] ≡ 0
    → Posted n shown (pick which unknown unknown) false []
unknown_posted which n shown nought =
    subst (λ k. Posted n shown k false []) (sym (same_pick which unknown))
    (record { knows = omega arith; current = λ _. omega arith; owes = λ e. e })

-- ---- The start

module _ {K E G : Type 0} (m : Ghosts K E G) where
  pub starts : (kept : K) (seats : ℕ) → 1 ≤ seats → seats ≤ 64 → m.entries kept ≡ []
      → Ruled m (m.footing kept) seats (opening (0 ∷ 0 ∷ 0 ∷ 0 ∷ 0 ∷ []) (Home kept ∷ []) (first_view (m.footing kept)))
  starts kept seats some_seat most empty =
      let v = first_view {E = E} (m.footing kept) in
      let t : LockState E = record { ticket = 0; serving = 0; given = 1; log = []; cycles = 0; tickets = 0 } in
      let none_yet : (which : Shown) → value which t ≡ 0 = λ which. same_pick which 0 in
      let mine : Fits m (m.footing kept) (some (Home kept) ∷ []) t v =
      idle_fits m (m.footing kept) seats (some (Home kept) ∷ []) t v refl refl
      (record {
        saw = record { begins = prefix_same []; own = λ n c. refl };
        absorbed = λ k d lt. absurd (omega arith);
      })
      (record {
        ground_is = λ _. refl;
        given = λ n c. let is : n ≡ 0 = only 0 n c in omega arith;
        owner = λ _. (0, (0, omega arith, refl));
        counts = λ k e. let is : 1 ≡ k = cc in sym is;
      })
      (λ which. unknown_posted which _ (m.shown which) (m.shown_empty which)) in record {
        at = t;
        words_are = refl;
        as_many = refl;
        few = omega arith;
        most = (some_seat, most);
        callers = λ n high. refl;
        published = λ which. let z = m.shown_empty which in let y = none_yet which in omega arith;
        fits = alone (Fits m (m.footing kept) (some (Home kept) ∷ []) t) mine;
        apart = λ i j v' w' apart e h. absurd (apart (first i v' e ∙ sym (first j w' h)));
        slot = inl (record {
          kept = kept;
          there = refl;
          list = empty;
          ground_is = refl;
          current = λ which. let z =
              m.shown_empty which in let y = none_yet which in omega arith;
        });
      }
    where
      first : (i : ℕ) (u : SeatView E G) → get_elem? (first_view (m.footing kept) ∷ []) i ≡ some u → i ≡ 0
      first zero u e = refl
      first (suc i) u e = absurd (some-ne-none u (sym e))

      alone : (P : SeatView E G → Type 0) → P (first_view (m.footing kept)) → (i : ℕ) (u : SeatView E G)
          → get_elem? (first_view (m.footing kept) ∷ []) i ≡ some u → P u
      alone P p zero u e = subst P (some-injective _ u e) p
      alone P p (suc i) u e = absurd (some-ne-none u (sym e))

  pub starts_from : (kept named : K) (seats : ℕ) (slots : List (Spot K)) → named ≡ kept → slots ≡ Home kept ∷ []
      → (1 ≤ seats) × (seats ≤ 64) → m.entries kept ≡ []
      → Ruled m (m.footing named) seats (opening (0 ∷ 0 ∷ 0 ∷ 0 ∷ 0 ∷ []) slots (first_view (m.footing named)))
  starts_from kept named seats slots is only_slot number empty =
      subst (λ (x : K × List (Spot K)). Ruled m (m.footing x.0) seats
      (opening (0 ∷ 0 ∷ 0 ∷ 0 ∷ 0 ∷ []) x.1 (first_view (m.footing x.0)))) (λ i. (sym is i, sym only_slot i))
      (starts kept seats number.0 number.1 empty)

-- what is known together of each number
pub known_joined : {E G : Type 0} (which : Shown) (v w : SeatView E G)
    → known which (joined v w) ≡ better (known which v) (known which w)
known_joined Cycles v w = refl
known_joined Tickets v w = refl

module _ {K E G : Type 0} (m : Ghosts K E G) (footing : G) (seats : ℕ) where
  -- ---- A seat is cut in two

  pub deals : (i : ℕ) (me : Me (Spot K) (SeatView E G)) (k : ℕ) → me.0.given ≡ Some k → k < seats
      → me.0.alive ≡ true → me.0.holds ≡ false → stands me ≡ true
      → Splits (Ruled m footing seats) i me.0 (dealer me.0) (dealt me.0)
  unfolding change
  deals i me k keeps room alive waits right_now s r at =
      let v = me.0 in
      let quiet = idle me right_now waits in
      let no_ticket : v.number ≡ None = quiet.number in
      let f = r.fits i v at in
      let given : k ≡ r.at.given = f.counts k keeps in
      let left = dealer v in
      let right = dealt v in
      let t : LockState E = record r.at { given = r.at.given + 1 } in
      let left_given : left.given ≡ Some (k + 1) = rw keeps refl in
      let right_mine : right.mine ≡ k ∷ [] = rw keeps refl in
      let is_new : (n : ℕ) → Contains right.mine n → n ≡ k =
      λ n c. only k n (subst (λ (l : List ℕ). Contains l n) right_mine c) in
      let none : out v ≡ 0 = rw no_ticket in
      let lives : living v ≡ 1 = rw alive in
      let right_lives : living right ≡ 1 = lives in
      let new_apart : (u : SeatView E G) → ((n : ℕ) → Contains u.mine n → n < r.at.given) → Apart u right =
      λ u low. record {
        tickets = λ n e h. absurd (cc);
        numbers = λ n e h. let is = is_new n h in let b = low n e in omega arith;
        counts = λ x y e h. absurd (cc);
      } in
      let few = r.few in
      let lefts = sum_set living s.views i v left at in
      let same_lives : living left ≡ living v = refl in
      let r' = change m footing seats s r i v left at s.words s.homes t
      r.words_are
      (omega arith)
      (omega arith)
      (omega arith, omega arith)
      (λ n high. r.callers n (omega arith))
      r.published
      (record {
        queue = f.queue;
        turn = f.turn;
        learned = f.learned;
        owns = record {
          ground_is = f.ground_is;
          given = λ n c. let b = f.given n c in omega arith;
          owner = f.owner;
          counts = λ n e. same_number left.given n (k + 1) e left_given ∙ ap (λ x. x + 1) given;
        };
        posted = f.posted;
      })
      (λ j u apart e a g. (
        record {
          queue = g.queue;
          turn = g.turn;
          learned = g.learned;
          owns = record {
            ground_is = g.ground_is;
            given = λ n c. let b = g.given n c in omega arith;
            owner = g.owner;
            counts = λ n e. absurd (a.counts k n keeps e);
          };
          posted = g.posted;
        },
        record { tickets = a.tickets; numbers = a.numbers; counts = λ x y e h. a.counts k y keeps h },
      ))
      (slot_kept m footing seats s r i v left at t
      (λ h. record { kept = h.kept; there = h.there; list = h.list; ground_is = h.ground_is; current = h.current })
      (λ h. h)) in
      enter m footing seats (record { words = s.words; homes = s.homes; views = set s.views i left }) r' right
      (omega arith)
      no_ticket
      (idle_fits m footing seats s.homes t right no_ticket waits
      (record {
        saw = record {
          begins = f.saw.begins;
          own = λ n c. let is = is_new n c in
              let none' = r.callers n (omega arith) in of_none m.caller n v.seen r.at.log f.saw.begins none'
              ∙ sym none';
        };
        absorbed = λ j d lt. absurd (omega arith);
      })
      (record {
        ground_is = f.ground_is;
        given = λ n c. let is = is_new n c in omega arith;
        owner = λ _. (k, subst (λ (l : List ℕ). Contains l k) (sym right_mine) (0, omega arith, refl));
        counts = λ n e. some_none None n refl e;
      })
      (λ which. let p = f.posted which in record {
        knows = p.knows;
        current = p.current;
        owes = λ e. absurd (true≢false (sym e ∙ paid_both v quiet.cycles quiet.tickets which));
      }))
      (every_set (λ u. Apart u right) s.views i left (new_apart left f.given)
      (λ j u apart e. new_apart u (r.fits j u e).given))

  -- ---- A seat is joined into another

  -- the longer of what both have seen has all entries of both
  own_longer : (n : ℕ) (xs ys log : List E) → IsPrefix xs log → IsPrefix ys log → of m.caller n xs ≡ of m.caller n log
      → of m.caller n (longer xs ys) ≡ of m.caller n log
  own_longer n xs ys log p q all =
      longer_is (λ l. of m.caller n l ≡ of m.caller n log) xs ys (λ _. all)
      (λ lt. of_between m.caller n xs ys log p q (omega arith) all)

  own_longer' : (n : ℕ) (xs ys log : List E) → IsPrefix xs log → IsPrefix ys log → of m.caller n ys ≡ of m.caller n log
      → of m.caller n (longer xs ys) ≡ of m.caller n log
  own_longer' n xs ys log p q all =
      longer_is (λ l. of m.caller n l ≡ of m.caller n log) xs ys (λ le. of_between m.caller n ys xs log q p le all)
      (λ _. all)

  better_posted : (which : Shown) (v w : SeatView E G) (there : Shown → ℕ) → v.holds ≡ false → w.holds ≡ false
      → ((each : Shown) → Posted (there each) (m.shown each) (known each v) v.holds v.seen)
      → ((each : Shown) → Posted (there each) (m.shown each) (known each w) w.holds w.seen)
      → Posted (there which) (m.shown which) (known which (joined v w)) false (longer v.seen w.seen)
  better_posted which v w there waits waits' p q =
      let a = p which in
      let b = q which in
      let paid = false_from_ne_true (known which v).owes (λ e. true≢false (sym (a.owes e) ∙ waits)) in
      let paid' = false_from_ne_true (known which w).owes (λ e. true≢false (sym (b.owes e) ∙ waits')) in
      subst (λ k. Posted (there which) (m.shown which) k false (longer v.seen w.seen)) (sym (known_joined which v w))
      (record {
        knows = let x = a.knows in let y = b.knows in omega arith;
        current = λ _. longer_is (λ xs. m.shown which xs ≤ there which) v.seen w.seen (λ _. a.current paid)
            (λ _. b.current paid');
        owes = λ e. e;
      })

  either_is : (a b : Option ℕ) (k n : ℕ) → ((j : ℕ) → a ≡ Some j → j ≡ n) → ((j : ℕ) → b ≡ Some j → j ≡ n)
      → either_count a b ≡ Some k → k ≡ n
  either_is None b k n left right e = right k e
  either_is (Some j) b k n left right e = left k e

  either_apart : (a b c : Option ℕ) (k l : ℕ) → ((i j : ℕ) → a ≡ Some i → c ≡ Some j → ⊥)
      → ((i j : ℕ) → b ≡ Some i → c ≡ Some j → ⊥) → either_count a b ≡ Some k → c ≡ Some l → ⊥
  either_apart None b c k l left right e h = right k l e h
  either_apart (Some j) b c k l left right e h = left k l e h

  -- what is told of both is so: what each has seen, and what each was told
  absorbed_joined : (log : List E) (v w : SeatView E G) → Saw m.caller log v.mine v.seen
      → Saw m.caller log w.mine w.seen → All (Absorbed m.caller log v.mine) v.absorbed
      → All (Absorbed m.caller log w.mine) w.absorbed
      → All (Absorbed m.caller log (joined v w).mine) (joined v w).absorbed
  absorbed_joined log v w saw saw' absorbed absorbed' =
      let P = Absorbed m.caller log (v.mine ++ w.mine) in
      let left = λ (n : ℕ) (c : Contains v.mine n). Contains-append_left v.mine w.mine n c in
      let right = λ (n : ℕ) (c : Contains w.mine n). Contains-append_right v.mine w.mine n c in
      All-cons P (v.mine, v.seen) ((w.mine, w.seen) ∷ (v.absorbed ++ w.absorbed)) (record { saw = saw; within = left })
      (
      All-cons P (w.mine, w.seen) (v.absorbed ++ w.absorbed) (record { saw = saw'; within = right }) (
      All-append P v.absorbed w.absorbed
      (λ k d lt. let x = absorbed k d lt in record { saw = x.saw; within = λ n c. left n (x.within n c) })
      (λ k d lt. let x = absorbed' k d lt in record { saw = x.saw; within = λ n c. right n (x.within n c) })
      )
      )

  -- who was joined into another is apart from each
  spent_apart : (u : SeatView E G) → Apart u (spent {E = E} {G = G})
  spent_apart u = record {
    tickets = λ n e h. absurd (cc);
    numbers = λ n c c'. nothing n c';
    counts = λ x y e h. absurd (cc);
  }

  pub joins : (i : ℕ) (v : SeatView E G) (other : ℕ) (me : Me (Spot K) (SeatView E G)) → v.number ≡ None
      → v.holds ≡ false → v.alive ≡ true → me.0.holds ≡ false → stands me ≡ true
      → Joins (Ruled m footing seats) i v other me.0 (joined v me.0) spent
  unfolding change
  joins i v other me no_ticket waits alive waits' right s r at apart there =
      let w = me.0 in
      let no_ticket' = (idle me right waits').number in
      let both = joined v w in
      let there' : get_elem? s.views other ≡ some w = sym (set_else s.views i other both apart) ∙ there in
      let f = r.fits i v at in
      let g = r.fits other w there' in
      let log = r.at.log in
      let none : out v ≡ 0 = rw no_ticket in
      let none' : out w ≡ 0 = rw no_ticket' in
      let lives : living v ≡ 1 = rw alive in
      let spent' : SeatView E G = spent in
      let gone : State (Spot K) (SeatView E G) =
      record { words = s.words; homes = s.homes; views = set s.views other spent' } in
      let r' : Ruled m footing seats gone = change m footing seats s r other w spent' there' s.words s.homes r.at
      r.words_are
      (omega arith)
      (omega arith)
      (omega arith, r.most.0)
      r.callers
      r.published
      (idle_fits m footing seats s.homes r.at spent' refl refl
      (record {
        saw = record { begins = (log, refl); own = λ n c. absurd (nothing n c) };
        absorbed = λ j d lt. absurd (omega arith);
      })
      (record {
        ground_is = λ h. absurd (true≢false (sym h));
        given = λ n c. absurd (nothing n c);
        owner = λ h. absurd (true≢false (sym h));
        counts = λ n e. some_none None n refl e;
      })
      (λ which. unknown_posted which (value which r.at) (m.shown which) (m.shown_empty which)))
      (λ j u apart' e a h. (h, turned_apart u spent' (spent_apart u)))
      (slot_kept m footing seats s r other w spent' there' r.at (λ h. h) (λ h. absurd (true≢false (sym h ∙ waits')))) in
      let other_apart = every_set (Apart w) s.views other spent' (spent_apart w)
      (λ j u apart' e. r.apart other j w u (λ h. apart' (sym h)) there' e) in
      let here : get_elem? (set s.views other spent') i ≡ some v =
      set_else s.views other i spent' (λ h. apart (sym h)) ∙ at in
      subst (λ (vs : List (SeatView E G)). Ruled m footing seats
      (record { words = s.words; homes = s.homes; views = vs }))
      (set_comm s.views other i spent' both (λ h. apart h))
      (change m footing seats gone r' i v both here s.words s.homes r.at
      r.words_are
      (omega arith)
      (omega arith)
      (omega arith, r.most.0)
      r.callers
      r.published
      (idle_fits m footing seats s.homes r.at both refl refl
      (record {
        saw = record {
          begins = longer_is (λ l. IsPrefix l log) v.seen w.seen (λ _. f.saw.begins) (λ _. g.saw.begins);
          own = λ n c. ⊎_elim
              (λ (x : Contains v.mine n). own_longer n v.seen w.seen log f.saw.begins g.saw.begins (f.saw.own n x))
              (λ (x : Contains w.mine n). own_longer' n v.seen w.seen log f.saw.begins g.saw.begins (g.saw.own n x))
              (Contains-append_cases v.mine w.mine n c);
        };
        absorbed = absorbed_joined log v w f.saw g.saw f.absorbed g.absorbed;
      })
      (record {
        ground_is = λ h. f.ground_is alive;
        given = λ n c. ⊎_elim (λ (x : Contains v.mine n). f.given n x) (λ (x : Contains w.mine n). g.given n x)
            (Contains-append_cases v.mine w.mine n c);
        owner = λ h. let o = f.owner alive in (o.0, Contains-append_left v.mine w.mine o.0 o.1);
        counts = λ k e. either_is v.given w.given k r.at.given f.counts g.counts e;
      })
      (λ which. better_posted which v w (λ each. value each r.at) waits waits' f.posted g.posted))
      (λ j u apart' e a h. (
        h,
        record {
          tickets = λ n e' h'. absurd (cc);
          numbers = λ n c c'. ⊎_elim (λ (x : Contains v.mine n). a.numbers n x c')
              (λ (x : Contains w.mine n). (other_apart j u e).numbers n x c')
              (Contains-append_cases v.mine w.mine n c);
          counts = λ x y e' h'. either_apart v.given w.given u.given x y a.counts
              (other_apart j u e).counts e' h';
        },
      ))
      (slot_kept m footing seats gone r' i v both here r.at (λ h. h) (λ h. absurd (true≢false (sym h ∙ waits)))))

  -- ---- The end

  -- Where a seat out of turn has every number that was given, no other seat is a pass's, so the value is at home.
  all_home : (s : State (Spot K) (SeatView E G)) (r : Ruled m footing seats s) (i : ℕ) (v : SeatView E G)
      → get_elem? s.views i ≡ some v → v.holds ≡ false
      → ((n : ℕ) → n < seats → Contains v.mine n) → IsHome m footing s.homes r.at
  all_home s r i v at waits all = at_home m footing seats s r i v at waits (λ u f holds a.
      let has : out u ≡ 1 = rw (f.turn holds).0 in
      let one = f.one in
      let lives =
      true_from_ne_false u.alive (λ e. let dead : living u ≡ 0 = rw e in omega arith) in
      let owner = f.owner lives in
      a.numbers owner.0 (all owner.0 (omega (arith, f.given owner.0 owner.1, r.most.0))) owner.1)

  pub ends : (i : ℕ) (v : SeatView E G) → v.alive ≡ true → v.holds ≡ false → ((n : ℕ) → n < seats → Contains v.mine n)
      → (ws : List ℕ) (xs : List (Spot K)) → Final (Seen (Ruled m footing seats) i v) ws xs
      → (kept : K) × (get_elem? xs 0 ≡ some (Home kept)) × Ends m seats v kept
  ends i v alive waits all ws xs (s, (r, at), is_words, long, values) =
      let h = all_home s r i v at waits all in
      let f = r.fits i v at in
      let list = h.list in (
        h.kept,
        values 0 (Home h.kept) (ap (λ (hs : List (Maybe (Spot K))). get_elem? hs 0) h.there),
        record {
          agrees = record {
            saw = subst (λ l. Saw m.caller l v.mine v.seen) (sym list) f.saw;
            absorbed = subst (λ l. All (λ t. Saw m.caller l t.0 t.1) v.absorbed) (sym list)
                (λ k d lt. (f.absorbed k d lt).saw);
          };
          ground_is = f.ground_is alive ∙ ap Some (sym h.ground_is);
          knows = λ which. let k =
              (f.posted which).knows in let p = r.published which in let same = ap (m.shown which) list in omega arith;
          callers = λ n high. let most = r.most.0 in ap (of m.caller n) list ∙ r.callers n (omega arith);
        },
      )
