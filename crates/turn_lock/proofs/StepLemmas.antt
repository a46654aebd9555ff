-- Each kind of step of one seat keeps the rule.
use Rattle.std.proofs.Common.{◌≡◌, ◌≢◌, ℕ, ◌+◌, ◌%◌, ◌^◌, ◌<◌, ◌≤◌, true, false, List, [], ◌∷◌}
use Rattle.std.proofs.Common.{◌++◌, length, get_or, set, All, Contains, sum_by, Some, None}
use Rattle.std.proofs.Common.{refl, sym, ap, ◌∙◌, subst, inl, inr, arith, true≢false}
use mathlib.Core.Logic.{dite}
use mathlib.Core.List.{IsPrefix}
use mathlib.Core.Option.{Option as Maybe, none, some}
use native.Mathlib.Decide.{ℕ_discrete}
use lib.ListN.{get_elem?}
use Rattle.std.specs.declared.snapshot.Snapshot.{Snapshot}
use Rattle.std.proofs.lemmas.Option.{same_Some}
use Rattle.atomic_table.specs.Table.{State, Me, Step, step, keeps, takes, gives, Allows, homes_after, rest}
use Rattle.atomic_table.proofs.Lists.{one_turn}
use Rattle.turn_lock.specs.declared.kept.Shown.{Shown}
use Rattle.turn_lock.specs.declared.table.Spot.{Spot}
use Rattle.turn_lock.specs.declared.table.Spot.TheVariants.{Home, Counted}
use Rattle.turn_lock.specs.declared.view.SeatView.{SeatView}
use Rattle.turn_lock.specs.declared.kept.Kept.{Ghosts}
use Rattle.turn_lock.specs.Entries.{of}
use Rattle.turn_lock.specs.Views.{known, waiting, at_turn, counted, published, loaded, passed_on}
use Rattle.turn_lock.specs.Rule.{LockState, atomic_words, value, with_value, out}
use Rattle.turn_lock.specs.Rule.{living, Saw, Absorbed, Learned, Ruled}
use Rattle.turn_lock.specs.Calls.Take.{Waits}
use Rattle.turn_lock.specs.Steps.{atomic_word_of, drawn, looked, counts, publishes, Loads, loads, passes_on}
use Rattle.turn_lock.proofs.ListLemmas.{sum_le, prefix_same, prefix_more, of_other}
use Rattle.turn_lock.proofs.RuleLemmas.{some_none, same_number, is_out, change, slot_kept, at_home}
use Rattle.turn_lock.proofs.RuleLemmas.{still_fits, idle_fits, others_wait}
use Rattle.turn_lock.proofs.WordLemmas.{count_words, counted_posted, draw_words, load_finds, load_words}
use Rattle.turn_lock.proofs.WordLemmas.{loaded_posted, named_in, pass_words, publish_words}
use Rattle.turn_lock.proofs.WordLemmas.{published_posted, same_word, served_on, each_shown, value_grows}

-- who has seen the whole list has seen all entries of its numbers
all_seen : {E : Type 0} (caller : E → ℕ) (seen log : List E) (mine : List ℕ) → seen ≡ log → Saw caller log mine seen
all_seen caller seen log mine is =
    record { begins = subst (IsPrefix seen) is (prefix_same seen); own = λ n c. ap (of caller n) is }

-- a step, where what it tells does not depend on which
abbrev pub some_step : {S : Type 0} → Step S
some_step = step 0 0 0 0 none

-- ---- One ticket out, at most as many as lie between

module _ {K E G : Type 0} (m : Ghosts K E G) (footing : G) (seats : ℕ) where
  -- two tickets that are out lie less than 2 ^ 64 apart, so they are one where their remainders are
  near : (s : State (Spot K) (SeatView E G)) (r : Ruled m footing seats s) (n : ℕ) → r.at.serving ≤ n → n < r.at.ticket
      → r.at.serving % 2 ^ 64 ≡ n % 2 ^ 64 → r.at.serving ≡ n
  near s r n low high same =
      let few : sum_by out s.views ≤ sum_by living s.views = sum_le out living s.views (λ i v e. (r.fits i v e).one) in
      one_turn r.at.serving n (2 ^ 64) low (omega (arith, r.as_many, r.few, r.most)) same

  pub draws : (slots : ℕ) (i : ℕ) (me : Me (Spot K) (SeatView E G)) → me.0.alive ≡ true → me.0.number ≡ None
      → Allows (Ruled m footing seats) slots i me 0 (λ n. (n + 1) % 2 ^ 64) (drawn some_step me)
  draws slots i me alive idle s r long at small =
      let v = me.0 in
      let f = r.fits i v at in
      let w = waiting r.at.ticket v in
      let t : LockState E = record r.at { ticket = r.at.ticket + 1 } in
      let many = r.as_many in
      let none : out v ≡ 0 = rw idle in
      let lives : living v ≡ 1 = rw alive in
      let holds_not : v.holds ≡ true → ⊥ = λ h. some_none v.number r.at.serving idle (f.turn h).0 in (
        w,
        keeps,
        tt,
        change m footing seats s r i v w at _ s.homes t
            (draw_words s.words r.at r.words_are)
            (omega arith)
            (omega arith)
            (omega arith, r.most.0)
            r.callers
            r.published
            (record {
              queue = record {
                one = omega arith;
                within = λ n e. let same : r.at.ticket ≡ n = cc in (omega arith, omega arith);
              };
              turn = λ h. absurd (holds_not h);
              learned = f.learned;
              owns = f.owns;
              posted = f.posted;
            })
            (λ j u apart e a g. (
              still_fits m footing seats s.homes s.homes r.at (r.at.ticket + 1) r.at.serving u g
                  (λ n h. let b = g.within n h in (b.0, omega arith)) g.turn,
              record {
                tickets = λ n e h. let same : r.at.ticket ≡ n = cc in let b = g.within n h in omega arith;
                numbers = a.numbers;
                counts = a.counts;
              },
            ))
            (slot_kept m footing seats s r i v w at t
            (λ h. record
            { kept = h.kept; there = h.there; list = h.list; ground_is = h.ground_is; current = h.current }) (λ h. h)),
        (r.at.ticket, refl, ap (λ ws. get_or ws 0 0) r.words_are),
      )

  pub looks : (slots : ℕ) (i : ℕ) (me : Me (Spot K) (SeatView E G)) (word : ℕ) → Waits me me word
      → Allows (Ruled m footing seats) slots i me 1 (λ n. n) (looked m some_step me)
  looks slots i me word wait s r long at small =
      let v = me.0 in
      let ticket = wait.ticket in
      let mine = ap (λ (x : Me (Spot K) (SeatView E G)). x.0.number) wait.is in
      let empty = ap (λ (x : Me (Spot K) (SeatView E G)). x.1) wait.is in
      let f = r.fits i v at in
      let found : get_or s.words 1 0 ≡ r.at.serving % 2 ^ 64 = ap (λ ws. get_or ws 1 0) r.words_are in
      let same_words : set s.words 1 (get_or s.words 1 0) ≡ atomic_words r.at = rw r.words_are refl in
      let within = f.within ticket mine in
      dite (ℕ_discrete (get_or s.words 1 0) (ticket % 2 ^ 64))
      (λ hit.
      let served : r.at.serving ≡ ticket = near s r ticket within.0 within.1 (sym found ∙ hit) in
      let mine' : v.number ≡ Some r.at.serving = mine ∙ ap Some (sym served) in
      let h =
      at_home m footing seats s r i v at wait.waits (λ u g holds a. a.tickets r.at.serving mine' (g.turn holds).0) in
      let list : m.entries h.kept ≡ r.at.log = h.list in
      let w = at_turn (m.entries h.kept) v in
      let gone : set s.homes 0 none ≡ none ∷ [] = rw h.there refl in (
        w,
        takes 0 (Home h.kept),
        ap (λ (hs : List (Maybe (Spot K))). get_elem? hs 0) h.there,
        change m footing seats s r i v w at _ (set s.homes 0 none) r.at
            same_words
            (omega arith)
            (omega arith)
            (omega arith, r.most.0)
            r.callers
            r.published
            (record {
              queue = f.queue;
              turn = λ _. (mine', list, gone);
              learned =
                  record { saw = all_seen m.caller (m.entries h.kept) r.at.log v.mine list; absorbed = f.absorbed };
              owns = f.owns;
              posted = λ which. let p = f.posted which in record {
                knows = p.knows;
                current = λ _. subst (λ l. m.shown which l ≤ value which r.at) (sym list) (h.current which);
                owes = λ _. refl;
              };
            })
            (λ j u apart e a g. (
              still_fits m footing seats s.homes (set s.homes 0 none) r.at r.at.ticket r.at.serving u g g.within
                  (λ h. others_wait m footing seats s.homes r.at v u mine' a g h),
              record { tickets = a.tickets; numbers = a.numbers; counts = a.counts },
            ))
            (inr (is_out (set s.homes 0 none) s.views i v w at gone refl)),
        λ ticket' mine''. (
          (λ _. record {
            kept = h.kept;
            holds = ap (λ (l : List (ℕ × Spot K)). (w, (0, Home h.kept) ∷ l)) empty;
            begins = subst (IsPrefix v.seen) (sym list) f.saw.begins;
            own = λ n c. f.saw.own n c ∙ ap (of m.caller n) (sym list);
            ground_is = f.ground_is wait.alive ∙ ap Some (sym h.ground_is);
          }),
          (λ miss. absurd (miss (hit ∙ ap (λ k. k % 2 ^ 64) (same_number v.number ticket ticket' mine mine'')))),
        ),
      ))
      (λ miss. (
        v,
        keeps,
        tt,
        change m footing seats s r i v v at _ s.homes r.at
            same_words
            (omega arith)
            (omega arith)
            (omega arith, r.most.0)
            r.callers
            r.published
            f
            (λ j u apart e a g. (g, a))
            (slot_kept m footing seats s r i v v at r.at (λ h. h) (λ h. h)),
        λ ticket' mine''. (
          (λ hit. absurd (miss (hit ∙ ap (λ k. k % 2 ^ 64) (same_number v.number ticket' ticket mine'' mine)))),
          (λ _. refl),
        ),
      ))

  -- ---- Steps of the seat that holds the turn

  -- of an entry more, at the end of the list: what another seat has seen stays so
  saw_more : (log : List E) (e : E) (now : List E) (numbers : List ℕ) (seen : List E) → now ≡ log ++ e ∷ []
      → ((n : ℕ) → Contains numbers n → m.caller e ≢ n)
      → Saw m.caller log numbers seen → Saw m.caller now numbers seen
  saw_more log e now numbers seen more other saw = record {
    begins = subst (IsPrefix seen) (sym more) (prefix_more seen log (e ∷ []) saw.begins);
    own = λ n c. saw.own n c ∙ sym (ap (of m.caller n) more ∙ of_other m.caller n log e (other n c));
  }

  learned_more : (log : List E) (e : E) (now : List E) (u : SeatView E G) → now ≡ log ++ e ∷ []
      → ((n : ℕ) → Contains u.mine n → m.caller e ≢ n)
      → Learned m.caller log u.mine u.seen u.absorbed → Learned m.caller now u.mine u.seen u.absorbed
  learned_more log e now u more other l = record {
    saw = saw_more log e now u.mine u.seen more other l.saw;
    absorbed = λ k d lt. let x = l.absorbed k d lt in
        record { saw = saw_more log e now _ _ more (λ n c. other n (x.within n c)) x.saw; within = x.within };
  }

  pub counts_one : (slots : ℕ) (i : ℕ) (me : Me (Spot K) (SeatView E G)) (named : Snapshot K) (e : E)
      → me.1 ≡ (0, Counted named) ∷ [] → me.0.holds ≡ true → me.0.absorbed ≡ []
      → m.entries named.value ≡ me.0.seen ++ e ∷ [] → Contains me.0.mine (m.caller e)
      → length (m.entries named.value) < 2 ^ 64
      → Allows (Ruled m footing seats) slots i me 2 (λ n. (n + 1) % 2 ^ 64) (counts m some_step me)
  counts_one slots i me named e has holds absorbed more own few s r long at small =
      let v = me.0 in
      let f = r.fits i v at in
      let turn = f.turn holds in
      let now = m.entries named.value in
      let w = counted now v in
      let t : LockState E = record r.at { log = now } in
      let longer_by : now ≡ r.at.log ++ e ∷ [] = more ∙ ap (λ l. l ++ e ∷ []) turn.1 in
      let given = f.given (m.caller e) own in
      let shows : (which : Shown) → value which r.at ≤ m.shown which now =
      λ which. let a =
      r.published which in let b =
      m.shown_grows which r.at.log (e ∷ []) in let c = ap (m.shown which) longer_by in omega arith in (
        w,
        keeps,
        tt,
        change m footing seats s r i v w at _ s.homes t
            (count_words s.words r.at e now r.words_are longer_by few)
            (omega arith)
            (omega arith)
            (omega arith, r.most.0)
            (λ n high. ap (of m.caller n) longer_by ∙ of_other m.caller n r.at.log e (λ h. omega arith)
            ∙ r.callers n high)
            shows
            (record {
              queue = f.queue;
              turn = λ h. (turn.0, refl, turn.2);
              learned = record {
                saw = all_seen m.caller now now v.mine refl;
                absorbed = subst (All (Absorbed m.caller now v.mine)) (sym absorbed) (λ k d lt. absurd (omega arith));
              };
              owns = f.owns;
              posted = counted_posted v now m.shown (λ which. value which r.at) f.posted holds;
            })
            (λ j u apart e' a g. (
              record {
                queue = g.queue;
                turn = λ h. others_wait m footing seats s.homes r.at v u turn.0 a g h;
                learned = learned_more r.at.log e now u longer_by
                    (λ n c h. a.numbers n (subst (Contains v.mine) h own) c) g.learned;
                owns = g.owns;
                posted = g.posted;
              },
              record { tickets = a.tickets; numbers = a.numbers; counts = a.counts },
            ))
            (inr (is_out s.homes s.views i v w at turn.2 holds)),
        λ named' has'. let same : named ≡ named' =
            ap (named_in named) (sym has ∙ has') in ap (λ (x : Snapshot K). (counted (m.entries x.value) v, me.1)) same,
      )

  pub publishes_one : (slots : ℕ) (st : Step (Spot K)) (i : ℕ) (me : Me (Spot K) (SeatView E G)) (which : Shown) (n : ℕ)
      → st.word ≡ atomic_word_of which
      → me.0.holds ≡ true → n ≡ m.shown which me.0.seen
      → Allows (Ruled m footing seats) slots i me (atomic_word_of which) (λ _. n) (λ _. publishes st me n)
  publishes_one slots st i me which n word holds is s r long at small =
      let v = me.0 in
      let f = r.fits i v at in
      let turn = f.turn holds in
      let w = published which v in
      let t = with_value which n r.at in
      let there : m.shown which r.at.log ≡ n = ap (m.shown which) (sym turn.1) ∙ sym is in
      let low : value which r.at ≤ n = let p = r.published which in omega arith in (
        w,
        keeps,
        tt,
        change m footing seats s r i v w at _ s.homes t
            (publish_words which s.words r.at n r.words_are)
            (omega arith)
            (omega arith)
            (omega arith, r.most.0)
            r.callers
            (each_shown (λ each k _. k ≤ m.shown each r.at.log) which n n (λ each. value each r.at)
            (λ each. value each r.at) (omega arith) r.published)
            (record {
              queue = f.queue;
              turn = f.turn;
              learned = f.learned;
              owns = f.owns;
              posted = published_posted which v n m.shown r.at f.posted low (sym is);
            })
            (λ j u apart e a g. (
              record {
                queue = g.queue;
                turn = g.turn;
                learned = g.learned;
                owns = g.owns;
                posted = λ each. let p = g.posted each in let up = value_grows which r.at n low each in record {
                  knows = omega arith;
                  current = λ e'. let c = p.current e' in omega arith;
                  owes = p.owes;
                };
              },
              record { tickets = a.tickets; numbers = a.numbers; counts = a.counts },
            ))
            (inr (is_out s.homes s.views i v w at turn.2 holds)),
        λ each same. ap (λ k. (published k v, me.1)) (same_word which each (sym word ∙ same)),
      )

  pub loads_one : (slots : ℕ) (st : Step (Spot K)) (i : ℕ) (me : Me (Spot K) (SeatView E G)) (which : Shown)
      → st.word ≡ atomic_word_of which
      → Allows (Ruled m footing seats) slots i me (atomic_word_of which) (λ n. n) (loads m st me)
  loads_one slots st i me which word s r long at small =
      let v = me.0 in
      let f = r.fits i v at in
      let p = f.posted which in
      let n = get_or s.words (atomic_word_of which) 0 in
      let found : n ≡ value which r.at = load_finds which s.words r.at r.words_are in
      let w = loaded which n v in (
        w,
        keeps,
        tt,
        change m footing seats s r i v w at _ s.homes r.at
            (load_words which s.words r.at r.words_are)
            (omega arith)
            (omega arith)
            (omega arith, r.most.0)
            r.callers
            r.published
            (record {
              queue = f.queue;
              turn = f.turn;
              learned = f.learned;
              owns = f.owns;
              posted = loaded_posted which v n m.shown (λ each. value each r.at) f.posted found;
            })
            (λ j u apart e a g. (g, record { tickets = a.tickets; numbers = a.numbers; counts = a.counts }))
            (slot_kept m footing seats s r i v w at r.at (λ h. h) (λ h. h)),
        λ each same. subst (λ k. Loads m k me n (loaded which n v, me.1)) (same_word which each (sym word ∙ same)) (
            record { knows = refl; grows = omega arith; current = λ e. let c = p.current e in omega arith }
            ),
      )

  pub passes : (slots : ℕ) (i : ℕ) (me : Me (Spot K) (SeatView E G)) (kept : K) → me.1 ≡ (0, Home kept) ∷ []
      → me.0.alive ≡ true → me.0.holds ≡ true
      → m.entries kept ≡ me.0.seen → me.0.footing ≡ Some (m.footing kept)
      → ((which : Shown) → (known which me.0).owes ≡ false)
      → Allows (Ruled m footing seats) slots i me 1 (λ n. (n + 1) % 2 ^ 64) (passes_on some_step me)
  passes slots i me kept has alive holds list ground_is paid s r long at small =
      let v = me.0 in
      let f = r.fits i v at in
      let turn = f.turn holds in
      let w = passed_on v in
      let t : LockState E = record r.at { serving = r.at.serving + 1 } in
      let one : out v ≡ 1 = rw turn.0 in
      let home : homes_after s.homes me.1 gives ≡ some (Home kept) ∷ [] = rw (has, turn.2) refl in (
        w,
        gives,
        tt,
        change m footing seats s r i v w at _ (homes_after s.homes me.1 gives) t
            (pass_words s.words r.at r.words_are)
            (omega arith)
            (omega arith)
            (omega arith, r.most.0)
            r.callers
            r.published
            (idle_fits m footing seats (homes_after s.homes me.1 gives) t w refl refl f.learned f.owns
            (λ which. let p = f.posted which in
            record { knows = p.knows; current = p.current; owes = λ e. absurd (true≢false (sym e ∙ paid which)) }))
            (λ j u apart e a g. (
              still_fits m footing seats s.homes (homes_after s.homes me.1 gives) r.at r.at.ticket (r.at.serving + 1) u
                  g
                  (λ n h. let b = g.within n h in
                  (served_on n r.at.serving b.0 (λ same. a.tickets n (turn.0 ∙ ap Some (sym same)) h), b.1))
                  (λ h. others_wait m footing seats s.homes r.at v u turn.0 a g h),
              record { tickets = λ n e' h. absurd (cc); numbers = a.numbers; counts = a.counts },
            ))
            (inl (record {
              kept = kept;
              there = home;
              list = list ∙ turn.1;
              ground_is = same_Some _ _ (sym ground_is ∙ f.ground_is alive);
              current = λ which. subst (λ l. m.shown which l ≤ value which r.at) turn.1
                  ((f.posted which).current (paid which));
            })),
        ap (λ (l : List (ℕ × Spot K)). (w, rest l)) has,
      )
