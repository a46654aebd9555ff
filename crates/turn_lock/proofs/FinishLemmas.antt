-- One seat that all others were joined into knows what each of them knew.
use Rattle.std.proofs.Common.{◌≡◌, ℕ, zero, suc, ◌<◌, ◌≤◌, ◌==◌, Bool, true, false, cond}
use Rattle.std.proofs.Common.{List, [], ◌∷◌, ◌++◌, map, length, get_or, All, Contains, None, refl}
use Rattle.std.proofs.Math.Seq.{take-append_seam, drop-append_seam}
use Rattle.std.proofs.Common.{sym, ap, ◌∙◌, subst, arith, true≢false, eq-eqb, append_assoc}
use native.Mathlib.Decide.{dec_le}
use mathlib.Core.Option.{some, some-injective}
use lib.ListN.{get_elem?}
use Rattle.atomic_table.specs.Table.{Final, Seen}
use Rattle.std.proofs.lemmas.List.Elements.{All-cons, All-tail, All-push, All-take, All-drop, Contains-append_left}
use Rattle.std.proofs.lemmas.List.Elements.{Contains-append_right}
use Rattle.turn_lock.specs.declared.kept.Kept.{Ghosts}
use Rattle.turn_lock.specs.declared.lock.TurnLock.{TurnLock}
use Rattle.turn_lock.specs.declared.pass.TurnPass.{TurnPass}
use Rattle.turn_lock.specs.declared.table.Spot.{Spot}
use Rattle.turn_lock.specs.declared.table.Spot.TheVariants.{Home, Away, Counted}
use Rattle.turn_lock.specs.declared.view.SeatView.{SeatView}
use Rattle.turn_lock.specs.Calls.Finish.{Keeps, Finishes, Agrees, Covers, Gathered, Ends}
use Rattle.turn_lock.specs.Entries.{of}
use Rattle.turn_lock.specs.Passes.{view, seats_of}
use Rattle.turn_lock.specs.Rule.{Saw, Ruled}
use Rattle.turn_lock.specs.Views.{joined}
use Rattle.turn_lock.proofs.SeatLemmas.{known_joined, ends}

module _ {A : Type 0} (P : A → Type 0) where
  pub all_left : (xs ys : List A) → All P (xs ++ ys) → All P xs
  all_left xs ys all = subst (All P) (take-append_seam xs ys) (All-take P (length xs) (xs ++ ys) all)

  pub all_right : (xs ys : List A) → All P (xs ++ ys) → All P ys
  all_right xs ys all = subst (All P) (drop-append_seam xs ys) (All-drop P (length xs) (xs ++ ys) all)

module _ {E G : Type 0} (caller : E → ℕ) where
  pub covers_self : (v : SeatView E G) → Covers caller v v
  covers_self v = record { agrees = λ log a. a; numbers = λ n c. c; knows = λ which. omega arith }

  pub covers_more : (u v w : SeatView E G) → Covers caller u v → Covers caller v w → Covers caller u w
  covers_more u v w a b = record {
    agrees = λ log x. b.agrees log (a.agrees log x);
    numbers = λ n c. a.numbers n (b.numbers n c);
    knows = λ which. let x = a.knows which in let y = b.knows which in omega arith;
  }

  rest : (v w : SeatView E G) (log : List E) → Agrees caller log (joined v w)
      → All (λ t. Saw caller log t.0 t.1) (v.absorbed ++ w.absorbed)
  rest v w log a =
      let P = λ (t : List ℕ × List E). Saw caller log t.0 t.1 in
      All-tail P (w.mine, w.seen) (v.absorbed ++ w.absorbed)
      (All-tail P (v.mine, v.seen) ((w.mine, w.seen) ∷ (v.absorbed ++ w.absorbed)) a.absorbed)

  pub covers_left : (v w : SeatView E G) → Covers caller (joined v w) v
  covers_left v w = record {
    agrees = λ log a. record {
      saw = a.absorbed 0 (v.mine, v.seen) (omega arith);
      absorbed =
          all_left (λ t. Saw caller log t.0 t.1) v.absorbed w.absorbed (rest v w log a);
    };
    numbers = λ n c. Contains-append_left v.mine w.mine n c;
    knows = λ which. let k = ap (λ x. x.number) (known_joined which v w) in omega arith;
  }

  pub covers_right : (v w : SeatView E G) → Covers caller (joined v w) w
  covers_right v w = record {
    agrees = λ log a. record {
      saw = a.absorbed 1 (w.mine, w.seen) (omega arith);
      absorbed =
          all_right (λ t. Saw caller log t.0 t.1) v.absorbed w.absorbed (rest v w log a);
    };
    numbers = λ n c. Contains-append_right v.mine w.mine n c;
    knows = λ which. let k = ap (λ x. x.number) (known_joined which v w) in omega arith;
  }

  pub covers_first : (v w u first : SeatView E G) → u ≡ joined v w → Covers caller v first → Covers caller u first
  covers_first v w u first is c =
      subst (λ x. Covers caller x first) (sym is) (covers_more (joined v w) v first (covers_left v w) c)

-- what else a seat knows once another was joined into it
pub gathered : {E G : Type 0} (v w u : SeatView E G) → u ≡ joined v w
    → (u.alive ≡ v.alive) × (u.number ≡ None) × (u.holds ≡ false) × (u.footing ≡ v.footing)
gathered v w u is = (ap (λ x. x.alive) is, ap (λ x. x.number) is, ap (λ x. x.holds) is, ap (λ x. x.footing) is)

-- who calls is one of those below the number of seats, if no number from there on has an entry
below : {E : Type 0} (caller : E → ℕ) (seats : ℕ) (list : List E) → ((n : ℕ) → seats ≤ n → of caller n list ≡ [])
    → All (λ e. caller e < seats) list
below caller seats [] none = λ k d lt. absurd (omega arith)
below caller seats (e ∷ list) none =
    All-cons (λ (x : _). caller x < seats) e list (first (dec_le seats (caller e)))
    (below caller seats list (λ n high. tail n (caller e == n) (none n high)))
  where
    first : Dec (seats ≤ caller e) → caller e < seats
    first (yes high) = absurd (here (caller e == caller e) (eq-eqb (caller e) (caller e) refl) (none (caller e) high))
      where
        here : (b : Bool) → b ≡ true → cond b (e ∷ of caller (caller e) list) (of caller (caller e) list) ≡ [] → ⊥
        here true is h = cc
        here false is h = true≢false (sym is)
    first (no low) = omega arith

    tail : (n : ℕ) (b : Bool) → cond b (e ∷ of caller n list) (of caller n list) ≡ [] → of caller n list ≡ []
    tail n true h = absurd (cc)
    tail n false h = h

-- a number among those of a row is that of a pass in it, which has it
mine_of : {K E G : Type 0} {g : Ghosts K E G} (ps : List (TurnPass K E G g)) (v : SeatView E G)
    → All (λ p. (n : ℕ) → Contains (view p).mine n → Contains v.mine n) ps
    → (n : ℕ) → Contains (map (λ p. p.number) ps) n → Contains v.mine n
mine_of [] v all n c = absurd (omega (arith, c.1))
mine_of (p ∷ ps) v all n (zero, lt, is) =
    all 0 p (omega arith) n (subst (λ (l : List ℕ). Contains l n) (sym p.mine) (0, omega arith, is))
mine_of (p ∷ ps) v all n (suc k, lt, is) =
    mine_of ps v (All-tail (λ q. (n : ℕ) → Contains (view q).mine n → Contains v.mine n) p ps all) n
    (k, omega arith, is)

-- the value that is home at the end, if this is what was in the slot
abbrev pub Ended : {K E G : Type 0} (m : Ghosts K E G) (seats : ℕ) (v : SeatView E G) → Spot K → Type 0
Ended m seats v (Home kept) = Ends m seats v kept
Ended m seats v Away = ⊥
Ended m seats v (Counted named) = ⊥

-- what is taken out of the slot at the end is the value
pub ended : {K E G : Type 0} (m : Ghosts K E G) (footing : G) (seats : ℕ) (i : ℕ) (v : SeatView E G)
    → (v.alive ≡ true) × (v.holds ≡ false) → ((n : ℕ) → n < seats → Contains v.mine n)
    → (ws : List ℕ) (xs : List (Spot K)) → Final (Seen (Ruled m footing seats) i v) ws xs
    → (home spot : Spot K) → get_elem? xs 0 ≡ some home → home ≡ spot → Ended m seats v spot
ended m footing seats i v idle all ws xs final home spot there is =
    let e = ends m footing seats i v idle.0 idle.1 all ws xs final in
    subst (Ended m seats v) (some-injective _ _ (sym e.1 ∙ there) ∙ is) e.2

-- ---- The passes in a row

pub moved_on : {A : Type 0} (taken xs ys all : List A) (x : A) → xs ≡ x ∷ ys → taken ++ xs ≡ all
    → (taken ++ x ∷ []) ++ ys ≡ all
moved_on taken xs ys all x is cut = append_assoc taken (x ∷ []) ys ∙ ap (λ l. taken ++ l) (sym is) ∙ cut

module _ {K E G : Type 0} {g : Ghosts K E G} (caller : E → ℕ) where
  pub covers_next : (v u : SeatView E G) (ps : List (TurnPass K E G g)) (p : TurnPass K E G g) → u ≡ joined v (view p)
      → All (λ q. Covers caller v (view q)) ps → All (λ q. Covers caller u (view q)) (ps ++ p ∷ [])
  covers_next v u ps p is all =
      All-push (λ (q : TurnPass K E G g). Covers caller u (view q)) ps p
      (λ k d lt. covers_first caller v (view p) u (view (get_or ps k d)) is (all k d lt))
      (subst (λ x. Covers caller x (view p)) (sym is) (covers_right caller v (view p)))

-- ---- What `finish` promises, from what the one seat knows

module _ {K E G : Type 0} {g : Ghosts K E G} where
  -- all numbers are the seat's
  pub has_all : (v : SeatView E G) (first : TurnPass K E G g) (others : List (TurnPass K E G g)) (seats : ℕ)
      → Gathered v first others → ((n : ℕ) → n < seats → Contains (map (λ p. p.number) (first ∷ others)) n)
      → (n : ℕ) → n < seats → Contains v.mine n
  has_all v first others seats all names n low =
      mine_of (first ∷ others) v
      (All-cons (λ p. (k : ℕ) → Contains (view p).mine k → Contains v.mine k) first others all.first_is.numbers
      (λ k d lt. (all.others_are k d lt).numbers))
      n (names n low)

  keeps : (seats : ℕ) (v : SeatView E G) (kept : K) (p : TurnPass K E G g) → Ends g seats v kept
      → Covers g.caller v (view p) → Keeps (g.entries kept) p
  keeps seats v kept p e c =
      let a = c.agrees (g.entries kept) e.agrees in record {
        begins = a.saw.begins;
        own = sym (a.saw.own p.number
            (subst (λ (l : List ℕ). Contains l p.number) (sym p.mine) (0, omega arith, refl)));
        knew = λ which. let x = c.knows which in let y = e.knows which in omega arith;
      }

  pub finishes : (lock : TurnLock K E G) (v : SeatView E G) (first : TurnPass K E G g)
      (others : List (TurnPass K E G g)) (kept : K)
      → Gathered v first others → Ends g (seats_of lock) v kept → Finishes lock first others kept
  finishes lock v first others kept all e = record {
    ground_is = sym all.footing_is ∙ e.ground_is;
    first_is = keeps (seats_of lock) v kept first e all.first_is;
    others_are = λ k d lt. keeps (seats_of lock) v kept (get_or others k d) e (all.others_are k d lt);
    no_others = below g.caller (seats_of lock) (g.entries kept) e.callers;
  }
