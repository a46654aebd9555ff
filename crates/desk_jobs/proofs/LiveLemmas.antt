-- A live run: from what its threads leave to one legal, sound and whole history.
use Rattle.std.proofs.Common.{◌≡◌, ℕ, zero, suc, ◌+◌, ◌-◌, ◌≤◌, List, [], ◌∷◌, ◌++◌, length, map, All}
use Rattle.std.proofs.Common.{Option, Some, None, true, refl, sym, ap, subst, ◌∙◌, inl, inr, ◌⊎◌, arith}
use Rattle.std.specs.Prelude.{IfSome, slice_get}
use Rattle.std.specs.List.{AllByRecursion, AllZip, range_with_len}
use Rattle.std.proofs.lemmas.List.{append-nil, length-append, length-map, nil_from_length}
use Rattle.std.proofs.lemmas.List.Elements.{All-from_recursion, recursion_from_All}
use Rattle.std.proofs.lemmas.List.Elements.{AllZip-push, AllZip-get_or, length_all_zip}
use Rattle.std.proofs.lemmas.List.FromFn.{length-range_with_len}
use Rattle.cm_document.specs.declared.call.Call.{Call}
use Rattle.cm_document.specs.declared.document.Document.{Document}
use Rattle.cm_document.specs.declared.script.SessionText.{SessionText}
use Rattle.cm_desk.specs.Desk.{History, now_of}
use Rattle.cm_model.specs.Machine.{LegalFrom}
use Rattle.cm_model.specs.Ports.{LoopConsole}
use Rattle.cm_model.specs.Sessions.{calls_of, entries_by, loop_calls, Follows}
use Rattle.cm_model.specs.Sound.{moments, AreSound}
use Rattle.cm_model.specs.State.{State, Loaded, boot}
use Rattle.cm_model.specs.declared.blanks.Blanks.{Blanks}
use Rattle.cm_model.specs.declared.entry.Entry.{Entry}
use Rattle.console_session.specs.Sessions.{SessionState}
use Rattle.live_run.specs.Loops.{IsAtFirst}
use Rattle.live_run.specs.Sessions.{IsAtItsStart, HasFollowed}
use Rattle.shared_desk.specs.Calls.Home.{HasAllOf, ComesHome}
use Rattle.shared_desk.specs.Calls.Share.{Shares}
use Rattle.shared_desk.specs.Passes.{IsLoopPass, IsSessionPass, history_of}
use Rattle.shared_desk.specs.Ports.{PortGround, ground_of, console_of, loop_console_of}
use Rattle.turn_lock.proofs.Callers.{back_are_all, last_first}
use Rattle.turn_lock.specs.Calls.Finish.{AreAll}
use Rattle.turn_lock.specs.Calls.Make.{Made, IsFresh}
use Rattle.turn_lock.specs.Passes.{view, IsReady}
use Rattle.turn_lock.specs.declared.kept.Kept.{Ghosts}
use Rattle.turn_lock.specs.declared.lock.TurnLock.{TurnLock}
use Rattle.turn_lock.specs.declared.pass.TurnPass.{TurnPass}
use Rattle.desk_jobs.specs.Book.{IsDone}
use Rattle.desk_turns.specs.Jobs.{AreAtFirst}
use Rattle.desk_jobs.specs.Live.{CanStart, HasMadeItsLines, HasRun}
use Rattle.desk_turns.proofs.NumberLemmas.{heads, tails}

-- what is so of two lists behind one another is so of the first
front_of : {X : Type 0} (P : X → Type 0) (xs ys : List X) → AllByRecursion P (xs ++ ys) → AllByRecursion P xs
front_of P [] ys all = tt
front_of P (x ∷ xs) ys all = (all.0, front_of P xs ys all.1)

-- and of the one behind them
last_of : {X : Type 0} (P : X → Type 0) (xs : List X) (y : X) → AllByRecursion P (xs ++ y ∷ []) → P y
last_of P [] y all = all.0
last_of P (x ∷ xs) y all = last_of P xs y all.1

join : {X : Type 0} (xs : List X) (y : X) (ys : List X) → (xs ++ y ∷ []) ++ ys ≡ xs ++ y ∷ ys
join [] y ys = refl
join (x ∷ xs) y ys = λ i. x ∷ join xs y ys i

-- what is so of each is so of the first of those that are left
pub one_of : {X : Type 0} (P : X → Type 0) (xs ys zs all : List X) (y : X) → xs ++ ys ≡ all → ys ≡ y ∷ zs → All P all
    → P y
one_of {X} P xs ys zs all y is next each =
    let whole : (xs ++ y ∷ []) ++ zs ≡ all = join xs y zs ∙ ap (λ (left : List X). xs ++ left) (sym next) ∙ is in
    last_of P xs y
    (front_of P (xs ++ y ∷ []) zs (recursion_from_All P ((xs ++ y ∷ []) ++ zs) (subst (All P) (sym whole) each)))

-- ---- Two lists that are walked side by side

-- as many are left of the one as of the other
as_many_left : {S X Y : Type 0} (f : S → X) (h : S → Y) (walked : List S) (xs : List X) (ys : List Y)
    → length (map f walked ++ xs) ≡ length (map h walked ++ ys) → length xs ≡ length ys
as_many_left f h [] xs ys same = same
as_many_left f h (s ∷ walked) xs ys same = as_many_left f h walked xs ys (omega (arith, same))

-- so where none is left of one of them, none is left of either
none_is_left : {X Y : Type 0} (xs : List X) (ys : List Y) → length xs ≡ length ys → (xs ≡ []) ⊎ (ys ≡ [])
    → (xs ≡ []) × (ys ≡ [])
none_is_left xs ys same (inl none) = (none, nil_from_length ys (sym same ∙ ap length none))
none_is_left xs ys same (inr none) = (nil_from_length xs (same ∙ ap length none), none)

all_walked : {S X : Type 0} (f : S → X) (walked : List S) (xs all : List X) → map f walked ++ xs ≡ all → xs ≡ []
    → map f walked ≡ all
all_walked {S} {X} f walked xs all is none =
    sym (append-nil (map f walked)) ∙ ap (λ (left : List X). map f walked ++ left) (sym none) ∙ is

-- whichever of two is so, this follows
pub whichever : {A B C : Type 0} → A ⊎ B → (A → C) → (B → C) → C
whichever (inl a) f h = f a
whichever (inr b) f h = h b

-- At their ends both were walked whole.
pub both_walked : {S X Y : Type 0} (f : S → X) (h : S → Y) (walked : List S) (xs all_xs : List X) (ys all_ys : List Y)
    → map f walked ++ xs ≡ all_xs → map h walked ++ ys ≡ all_ys → length all_xs ≡ length all_ys → (xs ≡ []) ⊎ (ys ≡ [])
    → (map f walked ≡ all_xs) × (map h walked ≡ all_ys)
both_walked f h walked xs all_xs ys all_ys these theirs many none =
    let left = none_is_left xs ys (as_many_left f h walked xs ys (ap length these ∙ many ∙ sym (ap length theirs)))
    none in
    (all_walked f walked xs all_xs these left.0, all_walked h walked ys all_ys theirs left.1)

-- Where the loop stands after these entries, of a desk that began in this state.
abbrev standing : State → ℕ → List Entry → LoopConsole
standing opening who seen = record {
  who = who;
  made = entries_by who seen;
  left = opening.description.cycles - (now_of (record { opening = opening; made = seen })).ended;
  out = (now_of (record { opening = opening; made = seen })).aloft;
  closed = (now_of (record { opening = opening; made = seen })).closed;
}

-- before the first of so many cycles
standing_at_first : (cycles : ℕ) (opening : State) (who : ℕ)
    → opening ≡ boot opening.description opening.blanks opening.sessions → opening.description.cycles ≡ cycles
    → IsAtFirst cycles (standing opening who [])
standing_at_first cycles opening who booted are =
    let ended : opening.ended ≡ 0 = ap (λ (s : State). s.ended) booted in
    let left : opening.description.cycles - opening.ended ≡ cycles = omega (arith, are, ended) in
    record {
      none = refl;
      left = left;
      home = ap (λ (s : State). s.aloft) booted;
      not_closed = ap (λ (s : State). s.closed) booted;
    }

module _ {K : Type 0} {g : Ghosts K Entry State} where
  -- ---- Before the run

  -- A desk that was booted and shared can start.
  pub can_start : (d : Document) (blanks : Blanks) (desk first : History) (lock : TurnLock K Entry State)
      (sessions : List SessionState)
      (looping : TurnPass K Entry State g) (passes : List (TurnPass K Entry State g))
      → desk ≡ record { opening = boot d.description blanks (length d.script.sessions); made = [] }
      → Shares desk lock first looping passes
      → AreAtFirst 0 sessions → length sessions ≡ length d.script.sessions
      → CanStart d.description.cycles lock first sessions looping passes
  can_start d blanks desk first lock sessions looping passes booted shares at_first many =
      let is : first ≡ record { opening = boot d.description blanks (length d.script.sessions); made = [] } =
      shares.first_is ∙ booted in
      let opening : first.opening ≡ boot d.description blanks (length d.script.sessions) =
      ap (λ (h : History). h.opening) is in
      record {
        booted = subst (λ (s : State). s ≡ boot s.description s.blanks s.sessions) (sym opening) refl;
        none = ap (λ (h : History). h.made) is;
        cycles_are = ap (λ (s : State). s.description.cycles) opening;
        shares = record {
          first_is = refl;
          made = subst (λ (h : History). Made h.opening (h.opening.sessions + 1) lock (passes ++ looping ∷ []))
              (sym shares.first_is) shares.made;
          looping_is = shares.looping_is;
          passes_are = shares.passes_are;
        };
        as_many = many ∙ sym (ap (λ (s : State). s.sessions) opening);
        sessions_are = at_first;
      }

  -- There is a pass for each session.
  pub can_start-as_many : (cycles : ℕ) (lock : TurnLock K Entry State) (first : History) (sessions : List SessionState)
      (looping : TurnPass K Entry State g) (passes : List (TurnPass K Entry State g))
      → CanStart cycles lock first sessions looping passes → length sessions ≡ length passes
  can_start-as_many cycles lock first sessions looping passes can =
      let numbers = ap length can.shares.made.passes_are.numbers in
      let all = length-map (passes ++ looping ∷ []) (λ (p : TurnPass K Entry State g). p.number) in
      let seats = length-range_with_len 0 (first.opening.sessions + 1) in
      let and_loop = length-append passes (looping ∷ []) in
      omega (arith, can.as_many, numbers, all, seats, and_loop)

  -- no pass has seen anything
  seen_nothing : (first : History) (lock : TurnLock K Entry State) (looping : TurnPass K Entry State g)
      (passes : List (TurnPass K Entry State g))
      → Shares first lock first looping passes
      → AllByRecursion (λ (p : TurnPass K Entry State g). IsFresh (Some first.opening) (view p))
      (passes ++ looping ∷ [])
  seen_nothing first lock looping passes shares =
      recursion_from_All (λ (p : TurnPass K Entry State g). IsFresh (Some first.opening) (view p))
      (passes ++ looping ∷ []) shares.made.passes_are.fresh

  -- The loop is before its first cycle.
  pub loop_at_first : (cycles : ℕ) (lock : TurnLock K Entry State) (first : History) (sessions : List SessionState)
      (looping : TurnPass K Entry State g) (passes : List (TurnPass K Entry State g))
      → CanStart cycles lock first sessions looping passes → IsAtFirst cycles (loop_console_of first looping)
  loop_at_first cycles lock first sessions looping passes can =
      let none : (view looping).seen ≡ [] =
      (last_of (λ (p : TurnPass K Entry State g). IsFresh (Some first.opening) (view p)) passes looping
      (seen_nothing first lock looping passes can.shares)).seen in
      subst (λ (seen : List Entry). IsAtFirst cycles (standing first.opening looping.number seen)) (sym none)
      (standing_at_first cycles first.opening looping.number can.booted can.cycles_are)

  -- ---- After it

  -- A session's pass came back: it is ready, has its number, and the entries of that number follow the session's lines.
  pub record IsBack (lock : TurnLock K Entry State) (x : SessionState) (p q : TurnPass K Entry State g) : Type 0 where
    pub ready : IsReady lock q
    pub number : q.number ≡ p.number
    pub follows : Follows x.lines (entries_by q.number (view q).seen)

  -- each of them, in order
  abbrev pub AreBack : TurnLock K Entry State → List SessionState → List (TurnPass K Entry State g)
      → List (TurnPass K Entry State g) → Type 0
  AreBack lock [] [] [] = Unit {0}
  AreBack lock (x ∷ xs) (p ∷ ps) (q ∷ qs) = IsBack lock x p q × AreBack lock xs ps qs
  AreBack lock xs ps qs = ⊥

  -- The loop's pass came back: it is the loop's, and the loop made so many cycles and closed.
  pub record LoopIsBack (cycles : ℕ) (lock : TurnLock K Entry State) (first : History)
      (p q : TurnPass K Entry State g) : Type 0 where
    pub looping_is : IsLoopPass lock first q
    pub number : q.number ≡ p.number
    pub looped : calls_of (entries_by q.number (view q).seen) ≡ loop_calls cycles
    pub closed : (now_of (history_of first.opening q)).closed ≡ true

  pub loop_back : (cycles : ℕ) (lock lock' : TurnLock K Entry State) (first first' : History)
      (p q : TurnPass K Entry State g)
      → IsLoopPass lock first p → IsLoopPass lock' first' q → ground_of first' q ≡ ground_of first p
      → calls_of (loop_console_of first' q).made ≡ loop_calls cycles → (loop_console_of first' q).closed ≡ true
      → LoopIsBack cycles lock first p q
  loop_back cycles lock lock' first first' p q given mine same looped closed =
      let opening : first'.opening ≡ first.opening = ap (λ (f : PortGround). f.opening) same in
      record {
        looping_is = record {
          at = record {
            ready = (ap (λ (f : PortGround). f.lock) same ∙ given.at.ready.0, mine.at.ready.1);
            ground_is = mine.at.ground_is ∙ ap (λ (s : State). Some s) opening;
          };
          loop = ap (λ (f : PortGround). f.who) same ∙ given.loop;
        };
        number = ap (λ (f : PortGround). f.who) same;
        looped = looped;
        closed = subst (λ (s : State). (now_of (history_of s q)).closed ≡ true) opening closed;
      }

  -- passes that are numbered from this number on
  abbrev AreFrom : ℕ → List (TurnPass K Entry State g) → Type 0
  AreFrom n [] = Unit {0}
  AreFrom n (p ∷ ps) = (p.number ≡ n) × AreFrom (suc n) ps

  numbered_from : (n count : ℕ) (ps qs : List (TurnPass K Entry State g))
      → map (λ (p : TurnPass K Entry State g). p.number) (ps ++ qs) ≡ range_with_len n count → AreFrom n ps
  numbered_from n count [] qs same = tt
  numbered_from n zero (p ∷ ps) qs same = cc
  numbered_from n (suc count) (p ∷ ps) qs same =
      let next : n + 1 ≡ suc n = omega arith in
      (heads same, numbered_from (suc n) count ps qs (tails same ∙ ap (λ (m : ℕ). range_with_len m count) next))

  made_their_lines : (lock : TurnLock K Entry State) (n : ℕ) (xs : List SessionState)
      (ps qs : List (TurnPass K Entry State g))
      → AreAtFirst n xs → AreFrom n ps → AreBack lock xs ps qs → AllZip HasMadeItsLines xs qs
  made_their_lines lock n [] [] [] at_first from back = tt
  made_their_lines lock n (x ∷ xs) (p ∷ ps) (q ∷ qs) at_first from back = (
    record {
      number = back.0.number ∙ from.0 ∙ sym (ap (λ (s : SessionState). s.who) at_first.0);
      follows =
          back.0.follows;
    },
    made_their_lines lock (suc n) xs ps qs at_first.1 from.1 back.1,
  )
  made_their_lines lock n xs ps qs at_first from back = absurd back

  -- a pass that was handed out and came back
  abbrev Stays : TurnLock K Entry State → TurnPass K Entry State g → TurnPass K Entry State g → Type 0
  Stays lock p q = IsReady lock q × (q.number ≡ p.number)

  each_stays : (lock : TurnLock K Entry State) (xs : List SessionState) (ps qs : List (TurnPass K Entry State g))
      → AreBack lock xs ps qs → AllZip (Stays lock) ps qs
  each_stays lock [] [] [] back = tt
  each_stays lock (x ∷ xs) (p ∷ ps) (q ∷ qs) back = ((back.0.ready, back.0.number), each_stays lock xs ps qs back.1)
  each_stays lock xs ps qs back = absurd back

  -- All passes came back, so the run came to its end.
  pub has_run : (cycles : ℕ) (lock : TurnLock K Entry State) (first : History) (sessions : List SessionState)
      (looping looping' : TurnPass K Entry State g) (passes passes' : List (TurnPass K Entry State g))
      → CanStart cycles lock first sessions looping passes → LoopIsBack cycles lock first looping looping'
      → AreBack lock sessions passes passes'
      → HasRun cycles lock first sessions looping' passes'
  has_run cycles lock first sessions looping looping' passes passes' can loop back =
      let zipped : AllZip (Stays lock) (passes ++ looping ∷ []) (passes' ++ looping' ∷ []) =
      AllZip-push (Stays lock) passes passes' looping looping' (each_stays lock sessions passes passes' back)
      (loop.looping_is.at.ready, loop.number) in
      let all : AreAll lock (passes' ++ looping' ∷ []) =
      back_are_all lock first.opening (first.opening.sessions + 1) (passes ++ looping ∷ []) (passes' ++ looping' ∷ [])
      can.shares.made
      (sym (length_all_zip (Stays lock) (passes ++ looping ∷ []) (passes' ++ looping' ∷ []) zipped))
      (λ i p q less. AllZip-get_or (Stays lock) (passes ++ looping ∷ []) (passes' ++ looping' ∷ []) i p q zipped
      less) in
      record {
        handed_in = record
            { looping_is = loop.looping_is; all = last_first lock passes' looping' all; closed = loop.closed };
        looped = loop.looped;
        followed = made_their_lines lock 0 sessions passes passes' can.sessions_are
            (numbered_from 0 (first.opening.sessions + 1) passes (looping ∷ []) can.shares.made.passes_are.numbers)
            back;
      }

  -- ---- Consoles

  module _ {P : Type 0} (lock_of : P → TurnLock K Entry State) (first_of : P → History)
      (pass_of : P → TurnPass K Entry State g) where
    -- a console's pass is that of a session of its desk
    abbrev pub HasItsPass : P → Type 0
    HasItsPass p = IsSessionPass (lock_of p) (first_of p) (pass_of p)

    starts_from : (footing : Option State) (n : ℕ) (pairs : List (SessionState × P))
        → AreAtFirst n (map (λ (s : SessionState × P). s.0) pairs)
        → AllByRecursion (λ (p : TurnPass K Entry State g). IsFresh footing (view p))
        (map (λ (s : SessionState × P). pass_of s.1) pairs)
        → AllByRecursion (λ (s : SessionState × P). IsAtItsStart (console_of (first_of s.1) (pass_of s.1)) s.0) pairs
    starts_from footing n [] at_first fresh = tt
    starts_from footing n (s ∷ pairs) at_first fresh = (
      record {
        line = ap (λ (x : SessionState). x.line) at_first.0;
        ticket = ap (λ (x : SessionState). x.ticket) at_first.0;
        none = ap (λ (seen : List Entry). entries_by (pass_of s.1).number seen) fresh.0.seen;
      },
      starts_from footing (suc n) pairs at_first.1 fresh.1,
    )

    -- Each session is before its first line, over the console of its pass.
    pub sessions_at_first : (cycles : ℕ) (lock : TurnLock K Entry State) (first : History)
        (sessions : List SessionState)
        (looping : TurnPass K Entry State g) (passes : List (TurnPass K Entry State g))
        (pairs : List (SessionState × P))
        → CanStart cycles lock first sessions looping passes → map (λ (s : SessionState × P). s.0) pairs ≡ sessions
        → map (λ (s : SessionState × P). pass_of s.1) pairs ≡ passes
        → All (λ (s : SessionState × P). IsAtItsStart (console_of (first_of s.1) (pass_of s.1)) s.0) pairs
    sessions_at_first cycles lock first sessions looping passes pairs can these theirs =
        let fresh = front_of (λ (p : TurnPass K Entry State g). IsFresh (Some first.opening) (view p)) passes
        (looping ∷ []) (seen_nothing first lock looping passes can.shares) in
        All-from_recursion (λ (s : SessionState × P). IsAtItsStart (console_of (first_of s.1) (pass_of s.1)) s.0) pairs
        (starts_from (Some first.opening) 0 pairs
        (subst (λ (xs : List SessionState). AreAtFirst 0 xs) (sym these) can.sessions_are)
        (subst (λ (ps : List (TurnPass K Entry State g)). AllByRecursion
        (λ (p : TurnPass K Entry State g). IsFresh (Some first.opening) (view p)) ps) (sym theirs) fresh))

    -- The pass of a console comes back: it is of the lock that it was of, with its number.
    one_back : (lock : TurnLock K Entry State) (first : History) (s : SessionState × P) (port : P)
        → IsSessionPass lock first (pass_of s.1) → HasItsPass port
        → HasFollowed (λ (p : P). ground_of (first_of p) (pass_of p)) (λ (p : P). console_of (first_of p) (pass_of p)) s
        port
        → IsBack lock s.0 (pass_of s.1) (pass_of port)
    one_back lock first s port given mine followed = record {
      ready = (ap (λ (f : PortGround). f.lock) followed.still ∙ given.at.ready.0, mine.at.ready.1);
      number = ap (λ (f : PortGround). f.who) followed.still;
      follows = followed.follows;
    }

    all_back : (lock : TurnLock K Entry State) (first : History) (pairs : List (SessionState × P)) (ports : List P)
        → AllByRecursion (λ (p : TurnPass K Entry State g). IsSessionPass lock first p)
        (map (λ (s : SessionState × P). pass_of s.1) pairs) → AllByRecursion HasItsPass ports
        → AllZip (HasFollowed (λ (p : P). ground_of (first_of p) (pass_of p))
        (λ (p : P). console_of (first_of p) (pass_of p))) pairs ports
        → AreBack lock (map (λ (s : SessionState × P). s.0) pairs) (map (λ (s : SessionState × P). pass_of s.1) pairs)
        (map pass_of ports)
    all_back lock first [] [] given mine followed = tt
    all_back lock first (s ∷ pairs) (port ∷ ports) given mine followed = (
      one_back lock first s port given.0 mine.0 followed.0,
      all_back lock first pairs ports given.1 mine.1 followed.1,
    )
    all_back lock first pairs ports given mine followed = absurd followed

    -- All of them come back.
    pub sessions_back : (cycles : ℕ) (lock : TurnLock K Entry State) (first : History) (sessions : List SessionState)
        (looping : TurnPass K Entry State g) (passes : List (TurnPass K Entry State g))
        (pairs : List (SessionState × P)) (ports : List P)
        → CanStart cycles lock first sessions looping passes → map (λ (s : SessionState × P). s.0) pairs ≡ sessions
        → map (λ (s : SessionState × P). pass_of s.1) pairs ≡ passes
        → All HasItsPass ports
        → AllZip (HasFollowed (λ (p : P). ground_of (first_of p) (pass_of p))
        (λ (p : P). console_of (first_of p) (pass_of p))) pairs ports
        → AreBack lock sessions passes (map pass_of ports)
    sessions_back cycles lock first sessions looping passes pairs ports can these theirs mine followed =
        let given = recursion_from_All (λ (p : TurnPass K Entry State g). IsSessionPass lock first p) passes
        can.shares.passes_are in
        let back = all_back lock first pairs ports
        (subst (λ (ps : List (TurnPass K Entry State g)). AllByRecursion
        (λ (p : TurnPass K Entry State g). IsSessionPass lock first p) ps) (sym theirs) given)
        (recursion_from_All HasItsPass ports mine) followed in
        subst (λ (xs : List SessionState). AreBack lock xs passes (map pass_of ports)) these
        (subst (λ (ps : List (TurnPass K Entry State g)). AreBack lock (map (λ (s : SessionState × P). s.0) pairs) ps
        (map pass_of ports)) theirs back)

  -- ---- The history

  one_follows : (x : SessionState) (p : TurnPass K Entry State g) (n : ℕ) (lines : List Call) (h : History)
      → HasMadeItsLines x p → HasAllOf h p → x.who ≡ n → x.lines ≡ lines
      → Follows lines (entries_by n h.made)
  one_follows x p n lines h made all who same =
      let number : p.number ≡ n = made.number ∙ who in
      let here : Follows x.lines (entries_by p.number h.made) =
      subst (λ (es : List Entry). Follows x.lines es) (sym all.own) made.follows in
      subst (λ (ls : List Call). Follows ls (entries_by n h.made)) same
      (subst (λ (k : ℕ). Follows x.lines (entries_by k h.made)) number here)

  sessions_follow : (n : ℕ) (texts : List SessionText) (xs : List SessionState) (ps : List (TurnPass K Entry State g))
      (h : History)
      → AreAtFirst n xs → map (λ (x : SessionState). x.lines) xs ≡ map (λ (t : SessionText). t.lines) texts
      → AllZip HasMadeItsLines xs ps → AllByRecursion (HasAllOf h) ps
      → (k : ℕ) → IfSome (slice_get texts k) (λ (t : SessionText). Follows t.lines (entries_by (n + k) h.made))
  sessions_follow n [] xs ps h at_first same made all k = tt
  sessions_follow n (t ∷ texts) [] ps h at_first same made all k = cc
  sessions_follow n (t ∷ texts) (x ∷ xs) [] h at_first same made all k = absurd made
  sessions_follow n (t ∷ texts) (x ∷ xs) (p ∷ ps) h at_first same made all zero =
      one_follows x p (n + 0) t.lines h made.0 all.0 (ap (λ (s : SessionState). s.who) at_first.0 ∙ omega arith)
      (heads same)
  sessions_follow n (t ∷ texts) (x ∷ xs) (p ∷ ps) h at_first same made all (suc k) =
      let next : suc n + k ≡ n + suc k = omega arith in
      subst (λ (m : ℕ). IfSome (slice_get texts k) (λ (u : SessionText). Follows u.lines (entries_by m h.made))) next
      (sessions_follow (suc n) texts xs ps h at_first.1 (tails same) made.1 all.1 k)

  -- What came home is the desk of a live run that is done: its history is legal, sound and whole.
  pub live_done : (d : Document) (blanks : Blanks) (lock : TurnLock K Entry State) (first h : History)
      (sessions : List SessionState)
      (looping : TurnPass K Entry State g) (passes : List (TurnPass K Entry State g))
      → first.opening ≡ boot d.description blanks (length d.script.sessions) → AreAtFirst 0 sessions
      → map (λ (x : SessionState). x.lines) sessions ≡ map (λ (t : SessionText). t.lines) d.script.sessions
      → HasRun d.description.cycles lock first sessions looping passes → ComesHome first looping passes h
      → IsDone None blanks d h
  live_done d blanks lock first h sessions looping passes opening at_first lines run home =
      let many = length d.script.sessions in
      let from : h.opening ≡ boot d.description blanks many = home.opening ∙ opening in
      let seats : first.opening.sessions ≡ many = ap (λ (s : State). s.sessions) opening in
      let loop : looping.number ≡ many = run.handed_in.looping_is.loop ∙ seats in
      let its_own : entries_by many h.made ≡ entries_by looping.number (view looping).seen =
      subst (λ (k : ℕ). entries_by k h.made ≡ entries_by looping.number (view looping).seen) loop home.looping_is.own in
      record {
        opening = from;
        closed = home.closed;
        book_is = record {
          history = tt;
          legal = subst (λ (s : State). LegalFrom s h.made) from home.right.legal;
          sound = subst (λ (s : State). AreSound (moments s h.made)) from home.right.sound;
          whole = record {
            sessions = λ k.
                let same : 0 + k ≡ k = omega arith in
                subst (λ (m : ℕ). IfSome (slice_get d.script.sessions k)
                (λ (t : SessionText). Follows t.lines (entries_by m h.made))) same
                (sessions_follow 0 d.script.sessions sessions passes h at_first lines run.followed
                (recursion_from_All (HasAllOf h) passes home.passes_are) k);
            cycles = ap calls_of its_own ∙ run.looped;
            nobody_else =
                recursion_from_All (λ (e : Entry). e.who ≤ many) h.made
                (subst (λ (k : ℕ). All (λ (e : Entry). e.who ≤ k) h.made) seats home.no_others);
          };
          boxes = ap (λ (s : State). map (λ (l : Loaded). l.ctl)
              (now_of (record { opening = s; made = h.made })).loaded) from;
        };
      }
