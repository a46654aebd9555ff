-- The words of a lock after a step, and what is then known and owed.
use Rattle.std.proofs.Common.{◌≡◌, ◌≢◌, ℕ, ◌+◌, ◌%◌, ◌^◌, ◌<◌, ◌≤◌, true, false, List, [], ◌∷◌, ◌++◌, length}
use Rattle.std.proofs.Common.{get_or, set, refl, sym, ap, ◌∙◌, subst, arith, true≢false, length-append}
use native.Mathlib.Nat.{mod-eq_of_lt}
use Rattle.std.proofs.Math.Nat.{mod-add-mod}
use Rattle.std.specs.declared.snapshot.Snapshot.{Snapshot}
use Rattle.atomic_table.specs.Table.{step}
use Rattle.turn_lock.specs.declared.kept.Shown.{Shown}
use Rattle.turn_lock.specs.declared.kept.Shown.TheVariants.{Cycles, Tickets}
use Rattle.turn_lock.specs.declared.table.Spot.{Spot}
use Rattle.turn_lock.specs.declared.table.Spot.TheVariants.{Home, Away, Counted}
use Rattle.turn_lock.specs.declared.view.SeatView.{SeatView}
use Rattle.turn_lock.specs.Entries.{pick}
use Rattle.turn_lock.specs.Views.{known, counted, published, loaded}
use Rattle.turn_lock.specs.Rule.{LockState, atomic_words, value, with_value, Posted}
use Rattle.turn_lock.specs.Steps.{atomic_word_of, publishes}

-- ---- The words after a step

module _ {E : Type 0} where
  pub draw_words : (ws : List ℕ) (t : LockState E) → ws ≡ atomic_words t
      → set ws 0 ((get_or ws 0 0 + 1) % 2 ^ 64) ≡ atomic_words (record t { ticket = t.ticket + 1 })
  draw_words ws t e =
      rw e (ap (λ n. n ∷ t.serving % 2 ^ 64 ∷ length t.log ∷ t.cycles ∷ t.tickets ∷ [])
      (mod-add-mod t.ticket (2 ^ 64) 1))

  pub pass_words : (ws : List ℕ) (t : LockState E) → ws ≡ atomic_words t
      → set ws 1 ((get_or ws 1 0 + 1) % 2 ^ 64) ≡ atomic_words (record t { serving = t.serving + 1 })
  pass_words ws t e =
      rw e (ap (λ n. t.ticket % 2 ^ 64 ∷ n ∷ length t.log ∷ t.cycles ∷ t.tickets ∷ [])
      (mod-add-mod t.serving (2 ^ 64) 1))

  pub count_words : (ws : List ℕ) (t : LockState E) (e : E) (log : List E) → ws ≡ atomic_words t → log ≡ t.log ++ e ∷ []
      → length log < 2 ^ 64
      → set ws 2 ((get_or ws 2 0 + 1) % 2 ^ 64) ≡ atomic_words (record t { log = log })
  count_words ws t e log is more few =
      let n : length log ≡ length t.log + 1 = ap length more ∙ length-append t.log (e ∷ []) in
      let long : (length t.log + 1) % 2 ^ 64 ≡ length log = mod-eq_of_lt (subst (λ k. k < 2 ^ 64) n few) ∙ sym n in
      rw is (ap (λ k. t.ticket % 2 ^ 64 ∷ t.serving % 2 ^ 64 ∷ k ∷ t.cycles ∷ t.tickets ∷ []) long)

  pub publish_words : (which : Shown) (ws : List ℕ) (t : LockState E) (n : ℕ) → ws ≡ atomic_words t
      → set ws (atomic_word_of which) n ≡ atomic_words (with_value which n t)
  publish_words Cycles ws t n e = rw e refl
  publish_words Tickets ws t n e = rw e refl

  pub load_words : (which : Shown) (ws : List ℕ) (t : LockState E) → ws ≡ atomic_words t
      → set ws (atomic_word_of which) (get_or ws (atomic_word_of which) 0) ≡ atomic_words t
  load_words Cycles ws t e = rw e refl
  load_words Tickets ws t e = rw e refl

  pub load_finds : (which : Shown) (ws : List ℕ) (t : LockState E) → ws ≡ atomic_words t
      → get_or ws (atomic_word_of which) 0 ≡ value which t
  load_finds Cycles ws t e = rw e refl
  load_finds Tickets ws t e = rw e refl

-- ---- What is known and owed after a step

-- where one of the two numbers changes, and with it what is said of it: what holds of the new one, and of each old one
pub each_shown : {A B : Type 0} (P : Shown → A → B → Type 0) (which : Shown) (a : A) (b : B) (old : Shown → A)
    (old' : Shown → B) → P which a b → ((each : Shown) → P each (old each) (old' each)) → (each : Shown)
    → P each (pick each (pick which a (old Cycles)) (pick which (old Tickets) a))
    (pick each (pick which b (old' Cycles)) (pick which (old' Tickets) b))
each_shown P Cycles a b old old' new same Cycles = new
each_shown P Cycles a b old old' new same Tickets = same Tickets
each_shown P Tickets a b old old' new same Cycles = same Cycles
each_shown P Tickets a b old old' new same Tickets = new

-- no published number falls by a publish
pub value_grows : {E : Type 0} (which : Shown) (t : LockState E) (n : ℕ) → value which t ≤ n
    → (each : Shown) → value each t ≤ value each (with_value which n t)
value_grows which t n low =
    each_shown (λ each k _. value each t ≤ k) which n n (λ each. value each t) (λ each. value each t) low
    (λ each. omega arith)

-- the word tells which of the two it is
pub same_word : (which each : Shown) → atomic_word_of which ≡ atomic_word_of each → which ≡ each
same_word Cycles Cycles e = refl
same_word Cycles Tickets e = absurd (omega arith)
same_word Tickets Cycles e = absurd (omega arith)
same_word Tickets Tickets e = refl

module _ {E G : Type 0} where
  -- after a count both publishes are owed
  pub counted_posted : (v : SeatView E G) (now : List E) (shown : Shown → List E → ℕ) (there : Shown → ℕ)
      → ((which : Shown) → Posted (there which) (shown which) (known which v) v.holds v.seen) → v.holds ≡ true
      → (which : Shown) → Posted (there which) (shown which) (known which (counted now v)) v.holds now
  counted_posted v now shown there p holds Cycles =
      record { knows = (p Cycles).knows; current = λ e. absurd (true≢false e); owes = λ _. holds }
  counted_posted v now shown there p holds Tickets =
      record { knows = (p Tickets).knows; current = λ e. absurd (true≢false e); owes = λ _. holds }

  -- after a publish this one is owed no longer
  pub published_posted : (which : Shown) (v : SeatView E G) (n : ℕ) (shown : Shown → List E → ℕ) (t : LockState E)
      → ((each : Shown) → Posted (value each t) (shown each) (known each v) v.holds v.seen) → value which t ≤ n
      → shown which v.seen ≡ n
      → (each : Shown)
      → Posted (value each (with_value which n t)) (shown each) (known each (published which v)) v.holds v.seen
  published_posted which v n shown t p low is =
      each_shown (λ each k l. Posted k (shown each) l v.holds v.seen) which n (record (known which v) { owes = false })
      (λ each. value each t) (λ each. known each v)
      (let k = (p which).knows in
      record { knows = omega arith; current = λ _. omega arith; owes = λ e. absurd (true≢false (sym e)) }) p

  -- after a load the number that was found is known
  pub loaded_posted : (which : Shown) (v : SeatView E G) (n : ℕ) (shown : Shown → List E → ℕ) (there : Shown → ℕ)
      → ((each : Shown) → Posted (there each) (shown each) (known each v) v.holds v.seen) → n ≡ there which
      → (each : Shown) → Posted (there each) (shown each) (known each (loaded which n v)) v.holds v.seen
  loaded_posted which v n shown there p is =
      each_shown (λ each l _. Posted (there each) (shown each) l v.holds v.seen) which
      (record (known which v) { number = n }) n (λ each. known each v) there
      (let k = p which in record { knows = omega arith; current = k.current; owes = k.owes }) p

-- what stands in the hands of the turn's holder
abbrev pub named_in : {K : Type 0} → Snapshot K → List (ℕ × Spot K) → Snapshot K
named_in other [] = other
named_in other ((k, Home kept) ∷ xs) = other
named_in other ((k, Away) ∷ xs) = other
named_in other ((k, Counted named) ∷ xs) = named

pub served_on : (n k : ℕ) → k ≤ n → n ≢ k → k + 1 ≤ n
served_on n k le ne = omega arith
