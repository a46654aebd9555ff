-- In a cycle each due controller runs once, predecessors first.
use Rattle.std.proofs.Common.{◌≡◌, ℕ, suc, ◌<◌, ◌≤◌, true, false, List, [], ◌∷◌, length, get_or}
use Rattle.std.proofs.Common.{map, None, inl, inr, refl, sym, ◌∙◌, subst, ap, true≢false, arith}
use Rattle.std.specs.Prelude.{◌==◌, ◌&&◌, not, filter, AllPairs}
use Rattle.std.specs.List.{All, AllByRecursion, IsDistinct, Contains, list_any}
use Rattle.std.proofs.lemmas.Bool.{and_parts, and_from, eqb-true, eq-eqb, ne_eqb, false_from_ne_true}
use Rattle.std.proofs.lemmas.List.Elements.{All-nil, All-cons, All-head, All-tail, Contains-get_or}
use Rattle.std.proofs.lemmas.List.Kept.{AllPairs-cons, AllPairs-filter}
use Rattle.std.specs.Cmp.{both_ways}
use Rattle.sequence.proofs.ListLemmas.{any_map}
use Rattle.cm_document.proofs.DistinctLemmas.{all_map}
use Rattle.cm_document.specs.Links.{first_in_loop}
use Rattle.cm_model.proofs.InterfaceLemmas.{all_map_back}
use Rattle.cm_model.proofs.UpdateLemmas.{cycle_tells}
use Rattle.cm_model.specs.Components.{is_listed}
use Rattle.cm_model.specs.Cycle.{active_order, is_due_now, is_held_off, updated_in, cycle}
use Rattle.cm_model.specs.Order.{precedes_at, depth}
use Rattle.cm_storage.specs.Ran.{Ran}
use Rattle.cm_model.specs.Serials.{serials_of}
use Rattle.cm_model.specs.Sound.{is_to_run, serial_precedes, NoneLater, EachRunsOnce}
use Rattle.cm_model.specs.State.{State, Loaded, is_active, active}
use Rattle.chain_order.proofs.DepthLemmas.{depth-rises}
use Rattle.chain_order.proofs.OrderLemmas.{pairs-head, pairs-tail, ByRank, by_rank-sorted}
use Rattle.switch_plan.proofs.ElementLemmas.{none_inside, first_or_later, some_of, any_from, filter_back, filter_from}
use Rattle.sound_laws.proofs.ActiveLemmas.{in_active_order, from_active_order}
use Rattle.sound_laws.proofs.ParamsLemmas.{all_at}

-- ---- Lists

by_index : {A : Type 0} (P : A → Type 0) (xs : List A) → AllByRecursion P xs → All P xs
by_index P [] all = All-nil P
by_index P (x ∷ xs) all = All-cons P x xs all.0 (by_index P xs all.1)

by_recursion : {A : Type 0} (P : A → Type 0) (xs : List A) → All P xs → AllByRecursion P xs
by_recursion P [] all = tt
by_recursion P (x ∷ xs) all = (All-head P x xs all, by_recursion P xs (All-tail P x xs all))

-- ---- Serials

-- the two are loaded under different serials
abbrev Differ : Loaded → Loaded → Type 0
Differ a b = (a.serial == b.serial) ≡ false

distinct_pairs : (ls : List Loaded) → IsDistinct (λ m n. m == n) (serials_of ls) → AllPairs Differ ls
unfolding IsDistinct
distinct_pairs [] once = λ i j d before within. absurd (omega (arith, within))
distinct_pairs (l ∷ ls) once =
    AllPairs-cons Differ l ls
    (by_index (Differ l) ls (all_map_back (λ n. (l.serial == n) ≡ false) (λ (m : Loaded). m.serial) ls once.0))
    (distinct_pairs ls once.1)

pairs_distinct : (ls : List Loaded) → AllPairs Differ ls → IsDistinct (λ m n. m == n) (serials_of ls)
unfolding IsDistinct
pairs_distinct [] each = tt
pairs_distinct (l ∷ ls) each = (
  all_map (λ n. (l.serial == n) ≡ false) (λ (m : Loaded). m.serial) ls
      (by_recursion (Differ l) ls (pairs-head Differ l ls each)),
  pairs_distinct ls (pairs-tail Differ l ls each),
)

-- a serial is that of one loaded controller
pub one_of_serial : (ls : List Loaded) → IsDistinct (λ m n. m == n) (serials_of ls) → (a b : Loaded) → Contains ls a
    → Contains ls b → a.serial ≡ b.serial → a ≡ b
unfolding IsDistinct
one_of_serial [] once a b inside also same = absurd (none_inside a inside)
one_of_serial (l ∷ ls) once a b inside also same =
    let others = all_map_back (λ n. (l.serial == n) ≡ false) (λ (m : Loaded). m.serial) ls once.0 in
    elim (first_or_later l ls a inside) [
      | inl here ↦
          elim (first_or_later l ls b also) [
            | inl there ↦ sym here ∙ there
            | inr after ↦
                let e : l.serial ≡ b.serial = ap (λ (m : Loaded). m.serial) here ∙ same in
                absurd (true≢false
                (sym (eq-eqb l.serial b.serial e)
                ∙ all_at (λ (m : Loaded). (l.serial == m.serial) ≡ false) ls others b after))
          ]
      | inr later ↦
          elim (first_or_later l ls b also) [
            | inl there ↦
                let e : l.serial ≡ a.serial = ap (λ (m : Loaded). m.serial) there ∙ sym same in
                absurd (true≢false
                (sym (eq-eqb l.serial a.serial e)
                ∙ all_at (λ (m : Loaded). (l.serial == m.serial) ≡ false) ls others a later))
            | inr after ↦ one_of_serial ls once.1 a b later after same
          ]
    ]

-- ---- The order of updates

module _ (s : State) (free : first_in_loop s.description.controllers ≡ None)
    (once : IsDistinct (λ m n. m == n) (serials_of s.loaded)) where
  abbrev low : Loaded → ℕ
  low l = depth s.description.controllers (active s) l.place

  -- the first does not come after the second, and is not preceded by it
  abbrev GoesFirst : Loaded → Loaded → Type 0
  GoesFirst a b = Differ a b × (serial_precedes s b.serial a.serial ≡ false)

  -- an active controller is at its place
  active_at : (l : Loaded) → Contains s.loaded l → is_active l ≡ true → active s l.place ≡ true
  active_at l inside runs =
      any_from (λ (m : Loaded). is_active m && m.place == l.place) s.loaded l inside
      (and_from (is_active l) (l.place == l.place) runs (eq-eqb l.place l.place refl))

  -- one that is no deeper is not preceded
  not_preceded : (a b : Loaded) → Contains (active_order s) a → Contains (active_order s) b → low a ≤ low b
      → serial_precedes s b.serial a.serial ≡ false
  not_preceded a b first second small =
      false_from_ne_true (serial_precedes s b.serial a.serial) (λ precedes.
      let of_a = from_active_order s a first in
      let of_b = from_active_order s b second in
      let one = some_of
      (λ (m : Loaded). m.serial == b.serial
      && list_any (λ (k : Loaded). k.serial == a.serial && precedes_at s.description.controllers m.place k.place)
      s.loaded) s.loaded precedes in
      let parts = and_parts (one.0.serial == b.serial)
      (list_any (λ (k : Loaded). k.serial == a.serial && precedes_at s.description.controllers one.0.place k.place)
      s.loaded) one.2 in
      let other = some_of
      (λ (k : Loaded). k.serial == a.serial && precedes_at s.description.controllers one.0.place k.place) s.loaded
      parts.1 in
      let more = and_parts (other.0.serial == a.serial)
      (precedes_at s.description.controllers one.0.place other.0.place) other.2 in
      let is_b : one.0 ≡ b =
      one_of_serial s.loaded once one.0 b one.1 of_b.0 (eqb-true one.0.serial b.serial parts.0) in
      let is_a : other.0 ≡ a =
      one_of_serial s.loaded once other.0 a other.1 of_a.0 (eqb-true other.0.serial a.serial more.0) in
      let leads : precedes_at s.description.controllers b.place a.place ≡ true =
      subst (λ (m : Loaded). precedes_at s.description.controllers m.place a.place ≡ true) is_b
      (subst (λ (k : Loaded). precedes_at s.description.controllers one.0.place k.place ≡ true) is_a more.1) in
      let less : low b < low a =
      depth-rises s.description.controllers free (active s) b.place a.place (active_at b of_b.0 of_b.1) leads in
      absurd (omega (arith, small, less)))

  -- each goes before those that it precedes
  order_first : AllPairs GoesFirst (active_order s)
  order_first = λ i j d before within.
      let list : List Loaded = active_order s in
      let sorted : AllPairs (ByRank low Differ) list =
      by_rank-sorted low Differ (suc (length s.description.controllers)) (filter is_active s.loaded)
      (AllPairs-filter Differ is_active s.loaded (distinct_pairs s.loaded once)) in
      let a : Loaded = get_or list i d in
      let b : Loaded = get_or list j d in
      let first : Contains list a = Contains-get_or list i d (omega (arith, before, within)) in
      let second : Contains list b = Contains-get_or list j d within in
      by_depth a b first second (sorted i j d before within)
    where
      by_depth : (a b : Loaded) → Contains (active_order s) a → Contains (active_order s) b → ByRank low Differ a b
          → GoesFirst a b
      by_depth a b first second (inl less) = (
        ne_eqb a.serial b.serial (λ (same : a.serial ≡ b.serial).
            let e : a ≡ b =
            one_of_serial s.loaded once a b (from_active_order s a first).0 (from_active_order s b second).0 same in
            let level : low a ≡ low b = ap low e in
            omega (arith, less, level)),
        not_preceded a b first second (omega (arith, less)),
      )
      by_depth a b first second (inr level) = (level.1, not_preceded a b first second (omega (arith, level.0)))

  -- so each stands there once
  pub ordered_once : IsDistinct (λ m n. m == n) (serials_of (active_order s))
  ordered_once = pairs_distinct (active_order s) (λ i j d before within. (order_first i j d before within).0)

  -- so those that are updated
  updated_first : AllPairs GoesFirst (updated_in s)
  updated_first =
      AllPairs-filter GoesFirst (λ (l : Loaded). is_due_now s l && not (is_held_off s l)) (active_order s) order_first

  -- of those that go so before one another none is told before one that precedes it
  none_later : (ls : List Loaded) → AllPairs GoesFirst ls → NoneLater (λ n m. serial_precedes s m n) (serials_of ls)
  none_later [] each = tt
  none_later (l ∷ ls) each = (
    all_map (λ m. serial_precedes s m l.serial ≡ false) (λ (m : Loaded). m.serial) ls
        (by_recursion (λ (m : Loaded). serial_precedes s m.serial l.serial ≡ false) ls
        (λ k d below. (pairs-head GoesFirst l ls each k d below).1)),
    none_later ls (pairs-tail GoesFirst l ls each),
  )

  -- exactly those are told that were to be updated
  told : (serial : ℕ) → is_listed (serials_of (updated_in s)) serial ≡ true
      → list_any (λ (l : Loaded). l.serial == serial && is_to_run s l) s.loaded ≡ true
  told serial listed =
      let r = some_of (λ (l : Loaded). l.serial == serial) (updated_in s)
      (sym (any_map (λ n. n == serial) (λ (l : Loaded). l.serial) (updated_in s)) ∙ listed) in
      let kept = filter_back (λ (l : Loaded). is_due_now s l && not (is_held_off s l)) (active_order s) r.0 r.1 in
      let parts = and_parts (is_due_now s r.0) (not (is_held_off s r.0)) kept.1 in
      let from = from_active_order s r.0 kept.0 in
      any_from (λ (l : Loaded). l.serial == serial && is_to_run s l) s.loaded r.0 from.0
      (and_from (r.0.serial == serial) (is_to_run s r.0) r.2
      (and_from (is_active r.0 && is_due_now s r.0) (not (is_held_off s r.0))
      (and_from (is_active r.0) (is_due_now s r.0) from.1 parts.0) parts.1))

  to_run : (serial : ℕ) → list_any (λ (l : Loaded). l.serial == serial && is_to_run s l) s.loaded ≡ true
      → is_listed (serials_of (updated_in s)) serial ≡ true
  to_run serial any =
      let r = some_of (λ (l : Loaded). l.serial == serial && is_to_run s l) s.loaded any in
      let parts = and_parts (r.0.serial == serial) (is_to_run s r.0) r.2 in
      let run = and_parts (is_active r.0 && is_due_now s r.0) (not (is_held_off s r.0)) parts.1 in
      let due = and_parts (is_active r.0) (is_due_now s r.0) run.0 in
      any_map (λ n. n == serial) (λ (l : Loaded). l.serial) (updated_in s)
      ∙ any_from (λ (l : Loaded). l.serial == serial) (updated_in s) r.0
      (filter_from (λ (l : Loaded). is_due_now s l && not (is_held_off s l)) (active_order s) r.0
      (in_active_order s r.0 r.1 due.0)
      (and_from (is_due_now s r.0) (not (is_held_off s r.0)) due.1 run.1)) parts.0

  -- Each due controller runs once, predecessors first.
  pub runs_once : EachRunsOnce s (map (λ (r : Ran). r.serial) (cycle s).happened.ran)
  runs_once =
      subst (EachRunsOnce s) (sym (cycle_tells s)) (record {
        exactly = λ serial. both_ways (is_listed (serials_of (updated_in s)) serial)
            (list_any (λ (l : Loaded). l.serial == serial && is_to_run s l) s.loaded) (told serial) (to_run serial);
        once = pairs_distinct (updated_in s) (λ i j d before within. (updated_first i j d before within).0);
        predecessors_first = none_later (updated_in s) updated_first;
      })
