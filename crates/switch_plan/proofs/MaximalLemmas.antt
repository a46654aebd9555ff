-- No activation that a best effort drops could join what it leads to.
use Rattle.std.proofs.Common.{◌≡◌, ◌⊎◌, ℕ, ◌<◌, Bool, true, false, List, [], ◌∷◌, ◌++◌, length, get_or}
use Rattle.std.proofs.Common.{Option, Some, None, inl, inr, refl, sym, ◌∙◌, ap, subst, arith}
use Rattle.std.specs.Prelude.{◌≢◌, ◌&&◌, not, ◌==◌, suc, AllPairs, option_map, filter_map}
use Rattle.std.specs.List.{All, Contains, list_any}
use Rattle.std.specs.Option.{option_map_or}
use Rattle.std.proofs.lemmas.Bool.{not-false, and_parts, and_from, or_cases, or_parts, or_from, or_left}
use Rattle.std.proofs.lemmas.Bool.{or_right, eq-eqb, ne_eqb, true≢false, false_from_ne_true, true_from_ne_false}
use Rattle.std.proofs.lemmas.List.Elements.{All-head, All-tail, All-weaker}
use Rattle.std.proofs.lemmas.List.Quantifiers.{position-Some}
use Rattle.std.proofs.lemmas.List.Sorted.{Contains-permutation}
use Rattle.iface_names.specs.declared.interface.IfaceName.{IfaceName}
use Rattle.cm_document.specs.Links.{is_among, refs_of, exporter, first_in_loop}
use Rattle.cm_document.specs.declared.description.CtlDesc.{CtlDesc}
use Rattle.cm_document.specs.declared.call.Pick.{Pick}
use Rattle.cm_model.specs.Order.{Places, nobody, controller_at, precedes_at, with_one, places_of, height}
use Rattle.cm_model.specs.Scene.{Scene, controllers_in, described, active, claims_at, loaded_all, order}
use Rattle.cm_model.specs.Faults.{cause_if, is_missing, rival, conflict_over, is_beside}
use Rattle.cm_model.specs.Faults.{is_mode_taken, joint_name, fault_of_kind, fault}
use Rattle.cm_model.specs.Switches.{off_fault, on_fault, Decided, refused, done}
use Rattle.cm_model.specs.BestEffort.{Joined, joined_with, join, join_all, by_height}
use Rattle.cm_model.specs.BestEffort.{faulty, faultless, stays, kept_drop, reduced, best}
use Rattle.cm_model.specs.declared.cause.Cause.{Cause}
use Rattle.cm_model.specs.declared.cause.Cause.TheVariants as cause
use Rattle.cm_model.specs.declared.cause.Dropped.{Dropped}
use Rattle.cm_model.specs.declared.fault_kind.FaultKind.{FaultKind}
use Rattle.cm_model.specs.declared.fault_kind.FaultKind.TheVariants as fault_kind
use Rattle.cm_model.specs.declared.fault_kind.TheConstants.{FAULT_KINDS}
use Rattle.cm_model.specs.declared.member.Member.{Member}
use Rattle.cm_model.specs.declared.seen.Seen.{Seen}
use Rattle.chain_order.proofs.DepthLemmas.{height-most, height-rises}
use Rattle.chain_order.proofs.OrderLemmas.{pairs-head, pairs-tail, ByRank, by_rank-once, by_rank-sorted}
use Rattle.switch_plan.specs.Laws.{asked_off, tried_on, joined_of, CannotJoin}
use Rattle.switch_plan.proofs.ElementLemmas.{map_none, split_at, any_from, each_fails, none_passes}
use Rattle.switch_plan.proofs.ElementLemmas.{not_found, none_found, first_of-none, first_of-all}
use Rattle.switch_plan.proofs.CauseLemmas.{order_back, order_from}

-- ---- Faults of a member of a larger set

pub cause_if-none : (b : Bool) (c : Cause) → cause_if b c ≡ None → b ≡ false
cause_if-none true c e = cc
cause_if-none false c e = refl

pub none_if : (b : Bool) (c : Cause) → b ≡ false → cause_if b c ≡ None
none_if true c e = cc
none_if false c e = refl

-- a test that fails of what is there fails of nothing else
pub fails_of : {A : Type 0} (f : A → Bool) (o : Option A) → ((x : A) → o ≡ Some x → f x ≡ false)
    → option_map_or f o false ≡ false
fails_of f None fails = refl
fails_of f (Some x) fails = fails x refl

holds_of : {A : Type 0} (f : A → Bool) (o : Option A) (x : A) → o ≡ Some x → option_map_or f o false ≡ false
    → f x ≡ false
holds_of f None x is e = cc
holds_of f (Some y) x is e = ap (λ o. option_map_or f o false) (sym is) ∙ e

module _ (scene : Scene) (on small large : Places) (p : ℕ) (more : (q : ℕ) → small q ≡ true → large q ≡ true)
    (still : (q : ℕ) → precedes_at (controllers_in scene) p q ≡ true → small q ≡ false → large q ≡ false) where
  -- what a claim has as its exporter is preceded
  exported : (i : IfaceName) (q : ℕ) → Contains (described scene p).claims i
      → exporter (controllers_in scene) i ≡ Some q → precedes_at (controllers_in scene) p q ≡ true
  exported i q claims is =
      any_from (λ i. is_among i (refs_of (controller_at (controllers_in scene) q))) (described scene p).claims i claims
      (position-Some (λ (c : CtlDesc). is_among i (refs_of c)) (controllers_in scene) q nobody is).1

  follower-none : fault_of_kind scene large on fault_kind.Follower p ≡ None
      → fault_of_kind scene small on fault_kind.Follower p ≡ None
  follower-none e =
      first_of-all (λ i. cause_if (is_missing (controllers_in scene) small i) (cause.MissingFollower i))
      (described scene p).claims (λ i claims.
      let there : is_missing (controllers_in scene) large i ≡ false =
      cause_if-none (is_missing (controllers_in scene) large i) (cause.MissingFollower i)
      (first_of-none (λ i. cause_if (is_missing (controllers_in scene) large i) (cause.MissingFollower i))
      (described scene p).claims e i claims) in
      none_if (is_missing (controllers_in scene) small i) (cause.MissingFollower i)
      (fails_of (λ q. not (small q)) (exporter (controllers_in scene) i) (λ q is.
      let after : large q ≡ true =
      not-false (large q) (holds_of (λ q. not (large q)) (exporter (controllers_in scene) i) q is there) in
      ap not (true_from_ne_false (small q) (λ out. true≢false (sym after ∙ still q (exported i q claims is) out))))))

  rival-none : (i : IfaceName) → rival scene large p i ≡ None → rival scene small p i ≡ None
  rival-none i e =
      none_found (λ (m : Member). not (m.place == p) && claims_at (controllers_in scene) m.place i) (order scene small)
      (λ m inside.
      let l = order_back scene small m inside in
      let also : Contains (order scene large) m =
      subst (Contains (order scene large)) l.2
      (order_from scene large l.0 l.1 (ap (λ (n : Member). large n.place) l.2 ∙ more m.place l.3)) in
      not_found (λ (m : Member). not (m.place == p) && claims_at (controllers_in scene) m.place i) (order scene large) e
      m also)

  conflict-none : fault_of_kind scene large on fault_kind.Conflict p ≡ None
      → fault_of_kind scene small on fault_kind.Conflict p ≡ None
  conflict-none e =
      first_of-all (conflict_over scene small p) (described scene p).claims (λ i claims.
      let there : rival scene large p i ≡ None =
      map_none (λ (m : Member). cause.Conflict i (described scene m.place).name) (rival scene large p i)
      (first_of-none (conflict_over scene large p) (described scene p).claims e i claims) in
      ap (λ (o : Option Member). option_map (λ (m : Member). cause.Conflict i (described scene m.place).name) o)
      (rival-none i there))

  taken-none : (i : IfaceName) → is_mode_taken scene large i ≡ false → is_mode_taken scene small i ≡ false
  taken-none i e =
      none_passes (λ (l : Seen). small l.place && list_any (is_beside i) (described scene l.place).claims) scene.loaded
      (λ l inside.
      false_from_ne_true (small l.place && list_any (is_beside i) (described scene l.place).claims) (λ both.
      let parts = and_parts (small l.place) (list_any (is_beside i) (described scene l.place).claims) both in
      true≢false (sym
      (and_from (large l.place) (list_any (is_beside i) (described scene l.place).claims) (more l.place parts.0)
      parts.1)
      ∙ each_fails (λ (l : Seen). large l.place && list_any (is_beside i) (described scene l.place).claims) scene.loaded
      e l inside)))

  mode-none : fault_of_kind scene large on fault_kind.Mode p ≡ None
      → fault_of_kind scene small on fault_kind.Mode p ≡ None
  mode-none e =
      first_of-all (λ i. cause_if (is_mode_taken scene small i) (cause.ModeRefused (joint_name i)))
      (described scene p).claims (λ i claims.
      none_if (is_mode_taken scene small i) (cause.ModeRefused (joint_name i))
      (taken-none i (cause_if-none (is_mode_taken scene large i) (cause.ModeRefused (joint_name i))
      (first_of-none (λ i. cause_if (is_mode_taken scene large i) (cause.ModeRefused (joint_name i)))
      (described scene p).claims e i claims))))

  kind-none : (kind : FaultKind) → fault_of_kind scene large on kind p ≡ None
      → fault_of_kind scene small on kind p ≡ None
  kind-none fault_kind.Follower e = follower-none e
  kind-none fault_kind.Availability e = e
  kind-none fault_kind.Conflict e = conflict-none e
  kind-none fault_kind.Mode e = mode-none e
  kind-none fault_kind.Readiness e = e

  -- Without a fault in the larger set it has none in the smaller one, where none that it precedes was added.
  fault-none : fault scene large on p ≡ None → fault scene small on p ≡ None
  fault-none e =
      first_of-all (λ kind. fault_of_kind scene small on kind p) FAULT_KINDS (λ kind inside.
      kind-none kind (first_of-none (λ kind. fault_of_kind scene large on kind p) FAULT_KINDS e kind inside))

-- ---- Who has joined

join_all-append : (scene : Scene) (on : Places) (j : Joined) (xs ys : List Member)
    → join_all scene on j (xs ++ ys) ≡ join_all scene on (join_all scene on j xs) ys
join_all-append scene on j [] ys = refl
join_all-append scene on j (x ∷ xs) ys = join_all-append scene on (join scene on j x) xs ys

module _ (scene : Scene) (on : Places) where
  -- one that has joined stays
  joined_with-more : (p : ℕ) (name : List ℕ) (j : Joined) (o : Option Cause) (q : ℕ) → j.set q ≡ true
      → (joined_with p name j o).set q ≡ true
  joined_with-more p name j None q is = or_right (p == q) (j.set q) is
  joined_with-more p name j (Some c) q is = is

  pub join_all-more : (j : Joined) (ms : List Member) (q : ℕ) → j.set q ≡ true → (join_all scene on j ms).set q ≡ true
  join_all-more j [] q is = is
  join_all-more j (m ∷ ms) q is =
      join_all-more (join scene on j m) ms q
      (joined_with-more m.place (described scene m.place).name j (fault scene (with_one m.place j.set) on m.place) q is)

  -- one that is not tried does not join
  joined_with-out : (p : ℕ) (name : List ℕ) (j : Joined) (o : Option Cause) (q : ℕ) → p ≢ q → j.set q ≡ false
      → (joined_with p name j o).set q ≡ false
  joined_with-out p name j None q other out = or_from (p == q) (j.set q) (ne_eqb p q other) out
  joined_with-out p name j (Some c) q other out = out

  join_all-out : (j : Joined) (ms : List Member) (q : ℕ) → All (λ m. m.place ≢ q) ms → j.set q ≡ false
      → (join_all scene on j ms).set q ≡ false
  join_all-out j [] q others out = out
  join_all-out j (m ∷ ms) q others out =
      join_all-out (join scene on j m) ms q (All-tail (λ m. m.place ≢ q) m ms others)
      (joined_with-out m.place (described scene m.place).name j (fault scene (with_one m.place j.set) on m.place) q
      (All-head (λ m. m.place ≢ q) m ms others) out)

  -- one without a fault joins
  joined_with-joins : (p : ℕ) (name : List ℕ) (j : Joined) (o : Option Cause) → o ≡ None
      → (joined_with p name j o).set p ≡ true
  joined_with-joins p name j None none = or_left (p == p) (j.set p) (eq-eqb p p refl)
  joined_with-joins p name j (Some c) none = cc

  -- so one that has none at its turn has joined in the end
  pub turn_joins : (j : Joined) (all before : List Member) (m : Member) (after : List Member)
      → all ≡ before ++ m ∷ after
      → fault scene (with_one m.place (join_all scene on j before).set) on m.place ≡ None
      → (join_all scene on j all).set m.place ≡ true
  turn_joins j all before m after is none =
      let turn : Joined = join_all scene on j before in
      ap (λ (k : Joined). k.set m.place) (ap (join_all scene on j) is ∙ join_all-append scene on j before (m ∷ after))
      ∙ join_all-more (join scene on turn m) after m.place
      (joined_with-joins m.place (described scene m.place).name turn
      (fault scene (with_one m.place turn.set) on m.place) none)

-- ---- By height

-- those behind an element of a sorted list
pairs-behind : {A : Type 0} (R : A → A → Type 0) (before : List A) (x : A) (after : List A)
    → AllPairs R (before ++ x ∷ after) → All (R x) after
pairs-behind R [] x after each = pairs-head R x after each
pairs-behind R (y ∷ before) x after each = pairs-behind R before x after (pairs-tail R y (before ++ x ∷ after) each)

module _ (scene : Scene) (free : first_in_loop (controllers_in scene) ≡ None) (on : Places) (j : Joined) where
  -- What one that is tried precedes is not tried after it.
  none_later : (ms before : List Member) (m : Member) (after : List Member) (q : ℕ)
      → by_height scene ms ≡ before ++ m ∷ after
      → precedes_at (controllers_in scene) m.place q ≡ true → All (λ n. n.place ≢ q) after
  none_later ms before m after q is leads =
      let low : Member → ℕ = λ (n : Member). height (controllers_in scene) n.place in
      let sorted : AllPairs (ByRank low (λ x y. x ≡ x)) (before ++ m ∷ after) =
      subst (AllPairs (ByRank low (λ x y. x ≡ x))) is
      (by_rank-sorted low (λ x y. x ≡ x) (suc (length (controllers_in scene))) ms (λ i j d first within. refl)) in
      let rises : height (controllers_in scene) q < height (controllers_in scene) m.place =
      height-rises (controllers_in scene) free q m.place leads in
      All-weaker (ByRank low (λ x y. x ≡ x) m) (λ n. n.place ≢ q) (λ n behind e.
      let same : height (controllers_in scene) n.place ≡ height (controllers_in scene) q =
      ap (height (controllers_in scene)) e in
      elim behind [
        | inl higher ↦ omega (arith, higher, same, rises)
        | inr level ↦ omega (arith, level.0, same, rises)
      ]) after (pairs-behind (ByRank low (λ x y. x ≡ x)) before m after sorted)

  -- One that has a fault at its turn has one in the set to which all lead.
  pub dropped-faulty : (ms before : List Member) (m : Member) (after : List Member)
      → by_height scene ms ≡ before ++ m ∷ after
      → fault scene (with_one m.place (join_all scene on j before).set) on m.place ≢ None
      → fault scene (with_one m.place (join_all scene on j (by_height scene ms)).set) on m.place ≢ None
  dropped-faulty ms before m after is faulty none =
      let turn : Joined = join_all scene on j before in
      let end : Joined = join_all scene on (join scene on turn m) after in
      let whole : join_all scene on j (by_height scene ms) ≡ end =
      ap (join_all scene on j) is ∙ join_all-append scene on j before (m ∷ after) in
      let grows : (q : ℕ) → turn.set q ≡ true → end.set q ≡ true = λ q was.
      join_all-more scene on (join scene on turn m) after q
      (joined_with-more scene on m.place (described scene m.place).name turn
      (fault scene (with_one m.place turn.set) on m.place) q was) in
      faulty (fault-none scene on (with_one m.place turn.set) (with_one m.place end.set) m.place
      (λ q is. elim (or_cases (m.place == q) (turn.set q) is) [
        | inl same ↦ or_left (m.place == q) (end.set q) same
        | inr was ↦ or_right (m.place == q) (end.set q) (grows q was)
      ])
      (λ q leads out.
      let parts = or_parts (m.place == q) (turn.set q) out in
      let other : m.place ≢ q = λ (e : m.place ≡ q). true≢false (sym (eq-eqb m.place q e) ∙ parts.0) in
      or_from (m.place == q) (end.set q) parts.0
      (join_all-out scene on (join scene on turn m) after q (none_later ms before m after q is leads)
      (joined_with-out scene on m.place (described scene m.place).name turn
      (fault scene (with_one m.place turn.set) on m.place) q other parts.1)))
      (ap (λ (e : Joined). fault scene (with_one m.place e.set) on m.place) (sym whole) ∙ none))

  -- Each that is tried has joined, or has a fault at its turn, and then in the set to which all lead.
  by_turn : (ms before : List Member) (m : Member) (after : List Member) → by_height scene ms ≡ before ++ m ∷ after
      → (o : Option Cause) → fault scene (with_one m.place (join_all scene on j before).set) on m.place ≡ o
      → ((join_all scene on j (by_height scene ms)).set m.place ≡ true)
      ⊎ (fault scene (with_one m.place (join_all scene on j (by_height scene ms)).set) on m.place ≢ None)
  by_turn ms before m after is None e = inl (turn_joins scene on j (by_height scene ms) before m after is e)
  by_turn ms before m after is (Some c) e =
      inr (dropped-faulty ms before m after is
      (λ none. (let no : ◌≡◌ {A = Option Cause} None (Some c) = sym none ∙ e in cc)))

  pub joined_or_faulty : (ms : List Member) (m : Member) → Contains ms m
      → ((join_all scene on j (by_height scene ms)).set m.place ≡ true)
      ⊎ (fault scene (with_one m.place (join_all scene on j (by_height scene ms)).set) on m.place ≢ None)
  joined_or_faulty ms m inside =
      let low : Member → ℕ = λ (n : Member). height (controllers_in scene) n.place in
      let listed : Contains (by_height scene ms) m =
      Contains-permutation ms (by_height scene ms) m
      (by_rank-once low (suc (length (controllers_in scene))) ms
      (λ k d below. omega (arith, height-most (controllers_in scene) (get_or ms k d).place))) inside in
      let s = split_at (by_height scene ms) m listed in
      by_turn ms s.0 m s.1 s.2 (fault scene (with_one m.place (join_all scene on j s.0).set) on m.place) refl

-- ---- Of a request

module _ (scene : Scene) (on : Places) where
  -- who joins does not depend on what was dropped
  joined_with-same : (p : ℕ) (name : List ℕ) (j k : Joined) (o : Option Cause) → j.set ≡ k.set
      → (joined_with p name j o).set ≡ (joined_with p name k o).set
  joined_with-same p name j k None same = ap (with_one p) same
  joined_with-same p name j k (Some c) same = same

  join_all-same : (j k : Joined) (ms : List Member) → j.set ≡ k.set
      → (join_all scene on j ms).set ≡ (join_all scene on k ms).set
  join_all-same j k [] same = same
  join_all-same j k (m ∷ ms) same =
      join_all-same (join scene on j m) (join scene on k m) ms
      (ap (λ (o : Option Cause). (joined_with m.place (described scene m.place).name j o).set)
      (ap (λ (s : Places). fault scene (with_one m.place s) on m.place) same)
      ∙ joined_with-same m.place (described scene m.place).name j k (fault scene (with_one m.place k.set) on m.place)
      same)

-- the set of a decision that is done
abbrev set_in : Decided → Places → Places
set_in (refused d) other = other
set_in (done dropped set again) other = set

module _ (scene : Scene) (off on : List Pick) where
  abbrev tried : List Member
  tried = tried_on scene off on

  abbrev start : List Dropped → Joined
  start dropped = record { set = λ p. active scene p && not (reduced scene (asked_off scene off) p); dropped = dropped }

  -- what was dropped before any is tried
  abbrev dropped_before : List Dropped
  dropped_before =
      (faulty (off_fault scene) [] off
      ++ filter_map (kept_drop scene (stays scene (asked_off scene off)))
      (loaded_all scene (faultless (off_fault scene) [] off)))
      ++ faulty (on_fault scene (reduced scene (asked_off scene off))) [] on

  -- a best effort leads to the set that those have joined which it tries
  best_set : (dropped : List Dropped) (set again : Places) → best scene off on ≡ done dropped set again
      → joined_of scene off on (by_height scene tried) ≡ set
  best_set dropped set again is =
      join_all-same scene (places_of tried) (start []) (start dropped_before) (by_height scene tried) refl
      ∙ ap (λ r. set_in r (λ p. false)) is

  module _ (dropped : List Dropped) (set again : Places) (is : best scene off on ≡ done dropped set again) where
    pub none_at_its_turn : (before : List Member) (m : Member) (after : List Member)
        → by_height scene tried ≡ before ++ m ∷ after → set m.place ≡ false
        → CannotJoin scene off on (joined_of scene off on before) m
    none_at_its_turn before m after turn out none =
        let joins : joined_of scene off on (by_height scene tried) m.place ≡ true =
        turn_joins scene (places_of tried) (start []) (by_height scene tried) before m after turn none in
        true≢false (sym joins ∙ ap (λ (s : Places). s m.place) (best_set dropped set again is) ∙ out)

    pub none_afterwards : first_in_loop (controllers_in scene) ≡ None → (m : Member) → Contains tried m
        → (set m.place ≡ true) ⊎ CannotJoin scene off on set m
    none_afterwards free m inside =
        elim (joined_or_faulty scene free (places_of tried) (start []) tried m inside) [
          | inl joined ↦ inl (sym (ap (λ (s : Places). s m.place) (best_set dropped set again is)) ∙ joined)
          | inr faulty ↦ inr
              (subst (λ (s : Places). CannotJoin scene off on s m) (best_set dropped set again is) faulty)
        ]

    pub dropped_stay_faulty : first_in_loop (controllers_in scene) ≡ None
        → (before : List Member) (m : Member) (after : List Member) → by_height scene tried ≡ before ++ m ∷ after
        → CannotJoin scene off on (joined_of scene off on before) m → CannotJoin scene off on set m
    dropped_stay_faulty free before m after turn faulty =
        subst (λ (s : Places). CannotJoin scene off on s m) (best_set dropped set again is)
        (dropped-faulty scene free (places_of tried) (start []) tried before m after turn faulty)
