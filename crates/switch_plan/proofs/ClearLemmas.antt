-- Where the relations shows at once that nothing counts, nothing does.
use Rattle.std.proofs.Common.{◌≡◌, ℕ, ◌<◌, Bool, true, false, List, [], ◌∷◌, ◌++◌}
use Rattle.std.proofs.Common.{length, Option, Some, None, refl, sym, ◌∙◌, ap, subst}
use Rattle.std.specs.Prelude.{◌&&◌, ◌||◌, not, ◌==◌, if◌then◌else◌, option_map, filter_map}
use Rattle.std.specs.List.{All, Contains, list_any, cons_option}
use Rattle.std.specs.Option.{option_map_or}
use Rattle.std.proofs.lemmas.Bool.{not-true, not-false, and_parts, and_from, or_left}
use Rattle.std.proofs.lemmas.Bool.{or_right, true≢false, false_from_ne_true}
use Rattle.std.proofs.lemmas.List.Elements.{All-contains}
use Rattle.std.proofs.lemmas.List.Folds.{list_any-append}
use Rattle.std.proofs.lemmas.List.Quantifiers.{position-Some}
use Rattle.iface_names.specs.declared.interface.IfaceName.{IfaceName}
use Rattle.cm_document.specs.Links.{is_among, refs_of, exporter}
use Rattle.cm_document.specs.declared.description.CtlDesc.{CtlDesc}
use Rattle.cm_model.specs.Order.{Places, nobody, controller_at, precedes_at}
use Rattle.cm_model.specs.Scene.{Scene, controllers_in, described, claims_at, is_ready, order}
use Rattle.cm_model.specs.Faults.{first_of, cause_if, is_missing, component_with, is_unavailable}
use Rattle.cm_model.specs.Faults.{conflict_over, is_beside, is_mode_taken, joint_name, fault_of_kind, fault}
use Rattle.cm_model.specs.Switches.{with_name, counted, counted_of, first_member_fault}
use Rattle.cm_model.specs.declared.cause.Cause.{Cause}
use Rattle.cm_model.specs.declared.cause.Cause.TheVariants as cause
use Rattle.cm_model.specs.declared.fault_kind.FaultKind.{FaultKind}
use Rattle.cm_model.specs.declared.fault_kind.FaultKind.TheVariants as fault_kind
use Rattle.cm_model.specs.declared.fault_kind.TheConstants.{FAULT_KINDS}
use Rattle.cm_model.specs.declared.member.Member.{Member}
use Rattle.cm_model.specs.declared.seen.Seen.{Seen}
use Rattle.chain_order.specs.Links.{places_below, linked}
use Rattle.chain_order.proofs.LinkLemmas.{get_or-each_below, linked-rows_of}
use Rattle.chain_order.proofs.PlaceLemmas.{any-places_below}
use Rattle.switch_plan.specs.Relations.{at_odds, components_at, relations_of, is_down, may_start, is_clear}
use Rattle.switch_plan.proofs.ElementLemmas.{any_from, each_fails, none_passes, none_found, first_of-all}
use Rattle.switch_plan.proofs.CauseLemmas.{order_back}
use Rattle.switch_plan.proofs.MaximalLemmas.{none_if, fails_of}
use Rattle.switch_plan.proofs.TestLemmas.{some_below-from}

-- one passes of what is found where a found one does
pub any_found : {A B : Type 0} (test : B → Bool) (f : A → Option B) (xs : List A)
    → list_any test (filter_map f xs) ≡ list_any (λ x. option_map_or test (f x) false) xs
any_found test f [] = refl
any_found {A} {B} test f (x ∷ xs) = one (f x) (any_found test f xs)
  where
    one : (o : Option B) → list_any test (filter_map f xs) ≡ list_any (λ x. option_map_or test (f x) false) xs
        → list_any test (cons_option o (filter_map f xs))
        ≡ (option_map_or test o false || list_any (λ x. option_map_or test (f x) false) xs)
    one None rest = rest
    one (Some y) rest = ap (λ b. test y || b) rest

-- where no place of a row is a member, none is that passes
none_of_row : (set test : ℕ → Bool) (n : ℕ) → list_any set (places_below test n) ≡ false → (q : ℕ) → q < n
    → test q ≡ true → set q ≡ false
none_of_row set test n none q there passes =
    false_from_ne_true (set q) (λ is.
    true≢false (sym (some_below-from (λ r. set r && test r) n q there (and_from (set q) (test q) is passes))
    ∙ sym (any-places_below set test n) ∙ none))

module _ (scene : Scene) (set on : Places) (p : ℕ) (here : p < length (controllers_in scene)) where
  -- all that it precedes are members
  follower-clear : list_any (λ q. not (set q)) (linked (relations_of scene.description).followers p) ≡ false
      → fault_of_kind scene set on fault_kind.Follower p ≡ None
  follower-clear none =
      first_of-all (λ i. cause_if (is_missing (controllers_in scene) set i) (cause.MissingFollower i))
      (described scene p).claims (λ i claims.
      none_if (is_missing (controllers_in scene) set i) (cause.MissingFollower i)
      (fails_of (λ q. not (set q)) (exporter (controllers_in scene) i) (λ q is.
      let found = position-Some (λ (c : CtlDesc). is_among i (refs_of c)) (controllers_in scene) q nobody is in
      let precedes : precedes_at (controllers_in scene) p q ≡ true =
      any_from (λ i. is_among i (refs_of (controller_at (controllers_in scene) q))) (described scene p).claims i claims
      found.1 in
      none_of_row (λ q. not (set q)) (λ q. precedes_at (controllers_in scene) p q) (length (controllers_in scene))
      (ap (list_any (λ q. not (set q)))
      (sym (linked-rows_of (λ q p. precedes_at (controllers_in scene) p q) (length (controllers_in scene)) p here))
      ∙ none)
      q found.0 precedes)))

  -- it is at odds with no member
  apart : list_any set (linked (relations_of scene.description).odds p) ≡ false → (q : ℕ)
      → q < length (controllers_in scene) → at_odds (controllers_in scene) p q ≡ true → set q ≡ false
  apart none q there odd =
      none_of_row set (at_odds (controllers_in scene) p) (length (controllers_in scene))
      (ap (list_any set)
      (sym (linked-rows_of (λ q p. at_odds (controllers_in scene) p q) (length (controllers_in scene)) p here)) ∙ none)
      q there odd

  -- one claim that another controller has, or has another command interface of the joint
  against : (i : IfaceName) (q : ℕ) → Contains (described scene p).claims i
      → ((not (q == p) && claims_at (controllers_in scene) q i)
      || list_any (is_beside i) (controller_at (controllers_in scene) q).claims) ≡ true
      → at_odds (controllers_in scene) p q ≡ true
  against i q claims so =
      any_from (λ i. (not (q == p) && claims_at (controllers_in scene) q i)
      || list_any (is_beside i) (controller_at (controllers_in scene) q).claims) (described scene p).claims i claims so

  module _ (loaded : All (λ l. l.place < length (controllers_in scene)) scene.loaded)
      (none : list_any set (linked (relations_of scene.description).odds p) ≡ false) where
    there : (l : Seen) → Contains scene.loaded l → l.place < length (controllers_in scene)
    there l inside = All-contains (λ (l : Seen). l.place < length (controllers_in scene)) scene.loaded l loaded inside

    conflict-clear : fault_of_kind scene set on fault_kind.Conflict p ≡ None
    conflict-clear =
        first_of-all (conflict_over scene set p) (described scene p).claims (λ i claims.
        ap (λ (o : Option Member). option_map (λ (m : Member). cause.Conflict i (described scene m.place).name) o)
        (none_found (λ (m : Member). not (m.place == p) && claims_at (controllers_in scene) m.place i) (order scene set)
        (λ m inside.
        let l = order_back scene set m inside in
        let below : m.place < length (controllers_in scene) =
        subst (λ (n : Member). n.place < length (controllers_in scene)) l.2 (there l.0 l.1) in
        false_from_ne_true (not (m.place == p) && claims_at (controllers_in scene) m.place i) (λ both.
        true≢false (sym l.3 ∙ apart none m.place below (against i m.place claims
        (or_left (not (m.place == p) && claims_at (controllers_in scene) m.place i)
        (list_any (is_beside i) (controller_at (controllers_in scene) m.place).claims) both)))))))

    mode-clear : fault_of_kind scene set on fault_kind.Mode p ≡ None
    mode-clear =
        first_of-all (λ i. cause_if (is_mode_taken scene set i) (cause.ModeRefused (joint_name i)))
        (described scene p).claims (λ i claims.
        none_if (is_mode_taken scene set i) (cause.ModeRefused (joint_name i))
        (none_passes (λ (l : Seen). set l.place && list_any (is_beside i) (described scene l.place).claims) scene.loaded
        (λ l inside.
        false_from_ne_true (set l.place && list_any (is_beside i) (described scene l.place).claims) (λ both.
        let parts = and_parts (set l.place) (list_any (is_beside i) (described scene l.place).claims) both in
        true≢false (sym parts.0 ∙ apart none l.place (there l inside) (against i l.place claims
        (or_right (not (l.place == p) && claims_at (controllers_in scene) l.place i)
        (list_any (is_beside i) (controller_at (controllers_in scene) l.place).claims) parts.1)))))))

  -- all of its components are available
  no_component-down : list_any (is_down scene.components) (linked (relations_of scene.description).components p) ≡ false
      → fault_of_kind scene set on fault_kind.Availability p ≡ None
  no_component-down none =
      let cs = scene.description.components in
      let claims = (described scene p).claims in
      let reads = (described scene p).reads in
      let row : linked (relations_of scene.description).components p ≡ components_at scene.description p =
      get_or-each_below (components_at scene.description) (length (controllers_in scene)) p [] here in
      let up : list_any (is_unavailable scene) (claims ++ reads) ≡ false =
      list_any-append (is_unavailable scene) claims reads
      ∙ ap (λ a. a || list_any (is_unavailable scene) reads)
      (sym (any_found (is_down scene.components) (component_with cs) claims))
      ∙ ap (λ b. list_any (is_down scene.components) (filter_map (component_with cs) claims) || b)
      (sym (any_found (is_down scene.components) (component_with cs) reads))
      ∙ sym (list_any-append (is_down scene.components) (filter_map (component_with cs) claims)
      (filter_map (component_with cs) reads))
      ∙ ap (list_any (is_down scene.components)) (sym row) ∙ none in
      first_of-all (λ i. cause_if (is_unavailable scene i) (cause.Unavailable i)) (claims ++ reads) (λ i inside.
      none_if (is_unavailable scene i) (cause.Unavailable i)
      (each_fails (is_unavailable scene) (claims ++ reads) up i inside))

  nothing : (b : Bool) → (b && not true) ≡ false
  nothing true = refl
  nothing false = refl

  ready : is_ready scene p ≡ true → fault_of_kind scene set on fault_kind.Readiness p ≡ None
  ready is = none_if (on p && not (is_ready scene p)) cause.NotReady (ap (λ b. on p && not b) is ∙ nothing (on p))

  -- what counts where it starts alone
  where_it_starts : (b : Bool) (o : Option Cause) → (b ≡ true → o ≡ None) → (if b then o else None) ≡ None
  where_it_starts true o none = none refl
  where_it_starts false o none = refl

  may_start_parts : may_start scene (relations_of scene.description) set p ≡ true
      → (list_any set (linked (relations_of scene.description).odds p) ≡ false)
      × ((list_any (is_down scene.components) (linked (relations_of scene.description).components p) ≡ false)
      × (is_ready scene p ≡ true))
  may_start_parts may =
      let odd = list_any set (linked (relations_of scene.description).odds p) in
      let down = list_any (is_down scene.components) (linked (relations_of scene.description).components p) in
      let first = and_parts (not odd) (not down && is_ready scene p) may in
      let second = and_parts (not down) (is_ready scene p) first.1 in
      (not-true odd first.0, (not-true down second.0, second.1))

  module _ (loaded : All (λ l. l.place < length (controllers_in scene)) scene.loaded)
      (followed : list_any (λ q. not (set q)) (linked (relations_of scene.description).followers p) ≡ false)
      (starts : on p ≡ true → may_start scene (relations_of scene.description) set p ≡ true) where
    of_kind : (kind : FaultKind) → counted scene set on kind p ≡ None
    of_kind fault_kind.Follower = follower-clear followed
    of_kind fault_kind.Availability =
        where_it_starts (on p) _ (λ named. no_component-down (may_start_parts (starts named)).1.0)
    of_kind fault_kind.Conflict =
        where_it_starts (on p) _ (λ named. conflict-clear loaded (may_start_parts (starts named)).0)
    of_kind fault_kind.Mode = where_it_starts (on p) _ (λ named. mode-clear loaded (may_start_parts (starts named)).0)
    of_kind fault_kind.Readiness = where_it_starts (on p) _ (λ named. ready (may_start_parts (starts named)).1.1)

  -- so nothing counts against it
  counted-clear : All (λ l. l.place < length (controllers_in scene)) scene.loaded → set p ≡ true
      → is_clear scene (relations_of scene.description) set on p ≡ true
      → (kind : FaultKind) → counted scene set on kind p ≡ None
  counted-clear loaded is clear kind =
      let w = relations_of scene.description in
      let other : Bool = list_any (λ q. not (set q)) (linked w.followers p) in
      let start : Bool = may_start scene w set p in
      let both : (not other && (not (on p) || start)) ≡ true =
      ap (λ b. not b || (not other && (not (on p) || start))) (sym is) ∙ clear in
      let parts = and_parts (not other) (not (on p) || start) both in
      of_kind loaded (not-true other parts.0) (λ named. ap (λ b. not b || start) (sym named) ∙ parts.1) kind

-- where all that a controller precedes are members and it could start, it has no fault
module _ (scene : Scene) (set on : Places) (p : ℕ) (here : p < length (controllers_in scene))
    (loaded : All (λ l. l.place < length (controllers_in scene)) scene.loaded)
    (followed : list_any (λ q. not (set q)) (linked (relations_of scene.description).followers p) ≡ false)
    (may : may_start scene (relations_of scene.description) set p ≡ true) where
  each_clear : (kind : FaultKind) → fault_of_kind scene set on kind p ≡ None
  each_clear fault_kind.Follower = follower-clear scene set on p here followed
  each_clear fault_kind.Availability =
      no_component-down scene set on p here (may_start_parts scene set on p here may).1.0
  each_clear fault_kind.Conflict = conflict-clear scene set on p here loaded (may_start_parts scene set on p here may).0
  each_clear fault_kind.Mode = mode-clear scene set on p here loaded (may_start_parts scene set on p here may).0
  each_clear fault_kind.Readiness = ready scene set on p here (may_start_parts scene set on p here may).1.1

  pub fault-clear : fault scene set on p ≡ None
  fault-clear = first_of-all (λ kind. fault_of_kind scene set on kind p) FAULT_KINDS (λ kind listed. each_clear kind)

-- and where that is seen of each loaded controller, no fault counts
pub none_counts : (scene : Scene) (set on : Places) → All (λ l. l.place < length (controllers_in scene)) scene.loaded
    → list_any (λ l. not (is_clear scene (relations_of scene.description) set on l.place)) scene.loaded ≡ false
    → first_member_fault scene set on ≡ None
none_counts scene set on loaded clear =
    first_of-all (λ kind. first_of (counted_of scene set on kind) (order scene set)) FAULT_KINDS (λ kind listed.
    first_of-all (counted_of scene set on kind) (order scene set) (λ m inside.
    let l = order_back scene set m inside in
    let below : m.place < length (controllers_in scene) =
    subst (λ (n : Member). n.place < length (controllers_in scene)) l.2
    (All-contains (λ (l : Seen). l.place < length (controllers_in scene)) scene.loaded l.0 loaded l.1) in
    let seen : is_clear scene (relations_of scene.description) set on m.place ≡ true =
    subst (λ (n : Member). is_clear scene (relations_of scene.description) set on n.place ≡ true) l.2
    (not-false (is_clear scene (relations_of scene.description) set on l.0.place)
    (each_fails (λ (l : Seen). not (is_clear scene (relations_of scene.description) set on l.place)) scene.loaded clear
    l.0 l.1)) in
    ap (option_map (with_name (described scene m.place).name))
    (counted-clear scene set on m.place below loaded l.3 seen kind)))
