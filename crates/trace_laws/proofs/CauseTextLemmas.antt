-- What is decided names what its request names or what is described, so it prints without a byte that ends a line.
use Rattle.std.proofs.Common.{ℕ, Bool, true, false, List, [], ◌∷◌, ◌++◌, map, Option, Some, None, refl, arith}
use Rattle.std.specs.Prelude.{◌==◌, ◌&&◌, ◌||◌, not, if◌then◌else◌, find}
use Rattle.std.specs.Prelude.{filter_map, flat_map, option_map, codes, IfSome}
use Rattle.std.specs.List.{AllByRecursion, list_any}
use Rattle.std.specs.Option.{option_map_or}
use Rattle.iface_names.specs.Interfaces.{interface_text}
use Rattle.iface_names.specs.Names.{same_name}
use Rattle.iface_names.specs.declared.interface.IfaceName.{IfaceName}
use Rattle.sequence.proofs.ListLemmas.{all_append, all_push}
use Rattle.cm_document.proofs.DistinctLemmas.{all_of, all_so, all_map, all_flat_map}
use Rattle.cm_document.specs.Links.{refs_of}
use Rattle.cm_document.specs.Picks.{group_of, flat_pick, flat, picked_names}
use Rattle.cm_document.specs.declared.call.Pick.{Pick}
use Rattle.cm_document.specs.declared.call.Pick.TheVariants.{One, Group}
use Rattle.cm_document.specs.declared.call.SwitchRequest.{SwitchRequest}
use Rattle.cm_document.specs.declared.description.Description.{Description}
use Rattle.cm_document.specs.declared.description.GroupDesc.{GroupDesc}
use Rattle.cm_document.specs.declared.life.Life.{Life}
use Rattle.cm_model.specs.BestEffort.{faulty, faultless, stays, reduced, needed_reference, kept_drop, Joined}
use Rattle.cm_model.specs.BestEffort.{joined_with, join, join_all, by_height, joining, best, flat_decided, decided}
use Rattle.cm_model.specs.Boundary.{user_of, life_at, move_fault, with_move_unless}
use Rattle.cm_model.specs.Boundary.{with_move, component_place, with_switch, concluded}
use Rattle.cm_model.specs.Causes.{cause_text, dropped_text, drops_text, outcome_text}
use Rattle.cm_model.specs.Claims.{uses}
use Rattle.cm_model.specs.Commit.{scene_of, described_of}
use Rattle.cm_model.specs.Components.{is_available, has_move}
use Rattle.cm_model.specs.Cycle.{active_order}
use Rattle.cm_model.specs.Faults.{first_of, cause_if, is_missing, is_unavailable, rival}
use Rattle.cm_model.specs.Faults.{conflict_over, is_mode_taken, joint_name, fault_of_kind, fault}
use Rattle.cm_model.specs.Order.{Places, places_of, with_one}
use Rattle.cm_model.specs.Scene.{Scene, is_running, is_configured, controllers_in, described, active}
use Rattle.cm_model.specs.Scene.{is_ready, loaded_of, loaded_all, named, order, is_claimed_by}
use Rattle.cm_model.specs.State.{State, Loaded}
use Rattle.cm_model.specs.Switches.{with_name, off_cause, off_fault, on_cause, on_fault, first_fault}
use Rattle.cm_model.specs.Switches.{switched, counts_for_all, counted, counted_of, first_member_fault}
use Rattle.cm_model.specs.Switches.{Decided, refused, done, unless_because, strict_between, strict}
use Rattle.cm_model.specs.declared.cause.Cause.{Cause}
use Rattle.cm_model.specs.declared.cause.Cause.TheVariants as cause
use Rattle.cm_model.specs.declared.cause.Dropped.{Dropped}
use Rattle.cm_model.specs.declared.cause.Outcome.{Outcome}
use Rattle.cm_model.specs.declared.cause.Outcome.TheVariants as outcome
use Rattle.cm_model.specs.declared.fault_kind.FaultKind.{FaultKind}
use Rattle.cm_model.specs.declared.fault_kind.FaultKind.TheVariants as fault_kind
use Rattle.cm_model.specs.declared.fault_kind.TheConstants.{FAULT_KINDS}
use Rattle.cm_model.specs.declared.member.Member.{Member}
use Rattle.cm_model.specs.declared.request.Request.{Request}
use Rattle.cm_model.specs.declared.request.Request.TheVariants as request
use Rattle.cm_model.specs.declared.seen.Seen.{Seen}
use Rattle.script_text.proofs.PrintWordLemmas.{IsPrinted, IsPrinted-append}
use Rattle.trace_laws.proofs.NamedLemmas.{InterfacePrints, interface_printed, joint_printed}
use Rattle.trace_laws.proofs.NamedLemmas.{ControllerPrints, DescriptionPrints, at_prints, refs_print}
use Rattle.trace_laws.proofs.SpellingLemmas.{word_printed, between, space, either_so}
use Rattle.trace_laws.proofs.SpellingLemmas.{mapped_so, found_so, each_found_so}

-- ---- What prints

abbrev pub CausePrints : Cause → Type 0
CausePrints reason = IsPrinted (cause_text reason)

pub record DroppedPrints (d : Dropped) : Type 0 where
  pub name : IsPrinted d.name
  pub cause : CausePrints d.cause

abbrev pub OutcomePrints : Outcome → Type 0
OutcomePrints (outcome.Done dropped) = AllByRecursion DroppedPrints dropped
OutcomePrints (outcome.Refused name reason) = IsPrinted name × CausePrints reason
OutcomePrints outcome.LoopEnded = Unit {0}

abbrev DecidedPrints : Decided → Type 0
DecidedPrints (refused because) = DroppedPrints because
DecidedPrints (done dropped set again) = AllByRecursion DroppedPrints dropped

abbrev pub PickPrints : Pick → Type 0
PickPrints (One name) = IsPrinted name
PickPrints (Group name) = IsPrinted name

abbrev pub RequestPrints : Request → Type 0
RequestPrints (request.Switch asked) = AllByRecursion PickPrints asked.on × AllByRecursion PickPrints asked.off
RequestPrints (request.Hardware component target) = IsPrinted component

dropped_printed : (d : Dropped) → DroppedPrints d → IsPrinted (dropped_text d)
dropped_printed d prints = between d.name (codes " ") (cause_text d.cause) prints.name space prints.cause

others_printed : (ds : List Dropped) → AllByRecursion DroppedPrints ds
    → IsPrinted (flat_map (λ (other : Dropped). codes ", " ++ dropped_text other) ds)
others_printed [] all = tt
others_printed (d ∷ ds) all = (
  omega arith,
  (
    omega arith,
    IsPrinted-append (dropped_text d) (flat_map (λ (other : Dropped). codes ", " ++ dropped_text other) ds)
        (dropped_printed d all.0) (others_printed ds all.1),
  ),
)

drops_printed : (ds : List Dropped) → AllByRecursion DroppedPrints ds → IsPrinted (drops_text ds)
drops_printed [] all = tt
drops_printed (d ∷ ds) all =
    between (codes " dropped ") (dropped_text d) (flat_map (λ (other : Dropped). codes ", " ++ dropped_text other) ds)
    (word_printed (codes " dropped ") refl) (dropped_printed d all.0)
    (others_printed ds all.1)

pub outcome_printed : (o : Outcome) → OutcomePrints o → IsPrinted (outcome_text o)
outcome_printed (outcome.Done dropped) prints =
    IsPrinted-append (codes "done") (drops_text dropped) (word_printed (codes "done") refl)
    (drops_printed dropped prints)
outcome_printed (outcome.Refused name reason) prints =
    between (codes "refused " ++ name) (codes " ") (cause_text reason)
    (IsPrinted-append (codes "refused ") name (word_printed (codes "refused ") refl) prints.0) space prints.1
outcome_printed outcome.LoopEnded prints = word_printed (codes "loop_ended") refl

-- ---- Causes that name nothing

unknown : CausePrints cause.Unknown
unknown = word_printed (codes "unknown") refl

no_group : CausePrints cause.NoGroup
no_group = word_printed (codes "no_group") refl

twice : CausePrints cause.Twice
twice = word_printed (codes "twice") refl

-- ---- Lists of a switch

-- what speaks against a name of a list names nothing
abbrev AreWords : (List (List ℕ) → List ℕ → Option Cause) → Type 0
AreWords against = (before : List (List ℕ)) (name : List ℕ) → IfSome (against before name) CausePrints

off_words : (scene : Scene) → AreWords (off_fault scene)
off_words scene = λ before name. of (list_any (same_name name) before) (loaded_of scene name)
  where
    running : (b : Bool) → IfSome (if b then None else Some cause.NotActive) CausePrints
    running true = tt
    running false = word_printed (codes "not_active") refl

    of_one : (again : Bool) (one : Seen) → IfSome (off_cause again one) CausePrints
    of_one true one = twice
    of_one false one = running (is_running one.life)

    of : (again : Bool) (o : Option Seen) → IfSome (option_map_or (off_cause again) o (Some cause.Unknown)) CausePrints
    of again None = unknown
    of again (Some one) = of_one again one

on_words : (scene : Scene) (leaving : Places) → AreWords (on_fault scene leaving)
on_words scene leaving = λ before name. of (list_any (same_name name) before) (loaded_of scene name)
  where
    running : (b : Bool) → IfSome (if b then Some cause.AlreadyActive else None) CausePrints
    running true = word_printed (codes "already_active") refl
    running false = tt

    configured : (b again : Bool)
        → IfSome (if b then (if again then Some cause.AlreadyActive else None) else Some cause.NotConfigured)
        CausePrints
    configured true again = running again
    configured false again = word_printed (codes "not_configured") refl

    of_one : (again : Bool) (one : Seen) → IfSome (on_cause leaving again one) CausePrints
    of_one true one = twice
    of_one false one = configured (is_configured one.life) (is_running one.life && not (leaving one.place))

    of : (again : Bool) (o : Option Seen)
        → IfSome (option_map_or (on_cause leaving again) o (Some cause.Unknown)) CausePrints
    of again None = unknown
    of again (Some one) = of_one again one

-- a name with its cause
with_name_so : (name : List ℕ) → IsPrinted name → (o : Option Cause) → IfSome o CausePrints
    → IfSome (option_map (with_name name) o) DroppedPrints
with_name_so name printed None prints = tt
with_name_so name printed (Some reason) prints = record { name = printed; cause = prints }

first_fault_prints : (against : List (List ℕ) → List ℕ → Option Cause) → AreWords against
    → (before : List (List ℕ)) (picks : List Pick) → AllByRecursion PickPrints picks
    → IfSome (first_fault against before picks) DroppedPrints
first_fault_prints against words before [] all = tt
first_fault_prints against words before (Group name ∷ picks) all = record { name = all.0; cause = no_group }
first_fault_prints against words before (One name ∷ picks) all =
    either_so DroppedPrints (option_map (with_name name) (against before name))
    (first_fault against (before ++ name ∷ []) picks)
    (with_name_so name all.0 (against before name) (words before name))
    (first_fault_prints against words (before ++ name ∷ []) picks all.1)

faulty_print : (against : List (List ℕ) → List ℕ → Option Cause) → AreWords against
    → (before : List (List ℕ)) (picks : List Pick) → AllByRecursion PickPrints picks
    → AllByRecursion DroppedPrints (faulty against before picks)
faulty_print against words before [] all = tt
faulty_print against words before (Group name ∷ picks) all =
    (record { name = all.0; cause = no_group }, faulty_print against words before picks all.1)
faulty_print against words before (One name ∷ picks) all =
    let others = faulty_print against words (before ++ name ∷ []) picks all.1 in
    of (against before name) (words before name) others
  where
    of : (o : Option Cause) → IfSome o CausePrints
        → AllByRecursion DroppedPrints (faulty against (before ++ name ∷ []) picks)
        → AllByRecursion DroppedPrints
        (elim o [
          | Some reason ↦ with_name name reason
              ∷ faulty against (before ++ name ∷ []) picks
          | None ↦ faulty against (before ++ name ∷ []) picks
        ])
    of None prints others = others
    of (Some reason) prints others = (record { name = all.0; cause = prints }, others)

-- the members of described groups, and what is on the list itself
flat_prints : (d : Description) → DescriptionPrints d → (picks : List Pick) → AllByRecursion PickPrints picks
    → AllByRecursion PickPrints (flat d picks)
flat_prints d prints picks all =
    all_flat_map PickPrints (flat_pick d) picks
    (all_so PickPrints (λ (pick : Pick). AllByRecursion PickPrints (flat_pick d pick)) of_pick picks all)
  where
    of_group : (name : List ℕ) → IsPrinted name → (o : Option GroupDesc)
        → IfSome o (λ (g : GroupDesc). AllByRecursion IsPrinted g.members)
        → AllByRecursion PickPrints (option_map_or (λ (g : GroupDesc). map One g.members) o (Group name ∷ []))
    of_group name printed None members = (printed, tt)
    of_group name printed (Some g) members = all_map PickPrints One g.members members

    of_pick : (pick : Pick) → PickPrints pick → AllByRecursion PickPrints (flat_pick d pick)
    of_pick (One name) printed = (printed, tt)
    of_pick (Group name) printed =
        of_group name printed (group_of d name)
        (found_so (λ (g : GroupDesc). AllByRecursion IsPrinted g.members) (λ (g : GroupDesc). same_name name g.name)
        d.groups prints.groups)

-- ---- Faults of members

first_of_so : {A B : Type 0} (P : B → Type 0) (f : A → Option B) (xs : List A) → AllByRecursion (λ x. IfSome (f x) P) xs
    → IfSome (first_of f xs) P
first_of_so P f [] all = tt
first_of_so P f (x ∷ xs) all = either_so P (f x) (first_of f xs) all.0 (first_of_so P f xs all.1)

cause_if_so : (b : Bool) (reason : Cause) → CausePrints reason → IfSome (cause_if b reason) CausePrints
cause_if_so true reason prints = prints
cause_if_so false reason prints = tt

missing_prints : (interface : IfaceName) → InterfacePrints interface → CausePrints (cause.MissingFollower interface)
missing_prints interface prints =
    IsPrinted-append (codes "missing_follower ") (interface_text interface)
    (word_printed (codes "missing_follower ") refl) (interface_printed interface prints)

module _ (scene : Scene) (prints : DescriptionPrints scene.description) where
  described_prints : (p : ℕ) → ControllerPrints (described scene p)
  described_prints p = at_prints (controllers_in scene) prints.controllers p

  unavailable_prints : (interface : IfaceName) → InterfacePrints interface → CausePrints (cause.Unavailable interface)
  unavailable_prints interface is =
      IsPrinted-append (codes "unavailable ") (interface_text interface) (word_printed (codes "unavailable ") refl)
      (interface_printed interface is)

  conflict_prints : (interface : IfaceName) → InterfacePrints interface → (p : ℕ)
      → CausePrints (cause.Conflict interface (described scene p).name)
  conflict_prints interface is p =
      between (codes "conflict " ++ interface_text interface) (codes " ") (described scene p).name
      (IsPrinted-append (codes "conflict ") (interface_text interface) (word_printed (codes "conflict ") refl)
      (interface_printed interface is)) space (described_prints p).name

  mode_prints : (interface : IfaceName) → InterfacePrints interface
      → CausePrints (cause.ModeRefused (joint_name interface))
  mode_prints interface is =
      IsPrinted-append (codes "mode_refused ") (joint_name interface) (word_printed (codes "mode_refused ") refl)
      (joint_printed interface is)

  kind_prints : (set on : Places) (kind : FaultKind) (p : ℕ) → IfSome (fault_of_kind scene set on kind p) CausePrints
  kind_prints set on fault_kind.Follower p =
      let claims = (described scene p).claims in
      first_of_so CausePrints
      (λ (i : IfaceName). cause_if (is_missing (controllers_in scene) set i) (cause.MissingFollower i)) claims
      (all_so InterfacePrints _
      (λ i is. cause_if_so (is_missing (controllers_in scene) set i) (cause.MissingFollower i) (missing_prints i is))
      claims (described_prints p).claims)
  kind_prints set on fault_kind.Availability p =
      let claims = (described scene p).claims in
      let reads = (described scene p).reads in
      first_of_so CausePrints (λ (i : IfaceName). cause_if (is_unavailable scene i) (cause.Unavailable i))
      (claims ++ reads)
      (all_so InterfacePrints _
      (λ i is. cause_if_so (is_unavailable scene i) (cause.Unavailable i) (unavailable_prints i is)) (claims ++ reads)
      (all_append InterfacePrints claims reads (described_prints p).claims (described_prints p).reads))
  kind_prints set on fault_kind.Conflict p =
      let claims = (described scene p).claims in
      first_of_so CausePrints (conflict_over scene set p) claims
      (all_so InterfacePrints _
      (λ i is. mapped_so CausePrints (λ (m : Member). cause.Conflict i (described scene m.place).name)
      (rival scene set p i) (λ m. conflict_prints i is m.place)) claims
      (described_prints p).claims)
  kind_prints set on fault_kind.Mode p =
      let claims = (described scene p).claims in
      first_of_so CausePrints
      (λ (i : IfaceName). cause_if (is_mode_taken scene set i) (cause.ModeRefused (joint_name i))) claims
      (all_so InterfacePrints _
      (λ i is. cause_if_so (is_mode_taken scene set i) (cause.ModeRefused (joint_name i)) (mode_prints i is)) claims
      (described_prints p).claims)
  kind_prints set on fault_kind.Readiness p =
      cause_if_so (on p && not (is_ready scene p)) cause.NotReady (word_printed (codes "not_ready") refl)

  fault_prints : (set on : Places) (p : ℕ) → IfSome (fault scene set on p) CausePrints
  fault_prints set on p =
      first_of_so CausePrints (λ (kind : FaultKind). fault_of_kind scene set on kind p) FAULT_KINDS
      (all_of _ (λ (kind : FaultKind). kind_prints set on kind p) FAULT_KINDS)

  -- ---- Strict switches

  counted_prints : (set on : Places) (kind : FaultKind) (m : Member)
      → IfSome (counted_of scene set on kind m) DroppedPrints
  counted_prints set on kind m =
      with_name_so (described scene m.place).name (described_prints m.place).name (counted scene set on kind m.place)
      (of (counts_for_all kind || on m.place))
    where
      of : (b : Bool) → IfSome (if b then fault_of_kind scene set on kind m.place else None) CausePrints
      of true = kind_prints set on kind m.place
      of false = tt

  member_prints : (set on : Places) → IfSome (first_member_fault scene set on) DroppedPrints
  member_prints set on =
      first_of_so DroppedPrints (λ (kind : FaultKind). first_of (counted_of scene set on kind) (order scene set))
      FAULT_KINDS
      (all_of _ (λ (kind : FaultKind). first_of_so DroppedPrints (counted_of scene set on kind) (order scene set)
      (all_of _ (counted_prints set on kind) (order scene set))) FAULT_KINDS)

  unless_prints : (o : Option Dropped) (d : Decided) → IfSome o DroppedPrints → DecidedPrints d
      → DecidedPrints (unless_because o d)
  unless_prints None d because otherwise = otherwise
  unless_prints (Some b) d because otherwise = because

  strict_prints : (off on : List Pick) → AllByRecursion PickPrints off → AllByRecursion PickPrints on
      → DecidedPrints (strict scene off on)
  strict_prints off on offs ons =
      let leaving = named scene (picked_names off) in
      let joining_ones = named scene (picked_names on) in
      let set = switched scene leaving joining_ones in
      let between = strict_between scene leaving joining_ones in
      unless_prints (first_fault (off_fault scene) [] off)
      (unless_because (first_fault (on_fault scene leaving) [] on) between)
      (first_fault_prints (off_fault scene) (off_words scene) [] off offs)
      (unless_prints (first_fault (on_fault scene leaving) [] on) between
      (first_fault_prints (on_fault scene leaving) (on_words scene leaving) [] on ons)
      (unless_prints (first_member_fault scene set joining_ones) (done [] set (λ p. leaving p && joining_ones p))
      (member_prints set joining_ones) tt))

  -- ---- Best effort

  kept_prints : (staying : Places) (m : Member) → IfSome (kept_drop scene staying m) DroppedPrints
  kept_prints staying m = of (staying m.place)
    where
      needed : IfSome (needed_reference scene staying m.place) InterfacePrints
      needed = found_so InterfacePrints (is_claimed_by (controllers_in scene) staying)
          (refs_of (described scene m.place)) (refs_print (described scene m.place) (described_prints m.place))

      by_need : (o : Option IfaceName) → IfSome o InterfacePrints
          → IfSome (option_map (λ (i : IfaceName). with_name (described scene m.place).name (cause.MissingFollower i))
          o) DroppedPrints
      by_need None is = tt
      by_need (Some i) is = record { name = (described_prints m.place).name; cause = missing_prints i is }

      of : (b : Bool)
          → IfSome (if b
          then option_map (λ (i : IfaceName). with_name (described scene m.place).name (cause.MissingFollower i))
          (needed_reference scene staying m.place) else None) DroppedPrints
      of true = by_need (needed_reference scene staying m.place) needed
      of false = tt

  joined_prints : (p : ℕ) (name : List ℕ) → IsPrinted name → (joined : Joined)
      → AllByRecursion DroppedPrints joined.dropped → (o : Option Cause) → IfSome o CausePrints
      → AllByRecursion DroppedPrints (joined_with p name joined o).dropped
  joined_prints p name printed joined before None is = before
  joined_prints p name printed joined before (Some reason) is =
      all_push DroppedPrints joined.dropped (with_name name reason) before (record { name = printed; cause = is })

  all_join : (on : Places) (joined : Joined) (ms : List Member) → AllByRecursion DroppedPrints joined.dropped
      → AllByRecursion DroppedPrints (join_all scene on joined ms).dropped
  all_join on joined [] before = before
  all_join on joined (m ∷ ms) before =
      all_join on (join scene on joined m) ms
      (joined_prints m.place (described scene m.place).name (described_prints m.place).name joined before
      (fault scene (with_one m.place joined.set) on m.place)
      (fault_prints (with_one m.place joined.set) on m.place))

  joining_prints : (leaving : Places) (dropped : List Dropped) (ms : List Member) → AllByRecursion DroppedPrints dropped
      → AllByRecursion DroppedPrints (joining scene leaving dropped ms).dropped
  joining_prints leaving dropped ms before =
      all_join (places_of ms) (record { set = λ p. active scene p && not (leaving p); dropped = dropped })
      (by_height scene ms) before

  best_prints : (off on : List Pick) → AllByRecursion PickPrints off → AllByRecursion PickPrints on
      → DecidedPrints (best scene off on)
  best_prints off on offs ons =
      let ms = loaded_all scene (faultless (off_fault scene) [] off) in
      let leaving = reduced scene (places_of ms) in
      let staying = stays scene (places_of ms) in
      let first = faulty (off_fault scene) [] off in
      let kept = filter_map (kept_drop scene staying) ms in
      let last = faulty (on_fault scene leaving) [] on in
      joining_prints leaving ((first ++ kept) ++ last) (loaded_all scene (faultless (on_fault scene leaving) [] on))
      (all_append DroppedPrints (first ++ kept) last
      (all_append DroppedPrints first kept (faulty_print (off_fault scene) (off_words scene) [] off offs)
      (each_found_so DroppedPrints (kept_drop scene staying) ms (all_of _ (kept_prints staying) ms)))
      (faulty_print (on_fault scene leaving) (on_words scene leaving) [] on ons))

  decided_prints : (asked : SwitchRequest) → RequestPrints (request.Switch asked) → DecidedPrints (decided scene asked)
  decided_prints asked is = of asked.strict
    where
      of : (whole : Bool)
          → DecidedPrints
          (flat_decided scene whole (flat scene.description asked.off) (flat scene.description asked.on))
      of true = strict_prints _ _ (flat_prints scene.description prints asked.off is.1)
          (flat_prints scene.description prints asked.on is.0)
      of false = best_prints _ _ (flat_prints scene.description prints asked.off is.1)
          (flat_prints scene.description prints asked.on is.0)

-- ---- Requests

module _ (s : State) (prints : DescriptionPrints s.description) where
  switch_prints : (d : Decided) → DecidedPrints d → OutcomePrints (with_switch s d).outcome
  switch_prints (refused because) is = (is.name, is.cause)
  switch_prints (done dropped set again) is = is

  user_prints : (component : ℕ) → IfSome (user_of s component) IsPrinted
  user_prints component =
      mapped_so IsPrinted (λ (l : Loaded). (described_of s l).name)
      (find (λ (l : Loaded). uses s.description.components (λ place. place == component) (described_of s l))
      (active_order s))
      (λ l. (at_prints s.description.controllers prints.controllers l.place).name)

  move_prints : (component : ℕ) (target : Life) → IfSome (move_fault s component target) CausePrints
  move_prints component target =
      either_so CausePrints (cause_if (not (has_move (life_at s component) target)) cause.NoSuchMove)
      (if is_available target then None else option_map (λ name. cause.InUse name) (user_of s component))
      (cause_if_so (not (has_move (life_at s component) target)) cause.NoSuchMove
      (word_printed (codes "no_such_move") refl)) (of (is_available target))
    where
      by_user : (o : Option (List ℕ)) → IfSome o IsPrinted
          → IfSome (option_map (λ name. cause.InUse name) o) CausePrints
      by_user None is = tt
      by_user (Some name) is = IsPrinted-append (codes "in_use ") name (word_printed (codes "in_use ") refl) is

      of : (b : Bool)
          → IfSome (if b then None else option_map (λ name. cause.InUse name) (user_of s component)) CausePrints
      of true = tt
      of false = by_user (user_of s component) (user_prints component)

  unless_moved : (name : List ℕ) → IsPrinted name → (component : ℕ) (target : Life) (o : Option Cause)
      → IfSome o CausePrints
      → OutcomePrints (with_move_unless s name component target o).outcome
  unless_moved name printed component target None is = tt
  unless_moved name printed component target (Some reason) is = (printed, is)

  moved_prints : (name : List ℕ) → IsPrinted name → (target : Life) (place : Option ℕ)
      → OutcomePrints (with_move s name target place).outcome
  moved_prints name printed target None = (printed, unknown)
  moved_prints name printed target (Some component) =
      unless_moved name printed component target (move_fault s component target) (move_prints component target)

  -- what becomes of a request prints
  pub concluded_prints : (asked : Request) → RequestPrints asked → OutcomePrints (concluded s asked).outcome
  concluded_prints (request.Switch asked) is =
      switch_prints (decided (scene_of s) asked) (decided_prints (scene_of s) prints asked is)
  concluded_prints (request.Hardware component target) is =
      moved_prints component is target (component_place s.description component)
