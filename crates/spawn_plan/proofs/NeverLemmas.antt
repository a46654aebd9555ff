-- A strict switch of wanted controllers that is planned at its best is refused because of what speaks against them for
-- good.
use Rattle.std.proofs.Common.{◌≡◌, ℕ, zero, suc, ◌<◌, Bool, true, false, List, [], ◌∷◌, ◌++◌, length, map, Option}
use Rattle.std.proofs.Common.{Some, None, refl, sym, ◌∙◌, ap, ap₂, arith, append_assoc, append-nil, get_or}
use Rattle.std.specs.Prelude.{◌==◌, ◌&&◌, ◌||◌, not, if◌then◌else◌, option_map, position, slice_index_or, Ok, Err}
use Rattle.std.specs.List.{Contains, list_any, cons_option}
use Rattle.std.specs.Option.{option_map_or, option_or}
use Rattle.std.proofs.lemmas.Bool.{and_from, and_right, eq-eqb, not_from_true}
use Rattle.std.proofs.lemmas.Option.{same_Some}
use Rattle.sequence.proofs.ListLemmas.{any_map}
use Rattle.std.proofs.lemmas.List.Quantifiers.{position-Some}
use mathlib.Core.Path.{fun_ext}
use Rattle.iface_names.specs.Names.{same_name}
use Rattle.iface_names.specs.declared.interface.IfaceName.{IfaceName}
use Rattle.iface_names.specs.declared.interface.IfaceName.TheVariants.{Joint, Reference}
use Rattle.cm_document.specs.Picks.{flat, picked_names}
use Rattle.cm_document.specs.Valid.{repeated_after}
use Rattle.cm_document.specs.declared.call.Pick.TheVariants.{One}
use Rattle.cm_document.specs.declared.call.SwitchRequest.{SwitchRequest}
use Rattle.cm_document.specs.declared.description.CompDesc.{CompDesc}
use Rattle.cm_document.specs.declared.description.Description.{Description}
use Rattle.cm_document.specs.declared.life.Life.TheVariants.{Unconfigured, Inactive, Active}
use Rattle.cm_document.proofs.PickLemmas.{flat-ones, picked_names-ones}
use Rattle.cm_model.specs.BestEffort.{plan_of, best as best_effort}
use Rattle.cm_model.specs.Components.{is_available}
use Rattle.cm_model.specs.Faults.{first_of, cause_if, component_with, is_unavailable, fault_of_kind}
use Rattle.cm_model.specs.Order.{Places}
use Rattle.cm_model.specs.Scene.{Scene, controllers_in, is_running, is_configured, is_ready}
use Rattle.cm_model.specs.Scene.{active, described, loaded_of, loaded_all, named, member, order}
use Rattle.cm_model.specs.Switches.{with_name, on_cause, on_fault, first_fault, switched, counts_for_all, counted_of}
use Rattle.cm_model.specs.Switches.{first_member_fault, done, unless_because, strict_between, strict, planned}
use Rattle.cm_model.specs.declared.cause.Cause.{Cause}
use Rattle.cm_model.specs.declared.cause.Cause.TheVariants as cause
use Rattle.cm_model.specs.declared.cause.Dropped.{Dropped}
use Rattle.cm_model.specs.declared.fault_kind.FaultKind.{FaultKind}
use Rattle.cm_model.specs.declared.fault_kind.FaultKind.TheVariants as fault_kind
use Rattle.cm_model.specs.declared.member.Member.{Member}
use Rattle.cm_model.specs.declared.seen.Seen.{Seen}
use Rattle.switch_plan.proofs.CauseLemmas.{order_back}
use Rattle.switch_plan.proofs.ElementLemmas.{here, later, any_from, none_passes, first_of-all}
use Rattle.switch_plan.proofs.MaximalLemmas.{none_if, fails_of}
use Rattle.spawn_plan.specs.Never.{best_scene, fault_beside, never, can_be_active}
use Rattle.spawn_plan.specs.Outcomes.{not_refused}
use Rattle.spawn_plan.specs.Wanted.{place_in, places_after, places_in, is_wanted}
use Rattle.spawn_plan.specs.declared.fault.SpawnFault.TheVariants as fault
use Rattle.spawn_plan.proofs.WantedLemmas.{HasWanted, same_Ok, next_place, once_parts, loaded_as, seen_from, best_has}

-- ---- The lists

-- nothing speaks against an inactive controller that stands on the list once
on_none : (leaving : Places) (twice : Bool) (o : Option Seen) (l : Seen) → twice ≡ false → o ≡ Some l
    → l.life ≡ Inactive
    → option_map_or (on_cause leaving twice) o (Some cause.Unknown) ≡ None
on_none leaving twice o l once is idle =
    ap₂ (λ t p. option_map_or (on_cause leaving t) p (Some cause.Unknown)) once is
    ∙ ap (λ life. if is_configured life
    then (if is_running life && not (leaving l.place) then Some cause.AlreadyActive else None)
    else Some cause.NotConfigured) idle

module _ (scene : Scene) (wanted : List (List ℕ)) (places : List ℕ)
    (is : places_in (controllers_in scene) wanted ≡ Ok places) (has : HasWanted scene places) where
  pub none_on : (leaving : Places) (before names : List (List ℕ)) → repeated_after same_name before names ≡ None
      → ((name : List ℕ) → Contains names name → Contains wanted name)
      → first_fault (on_fault scene leaving) before (map One names) ≡ None
  none_on leaving before [] once these = refl
  none_on leaving before (name ∷ names) once these =
      let parts = once_parts (controllers_in scene) (list_any (same_name name) before) name
      (repeated_after same_name (before ++ name ∷ []) names) once in
      let l = loaded_as scene wanted places is has name (these name (here name names)) in
      ap (λ o. option_or (option_map (with_name name) o)
      (first_fault (on_fault scene leaving) (before ++ name ∷ []) (map One names)))
      (on_none leaving (list_any (same_name name) before) (loaded_of scene name) l.0 parts.0 l.1 l.2.0)
      ∙ none_on leaving (before ++ name ∷ []) names parts.1
      (λ other inside. these other (later name names other inside))

  -- ---- The set

  -- the named controllers stand at the wanted places
  places_loaded : (found : List ℕ) (names : List (List ℕ)) → places_after (controllers_in scene) found names ≡ Ok places
      → ((name : List ℕ) → Contains names name → Contains wanted name)
      → found ++ map (λ (m : Member). m.place) (loaded_all scene names) ≡ places
  places_loaded found [] placed these = append-nil found ∙ same_Ok found places placed
  places_loaded found (name ∷ names) placed these =
      let next = next_place (controllers_in scene) found name names places (place_in (controllers_in scene) name)
      placed in
      let l = loaded_as scene wanted places is has name (these name (here name names)) in
      let at : l.0.place ≡ next.0 = same_Some l.0.place next.0 (sym l.2.1 ∙ next.1) in
      ap (λ o. found ++ map (λ (m : Member). m.place) (cons_option (option_map member o) (loaded_all scene names))) l.1
      ∙ ap (λ p. found ++ p ∷ map (λ (m : Member). m.place) (loaded_all scene names)) at
      ∙ sym (append_assoc found (next.0 ∷ []) (map (λ (m : Member). m.place) (loaded_all scene names)))
      ∙ places_loaded (found ++ next.0 ∷ []) names next.2 (λ other inside. these other (later name names other inside))

  pub named_is : named scene wanted ≡ is_wanted places
  named_is =
      fun_ext (λ p.
      sym (any_map (λ q. q == p) (λ (m : Member). m.place) (loaded_all scene wanted))
      ∙ ap (list_any (λ q. q == p)) (places_loaded [] wanted is (λ name inside. inside)))

  -- nobody is active before
  pub idle : (p : ℕ) → active scene p ≡ false
  idle p =
      none_passes (λ (l : Seen). l.place == p && is_running l.life) scene.loaded (λ l inside.
      and_right (l.place == p) (is_running l.life) (ap is_running (has.within l inside).0))

  pub switched_is : (leaving coming : Places) → switched scene leaving coming ≡ coming
  switched_is leaving coming = fun_ext (λ p. ap (λ a. (a && not (leaving p)) || coming p) (idle p))

-- ---- The members

position-within : {A : Type 0} (test : A → Bool) (xs : List A) (k : ℕ) → position test xs ≡ Some k → k < length xs
position-within test [] k is = cc
position-within test (x ∷ xs) k is = (position-Some test (x ∷ xs) k x is).0

-- first alike
first_of-same : {A B : Type 0} (f g : A → Option B) (xs : List A) → ((x : A) → Contains xs x → f x ≡ g x)
    → first_of f xs ≡ first_of g xs
first_of-same f g [] same = refl
first_of-same f g (x ∷ xs) same =
    ap₂ option_or (same x (here x xs)) (first_of-same f g xs (λ y inside. same y (later x xs y inside)))

all_up : (cs : List CompDesc) (k : ℕ) → k < length cs
    → get_or (map (λ (c : CompDesc). Active) cs) k Unconfigured ≡ Active
all_up [] k below = absurd (omega (arith, below))
all_up (c ∷ cs) zero below = refl
all_up (c ∷ cs) (suc k) below = all_up cs k (omega (arith, below))

pub counted_when : (kind : FaultKind) (b : Bool) (o : Option Cause) → b ≡ true
    → (if counts_for_all kind || b then o else None) ≡ o
counted_when fault_kind.Follower b o named = refl
counted_when kind b o named = by (counts_for_all kind) b o named
  where
    by : (all b : Bool) (o : Option Cause) → b ≡ true → (if all || b then o else None) ≡ o
    by true b o named = refl
    by false true o named = refl
    by false false o named = cc

module _ (d : Description) (places : List ℕ) where
  abbrev scene : Scene
  scene = best_scene d places

  abbrev set : Places
  set = is_wanted places

  pub component_place : (i : IfaceName) (k : ℕ) → component_with d.components i ≡ Some k → k < length d.components
  component_place (Joint joint kind) k is =
      position-within (λ (c : CompDesc). list_any (λ each. same_name each.name joint) c.joints) d.components k is
  component_place (Reference controller joint kind) k is = cc

  pub none_down : (p : ℕ) → fault_of_kind scene set set fault_kind.Availability p ≡ None
  none_down p =
      first_of-all (λ i. cause_if (is_unavailable scene i) (cause.Unavailable i))
      ((described scene p).claims ++ (described scene p).reads) (λ i inside.
      none_if (is_unavailable scene i) (cause.Unavailable i)
      (fails_of (λ k. not (is_available (slice_index_or scene.components k Unconfigured)))
      (component_with d.components i) (λ k at.
      ap (λ life. not (is_available life)) (all_up d.components k (component_place i k at)))))

  none_unready : (m : Member) → Contains (order scene set) m
      → fault_of_kind scene set set fault_kind.Readiness m.place ≡ None
  none_unready m inside =
      let l = order_back scene set m inside in
      let at : l.0.place ≡ m.place = ap (λ (n : Member). n.place) l.2 in
      let ready : l.0.ready ≡ true = (seen_from 0 places l.0 l.1).1.0 in
      let is : is_ready scene m.place ≡ true =
      any_from (λ (s : Seen). s.place == m.place && s.ready) scene.loaded l.0 l.1
      (and_from (l.0.place == m.place) l.0.ready (eq-eqb l.0.place m.place at) ready) in
      none_if (set m.place && not (is_ready scene m.place)) cause.NotReady
      (and_right (set m.place) (not (is_ready scene m.place)) (not_from_true (is_ready scene m.place) is))

  counted_is : (kind : FaultKind) (m : Member) → Contains (order scene set) m
      → counted_of scene set set kind m ≡ fault_beside scene set kind m
  counted_is kind m inside =
      ap (option_map (with_name (described scene m.place).name))
      (counted_when kind (set m.place) (fault_of_kind scene set set kind m.place) (order_back scene set m inside).3)

  of_kind : (kind : FaultKind)
      → first_of (counted_of scene set set kind) (order scene set)
      ≡ first_of (fault_beside scene set kind) (order scene set)
  of_kind kind =
      first_of-same (counted_of scene set set kind) (fault_beside scene set kind) (order scene set) (counted_is kind)

  none_of_kind : (kind : FaultKind)
      → ((m : Member) → Contains (order scene set) m → fault_of_kind scene set set kind m.place ≡ None)
      → first_of (counted_of scene set set kind) (order scene set) ≡ None
  none_of_kind kind none =
      first_of-all (counted_of scene set set kind) (order scene set) (λ m inside.
      counted_is kind m inside ∙ ap (option_map (with_name (described scene m.place).name)) (none m inside))

  three_of_five : (f a c m r f' c' m' : Option Dropped) → f ≡ f' → a ≡ None → c ≡ c' → m ≡ m' → r ≡ None
      → option_or f (option_or a (option_or c (option_or m (option_or r None))))
      ≡ option_or f' (option_or c' (option_or m' None))
  three_of_five f a c m r f' c' m' first second third fourth fifth = rw (first, second, third, fourth, fifth) refl

  -- What counts of the members is what lasts.
  members_is : first_member_fault scene set set ≡ never d places
  members_is =
      three_of_five _ _ _ _ _ _ _ _ (of_kind fault_kind.Follower)
      (none_of_kind fault_kind.Availability (λ m inside. none_down m.place)) (of_kind fault_kind.Conflict)
      (of_kind fault_kind.Mode) (none_of_kind fault_kind.Readiness none_unready)

-- ---- The plan

told : (found : Scene) (o : Option Dropped) (dropped : List Dropped) (to again : Places)
    → not_refused (planned found (unless_because o (done dropped to again))).outcome
    ≡ elim o [ None ↦ Ok tt | Some because ↦ Err (fault.Never because.name because.cause) ]
told found None dropped to again = refl
told found (Some because) dropped to again = refl

-- A strict switch of all of them comes to what counts of them as a set.
pub strict_is : (scene : Scene) (wanted : List (List ℕ)) (places : List ℕ)
    → places_in (controllers_in scene) wanted ≡ Ok places → HasWanted scene places
    → repeated_after same_name [] wanted ≡ None
    → strict scene [] (map One wanted)
    ≡ unless_because (first_member_fault scene (is_wanted places) (is_wanted places))
    (done [] (switched scene (named scene []) (named scene (picked_names (map One wanted))))
    (λ p. named scene [] p && named scene (picked_names (map One wanted)) p))
strict_is scene wanted places is has once =
    let leaving = named scene (picked_names []) in
    let coming = named scene (picked_names (map One wanted)) in
    let wanted_set : coming ≡ is_wanted places =
    ap (named scene) (picked_names-ones wanted) ∙ named_is scene wanted places is has in
    let listed : first_fault (on_fault scene leaving) [] (map One wanted) ≡ None =
    none_on scene wanted places is has leaving [] wanted once (λ name inside. inside) in
    let members : first_member_fault scene (switched scene leaving coming) coming
    ≡ first_member_fault scene (is_wanted places) (is_wanted places) =
    ap (λ s. first_member_fault scene s coming) (switched_is scene wanted places is has leaving coming)
    ∙ ap (λ s. first_member_fault scene s s) wanted_set in
    ap (λ o. unless_because o (strict_between scene leaving coming)) listed
    ∙ ap (λ o. unless_because o (done [] (switched scene leaving coming) (λ p. leaving p && coming p))) members

-- What the plan of a strict switch of all of them says is what speaks against them for good.
pub plan_tells : (d : Description) (wanted : List (List ℕ)) (places : List ℕ) (request : SwitchRequest)
    → places_in d.controllers wanted ≡ Ok places → repeated_after same_name [] wanted ≡ None
    → request.on ≡ map One wanted → request.off ≡ [] → request.strict ≡ true
    → not_refused (plan_of (best_scene d places) request).outcome ≡ can_be_active d places
plan_tells d wanted places request is once on off whole =
    let scene = best_scene d places in
    let leaving = named scene (picked_names []) in
    let coming = named scene (picked_names (map One wanted)) in
    ap (λ b. not_refused
    (planned scene
    (if b then strict scene (flat d request.off) (flat d request.on)
    else best_effort scene (flat d request.off) (flat d request.on))).outcome) whole
    ∙ ap₂ (λ o n. not_refused (planned scene (strict scene o n)).outcome) (ap (flat d) off)
    (ap (flat d) on ∙ flat-ones d wanted)
    ∙ ap (λ decided. not_refused (planned scene decided).outcome)
    (strict_is scene wanted places is (best_has d places) once)
    ∙ ap (λ o. not_refused
    (planned scene (unless_because o (done [] (switched scene leaving coming) (λ p. leaving p && coming p)))).outcome)
    (members_is d places)
    ∙ told scene (never d places) [] (switched scene leaving coming) (λ p. leaving p && coming p)
