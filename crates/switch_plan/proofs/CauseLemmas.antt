-- What counts against a strict switch is true of the named controller.
use Rattle.std.proofs.Common.{◌≡◌, ◌⊎◌, ℕ, ◌<◌, Bool, true, false, List, [], ◌∷◌, ◌++◌, length, get_or}
use Rattle.std.proofs.Common.{take, Option, Some, None, inl, inr, refl, sym, ◌∙◌, ap, subst, arith}
use Rattle.std.specs.Prelude.{◌≢◌, ◌&&◌, ◌||◌, not, ◌==◌, if◌then◌else◌, option_map}
use Rattle.std.specs.List.{Contains, list_any, filter, cons_option}
use Rattle.std.specs.Option.{option_map_or}
use Rattle.std.proofs.lemmas.Bool.{not-true, and_parts, and_from, or_cases, or_left, or_right}
use Rattle.std.proofs.lemmas.Bool.{eqb-true, eq-eqb, true≢false, false_from_ne_true}
use Rattle.std.proofs.lemmas.List.{get_or-take, length-take, get_or_default}
use Rattle.std.proofs.lemmas.List.Elements.{Contains-get_or, Contains-append_cases}
use Rattle.std.proofs.lemmas.List.Sorted.{IsPermutation-sym, Contains-permutation}
use Rattle.std.proofs.lemmas.Slice.Eq.{bytes_eq-Decides}
use Rattle.std.proofs.lemmas.Option.{same_Some}
use Rattle.iface_names.specs.Names.{same_name}
use Rattle.iface_names.specs.Interfaces.{same_kind, same_interface}
use Rattle.iface_names.specs.Sameness.{same_kind-Decides, same_interface-Decides}
use Rattle.iface_names.specs.declared.interface.IfaceName.{IfaceName}
use Rattle.iface_names.specs.declared.interface.IfaceName.TheVariants.{Joint, Reference}
use Rattle.iface_names.specs.declared.kind.Kind.{Kind}
use Rattle.cm_document.specs.Links.{exporter}
use Rattle.cm_document.specs.Picks.{flat, picked_names}
use Rattle.cm_document.specs.declared.call.Pick.{Pick}
use Rattle.cm_document.specs.declared.life.Life.TheVariants.{Unconfigured}
use Rattle.cm_model.specs.Order.{Places}
use Rattle.cm_model.specs.Components.{is_available}
use Rattle.cm_model.specs.Scene.{Scene, is_running, is_configured, is_ready, controllers_in, described}
use Rattle.cm_model.specs.Scene.{claims_at, loaded_of, loaded_all, named, member, members, order}
use Rattle.cm_model.specs.Faults.{cause_if, is_missing, component_with, is_unavailable, rival}
use Rattle.cm_model.specs.Faults.{conflict_over, is_beside, is_mode_taken, joint_name, fault_of_kind}
use Rattle.cm_model.specs.Switches.{off_cause, off_fault, on_cause, on_fault, counts_for_all}
use Rattle.cm_model.specs.declared.cause.Cause.{Cause}
use Rattle.cm_model.specs.declared.cause.Cause.TheVariants as cause
use Rattle.cm_model.specs.declared.cause.Dropped.{Dropped}
use Rattle.cm_model.specs.declared.fault_kind.FaultKind.{FaultKind}
use Rattle.cm_model.specs.declared.fault_kind.FaultKind.TheVariants as fault_kind
use Rattle.cm_model.specs.declared.member.Member.{Member}
use Rattle.cm_model.specs.declared.seen.Seen.{Seen}
use Rattle.cm_document.proofs.PickLemmas.{flat-not_described}
use Rattle.chain_order.proofs.OrderLemmas.{in_order-once}
use Rattle.switch_plan.specs.Laws.{SpeaksAgainst, CountsOfMember, CountsAgainst, IsCalled}
use Rattle.switch_plan.specs.Laws.{StandsTwice, IsTrueOfController, IsTrueOf, strict_set}
use Rattle.switch_plan.proofs.ElementLemmas.{map_some, here, later, none_inside, first_or_later, some_of}
use Rattle.switch_plan.proofs.ElementLemmas.{each_fails, found, not_found, filter_back, filter_from}
use Rattle.switch_plan.proofs.ElementLemmas.{Contains-map, Contains-map_back, first_of-some}

-- ---- Names and interfaces

pub same_names : (a b : List ℕ) → same_name a b ≡ true → a ≡ b
same_names a b same = (bytes_eq-Decides a b).0 same

pub name_itself : (a : List ℕ) → same_name a a ≡ true
name_itself a = (bytes_eq-Decides a a).1 refl

-- a controller that claims an interface has it among its claims
pub claims_from : (scene : Scene) (p : ℕ) (i : IfaceName) → claims_at (controllers_in scene) p i ≡ true
    → Contains (described scene p).claims i
claims_from scene p i claims =
    let r = some_of (λ claim. same_interface claim i) (described scene p).claims claims in
    subst (Contains (described scene p).claims) ((same_interface-Decides r.0 i).0 r.2) r.1

-- two command interfaces of one joint
beside_parts : (i other : IfaceName) → is_beside i other ≡ true
    → (kind : Kind) × (kind' : Kind) × (kind ≢ kind') × (i ≡ Joint (joint_name i) kind)
    × (other ≡ Joint (joint_name i) kind')
beside_parts (Joint joint kind) (Joint joint' kind') beside =
    let parts = and_parts (same_name joint joint') (not (same_kind kind kind')) beside in
    let one : joint ≡ joint' = same_names joint joint' parts.0 in (
      kind,
      kind',
      λ (e : kind ≡ kind'). let same : same_kind kind kind' ≡ true =
          (same_kind-Decides kind kind').1 e in true≢false (sym parts.1 ∙ ap not same),
      refl,
      ap (λ j. Joint j kind') (sym one),
    )
beside_parts (Joint joint kind) (Reference c j k) beside = cc
beside_parts (Reference c j k) (Joint joint kind) beside = cc
beside_parts (Reference c j k) (Reference c' j' k') beside = cc

-- ---- Choices

module _ (P : Cause → Type 0) where
  given_if : (b : Bool) (c d : Cause) → (b ≡ true → P c) → cause_if b c ≡ Some d → P d
  given_if true c d holds e = subst P (same_Some c d e) (holds refl)
  given_if false c d holds e = cc

  given_unless : (b : Bool) (c d : Cause) → (b ≡ false → P c) → (if b then None else Some c) ≡ Some d → P d
  given_unless true c d holds e = cc
  given_unless false c d holds e = subst P (same_Some c d e) (holds refl)

  off_given : (twice : Bool) (l : Seen) (d : Cause) → (twice ≡ true → P cause.Twice)
      → (is_running l.life ≡ false → P cause.NotActive) → off_cause twice l ≡ Some d → P d
  off_given true l d repeated idle e = subst P (same_Some cause.Twice d e) (repeated refl)
  off_given false l d repeated idle e = given_unless (is_running l.life) cause.NotActive d idle e

  on_given_then : (configured active : Bool) (d : Cause) → (configured ≡ false → P cause.NotConfigured)
      → (active ≡ true → P cause.AlreadyActive)
      → (if configured then (if active then Some cause.AlreadyActive else None) else Some cause.NotConfigured) ≡ Some d
      → P d
  on_given_then true true d bare runs e = subst P (same_Some cause.AlreadyActive d e) (runs refl)
  on_given_then true false d bare runs e = cc
  on_given_then false active d bare runs e = subst P (same_Some cause.NotConfigured d e) (bare refl)

  on_given : (leaving : Places) (twice : Bool) (l : Seen) (d : Cause) → (twice ≡ true → P cause.Twice)
      → (is_configured l.life ≡ false → P cause.NotConfigured)
      → ((is_running l.life && not (leaving l.place)) ≡ true → P cause.AlreadyActive)
      → on_cause leaving twice l ≡ Some d → P d
  on_given leaving true l d repeated bare runs e = subst P (same_Some cause.Twice d e) (repeated refl)
  on_given leaving false l d repeated bare runs e =
      on_given_then (is_configured l.life) (is_running l.life && not (leaving l.place)) d bare runs e

  loaded_given : (cause_of : Seen → Option Cause) (o : Option Seen) (d : Cause) → (o ≡ None → P cause.Unknown)
      → ((l : Seen) → o ≡ Some l → cause_of l ≡ Some d → P d)
      → option_map_or cause_of o (Some cause.Unknown) ≡ Some d → P d
  loaded_given cause_of None d unknown known e = subst P (same_Some cause.Unknown d e) (unknown refl)
  loaded_given cause_of (Some l) d unknown known e = known l refl e

-- what a test says of what was found
option_given : {A : Type 0} (f : A → Bool) (o : Option A) → option_map_or f o false ≡ true
    → (x : A) × (o ≡ Some x) × (f x ≡ true)
option_given f None e = cc
option_given f (Some x) e = (x, refl, e)

-- what counts is a fault, of each member or of one that is named
counted_parts : (b : Bool) (o : Option Cause) (c : Cause) → (if b then o else None) ≡ Some c → (b ≡ true) × (o ≡ Some c)
counted_parts true o c e = (refl, e)
counted_parts false o c e = cc

-- ---- Loaded controllers

module _ (scene : Scene) where
  pub loaded_called : (name : List ℕ) (l : Seen) → loaded_of scene name ≡ Some l → IsCalled scene name l
  loaded_called name l is =
      let r = found (λ l. same_name (described scene l.place).name name) scene.loaded l is in
      record { loaded = r.0; name_is = same_names (described scene l.place).name name r.1 }

  not_called : (name : List ℕ) → loaded_of scene name ≡ None → (l : Seen) → IsCalled scene name l → ⊥
  not_called name none l is =
      true≢false (sym (ap (λ n. same_name n name) is.name_is ∙ name_itself name)
      ∙ not_found (λ l. same_name (described scene l.place).name name) scene.loaded none l is.loaded)

  -- of the controllers that names name, one at a place has one of them
  pub named_one : (o : Option Seen) (ms : List Member) (p : ℕ)
      → list_any (λ m. m.place == p) (cons_option (option_map member o) ms) ≡ true
      → ((l : Seen) × (o ≡ Some l) × (l.place ≡ p)) ⊎ (list_any (λ m. m.place == p) ms ≡ true)
  named_one None ms p any = inr any
  named_one (Some l) ms p any =
      elim (or_cases (l.place == p) (list_any (λ m. m.place == p) ms) any) [
        | inl same ↦ inl (l, refl, eqb-true l.place p same)
        | inr rest ↦ inr rest
      ]

  pub named_back : (names : List (List ℕ)) (p : ℕ) → named scene names p ≡ true
      → Contains names (described scene p).name
  named_back [] p any = absurd (true≢false (sym any))
  named_back (name ∷ names) p any =
      elim (named_one (loaded_of scene name) (loaded_all scene names) p any) [
        | inl (l, is, same) ↦
            let called = loaded_called name l is in
            let e : name ≡ (described scene p).name = sym called.name_is ∙ ap (λ q. (described scene q).name) same in
            subst (Contains (name ∷ names)) e (here name names)
        | inr rest ↦ later name names (described scene p).name (named_back names p rest)
      ]

  -- and each name that is loaded is named
  pub named_more : (o : Option Seen) (ms : List Member) (p : ℕ) → list_any (λ m. m.place == p) ms ≡ true
      → list_any (λ m. m.place == p) (cons_option (option_map member o) ms) ≡ true
  named_more None ms p any = any
  named_more (Some l) ms p any = or_right (l.place == p) (list_any (λ m. m.place == p) ms) any

  named_first : (o : Option Seen) (ms : List Member) (l : Seen) → o ≡ Some l
      → list_any (λ m. m.place == l.place) (cons_option (option_map member o) ms) ≡ true
  named_first None ms l is = cc
  named_first (Some other) ms l is =
      or_left (other.place == l.place) (list_any (λ m. m.place == l.place) ms)
      (eq-eqb other.place l.place (ap (λ (s : Seen). s.place) (same_Some other l is)))

  pub named_from : (names : List (List ℕ)) (name : List ℕ) (l : Seen) → Contains names name
      → loaded_of scene name ≡ Some l → named scene names l.place ≡ true
  named_from [] name l inside is = absurd (none_inside name inside)
  named_from (n ∷ names) name l inside is =
      elim (first_or_later n names name inside) [
        | inl same ↦ named_first (loaded_of scene n) (loaded_all scene names) l (ap (loaded_of scene) same ∙ is)
        | inr after ↦ named_more (loaded_of scene n) (loaded_all scene names) l.place (named_from names name l after is)
      ]

  -- a member of a set by order is loaded, and the other way
  pub order_back : (set : Places) (m : Member) → Contains (order scene set) m
      → (l : Seen) × Contains scene.loaded l × (member l ≡ m) × (set m.place ≡ true)
  order_back set m inside =
      let listed = Contains-permutation (order scene set) (members scene set) m
      (IsPermutation-sym (members scene set) (order scene set)
      (in_order-once (controllers_in scene) set (members scene set))) inside in
      let l = Contains-map_back member (filter (λ l. set l.place) scene.loaded) m listed in
      let kept = filter_back (λ (l : Seen). set l.place) scene.loaded l.0 l.1 in
      (l.0, kept.0, l.2, ap (λ (n : Member). set n.place) (sym l.2) ∙ kept.1)

  pub order_from : (set : Places) (l : Seen) → Contains scene.loaded l → set l.place ≡ true
      → Contains (order scene set) (member l)
  order_from set l inside is =
      Contains-permutation (members scene set) (order scene set) (member l)
      (in_order-once (controllers_in scene) set (members scene set))
      (Contains-map member (filter (λ l. set l.place) scene.loaded) l
      (filter_from (λ (l : Seen). set l.place) scene.loaded l inside is))

-- ---- Names of the lists

-- a name that stands among those before it stands twice
twice_from : (names : List (List ℕ)) (name : List ℕ) (j : ℕ) → j < length names → get_or names j [] ≡ name
    → list_any (same_name name) (take j names) ≡ true → StandsTwice names name
twice_from names name j below is any =
    let r = some_of (same_name name) (take j names) any in
    let i : ℕ = r.1.0 in
    let short : i < length (take j names) = r.1.1 in
    let before : i < j = omega (arith, short, length-take j names) in
    let at : get_or (take j names) i [] ≡ name =
    get_or_default (take j names) i [] r.0 short ∙ r.1.2 ∙ sym (same_names name r.0 r.2) in
    (i, j, before, below, sym (get_or-take j names i [] before) ∙ at, is)

module _ (scene : Scene) (off on : List (List ℕ)) where
  off_true : (d : Dropped) → SpeaksAgainst (off_fault scene) off d → IsTrueOfController scene off on d.name d.cause
  off_true d (i, below, is, e) =
      let inside : Contains off d.name = subst (Contains off) is (Contains-get_or off i [] below) in
      loaded_given (IsTrueOfController scene off on d.name) (off_cause (list_any (same_name d.name) (take i off)))
      (loaded_of scene d.name) d.cause
      (λ none. not_called scene d.name none)
      (λ l found e. off_given (IsTrueOfController scene off on d.name) (list_any (same_name d.name) (take i off)) l
      d.cause
      (λ any. inl (twice_from off d.name i below is any))
      (λ idle. (inside, (l, loaded_called scene d.name l found, idle))) e) e

  on_true : (d : Dropped) → SpeaksAgainst (on_fault scene (named scene off)) on d
      → IsTrueOfController scene off on d.name d.cause
  on_true d (i, below, is, e) =
      let inside : Contains on d.name = subst (Contains on) is (Contains-get_or on i [] below) in
      loaded_given (IsTrueOfController scene off on d.name)
      (on_cause (named scene off) (list_any (same_name d.name) (take i on))) (loaded_of scene d.name) d.cause
      (λ none. not_called scene d.name none)
      (λ l found e. on_given (IsTrueOfController scene off on d.name) (named scene off)
      (list_any (same_name d.name) (take i on)) l d.cause
      (λ any. inr (twice_from on d.name i below is any))
      (λ bare. (inside, (l, loaded_called scene d.name l found, bare)))
      (λ both. let parts = and_parts (is_running l.life) (not (named scene off l.place)) both in (
        inside,
        (λ listed. true≢false
            (sym (named_from scene off d.name l listed found) ∙ not-true (named scene off l.place) parts.1)),
        (l, loaded_called scene d.name l found, parts.0),
      )) e) e

  -- ---- Members

  abbrev set : Places
  set = strict_set scene off on

  module _ (name : List ℕ) (l : Seen) (called : IsCalled scene name l) (inside : set l.place ≡ true) where
    abbrev True : Cause → Type 0
    True c = IsTrueOfController scene off on name c

    follower_true : (c : Cause) → fault_of_kind scene set (named scene on) fault_kind.Follower l.place ≡ Some c → True c
    follower_true c e =
        let r = first_of-some (λ i. cause_if (is_missing (controllers_in scene) set i) (cause.MissingFollower i))
        (described scene l.place).claims c e in
        given_if True (is_missing (controllers_in scene) set r.0) (cause.MissingFollower r.0) c
        (λ missing. let q = option_given (λ q. not (set q)) (exporter (controllers_in scene) r.0) missing in
        (l, called, (record { member = inside; claims = r.1 }, (q.0, q.1, not-true (set q.0) q.2)))) r.2

    unavailable_true : (c : Cause) → Contains on name
        → fault_of_kind scene set (named scene on) fault_kind.Availability l.place ≡ Some c → True c
    unavailable_true c listed e =
        let r = first_of-some (λ i. cause_if (is_unavailable scene i) (cause.Unavailable i))
        ((described scene l.place).claims ++ (described scene l.place).reads) c e in
        given_if True (is_unavailable scene r.0) (cause.Unavailable r.0) c
        (λ down. let k =
        option_given (λ k. not (is_available (get_or scene.components k Unconfigured)))
        (component_with scene.description.components r.0) down in (
          listed,
          (
            l,
            called,
            (
              Contains-append_cases (described scene l.place).claims (described scene l.place).reads r.0 r.1,
              (k.0, k.1, not-true (is_available (get_or scene.components k.0 Unconfigured)) k.2),
            ),
          ),
        )) r.2

    conflict_true : (c : Cause) → fault_of_kind scene set (named scene on) fault_kind.Conflict l.place ≡ Some c → True c
    conflict_true c e =
        let r = first_of-some (conflict_over scene set l.place) (described scene l.place).claims c e in
        let m = map_some (λ (m : Member). cause.Conflict r.0 (described scene m.place).name)
        (rival scene set l.place r.0) c r.2 in
        let other = found (λ (m : Member). not (m.place == l.place) && claims_at (controllers_in scene) m.place r.0)
        (order scene set) m.0 m.1 in
        let parts = and_parts (not (m.0.place == l.place)) (claims_at (controllers_in scene) m.0.place r.0) other.1 in
        let o = order_back scene set m.0 other.0 in
        let at : o.0.place ≡ m.0.place = ap (λ (n : Member). n.place) o.2 in
        let apart : l.place ≢ o.0.place =
        λ (e : l.place ≡ o.0.place). true≢false
        (sym (eq-eqb m.0.place l.place (sym (e ∙ at))) ∙ not-true (m.0.place == l.place) parts.0) in
        subst True m.2 (
          l,
          called,
          (
            o.0,
            record { loaded = o.1; name_is = ap (λ q. (described scene q).name) at },
            (
              apart,
              record { member = inside; claims = r.1 },
              record {
                member = ap set at ∙ o.3;
                claims =
                    subst (λ q. Contains (described scene q).claims r.0) (sym at)
                    (claims_from scene m.0.place r.0 parts.1);
              },
            ),
          ),
        )

    mode_true : (c : Cause) → fault_of_kind scene set (named scene on) fault_kind.Mode l.place ≡ Some c → True c
    mode_true c e =
        let r = first_of-some (λ i. cause_if (is_mode_taken scene set i) (cause.ModeRefused (joint_name i)))
        (described scene l.place).claims c e in
        given_if True (is_mode_taken scene set r.0) (cause.ModeRefused (joint_name r.0)) c
        (λ taken.
        let m = some_of (λ (m : Seen). set m.place && list_any (is_beside r.0) (described scene m.place).claims)
        scene.loaded taken in
        let parts = and_parts (set m.0.place) (list_any (is_beside r.0) (described scene m.0.place).claims) m.2 in
        let i = some_of (is_beside r.0) (described scene m.0.place).claims parts.1 in
        let b = beside_parts r.0 i.0 i.2 in (
          l,
          called,
          (
            m.0,
            b.0,
            b.1,
            b.2,
            record { member = inside; claims = subst (Contains (described scene l.place).claims) b.3 r.1 },
            record { member = parts.0; claims = subst (Contains (described scene m.0.place).claims) b.4 i.1 },
          ),
        )) r.2

    readiness_true : (c : Cause) → Contains on name
        → fault_of_kind scene set (named scene on) fault_kind.Readiness l.place ≡ Some c → True c
    readiness_true c listed e =
        given_if True (named scene on l.place && not (is_ready scene l.place)) cause.NotReady c
        (λ both.
        let parts = and_parts (named scene on l.place) (not (is_ready scene l.place)) both in
        let unready =
        each_fails (λ (s : Seen). s.place == l.place && s.ready) scene.loaded
        (not-true (is_ready scene l.place) parts.1) l called.loaded in (
          listed,
          (
            l,
            called,
            false_from_ne_true l.ready
                (λ ready. true≢false
                (sym (and_from (l.place == l.place) l.ready (eq-eqb l.place l.place refl) ready) ∙ unready)),
          ),
        )) e

    kind_true : (kind : FaultKind) (c : Cause) → ((counts_for_all kind || named scene on l.place) ≡ true)
        → (named scene on l.place ≡ true → Contains on name)
        → fault_of_kind scene set (named scene on) kind l.place ≡ Some c → True c
    kind_true fault_kind.Follower c counts listed e = follower_true c e
    kind_true fault_kind.Availability c counts listed e = unavailable_true c (listed counts) e
    kind_true fault_kind.Conflict c counts listed e = conflict_true c e
    kind_true fault_kind.Mode c counts listed e = mode_true c e
    kind_true fault_kind.Readiness c counts listed e = readiness_true c (listed counts) e

  member_true : (d : Dropped) → CountsOfMember scene off on d → IsTrueOfController scene off on d.name d.cause
  member_true d (kind, m, inside, named_so, e) =
      let l = order_back scene set m inside in
      let at : l.0.place ≡ m.place = ap (λ (n : Member). n.place) l.2 in
      let called : IsCalled scene d.name l.0 =
      record { loaded = l.1; name_is = ap (λ q. (described scene q).name) at ∙ named_so } in
      let parts = counted_parts (counts_for_all kind || named scene on m.place)
      (fault_of_kind scene set (named scene on) kind m.place) d.cause e in
      kind_true d.name l.0 called (ap set at ∙ l.3) kind d.cause
      (ap (λ q. counts_for_all kind || named scene on q) at ∙ parts.0)
      (λ on_list. subst (Contains on) called.name_is (named_back scene on l.0.place on_list))
      (ap (fault_of_kind scene set (named scene on) kind) at ∙ parts.1)

-- what counts against a switch of two lists, made flat, is true of the name
module _ (scene : Scene) (off on : List Pick) where
  abbrev flat_off : List Pick
  flat_off = flat scene.description off

  abbrev flat_on : List Pick
  flat_on = flat scene.description on

  pub counts_true : (d : Dropped) → CountsAgainst scene flat_off flat_on d
      → IsTrueOf scene flat_off flat_on d.name d.cause
  counts_true d (inl (inl (is, listed))) =
      inl (is, record { listed = inl listed; none = flat-not_described scene.description off d.name listed })
  counts_true d (inl (inr leaving)) = inr (off_true scene (picked_names flat_off) (picked_names flat_on) d leaving)
  counts_true d (inr (inl (inl (is, listed)))) =
      inl (is, record { listed = inr listed; none = flat-not_described scene.description on d.name listed })
  counts_true d (inr (inl (inr coming))) = inr (on_true scene (picked_names flat_off) (picked_names flat_on) d coming)
  counts_true d (inr (inr of_member)) =
      inr (member_true scene (picked_names flat_off) (picked_names flat_on) d of_member)
