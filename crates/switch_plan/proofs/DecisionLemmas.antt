-- When a strict switch is done, and what is named where it is refused.
use Rattle.std.proofs.Common.{◌≡◌, ◌⊎◌, ℕ, zero, suc, ◌<◌, true, List, [], ◌∷◌, ◌++◌, length, get_or, take}
use Rattle.std.proofs.Common.{append-nil, Option, Some, None, inl, inr, refl, sym, ◌∙◌, ap, subst, arith}
use Rattle.std.specs.Prelude.{◌&&◌, ◌↔◌, option_map}
use Rattle.std.specs.List.{Contains}
use Rattle.std.specs.Option.{option_or}
use Rattle.std.proofs.lemmas.List.{append_assoc}
use Rattle.std.proofs.lemmas.Option.{same_Some}
use Rattle.cm_document.specs.Picks.{flat, picked_names}
use Rattle.cm_document.specs.declared.call.Pick.{Pick}
use Rattle.cm_document.specs.declared.call.Pick.TheVariants.{One, Group}
use Rattle.cm_document.specs.declared.call.SwitchRequest.{SwitchRequest}
use Rattle.cm_model.specs.Order.{Places}
use Rattle.cm_model.specs.Scene.{Scene, described, named, order}
use Rattle.cm_model.specs.Faults.{first_of}
use Rattle.cm_model.specs.Switches.{with_name, off_fault, on_fault, first_fault, counted, counted_of}
use Rattle.cm_model.specs.Switches.{first_member_fault, Decided, refused, done, unless_because, strict, planned}
use Rattle.cm_model.specs.BestEffort.{flat_decided, plan_of}
use Rattle.cm_model.specs.declared.cause.Cause.{Cause}
use Rattle.cm_model.specs.declared.cause.Cause.TheVariants as cause
use Rattle.cm_model.specs.declared.cause.Dropped.{Dropped}
use Rattle.cm_model.specs.declared.cause.Outcome.{Outcome}
use Rattle.cm_model.specs.declared.cause.Outcome.TheVariants as outcome
use Rattle.cm_model.specs.declared.fault_kind.FaultKind.{FaultKind}
use Rattle.cm_model.specs.declared.fault_kind.FaultKind.TheVariants as fault_kind
use Rattle.cm_model.specs.declared.fault_kind.TheConstants.{FAULT_KINDS}
use Rattle.cm_model.specs.declared.member.Member.{Member}
use Rattle.cm_model.specs.declared.planned.Planned.{Planned}
use Rattle.switch_plan.specs.Laws.{IsFaultless, CanBeDone, CountsAgainst, strict_set}
use Rattle.switch_plan.proofs.ElementLemmas.{or_none, or_some, map_none, map_some, here, later, none_inside}
use Rattle.switch_plan.proofs.ElementLemmas.{first_or_later, first_of-none, first_of-all, first_of-some}

-- ---- First fault of a flat list

no_group_one : (name : List ℕ) (picks : List Pick) → ((n : List ℕ) → ¬ Contains picks (Group n)) → (n : List ℕ)
    → ¬ Contains (One name ∷ picks) (Group n)
no_group_one name picks none n inside =
    elim (first_or_later (One name) picks (Group n) inside) [
      | inl same ↦ (let never : One name ≡ Group n = same in cc)
      | inr after ↦ none n after
    ]

module _ (fault : List (List ℕ) → List ℕ → Option Cause) where
  -- the names before one, with those before all
  behind : (before : List (List ℕ)) (name : List ℕ) (names : List (List ℕ)) (n : List ℕ)
      → fault ((before ++ name ∷ []) ++ names) n ≡ fault (before ++ (name ∷ names)) n
  behind before name names n = ap (λ b. fault b n) (append_assoc before (name ∷ []) names)

  -- nothing speaks against a list, behind these controllers
  record Passes (before : List (List ℕ)) (picks : List Pick) : Type 0 where
    groupless : (name : List ℕ) → ¬ Contains picks (Group name)
    controllers : (i : ℕ) → i < length (picked_names picks)
        → fault (before ++ take i (picked_names picks)) (get_or (picked_names picks) i []) ≡ None

  controllers-one : (before : List (List ℕ)) (name : List ℕ) (picks : List Pick) → fault before name ≡ None
      → ((i : ℕ) → i < length (picked_names picks)
      → fault ((before ++ name ∷ []) ++ take i (picked_names picks)) (get_or (picked_names picks) i []) ≡ None)
      → (i : ℕ) → i < length (picked_names (One name ∷ picks))
      → fault (before ++ take i (picked_names (One name ∷ picks))) (get_or (picked_names (One name ∷ picks)) i [])
      ≡ None
  controllers-one before name picks first rest zero below = ap (λ b. fault b name) (append-nil before) ∙ first
  controllers-one before name picks first rest (suc i) below =
      sym (behind before name (take i (picked_names picks)) (get_or (picked_names picks) i []))
      ∙ rest i (omega (arith, below))

  first_fault-none : (before : List (List ℕ)) (picks : List Pick) → first_fault fault before picks ≡ None
      → Passes before picks
  first_fault-none before [] e = record {
    groupless = λ name inside. none_inside (Group name) inside;
    controllers = λ i below. absurd (omega (arith, below));
  }
  first_fault-none before (Group name ∷ picks) e = cc
  first_fault-none before (One name ∷ picks) e =
      let parts = or_none (option_map (with_name name) (fault before name))
      (first_fault fault (before ++ name ∷ []) picks) e in
      let rest = first_fault-none (before ++ name ∷ []) picks parts.1 in
      record {
        groupless = no_group_one name picks rest.groupless;
        controllers =
            controllers-one before name picks (map_none (with_name name) (fault before name) parts.0) rest.controllers;
      }

  first_fault-all : (before : List (List ℕ)) (picks : List Pick) → Passes before picks
      → first_fault fault before picks ≡ None
  first_fault-all before [] passes = refl
  first_fault-all before (Group name ∷ picks) passes = absurd (passes.groupless name (here (Group name) picks))
  first_fault-all before (One name ∷ picks) passes =
      ap (λ o. option_or (option_map (with_name name) o) (first_fault fault (before ++ name ∷ []) picks))
      (ap (λ b. fault b name) (sym (append-nil before)) ∙ passes.controllers 0 (omega arith))
      ∙ first_fault-all (before ++ name ∷ []) picks (record {
        groupless = λ n inside. passes.groupless n (later (One name) picks (Group n) inside);
        controllers =
            λ i below. behind before name (take i (picked_names picks)) (get_or (picked_names picks) i [])
            ∙ passes.controllers (suc i) (omega (arith, below));
      })

  -- what speaks first against a list, behind these controllers
  abbrev Speaks : List (List ℕ) → List Pick → Dropped → Type 0
  Speaks before picks d =
      ((d.cause ≡ cause.NoGroup) × Contains picks (Group d.name))
      ⊎ ((i : ℕ) × (i < length (picked_names picks)) × (get_or (picked_names picks) i [] ≡ d.name)
      × (fault (before ++ take i (picked_names picks)) d.name ≡ Some d.cause))

  speaks_later : (before : List (List ℕ)) (name : List ℕ) (picks : List Pick) (d : Dropped)
      → Speaks (before ++ name ∷ []) picks d → Speaks before (One name ∷ picks) d
  speaks_later before name picks d (inl (is, inside)) = inl (is, later (One name) picks (Group d.name) inside)
  speaks_later before name picks d (inr (i, below, at, e)) =
      inr (suc i, omega (arith, below), at, sym (behind before name (take i (picked_names picks)) d.name) ∙ e)

  first_fault-some : (before : List (List ℕ)) (picks : List Pick) (d : Dropped)
      → first_fault fault before picks ≡ Some d → Speaks before picks d
  first_fault-some before [] d e = cc
  first_fault-some before (Group name ∷ picks) d e =
      let is : with_name name cause.NoGroup ≡ d = same_Some (with_name name cause.NoGroup) d e in
      inl (
        ap (λ (x : Dropped). x.cause) (sym is),
        subst (λ n. Contains (Group name ∷ picks) (Group n)) (ap (λ (x : Dropped). x.name) is)
            (here (Group name) picks),
      )
  first_fault-some before (One name ∷ picks) d e =
      elim (or_some (option_map (with_name name) (fault before name)) (first_fault fault (before ++ name ∷ []) picks) d
      e) [
        | inl this ↦
            let r = map_some (with_name name) (fault before name) d this in
            let called : name ≡ d.name = ap (λ (x : Dropped). x.name) r.2 in
            let caused : r.0 ≡ d.cause = ap (λ (x : Dropped). x.cause) r.2 in
            inr (
              0,
              omega arith,
              called,
              ap (λ n. fault (before ++ []) n) (sym called)
                  ∙ ap (λ b. fault b name) (append-nil before) ∙ r.1 ∙ ap Some caused,
            )
        | inr rest ↦ speaks_later before name picks d (first_fault-some (before ++ name ∷ []) picks d rest)
      ]

-- ---- Decisions

-- the name of a refusal
abbrev because_of : Decided → Dropped → Dropped
because_of (refused d) other = d
because_of (done dropped set again) other = other

unless_done : (o : Option Dropped) (rest : Decided) (dropped : List Dropped) (set again : Places)
    → unless_because o rest ≡ done dropped set again
    → (o ≡ None) × (rest ≡ done dropped set again)
unless_done None rest dropped set again e = (refl, e)
unless_done (Some d) rest dropped set again e = cc

unless_refused : (o : Option Dropped) (rest : Decided) (d : Dropped) → unless_because o rest ≡ refused d
    → (o ≡ Some d) ⊎ (rest ≡ refused d)
unless_refused None rest d e = inr e
unless_refused (Some b) rest d e = inl (ap (λ r. Some (because_of r d)) e)

pub unless_either : (o : Option Dropped) (rest whole : Decided) → (rest ≡ whole) ⊎ ((d : Dropped) × (rest ≡ refused d))
    → (unless_because o rest ≡ whole) ⊎ ((d : Dropped) × (unless_because o rest ≡ refused d))
unless_either None rest whole either = either
unless_either (Some d) rest whole either = inr (d, refl)

-- what an outcome refuses because of, or else another
abbrev named_in : Outcome → Dropped → Dropped
named_in (outcome.Refused name c) other = record { name = name; cause = c }
named_in _ other = other

-- each kind stands among the kinds
kind_listed : (kind : FaultKind) → Contains FAULT_KINDS kind
kind_listed fault_kind.Follower =
    here fault_kind.Follower
    (fault_kind.Availability ∷ fault_kind.Conflict ∷ fault_kind.Mode ∷ fault_kind.Readiness ∷ [])
kind_listed fault_kind.Availability =
    later fault_kind.Follower
    (fault_kind.Availability ∷ fault_kind.Conflict ∷ fault_kind.Mode ∷ fault_kind.Readiness ∷ [])
    fault_kind.Availability
    (here fault_kind.Availability (fault_kind.Conflict ∷ fault_kind.Mode ∷ fault_kind.Readiness ∷ []))
kind_listed fault_kind.Conflict =
    later fault_kind.Follower
    (fault_kind.Availability ∷ fault_kind.Conflict ∷ fault_kind.Mode ∷ fault_kind.Readiness ∷ []) fault_kind.Conflict
    (later fault_kind.Availability (fault_kind.Conflict ∷ fault_kind.Mode ∷ fault_kind.Readiness ∷ [])
    fault_kind.Conflict (here fault_kind.Conflict (fault_kind.Mode ∷ fault_kind.Readiness ∷ [])))
kind_listed fault_kind.Mode =
    later fault_kind.Follower
    (fault_kind.Availability ∷ fault_kind.Conflict ∷ fault_kind.Mode ∷ fault_kind.Readiness ∷ []) fault_kind.Mode
    (later fault_kind.Availability (fault_kind.Conflict ∷ fault_kind.Mode ∷ fault_kind.Readiness ∷ []) fault_kind.Mode
    (later fault_kind.Conflict (fault_kind.Mode ∷ fault_kind.Readiness ∷ []) fault_kind.Mode
    (here fault_kind.Mode (fault_kind.Readiness ∷ []))))
kind_listed fault_kind.Readiness =
    later fault_kind.Follower
    (fault_kind.Availability ∷ fault_kind.Conflict ∷ fault_kind.Mode ∷ fault_kind.Readiness ∷ []) fault_kind.Readiness
    (later fault_kind.Availability (fault_kind.Conflict ∷ fault_kind.Mode ∷ fault_kind.Readiness ∷ [])
    fault_kind.Readiness
    (later fault_kind.Conflict (fault_kind.Mode ∷ fault_kind.Readiness ∷ []) fault_kind.Readiness
    (later fault_kind.Mode (fault_kind.Readiness ∷ []) fault_kind.Readiness (here fault_kind.Readiness []))))

module _ (scene : Scene) (set on : Places) where
  members-none : first_member_fault scene set on ≡ None → (kind : FaultKind) (m : Member) → Contains (order scene set) m
      → counted scene set on kind m.place ≡ None
  members-none e kind m inside =
      map_none (with_name (described scene m.place).name) (counted scene set on kind m.place)
      (first_of-none (counted_of scene set on kind) (order scene set)
      (first_of-none (λ kind. first_of (counted_of scene set on kind) (order scene set)) FAULT_KINDS e kind
      (kind_listed kind)) m inside)

  members-all : ((kind : FaultKind) (m : Member) → Contains (order scene set) m
      → counted scene set on kind m.place ≡ None) → first_member_fault scene set on ≡ None
  members-all none =
      first_of-all (λ kind. first_of (counted_of scene set on kind) (order scene set)) FAULT_KINDS (λ kind _.
      first_of-all (counted_of scene set on kind) (order scene set)
      (λ m inside. ap (option_map (with_name (described scene m.place).name)) (none kind m inside)))

  members-some : (d : Dropped) → first_member_fault scene set on ≡ Some d
      → (kind : FaultKind) × (m : Member) × Contains (order scene set) m × ((described scene m.place).name ≡ d.name)
      × (counted scene set on kind m.place ≡ Some d.cause)
  members-some d e =
      let k = first_of-some (λ kind. first_of (counted_of scene set on kind) (order scene set)) FAULT_KINDS d e in
      let m = first_of-some (counted_of scene set on k.0) (order scene set) d k.2 in
      let c = map_some (with_name (described scene m.0.place).name) (counted scene set on k.0 m.0.place) d m.2 in
      (k.0, m.0, m.1, ap (λ (x : Dropped). x.name) c.2, c.1 ∙ ap (λ (x : Dropped). Some x.cause) c.2)

-- nothing speaks against a list, behind no controller
passed : (fault : List (List ℕ) → List ℕ → Option Cause) (picks : List Pick) → Passes fault [] picks
    → IsFaultless fault picks
passed fault picks passes = record { groupless = passes.groupless; controllers = passes.controllers }

passing : (fault : List (List ℕ) → List ℕ → Option Cause) (picks : List Pick) → IsFaultless fault picks
    → Passes fault [] picks
passing fault picks is = record { groupless = is.groupless; controllers = is.controllers }

module _ (scene : Scene) (off on : List Pick) where
  -- those on both lists
  abbrev again : Places
  again p = named scene (picked_names off) p && named scene (picked_names on) p

  -- the three parts of the decision
  abbrev of_off : Option Dropped
  of_off = first_fault (off_fault scene) [] off

  abbrev of_on : Option Dropped
  of_on = first_fault (on_fault scene (named scene (picked_names off))) [] on

  abbrev of_members : Option Dropped
  of_members =
      first_member_fault scene (strict_set scene (picked_names off) (picked_names on)) (named scene (picked_names on))

  abbrev whole : Decided
  whole = done [] (strict_set scene (picked_names off) (picked_names on)) again

  done_can : strict scene off on ≡ whole → CanBeDone scene off on
  done_can e =
      let offs = unless_done of_off (unless_because of_on (unless_because of_members whole)) []
      (strict_set scene (picked_names off) (picked_names on)) again e in
      let ons = unless_done of_on (unless_because of_members whole) []
      (strict_set scene (picked_names off) (picked_names on)) again offs.1 in
      let members =
      unless_done of_members whole [] (strict_set scene (picked_names off) (picked_names on)) again ons.1 in
      record {
        leaving = passed (off_fault scene) off (first_fault-none (off_fault scene) [] off offs.0);
        coming = passed (on_fault scene (named scene (picked_names off))) on
            (first_fault-none (on_fault scene (named scene (picked_names off))) [] on ons.0);
        members = members-none scene (strict_set scene (picked_names off) (picked_names on))
            (named scene (picked_names on)) members.0;
      }

  can_done : CanBeDone scene off on → strict scene off on ≡ whole
  can_done can =
      ap (λ o. unless_because o (unless_because of_on (unless_because of_members whole)))
      (first_fault-all (off_fault scene) [] off (passing (off_fault scene) off can.leaving))
      ∙ ap (λ o. unless_because o (unless_because of_members whole))
      (first_fault-all (on_fault scene (named scene (picked_names off))) [] on
      (passing (on_fault scene (named scene (picked_names off))) on can.coming))
      ∙ ap (λ o. unless_because o whole)
      (members-all scene (strict_set scene (picked_names off) (picked_names on)) (named scene (picked_names on))
      can.members)

  pub strict_done : (strict scene off on
      ≡ done [] (strict_set scene (picked_names off) (picked_names on))
      (λ p. named scene (picked_names off) p && named scene (picked_names on) p)) ↔ CanBeDone scene off on
  strict_done = (done_can, can_done)

  pub strict_refused : (d : Dropped) → strict scene off on ≡ refused d → CountsAgainst scene off on d
  strict_refused d e =
      elim (unless_refused of_off (unless_because of_on (unless_because of_members whole)) d e) [
        | inl this ↦ inl (first_fault-some (off_fault scene) [] off d this)
        | inr rest ↦
            elim (unless_refused of_on (unless_because of_members whole) d rest) [
              | inl this ↦ inr (inl (first_fault-some (on_fault scene (named scene (picked_names off))) [] on d this))
              | inr more ↦
                  elim (unless_refused of_members whole d more) [
                    | inl this ↦ inr
                        (inr (members-some scene (strict_set scene (picked_names off) (picked_names on))
                        (named scene (picked_names on)) d this))
                    | inr never ↦ cc
                  ]
            ]
      ]

  -- it is done or refused
  strict_either : (strict scene off on ≡ whole) ⊎ ((d : Dropped) × (strict scene off on ≡ refused d))
  strict_either =
      unless_either of_off (unless_because of_on (unless_because of_members whole)) whole
      (unless_either of_on (unless_because of_members whole) whole (unless_either of_members whole whole (inl refl)))

-- ---- Plans

module _ (scene : Scene) (r : SwitchRequest) (is : r.strict ≡ true) where
  abbrev off : List Pick
  off = flat scene.description r.off

  abbrev on : List Pick
  on = flat scene.description r.on

  plan_is : plan_of scene r ≡ planned scene (strict scene off on)
  plan_is = ap (λ b. planned scene (flat_decided scene b off on)) is

  plan_done : (plan_of scene r).outcome ≡ outcome.Done [] → CanBeDone scene off on
  plan_done e =
      elim (strict_either scene off on) [
        | inl is_done ↦ done_can scene off on is_done
        | inr (d, is_refused) ↦
            (let no : outcome.Refused d.name d.cause ≡ outcome.Done [] =
            sym (ap (λ (p : Planned). p.outcome) (plan_is ∙ ap (planned scene) is_refused)) ∙ e in cc)
      ]

  pub plan_done_where : ((plan_of scene r).outcome ≡ outcome.Done []) ↔ CanBeDone scene off on
  plan_done_where = (
    plan_done,
    λ (can : CanBeDone scene off on). ap (λ (p : Planned). p.outcome)
        (plan_is ∙ ap (planned scene) (can_done scene off on can)),
  )

  pub plan_refused : (name : List ℕ) (c : Cause) → (plan_of scene r).outcome ≡ outcome.Refused name c
      → strict scene off on ≡ refused (record { name = name; cause = c })
  plan_refused name c e =
      elim (strict_either scene off on) [
        | inl is_done ↦
            (let no : outcome.Done [] ≡ outcome.Refused name c =
            sym (ap (λ (p : Planned). p.outcome) (plan_is ∙ ap (planned scene) is_done)) ∙ e in cc)
        | inr (d, is_refused) ↦
            let same : outcome.Refused d.name d.cause ≡ outcome.Refused name c =
            sym (ap (λ (p : Planned). p.outcome) (plan_is ∙ ap (planned scene) is_refused)) ∙ e in
            is_refused ∙ ap (λ o. refused (named_in o d)) same
      ]
