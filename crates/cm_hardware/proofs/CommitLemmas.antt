-- The hardware of a state comes to be that of the state after a commit, place by place and component by component.
use Rattle.std.proofs.Common.{◌≡◌, ℕ, zero, suc, ◌+◌, ◌<◌, ◌≤◌, Bool, true, false, List, []}
use Rattle.std.proofs.Common.{◌∷◌, ◌++◌, map, length, Option, Some, None, refl, sym, subst}
use Rattle.std.proofs.Common.{ap, ap₂, ◌∙◌, true≢false, arith, append_assoc, length-append}
use Rattle.std.specs.Prelude.{◌==◌, ◌&&◌, ◌||◌, not, if◌then◌else◌, find, flat_map}
use Rattle.std.specs.Prelude.{option_map, is_some, slice_get, slice_index_or}
use Rattle.std.specs.List.{AllByRecursion, list_any}
use Rattle.std.specs.Option.{option_map_or}
use Rattle.std.proofs.lemmas.List.{length-map}
use Rattle.std.proofs.lemmas.List.Folds.{list_any-append}
use Rattle.std.proofs.lemmas.Option.{slice_get-map}
use Rattle.std.proofs.lemmas.Simd.{map-map}
use Rattle.sequence.proofs.ListLemmas.{all_append, all_at}
use Rattle.fixed_num.specs.declared.value.BodyState.{BodyState}
use Rattle.fixed_num.specs.declared.value.Value.{Value}
use Rattle.fixed_num.specs.declared.value.Value.TheVariants.{Unset}
use Rattle.iface_names.specs.declared.interface.IfaceName.{IfaceName}
use Rattle.cm_document.proofs.DistinctLemmas.{all_map}
use Rattle.cm_document.proofs.PlaceLemmas.{IsValid-EachStandsOnce}
use Rattle.cm_document.specs.Links.{refs_of}
use Rattle.cm_document.specs.Places.{Whose, of_joint, of_controller, a_state, a_command, Interface}
use Rattle.cm_document.specs.Places.{at_components, at_controllers, interfaces_of, EachStandsOnce}
use Rattle.cm_document.specs.declared.description.CtlDesc.{CtlDesc}
use Rattle.cm_document.specs.declared.description.Description.{Description}
use Rattle.cm_model.proofs.LoadedLemmas.{all_from}
use Rattle.cm_model.proofs.CommitLemmas.{scene_active, commit_active}
use Rattle.cm_model.specs.Commit.{scene_of, is_exported_by, is_freed, freed_of, commit}
use Rattle.cm_model.specs.Components.{mode_fault}
use Rattle.cm_model.specs.Cycle.{commands_at, claims_in}
use Rattle.cm_model.specs.Faults.{first_of}
use Rattle.cm_model.specs.Order.{Places, set_of, some_below}
use Rattle.cm_model.specs.Scene as scenes
use Rattle.cm_model.specs.Scene.{claims_at, is_claimed_by}
use Rattle.cm_model.specs.Sound.{CanRunTogether}
use Rattle.cm_model.specs.State.{State, Loaded, is_active, active, claims_name, owner, available, available_in}
use Rattle.cm_model.specs.Switches.{is_stopped}
use Rattle.cm_model.specs.Values.{InterfaceValue, unset}
use Rattle.cm_model.proofs.InterfaceLemmas.{all_map_back}
use Rattle.chain_order.specs.Links.{places_below}
use Rattle.cm_places.specs.Placed.{Placed, claimers_of, exporter_of, placed_of}
use Rattle.loan_board.specs.Loans.{with_loan}
use Rattle.loan_board.specs.declared.board.Loan.{Loan}
use Rattle.cm_hardware.specs.Committed.{IsCommit, Commits, serial_at, serial_in, is_there, owner_in}
use Rattle.cm_hardware.specs.Committed.{is_freed_by, relent_by, relent, all_relent, each_changed}
use Rattle.cm_hardware.specs.Committed.{claims_on, all_performed, with_loans, with_joints}
use Rattle.cm_hardware.specs.Holding.{AreClaimed, IsAtRest, IsHardwareOf, IsLentBy, holder}
use Rattle.cm_hardware.specs.Wiring.{Mounted, Wired, loan_of, all_states, commands_count}
use Rattle.cm_hardware.proofs.CommitJointLemmas.{StandAt, stand_all, gathered_claims}
use Rattle.cm_hardware.proofs.CommitKeepLemmas.{performed_keeps, all_performed_keep, all_performed_so}
use Rattle.cm_hardware.proofs.CommitModeLemmas.{claims_agree}
use Rattle.cm_hardware.proofs.CommitOwnerLemmas.{found_any, owner_by_place}
use Rattle.cm_hardware.proofs.HeldLemmas.{components_so}
use Rattle.cm_hardware.proofs.MoveLemmas.{interfaces_stay}
use Rattle.cm_hardware.proofs.PresentLemmas.{owned_is_available}

-- ---- Places one after the other

next_changes : (pre : List Loan) (loan : Loan) (loans : List Loan) (change : Loan → Loan)
    → with_loan (pre ++ loan ∷ loans) (length pre) change ≡ pre ++ change loan ∷ loans
next_changes [] loan loans change = refl
next_changes (p ∷ pre) loan loans change = ap (λ (ls : List Loan). p ∷ ls) (next_changes pre loan loans change)

-- where the change of each place makes of an item's loan that of the item then, all together do
each_by : {A : Type 0} (change : ℕ → Loan → Loan) (before after : A → Loan) (pre : List Loan) (xs : List A)
    → ((k : ℕ) (x : A) → slice_get xs k ≡ Some x → change (length pre + k) (before x) ≡ after x)
    → each_changed change (length pre) (length xs) (pre ++ map before xs) ≡ pre ++ map after xs
each_by change before after pre [] each = refl
each_by change before after pre (x ∷ xs) each =
    let first : length pre + 0 ≡ length pre = omega arith in
    let here : change (length pre) (before x) ≡ after x = ap (λ n. change n (before x)) (sym first) ∙ each 0 x refl in
    let next : length pre + 1 ≡ length (pre ++ after x ∷ []) = omega (arith, length-append pre (after x ∷ [])) in
    let board : with_loan (pre ++ before x ∷ map before xs) (length pre) (change (length pre))
    ≡ (pre ++ after x ∷ []) ++ map before xs =
    next_changes pre (before x) (map before xs) (change (length pre)) ∙ ap (λ (l : Loan). pre ++ l ∷ map before xs) here
    ∙ sym (append_assoc pre (after x ∷ []) (map before xs)) in
    let later : (k : ℕ) → length (pre ++ after x ∷ []) + k ≡ length pre + suc k = λ k. omega (arith, next) in
    ap₂ (λ (n : ℕ) (loans : List Loan). each_changed change n (length xs) loans) next board
    ∙ each_by change before after (pre ++ after x ∷ []) xs
    (λ k y found. ap (λ n. change n (before y)) (later k) ∙ each (suc k) y found)
    ∙ append_assoc pre (after x ∷ []) (map after xs)

-- what is given to the item that is found
given_to : {A B : Type 0} (f : A → B) (xs : List A) (k : ℕ) (x : A) (default : B) → slice_get xs k ≡ Some x
    → slice_index_or (map f xs) k default ≡ f x
given_to f [] k x default found = cc
given_to f (y ∷ xs) zero x default found = let same : y ≡ x = cc in ap f same
given_to f (y ∷ xs) (suc k) x default found = given_to f xs k x default found

-- ---- Which interfaces there are

-- a controller's is no state interface, and of one of so many
abbrev IsPlaced : ℕ → Bool → Whose → Type 0
IsPlaced n is_command (of_joint component joint) = Unit {0}
IsPlaced n is_command (of_controller place) = (is_command ≡ true) × (place < n)

abbrev InPlace : ℕ → Interface → Type 0
InPlace n i = IsPlaced n i.called.is_command i.whose

references_placed : (n place : ℕ) (cs : List CtlDesc) → place + length cs ≤ n
    → AllByRecursion (InPlace n) (at_controllers place cs)
references_placed n place [] fits = tt
references_placed n place (c ∷ cs) fits =
    all_append (InPlace n) (map (λ name. record { called = a_command name; whose = of_controller place }) (refs_of c))
    (at_controllers (place + 1) cs)
    (all_map (InPlace n) _ (refs_of c) (each (refs_of c))) (references_placed n (place + 1) cs (omega (arith, fits)))
  where
    less : place < n
    less = omega (arith, fits)

    each : (names : List IfaceName)
        → AllByRecursion (λ name. InPlace n (record { called = a_command name; whose = of_controller place })) names
    each [] = tt
    each (name ∷ names) = ((refl, less), each names)

all_placed : (d : Description) → AllByRecursion (InPlace (length d.controllers)) (interfaces_of d)
all_placed d =
    all_append (InPlace (length d.controllers)) (at_components a_state (λ j. j.states) 0 0 d.components)
    (at_components a_command (λ j. j.commands) 0 0 d.components ++ at_controllers 0 d.controllers)
    (components_so (InPlace (length d.controllers)) a_state (λ j. j.states) 0 0 (λ k place name from. tt) d.components)
    (all_append (InPlace (length d.controllers)) (at_components a_command (λ j. j.commands) 0 0 d.components)
    (at_controllers 0 d.controllers)
    (components_so (InPlace (length d.controllers)) a_command (λ j. j.commands) 0 0 (λ k place name from. tt)
    d.components)
    (references_placed (length d.controllers) 0 d.controllers (omega arith)))

-- ---- One place

-- one that is stopped claims the interface, by the places of its claimers or by its name
any_below : (flags : List Bool) (off : Places) (test : ℕ → Bool) (n : ℕ) → ((p : ℕ) → p < n → set_of flags p ≡ off p)
    → list_any (set_of flags) (places_below test n) ≡ some_below (λ q. off q && test q) n
any_below flags off test zero same = refl
any_below flags off test (suc n) same =
    list_any-append (set_of flags) (places_below test n) (if test n then n ∷ [] else [])
    ∙ ap₂ (λ (x y : Bool). x || y) (any_below flags off test n (λ p less. same p (omega (arith, less))))
    (last (test n) (off n) (same n (omega arith)))
  where
    last : (b o : Bool) → set_of flags n ≡ o → list_any (set_of flags) (if b then n ∷ [] else []) ≡ (o && b)
    last true true is = rw is refl
    last true false is = rw is refl
    last false true is = refl
    last false false is = refl

-- the state with these controllers, where what those of the second set claim and export is Unset
abbrev changed : State → List Loaded → Places → State
changed s loaded off = record s { loaded = loaded; values = map (freed_of s off) s.values }

-- what is known of it, where the hardware is told these serials and flags
record IsTold (s : State) (loaded : List Loaded) (off : Places) (serials : List (Option ℕ)) (flags : List Bool) : Type 0
  where
    runs : (p : ℕ) → p < length s.description.controllers
        → slice_index_or serials p None ≡ serial_at (changed s loaded off) p
    leaves : (p : ℕ) → p < length s.description.controllers → set_of flags p ≡ off p
    once : EachStandsOnce s.description
    together : CanRunTogether s.description s.lives (active (changed s loaded off))
    gone : (p : ℕ) → active s p ≡ true → active (changed s loaded off) p ≡ false → off p ≡ true
    owned : AllByRecursion
        (λ (v : InterfaceValue). available (changed s loaded off) v.interface ≡ false
        → owner (changed s loaded off) v.interface ≡ None) s.values

module _ (s : State) (loaded : List Loaded) (off : Places) (serials : List (Option ℕ)) (flags : List Bool)
    (told : IsTold s loaded off serials flags) where
  abbrev cs : List CtlDesc
  cs = s.description.controllers

  abbrev t : State
  t = changed s loaded off

  -- it is available as it is told
  there_so : (is_command : Bool) (whose : Whose) → IsPlaced (length cs) is_command whose
      → is_there serials (exporter_of whose) (available_in s.lives (active s) whose)
      ≡ available_in s.lives (active t) whose
  there_so is_command (of_joint component joint) placed = refl
  there_so is_command (of_controller p) placed =
      ap (λ (o : Option ℕ). is_some o) (told.runs p placed.1)
      ∙ found_any (λ (l : Loaded). is_active l && l.place == p) loaded

  -- its owner is the first of its claimers that is active
  owner_so : (i : Interface) (there : Bool) → available t i ≡ there → (available t i ≡ false → owner t i ≡ None)
      → owner_in serials (claimers_of cs i) (i.called.is_command && there) ≡ owner t i
  owner_so i there is free = by_side i.called.is_command there refl is
    where
      found : first_of (serial_in serials) (places_below (λ p. claims_at cs p i.called.name) (length cs))
          ≡ option_map (λ (l : Loaded). l.serial)
          (find (λ (l : Loaded). is_active l && claims_name cs i.called.name l) loaded)
      found = owner_by_place cs loaded i.called.name (serial_in serials) told.runs
          (λ p q runs runs' claims claims'. told.together.exclusive p q i.called.name runs runs' claims claims')

      by_side : (command there : Bool) → i.called.is_command ≡ command → available t i ≡ there
          → owner_in serials (claimers_of cs i) (command && there) ≡ owner t i
      by_side false there side is = rw side refl
      by_side true true side is = rw side found
      by_side true false side is = sym (free is)

  -- one that is stopped claims it or exports it, as it is told
  freed_so : (i : Interface) → InPlace (length cs) i
      → is_freed_by flags (claimers_of cs i) (exporter_of i.whose) ≡ is_freed s off i
  freed_so i placed = by_side i.called.is_command i.whose refl refl placed
    where
      exported : (command : Bool) (whose : Whose) → IsPlaced (length cs) command whose
          → option_map_or (set_of flags) (exporter_of whose) false ≡ is_exported_by off whose
      exported command (of_joint component joint) placed = refl
      exported command (of_controller p) placed = told.leaves p placed.1

      by_side : (command : Bool) (whose : Whose) → i.called.is_command ≡ command → i.whose ≡ whose
          → IsPlaced (length cs) i.called.is_command i.whose
          → is_freed_by flags (claimers_of cs i) (exporter_of i.whose) ≡ is_freed s off i
      by_side true whose side its placed =
          rw side
          (ap₂ (λ (x y : Bool). x || y)
          (any_below flags off (λ p. claims_at cs p i.called.name) (length cs) told.leaves)
          (exported i.called.is_command i.whose placed))
      by_side false (of_joint component joint) side its placed = rw (side, its) refl
      by_side false (of_controller p) side its placed =
          let bad = rw (its, side) at placed in absurd (true≢false (sym bad.0))

  -- what is not available then, and is not freed, was not available before, and is Unset
  still_empty : (v : InterfaceValue) → InPlace (length cs) v.interface
      → (available s v.interface ≡ false → v.value ≡ Unset)
      → available t v.interface ≡ false → is_freed s off v.interface ≡ false → v.value ≡ Unset
  still_empty v placed empty closed kept = empty (by_whose v.interface.whose refl)
    where
      by_whose : (whose : Whose) → v.interface.whose ≡ whose → available s v.interface ≡ false
      by_whose (of_joint component joint) its = let shut = rw its at closed in rw its shut
      by_whose (of_controller p) its =
          let shut : active t p ≡ false = rw its at closed in
          let here : IsPlaced (length cs) v.interface.called.is_command (of_controller p) = rw its at placed in
          rw its (by_test p shut here.0 its (active s p) refl)
        where
          or_true : (b : Bool) → (b || true) ≡ true
          or_true true = refl
          or_true false = refl

          by_test : (p : ℕ) → active t p ≡ false → v.interface.called.is_command ≡ true
              → v.interface.whose ≡ of_controller p → (b : Bool) → active s p ≡ b → active s p ≡ false
          by_test p shut side its false was = was
          by_test p shut side its true was =
              let freed : is_freed s off v.interface ≡ true =
              rw (side, its, told.gone p was shut) (or_true (is_claimed_by cs off v.interface.called.name)) in
              absurd (true≢false (sym freed ∙ kept))

  -- What the board keeps of an interface, by who claims and exports it, is what the state then has of it.
  one_place : (has : Interface → Option ℕ) (v : InterfaceValue) → InPlace (length cs) v.interface
      → (available s v.interface ≡ false → v.value ≡ Unset)
      → (available t v.interface ≡ false → owner t v.interface ≡ None)
      → relent_by serials flags (claimers_of cs v.interface) (exporter_of v.interface.whose)
      (loan_of has (available s) v) ≡ loan_of (owner t) (available t) (freed_of s off v)
  one_place has v placed empty free =
      parts (is_there serials (exporter_of v.interface.whose) (available s v.interface)) (available t v.interface)
      (there_so v.interface.called.is_command v.interface.whose placed) refl
    where
      kept_value : (b there : Bool) → is_freed s off v.interface ≡ b → available t v.interface ≡ there
          → (record {
            value = if there && not b then v.value else Unset;
            owner = owner t v.interface;
            is_command =
                v.interface.called.is_command;
            is_available = there;
          })
          ≡ loan_of (owner t) (λ i. there) (if b then unset v.interface else v)
      kept_value true true is at = refl
      kept_value true false is at = refl
      kept_value false true is at = refl
      kept_value false false is at =
          ap (λ (x : Value). record
          { value = x; owner = owner t v.interface; is_command = v.interface.called.is_command; is_available = false })
          (sym (still_empty v placed empty at is))

      parts : (told_there there : Bool) → told_there ≡ there → available t v.interface ≡ there
          → (record {
            value = if told_there
                && not (is_freed_by flags (claimers_of cs v.interface) (exporter_of v.interface.whose)) then v.value
                else Unset;
            owner = owner_in serials (claimers_of cs v.interface) (v.interface.called.is_command && told_there);
            is_command = v.interface.called.is_command;
            is_available = told_there;
          }) ≡ loan_of (owner t) (available t) (freed_of s off v)
      parts told_there there same at =
          rw (same, owner_so v.interface there at free, freed_so v.interface placed)
          (whole (is_freed s off v.interface) there refl at)
        where
          whole : (b there : Bool) → is_freed s off v.interface ≡ b → available t v.interface ≡ there
              → (record {
                value = if there && not b then v.value else Unset;
                owner = owner t v.interface;
                is_command =
                    v.interface.called.is_command;
                is_available = there;
              })
              ≡ loan_of (owner t) (available t) (if b then unset v.interface else v)
          whole true there is at = rw at (kept_value true there is at)
          whole false there is at = rw at (kept_value false there is at)

  -- ---- All of it

  named : AllByRecursion (λ (v : InterfaceValue). InPlace (length cs) v.interface) s.values
      → (has : Interface → Option ℕ)
      → AllByRecursion (λ (v : InterfaceValue). available s v.interface ≡ false → v.value ≡ Unset) s.values
      → map (λ (v : InterfaceValue). v.interface) s.values ≡ interfaces_of s.description
      → all_relent (placed_of s.description) serials flags (map (loan_of has (available s)) s.values)
      ≡ map (loan_of (owner t) (available t)) t.values
  named placed has empty described =
      let d = s.description in
      let many : length (map (loan_of has (available s)) s.values) ≡ length s.values =
      length-map s.values (loan_of has (available s)) in
      ap (λ n. each_changed (relent (placed_of d) serials flags) 0 n (map (loan_of has (available s)) s.values)) many
      ∙ each_by (relent (placed_of d) serials flags) (loan_of has (available s))
      (λ (v : InterfaceValue). loan_of (owner t) (available t) (freed_of s off v)) [] s.values each
      ∙ sym (map-map (loan_of (owner t) (available t)) (freed_of s off) s.values)
    where
      each : (k : ℕ) (v : InterfaceValue) → slice_get s.values k ≡ Some v
          → relent (placed_of s.description) serials flags (0 + k) (loan_of has (available s) v)
          ≡ loan_of (owner t) (available t) (freed_of s off v)
      each k v found =
          let d = s.description in
          let at : 0 + k ≡ k = omega arith in
          let there : slice_get (interfaces_of d) k ≡ Some v.interface =
          ap (λ (is : List Interface). slice_get is k) (sym described)
          ∙ slice_get-map (λ (v : InterfaceValue). v.interface) s.values k
          ∙ ap (option_map (λ (v : InterfaceValue). v.interface)) found in
          let claimers : slice_index_or (map (claimers_of cs) (interfaces_of d)) k [] ≡ claimers_of cs v.interface =
          given_to (claimers_of cs) (interfaces_of d) k v.interface [] there in
          let exporter : slice_index_or (map (λ (i : Interface). exporter_of i.whose) (interfaces_of d)) k None
          ≡ exporter_of v.interface.whose =
          given_to (λ (i : Interface). exporter_of i.whose) (interfaces_of d) k v.interface None there in
          ap (λ n. relent (placed_of d) serials flags n (loan_of has (available s) v)) at
          ∙ ap₂ (λ (ps : List ℕ) (e : Option ℕ). relent_by serials flags ps e (loan_of has (available s) v)) claimers
          exporter
          ∙ one_place has v
          (all_at (λ (v : InterfaceValue). InPlace (length cs) v.interface) s.values k v placed found)
          (all_at (λ (v : InterfaceValue). available s v.interface ≡ false → v.value ≡ Unset) s.values k v empty found)
          (all_at (λ (v : InterfaceValue). available t v.interface ≡ false → owner t v.interface ≡ None) s.values k v
          told.owned found)

  -- what is not available then is Unset
  freed_keeps : (v : InterfaceValue) → (freed_of s off v).interface ≡ v.interface
  freed_keeps v = by_test (is_freed s off v.interface)
    where
      by_test : (b : Bool) → (if b then unset v.interface else v).interface ≡ v.interface
      by_test true = refl
      by_test false = refl

  freed_empty : (v : InterfaceValue) → InPlace (length cs) v.interface
      → (available s v.interface ≡ false → v.value ≡ Unset)
      → available t (freed_of s off v).interface ≡ false → (freed_of s off v).value ≡ Unset
  freed_empty v placed empty = by_test (is_freed s off v.interface) refl
    where
      by_test : (b : Bool) → is_freed s off v.interface ≡ b
          → available t (if b then unset v.interface else v).interface ≡ false
          → (if b then unset v.interface else v).value ≡ Unset
      by_test true is closed = refl
      by_test false is closed = still_empty v placed empty closed is

  -- the joints go by what is claimed then
  joints_go : (described : map (λ (v : InterfaceValue). v.interface) t.values ≡ interfaces_of s.description)
      → (there : Interface → Bool) (at component place : ℕ) (ms : List Mounted)
      → StandAt t.values at component place ms
      → AreClaimed t component (all_performed (map (loan_of (owner t) there) t.values) at ms)
  joints_go described there at component place [] stand = tt
  joints_go described there at component place (m ∷ ms) stand =
      let claims : claims_on (map (loan_of (owner t) there) t.values) at m
      ≡ claims_in t (commands_at component t.values) = gathered_claims t component at m there stand.0.here in
      let agree : mode_fault m.hardware.description (claims_in t (commands_at component t.values)) ≡ None =
      claims_agree t told.once described told.together at component place m stand.0 in (
        rw (claims, agree) refl,
        joints_go described there (at + commands_count m) (component + 1) (place + length m.hardware.description.joints)
            ms stand.1,
      )

  -- So what is lent as the state has it, whoever has what, becomes the hardware of the state after the commit.
  committed : (w : Wired) (has : Interface → Option ℕ) → IsLentBy s has (active s) w
      → IsHardwareOf t (with_joints (with_loans (placed_of s.description) serials flags w))
  committed w has lent =
      let ms = w.components in
      let loans : List Loan = all_relent (placed_of s.description) serials flags w.loans in
      let placed : AllByRecursion (λ (v : InterfaceValue). InPlace (length cs) v.interface) s.values =
      all_map_back (InPlace (length cs)) (λ (v : InterfaceValue). v.interface) s.values
      (subst (AllByRecursion (InPlace (length cs))) (sym lent.wired.interfaces) (all_placed s.description)) in
      let board : loans ≡ map (loan_of (owner t) (available t)) t.values =
      ap (all_relent (placed_of s.description) serials flags) lent.loans
      ∙ named placed has lent.empty lent.wired.interfaces in
      let described : map (λ (v : InterfaceValue). v.interface) t.values ≡ interfaces_of s.description =
      interfaces_stay (freed_of s off) freed_keeps s.values ∙ lent.wired.interfaces in
      record {
        wired = record {
          components =
              lent.wired.components
              ∙ sym (all_performed_keep (λ (m : Mounted). m.hardware.description) (λ claims m. refl) loans
              (all_states ms) ms);
          lives = lent.wired.lives
              ∙ sym (all_performed_keep (λ (m : Mounted). m.hardware.life) (λ claims m. refl) loans (all_states ms) ms);
          bodies = lent.wired.bodies ∙ bodies_keep loans (all_states ms) ms;
          joints = all_performed_so (λ (m : Mounted). length m.hardware.bodies ≡ length m.hardware.description.joints)
              (λ claims m same. same) loans (all_states ms) ms lent.wired.joints;
          interfaces = described;
        };
        loans = board;
        places = lent.places;
        claims = rw board
            (joints_go described (available t) (all_states ms) 0 0 ms
            (stand_all s.description t.values ms lent.wired.components described));
        rest = all_performed_so IsAtRest (λ claims m rest. record { failed = rest.failed; written = rest.written })
            loans (all_states ms) ms lent.rest;
        empty = all_map (λ (v : InterfaceValue). available t v.interface ≡ false → v.value ≡ Unset) (freed_of s off)
            s.values
            (all_from (λ (v : InterfaceValue). InPlace (length cs) v.interface)
            (λ (v : InterfaceValue). available s v.interface ≡ false → v.value ≡ Unset)
            (λ (v : InterfaceValue). available t (freed_of s off v).interface ≡ false
            → (freed_of s off v).value ≡ Unset) freed_empty s.values placed lent.empty);
      }
    where
      bodies_keep : (loans : List Loan) (at : ℕ) (ms : List Mounted)
          → flat_map (λ (m : Mounted). m.hardware.bodies) ms
          ≡ flat_map (λ (m : Mounted). m.hardware.bodies) (all_performed loans at ms)
      bodies_keep loans at [] = refl
      bodies_keep loans at (m ∷ ms) =
          ap₂ (λ (xs ys : List BodyState). xs ++ ys)
          (sym (performed_keeps (λ (m : Mounted). m.hardware.bodies) (λ claims m. refl) (claims_on loans at m) m))
          (bodies_keep loans (at + commands_count m) ms)

-- ---- A commit

module _ (s : State) (set again : Places) (places : Placed) (serials : List (Option ℕ)) (flags : List Bool) (w : Wired)
    (is : IsCommit s set again places serials flags) where
  -- who was active and is not a member is stopped
  leavers : (p : ℕ) → active s p ≡ true → set p ≡ false → is_stopped (scene_of s) set again p ≡ true
  leavers p was off =
      let here : scenes.active (scene_of s) p ≡ true =
      ap (λ (f : Places). f p) (scene_active s is.in_order.own) ∙ was in
      rw (here, off) refl

  told_so : IsTold s (commit s set again).loaded (is_stopped (scene_of s) set again) serials flags
  unfolding commit
  told_so =
      let run : active (commit s set again) ≡ set = commit_active s set again is.in_order is.loaded is.configured in
      record {
        runs = is.active;
        leaves = is.stopped;
        once = IsValid-EachStandsOnce s.description is.valid;
        together = rw run is.together;
        gone = λ p was off. leavers p was (sym (ap (λ (f : Places). f p) run) ∙ off);
        owned = owned_is_available (record s { loaded = (commit s set again).loaded }) is.valid (rw run is.together)
            is.in_order.described;
      }

  lent_commits : (has : Interface → Option ℕ) → IsLentBy s has (active s) w
      → IsHardwareOf (commit s set again) (with_joints (with_loans places serials flags w))
  unfolding commit
  lent_commits has lent =
      rw is.places
      (committed s (commit s set again).loaded (is_stopped (scene_of s) set again) serials flags told_so w has lent)

-- Be it that of the state, or as a move leaves it, the hardware comes to be that of the state after the commit.
pub commits : (places : Placed) (serials : List (Option ℕ)) (flags : List Bool) (w : Wired)
    → Commits places serials flags w (with_joints (with_loans places serials flags w))
commits places serials flags w = record {
  held = λ s set again is held. lent_commits s set again places serials flags w is (owner s)
      (record { wired = held.wired; loans = held.loans; places = held.places; rest = held.rest; empty = held.empty });
  moved = λ s set again is moved. lent_commits s set again places serials flags w is (holder s) moved.lent;
}

-- There are as many claimers and exporters told as there are places on the board of a state.
pub fits : (s : State) (w : Wired) → map (λ (v : InterfaceValue). v.interface) s.values ≡ interfaces_of s.description
    → length w.loans ≡ length s.values
    → (length w.loans ≡ length (placed_of s.description).claimers)
    × (length w.loans ≡ length (placed_of s.description).exporters)
fits s w described many =
    let all : length w.loans ≡ length (interfaces_of s.description) =
    many ∙ sym (length-map s.values (λ (v : InterfaceValue). v.interface)) ∙ ap length described in (
      all ∙ sym (length-map (interfaces_of s.description) (claimers_of s.description.controllers)),
      all
          ∙ sym (length-map (interfaces_of s.description) (λ (i : Interface). exporter_of i.whose)),
    )
