-- Where the command interfaces of each component stand, and that the claims that are gathered from the board there are
-- those of the state.
use Rattle.std.proofs.Common.{◌≡◌, ℕ, ◌+◌, Bool, true, false, List, [], ◌∷◌, ◌++◌, map, length, take, drop, Option}
use Rattle.std.proofs.Common.{Some, None, refl, sym, subst, ap, ap₂, ◌∙◌, arith, append_assoc, length-append}
use Rattle.std.specs.Prelude.{if◌then◌else◌, filter, slice_get, is_some}
use Rattle.std.specs.List.{AllByRecursion, range_with_len}
use Rattle.std.specs.Option.{option_map_or}
use Rattle.std.proofs.lemmas.List.{length-map, take-map, drop-map}
use Rattle.sequence.proofs.ListLemmas.{all_append}
use Rattle.cm_document.specs.Places.{Interface, a_state, a_command, at_joints}
use Rattle.cm_document.specs.Places.{at_components, at_controllers, interfaces_of}
use Rattle.cm_document.specs.declared.description.CompDesc.{CompDesc}
use Rattle.cm_document.specs.declared.description.Description.{Description}
use Rattle.cm_document.proofs.DistinctLemmas.{all_so}
use Rattle.cm_model.specs.Cycle.{commands_at, claims_in}
use Rattle.cm_model.specs.State.{State, owner}
use Rattle.cm_model.specs.Values.{InterfaceValue}
use Rattle.cm_model.proofs.InterfaceLemmas.{all_map_back}
use Rattle.loan_board.specs.declared.board.Loan.{Loan}
use Rattle.cm_hardware.specs.Committed.{numbers_from, claims_on}
use Rattle.cm_hardware.specs.Wiring.{Mounted, loan_of, all_states, commands_count}
use Rattle.cm_hardware.proofs.HeldLemmas.{IsBefore, is_command_at, joints_so, components_so, references_so}
use Rattle.cm_hardware.proofs.HeldLemmas.{same_place, other_place, other_place_after, middle_passes, states_stand}
use Rattle.cm_hardware.proofs.ReadLemmas.{parted, interfaces_count}

-- ---- Where they stand

-- the command interfaces of a component stand here on the board, and are those of its joints, the first of which has
-- this place
pub record Stands (vs : List InterfaceValue) (at component place : ℕ) (m : Mounted) : Type 0 where
  pub here : take (commands_count m) (drop at vs) ≡ commands_at component vs
  pub called : map (λ (v : InterfaceValue). v.interface) (commands_at component vs)
      ≡ at_joints a_command (λ j. j.commands) component place m.hardware.description.joints

-- so those of these components, one after the other
abbrev pub StandAt : List InterfaceValue → ℕ → ℕ → ℕ → List Mounted → Type 0
StandAt vs at component place [] = Unit {0}
StandAt vs at component place (m ∷ ms) =
    Stands vs at component place m
    × StandAt vs (at + commands_count m) (component + 1) (place + length m.hardware.description.joints) ms

-- of three parts the middle one is what stands there
middle_stands : {A : Type 0} (pre mid rest : List A)
    → take (length mid) (drop (length pre) (pre ++ (mid ++ rest))) ≡ mid
middle_stands [] [] rest = refl
middle_stands [] (x ∷ mid) rest = ap (λ xs. x ∷ xs) (middle_stands [] mid rest)
middle_stands (x ∷ pre) mid rest = middle_stands pre mid rest

stand_from : (component place : ℕ) (pre vs : List InterfaceValue) (ms : List Mounted) (others : List Interface)
    → map (λ (v : InterfaceValue). v.interface) vs
    ≡ at_components a_command (λ j. j.commands) component place (map (λ (m : Mounted). m.hardware.description) ms)
    ++ others
    → AllByRecursion (λ (v : InterfaceValue). IsBefore component v.interface) pre
    → AllByRecursion (λ (i : Interface). (k : ℕ) → is_command_at k i ≡ false) others
    → StandAt (pre ++ vs) (length pre) component place ms
stand_from component place pre vs [] others is before none = tt
stand_from component place pre vs (m ∷ ms) others is before none =
    let c = m.hardware.description in
    let cs = map (λ (m : Mounted). m.hardware.description) ms in
    let back = at_components a_command (λ j. j.commands) (component + 1) (place + length c.joints) cs in
    let p = parted (λ (v : InterfaceValue). v.interface) vs
    (at_joints a_command (λ j. j.commands) component place c.joints) (back ++ others)
    (is ∙ append_assoc _ back others) in
    let count : commands_count m ≡ length p.first =
    interfaces_count a_command (λ j. j.commands) component 0 place c.joints ∙ sym (ap length p.front_is)
    ∙ length-map p.first (λ (v : InterfaceValue). v.interface) in
    let here : AllByRecursion (λ (v : InterfaceValue). is_command_at component v.interface ≡ true) p.first =
    all_map_back (λ i. is_command_at component i ≡ true) (λ v. v.interface) p.first
    (rw p.front_is
    (joints_so (λ i. is_command_at component i ≡ true) a_command (λ j. j.commands) component place
    (λ place name. same_place component) c.joints)) in
    let behind : AllByRecursion (λ (v : InterfaceValue). is_command_at component v.interface ≡ false) p.rest =
    all_map_back (λ i. is_command_at component i ≡ false) (λ v. v.interface) p.rest
    (rw p.back_is
    (all_append (λ i. is_command_at component i ≡ false)
    (at_components a_command (λ j. j.commands) (component + 1) (place + length c.joints) cs) others
    (components_so (λ i. is_command_at component i ≡ false) a_command (λ j. j.commands) (component + 1)
    (place + length c.joints) (λ k place name from. other_place component k (omega (arith, from))) cs)
    (all_so _ _ (λ (i : Interface) (each : (k : ℕ) → is_command_at k i ≡ false). each component) others none))) in
    let passes : filter (λ (v : InterfaceValue). is_command_at component v.interface) (pre ++ (p.first ++ p.rest))
    ≡ p.first =
    middle_passes (λ (v : InterfaceValue). is_command_at component v.interface) pre p.first p.rest
    (all_so (λ (v : InterfaceValue). IsBefore component v.interface)
    (λ (v : InterfaceValue). is_command_at component v.interface ≡ false) (λ v b. b component (omega arith)) pre before)
    here behind in
    let pre' = pre ++ p.first in
    let earlier : AllByRecursion (λ (v : InterfaceValue). IsBefore (component + 1) v.interface) pre' =
    all_append (λ (v : InterfaceValue). IsBefore (component + 1) v.interface) pre p.first
    (all_so (λ (v : InterfaceValue). IsBefore component v.interface)
    (λ (v : InterfaceValue). IsBefore (component + 1) v.interface) (λ v b k from. b k (omega (arith, from))) pre before)
    (all_map_back (IsBefore (component + 1)) (λ v. v.interface) p.first
    (rw p.front_is
    (joints_so (IsBefore (component + 1)) a_command (λ j. j.commands) component place
    (λ place name k from. other_place_after k component (omega (arith, from))) c.joints))) in
    let rest = stand_from (component + 1) (place + length c.joints) pre' p.rest ms others p.back_is earlier none in
    let all = pre ++ (p.first ++ p.rest) in
    let front : all ≡ pre' ++ p.rest = sym (append_assoc pre p.first p.rest) in
    let at : length pre' ≡ length pre + commands_count m =
    length-append pre p.first ∙ ap (λ (n : ℕ). length pre + n) (sym count) in
    let further : StandAt all (length pre + commands_count m) (component + 1) (place + length c.joints) ms =
    subst (λ (n : ℕ). StandAt all n (component + 1) (place + length c.joints) ms) at
    (subst (λ (ws : List InterfaceValue). StandAt ws (length pre') (component + 1) (place + length c.joints) ms)
    (sym front) rest) in
    let own : Stands all (length pre) component place m = record {
      here = ap (λ n. take n (drop (length pre) all)) count ∙ middle_stands pre p.first p.rest ∙ sym passes;
      called = ap (map (λ (v : InterfaceValue). v.interface)) passes ∙ p.front_is;
    } in
    subst (λ (ws : List InterfaceValue). StandAt (pre ++ ws) (length pre) component place (m ∷ ms)) (sym p.whole)
    (own, further)

-- So the command interfaces of a described component stand on the board behind the state interfaces of all.
pub stand_all : (d : Description) (vs : List InterfaceValue) (ms : List Mounted)
    → d.components ≡ map (λ (m : Mounted). m.hardware.description) ms
    → map (λ (v : InterfaceValue). v.interface) vs ≡ interfaces_of d → StandAt vs (all_states ms) 0 0 ms
stand_all d vs ms components is =
    let states = at_components a_state (λ j. j.states) 0 0 d.components in
    let p = parted (λ (v : InterfaceValue). v.interface) vs states
    (at_components a_command (λ j. j.commands) 0 0 d.components ++ at_controllers 0 d.controllers) is in
    let at : length p.first ≡ all_states ms =
    sym (length-map p.first (λ (v : InterfaceValue). v.interface))
    ∙ ap length (p.front_is ∙ ap (at_components a_state (λ j. j.states) 0 0) components)
    ∙ states_stand (λ i. None) (λ i. true) 0 0 ms in
    let before : AllByRecursion (λ (v : InterfaceValue). IsBefore 0 v.interface) p.first =
    all_map_back (IsBefore 0) (λ v. v.interface) p.first
    (rw p.front_is
    (components_so (IsBefore 0) a_state (λ j. j.states) 0 0 (λ k place name from n least. refl) d.components)) in
    let none : AllByRecursion (λ (i : Interface). (k : ℕ) → is_command_at k i ≡ false)
    (at_controllers 0 d.controllers) =
    references_so (λ (i : Interface). (k : ℕ) → is_command_at k i ≡ false) (λ name place k. refl) 0 d.controllers in
    rw (p.whole, sym at)
    (stand_from 0 0 p.first p.rest ms (at_controllers 0 d.controllers)
    (p.back_is ∙ ap
    (λ (cs : List CompDesc). at_components a_command (λ j. j.commands) 0 0 cs ++ at_controllers 0 d.controllers)
    components) before none)

-- ---- What is claimed there

module _ (own : Interface → Option ℕ) (there : Interface → Bool) where
  abbrev kept : List InterfaceValue → List Loan
  kept vs = map (loan_of own there) vs

  -- the interface of this number is claimed
  abbrev is_owned : List InterfaceValue → ℕ → Bool
  is_owned vs k = option_map_or (λ (v : InterfaceValue). is_some (own v.interface)) (slice_get vs k) false

  next_found : (pre vs : List InterfaceValue) (v : InterfaceValue) → slice_get (pre ++ v ∷ vs) (length pre) ≡ Some v
  next_found [] vs v = refl
  next_found (p ∷ pre) vs v = next_found pre vs v

  numbers_behind : (pre vs : List InterfaceValue)
      → numbers_from (length pre) (kept vs) ≡ filter (is_owned (pre ++ vs)) (range_with_len (length pre) (length vs))
  numbers_behind pre [] = refl
  numbers_behind pre (v ∷ vs) =
      let whole : pre ++ v ∷ vs ≡ (pre ++ v ∷ []) ++ vs = sym (append_assoc pre (v ∷ []) vs) in
      let next : length pre + 1 ≡ length (pre ++ v ∷ []) = omega (arith, length-append pre (v ∷ [])) in
      let here : is_owned (pre ++ v ∷ vs) (length pre) ≡ is_some (own v.interface) =
      ap (λ (o : Option InterfaceValue). option_map_or (λ (v : InterfaceValue). is_some (own v.interface)) o false)
      (next_found pre vs v) in
      let later : numbers_from (length pre + 1) (kept vs)
      ≡ filter (is_owned (pre ++ v ∷ vs)) (range_with_len (length pre + 1) (length vs)) =
      ap (λ n. numbers_from n (kept vs)) next ∙ numbers_behind (pre ++ v ∷ []) vs
      ∙ ap₂ (λ (us : List InterfaceValue) (n : ℕ). filter (is_owned us) (range_with_len n (length vs))) (sym whole)
      (sym next) in
      by_test (length pre) (is_some (own v.interface)) (is_owned (pre ++ v ∷ vs))
      (numbers_from (length pre + 1) (kept vs)) (range_with_len (length pre + 1) (length vs)) here later
    where
      by_test : (n : ℕ) (b : Bool) (test : ℕ → Bool) (numbers ns : List ℕ) → test n ≡ b → numbers ≡ filter test ns
          → (if b then n ∷ [] else []) ++ numbers ≡ filter test (n ∷ ns)
      by_test n true test numbers ns here later = rw here (ap (λ (ks : List ℕ). n ∷ ks) later)
      by_test n false test numbers ns here later = rw here later

  -- What is gathered from the places of a component's command interfaces is what is claimed of them.
  pub gathered : (vs commands : List InterfaceValue) (at : ℕ) (m : Mounted)
      → take (commands_count m) (drop at vs) ≡ commands
      → claims_on (kept vs) at m ≡ filter (is_owned commands) (range_with_len 0 (length commands))
  gathered vs commands at m stands =
      ap (λ (ls : List Loan). numbers_from 0 (take (commands_count m) ls)) (drop-map (loan_of own there) at vs)
      ∙ ap (numbers_from 0) (take-map (loan_of own there) (commands_count m) (drop at vs) ∙ ap kept stands)
      ∙ numbers_behind [] commands

-- of a component of a state, where the board is lent as the state has it
pub gathered_claims : (s : State) (component at : ℕ) (m : Mounted) (there : Interface → Bool)
    → take (commands_count m) (drop at s.values) ≡ commands_at component s.values
    → claims_on (map (loan_of (owner s) there) s.values) at m ≡ claims_in s (commands_at component s.values)
gathered_claims s component at m there stands =
    gathered (owner s) there s.values (commands_at component s.values) at m stands
