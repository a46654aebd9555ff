-- What the reads of components make of the board is what a cycle's reads make of the values.
use Rattle.std.proofs.Common.{◌≡◌, ℕ, zero, suc, drop, ◌+◌, Bool, false, List, [], ◌∷◌, ◌++◌, length, map}
use Rattle.std.proofs.Common.{Option, Some, refl, sym, subst, ap, arith, append_assoc, length-append}
use Rattle.std.specs.Prelude.{slice_get, zip}
use Rattle.std.specs.List.{AllByRecursion}
use Rattle.std.specs.Option.{option_map_or}
use Rattle.std.proofs.lemmas.Option.{same_Some}
use Rattle.sequence.proofs.ListLemmas.{all_append}
use Rattle.iface_names.specs.declared.interface.IfaceName.{IfaceName}
use Rattle.iface_names.specs.declared.interface.IfaceName.TheVariants.{Joint}
use Rattle.iface_names.specs.declared.kind.Kind.{Kind}
use Rattle.cm_document.specs.Links.{refs_of}
use Rattle.cm_document.specs.Places.{Interface, a_command, of_joint, of_controller}
use Rattle.cm_document.specs.Places.{at_joint, at_joints, at_components, at_controllers}
use Rattle.cm_document.specs.declared.description.CompDesc.{CompDesc}
use Rattle.cm_document.specs.declared.description.CtlDesc.{CtlDesc}
use Rattle.cm_document.specs.declared.description.JointDesc.{JointDesc}
use Rattle.cm_document.specs.declared.life.Life.{Life}
use Rattle.cm_model.specs.Components.{read_succeeds}
use Rattle.cm_model.specs.Cycle.{component_is}
use Rattle.cm_model.specs.State.{State}
use Rattle.cm_model.specs.Values.{is_state_of, after_reads}
use Rattle.cm_hardware.specs.Wiring.{Mounted, loan_of, after_reads_of, IsWired}
use Rattle.cm_hardware.proofs.ReadLemmas.{Agrees, Left, reads_at_once}

-- ---- What is not read

-- no command interface is a state of a component
commands_unread : (test : ℕ → Bool) (component joint : ℕ) (name : List ℕ) (kinds : List Kind)
    → AllByRecursion (λ (i : Interface). is_state_of test i ≡ false)
    (map (λ kind. record { called = a_command (Joint name kind); whose = of_joint component joint }) kinds)
commands_unread test component joint name [] = tt
commands_unread test component joint name (kind ∷ kinds) = (refl, commands_unread test component joint name kinds)

joints_unread : (test : ℕ → Bool) (component place : ℕ) (js : List JointDesc)
    → AllByRecursion (λ (i : Interface). is_state_of test i ≡ false)
    (at_joints a_command (λ j. j.commands) component place js)
joints_unread test component place [] = tt
joints_unread test component place (j ∷ js) =
    all_append _ (at_joint a_command (λ j. j.commands) component place j) _
    (commands_unread test component place j.name j.commands) (joints_unread test component (place + 1) js)

components_unread : (test : ℕ → Bool) (component place : ℕ) (cs : List CompDesc)
    → AllByRecursion (λ (i : Interface). is_state_of test i ≡ false)
    (at_components a_command (λ j. j.commands) component place cs)
components_unread test component place [] = tt
components_unread test component place (c ∷ cs) =
    all_append _ (at_joints a_command (λ j. j.commands) component place c.joints) _
    (joints_unread test component place c.joints) (components_unread test (component + 1) (place + length c.joints) cs)

-- nor is a reference
references_unread : (test : ℕ → Bool) (place : ℕ) (names : List IfaceName)
    → AllByRecursion (λ (i : Interface). is_state_of test i ≡ false)
    (map (λ name. record { called = a_command name; whose = of_controller place }) names)
references_unread test place [] = tt
references_unread test place (name ∷ names) = (refl, references_unread test place names)

controllers_unread : (test : ℕ → Bool) (place : ℕ) (cs : List CtlDesc)
    → AllByRecursion (λ (i : Interface). is_state_of test i ≡ false) (at_controllers place cs)
controllers_unread test place [] = tt
controllers_unread test place (c ∷ cs) =
    all_append _ (map (λ name. record { called = a_command name; whose = of_controller place }) (refs_of c)) _
    (references_unread test place (refs_of c)) (controllers_unread test (place + 1) cs)

-- ---- The components of a state

-- the components, each with its lifecycle state
abbrev pairs : List Mounted → List (CompDesc × Life)
pairs ms = zip (map (λ (m : Mounted). m.hardware.description) ms) (map (λ (m : Mounted). m.hardware.life) ms)

-- what stands after the first ones
found : (before : List (CompDesc × Life)) (p : CompDesc × Life) (after : List (CompDesc × Life))
    → slice_get (before ++ p ∷ after) (length before) ≡ Some p
found [] p after = refl
found (b ∷ before) p after = found before p after

-- what is asked of the component at a place of these
abbrev asked : (CompDesc → Life → ℕ → Bool) → ℕ → List (CompDesc × Life) → ℕ → Bool
asked ask n ps place = option_map_or (λ (p : CompDesc × Life). ask p.0 p.1 n) (slice_get ps place) false

-- what is asked of a component
abbrev pub asked_of : (CompDesc → Life → ℕ → Bool) → ℕ → Mounted → Bool
asked_of ask n m = ask m.hardware.description m.hardware.life n

-- what is asked of each by its place is asked of it
agrees_from : (ask : CompDesc → Life → ℕ → Bool) (n : ℕ) (before : List (CompDesc × Life)) (ms : List Mounted)
    → Agrees (asked ask n (before ++ pairs ms)) (asked_of ask n) (length before) ms
agrees_from ask n before [] = tt
agrees_from ask n before (m ∷ ms) =
    let p : CompDesc × Life = (m.hardware.description, m.hardware.life) in
    let whole : before ++ p ∷ pairs ms ≡ (before ++ p ∷ []) ++ pairs ms =
    sym (append_assoc before (p ∷ []) (pairs ms)) in
    let next : length (before ++ p ∷ []) ≡ length before + 1 = omega (arith, length-append before (p ∷ [])) in
    let rest : Agrees (asked ask n ((before ++ p ∷ []) ++ pairs ms)) (asked_of ask n) (length (before ++ p ∷ [])) ms =
    agrees_from ask n (before ++ p ∷ []) ms in
    let moved : Agrees (asked ask n (before ++ p ∷ pairs ms)) (asked_of ask n) (length before + 1) ms =
    subst (λ (ps : List (CompDesc × Life)). Agrees (asked ask n ps) (asked_of ask n) (length before + 1) ms) (sym whole)
    (subst (λ (k : ℕ). Agrees (asked ask n ((before ++ p ∷ []) ++ pairs ms)) (asked_of ask n) k ms) next rest) in (
      ap (λ (o : Option (CompDesc × Life)). option_map_or (λ (q : CompDesc × Life). ask q.0 q.1 n) o false)
          (found before p (pairs ms)),
      moved,
    )

-- so it is of the components of a state
pub agrees_in : (ask : CompDesc → Life → ℕ → Bool) (s : State) (ms : List Mounted) → IsWired s ms
    → Agrees (component_is ask s) (asked_of ask s.ended) 0 ms
agrees_in ask s ms wired = rw (wired.components, wired.lives) (agrees_from ask s.ended [] ms)

-- All components are read at once.
pub reads_are : (own : Interface → Option ℕ) (there : Interface → Bool) (s : State) (ms : List Mounted) → IsWired s ms
    → after_reads_of s.ended 0 (map (loan_of own there) s.values) ms
    ≡ map (loan_of own there) (after_reads (component_is read_succeeds s) s.bodies s.values)
reads_are own there s ms wired =
    let others =
    at_components a_command (λ j. j.commands) 0 0 s.description.components
    ++ at_controllers 0 s.description.controllers in
    let left : Left (component_is read_succeeds s) s.ended 0 [] ms s.values others = record {
      agrees = agrees_in read_succeeds s ms wired;
      bodies = wired.joints;
      interfaces = rw (sym wired.components) wired.interfaces;
      unread = all_append _ (at_components a_command (λ j. j.commands) 0 0 s.description.components) _
          (components_unread _ 0 0 s.description.components) (controllers_unread _ 0 s.description.controllers);
    } in
    rw wired.bodies (reads_at_once own there (component_is read_succeeds s) s.ended 0 [] ms [] s.values others left)

-- ---- By place

-- what is found at a place stands before what comes after it
pub drop_found : {A : Type 0} (xs : List A) (i : ℕ) (x : A) → slice_get xs i ≡ Some x → drop i xs ≡ x ∷ drop (i + 1) xs
drop_found [] i x found = cc
drop_found (y ∷ xs) zero x found = let same : y ≡ x = same_Some _ _ found in rw same refl
drop_found (y ∷ xs) (suc i) x found =
    let next : suc i + 1 ≡ suc (i + 1) = omega arith in
    rw next (drop_found xs i x found)
