-- What a move of one component makes of each interface.
use Rattle.std.proofs.Common.{◌≡◌, ◌≢◌, ℕ, ◌<◌, Bool, true, false, List, [], ◌∷◌}
use Rattle.std.proofs.Common.{length, map, inl, inr, refl, sym, ◌∙◌, ap, true≢false}
use Rattle.std.specs.Prelude.{◌==◌, ◌&&◌, not, if◌then◌else◌, slice_set}
use Rattle.std.specs.List.{AllByRecursion}
use Rattle.std.proofs.lemmas.Bool.{cases_eq, cases_Bool, ne_eqb, eq-eqb}
use Rattle.std.proofs.lemmas.List.{get_or-set_same, get_or-set_other, length-set}
use Rattle.fixed_num.specs.declared.value.Value.{Value}
use Rattle.fixed_num.specs.declared.value.Value.TheVariants.{Unset}
use Rattle.cm_document.proofs.DistinctLemmas.{all_so}
use Rattle.cm_document.specs.Places.{Whose, of_joint, of_controller}
use Rattle.cm_document.specs.declared.life.Life.{Life}
use Rattle.cm_document.specs.declared.life.Life.TheVariants.{Unconfigured}
use Rattle.cm_model.proofs.LoadedLemmas.{and_false}
use Rattle.cm_model.proofs.MoveLemmas.{cleared_interface}
use Rattle.cm_model.specs.Boundary.{life_at}
use Rattle.cm_model.specs.Components.{is_available}
use Rattle.cm_model.specs.Cycle.{moved}
use Rattle.cm_model.specs.Deciding.{AreRelated, lasting, IsMoved, HasMoved}
use Rattle.cm_model.specs.Loans.{IsEmptyUnless}
use Rattle.cm_model.specs.State.{State, active, available_in}
use Rattle.cm_model.specs.Steady.{IsInOrder}
use Rattle.cm_model.specs.Values.{InterfaceValue, unset, running, belongs_to}
use Rattle.cm_model.specs.Values.{is_state_of, shown, read_of, cleared_of, cleared}
use Rattle.sound_laws.proofs.LoanLemmas.{running_at}
use Rattle.sound_laws.proofs.ReadLemmas.{read_same}
use Rattle.sound_laws.proofs.SwitchedLemmas.{map_leaves}

-- where each is related to what two changes make of it, so are all
related_maps : {A : Type 0} (R : A → A → Type 0) (second first : A → A) (xs : List A)
    → AllByRecursion (λ x. R x (second (first x))) xs
    → AreRelated R xs (map second (map first xs))
related_maps R second first [] all = tt
related_maps R second first (x ∷ xs) all = (all.0, related_maps R second first xs all.1)

-- A move leaves what no request changes.
pub move_lasts : (s : State) (lives : List Life) → lasting (moved s lives) ≡ lasting s
move_lasts s lives =
    let gone : ℕ → Bool = λ component. not (running lives component) in
    let new : ℕ → Bool = λ component. running lives component && not (running s.lives component) in
    ap (λ (vs : List InterfaceValue). record (lasting s) { values = vs })
    (map_leaves (λ v. unset v.interface) (read_of new s.bodies) (λ v. ap unset (read_same new s.bodies v))
    (cleared gone s.values)
    ∙ map_leaves (λ v. unset v.interface) (cleared_of gone) (λ v. ap unset (cleared_interface gone v)) s.values)

module _ (s : State) (component : ℕ) (target : Life) (there : component < length s.lives) where
  abbrev after : List Life
  after = slice_set s.lives component target

  abbrev gone : ℕ → Bool
  gone k = not (running after k)

  abbrev new : ℕ → Bool
  new k = running after k && not (running s.lives k)

  -- which components run after it
  runs_here : running after component ≡ is_available target
  runs_here = running_at after component ∙ ap is_available (get_or-set_same s.lives component target Unconfigured there)

  runs_elsewhere : (k : ℕ) → k ≢ component → running after k ≡ running s.lives k
  runs_elsewhere k other =
      running_at after k ∙ ap is_available (get_or-set_other s.lives component k target Unconfigured other)
      ∙ sym (running_at s.lives k)

  module _ (v : InterfaceValue) (empty : IsEmptyUnless (available_in s.lives (active s)) v) where
    abbrev moved_to : InterfaceValue
    moved_to = read_of new s.bodies (cleared_of gone v)

    abbrev reading : Bool → InterfaceValue → InterfaceValue
    reading b w = if b then record w { value = shown s.bodies w.interface.called.name w.interface.whose } else w

    -- it is cleared, or read, or neither
    is_cleared : belongs_to gone v.interface.whose ≡ true → is_state_of new v.interface ≡ false
        → moved_to ≡ unset v.interface
    is_cleared clear read =
        ap (λ (b : Bool). read_of new s.bodies (if b then unset v.interface else v)) clear
        ∙ ap (λ (b : Bool). reading b (unset v.interface)) read

    is_kept : belongs_to gone v.interface.whose ≡ false → is_state_of new v.interface ≡ false → moved_to ≡ v
    is_kept clear read =
        ap (λ (b : Bool). read_of new s.bodies (if b then unset v.interface else v)) clear
        ∙ ap (λ (b : Bool). reading b v) read

    is_shown : belongs_to gone v.interface.whose ≡ false → is_state_of new v.interface ≡ true
        → moved_to.value ≡ shown s.bodies v.interface.called.name v.interface.whose
    is_shown clear read =
        ap (λ (b : Bool). (read_of new s.bodies (if b then unset v.interface else v)).value) clear
        ∙ ap (λ (b : Bool). (reading b v).value) read

    -- of a component that did not run before it held nothing
    held_nothing : (k joint : ℕ) → v.interface.whose ≡ of_joint k joint → running s.lives k ≡ false → v.value ≡ Unset
    held_nothing k joint whose idle = empty (ap (available_in s.lives (active s)) whose ∙ idle)

    -- what is told of the component is told of the interface
    of_gone : (k joint : ℕ) (b : Bool) → v.interface.whose ≡ of_joint k joint → running after k ≡ b
        → belongs_to gone v.interface.whose ≡ not b
    of_gone k joint b whose runs = ap (belongs_to gone) whose ∙ ap not runs

    unread : (k joint : ℕ) (b before : Bool) → v.interface.whose ≡ of_joint k joint → running after k ≡ b
        → running s.lives k ≡ before → (b && not before) ≡ false
        → is_state_of new v.interface ≡ false
    unread k joint b before whose runs ran none =
        ap (λ w. not v.interface.called.is_command && belongs_to new w) whose
        ∙ ap (λ (b : Bool). not v.interface.called.is_command && (b && not (running s.lives k))) runs
        ∙ ap (λ (c : Bool). not v.interface.called.is_command && (b && not c)) ran
        ∙ ap (λ (c : Bool). not v.interface.called.is_command && c) none ∙ and_false (not v.interface.called.is_command)

    -- one of another component
    another : (k joint : ℕ) → v.interface.whose ≡ of_joint k joint → k ≢ component → moved_to ≡ v
    another k joint whose other =
        elim (cases_Bool (running s.lives k)) [
          | inl ran ↦
              let runs = runs_elsewhere k other ∙ ran in
              is_kept (of_gone k joint true whose runs) (unread k joint true true whose runs ran refl)
          | inr idle ↦
              let runs = runs_elsewhere k other ∙ idle in
              is_cleared (of_gone k joint false whose runs) (unread k joint false false whose runs idle refl)
              ∙ ap (λ (value : Value). record { interface = v.interface; value = value })
              (sym (held_nothing k joint whose idle))
        ]

    -- one of the component itself
    module _ (joint : ℕ) (whose : v.interface.whose ≡ of_joint component joint) where
      as_before : running s.lives component ≡ is_available (life_at s component)
      as_before = running_at s.lives component

      own_gone : is_available target ≡ false → moved_to.value ≡ Unset
      own_gone down =
          let runs = runs_here ∙ down in
          ap (λ (w : InterfaceValue). w.value)
          (is_cleared (of_gone component joint false whose runs)
          (unread component joint false (running s.lives component) whose runs refl refl))

      own_stays : is_available target ≡ true → is_available (life_at s component) ≡ true → moved_to ≡ v
      own_stays up was =
          let runs = runs_here ∙ up in
          is_kept (of_gone component joint true whose runs)
          (unread component joint true true whose runs (as_before ∙ was) refl)

      own_comes : is_available target ≡ true → is_available (life_at s component) ≡ false
          → v.interface.called.is_command ≡ false
          → moved_to.value ≡ shown s.bodies v.interface.called.name v.interface.whose
      own_comes up was state =
          let runs = runs_here ∙ up in
          is_shown (of_gone component joint true whose runs)
          (ap (λ w. not v.interface.called.is_command && belongs_to new w) whose
          ∙ ap (λ (b : Bool). not v.interface.called.is_command && (b && not (running s.lives component))) runs
          ∙ ap (λ (c : Bool). not v.interface.called.is_command && not c) (as_before ∙ was)
          ∙ ap (λ (c : Bool). not c && true) state)

      own_command : is_available target ≡ true → is_available (life_at s component) ≡ false
          → v.interface.called.is_command ≡ true → moved_to.value ≡ Unset
      own_command up was command =
          let runs = runs_here ∙ up in
          ap (λ (w : InterfaceValue). w.value)
          (is_kept (of_gone component joint true whose runs)
          (ap (λ (c : Bool). not c && belongs_to new v.interface.whose) command))
          ∙ held_nothing component joint whose (as_before ∙ was)

    by_whose : (w : Whose) → v.interface.whose ≡ w → IsMoved s component target v moved_to
    by_whose (of_controller place) whose =
        let none : belongs_to (λ p. p == component) v.interface.whose ≡ false =
        ap (belongs_to (λ p. p == component)) whose in
        record {
          others = λ other. is_kept (ap (belongs_to gone) whose)
              (ap (λ w. not v.interface.called.is_command && belongs_to new w) whose
              ∙ and_false (not v.interface.called.is_command));
          gone = λ own down. absurd (true≢false (sym own ∙ none));
          stays = λ own up was. absurd (true≢false (sym own ∙ none));
          comes = λ own up was state. absurd (true≢false (sym own ∙ none));
          commands = λ own up was command. absurd (true≢false (sym own ∙ none));
        }
    by_whose (of_joint k joint) whose = elim (cases_eq k component) [
      | inl same ↦
          let whose_own : v.interface.whose ≡ of_joint component joint = whose ∙ ap (λ p. of_joint p joint) same in
          record {
            others = λ other. absurd
                (true≢false (sym (ap (belongs_to (λ p. p == component)) whose ∙ eq-eqb k component same) ∙ other));
            gone = λ own down. own_gone joint whose_own down;
            stays = λ own up was. own_stays joint whose_own up was;
            comes = λ own up was state. own_comes joint whose_own up was state;
            commands = λ own up was command. own_command joint whose_own up was command;
          }
      | inr other ↦
          let none : belongs_to (λ p. p == component) v.interface.whose ≡ false =
          ap (belongs_to (λ p. p == component)) whose ∙ ne_eqb k component other in
          record {
            others = λ none. another k joint whose other;
            gone = λ own down. absurd (true≢false (sym own ∙ none));
            stays = λ own up was. absurd (true≢false (sym own ∙ none));
            comes = λ own up was state. absurd (true≢false (sym own ∙ none));
            commands = λ own up was command. absurd (true≢false (sym own ∙ none));
          }
    ]

    interface_moved : IsMoved s component target v moved_to
    interface_moved = by_whose v.interface.whose refl

  -- So a component comes to its target, and all else is as it was.
  pub component_moved : IsInOrder s → HasMoved s component target (moved s after)
  component_moved kept = record {
    loaded = refl;
    as_many = length-set s.lives component target;
    moved = get_or-set_same s.lives component target Unconfigured there;
    others = λ k other. get_or-set_other s.lives component k target Unconfigured other;
    values = related_maps (IsMoved s component target) (read_of new s.bodies) (cleared_of gone) s.values
        (all_so (IsEmptyUnless (available_in s.lives (active s)))
        (λ v. IsMoved s component target v (read_of new s.bodies (cleared_of gone v))) interface_moved s.values
        kept.empty);
  }
