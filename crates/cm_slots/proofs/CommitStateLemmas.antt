-- That commits by place are those of the written manager.
use Rattle.std.proofs.Common.{◌≡◌, ℕ, ℤ, List, [], ◌∷◌, map, refl, sym, ap, ap₂, ◌∙◌, Bool, true, false}
use Rattle.std.specs.Prelude.{if◌then◌else◌}
use Rattle.cm_document.specs.Valid.{IsValid}
use Rattle.cm_document.specs.declared.description.Description.{Description}
use Rattle.cm_model.specs.Claims.{number_in, states_for, refs_for}
use Rattle.cm_model.specs.Commit.{described_of, coming, leaving, committed, scene_of, commit}
use Rattle.cm_model.specs.Order.{Places, controller_at}
use Rattle.cm_model.specs.Scene.{is_chained_in}
use Rattle.cm_model.specs.State.{State, Loaded}
use Rattle.cm_model.specs.Switches.{is_stopped, is_started}
use Rattle.cm_model.specs.Values.{InterfaceValue}
use Rattle.loan_board.specs.Loans.{loan_at}
use Rattle.loan_board.specs.declared.board.Loan.{Loan}
use Rattle.chain_order.specs.Links.{linked}
use Rattle.cm_places.specs.Placed.{placed_of, value_at}
use Rattle.cm_places.proofs.PlacedLemmas.{states_for-placed, refs_for-placed}
use Rattle.cm_slots.specs.Commits.{come, committed_at, TellCommit}
use Rattle.cm_slots.specs.Connections.{held_at, numbers_at, IsShownOn}

-- what is made of each alike is made of all alike
pub map_alike : {A B : Type 0} (f g : A → B) → ((x : A) → f x ≡ g x) → (xs : List A) → map f xs ≡ map g xs
map_alike f g same [] = refl
map_alike {B = B} f g same (x ∷ xs) = ap₂ (λ (y : B) (ys : List B). y ∷ ys) (same x) (map_alike f g same xs)

-- ---- What a controller has of the interfaces

pub numbers_are : (d : Description) (values : List InterfaceValue) (loans : List Loan) (p : ℕ) → IsValid d
    → IsShownOn loans d values
    → numbers_at loans (linked (placed_of d).reads p) ≡ states_for values (controller_at d.controllers p)
numbers_are d values loans p valid shown =
    map_alike (λ (place : ℕ). number_in (loan_at loans place).value) (λ (place : ℕ). number_in (value_at values place))
    (λ place. ap number_in (shown.held place))
    (linked (placed_of d).reads p)
    ∙ sym (states_for-placed d valid values shown.described p)

pub values_are : (d : Description) (values : List InterfaceValue) (loans : List Loan) (p : ℕ) → IsShownOn loans d values
    → held_at loans (linked (placed_of d).references p) ≡ refs_for values (controller_at d.controllers p)
values_are d values loans p shown =
    map_alike (λ (place : ℕ). (loan_at loans place).value) (value_at values) shown.held
    (linked (placed_of d).references p)
    ∙ sym (refs_for-placed d values shown.described p)

-- ---- A commit

come_is : (s : State) (set : Places) (l : Loaded) (states : List ℤ) (chained : Bool)
    → states ≡ states_for s.values (described_of s l)
    → chained ≡ is_chained_in s.description.controllers set l.place → come states chained l ≡ coming s set l
come_is s set l states chained same mark = rw (same, mark) refl

module _ (s : State) (set again : Places) (loans : List Loan) (chains stops starts : List Bool)
    (valid : IsValid s.description) (shown : IsShownOn loans s.description s.values)
    (told : TellCommit s set again chains stops starts) where
  -- of each controller
  committed_one : (l : Loaded)
      → committed_at (placed_of s.description) loans chains stops starts l
      ≡ committed s set (is_stopped (scene_of s) set again) (is_started (scene_of s) set again) l
  committed_one l =
      let chained = ap (λ (test : Places). test l.place) told.chained in
      let stopped = ap (λ (test : Places). test l.place) told.stopped in
      let started = ap (λ (test : Places). test l.place) told.started in
      rw (chained, stopped, started) (either (is_started (scene_of s) set again l.place))
    where
      either : (b : Bool)
          → (if b then come (numbers_at loans (linked (placed_of s.description).reads l.place))
          (is_chained_in s.description.controllers set l.place) l
          else (if is_stopped (scene_of s) set again l.place then leaving l else l))
          ≡ (if b then coming s set l else (if is_stopped (scene_of s) set again l.place then leaving l else l))
      either true = come_is s set l _ _ (numbers_are s.description s.values loans l.place valid shown) refl
      either false = refl

  pub committed_all : map (committed_at (placed_of s.description) loans chains stops starts) s.loaded
      ≡ (commit s set again).loaded
  unfolding commit
  committed_all = map_alike (committed_at (placed_of s.description) loans chains stops starts)
      (committed s set (is_stopped (scene_of s) set again) (is_started (scene_of s) set again)) committed_one s.loaded
