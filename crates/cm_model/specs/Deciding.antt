-- How a begin decides the requests that wait: one after the other, from one state that exists to the next.
use Rattle.std.specs.Prelude.{◌≡◌, ◌≢◌, ℕ, ◌==◌, Bool, true, false, not, ◌&&◌, ◌||◌, List, [], ◌∷◌, ◌++◌, length, map}
use Rattle.std.specs.Prelude.{Some, None, option_map}
use Rattle.fixed_num.specs.declared.value.Value.TheVariants.{Unset}
use Rattle.cm_document.specs.Picks.{flat, picked_names}
use Rattle.cm_document.specs.Places.{Whose, of_joint, of_controller, Interface}
use Rattle.cm_document.specs.declared.call.Pick.{Pick}
use Rattle.cm_document.specs.declared.call.SwitchRequest.{SwitchRequest}
use Rattle.cm_document.specs.declared.description.CtlDesc.{CtlDesc}
use Rattle.cm_document.specs.declared.life.Life.{Life}
use Rattle.cm_model.specs.Boundary.{component_place, life_at}
use Rattle.cm_model.specs.CauseIsTrue.{IsTrueOf, is_true_of_move}
use Rattle.cm_model.specs.Claims.{states_for}
use Rattle.cm_model.specs.Commit.{described_of, scene_of}
use Rattle.cm_model.specs.Components.{is_available}
use Rattle.cm_model.specs.Controllers.{started}
use Rattle.cm_model.specs.Loans.{CanRunTogether}
use Rattle.cm_model.specs.Order.{Places}
use Rattle.cm_model.specs.Scene.{is_claimed_by, is_chained_in, named}
use Rattle.cm_model.specs.State.{State, Loaded, is_active, active}
use Rattle.cm_model.specs.Switches.{differ}
use Rattle.cm_model.specs.Values.{InterfaceValue, unset, belongs_to, shown}
use Rattle.cm_model.specs.declared.cause.Outcome.{Outcome}
use Rattle.cm_model.specs.declared.cause.Outcome.TheVariants as outcome
use Rattle.cm_model.specs.declared.request.Request.{Request}
use Rattle.cm_model.specs.declared.request.Request.TheVariants as request

-- Two lists have one length, and each item of the first is related to the one of the second at its place.
abbrev pub AreRelated : {A : Type 0} → (A → A → Type 0) → List A → List A → Type 0
AreRelated R [] [] = Unit {0}
AreRelated R (x ∷ xs) (y ∷ ys) = R x y × AreRelated R xs ys
AreRelated R _ _ = ⊥

-- ---- What stays

-- a loaded controller, but for the part that runs and the mail that waits
abbrev pub at_rest : Loaded → Loaded
at_rest l = record l { ctl = record l.ctl { run = None }; mail = None }

-- A state, but for what a request may change: which controllers run and what mail waits for them, the lifecycle states
-- of the components, what the interfaces hold, and what became of requests.
abbrev pub lasting : State → State
lasting s = record s {
  loaded = map at_rest s.loaded;
  lives = [];
  values = map (λ v. unset v.interface) s.values;
  outcomes = [];
}

-- no controller, component, mail or value changes
pub record NothingChanges (before after : State) : Type 0 where
  pub loaded : after.loaded ≡ before.loaded
  pub lives : after.lives ≡ before.lives
  pub values : after.values ≡ before.values

-- ---- What a switch makes of the controllers

-- It does not run, and no mail waits for it.
pub record HasStopped (l : Loaded) : Type 0 where
  pub stopped : l.ctl.run ≡ None
  pub emptied : l.mail ≡ None

-- It runs as its parameters start it, with the states that it reads as they were, and chained as in the set; and no
-- mail waits for it.
pub record RunsAnew (before : State) (set : Places) (l new : Loaded) : Type 0 where
  pub run : new.ctl.run ≡ option_map (λ params. started params (states_for before.values (described_of before l))
      (is_chained_in before.description.controllers set l.place)) l.ctl.params
  pub emptied : new.mail ≡ None

-- a controller is to restart: it is named for that, or it is chained before and not after, or after and not before
abbrev pub is_renewed : State → Places → Places → ℕ → Bool
is_renewed before set again p =
    let controllers = before.description.controllers in
    again p || differ (is_chained_in controllers (active before) p) (is_chained_in controllers set p)

-- Of one controller, where the set comes to be active, and these are named to restart:
pub record IsSwitched (before : State) (set again : Places) (l new : Loaded) : Type 0 where
  -- one that leaves has stopped;
  pub leaves : is_active l ≡ true → set l.place ≡ false → HasStopped new
  -- one that comes runs anew;
  pub comes : is_active l ≡ false → set l.place ≡ true → RunsAnew before set l new
  -- one that stays and is to restart runs anew too;
  pub restarts : is_active l ≡ true → set l.place ≡ true → is_renewed before set again l.place ≡ true
      → RunsAnew before set l new
  -- one that stays and is not to restart is as it was;
  pub stays : is_active l ≡ true → set l.place ≡ true → is_renewed before set again l.place ≡ false → new ≡ l
  -- and so is one that neither ran nor comes.
  pub out : is_active l ≡ false → set l.place ≡ false → new ≡ l

-- it leaves or restarts
abbrev pub has_ceased : State → Places → Places → Places
has_ceased before set again p = active before p && (not (set p) || is_renewed before set again p)

-- a reference that one of these controllers exports
abbrev pub is_reference_of : Places → Whose → Bool
is_reference_of set (of_joint component joint) = false
is_reference_of set (of_controller place) = set place

-- a command interface or a reference that one of these claims, or a reference that one of these exports
abbrev pub is_let_go : List CtlDesc → Places → Interface → Bool
is_let_go controllers set interface =
    interface.called.is_command
    && (is_claimed_by controllers set interface.called.name || is_reference_of set interface.whose)

-- What those that leave or restart claim or export holds nothing then, and every other interface holds what it held.
pub record IsLetGo (before : State) (ceased : Places) (v new : InterfaceValue) : Type 0 where
  pub emptied : is_let_go before.description.controllers ceased v.interface ≡ true → new.value ≡ Unset
  pub held : is_let_go before.description.controllers ceased v.interface ≡ false → new ≡ v

-- From one state to the next the set comes to be active, with these restarted.
pub record HasSwitched (before : State) (set again : Places) (after : State) : Type 0 where
  pub set_is : (p : ℕ) → active after p ≡ set p
  pub controllers : AreRelated (IsSwitched before set again) before.loaded after.loaded
  pub values : AreRelated (IsLetGo before (has_ceased before set again)) before.values after.values
  pub lives : after.lives ≡ before.lives

-- ---- Switches

-- the loaded controllers that a list of a switch names, by themselves or by a group
abbrev pub named_by : State → List Pick → Places
named_by before picks = named (scene_of before) (picked_names (flat before.description picks))

-- what a switch asks for: those that were active without those to deactivate, and with those to activate
abbrev pub asked_set : State → SwitchRequest → Places
asked_set before switch p = (active before p && not (named_by before switch.off p)) || named_by before switch.on p

-- those that it names on both lists
abbrev pub on_both : State → SwitchRequest → Places
on_both before switch p = named_by before switch.off p && named_by before switch.on p

-- A strict switch was done whole: the active controllers are those from before without those to deactivate, and with
-- those to activate, and those on both lists restarted. Or it was refused: then nothing changes, and the cause is true
-- of the name. The loop's end decides none.
abbrev pub WholeOrNothing : State → SwitchRequest → State → Outcome → Type 0
WholeOrNothing before switch after (outcome.Done dropped) =
    (dropped ≡ []) × HasSwitched before (asked_set before switch) (on_both before switch) after
WholeOrNothing before switch after (outcome.Refused name reason) =
    NothingChanges before after
    × IsTrueOf (scene_of before) (flat before.description switch.off) (flat before.description switch.on) name reason
WholeOrNothing before switch after outcome.LoopEnded = ⊥

-- Of a switch of best effort:
pub record IsDoneInPart (before : State) (switch : SwitchRequest) (after : State) : Type 0 where
  -- of those that it names on both lists
  pub again : Places
  pub named_again : (p : ℕ) → again p ≡ true → on_both before switch p ≡ true
  -- these restarted, as its set came to be active;
  pub switched : HasSwitched before (active after) again after
  -- that can run together;
  pub together : CanRunTogether before.description before.lives (active after)
  -- who came was to be activated;
  pub came : (p : ℕ) → active before p ≡ false → active after p ≡ true → named_by before switch.on p ≡ true
  -- and who left was to be deactivated.
  pub left : (p : ℕ) → active before p ≡ true → active after p ≡ false → named_by before switch.off p ≡ true

-- It is never refused, and the loop's end decides none.
abbrev pub AsMuchAsCanBe : State → SwitchRequest → State → Outcome → Type 0
AsMuchAsCanBe before switch after (outcome.Done dropped) = IsDoneInPart before switch after
AsMuchAsCanBe before switch after _ = ⊥

-- a switch, strict or not
abbrev pub IsSwitchDecided : Bool → State → SwitchRequest → State → Outcome → Type 0
IsSwitchDecided true before switch after became = WholeOrNothing before switch after became
IsSwitchDecided false before switch after became = AsMuchAsCanBe before switch after became

-- ---- Hardware requests

-- the interface is one of this component
abbrev pub is_of : ℕ → InterfaceValue → Bool
is_of component v = belongs_to (λ place. place == component) v.interface.whose

-- Of one interface, where a component comes from one lifecycle state to another:
pub record IsMoved (before : State) (component : ℕ) (target : Life) (v new : InterfaceValue) : Type 0 where
  -- one of another component, or a reference, is as it was;
  pub others : is_of component v ≡ false → new ≡ v
  -- one that is not available then holds nothing;
  pub gone : is_of component v ≡ true → is_available target ≡ false → new.value ≡ Unset
  -- one that was available and stays so is as it was;
  pub stays : is_of component v ≡ true → is_available target ≡ true → is_available (life_at before component) ≡ true
      → new ≡ v
  -- a state interface that was not and is so then holds its body's number,
  pub comes : is_of component v ≡ true → is_available target ≡ true → is_available (life_at before component) ≡ false
      → v.interface.called.is_command ≡ false
      → new.value ≡ shown before.bodies v.interface.called.name v.interface.whose
  -- and a command interface holds nothing.
  pub commands : is_of component v ≡ true → is_available target ≡ true → is_available (life_at before component) ≡ false
      → v.interface.called.is_command ≡ true → new.value ≡ Unset

-- From one state to the next a component comes to this lifecycle state, and no other component and no controller
-- changes.
pub record HasMoved (before : State) (component : ℕ) (target : Life) (after : State) : Type 0 where
  pub loaded : after.loaded ≡ before.loaded
  pub as_many : length after.lives ≡ length before.lives
  pub moved : life_at after component ≡ target
  pub others : (place : ℕ) → place ≢ component → life_at after place ≡ life_at before place
  pub values : AreRelated (IsMoved before component target) before.values after.values

-- A hardware request was done: the component is in the asked state. Or it was refused: then the component is named,
-- nothing changes, and the cause is true.
abbrev pub MovedOrNothing : State → List ℕ → Life → State → Outcome → Type 0
MovedOrNothing before name target after (outcome.Done dropped) =
    (dropped ≡ [])
    × ((component : ℕ) × (component_place before.description name ≡ Some component)
    × HasMoved before component target after)
MovedOrNothing before name target after (outcome.Refused named reason) =
    (named ≡ name) × NothingChanges before after × (is_true_of_move before name target reason ≡ true)
MovedOrNothing before name target after outcome.LoopEnded = ⊥

-- ---- All that wait

-- a request that a begin decided
abbrev pub IsDecidedRightly : State → Request → State → Outcome → Type 0
IsDecidedRightly before (request.Switch switch) after became = IsSwitchDecided switch.strict before switch after became
IsDecidedRightly before (request.Hardware component target) after became =
    MovedOrNothing before component target after became

-- From one state to the next a request was decided, with this outcome: that stands behind those before it; what no
-- request changes is as it was; and the request was done or refused rightly.
pub record IsDecision (before : State) (asked : Request) (became : Outcome) (after : State) : Type 0 where
  pub outcomes : after.outcomes ≡ before.outcomes ++ became ∷ []
  pub same : lasting after ≡ lasting before
  pub rightly : IsDecidedRightly before asked after became

-- a state, but for the mail that waits or is aloft
abbrev pub without_mail : Loaded → Loaded
without_mail l = record l { mail = None }

abbrev pub apart_from_mail : State → State
apart_from_mail s = record s { loaded = map without_mail s.loaded; aloft = false; mails = [] }

-- These requests were decided with these outcomes, each in the state that the one before it left: there is such a state
-- between each two of them, none is left over, and no outcome is. The state that the last one left is the one at the
-- end, but for mail.
abbrev pub AreDecided : State → List Request → List Outcome → State → Type 0
AreDecided s [] [] after = apart_from_mail after ≡ apart_from_mail s
AreDecided s (asked ∷ later) (became ∷ outcomes) after =
    (next : State) × IsDecision s asked became next × AreDecided next later outcomes after
AreDecided s _ _ after = ⊥
