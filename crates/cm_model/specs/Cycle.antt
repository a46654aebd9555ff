-- One cycle: the components are read, the controllers updated, the components written, and every body steps by one
-- period; what follows at its end; and what goes aloft at its begin.
use Rattle.std.specs.Prelude.{◌≡◌, ℕ, zero, suc, ◌+◌, ◌*◌, ◌/◌, ◌==◌, Bool, true, false, not, ◌&&◌, ◌||◌, if◌then◌else◌}
use Rattle.std.specs.Prelude.{List, [], ◌∷◌, ◌++◌, length, map, flat_map, filter, filter_map, find, zip, take, drop}
use Rattle.std.specs.Prelude.{slice_get, Option, None, option_map, unwrap_or, is_some}
use Rattle.std.specs.List.{list_any, range_with_len}
use Rattle.std.specs.Option.{option_map_or}
use Rattle.fixed_num.specs.declared.value.BodyState.{BodyState}
use Rattle.cm_document.specs.declared.call.Mail.{Mail}
use Rattle.cm_document.specs.declared.description.CompDesc.{CompDesc}
use Rattle.cm_document.specs.declared.description.Description.{Description}
use Rattle.cm_document.specs.declared.life.Life.{Life}
use Rattle.cm_model.specs.Claims.{states_for, refs_for, given_by, uses}
use Rattle.cm_model.specs.Commit.{described_of, commit}
use Rattle.cm_model.specs.Components.{read_succeeds, read_fails, write_fails, has_failed, is_written, life_after}
use Rattle.cm_model.specs.Components.{claimed_by, bodies_after_step}
use Rattle.cm_model.specs.Controllers.{Stepped, ctl_step}
use Rattle.cm_storage.specs.Happened.{Happened}
use Rattle.cm_model.specs.Order.{Places, precedes_at, some_below, by_rank, depth, is_due}
use Rattle.cm_storage.specs.Ran.{Ran}
use Rattle.cm_model.specs.State.{State, Loaded, MailAloft, is_active, active, owner}
use Rattle.cm_model.specs.Values.{InterfaceValue, belongs_to, after_reads, after_moves}
use Rattle.cm_model.specs.declared.TheConstants.{SECOND_US}
use Rattle.cm_model.specs.declared.member.Member.{Member}
use Rattle.cm_storage.specs.declared.ran.Done.{Done}
use Rattle.cm_storage.specs.declared.ran.Done.TheVariants as done
use Rattle.cm_storage.specs.declared.record.FailedPart.{FailedPart}
use Rattle.cm_model.specs.declared.tick.Tick.{Tick}

-- the time from one cycle to the next, in whole microseconds
abbrev pub period : Description → ℕ
period d = SECOND_US / d.update_rate

-- ---- Components

-- In the cycle that is aloft this holds of the component at a place, by its description and its lifecycle state.
abbrev pub component_is : (CompDesc → Life → ℕ → Bool) → State → ℕ → Bool
component_is test s place =
    option_map_or (λ each. test each.0 each.1 s.ended) (slice_get (zip s.description.components s.lives) place) false

-- the places of the components of which this holds, in order
abbrev pub components_where : (ℕ → Bool) → State → List ℕ
components_where test s = filter test (range_with_len 0 (length s.description.components))

-- Of the components that failed reads come before writes, each as described.
abbrev pub failed_in : State → List FailedPart
failed_in s =
    map (λ place. record { place = place; reading = true }) (components_where (component_is read_fails s) s)
    ++ map (λ place. record { place = place; reading = false }) (components_where (component_is write_fails s) s)

-- ---- Controllers

-- the active controllers in the order of their updates: by depth among them, and those of one depth by serial
abbrev pub active_order : State → List Loaded
active_order s =
    by_rank (λ l. depth s.description.controllers (active s) l.place) (suc (length s.description.controllers))
    (filter is_active s.loaded)

-- a loaded controller by its serial and place
abbrev pub member_of : Loaded → Member
member_of l = record { serial = l.serial; place = l.place }

-- the active controllers so, in the order of their updates
abbrev pub members_in_order : State → List Member
members_in_order s = map member_of (active_order s)

-- In the cycle that is aloft it is due: the cycle is one of those in which it is updated.
abbrev pub is_due_now : State → Loaded → Bool
is_due_now s l = option_map_or (is_due s.ended) l.divisor false

-- It is held off: it uses a component whose read failed.
abbrev pub is_held_off : State → Loaded → Bool
is_held_off s l = uses s.description.components (component_is read_fails s) (described_of s l)

-- The controllers that the cycle updates, in order: the active ones that are due, but for those that are held off.
abbrev pub updated_in : State → List Loaded
updated_in s = filter (λ l. is_due_now s l && not (is_held_off s l)) (active_order s)

-- when a controller is updated: the number and the time of the cycle, and its own time between two updates
abbrev pub tick_of : State → Loaded → Tick
tick_of s l = record {
  cycle = s.ended;
  time_us = s.ended * period s.description;
  dt_us = unwrap_or l.divisor 1 * period s.description;
}

-- the mail that went aloft for the controller of this serial, where there is some
abbrev pub mail_for : State → ℕ → Option Mail
mail_for s serial = option_map (λ aloft. aloft.mail) (find (λ aloft. aloft.serial == serial) s.mails)

-- the step of a controller in the cycle, while the interfaces hold these values
abbrev pub step_of : State → List InterfaceValue → Loaded → Stepped
step_of s values l =
    ctl_step l.ctl (tick_of s l) (states_for values (described_of s l)) (refs_for values (described_of s l))
    (mail_for s l.serial)

-- a controller after the step of the one with this serial
abbrev pub stepped_at : State → List InterfaceValue → ℕ → Loaded → Loaded
stepped_at s values serial l = if l.serial == serial then record l { ctl = (step_of s values l).after } else l

-- what is told of a step
abbrev pub ran_by : Loaded → Stepped → Ran
ran_by l step = record { serial = l.serial; done = step.done; outs = step.outs; published = step.published }

-- What the updates of a cycle come to: the loaded controllers and the values after them, and what is told of each
-- updated controller, in order.
pub record Updates : Type 0 where
  pub loaded : List Loaded
  pub values : List InterfaceValue
  pub ran : List Ran

-- one update more, which is this step: its outputs stand in the claims, unless it failed
abbrev pub with_step : State → Loaded → Stepped → Updates → Updates
with_step s l step u = record {
  loaded = map (stepped_at s u.values l.serial) u.loaded;
  values = given_by (described_of s l).claims step u.values;
  ran = u.ran ++ ran_by l step ∷ [];
}

-- these are updated one after the other, each with the states and the references as they stand then
abbrev pub with_updates : State → Updates → List Loaded → Updates
with_updates s u [] = u
with_updates s u (l ∷ ls) = with_updates s (with_step s l (step_of s u.values l) u) ls

-- The updates of the cycle, which begin with these values.
abbrev pub updates : State → List InterfaceValue → Updates
updates s values = with_updates s (record { loaded = s.loaded; values = values; ran = [] }) (updated_in s)

-- ---- Stops

-- the update of this controller failed
abbrev pub has_erred : List Ran → ℕ → Bool
has_erred ran serial =
    list_any (λ each. each.serial == serial && elim each.done [ done.Ok ↦ false | done.Error ↦ true ]) ran

-- it uses a component whose read or write failed, or its update failed
abbrev pub is_struck : State → List Ran → Loaded → Bool
is_struck s ran l =
    uses s.description.components (component_is has_failed s) (described_of s l) || has_erred ran l.serial

-- as the active controllers of which that holds
abbrev pub struck : State → List Ran → Places
struck s ran p = list_any (λ l. is_active l && (l.place == p && is_struck s ran l)) s.loaded

-- A place comes to one that passes the test, over links among so many places: it passes itself, or is linked to a place
-- that comes to one. This is told as far as so many links lead.
unfoldable pub reaches : (ℕ → ℕ → Bool) → (ℕ → Bool) → ℕ → ℕ → ℕ → Bool
reaches linked hit count zero p = hit p
reaches linked hit count (suc n) p = hit p || some_below (λ q. linked p q && reaches linked hit count n q) count

-- The end of the cycle stops those, and every active controller that precedes one of them at any distance.
abbrev pub must_stop : State → List Ran → Places
must_stop s ran p =
    active s p
    && reaches (λ p q. active s q && precedes_at s.description.controllers p q) (struck s ran)
    (length s.description.controllers) (length s.description.controllers) p

-- the others stay active
abbrev pub stays_active : State → List Ran → Places
stays_active s ran p = active s p && not (must_stop s ran p)

-- an update that went so failed
abbrev pub is_error : Done → Bool
is_error done.Ok = false
is_error done.Error = true

-- the serials of the controllers whose update failed, in order
abbrev pub erred_in : List Ran → List ℕ
erred_in ran = map (λ each. each.serial) (filter (λ each. is_error each.done) ran)

-- The controllers that the end of the cycle stops, by serial, in the order of updates.
abbrev pub stops : State → List Ran → List ℕ
stops s ran = map (λ l. l.serial) (filter (λ l. must_stop s ran l.place) (active_order s))

-- ---- Bodies

-- the command interfaces of the component at this place, in order
abbrev pub commands_at : ℕ → List InterfaceValue → List InterfaceValue
commands_at component values =
    filter (λ v. v.interface.called.is_command && belongs_to (λ place. place == component) v.interface.whose) values

-- the command interface of this number is claimed
abbrev pub is_claimed : State → List InterfaceValue → ℕ → Bool
is_claimed s commands place = option_map_or (λ v. is_some (owner s v.interface)) (slice_get commands place) false

-- the numbers of those that are claimed
abbrev pub claims_in : State → List InterfaceValue → List ℕ
claims_in s commands = filter (is_claimed s commands) (range_with_len 0 (length commands))

-- the bodies of a component, the one at this place, after its step
abbrev pub component_stepped : State → ℕ → CompDesc → List InterfaceValue → List BodyState → List BodyState
component_stepped s component described commands bodies =
    bodies_after_step described (component_is is_written s component) (claimed_by described (claims_in s commands))
    (map (λ v. v.value) commands) (period s.description) bodies

-- the bodies of components, the first of which stands at this place, each component having as many as joints
abbrev pub components_stepped : State → List InterfaceValue → ℕ → List CompDesc → List BodyState → List BodyState
components_stepped s values component [] bodies = []
components_stepped s values component (described ∷ others) bodies =
    component_stepped s component described (commands_at component values) (take (length described.joints) bodies)
    ++ components_stepped s values (component + 1) others (drop (length described.joints) bodies)

-- ---- A cycle

-- What a cycle makes: the loaded controllers, what the interfaces hold and the bodies after it, and what its record
-- tells.
pub record CycleResult : Type 0 where
  pub loaded : List Loaded
  pub values : List InterfaceValue
  pub bodies : List BodyState
  pub happened : Happened

-- what a cycle makes after these updates
abbrev pub cycle_with : State → Updates → CycleResult
cycle_with s u =
    let bodies = components_stepped s u.values 0 s.description.components s.bodies in
    record {
      loaded = u.loaded;
      values = u.values;
      bodies = bodies;
      happened = record { cycle = s.ended; failed = failed_in s; ran = u.ran; bodies = bodies; stops = stops s u.ran };
    }

-- A cycle: the components are read that are inactive or active, and their state interfaces hold their bodies' numbers
-- where the read did not fail; the controllers are updated; the active components are written whose read did not fail;
-- every body steps.
unfoldable pub cycle : State → CycleResult
cycle s = cycle_with s (updates s (after_reads (component_is read_succeeds s) s.bodies s.values))

-- ---- Its end

-- Components come to these lifecycle states, with what that makes of the interfaces.
abbrev pub moved : State → List Life → State
moved s lives = record s { lives = lives; values = after_moves s.lives lives s.bodies s.values }

-- the lifecycle states after the cycle that is aloft: a component that failed goes to the one that is described for it
abbrev pub lives_after : State → List Life
lives_after s = map (λ each. life_after each.0 each.1 s.ended) (zip s.description.components s.lives)

-- the described fallbacks of the controller that is loaded under this serial
abbrev pub fallbacks_of : State → ℕ → List (List ℕ)
fallbacks_of s serial = option_map_or (λ l. (described_of s l).fallback) (find (λ l. l.serial == serial) s.loaded) []

-- Those that are to stand in after a cycle: for each controller whose update failed, in the order of the record, its
-- fallbacks in their order. A controller that stops for another reason brings none.
abbrev pub fallbacks_after : State → List Ran → List (List ℕ)
fallbacks_after s ran = flat_map (fallbacks_of s) (erred_in ran)

-- The controllers, values and bodies are those after the cycle, the components that failed have moved, those wait that
-- are to stand in, one cycle more has ended, and nothing is aloft.
abbrev pub landed : State → CycleResult → State
landed s cycled =
    moved (record s {
      loaded = cycled.loaded;
      values = cycled.values;
      bodies = cycled.bodies;
      fallbacks = fallbacks_after s cycled.happened.ran;
      ended = s.ended + 1;
      aloft = false;
      mails = [];
    }) (lives_after s)

-- At the end of a cycle that has landed the controllers are stopped that failed, that use a component that failed, or
-- that precede such a one. Those that stay and whose chained mode changes restart.
unfoldable pub after_cycle : State → CycleResult → State
after_cycle s cycled = commit (landed s cycled) (stays_active s cycled.happened.ran) (λ p. false)

-- ---- Its begin

-- the mail of a controller that goes aloft, where it is active and due
abbrev pub mail_off : State → Loaded → Option MailAloft
mail_off s l = if is_active l && is_due_now s l then option_map (λ mail. record {
  serial = l.serial;
  mail = mail;
}) l.mail else None

-- the controller without it
abbrev pub without_mail_off : State → Loaded → Loaded
without_mail_off s l = if is_active l && is_due_now s l then record l { mail = None } else l

-- A cycle begins: the mail of each active controller that is due goes aloft with it.
abbrev pub begun : State → State
begun s = record s {
  loaded = map (without_mail_off s) s.loaded;
  aloft = true;
  mails = filter_map (mail_off s) s.loaded;
}

-- ---- While no controller is active

-- No controller was updated or stopped, and at the end nothing changes but what the components make of it.
pub record IsIdle (s : State) (cycled : CycleResult) : Type 0 where
  pub none_ran : cycled.happened.ran ≡ []
  pub none_stopped : cycled.happened.stops ≡ []
  pub loaded : cycled.loaded ≡ s.loaded
  pub ended : after_cycle s cycled ≡ landed s cycled
