-- What a decided set of controllers makes of the state.
use Rattle.std.specs.Prelude.{Bool, false, ◌&&◌, ◌||◌, if◌then◌else◌, map, None}
use Rattle.cm_document.specs.Places.{Whose, of_joint, of_controller, Interface}
use Rattle.cm_document.specs.declared.description.CtlDesc.{CtlDesc}
use Rattle.cm_model.specs.Claims.{states_for}
use Rattle.cm_model.specs.Controllers.{activated, deactivated, is_ready}
use Rattle.cm_model.specs.Order.{Places, controller_at}
use Rattle.cm_model.specs.Scene.{Scene, is_claimed_by, is_chained_in}
use Rattle.cm_model.specs.State.{State, Loaded, life_of, is_active, is_chained}
use Rattle.cm_model.specs.Switches.{is_stopped, is_started}
use Rattle.cm_model.specs.Values.{InterfaceValue, unset}
use Rattle.cm_model.specs.declared.seen.Seen.{Seen}

-- ---- What a switch is decided by

-- the described controller of a loaded one
abbrev pub described_of : State → Loaded → CtlDesc
described_of s l = controller_at s.description.controllers l.place

-- a loaded controller, as a switch is decided by it
abbrev pub seen : State → Loaded → Seen
seen s l = record {
  serial = l.serial;
  place = l.place;
  life = life_of l.ctl;
  chained = is_active l && is_chained s (described_of s l);
  ready = is_ready l.ctl s.ended;
}

-- the scene of a state
abbrev pub scene_of : State → Scene
scene_of s = record { description = s.description; loaded = map (seen s) s.loaded; components = s.lives }

-- ---- Controllers

-- it comes to run, with the states of this moment and chained as in the set
abbrev pub coming : State → Places → Loaded → Loaded
coming s set l =
    record l {
      ctl = activated l.ctl (states_for s.values (described_of s l))
          (is_chained_in s.description.controllers set l.place);
      mail = None;
    }

-- it does not run any more
abbrev pub leaving : Loaded → Loaded
leaving l = record l { ctl = deactivated l.ctl; mail = None }

-- One controller, where these are stopped and these started; one that is both restarts. Its mail is emptied.
abbrev pub committed : State → Places → Places → Places → Loaded → Loaded
committed s set stopped started l =
    if started l.place then coming s set l else (if stopped l.place then leaving l else l)

-- ---- Interfaces

-- a reference that one of these controllers exports
abbrev pub is_exported_by : Places → Whose → Bool
is_exported_by set (of_joint component joint) = false
is_exported_by set (of_controller place) = set place

-- one of these claims the interface, or exports it
abbrev pub is_freed : State → Places → Interface → Bool
is_freed s stopped interface =
    interface.called.is_command
    && (is_claimed_by s.description.controllers stopped interface.called.name || is_exported_by stopped interface.whose)

-- one interface after these were stopped
abbrev pub freed_of : State → Places → InterfaceValue → InterfaceValue
freed_of s stopped v = if is_freed s stopped v.interface then unset v.interface else v

-- ---- Both

-- where these are stopped and these started
abbrev pub changed : State → Places → Places → Places → State
changed s set stopped started = record s {
  loaded = map (committed s set stopped started) s.loaded;
  values = map (freed_of s stopped) s.values;
}

-- The set is active, with these restarted. Those that leave are deactivated; those that come are activated, with the
-- states of this moment; the restarted, and those that stay and whose chained mode changes, are deactivated and
-- activated. What is claimed and exported by those that leave or restart becomes Unset. The mail of each that leaves,
-- comes or restarts is emptied. All else stays.
unfoldable pub commit : State → Places → Places → State
commit s set again = changed s set (is_stopped (scene_of s) set again) (is_started (scene_of s) set again)
