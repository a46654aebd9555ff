-- The end of a cycle: of what it is told, and which controllers the commit that follows stops and starts.
use Rattle.std.specs.Prelude.{◌≡◌, ℕ, false, List, length}
use Rattle.cm_model.specs.Commit.{scene_of}
use Rattle.cm_model.specs.Cycle.{failed_in, stays_active, cycle, landed}
pub use Rattle.cm_model.specs.Cycle.{member_of, members_in_order, is_error, erred_in}
use Rattle.cm_model.specs.Order.{Places, set_of}
use Rattle.cm_storage.specs.Ran.{Ran}
use Rattle.cm_model.specs.Scene.{is_chained_in}
use Rattle.cm_model.specs.Sound.{CanRunTogether}
use Rattle.cm_model.specs.State.{State}
use Rattle.cm_model.specs.Steady.{AreLoaded, AreConfigured, IsInOrder}
use Rattle.cm_model.specs.Switches.{is_stopped, is_started}
use Rattle.switch_plan.specs.Relations.{relations_of}
use Rattle.stop_plan.specs.declared.ending.Ending.{Ending}
use Rattle.stop_plan.specs.declared.report.Report.{Report}

-- ---- What it is told of

-- what the updates of the cycle tell
abbrev pub told_in : State → List Ran
told_in s = (cycle s).happened.ran

-- A report is that of the cycle which is aloft in this state: the relations are those of the description, the active
-- controllers stand in the order of their updates, and it names the components and the updates that failed.
pub record IsReportOf (s : State) (r : Report) : Type 0 where
  pub relations : r.relations.now ≡ relations_of s.description
  pub order : r.order.now ≡ members_in_order s
  pub failed : r.failed.now ≡ failed_in s
  pub erred : r.erred.now ≡ erred_in (told_in s)

-- ---- What is decided

-- no controller is named for a restart
abbrev pub nobody_again : Places
nobody_again p = false

-- The sets are those of the commit at the end of the cycle: who stays active; who is stopped, and who is started, in
-- the state that the cycle leaves; and who is chained in the set of those that stay.
pub record IsEndingOf (s : State) (e : Ending) : Type 0 where
  pub set : set_of e.set ≡ stays_active s (told_in s)
  pub stopped : set_of e.stopped ≡ is_stopped (scene_of (landed s (cycle s))) (stays_active s (told_in s)) nobody_again
  pub started : set_of e.started ≡ is_started (scene_of (landed s (cycle s))) (stays_active s (told_in s)) nobody_again
  pub chained : set_of e.chained ≡ is_chained_in s.description.controllers (stays_active s (told_in s))

-- A set can be committed in a state: the state is in order, and each of the set is loaded and configured, and can run
-- beside the others.
pub record CanBeCommitted (s : State) (set : Places) : Type 0 where
  pub in_order : IsInOrder s
  pub loaded : AreLoaded s.loaded set
  pub configured : AreConfigured s.loaded set
  pub together : CanRunTogether s.description s.lives set

-- there is a flag for each of so many described controllers
pub record HasFlags (count : ℕ) (e : Ending) : Type 0 where
  pub active : length e.active ≡ count
  pub fallen : length e.fallen ≡ count
  pub set : length e.set ≡ count
  pub stopped : length e.stopped ≡ count
  pub started : length e.started ≡ count
  pub chained : length e.chained ≡ count
