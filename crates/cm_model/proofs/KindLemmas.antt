-- What each kind does: all else that is said of what runs goes by these lemmas alone. A kind with a running part of its
-- own has its update here.
use Rattle.std.proofs.Common.{◌≡◌, ℕ, ℤ, Bool, true, false, ◌&&◌, List, [], ◌∷◌, refl}
use Rattle.std.specs.Prelude.{Option, Some, None, if◌then◌else◌}
use Rattle.fixed_num.specs.declared.value.Value.{Value}
use Rattle.fixed_num.specs.declared.value.Value.TheVariants.{Unset, Num}
use Rattle.cm_document.specs.Params.{kind_of}
use Rattle.cm_document.specs.declared.call.Mail.{Mail}
use Rattle.cm_document.specs.declared.call.Mail.TheVariants.{Values, Points}
use Rattle.cm_document.specs.declared.call.Point2.{Point2}
use Rattle.cm_document.specs.declared.description.Params.{Params}
use Rattle.cm_document.specs.declared.description.Params.TheVariants.{Forward}
use Rattle.cm_model.specs.Controllers.{Updated, gives, tuning_of, bounds_of, is_over_values, started}
use Rattle.cm_model.specs.Controllers.{runs_chained, tells_last, with_mail, wanted, loop_update, bounded_update}
use Rattle.cm_model.specs.Controllers.{set_update, trajectory_update, publishes_states, only_if, updated}
use Rattle.cm_model.specs.Kinds.{has_references, publishes, follows_points, fails_in}
use Rattle.cm_model.specs.Limiters.{Bounds}
use Rattle.cm_model.specs.Pids.{Tuning}
use Rattle.cm_model.specs.declared.data.RunData.{RunData}
use Rattle.cm_model.specs.declared.data.RunData.TheVariants as run
use Rattle.cm_model.specs.declared.tick.Tick.{Tick}
use Rattle.cm_storage.specs.declared.ran.Done.TheVariants as done

-- ---- What starts

-- What starts: it is chained as it is told where it has references, and it tells what was published where its kind
-- publishes.
pub record StartsAs (params : Params) (states : List ℤ) (chained : Bool) : Type 0 where
  pub marked : runs_chained (started params states chained) ≡ (has_references params && chained)
  pub tells : tells_last (started params states chained) ≡ publishes (kind_of params)

pub starts_as : (params : Params) (states : List ℤ) (chained : Bool) → StartsAs params states chained
starts_as (Forward outs) states chained = record { marked = refl; tells = refl }
starts_as _ states chained = record { marked = refl; tells = refl }

-- ---- Mail

-- A part is of the sort of another: it is chained where that is, and tells what was published where that does.
pub record IsOfSort (before after : RunData) : Type 0 where
  pub chained : runs_chained after ≡ runs_chained before
  pub tells : tells_last after ≡ tells_last before

-- mail leaves a part of its sort
pub mail_keeps : (part : RunData) (mail : Mail) → IsOfSort part (with_mail part mail)
mail_keeps (run.Set chained set) (Values []) = record { chained = refl; tells = refl }
mail_keeps (run.Set chained set) (Values (value ∷ values)) = record { chained = refl; tells = refl }
mail_keeps (run.Set chained set) (Points points) = record { chained = refl; tells = refl }
mail_keeps _ (Values []) = record { chained = refl; tells = refl }
mail_keeps _ (Values (value ∷ values)) = record { chained = refl; tells = refl }
mail_keeps _ (Points points) = record { chained = refl; tells = refl }

-- ---- An update

-- What an update gives: a part of the sort of the one that ran, the states that were read where the kind publishes them
-- and else none, and no output after an error.
pub record IsGivenBy (params : Params) (part : RunData) (states : List ℤ) (given : Updated) : Type 0 where
  pub sort : IsOfSort part given.run
  pub published : given.published ≡ (if tells_last part && publishes (kind_of params) then states else [])
  pub erred : given.done ≡ done.Error → given.outs ≡ []

-- outputs are given so, with any part of the sort of one that publishes nothing
outputs_so : (params : Params) (part after : RunData) (states : List ℤ) (outs : List Value)
    → runs_chained after ≡ runs_chained part → tells_last after ≡ tells_last part → tells_last part ≡ false
    → IsGivenBy params part states (gives after outs)
outputs_so params part after states outs chained tells quiet =
    record { sort = record { chained = chained; tells = tells }; published = rw quiet refl; erred = λ e. cc }

set_so : (params : Params) (own failing chained : Bool) (set outs : List Value) (states : List ℤ)
    → IsGivenBy params (run.Set chained set) states
    (only_if own (run.Set chained set) (set_update failing (run.Set chained set) outs))
set_so params false failing chained set outs states =
    outputs_so params (run.Set chained set) (run.Set chained set) states [] refl refl refl
set_so params true false chained set outs states =
    outputs_so params (run.Set chained set) (run.Set chained set) states outs refl refl refl
set_so params true true chained set outs states =
    record { sort = record { chained = refl; tells = refl }; published = refl; erred = λ e. refl }

loop_so : (params : Params) (own : Option Tuning) (chained : Bool) (set : Value) (integral : ℤ) (last : Option ℤ)
    (dt_us : ℕ) (targets : List Value) (states : List ℤ)
    → IsGivenBy params (run.Pid chained set integral last) states
    (loop_update own chained set integral last dt_us targets states)
loop_so params None chained set integral last dt_us targets states =
    outputs_so params (run.Pid chained set integral last) _ states _ refl refl refl
loop_so params (Some tuning) chained set integral last dt_us [] states =
    outputs_so params (run.Pid chained set integral last) _ states _ refl refl refl
loop_so params (Some tuning) chained set integral last dt_us (Unset ∷ targets) states =
    outputs_so params (run.Pid chained set integral last) _ states _ refl refl refl
loop_so params (Some tuning) chained set integral last dt_us (Num target ∷ targets) [] =
    outputs_so params (run.Pid chained set integral last) _ [] _ refl refl refl
loop_so params (Some tuning) chained set integral last dt_us (Num target ∷ targets) (state ∷ states) =
    outputs_so params (run.Pid chained set integral last) _ (state ∷ states) _ refl refl refl

bounded_so : (params : Params) (own : Option Bounds) (chained : Bool) (set : Value) (at step : ℤ) (dt_us : ℕ)
    (targets : List Value) (states : List ℤ)
    → IsGivenBy params (run.Limiter chained set at step) states (bounded_update own chained set at step dt_us targets)
bounded_so params None chained set at step dt_us targets states =
    outputs_so params (run.Limiter chained set at step) _ states _ refl refl refl
bounded_so params (Some bounds) chained set at step dt_us [] states =
    outputs_so params (run.Limiter chained set at step) _ states _ refl refl refl
bounded_so params (Some bounds) chained set at step dt_us (target ∷ targets) states =
    outputs_so params (run.Limiter chained set at step) _ states _ refl refl refl

points_so : (params : Params) (own : Bool) (time_us : ℕ) (hold : List ℤ) (fresh : Bool) (start_us : ℕ) (from : List ℤ)
    (points : List Point2) (states : List ℤ)
    → IsGivenBy params (run.Trajectory hold fresh start_us from points) states
    (only_if own (run.Trajectory hold fresh start_us from points)
    (trajectory_update time_us states hold fresh start_us from points))
points_so params false time_us hold fresh start_us from points states =
    outputs_so params (run.Trajectory hold fresh start_us from points) _ states _ refl refl refl
points_so params true time_us hold true start_us from points states =
    outputs_so params (run.Trajectory hold true start_us from points) _ states _ refl refl refl
points_so params true time_us hold false start_us from points states =
    outputs_so params (run.Trajectory hold false start_us from points) _ states _ refl refl refl

states_so : (params : Params) (own : Bool) (last states : List ℤ) → publishes (kind_of params) ≡ own
    → IsGivenBy params (run.Broadcaster last) states (only_if own (run.Broadcaster last) (publishes_states states))
states_so params true last states is =
    record { sort = record { chained = refl; tells = refl }; published = rw is refl; erred = λ e. cc }
states_so params false last states is =
    record { sort = record { chained = refl; tells = refl }; published = rw is refl; erred = λ e. refl }

-- so does the update of every kind
pub update_gives : (params : Params) (part : RunData) (tick : Tick) (states : List ℤ) (refs : List Value)
    → IsGivenBy params part states (updated params part tick states refs)
update_gives params (run.Set chained set) tick states refs =
    set_so params (is_over_values params) (fails_in params tick.cycle) chained set _ states
update_gives params (run.Pid chained set integral last) tick states refs =
    loop_so params (tuning_of params) chained set integral last tick.dt_us (wanted chained refs (set ∷ [])) states
update_gives params (run.Trajectory hold fresh start_us from points) tick states refs =
    points_so params (follows_points (kind_of params)) tick.time_us hold fresh start_us from points states
update_gives params (run.Broadcaster last) tick states refs =
    states_so params (publishes (kind_of params)) last states refl
update_gives params (run.Limiter chained set at step) tick states refs =
    bounded_so params (bounds_of params) chained set at step tick.dt_us (wanted chained refs (set ∷ [])) states
