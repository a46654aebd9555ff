-- What a commit makes of one loaded controller, by place.
use Rattle.std.specs.Prelude.{◌≡◌, ℤ, Bool, if◌then◌else◌, List, None, IfSome, ℕ}
use Rattle.cm_model.specs.Commit.{scene_of, leaving}
use Rattle.cm_model.specs.Controllers.{activated}
use Rattle.cm_document.specs.Params.{shape_of}
use Rattle.cm_model.specs.Kinds.{AreItsReads}
use Rattle.cm_model.specs.Order.{Places, set_of}
use Rattle.cm_model.specs.Scene.{is_chained_in}
use Rattle.cm_model.specs.State.{State, Loaded}
use Rattle.cm_model.specs.Switches.{is_stopped, is_started}
use Rattle.loan_board.specs.declared.board.Loan.{Loan}
use Rattle.chain_order.specs.Links.{linked}
use Rattle.cm_places.specs.Placed.{Placed}
use Rattle.cm_slots.specs.Connections.{numbers_at}

-- it comes to run with these states, whether it ran before or not
abbrev pub come : List ℤ → Bool → Loaded → Loaded
come states chained l = record l { ctl = activated l.ctl states chained; mail = None }

-- it may be given so many states, where it is configured
abbrev pub CanCome : ℕ → Loaded → Type 0
CanCome states l = IfSome l.ctl.params (λ params. AreItsReads (shape_of params).reads states)

-- One controller, where these are stopped and these started, and these come chained.
abbrev pub committed_at : Placed → List Loan → List Bool → List Bool → List Bool → Loaded → Loaded
committed_at placed loans chained stopped started l =
    if set_of started l.place then come (numbers_at loans (linked placed.reads l.place)) (set_of chained l.place) l
    else (if set_of stopped l.place then leaving l else l)

-- So these flags tell a commit, after which this set is active, with these restarted: who is stopped, who is started,
-- and who is chained in the set.
pub record TellCommit (s : State) (set again : Places) (chains stops starts : List Bool) : Type 0 where
  pub chained : set_of chains ≡ is_chained_in s.description.controllers set
  pub stopped : set_of stops ≡ is_stopped (scene_of s) set again
  pub started : set_of starts ≡ is_started (scene_of s) set again
