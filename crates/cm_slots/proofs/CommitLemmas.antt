-- What a commit makes of one controller.
use Rattle.std.proofs.Common.{◌≡◌, ℕ, ℤ, Bool, true, false, List, Option, Some, None, refl, sym, ap}
use Rattle.std.specs.Prelude.{is_some, not, ◌&&◌, IfSome}
use Rattle.cm_document.specs.declared.description.Params.{Params}
use Rattle.cm_document.specs.declared.life.Life.{Life}
use Rattle.cm_document.specs.declared.life.Life.TheVariants.{Unconfigured, Inactive, Active, Finalized}
use Rattle.cm_model.specs.Commit.{leaving}
use Rattle.cm_model.specs.Console.{is_inactive}
use Rattle.cm_model.specs.Controllers.{activated, deactivated, CanBeActivated}
use Rattle.cm_document.specs.Params.{shape_of}
use Rattle.cm_model.specs.Kinds.{AreItsReads}
use Rattle.cm_model.specs.State.{Loaded, is_active}
use Rattle.cm_model.specs.declared.data.CtlData.{CtlData}
use Rattle.cm_model.specs.declared.data.RunData.{RunData}
use Rattle.cm_slots.specs.Commits.{come, CanCome}
use Rattle.cm_slots.specs.Lives.{IsIn, IsKept}
use Rattle.cm_slots.proofs.LifeLemmas.{none_is}

-- what does not run is as it is when it was deactivated
still_one : (ctl : CtlData) → ctl.run ≡ None → deactivated ctl ≡ ctl
still_one ctl e = ap (λ (r : Option RunData). record ctl { run = r }) (sym e)

pub still_as_it_is : (l : Loaded) → is_active l ≡ false → record l { mail = None } ≡ leaving l
still_as_it_is l e =
    ap (λ (c : CtlData). record l { ctl = c; mail = None }) (sym (still_one l.ctl (none_is l.ctl.run e)))

-- without parameters nothing runs
blank_is_still : (life : Life) (ctl : CtlData) → IsIn life ctl → ctl.params ≡ None → ctl.run ≡ None
blank_is_still Unconfigured ctl h e = ap (λ (c : CtlData). c.run) h
blank_is_still Inactive ctl h e = h.idle
blank_is_still Active ctl h e = absurd (rw e at h.configured)
blank_is_still Finalized ctl h e = absurd h

activated_again : (life : Life) (ctl : CtlData) (p : Option Params) (states : List ℤ) (chained : Bool) → IsIn life ctl
    → ctl.params ≡ p
    → activated (deactivated ctl) states chained ≡ activated ctl states chained
activated_again life ctl None states chained h e =
    rw e (ap (λ (r : Option RunData). record ctl { params = None; run = r }) (sym (blank_is_still life ctl h e)))
activated_again life ctl (Some params) states chained h e = rw e refl

-- what comes again is as if it had not run
pub coming_again : (life : Life) (l : Loaded) (states : List ℤ) (chained : Bool) → IsKept life l.ctl
    → come states chained (leaving l) ≡ come states chained l
coming_again life l states chained h =
    ap (λ (c : CtlData). record l { ctl = c; mail = None })
    (activated_again life l.ctl l.ctl.params states chained h.state refl)

can_where_configured : (ctl : CtlData) (p : Option Params) (r : Option RunData) (n : ℕ) → ctl.params ≡ p → ctl.run ≡ r
    → (is_some p && not (is_some r)) ≡ true
    → IfSome p (λ params. AreItsReads (shape_of params).reads n) → CanBeActivated ctl n
can_where_configured ctl None r n e f inactive own = cc
can_where_configured ctl (Some params) None n e f inactive own = record { configured = rw e own; idle = f }
can_where_configured ctl (Some params) (Some part) n e f inactive own = cc

-- what is inactive may be activated with as many states as it reads
pub may_come : (l : Loaded) (n : ℕ) → is_inactive l ≡ true → CanCome n l → CanBeActivated l.ctl n
may_come l n inactive own = can_where_configured l.ctl l.ctl.params l.ctl.run n refl refl inactive own

stays_where_blank : (ctl : CtlData) (p : Option Params) (r : Option RunData) (states : List ℤ) (chained : Bool)
    → ctl.params ≡ p → r ≡ None → (is_some p && not (is_some r)) ≡ false
    → ctl ≡ activated ctl states chained
stays_where_blank ctl None r states chained e f inactive = rw e refl
stays_where_blank ctl (Some params) None states chained e f inactive = cc
stays_where_blank ctl (Some params) (Some part) states chained e f inactive = cc

-- what neither runs nor is inactive has no parameters, and stays as it is
pub cannot_come : (l : Loaded) (states : List ℤ) (chained : Bool) → l.ctl.run ≡ None → is_inactive l ≡ false
    → record l { mail = None } ≡ come states chained l
cannot_come l states chained idle inactive =
    ap (λ (c : CtlData). record l { ctl = c; mail = None })
    (stays_where_blank l.ctl l.ctl.params l.ctl.run states chained refl idle inactive)
