-- The sentences: why something was not done, or went wrong, and what would mend it.
use Rattle.std.specs.Prelude.{ℕ, Bool, false, if◌then◌else◌, List, ◌++◌, codes}
use Rattle.iface_names.specs.Interfaces.{interface_text}
use Rattle.iface_names.specs.Names.{same_name}
use Rattle.iface_names.specs.declared.interface.IfaceName.{IfaceName}
use Rattle.iface_names.specs.declared.interface.IfaceName.TheVariants.{Joint, Reference}
use Rattle.cm_model.specs.declared.cause.Cause.{Cause}
use Rattle.cm_model.specs.declared.cause.Cause.TheVariants as cause
use Rattle.cm_model.specs.declared.reply.Why.{Why}
use Rattle.cm_model.specs.declared.reply.Why.TheVariants as why
use Rattle.draw_causes.specs.declared.failures.Failure.{Failure}
use Rattle.draw_causes.specs.declared.failures.Failure.TheVariants as failure
use Rattle.draw_causes.specs.declared.failures.StopKind.{StopKind}
use Rattle.draw_causes.specs.declared.failures.StopKind.TheVariants as stop

-- ---- Calls that did nothing

-- why a call did nothing, of what it names
abbrev pub why_words : Why → List ℕ
why_words why.NotDescribed = codes "it is not described"
why_words why.Loaded = codes "it is loaded already"
why_words why.StockEmpty = codes "none of its type is left in stock"
why_words why.NotLoaded = codes "it is not loaded"
why_words why.Active = codes "it is active"
why_words why.Refused = codes "it does not take its parameters"
why_words why.NotInactive = codes "it is not inactive"
why_words why.NotActive = codes "it is not active"
why_words why.Chained = codes "another controller commands it"
why_words why.TakesNone = codes "it takes no values"
why_words why.WrongCount = codes "the values do not fit what it claims"
why_words why.LoopEnded = codes "the loop is closed"
why_words why.QueueFull = codes "the queue is full"

-- what would mend it
abbrev pub why_mend : Why → List ℕ
why_mend why.NotDescribed = codes "name a controller that the document describes"
why_mend why.Loaded = codes "go on with the one that is loaded, or unload it first"
why_mend why.StockEmpty = codes "load fewer of its type, because an unload gives none back"
why_mend why.NotLoaded = codes "load it first, or leave this call out"
why_mend why.Active = codes "deactivate it first"
why_mend why.Refused = codes "change its parameters in the document"
why_mend why.NotInactive =
    codes "deactivate it first if it is active, and leave it as it is if it is unconfigured"
why_mend why.NotActive = codes "activate it first"
why_mend why.Chained = codes "send to the controller that commands it, or deactivate that one first"
why_mend why.TakesNone = codes "send to a controller that takes values"
why_mend why.WrongCount = codes "send what its type takes, with one value for each of its claims"
why_mend why.LoopEnded = codes "ask in an earlier cycle, or let the document run more cycles"
why_mend why.QueueFull = codes "wait until a request is decided, and ask again"

-- ---- Names that were refused or dropped

-- an interface is a reference of this controller
abbrev pub is_reference_of : List ℕ → IfaceName → Bool
is_reference_of name (Reference controller joint kind) = same_name controller name
is_reference_of name (Joint joint kind) = false

-- the missing follower is the controller itself: it was to leave, and one that stays claims a reference of it
abbrev pub is_own : List ℕ → Cause → Bool
is_own name (cause.MissingFollower interface) = is_reference_of name interface
is_own name _ = false

-- a reference is missing that the name claims, or that it gives to one that stays
abbrev pub missing_words : List ℕ → IfaceName → List ℕ
missing_words name interface =
    if is_reference_of name interface
    then name ++ (codes " is needed, because " ++ (interface_text interface ++ codes " is claimed"))
    else name ++ (codes " claims " ++ (interface_text interface ++ codes ", whose controller would not be active"))

-- what would mend it
abbrev pub missing_mend : List ℕ → IfaceName → List ℕ
missing_mend name interface =
    if is_reference_of name interface
    then codes "deactivate the controller that claims " ++ interface_text interface ++ codes ", too"
    else codes "have the controller of "
    ++ (interface_text interface ++ (codes " active whenever " ++ (name ++ codes " is")))

-- what speaks against a name
abbrev pub cause_words : List ℕ → Cause → List ℕ
cause_words name cause.NoGroup = codes "no group " ++ name ++ codes " is described"
cause_words name cause.Unknown = name ++ codes " is not there"
cause_words name cause.Twice = name ++ codes " is named twice in one list"
cause_words name cause.NotActive = name ++ codes " is not active"
cause_words name cause.NotConfigured = name ++ codes " is not configured"
cause_words name cause.AlreadyActive = name ++ codes " is active already"
cause_words name (cause.MissingFollower interface) = missing_words name interface
cause_words name (cause.Unavailable interface) =
    name ++ codes " needs " ++ interface_text interface ++ codes ", which is not available"
cause_words name (cause.Conflict interface owner) =
    name ++ (codes " claims " ++ (interface_text interface ++ (codes ", which " ++ (owner ++ codes " claims, too"))))
cause_words name (cause.ModeRefused joint) = name ++ (codes " would have " ++ (joint ++ codes " driven in two modes"))
cause_words name cause.NotReady = name ++ codes " is not ready"
cause_words name cause.NoSuchMove = name ++ codes " cannot go there"
cause_words name (cause.InUse controller) = name ++ codes " is in use by " ++ controller

-- what would mend it
abbrev pub cause_mend : List ℕ → Cause → List ℕ
cause_mend name cause.NoGroup = codes "describe the group " ++ name ++ codes ", or name a controller without an @"
cause_mend name cause.Unknown = codes "name a controller that is loaded, or a component that the document describes"
cause_mend name cause.Twice = codes "name " ++ name ++ codes " once in each list"
cause_mend name cause.NotActive = codes "leave " ++ name ++ codes " off the list to deactivate"
cause_mend name cause.NotConfigured = codes "configure " ++ name ++ codes " first"
cause_mend name cause.AlreadyActive = codes "leave " ++ name ++ codes " off the list to activate"
cause_mend name (cause.MissingFollower interface) = missing_mend name interface
cause_mend name (cause.Unavailable interface) =
    codes "bring the component of " ++ interface_text interface
    ++ codes " to inactive or active first, if it is not finalized"
cause_mend name (cause.Conflict interface owner) =
    codes "have only one of " ++ (name ++ (codes " and " ++ (owner ++ codes " active at a time")))
cause_mend name (cause.ModeRefused joint) =
    codes "have only one command interface of " ++ joint ++ codes " claimed at a time"
cause_mend name cause.NotReady = codes "ask for " ++ name ++ codes " again in a later cycle"
cause_mend name cause.NoSuchMove = codes "leave " ++ name ++ codes " as it is, because it is finalized"
cause_mend name (cause.InUse controller) = codes "deactivate " ++ controller ++ codes " first"

-- What would mend that a fallback was left out, which no session asked for.
abbrev pub fallback_mend : List ℕ → Cause → List ℕ
fallback_mend name cause.Unknown = codes "load and configure " ++ name ++ codes " first"
fallback_mend name cause.Twice = codes "nothing, " ++ name ++ codes " is asked for once"
fallback_mend name cause.AlreadyActive = codes "nothing, " ++ name ++ codes " goes on"
fallback_mend name cause = cause_mend name cause

-- ---- Failures and stops

-- what failed in a cycle
abbrev pub failure_words : Failure → List ℕ
failure_words failure.Update = codes "its update failed"
failure_words failure.Read = codes "its read failed"
failure_words failure.Write = codes "its write failed"

-- What would mend it: the document lists the cycles in which something fails.
abbrev pub failure_mend : Failure → List ℕ
failure_mend failure.Update = codes "take the cycle out of its fail_update in the document"
failure_mend failure.Read = codes "take the cycle out of its fail_read in the document"
failure_mend failure.Write = codes "take the cycle out of its fail_write in the document"

-- why a controller was stopped, and because of whom
abbrev pub stop_words : StopKind → List ℕ → List ℕ
stop_words stop.Update because_of = codes "its update failed"
stop_words stop.Component because_of = codes "it uses " ++ because_of ++ codes ", which failed"
stop_words stop.Finalized because_of = codes "it uses " ++ because_of ++ codes ", which failed and stays finalized"
stop_words stop.Follower because_of =
    codes "it claims a reference of " ++ because_of ++ codes ", which was stopped"

-- what would mend it
abbrev pub stop_mend : List ℕ → StopKind → List ℕ → List ℕ
stop_mend name stop.Update because_of = codes "activate " ++ name ++ codes " again"
stop_mend name stop.Component because_of =
    codes "bring " ++ (because_of ++ (codes " to active, then activate " ++ (name ++ codes " again")))
stop_mend name stop.Finalized because_of =
    codes "set on_error of " ++ because_of ++ codes " to unconfigured in the document"
stop_mend name stop.Follower because_of =
    codes "activate " ++ (because_of ++ (codes " and " ++ (name ++ codes " again in one switch")))
