-- How causes and outcomes print.
use Rattle.std.specs.Prelude.{ℕ, List, [], ◌∷◌, ◌++◌, flat_map, codes, decimal, Option, Some, None}
use Rattle.iface_names.specs.Interfaces.{interface_text}
use Rattle.cm_model.specs.declared.cause.Cause.{Cause}
use Rattle.cm_model.specs.declared.cause.Cause.TheVariants as cause
use Rattle.cm_model.specs.declared.cause.Decision.{Decision}
use Rattle.cm_model.specs.declared.cause.Dropped.{Dropped}
use Rattle.cm_model.specs.declared.cause.Outcome.{Outcome}
use Rattle.cm_model.specs.declared.cause.Outcome.TheVariants as outcome

-- a cause: its word, and the interface, joint or controller that belongs to it
abbrev pub cause_text : Cause → List ℕ
cause_text cause.NoGroup = codes "no_group"
cause_text cause.Unknown = codes "unknown"
cause_text cause.Twice = codes "twice"
cause_text cause.NotActive = codes "not_active"
cause_text cause.NotConfigured = codes "not_configured"
cause_text cause.AlreadyActive = codes "already_active"
cause_text (cause.MissingFollower interface) = codes "missing_follower " ++ interface_text interface
cause_text (cause.Unavailable interface) = codes "unavailable " ++ interface_text interface
cause_text (cause.Conflict interface owner) = codes "conflict " ++ interface_text interface ++ codes " " ++ owner
cause_text (cause.ModeRefused joint) = codes "mode_refused " ++ joint
cause_text cause.NotReady = codes "not_ready"
cause_text cause.NoSuchMove = codes "no_such_move"
cause_text (cause.InUse controller) = codes "in_use " ++ controller

-- a dropped name, as `fwd twice`
abbrev pub dropped_text : Dropped → List ℕ
dropped_text dropped = dropped.name ++ codes " " ++ cause_text dropped.cause

-- what was dropped, where anything was: each name with its cause, joined by `, `
abbrev pub drops_text : List Dropped → List ℕ
drops_text [] = []
drops_text (dropped ∷ others) =
    codes " dropped " ++ dropped_text dropped ++ flat_map (λ other. codes ", " ++ dropped_text other) others

-- what became of a request
abbrev pub outcome_text : Outcome → List ℕ
outcome_text (outcome.Done dropped) = codes "done" ++ drops_text dropped
outcome_text (outcome.Refused name cause) = codes "refused " ++ name ++ codes " " ++ cause_text cause
outcome_text outcome.LoopEnded = codes "loop_ended"

-- what was decided: a request by its ticket, or those that stand in
abbrev pub decided_text : Option ℕ → List ℕ
decided_text (Some ticket) = decimal ticket
decided_text None = codes "fallback"

-- a decision, as `0 done` or `fallback done`
abbrev pub decision_text : Decision → List ℕ
decision_text decision = decided_text decision.ticket ++ codes " " ++ outcome_text decision.outcome
