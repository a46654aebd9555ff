-- What worked rows of switches are written with: loaded controllers as a switch is decided by them, requests, and
-- plans as text.
use Rattle.std.proofs.Common.{ℕ, true, false, List, ◌++◌, map}
use Rattle.std.specs.Prelude.{codes, decimal, flat_map}
use Rattle.cm_document.specs.declared.call.Pick.TheVariants.{One}
use Rattle.cm_document.specs.declared.call.SwitchRequest.{SwitchRequest}
use Rattle.cm_document.specs.declared.life.Life.TheVariants.{Unconfigured, Inactive, Active}
use Rattle.cm_model.specs.Causes.{outcome_text}
use Rattle.cm_model.specs.declared.planned.Planned.{Planned}
use Rattle.cm_model.specs.declared.seen.Seen.{Seen}

-- A loaded controller of this serial and place that is inactive, one that is active, one that is active below
-- another, one that is unconfigured, and one that is not ready.
abbrev pub inactive : ℕ → ℕ → Seen
inactive serial place = record { serial = serial; place = place; life = Inactive; chained = false; ready = true }

abbrev pub running : ℕ → ℕ → Seen
running serial place = record { serial = serial; place = place; life = Active; chained = false; ready = true }

abbrev pub chained : ℕ → ℕ → Seen
chained serial place = record { serial = serial; place = place; life = Active; chained = true; ready = true }

abbrev pub fresh : ℕ → ℕ → Seen
fresh serial place = record { serial = serial; place = place; life = Unconfigured; chained = false; ready = true }

abbrev pub unready : ℕ → ℕ → Seen
unready serial place = record { serial = serial; place = place; life = Inactive; chained = false; ready = false }

-- a strict switch of controllers, and one of best effort
abbrev pub strictly : List (List ℕ) → List (List ℕ) → SwitchRequest
strictly off on = record { on = map One on; off = map One off; strict = true }

abbrev pub at_best : List (List ℕ) → List (List ℕ) → SwitchRequest
at_best off on = record { on = map One on; off = map One off; strict = false }

-- a plan as text: the outcome, the serials to deactivate, and those to activate
abbrev pub plan_text : Planned → List ℕ
plan_text plan = outcome_text plan.outcome ++ codes ";" ++ flat_map (λ n. codes " -" ++ decimal n) plan.off
    ++ codes ";" ++ flat_map (λ n. codes " +" ++ decimal n) plan.on
