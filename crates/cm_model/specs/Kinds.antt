-- The kinds of controllers, by their parameters: what each has, with which parameters it is configured, and which mail
-- it takes.
use Rattle.std.specs.Prelude.{◌≡◌, ℕ, ℤ, Bool, true, false, not, ◌&&◌, ◌==◌, List, length, Option, Some, None}
use Rattle.std.specs.List.{list_all}
use Rattle.cm_document.specs.Links.{exports_any}
use Rattle.cm_document.specs.Params.{kind_of, exports_of, limits_at, may_carry, shape_of}
use Rattle.cm_document.specs.Valid.{is_bounded, claims_fit}
use Rattle.cm_document.specs.declared.call.Mail.{Mail}
use Rattle.cm_document.specs.declared.call.Mail.TheVariants.{Values, Points}
use Rattle.cm_document.specs.declared.description.CtlKind.{CtlKind}
use Rattle.cm_document.specs.declared.description.CtlKind.TheVariants as kind
use Rattle.cm_document.specs.declared.description.Params.{Params}
use Rattle.cm_document.specs.declared.description.Params.TheVariants.{Trajectory, Broadcaster, Mock}
use Rattle.cm_model.specs.Components.{is_listed}

-- ---- What a controller has

-- it exports references, and so can be chained: another controller may set them
abbrev pub has_references : Params → Bool
has_references params = exports_any (exports_of params)

-- a controller of this kind publishes what it reads
abbrev pub publishes : CtlKind → Bool
publishes kind.Broadcaster = true
publishes _ = false

-- a controller of this kind is led through points in time
abbrev pub follows_points : CtlKind → Bool
follows_points kind.Trajectory = true
follows_points _ = false

-- so many states are as many as it reads
abbrev pub AreItsReads : Option ℕ → ℕ → Type 0
AreItsReads None count = Unit {0}
AreItsReads (Some reads) count = count ≡ reads

-- ---- What it may be configured with

-- none of its limits is below its least
abbrev pub limits_fit : Params → Bool
limits_fit params = list_all is_bounded (limits_at params)

-- The parameters are in the ranges that a description keeps: as many claims as a controller of the kind may have, what
-- it may carry, and the limits.
abbrev pub are_ranged : Params → Bool
are_ranged params = claims_fit params (shape_of params).claims && (may_carry params && limits_fit params)

-- A mock refuses to be configured where its parameters say so. No other kind refuses.
abbrev pub is_refused : Params → Bool
is_refused (Mock outs refuse_config not_ready fail_update) = refuse_config
is_refused _ = false

-- ---- What its parameters say of a cycle

-- A mock is not ready in the cycles that are listed for it. Every other kind always is.
abbrev pub is_ready_in : Params → ℕ → Bool
is_ready_in (Mock outs refuse_config not_ready fail_update) cycle = not (is_listed not_ready cycle)
is_ready_in _ cycle = true

-- The update of a mock gives an error in the cycles that are listed for it. No other update does.
abbrev pub fails_in : Params → ℕ → Bool
fails_in (Mock outs refuse_config not_ready fail_update) cycle = is_listed fail_update cycle
fails_in _ cycle = false

-- ---- What it takes as mail

-- It takes no mail at all: a broadcaster, or a mock without claims.
abbrev pub takes_none : Params → Bool
takes_none (Broadcaster ins) = true
takes_none (Mock outs refuse_config not_ready fail_update) = outs == 0
takes_none _ = false

-- so many values are one for each of its claims
abbrev pub is_for_claims : Params → List ℤ → Bool
is_for_claims params values = length values == (shape_of params).claims

-- Mail fits where it has a value for each claim: a trajectory takes points in time, of which each has them, every other
-- kind a plain list.
abbrev pub takes : Params → Mail → Bool
takes (Trajectory outs) (Points points) = list_all (λ point. is_for_claims (Trajectory outs) point.values) points
takes (Trajectory outs) (Values values) = false
takes params (Points points) = false
takes params (Values values) = not (takes_none params) && is_for_claims params values
