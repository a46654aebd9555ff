-- What the parameters of a controller say of its kind: a row for each kind in each table.
use Rattle.std.specs.Prelude.{◌≡◌, ℕ, ◌-◌, ◌^◌, min, ℤ, pos, Bool, true, false, List, [], ◌∷◌, length, codes, Option}
use Rattle.std.specs.Prelude.{Some, None}
use Rattle.std.specs.Option.{option_map_or}
use Rattle.iface_names.specs.declared.interface.IfaceName.{IfaceName}
use Rattle.iface_names.specs.declared.interface.IfaceName.TheVariants.{Joint, Reference}
use Rattle.iface_names.specs.declared.kind.Kind.{Kind}
use Rattle.iface_names.specs.declared.kind.Kind.TheVariants.{Position, Velocity, Effort}
use Rattle.cm_document.specs.declared.description.CtlKind.{CtlKind}
use Rattle.cm_document.specs.declared.description.CtlKind.TheVariants as kind
use Rattle.cm_document.specs.declared.description.Exports.{Exports}
use Rattle.cm_document.specs.declared.description.Exports.TheVariants.{Nothing, FirstRead, EachClaim}
use Rattle.cm_document.specs.declared.description.KeyAsked.{KeyAsked}
use Rattle.cm_document.specs.declared.description.KeyAsked.TheVariants.{NoKey, Optional, Listed, ListedOrAll}
use Rattle.cm_document.specs.declared.description.Params.{Params}
use Rattle.cm_document.specs.declared.description.Params.TheVariants.{Forward, Passthrough, Pid, Trajectory}
use Rattle.cm_document.specs.declared.description.Params.TheVariants.{Broadcaster, Mock, Transmission, Differential}
use Rattle.cm_document.specs.declared.description.Params.TheVariants.{Limiter}
use Rattle.cm_document.specs.declared.limits.TheConstants.{MOST_CLAIMS_OF_ONE}
use Rattle.cm_document.specs.declared.shape.Shape.{Shape}

-- ---- What interfaces carry

-- the kind of an interface
abbrev pub kind_at : IfaceName → Kind
kind_at (Joint joint kind) = kind
kind_at (Reference controller joint kind) = kind

-- the kind of the first of these, and position if there is none
abbrev pub first_kind : List IfaceName → Kind
first_kind [] = Position
first_kind (interface ∷ others) = kind_at interface

-- positions and velocities are motions, and efforts are not
abbrev pub is_motion : Kind → Bool
is_motion Position = true
is_motion Velocity = true
is_motion Effort = false

-- how many, in 32 bits
abbrev pub count : List IfaceName → ℕ
count interfaces = min (length interfaces) (2 ^ 32 - 1)

-- ---- The tables

-- each kind has parameters of its own
abbrev pub kind_of : Params → CtlKind
kind_of (Forward outs) = kind.Forward
kind_of (Passthrough outs) = kind.Passthrough
kind_of (Pid kp ki kd imax omax) = kind.Pid
kind_of (Trajectory outs) = kind.Trajectory
kind_of (Broadcaster ins) = kind.Broadcaster
kind_of (Mock outs refuse_config not_ready fail_update) = kind.Mock
kind_of (Transmission carried reduction offset) = kind.Transmission
kind_of (Differential carried reduction1 reduction2 offset1 offset2) = kind.Differential
kind_of (Limiter lowest highest vmax amax) = kind.Limiter

-- the two kinds are one
abbrev pub same_controller_kind : CtlKind → CtlKind → Bool
same_controller_kind kind.Forward kind.Forward = true
same_controller_kind kind.Passthrough kind.Passthrough = true
same_controller_kind kind.Pid kind.Pid = true
same_controller_kind kind.Trajectory kind.Trajectory = true
same_controller_kind kind.Broadcaster kind.Broadcaster = true
same_controller_kind kind.Mock kind.Mock = true
same_controller_kind kind.Transmission kind.Transmission = true
same_controller_kind kind.Differential kind.Differential = true
same_controller_kind kind.Limiter kind.Limiter = true
same_controller_kind _ _ = false

-- what a description says at the key of its claims: a broadcaster has no such key, a mock may leave it out
abbrev pub claims_asked : CtlKind → KeyAsked
claims_asked kind.Broadcaster = NoKey
claims_asked kind.Mock = Optional
claims_asked _ = Listed

-- What it says at the key of its reads: a pid, a trajectory and a limiter list them, a broadcaster may say `all`, and a
-- mock may leave the key out. Every other kind has no such key.
abbrev pub reads_asked : CtlKind → KeyAsked
reads_asked kind.Pid = Listed
reads_asked kind.Trajectory = Listed
reads_asked kind.Limiter = Listed
reads_asked kind.Broadcaster = ListedOrAll
reads_asked kind.Mock = Optional
reads_asked _ = NoKey

-- how many claims a controller has at least: a broadcaster has none, a mock may have none, and a differential has two
abbrev pub fewest_claims : Params → ℕ
fewest_claims (Broadcaster ins) = 0
fewest_claims (Mock outs refuse_config not_ready fail_update) = 0
fewest_claims (Differential carried reduction1 reduction2 offset1 offset2) = 2
fewest_claims _ = 1

-- how many claims it has at most: a pid, a transmission and a limiter one, a differential two, a broadcaster none
abbrev pub most_claims : Params → ℕ
most_claims (Pid kp ki kd imax omax) = 1
most_claims (Broadcaster ins) = 0
most_claims (Transmission carried reduction offset) = 1
most_claims (Differential carried reduction1 reduction2 offset1 offset2) = 2
most_claims (Limiter lowest highest vmax amax) = 1
most_claims _ = MOST_CLAIMS_OF_ONE

-- How many reads it has beside so many claims: a pid and a limiter one, a trajectory as many, a broadcaster and a mock
-- any number, every other kind none.
abbrev pub reads_beside : Params → ℕ → Option ℕ
reads_beside (Pid kp ki kd imax omax) claims = Some 1
reads_beside (Trajectory outs) claims = Some claims
reads_beside (Limiter lowest highest vmax amax) claims = Some 1
reads_beside (Broadcaster ins) claims = None
reads_beside (Mock outs refuse_config not_ready fail_update) claims = None
reads_beside _ claims = Some 0

-- how many claims the parameters tell of: those of the other kinds tell of none, because such a kind has its own number
abbrev pub told_claims : Params → Option ℕ
told_claims (Forward outs) = Some outs
told_claims (Passthrough outs) = Some outs
told_claims (Trajectory outs) = Some outs
told_claims (Mock outs refuse_config not_ready fail_update) = Some outs
told_claims _ = None

-- how many reads they tell of
abbrev pub told_reads : Params → Option ℕ
told_reads (Broadcaster ins) = Some ins
told_reads _ = None

-- The kind that each of its claims has: a transmission and a differential claim what they carry, a limiter positions.
-- The claims of every other kind may be of any.
abbrev pub claimed_kind : Params → Option Kind
claimed_kind (Transmission carried reduction offset) = Some carried
claimed_kind (Differential carried reduction1 reduction2 offset1 offset2) = Some carried
claimed_kind (Limiter lowest highest vmax amax) = Some Position
claimed_kind _ = None

-- the kind that each of its reads has: a limiter reads positions, every other kind any
abbrev pub read_kind : Params → Option Kind
read_kind (Limiter lowest highest vmax amax) = Some Position
read_kind _ = None

-- a differential carries positions or velocities, and no effort
abbrev pub may_carry : Params → Bool
may_carry (Differential carried reduction1 reduction2 offset1 offset2) = is_motion carried
may_carry _ = true

-- a number at a key, and the least that it may be
pub record Bounded : Type 0 where
  pub key : List ℕ
  pub least : ℤ
  pub number : ℤ

abbrev pub at_least : List ℕ → ℤ → ℤ → Bounded
at_least key least number = record { key = key; least = least; number = number }

-- The numbers that have a least: no limit of a pid or a limiter is negative, the highest position of a limiter is not
-- below its lowest, and a reduction is above 0.
abbrev pub limits_at : Params → List Bounded
limits_at (Pid kp ki kd imax omax) = at_least (codes "imax") (pos 0) imax ∷ at_least (codes "omax") (pos 0) omax ∷ []
limits_at (Transmission carried reduction offset) = at_least (codes "reduction") (pos 1) reduction ∷ []
limits_at (Differential carried reduction1 reduction2 offset1 offset2) =
    at_least (codes "reduction1") (pos 1) reduction1 ∷ at_least (codes "reduction2") (pos 1) reduction2 ∷ []
limits_at (Limiter lowest highest vmax amax) =
    at_least (codes "max") lowest highest
    ∷ at_least (codes "vmax") (pos 0) vmax
    ∷ at_least (codes "amax") (pos 0) amax
    ∷ []
limits_at _ = []

-- Which references a controller exports: a passthrough, a transmission, a differential and a limiter one for each
-- claim, a pid one for what it reads first, every other kind none.
abbrev pub exports_of : Params → Exports
exports_of (Passthrough outs) = EachClaim
exports_of (Transmission carried reduction offset) = EachClaim
exports_of (Differential carried reduction1 reduction2 offset1 offset2) = EachClaim
exports_of (Limiter lowest highest vmax amax) = EachClaim
exports_of (Pid kp ki kd imax omax) = FirstRead
exports_of _ = Nothing

-- the parameters of a kind, with what these claims and these reads tell
abbrev pub made_of : Params → List IfaceName → List IfaceName → Params
made_of (Forward outs) claims reads = Forward (count claims)
made_of (Passthrough outs) claims reads = Passthrough (count claims)
made_of (Trajectory outs) claims reads = Trajectory (count claims)
made_of (Broadcaster ins) claims reads = Broadcaster (count reads)
made_of (Mock outs refuse_config not_ready fail_update) claims reads =
    Mock (count claims) refuse_config not_ready fail_update
made_of (Transmission carried reduction offset) claims reads = Transmission (first_kind claims) reduction offset
made_of (Differential carried reduction1 reduction2 offset1 offset2) claims reads =
    Differential (first_kind claims) reduction1 reduction2 offset1 offset2
made_of own claims reads = own

-- ---- The numbers at their keys

-- the quantities of a controller, each at its key
abbrev pub quantities : Params → List (List ℕ × ℤ)
quantities (Pid kp ki kd imax omax) =
    (codes "kp", kp)
    ∷ (codes "ki", ki)
    ∷ (codes "kd", kd)
    ∷ (codes "imax", imax)
    ∷ (codes "omax", omax)
    ∷ []
quantities (Transmission carried reduction offset) = (codes "reduction", reduction) ∷ (codes "offset", offset) ∷ []
quantities (Differential carried reduction1 reduction2 offset1 offset2) =
    (codes "reduction1", reduction1)
    ∷ (codes "reduction2", reduction2)
    ∷ (codes "offset1", offset1)
    ∷ (codes "offset2", offset2)
    ∷ []
quantities (Limiter lowest highest vmax amax) =
    (codes "min", lowest) ∷ (codes "max", highest) ∷ (codes "vmax", vmax) ∷ (codes "amax", amax) ∷ []
quantities _ = []

-- what is so or not, which a mock alone says
abbrev pub flags : Params → List (List ℕ × Bool)
flags (Mock outs refuse_config not_ready fail_update) = (codes "refuse_config", refuse_config) ∷ []
flags _ = []

-- the lists of cycles, which a mock alone has
abbrev pub cycle_lists : Params → List (List ℕ × List ℕ)
cycle_lists (Mock outs refuse_config not_ready fail_update) =
    (codes "not_ready", not_ready) ∷ (codes "fail_update", fail_update) ∷ []
cycle_lists _ = []

-- ---- What is read off

-- how many claims a controller has: as many as it tells of, else as many as its kind has
abbrev pub claims_of : Params → ℕ
claims_of params = option_map_or (λ claims. claims) (told_claims params) (most_claims params)

-- how many references it exports with so many claims
abbrev pub references_by : Exports → ℕ → ℕ
references_by Nothing claims = 0
references_by FirstRead claims = 1
references_by EachClaim claims = claims

-- how many interfaces a controller has that claims so many and tells of so many reads
abbrev pub shape_with : ℕ → Option ℕ → Params → Shape
shape_with claims (Some reads) params = record {
  claims = claims;
  reads = Some reads;
  references = references_by (exports_of params) claims;
}
shape_with claims None params = record {
  claims = claims;
  reads = reads_beside params claims;
  references = references_by (exports_of params) claims;
}

-- How many interfaces a controller claims, reads and exports. A mock reads what it likes.
abbrev pub shape_of : Params → Shape
shape_of params = shape_with (claims_of params) (told_reads params) params

-- the parameters tell of these claims and these reads what is so
abbrev pub AreMadeOf : Params → List IfaceName → List IfaceName → Type 0
AreMadeOf params claims reads = made_of params claims reads ≡ params
