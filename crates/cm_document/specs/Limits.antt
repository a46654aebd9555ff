-- How much a description may have, by its version.
use Rattle.std.specs.Prelude.{ℕ, Bool, ◌||◌, ◌==◌, if◌then◌else◌}
use Rattle.cm_document.specs.declared.limits.VersionLimits.{VersionLimits}
use Rattle.cm_document.specs.declared.limits.TheConstants.{FIRST_VERSION, SECOND_VERSION, LIMITS_1, LIMITS_2}

-- there is such a version
abbrev pub is_version : ℕ → Bool
is_version version = version == FIRST_VERSION || version == SECOND_VERSION

-- Counts are checked before the version is: one that there is not has the limits of the first.
abbrev pub limits_of : ℕ → VersionLimits
limits_of version = if version == SECOND_VERSION then LIMITS_2 else LIMITS_1
