-- Counts against the limits of a version.
use Rattle.std.proofs.Common.{◌≡◌, ℕ, ◌<◌, ◌^◌, ◌==◌, Ok, arith}
use Rattle.cm_document.specs.Limits.{limits_of}
use Rattle.cm_document.specs.Valid.{limited}
use Rattle.cm_document.specs.declared.faults.What.TheVariants.{Joints, States, Commands, Controllers}
use Rattle.cm_document.specs.declared.faults.What.TheVariants.{References, Claims, Reads}
use Rattle.cm_document.specs.declared.limits.TheConstants.{SECOND_VERSION}
use Rattle.cm_document.proofs.ValidParts.{within_limit, most}
use Rattle.desc_check.proofs.CountLemmas.{limited_counted}
use Rattle.desc_check.specs.Counts.{counted}

-- A limit of a version is passed by a count where it is passed by the number: of joints,
pub joints_counted : (version n : ℕ)
    → limited Joints (counted n) (limits_of version).joints ≡ limited Joints n (limits_of version).joints
joints_counted version n =
    let all = most (version == SECOND_VERSION) in
    limited_counted Joints n (limits_of version).joints (omega (arith, all.joints))

-- of states,
pub states_counted : (version n : ℕ)
    → limited States (counted n) (limits_of version).states ≡ limited States n (limits_of version).states
states_counted version n =
    let all = most (version == SECOND_VERSION) in
    limited_counted States n (limits_of version).states (omega (arith, all.states))

-- of commands,
pub commands_counted : (version n : ℕ)
    → limited Commands (counted n) (limits_of version).commands ≡ limited Commands n (limits_of version).commands
commands_counted version n =
    let all = most (version == SECOND_VERSION) in
    limited_counted Commands n (limits_of version).commands (omega (arith, all.commands))

-- of references,
pub references_counted : (version n : ℕ)
    → limited References (counted n) (limits_of version).references
    ≡ limited References n (limits_of version).references
references_counted version n =
    let all = most (version == SECOND_VERSION) in
    limited_counted References n (limits_of version).references (omega (arith, all.references))

-- of claims
pub claims_counted : (version n : ℕ)
    → limited Claims (counted n) (limits_of version).claims ≡ limited Claims n (limits_of version).claims
claims_counted version n =
    let all = most (version == SECOND_VERSION) in
    limited_counted Claims n (limits_of version).claims (omega (arith, all.claims))

-- and of reads.
pub reads_counted : (version n : ℕ)
    → limited Reads (counted n) (limits_of version).reads ≡ limited Reads n (limits_of version).reads
reads_counted version n =
    let all = most (version == SECOND_VERSION) in
    limited_counted Reads n (limits_of version).reads (omega (arith, all.reads))

-- controllers within the limit of a version are few
pub few_controllers : (version n : ℕ) → limited Controllers n (limits_of version).controllers ≡ Ok tt → n < 2 ^ 32
few_controllers version n within =
    let all = most (version == SECOND_VERSION) in
    omega (arith, within_limit _ _ _ within, all.controllers)
