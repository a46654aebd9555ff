use Rattle.std.proofs.Common.{◌≡◌, drop}
use Rattle.cm_model.specs.Faults.{first_of}
use Rattle.cm_hardware.specs.Committed.{serial_in}
use Rattle.cm_hardware.proofs.commit.first_active.Given as goal

-- the first of those that are left is the first of all
abbrev pub invariant-loop-place : goal.invariant-loop-place
invariant-loop-place l =
    first_of (serial_in l.active) (drop l.place-index l.controllers) ≡ first_of (serial_in l.active) l.controllers
