use Rattle.std.proofs.Common.{◌≡◌, map, take}
use Rattle.std.specs.Prelude.{filter}
use Rattle.cm_model.specs.Components.{is_listed}
use Rattle.cm_model.specs.Scene.{member}
use Rattle.request_plan.proofs.switches.of_serials.Given as goal

-- those so far
abbrev pub invariant-loop-seen : goal.invariant-loop-seen
invariant-loop-seen l =
    l.list.items ≡ map member (filter (λ s. is_listed l.serials s.serial) (take l.seen-index l.loaded))
