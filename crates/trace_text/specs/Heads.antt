-- What the items of a cycle begin with: each kind with the name of what it is of.
use Rattle.std.specs.Prelude.{ℕ, List, ◌++◌, codes}

-- an update that computed, as `run fwd ok`
abbrev pub run_head : List ℕ → List ℕ
run_head name = codes "run " ++ name ++ codes " ok"

-- a body, as `joint j1`
abbrev pub body_head : List ℕ → List ℕ
body_head joint = codes "joint " ++ joint
