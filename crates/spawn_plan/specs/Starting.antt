-- The script that starts wanted controllers.
use Rattle.std.specs.Prelude.{ℕ, zero, suc, true, List, [], ◌∷◌, ◌++◌, map, codes}
use Rattle.cm_document.specs.declared.call.Call.{Call}
use Rattle.cm_document.specs.declared.call.Call.TheVariants.{Load, Configure, Switch, Await}
use Rattle.cm_document.specs.declared.call.Pick.TheVariants.{One}
use Rattle.cm_document.specs.declared.script.Script.{Script}

-- to wait for this cycle; for the first nobody waits
abbrev pub waiting_for : ℕ → List Call
waiting_for zero = []
waiting_for (suc n) = Await (suc n) ∷ []

-- one strict switch of all of them
abbrev pub starting_all : List (List ℕ) → Call
starting_all wanted = Switch (record { on = map One wanted; off = []; strict = true })

-- All are loaded, and then configured, in the wanted order; the cycle is awaited; and then all are started. If nobody
-- is wanted, nothing is done.
abbrev pub start_lines : List (List ℕ) → ℕ → List Call
start_lines [] cycle = []
start_lines (name ∷ names) cycle =
    map Load (name ∷ names) ++ map Configure (name ∷ names) ++ waiting_for cycle ++ starting_all (name ∷ names) ∷ []

-- the script of the one session that does this
abbrev pub starting : List (List ℕ) → ℕ → Script
starting wanted cycle = record {
  sessions = record { name = codes "spawner"; lines = start_lines wanted cycle } ∷ [];
  schedule = [];
}
