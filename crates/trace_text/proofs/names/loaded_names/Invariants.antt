use Rattle.std.proofs.Common.{◌≡◌, ◌++◌, drop, map}
use Rattle.cm_model.specs.Trace.{names_of}
use Rattle.trace_text.proofs.names.loaded_names.Given as goal

-- the names so far, and those of what is left, are all names
abbrev pub invariant-loop-entry : goal.invariant-loop-entry
invariant-loop-entry l = map (λ r. r.now) l.names.items ++ names_of (drop l.entry-index l.history) ≡ names_of l.history
