use Rattle.std.proofs.Common.{◌≡◌, ◌++◌, drop}
use Rattle.cm_document.specs.Described.{states_of}
use Rattle.desc_text.proofs.states.states_of.Given as goal

-- the states so far, and those of the components that are left, are all
abbrev pub invariant-loop-component : goal.invariant-loop-component
invariant-loop-component l = l.states ++ states_of (drop l.component-index l.components) ≡ states_of l.components
