use Rattle.std.proofs.Common.{◌≡◌, ◌++◌, drop, map, string_bytes}
use Rattle.trace_text.specs.Heads.{body_head}
use Rattle.trace_text.proofs.names.body_heads.Given as goal

-- the texts so far, and those of what is left, are all texts
abbrev pub invariant-loop-name : goal.invariant-loop-name
invariant-loop-name l =
    map string_bytes l.heads.items ++ map body_head (map (λ r. r.now) (drop l.name-index l.names))
    ≡ map body_head (map (λ r. r.now) l.names)
