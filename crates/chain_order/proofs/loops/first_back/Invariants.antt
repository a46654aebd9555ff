use Rattle.chain_order.specs.Ways.{NoneBefore}
use Rattle.chain_order.proofs.loops.first_back.Given as goal

-- no place so far leads back to itself
abbrev pub invariant-loop-place : goal.invariant-loop-place
invariant-loop-place l = NoneBefore l.links l.place
