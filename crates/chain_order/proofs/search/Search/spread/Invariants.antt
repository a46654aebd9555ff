use Rattle.std.proofs.Common.{take}
use Rattle.chain_order.specs.Search.{Spreads}
use Rattle.chain_order.proofs.search.Search.spread.Given as goal

-- the places so far were come to
abbrev pub invariant-loop-place : goal.invariant-loop-place
invariant-loop-place l = Spreads l.fn.self l.self (take l.place-index l.places)
