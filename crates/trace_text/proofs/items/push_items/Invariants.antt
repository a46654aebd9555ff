use Rattle.std.proofs.Common.{◌≡◌, ◌++◌, drop, map}
use Rattle.std.specs.Prelude.{flat_map, codes}
use Rattle.cm_model.specs.Trace.{joined}
use Rattle.trace_text.proofs.items.push_items.Given as goal

-- the text so far, and the items that are left, are all items
abbrev pub invariant-loop-item : goal.invariant-loop-item
invariant-loop-item g l =
    l.text ++ flat_map (λ y. codes "; " ++ y) (map (g.T.Item.item_text l.names) (drop l.item-index l.others))
    ≡ l.fn.text ++ joined (map (g.T.Item.item_text l.names) l.fn.items)
