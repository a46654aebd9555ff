use Rattle.std.proofs.Common.{◌≡◌, [], drop}
use Rattle.toml.specs.View.{items_view}
use Rattle.cm_document.specs.Forms.{items_from}
use Rattle.desc_text.proofs.forms.each_item.Given as goal

-- what is left, read after those found, gives what the whole list gives
abbrev pub invariant-loop-index : goal.invariant-loop-index
invariant-loop-index g l =
    items_from g.R.Rule.rule l.path l.index (items_view (drop l.index l.items)) l.found
    ≡ items_from g.R.Rule.rule l.path 0 (items_view l.items) []
