use Rattle.std.proofs.Common.{sym, ◌∙◌, rules}
use Rattle.toml.proofs.Views.{view-Array}
use Rattle.desc_text.proofs.RowLemmas.{some_items}
use Rattle.desc_text.proofs.print.rows.put_list.Goals as goal

pub returns : goal.returns
returns c =
    rw (some_items c.args.list.items c.args.list.len (search rules) (sym c.is_empty.ensures ∙ c.if-is_empty.false))
    (rw (view-Array c.args.list) at c.put.ensures)
