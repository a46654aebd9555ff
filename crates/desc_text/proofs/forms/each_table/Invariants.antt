use Rattle.std.proofs.Common.{◌≡◌, [], drop}
use Rattle.toml.specs.View.{items_view}
use Rattle.cm_document.specs.Forms.{tables_from}
use Rattle.desc_text.proofs.forms.each_table.Given as goal

-- what is left, read after those found, gives what the whole array gives
abbrev pub invariant-loop-index : goal.invariant-loop-index
invariant-loop-index g l =
    tables_from (g.T.TableForm.table_form l.form) l.path l.index (items_view (drop l.index l.items)) l.found
    ≡ tables_from (g.T.TableForm.table_form l.form) l.path 0 (items_view l.items) []
