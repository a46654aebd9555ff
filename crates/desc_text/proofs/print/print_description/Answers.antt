use Rattle.std.proofs.Common.{string_bytes}
use Rattle.std.proofs.lemmas.Str.{IsUtf8-string_bytes}
use Rattle.toml.specs.View.{table_view}
use Rattle.desc_text.proofs.PrintLemmas.{printed_back}
use Rattle.desc_text.proofs.print.print_description.Goals as goal

pub returns-in-Ok : goal.returns-in-Ok
returns-in-Ok c =
    rw c.into_bytes.ensures.value
    (printed_back c.args.description.now c.requires (string_bytes c.in-Ok.text) (table_view c.in_ok-tree.tree)
    (IsUtf8-string_bytes c.in-Ok.text) c.in_ok-tree.ensures
    c.in-Ok.ensures.reads_back)
