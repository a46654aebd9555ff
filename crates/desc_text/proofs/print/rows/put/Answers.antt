use Rattle.std.proofs.Common.{ap, ◌∙◌}
use Rattle.toml.specs.View.{view, members_view}
use Rattle.desc_text.specs.Printed.{with_member}
use Rattle.desc_text.proofs.RowLemmas.{members_of_insert}
use Rattle.desc_text.proofs.print.rows.put.Goals as goal

pub returns : goal.returns
returns c =
    ap members_view c.in_ok-insert.ensures.entries
    ∙ members_of_insert c.args.made.now.entries c.in_ok-key.key c.args.value
    ∙ ap (λ key. with_member key (view c.args.value) (members_view c.args.made.now.entries)) c.in_ok-key.ensures.ok
