use Rattle.std.proofs.Common.{rules}
use Rattle.toml.specs.View.{table_view}
use Rattle.desc_text.proofs.TreeLemmas.{second_read}
use Rattle.desc_text.proofs.read.second.Goals as goal

pub returns-in_err-controllers : goal.returns-in_err-controllers
returns-in_err-controllers c =
    rw (second_read (table_view c.args.table.now) c.in_ok-version.version c.in_ok-update_rate.update_rate
    c.in_ok-cycles.cycles c.in_ok-components.components c.as_slice.result.now
    (search rules) (search rules) (search rules) (search rules) (search rules) (search rules)) (search rules)

pub returns-in_err-groups : goal.returns-in_err-groups
returns-in_err-groups c =
    rw (second_read (table_view c.args.table.now) c.in_ok-version.version c.in_ok-update_rate.update_rate
    c.in_ok-cycles.cycles c.in_ok-components.components c.as_slice.result.now
    (search rules) (search rules) (search rules) (search rules) (search rules) (search rules)) (search rules)

pub returns : goal.returns
returns c =
    rw (second_read (table_view c.args.table.now) c.in_ok-version.version c.in_ok-update_rate.update_rate
    c.in_ok-cycles.cycles c.in_ok-components.components c.as_slice.result.now
    (search rules) (search rules) (search rules) (search rules) (search rules) (search rules)) (search rules)
