use Rattle.std.proofs.Common.{◌≡◌, List, [], refl, subst, ◌∙◌}
use Rattle.sequence.specs.Answers.{Answers}
use Rattle.toml.specs.View.{table_view}
use Rattle.iface_names.specs.declared.interface.IfaceName.{IfaceName}
use Rattle.cm_document.specs.Described.{controller_table}
use Rattle.cm_document.specs.Tables.{none_unlisted, unlisted}
use Rattle.cm_document.specs.declared.description.CtlKind.{CtlKind}
use Rattle.cm_document.specs.declared.description.CtlKind.TheVariants.{Forward}
use Rattle.cm_document.specs.declared.faults.DescFault.TheVariants.{Memory}
use Rattle.desc_text.proofs.own_keys.none_but_listed.Goals as goal

-- a type has the same keys, whatever `all` stands for
same_keys : (states : List IfaceName) (kind : CtlKind)
    → (controller_table [] kind).keys ≡ (controller_table states kind).keys
unfolding controller_table
same_keys states Forward = refl
same_keys states _ = refl

pub returns : goal.returns
returns c = λ states.
    subst (λ keys. Answers Memory
    (none_unlisted c.args.keys.now.prefix.now (unlisted keys (table_view c.args.keys.now.table.now))) c.none_but.result)
    (c.keys_of.ensures ∙ same_keys states c.args.kind) c.none_but.ensures
