use Rattle.iface_names.proofs.NameLemmas.{is_name-IsUtf8}
use Rattle.iface_names.proofs.name.Name.read.Goals as goal

-- a name is text, so it is not refused as none
pub returns-in-Err : goal.returns-in-Err
returns-in-Err c =
    let named = c.if-not-follows_the_rule.false in
    absurd (c.in-Err.ensures.cases.0 (is_name-IsUtf8 c.args.text.now (cc)))
