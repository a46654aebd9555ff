use Rattle.std.proofs.Common.{Err, inr, sym, ap, ◌∙◌}
use Rattle.iface_names.specs.Names.{same_name}
use Rattle.cm_document.specs.declared.faults.CheckFault.TheVariants.{NameTwice}
use Rattle.desc_check.proofs.NameLemmas.{apart_none, apart_some}
use Rattle.desc_check.proofs.names.names_apart.Goals as goal

pub returns-in_ok-format-in-Some : goal.returns-in_ok-format-in-Some
returns-in_ok-format-in-Some c =
    inr (apart_some same_name (λ name. name) (λ r. r.now) c.args.names.now c.in-Some.name.now
    (sym (rw c.in-Some.is at c.repeated.ensures))
    ∙ ap (λ text. Err (NameTwice text)) (sym (c.from_string.ensures ∙ c.in_ok-format-in-Some.ensures.ok)))

pub returns-in-None : goal.returns-in-None
returns-in-None c =
    apart_none same_name (λ name. name) (λ r. r.now) c.args.names.now (sym (rw c.in-None.is at c.repeated.ensures))
