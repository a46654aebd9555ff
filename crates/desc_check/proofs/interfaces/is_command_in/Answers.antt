use Rattle.std.proofs.Common.{sym, ◌∙◌, rules, tests}
use Rattle.std.proofs.lemmas.Iterator.{YieldsList-from_slice}
use Rattle.std.proofs.lemmas.Iterator.Search.{any_from_yields_List}
use Rattle.iface_names.specs.Interfaces.{same_interface}
use Rattle.cm_document.specs.Links.{commands_of_joint}
use Rattle.cm_document.specs.Links.{is_among}
use Rattle.sequence.proofs.ListLemmas.{any_flat_map}
use Rattle.desc_check.proofs.interfaces.is_command_in.Goals as goal

pub returns : goal.returns
returns c =
    any_from_yields_List (λ x. is_among c.args.interface.now (commands_of_joint x)) _ _ _ c.any.ensures.ran
    (YieldsList-from_slice c.args.joints.now cc) (λ x b q k. search (rules, tests))
    ∙ sym (any_flat_map (same_interface c.args.interface.now) (λ x. commands_of_joint x) c.args.joints.now)
