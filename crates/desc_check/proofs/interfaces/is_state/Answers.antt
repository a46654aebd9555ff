use Rattle.std.proofs.Common.{sym, ◌∙◌, rules, tests}
use Rattle.std.specs.Prelude.{flat_map}
use Rattle.std.proofs.lemmas.Iterator.{YieldsList-from_slice}
use Rattle.std.proofs.lemmas.Iterator.Search.{any_from_yields_List}
use Rattle.iface_names.specs.Interfaces.{same_interface}
use Rattle.cm_document.specs.Described.{states_of_joint}
use Rattle.cm_document.specs.Links.{is_among}
use Rattle.sequence.proofs.ListLemmas.{any_flat_map}
use Rattle.desc_check.proofs.interfaces.is_state.Goals as goal

pub returns : goal.returns
returns c =
    any_from_yields_List (λ x. is_among c.args.interface.now (flat_map states_of_joint x.joints)) _ _ _
    c.any.ensures.ran (YieldsList-from_slice c.args.components.now cc) (λ x b q k. search (rules, tests))
    ∙ sym (any_flat_map (same_interface c.args.interface.now) (λ x. flat_map states_of_joint x.joints)
    c.args.components.now)
