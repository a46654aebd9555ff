use Rattle.std.proofs.Common.{append_assoc, map}
use Rattle.iface_names.specs.Interfaces.{interface_text}
use Rattle.cm_document.specs.Described.{states_of}
use Rattle.cm_document.specs.Links.{commands_of, references_of}
use Rattle.trace_text.proofs.NameLemmas.{all_interfaces}
use Rattle.trace_text.proofs.interfaces.interface_texts.Goals as goal

-- the three parts are all interfaces
pub returns : goal.returns
returns c =
    rw (
      c.in_ok-push_references.ensures,
      c.in_ok-push_components-2.ensures,
      c.in_ok-push_components.ensures,
      c.new-texts.ensures.items,
      c.as_slice-components.ensures,
      c.as_slice.ensures,
      all_interfaces c.args.description.now,
    )
    (append_assoc (map interface_text (states_of c.args.description.now.components))
    (map interface_text (commands_of c.args.description.now.components))
    (map interface_text (references_of c.args.description.now.controllers)))
