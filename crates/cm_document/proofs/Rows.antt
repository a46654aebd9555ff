-- Worked rows of documents that are refused, computed from the definitions alone.
use Rattle.std.proofs.Common.{◌≡◌, Err, refl}
use Rattle.std.specs.Prelude.{codes}
use Rattle.std.specs.Fmt.{digits}
use Rattle.std.specs.Str.{is_utf8, chars}
use Rattle.toml.proofs.OnLiterals.{toml_on_literals}
use Rattle.fixed_num.specs.Text.{number_of}
use Rattle.iface_names.specs.Interfaces.{interface_of}
use Rattle.cm_document.specs.Described.{tree_of, joint_table, component_table, controller_table}
use Rattle.cm_document.specs.Described.{top_table, described_states, description_form}
use Rattle.cm_document.specs.Valid.{valid}
use Rattle.cm_document.specs.Lines.{parts_of}
use Rattle.cm_document.specs.ScriptRules.{with_line, script_with}
use Rattle.cm_document.specs.Grammars.{whole_grammar}
use Rattle.cm_document.specs.Document.{accepted_description, document_of, document}
use Rattle.cm_document.specs.declared.faults.CheckFault.TheVariants.{ChainLoop}
use Rattle.cm_document.specs.declared.faults.DescFault.TheVariants.{BadKey, FloatGiven}
use Rattle.cm_document.specs.declared.faults.DescProblem.TheVariants.{Text, Check}
use Rattle.cm_document.specs.declared.faults.ScriptFault.TheVariants.{BadLine, NoSession}
use Rattle.cm_document.specs.declared.faults.DocumentFault.TheVariants as fault

-- a last line without a form
a_line_without_a_form : document whole_grammar
    (codes "version = 1\nupdate_rate = 100\ncycles = 2\n[[controller]]\nname = \"mk\"\ntype = \"mock\"\n--- script ---\nsession a\nload mk\nlist controllers\nload nosuch\njump mk\n")
    ≡ Err (fault.Script (BadLine 12))
unfolding tree_of is_utf8 chars toml_on_literals digits description_form top_table described_states component_table
    joint_table controller_table number_of interface_of valid parts_of accepted_description document_of with_line
    script_with
a_line_without_a_form = refl

-- a call in place of the session's line
a_call_before_any_session : document whole_grammar
    (codes "version = 1\nupdate_rate = 100\ncycles = 2\n[[controller]]\nname = \"mk\"\ntype = \"mock\"\n--- script ---\nload mk\nload mk\nlist controllers\nload nosuch\nload mk\n")
    ≡ Err (fault.Script (NoSession 8))
unfolding tree_of is_utf8 chars toml_on_literals digits description_form top_table described_states component_table
    joint_table controller_table number_of interface_of valid parts_of accepted_description document_of with_line
    script_with
a_call_before_any_session = refl

-- without a separator the line after the last is bad
no_separator : document whole_grammar
    (codes "version = 1\nupdate_rate = 100\ncycles = 2\n[[controller]]\nname = \"mk\"\ntype = \"mock\"\n")
    ≡ Err (fault.Script (BadLine 7))
unfolding tree_of is_utf8 chars toml_on_literals digits description_form top_table described_states component_table
    joint_table controller_table number_of interface_of valid parts_of accepted_description document_of with_line
    script_with
no_separator = refl

-- a key that a controller of this type may not have
a_key_that_is_not_listed : document whole_grammar
    (codes "version = 1\nupdate_rate = 100\ncycles = 2\n[[controller]]\nname = \"mk\"\ntype = \"mock\"\nrate = 5\n--- script ---\n")
    ≡ Err (fault.Description (Text (BadKey (codes "controller[0].rate"))))
unfolding tree_of is_utf8 chars toml_on_literals digits description_form top_table described_states component_table
    joint_table controller_table number_of interface_of valid parts_of accepted_description document_of
a_key_that_is_not_listed = refl

-- nothing at all
nothing_at_all : document whole_grammar (codes "")
    ≡ Err (fault.Description (Text (BadKey (codes "version"))))
unfolding tree_of is_utf8 chars toml_on_literals digits description_form top_table described_states component_table
    joint_table controller_table number_of interface_of valid parts_of accepted_description document_of
nothing_at_all = refl

-- the first thirty bytes of one joint's description
cut_off_after_thirty_bytes : document whole_grammar (codes "version = 1\nupdate_rate = 100\n")
    ≡ Err (fault.Description (Text (BadKey (codes "cycles"))))
unfolding tree_of is_utf8 chars toml_on_literals digits description_form top_table described_states component_table
    joint_table controller_table number_of interface_of valid parts_of accepted_description document_of
cut_off_after_thirty_bytes = refl

-- a float where a quantity is wanted
a_float_for_a_quantity : document whole_grammar
    (codes "version = 1\nupdate_rate = 100\ncycles = 3\n\n[[component]]\nname = \"arm\"\nkind = \"actuator\"\n\n[[component.joint]]\nname = \"j1\"\nvmax = 1.5\ncommand = [\"position\"]\nstate = [\"position\"]\n\n[[controller]]\nname = \"fwd\"\ntype = \"forward\"\nclaims = [\"j1/position\"]\n--- script ---\nsession a\nload fwd\nconfigure fwd\nswitch strict +fwd\nsend fwd 0.5\n")
    ≡ Err (fault.Description (Text (FloatGiven (codes "component[0].joint[0].vmax"))))
unfolding tree_of is_utf8 chars toml_on_literals digits description_form top_table described_states component_table
    joint_table controller_table number_of interface_of valid parts_of accepted_description document_of
a_float_for_a_quantity = refl

-- the description of one joint is accepted, and the first line of its script without a form is told
one_joint : document whole_grammar
    (codes "version = 1\nupdate_rate = 100\ncycles = 3\n\n[[component]]\nname = \"arm\"\nkind = \"actuator\"\n\n[[component.joint]]\nname = \"j1\"\nvmax = 1\ncommand = [\"position\"]\nstate = [\"position\"]\n\n[[controller]]\nname = \"fwd\"\ntype = \"forward\"\nclaims = [\"j1/position\"]\n--- script ---\nsession a\nload fwd\nconfigure fwd\njump fwd\nsend fwd 0.5\n")
    ≡ Err (fault.Script (BadLine 23))
unfolding tree_of is_utf8 chars toml_on_literals digits description_form top_table described_states component_table
    joint_table controller_table number_of interface_of valid parts_of accepted_description document_of with_line
    script_with
one_joint = refl

-- two passthroughs that claim each other's reference: the first is told
a_loop_of_two : document whole_grammar
    (codes "version = 1\nupdate_rate = 100\ncycles = 2\n[[controller]]\nname = \"p\"\ntype = \"passthrough\"\nclaims = [\"q/j1/position\"]\n[[controller]]\nname = \"q\"\ntype = \"passthrough\"\nclaims = [\"p/j1/position\"]\n--- script ---\n")
    ≡ Err (fault.Description (Check (ChainLoop (codes "p"))))
unfolding tree_of is_utf8 chars toml_on_literals digits description_form top_table described_states component_table
    joint_table controller_table number_of interface_of valid parts_of accepted_description document_of
a_loop_of_two = refl
