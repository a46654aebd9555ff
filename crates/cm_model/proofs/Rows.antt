-- Worked rows of whole runs, computed from the definitions alone.
use Rattle.std.proofs.Common.{◌≡◌, ℕ, List, Ok, refl}
use Rattle.std.specs.Prelude.{codes, Result}
use Rattle.std.specs.Fmt.{digits}
use Rattle.std.specs.Str.{is_utf8, chars}
use Rattle.toml.proofs.OnLiterals.{toml_on_literals}
use Rattle.fixed_num.specs.Bodies.{stepped}
use Rattle.fixed_num.specs.Text.{number_of, spelled}
use Rattle.iface_names.specs.Interfaces.{interface_of}
use Rattle.cm_document.specs.Described.{tree_of, joint_table, component_table, controller_table}
use Rattle.cm_document.specs.Described.{top_table, described_states, description_form}
use Rattle.cm_document.specs.Valid.{valid}
use Rattle.cm_document.specs.Lines.{parts_of}
use Rattle.cm_document.specs.ScriptRules.{with_line, script_with}
use Rattle.cm_document.specs.Grammars.{whole_grammar}
use Rattle.cm_document.specs.Document.{accepted_description, document_of, document}
use Rattle.cm_model.specs.Blanks.{no_blanks, with_count}
use Rattle.cm_model.specs.Boundary.{all_concluded}
use Rattle.cm_model.specs.Commit.{commit}
use Rattle.cm_model.specs.Cycle.{cycle, after_cycle}
use Rattle.cm_model.specs.Machine.{step}
use Rattle.cm_model.specs.Scheduled.{advance, settle, settle_all, looped, with_cycle, finish, start, scheduled}
use Rattle.cm_model.specs.Trace.{output}
use Rattle.cm_document.specs.declared.description.CtlKind.TheVariants as kind
use Rattle.cm_document.specs.declared.faults.DocumentFault.{DocumentFault}
use Rattle.cm_model.specs.declared.blanks.Blanks.{Blanks}
use Rattle.cm_document.specs.Reading.{◌>>=◌}

-- the program's stock: 32 mocks
abbrev stock : Blanks
stock = with_count no_blanks kind.Mock 32

-- what `run` prints of these bytes, or the fault
abbrev printed : List ℕ → Result (List ℕ) DocumentFault
printed bytes = document whole_grammar bytes >>= λ read. Ok (output read (scheduled read stock))

-- one controller, loaded once, listed, and refused twice
one_mock : printed
    (codes "version = 1\nupdate_rate = 100\ncycles = 2\n[[controller]]\nname = \"mk\"\ntype = \"mock\"\n--- script ---\nsession a\nload mk\nlist controllers\nload nosuch\nload mk\n")
    ≡ Ok (codes "a load mk: ok 0\na list controllers: mk mock unconfigured 0\na load nosuch: not_described\na load mk: loaded\nloop begin 0: none\nloop end 0: none\nloop begin 1: none\nloop end 1: none\nloop close: none\n")
unfolding tree_of is_utf8 chars toml_on_literals digits description_form top_table described_states component_table
    joint_table controller_table number_of interface_of valid parts_of accepted_description document_of with_line
    script_with step cycle after_cycle commit advance settle settle_all looped with_cycle finish start scheduled output
    all_concluded
one_mock = refl

-- no cycle and no session: the close alone
nothing_but_the_close : printed (codes "version = 1\nupdate_rate = 100\ncycles = 0\n--- script ---\n")
    ≡ Ok (codes "loop close: none\n")
unfolding tree_of is_utf8 chars toml_on_literals digits description_form top_table described_states component_table
    joint_table controller_table number_of interface_of valid parts_of accepted_description document_of with_line
    script_with step cycle after_cycle commit advance settle settle_all looped with_cycle finish start scheduled output
    all_concluded
nothing_but_the_close = refl

-- a broadcaster of all states, of which there are none: the stock has no blank for it
a_broadcaster_without_a_blank : printed
    (codes "version = 1\nupdate_rate = 100\ncycles = 2\n[[controller]]\nname = \"mk\"\ntype = \"broadcaster\"\nreads = \"all\"\n--- script ---\nsession a\nload mk\n")
    ≡ Ok (codes "a load mk: stock_empty\nloop begin 0: none\nloop end 0: none\nloop begin 1: none\nloop end 1: none\nloop close: none\n")
unfolding tree_of is_utf8 chars toml_on_literals digits description_form top_table described_states component_table
    joint_table controller_table number_of interface_of valid parts_of accepted_description document_of with_line
    script_with step cycle after_cycle commit advance settle settle_all looped with_cycle finish start scheduled output
    all_concluded
a_broadcaster_without_a_blank = refl

-- a joint that nobody commands, whose component's read fails in one cycle; then it is unconfigured, and no longer read
a_read_that_fails_once : printed
    (codes "version = 1\nupdate_rate = 100\ncycles = 3\n[[component]]\nname = \"arm\"\nkind = \"actuator\"\nfail_read = [1]\n[[component.joint]]\nname = \"j1\"\nvmax = 1\ncommand = [\"position\"]\nstate = [\"position\"]\n--- script ---\nsession a\nlist components\nlist interfaces\n")
    ≡ Ok (codes "a list components: arm actuator active\na list interfaces: state j1/position 0.000000; command j1/position unset free\nloop begin 0: none\nloop end 0: joint j1 0.000000 0.000000 0.000000\nloop begin 1: none\nloop end 1: fail arm read; joint j1 0.000000 0.000000 0.000000\nloop begin 2: none\nloop end 2: joint j1 0.000000 0.000000 0.000000\nloop close: none\n")
unfolding tree_of is_utf8 chars toml_on_literals digits description_form top_table described_states component_table
    joint_table controller_table number_of spelled interface_of stepped valid parts_of accepted_description document_of
    with_line script_with step cycle after_cycle commit advance settle settle_all looped with_cycle finish start
    scheduled output all_concluded
a_read_that_fails_once = refl
