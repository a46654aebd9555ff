-- Worked rows of cycles over components, computed from the definitions alone: no controller is loaded.
use Rattle.std.proofs.Common.{◌≡◌, ℕ, zero, suc, List, [], ◌∷◌, ◌++◌, map, Ok, Err, refl}
use Rattle.std.specs.Prelude.{codes}
use Rattle.std.specs.Fmt.{digits}
use Rattle.std.specs.Str.{is_utf8, chars}
use Rattle.toml.proofs.OnLiterals.{toml_on_literals}
use Rattle.fixed_num.specs.Bodies.{stepped}
use Rattle.fixed_num.specs.Text.{number_of, spelled}
use Rattle.iface_names.specs.Interfaces.{interface_of}
use Rattle.cm_document.specs.Described.{tree_of, description_in, joint_table, component_table}
use Rattle.cm_document.specs.Described.{controller_table, top_table, described_states, description_form}
use Rattle.cm_model.specs.Blanks.{no_blanks}
use Rattle.cm_model.specs.State.{State, boot, component_lines, interface_lines}
use Rattle.cm_model.specs.Commit.{commit}
use Rattle.cm_model.specs.Cycle.{cycle, after_cycle}
use Rattle.cm_model.specs.Items.{Names, component_text, iface_text, record_items}
use Rattle.cm_model.specs.Trace.{joined, names_in}
use Rattle.cm_model.specs.declared.blanks.Blanks.{Blanks}

-- nothing is in stock
abbrev nothing : Blanks
nothing = no_blanks

-- the two lists, as they print
abbrev lists : Names → State → List (List ℕ)
lists names s =
    joined (map (component_text names) (component_lines s)) ∷ joined (map (iface_text names) (interface_lines s)) ∷ []

-- the lists before the first cycle, and then of each of so many cycles its record and the lists after it
abbrev cycles : ℕ → Names → State → List (List ℕ)
cycles zero names s = []
cycles (suc n) names s =
    let made = cycle s in
    let next = after_cycle s made in
    joined (record_items names made.happened) ∷ (lists names next ++ cycles n names next)

-- what is told of so many cycles of what these bytes describe
abbrev lines_of_cycles : ℕ → List ℕ → List (List ℕ)
lines_of_cycles n bytes =
    elim (description_in (tree_of bytes)) [
      | Ok d ↦ (let s = boot d nothing 0 in lists (names_in d []) s ++ cycles n (names_in d []) s)
      | Err fault ↦ []
    ]

-- one joint: nobody commands it, so it stands still
one_joint : lines_of_cycles 1
    (codes "version = 1\nupdate_rate = 100\ncycles = 3\n[[component]]\nname = \"arm\"\nkind = \"actuator\"\n[[component.joint]]\nname = \"j1\"\nvmax = 1\ncommand = [\"position\"]\nstate = [\"position\"]\n")
    ≡ codes "arm actuator active"
    ∷ codes "state j1/position 0.000000; command j1/position unset free"
    ∷ codes "joint j1 0.000000 0.000000 0.000000"
    ∷ codes "arm actuator active"
    ∷ codes "state j1/position 0.000000; command j1/position unset free"
    ∷ []
unfolding tree_of is_utf8 chars toml_on_literals digits description_form top_table described_states component_table
    joint_table controller_table number_of spelled interface_of cycle after_cycle commit stepped
one_joint = refl

-- its read fails in cycle 1: it becomes unconfigured, and fails no more
a_read_fails : lines_of_cycles 3
    (codes "version = 1\nupdate_rate = 100\ncycles = 3\n[[component]]\nname = \"arm\"\nkind = \"actuator\"\nfail_read = [1]\n[[component.joint]]\nname = \"j1\"\nvmax = 1\ncommand = [\"position\"]\nstate = [\"position\"]\n")
    ≡ codes "arm actuator active"
    ∷ codes "state j1/position 0.000000; command j1/position unset free"
    ∷ codes "joint j1 0.000000 0.000000 0.000000"
    ∷ codes "arm actuator active"
    ∷ codes "state j1/position 0.000000; command j1/position unset free"
    ∷ codes "fail arm read; joint j1 0.000000 0.000000 0.000000"
    ∷ codes "arm actuator unconfigured"
    ∷ codes "state j1/position unavailable; command j1/position unavailable"
    ∷ codes "joint j1 0.000000 0.000000 0.000000"
    ∷ codes "arm actuator unconfigured"
    ∷ codes "state j1/position unavailable; command j1/position unavailable"
    ∷ []
unfolding tree_of is_utf8 chars toml_on_literals digits description_form top_table described_states component_table
    joint_table controller_table number_of spelled interface_of cycle after_cycle commit stepped
a_read_fails = refl

-- Two components of which both fail, one after the other. The described velocity shows before cycle 0 alone, and where
-- a component no longer runs its interfaces show nothing.
both_fail : lines_of_cycles 2
    (codes "version = 1\nupdate_rate = 100\ncycles = 2\n[[component]]\nname = \"arm\"\nkind = \"system\"\non_error = \"finalized\"\nfail_write = [0]\n[[component.joint]]\nname = \"j1\"\nvmax = 1\nposition = \"0.5\"\nvelocity = \"0.25\"\ncommand = [\"position\", \"velocity\"]\nstate = [\"position\", \"velocity\"]\n[[component]]\nname = \"imu\"\nkind = \"sensor\"\ninitial = \"inactive\"\nfail_read = [1]\n[[component.joint]]\nname = \"tilt\"\nvmax = 0\nposition = \"-0.25\"\nvelocity = 2\nstate = [\"velocity\", \"position\"]\n")
    ≡ codes "arm system active; imu sensor inactive"
    ∷ codes "state j1/position 0.500000; state j1/velocity 0.250000; state tilt/velocity 2.000000; state tilt/position -0.250000; command j1/position unset free; command j1/velocity unset free"
    ∷ codes "fail arm write; joint j1 0.500000 0.000000 0.000000; joint tilt -0.250000 0.000000 0.000000"
    ∷ codes "arm system finalized; imu sensor inactive"
    ∷ codes "state j1/position unavailable; state j1/velocity unavailable; state tilt/velocity 2.000000; state tilt/position -0.250000; command j1/position unavailable; command j1/velocity unavailable"
    ∷ codes "fail imu read; joint j1 0.500000 0.000000 0.000000; joint tilt -0.250000 0.000000 0.000000"
    ∷ codes "arm system finalized; imu sensor unconfigured"
    ∷ codes "state j1/position unavailable; state j1/velocity unavailable; state tilt/velocity unavailable; state tilt/position unavailable; command j1/position unavailable; command j1/velocity unavailable"
    ∷ []
unfolding tree_of is_utf8 chars toml_on_literals digits description_form top_table described_states component_table
    joint_table controller_table number_of spelled interface_of cycle after_cycle commit stepped
both_fail = refl

-- A component whose read failed is not written, so its write cannot fail in that cycle too. One that starts
-- unconfigured has no interfaces to show, and neither fails.
a_read_fails_first : lines_of_cycles 1
    (codes "version = 1\nupdate_rate = 100\ncycles = 1\n[[component]]\nname = \"arm\"\nkind = \"actuator\"\nfail_read = [2, 0]\nfail_write = [0]\n[[component.joint]]\nname = \"j1\"\nvmax = 1\ncommand = [\"effort\"]\n[[component]]\nname = \"leg\"\nkind = \"system\"\ninitial = \"unconfigured\"\nfail_read = [0]\nfail_write = [0]\n[[component.joint]]\nname = \"j2\"\nvmax = 1\nposition = 3\nstate = [\"position\"]\n[[component.joint]]\nname = \"j3\"\nvmax = 1\n")
    ≡ codes "arm actuator active; leg system unconfigured"
    ∷ codes "state j2/position unavailable; command j1/effort unset free"
    ∷ codes "fail arm read; joint j1 0.000000 0.000000 0.000000; joint j2 3.000000 0.000000 0.000000; joint j3 0.000000 0.000000 0.000000"
    ∷ codes "arm actuator unconfigured; leg system unconfigured"
    ∷ codes "state j2/position unavailable; command j1/effort unavailable"
    ∷ []
unfolding tree_of is_utf8 chars toml_on_literals digits description_form top_table described_states component_table
    joint_table controller_table number_of spelled interface_of cycle after_cycle commit stepped
a_read_fails_first = refl
