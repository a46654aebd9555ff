-- Descriptions that were written down by hand with what they stand for, or with their first fault: computed from the
-- definitions.
use Rattle.std.proofs.Common.{◌≡◌, refl, [], ◌∷◌, Some, Ok, Err, pos}
use Rattle.std.specs.Prelude.{codes, option_map}
use Rattle.std.specs.Str.{is_utf8, chars}
use Rattle.std.specs.Fmt.{digits}
use Rattle.toml.proofs.OnLiterals.{toml_on_literals}
use Rattle.fixed_num.specs.Text.{number_of}
use Rattle.iface_names.specs.Interfaces.{interface_of}
use Rattle.iface_names.specs.declared.interface.IfaceName.TheVariants as interface
use Rattle.iface_names.specs.declared.kind.Kind.TheVariants.{Position, Velocity}
use Rattle.cm_document.specs.Described.{tree_of, joint_table, component_table, controller_table}
use Rattle.cm_document.specs.Described.{top_table, described_states, description_form, description_in}
use Rattle.cm_document.specs.declared.description.CompKind.TheVariants.{Actuator, System}
use Rattle.cm_document.specs.declared.description.Params.TheVariants.{Forward, Broadcaster}
use Rattle.cm_document.specs.declared.faults.DescFault.TheVariants.{BadKey, BadValue, FloatGiven}
use Rattle.cm_document.specs.declared.life.Life.TheVariants.{Unconfigured, Active}

-- the empty document has no version
empty : description_in (tree_of (codes "")) ≡ Err (BadKey (codes "version"))
unfolding tree_of is_utf8 chars toml_on_literals digits description_form top_table described_states component_table
    joint_table controller_table number_of interface_of
empty = refl

-- its first lines alone say nothing of the cycles
cut_off : description_in (tree_of (codes "version = 1\nupdate_rate = 100\n")) ≡ Err (BadKey (codes "cycles"))
unfolding tree_of is_utf8 chars toml_on_literals digits description_form top_table described_states component_table
    joint_table controller_table number_of interface_of
cut_off = refl

-- one joint with a forward controller
one_joint : description_in
    (tree_of (codes
    "version = 1\nupdate_rate = 100\ncycles = 3\n\n[[component]]\nname = \"arm\"\nkind = \"actuator\"\n\n[[component.joint]]\nname = \"j1\"\nvmax = 1\ncommand = [\"position\"]\nstate = [\"position\"]\n\n[[controller]]\nname = \"fwd\"\ntype = \"forward\"\nclaims = [\"j1/position\"]\n"))
    ≡ Ok (record {
      version = 1;
      update_rate = 100;
      cycles = 3;
      components = record {
        name = codes "arm";
        kind = Actuator;
        initial = Active;
        on_error = Unconfigured;
        fail_read = [];
        fail_write = [];
        joints = record {
          name = codes "j1";
          vmax = pos 1000000;
          gain = pos 1000000;
          damping = pos 0;
          position = pos 0;
          velocity = pos 0;
          commands = Position ∷ [];
          states = Position ∷ [];
        } ∷ [];
      } ∷ [];
      controllers = record {
        name = codes "fwd";
        rate = 0;
        fallback = [];
        claims = interface.Joint (codes "j1") Position ∷ [];
        reads = [];
        params = Forward 1;
      } ∷ [];
      groups = [];
    })
unfolding tree_of is_utf8 chars toml_on_literals digits description_form top_table described_states component_table
    joint_table controller_table number_of interface_of
one_joint = refl

-- a float for a quantity
float_given : description_in
    (tree_of (codes
    "version = 1\nupdate_rate = 100\ncycles = 3\n[[component]]\nname = \"arm\"\nkind = \"actuator\"\n[[component.joint]]\nname = \"j1\"\nvmax = 1.5\n"))
    ≡ Err (FloatGiven (codes "component[0].joint[0].vmax"))
unfolding tree_of is_utf8 chars toml_on_literals digits description_form top_table described_states component_table
    joint_table controller_table number_of interface_of
float_given = refl

-- a repeated kind comes before a later word that is none
kind_twice : description_in
    (tree_of (codes
    "version = 1\nupdate_rate = 100\ncycles = 3\n[[component]]\nname = \"arm\"\nkind = \"system\"\n[[component.joint]]\nname = \"j1\"\nvmax = \"0.5\"\nstate = [\"position\", \"position\", \"x\"]\n"))
    ≡ Err (BadValue (codes "component[0].joint[0].state[1]"))
unfolding tree_of is_utf8 chars toml_on_literals digits description_form top_table described_states component_table
    joint_table controller_table number_of interface_of
kind_twice = refl

-- all faults of a tree, in their order: an unlisted key at the top, a bad version, an unlisted key of a component, a
-- controller without a type
faults_in_order : option_map (λ ms. description_form.faults [] ms)
    (tree_of (codes
    "zzz = 1\nversion = -1\nupdate_rate = 100\ncycles = 3\n[[component]]\nname = \"arm\"\nkind = \"system\"\njoint = []\nzzz = 1\n[[controller]]\nzzz = 1\n"))
    ≡ Some (BadKey (codes "zzz") ∷ BadValue (codes "version") ∷ BadKey (codes "component[0].zzz")
    ∷ BadKey (codes "controller[0].type") ∷ [])
unfolding tree_of is_utf8 chars toml_on_literals digits description_form top_table described_states component_table
    joint_table controller_table number_of interface_of
faults_in_order = refl

-- a broadcaster of all states
all_states : description_in
    (tree_of (codes
    "version = 1\nupdate_rate = 100\ncycles = 3\n[[component]]\nname = \"arm\"\nkind = \"system\"\n[[component.joint]]\nname = \"j1\"\nvmax = 1\nstate = [\"velocity\", \"position\"]\n[[controller]]\nname = \"jsb\"\ntype = \"broadcaster\"\nupdate_rate = 50\nreads = \"all\"\n"))
    ≡ Ok (record {
      version = 1;
      update_rate = 100;
      cycles = 3;
      components = record {
        name = codes "arm";
        kind = System;
        initial = Active;
        on_error = Unconfigured;
        fail_read = [];
        fail_write = [];
        joints = record {
          name = codes "j1";
          vmax = pos 1000000;
          gain = pos 1000000;
          damping = pos 0;
          position = pos 0;
          velocity = pos 0;
          commands = [];
          states = Velocity ∷ Position ∷ [];
        } ∷ [];
      } ∷ [];
      controllers = record {
        name = codes "jsb";
        rate = 50;
        fallback = [];
        claims = [];
        reads = interface.Joint (codes "j1") Velocity ∷ interface.Joint (codes "j1") Position ∷ [];
        params = Broadcaster 2;
      } ∷ [];
      groups = [];
    })
unfolding tree_of is_utf8 chars toml_on_literals digits description_form top_table described_states component_table
    joint_table controller_table number_of interface_of
all_states = refl
