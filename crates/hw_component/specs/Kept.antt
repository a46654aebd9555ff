-- What a component keeps, and what contracts see of it.
use Rattle.hw_component.specs.declared.component.Component.TheInside.{Inside}
use Rattle.hw_component.specs.Drives.{states_in, FitsDescription}
use Rattle.hw_component.specs.Hardware.{Hardware}

-- the component that it stands for
abbrev pub hardware_of : Inside → Hardware
hardware_of c = record {
  description = c.description;
  life = c.life;
  bodies = states_in c.bodies.items;
  claimed = c.claimed.items;
  commands = c.applied.items;
  written = c.written;
}

-- It fits the description.
pub record IsKept (c : Inside) : Type 0 where
  pub fits : FitsDescription c.description c.bodies.items c.claimed.items c.states.items c.commands.items
      c.applied.items
