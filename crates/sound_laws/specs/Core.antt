-- The core of a state: what a cycle rests on. Two states with one core have the same cycle.
use Rattle.std.specs.Prelude.{false, List, [], map, filter, None}
use Rattle.cm_model.specs.Blanks.{no_blanks}
use Rattle.cm_model.specs.State.{State, Loaded, is_active}

-- a controller without its rate, which counts when it is configured next, and without the mail that waits for it
abbrev pub bare : Loaded → Loaded
bare l = record l { rate = 0; mail = None }

-- the active ones so, in the order of serials
abbrev pub running_ones : List Loaded → List Loaded
running_ones ls = map bare (filter is_active ls)

-- the state with its active controllers alone, and without what no cycle looks at
abbrev pub core : State → State
core s = record {
  description = s.description;
  sessions = 0;
  blanks = no_blanks;
  loads = 0;
  loaded = running_ones s.loaded;
  lives = s.lives;
  bodies = s.bodies;
  values = s.values;
  requests = [];
  outcomes = [];
  fallbacks = [];
  ended = s.ended;
  aloft = false;
  mails = s.mails;
  closed = false;
}
