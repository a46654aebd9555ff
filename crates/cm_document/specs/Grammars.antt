-- Which lines a script may have: a flag for each.
use Rattle.std.specs.Prelude.{true}
use Rattle.cm_document.specs.declared.script.Grammar.{Grammar}

-- every line
abbrev pub whole_grammar : Grammar
whole_grammar = record {
  first_session = true;
  further_session = true;
  load = true;
  configure = true;
  cleanup = true;
  unload = true;
  rate = true;
  send = true;
  switch = true;
  hardware = true;
  await_cycles = true;
  list_controllers = true;
  list_interfaces = true;
  list_components = true;
  schedule = true;
}
