use Rattle.std.proofs.Common.{ℕ, List, sym, ap₂, ◌∙◌, arith}
use Rattle.fixed_num.specs.declared.value.Value.{Value}
use Rattle.cm_hardware.specs.Wiring.{with_values}
use Rattle.cm_hardware.proofs.MovedLemmas.{states_before, states_upto, measured_there}
use Rattle.cm_hardware.proofs.moves.measure_component.Goals as goal

-- there are places for the state interfaces of the components before it, and for its own
pub count_states-at-requires : goal.count_states-at-requires
count_states-at-requires c = omega (arith, states_before c.args.place c.args.units.now, c.requires.states)

pub measure_all-requires : goal.measure_all-requires
measure_all-requires c =
    omega (
      arith,
      c.count_states-at.ensures,
      states_upto c.args.place c.args.units.now c.index-units-place.result c.requires.place,
      c.requires.states,
    )

-- they hold what it measures
pub returns-clause-board : goal.returns-clause-board
returns-clause-board c =
    c.measure_all.ensures.board
    ∙ ap₂ (λ (at : ℕ) (values : List Value). with_values c.args.board.now at values) c.count_states-at.ensures
    (sym (measured_there c.args.place c.args.units.now c.index-units-place.result c.requires.place))
