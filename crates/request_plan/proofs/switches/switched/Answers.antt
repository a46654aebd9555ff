use Rattle.std.proofs.Common.{◌≡◌, length, ap, ◌∙◌}
use Rattle.cm_model.specs.Order.{set_of}
use Rattle.cm_model.specs.Scene.{is_chained_in}
use Rattle.chain_order.proofs.PlaceLemmas.{flags-long, flags-set}
use Rattle.switch_plan.specs.Relations.{Related}
use Rattle.request_plan.proofs.SetLemmas.{set_made, leaders_long}
use Rattle.request_plan.proofs.SituationLemmas.{chained_past}
use Rattle.request_plan.proofs.switches.switched.Goals as goal

pub chained_in-requires : goal.chained_in-requires
chained_in-requires c = c.leaders.ensures ∙ ap (λ (w : Related). w.leaders) c.requires.relations

pub returns-clause-flags : goal.returns-clause-flags
returns-clause-flags c =
    let rows : length c.leaders.result.now ≡ length c.args.checked.now.controllers =
    ap length c.leaders.ensures ∙ leaders_long c.args.relations.now c.args.checked.now c.requires.relations in
    record {
      set = c.in_ok-set.ensures.length ∙ c.in_ok-without.ensures.length ∙ c.in_ok-before.ensures.length;
      stopped = c.in_ok-stopped.ensures.length;
      started = c.in_ok-started.ensures.length;
      chained = flags-long c.in_ok-chained.chained
          (is_chained_in c.args.checked.now.controllers (set_of c.in_ok-set.set)) (length c.leaders.result.now)
          (length c.args.checked.now.controllers)
          c.in_ok-chained.ensures rows;
    }

pub returns-clause-sets : goal.returns-clause-sets
returns-clause-sets c = record {
  stopped = c.in_ok-stopped.ensures.set;
  started = c.in_ok-started.ensures.set;
  set = set_made c.args.loaded.now c.args.off.now c.args.on.now c.in_ok-before.before c.in_ok-without.field-0
      c.in_ok-stopped.stopped c.in_ok-started.started c.in_ok-set.set
      c.in_ok-before.ensures.set c.in_ok-stopped.ensures.set c.in_ok-started.ensures.set c.in_ok-without.ensures.set
      c.in_ok-set.ensures.set;
}

pub returns-clause-chained : goal.returns-clause-chained
returns-clause-chained c =
    flags-set c.in_ok-chained.chained (is_chained_in c.args.checked.now.controllers (set_of c.in_ok-set.set))
    (length c.leaders.result.now) (length c.args.checked.now.controllers)
    c.in_ok-chained.ensures
    (ap length c.leaders.ensures ∙ leaders_long c.args.relations.now c.args.checked.now c.requires.relations)
    (λ p past. chained_past c.args.checked.now.controllers (set_of c.in_ok-set.set) p past)
