use Rattle.std.proofs.Common.{◌≡◌, ◌<◌, length, arith, sym, ap, subst, ◌∙◌}
use Rattle.indexmap.specs.IndexSet.{insert_key}
use Rattle.iface_names.specs.Interfaces.{same_interface}
use Rattle.iface_names.specs.Registry.{Numbered}
use Rattle.iface_names.proofs.RegistryLemmas.{added_new, one_more}
use Rattle.iface_names.proofs.registry.Registry.add.Goals as goal

-- below the limit there is room for one more name
pub invariant_of-self-2 : goal.invariant_of-self-2
invariant_of-self-2 c =
    let count : c.len-place.result ≡ length c.self.inside.names.keys =
    c.len-place.ensures.count ∙ ap (λ held. length held.names) (sym c.self.view_is) in
    record {
      few = one_more _ _ _ _ c.in_ok-insert.ensures.len
          (subst (λ n. n < c.self.inside.limit) count c.if-place-self.false);
      distinct = c.insert.ensures.unique;
      small = c.self.invariant.small;
    }

-- a new name below the limit goes last
pub returns-clause-ok : goal.returns-clause-ok
returns-clause-ok c =
    let new = sym c.place.ensures ∙ c.in_default.is in
    let below : length c.args.self.now.names < c.args.self.now.limit =
    omega (arith, c.len-place.ensures.count, c.if-place-self.false, ap (λ held. held.limit) c.self.view_is) in
    rw c.in_ok-insert.ensures.keys
    (ap (λ (held : Numbered). record { names = insert_key same_interface held.names c.args.name; limit = held.limit })
    c.self.view_is ∙ sym (added_new c.args.self.now c.args.name new below))
