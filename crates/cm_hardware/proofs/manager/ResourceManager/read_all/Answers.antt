use Rattle.std.proofs.Common.{◌≡◌, length, map, ap, arith}
use Rattle.std.proofs.lemmas.List.{with_items_is}
use Rattle.cm_hardware.specs.Wiring.{Wired, most_failures, read, loans_read}
use Rattle.cm_hardware.proofs.FailureLemmas.{failures_fit}
use Rattle.cm_hardware.proofs.KeepLemmas.{managed_read}
use Rattle.cm_hardware.proofs.manager.ResourceManager.read_all.Goals as goal

-- no more failures than there is room for
pub read_units-requires : goal.read_units-requires
read_units-requires c =
    let ms = c.self.inside.units.items in
    let here : ms ≡ c.args.self.now.components = ap (λ (w : Wired). w.components) c.self.view_is in
    let most : most_failures ms ≡ most_failures c.args.self.now.components = ap most_failures here in
    rw (c.as_mut_slice-units.ensures.value) (record {
      places = omega (arith, c.self.invariant.first, c.self.invariant.fits);
      few = c.self.invariant.few;
      room = omega (arith, failures_fit c.args.number ms, most, c.requires);
    })

-- the hardware after the reads
pub invariant_of-self : goal.invariant_of-self
invariant_of-self c =
    let k = c.self.inside in
    let n = c.args.number in
    let w : Wired = record { components = k.units.items; loans = k.board; places = k.places.items } in
    let units : c.read_units.new.units ≡ map (read n) k.units.items =
    rw (c.as_mut_slice-units.ensures.value) at c.read_units.ensures.units in
    let board : c.read_units.new.board ≡ loans_read n w =
    rw (c.as_mut_slice-units.ensures.value) at c.read_units.ensures.board in
    let long : length c.read_units.new.units ≡ k.units.len = omega arith in
    rw (with_items_is k.units c.read_units.new.units long, units, board)
    (managed_read k.first_command n w c.self.invariant)

-- and room for the writes that are to fail
pub returns-clause-left : goal.returns-clause-left
returns-clause-left c =
    let k = c.self.inside in
    let ms = k.units.items in
    let units : c.read_units.new.units ≡ map (read c.args.number) ms =
    rw (c.as_mut_slice-units.ensures.value) at c.read_units.ensures.units in
    let here : ms ≡ c.args.self.now.components = ap (λ (w : Wired). w.components) c.self.view_is in
    let most : most_failures ms ≡ most_failures c.args.self.now.components = ap most_failures here in
    let room = rw (c.as_mut_slice-units.ensures.value) at c.read_units.ensures.room in
    let long : length c.read_units.new.units ≡ k.units.len = omega arith in
    rw (with_items_is k.units c.read_units.new.units long, units)
    (omega (arith, failures_fit c.args.number ms, most, c.requires, room))
