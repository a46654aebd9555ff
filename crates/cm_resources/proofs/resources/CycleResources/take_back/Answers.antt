use Rattle.std.proofs.Common.{◌≡◌, Option, sym, ap, subst, map, ◌∙◌}
use Rattle.std.specs.Prelude.{not, IfSome}
use Rattle.cm_storage.specs.declared.record_room.RecordRoom.{RecordRoom}
use Rattle.rt_flight.specs.Flights.{TellsNothing}
use Rattle.rt_flight.specs.declared.context.CycleContext.{CycleContext}
use Rattle.cm_resources.specs.CycleResources.{place_among}
use Rattle.cm_resources.specs.declared.resources.CycleResources.{CycleResources}
use Rattle.cm_resources.proofs.resources.CycleResources.take_back.Goals as goal

pub returns : goal.returns
returns c =
    let same = c.deref_mut.ensures.value in
    let left = c.unload.ensures.resources in
    let swapped : c.deref_mut-2.result.now ≡ record c.args.context.value { lists = c.args.self.now.lists } =
    c.deref_mut-2.ensures.value ∙ c.unload.ensures.context
    ∙ ap (λ (k : CycleContext). record k { lists = c.args.self.now.lists }) same in
    let kept : c.place_erred.new.context
    ≡ record c.args.context.value { lists = c.args.self.now.lists; erred = c.place_erred.new.context.erred } =
    c.place_erred.ensures.context
    ∙ ap (λ (k : CycleContext). record k { erred = c.place_erred.new.context.erred }) swapped in
    let robot = c.of.ensures ∙ ap (λ (k : CycleContext). k.robot) c.deref.ensures in
    let ending = c.of-2.ensures ∙ ap (λ (k : CycleContext). k.ending) c.deref-2.ensures in
    let members = ap (λ x. x.items) (c.of-3.ensures ∙ ap (λ (k : CycleContext). k.order) c.deref-3.ensures) in
    let erred = ap (λ x. x.items) (c.of-4.ensures ∙ ap (λ (k : CycleContext). k.erred) c.deref-4.ensures) in
    let lists = c.of-5.ensures ∙ ap (λ (k : CycleContext). k.lists) c.deref-5.ensures in record {
      robot = robot ∙ ap (λ (k : CycleContext). k.robot) kept;
      ending = ending ∙ ap (λ (k : CycleContext). k.ending) kept;
      home = record {
        robot = sym robot;
        ending = sym ending;
        order = sym members;
        erred = sym erred;
        next_lists = sym lists;
        told = subst (λ (o : Option RecordRoom). IfSome o TellsNothing) (sym (ap (λ (k : CycleContext). k.room) kept))
            c.requires;
      };
      no_mail = rw (c.of-6.ensures) c.empty.ensures.items;
      workspaces = ap (λ (b : CycleResources). b.buffers.workspaces) left;
      order = members ∙ ap (λ (k : CycleContext). k.order.items) kept;
      erred = erred ∙ c.place_erred.ensures.erred
          ∙ ap (λ (k : CycleContext). map (place_among k.order.items) k.erred.items) swapped;
      lists = ap (λ (b : CycleResources). b.lists) left ∙ ap (λ (k : CycleContext). k.lists) same;
      told = ap (λ (b : CycleResources). b.told) left ∙ ap (λ (k : CycleContext). not k.has_failed) same;
      next_lists = lists ∙ ap (λ (k : CycleContext). k.lists) kept;
      size = ap (λ (b : CycleResources). b.size) left;
      room = ap (λ (b : CycleResources). b.room) left;
    }
