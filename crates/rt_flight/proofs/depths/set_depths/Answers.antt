use Rattle.std.proofs.Common.{◌+◌, ◌<◌, ◌≤◌, ◌^◌, [], length, take, drop, inl, inr, sym, ap, ◌∙◌, subst, arith}
use Rattle.std.proofs.lemmas.List.{get_or_default}
use Rattle.rt_flight.specs.Cells.{CellFacts}
use Rattle.rt_flight.specs.Depths.{places_in, IsFlagged}
use Rattle.rt_flight.proofs.PutDownLemmas.{all_deepened, depths_fit, flags_go_on, goes_on, none_so_far}
use Rattle.rt_flight.proofs.PutDownLemmas.{put_down, some_depth}
use Rattle.rt_flight.proofs.depths.set_depths.Goals as goal
use Rattle.rt_flight.proofs.depths.set_depths.Goals.{then-starts_depth, else-starts_depth}

pub loop-i-init : goal.loop-i-init
loop-i-init g c =
    record { so_far = none_so_far c.args.relations.now c.args.cells.now; flagged = c.none-layer.ensures }

pub starts_depth-requires-clause-layer : goal.starts_depth-requires-clause-layer
starts_depth-requires-clause-layer g c = c.loop-i.invariant.flagged

-- the cells stand where they stood
pub starts_depth-requires-clause-within : goal.starts_depth-requires-clause-within
starts_depth-requires-clause-within g c = (c.loop-i.invariant.so_far.first_within, omega (arith, c.loop-i-test.true))

pub starts_depth-requires-clause-related : goal.starts_depth-requires-clause-related
starts_depth-requires-clause-related g c =
    all_deepened (λ d. d.workspace.place < length c.args.relations.now.leaders) (λ d n led. led) c.args.cells.now
    c.loop-i.cells c.loop-i.invariant.so_far.same c.requires.related

pub overflow_add-depths : goal.overflow_add-depths
overflow_add-depths g c =
    let l = c.loop-i in
    let fits : l.depths + 1 < 2 ^ 32 =
    depths_fit c.args.relations.now c.args.cells.now l.cells l.first l.i l.depths l.invariant.so_far
    (omega (arith, c.loop-i-test.true)) c.starts_depth.result c.starts_depth.ensures
    c.if-starts_depth.true c.requires.ranked in
    omega (arith, fits)

-- a depth has begun by then
pub overflow_sub-depths : goal.overflow_sub-depths
overflow_sub-depths g c =
    let l = c.loop-i in
    let join = c.if-starts_depth in
    let some : 1 ≤ join.depths =
    some_depth c.args.relations.now c.args.cells.now l.cells l.first l.i l.depths l.invariant.so_far
    (omega (arith, c.loop-i-test.true)) c.starts_depth.result c.starts_depth.ensures join.first
    join.depths (elim join.branch [
      | then-starts_depth w ↦ inl (w.if-starts_depth.true, (w.first-is, w.depths-is))
      | else-starts_depth w ↦ inr (w.if-starts_depth.false, (w.first-is, w.depths-is))
    ]) in
    omega (arith, some)

pub loop-i-preserved : goal.loop-i-preserved
loop-i-preserved g c =
    let l = c.loop-i in
    let within : l.i < length l.cells = omega (arith, c.loop-i-test.true) in
    let join = c.if-starts_depth in
    record {
      so_far = goes_on c.args.relations.now c.args.cells.now l.cells l.first l.i l.depths l.invariant.so_far within
          c.starts_depth.result c.starts_depth.ensures _ c.set_depth.new.self join.first join.depths
          (get_or_default _ _ _ _ within) c.set_depth.ensures
          (elim join.branch [
            | then-starts_depth w ↦ inl (w.if-starts_depth.true, (w.first-is, w.depths-is))
            | else-starts_depth w ↦ inr (w.if-starts_depth.false, (w.first-is, w.depths-is))
          ]);
      flagged = flags_go_on c.args.relations.now c.args.cells.now l.cells l.first l.i l.depths l.invariant.so_far
          within c.starts_depth.result c.starts_depth.ensures _ c.set_depth.new.self join.first join.depths
          (get_or_default _ _ _ _ within) c.set_depth.ensures join.layer.flags c.insert.new.self.flags c.place.result
          (c.place.ensures ∙ ap (λ (d : CellFacts). d.workspace.place) (get_or_default _ _ _ _ within))
          c.insert.ensures
          (elim join.branch [
            | then-starts_depth w ↦
                inl (
                  subst (λ x. IsFlagged x.flags []) (sym w.layer-is) w.none-layer-then-starts_depth.ensures,
                  w.first-is,
                )
            | else-starts_depth w ↦
                inr (
                  subst (λ x. IsFlagged x.flags (drop l.first (take l.i (places_in l.cells)))) (sym w.layer-is)
                      l.invariant.flagged,
                  w.first-is,
                )
          ]);
    }

-- all have their depths
pub returns : goal.returns
returns g c =
    put_down c.args.relations.now c.args.cells.now c.loop-i.cells c.loop-i.first c.loop-i.i c.loop-i.depths
    c.loop-i.invariant.so_far (omega arith)
