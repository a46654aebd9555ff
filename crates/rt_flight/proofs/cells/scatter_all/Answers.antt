use Rattle.std.proofs.Common.{◌≡◌, ◌<◌, ◌+◌, ◌^◌, ℕ, List, [], ◌∷◌, ◌++◌, length, map, take}
use Rattle.std.proofs.Common.{drop, slice_set, sym, ap, ap₂, subst, ◌∙◌, append_assoc, arith}
use Rattle.std.specs.Prelude.{slice_index_or}
use Rattle.std.specs.List.{AllByRecursion}
use Rattle.std.proofs.lemmas.List.{drop_more, take_more_set, drop-set-lt}
use Rattle.rt_flight.specs.Workspaces.{IsConnectedTo}
use Rattle.rt_flight.specs.Cells.{CellFacts, Flying, flying, cell_put, all_put, all_outs, all_numbers}
use Rattle.rt_flight.proofs.cells.scatter_all.Goals as goal

-- the next one is told, as all that are left can be
pub scatter-requires : goal.scatter-requires
scatter-requires g c =
    let l = c.loop-cell in
    let i = l.cell-index in
    let item : CellFacts = slice_index_or l.cells i c.cell-item.result in
    let placed = c.args.places.now in
    let later : List CellFacts = drop (i + 1) l.cells in
    let within : i < length l.cells = omega (arith, c.loop-cell-test.true) in
    let left : drop i l.cells ≡ item ∷ later = drop_more l.cells i c.cell-item.result within in
    let values : all_outs (item ∷ later) ≡ all_outs (drop i l.cells) = ap all_outs (sym left) in
    let numbers : all_numbers (item ∷ later) ≡ all_numbers (drop i l.cells) = ap all_numbers (sym left) in
    let count : length (item ∷ later) ≡ length (drop i l.cells) = ap (λ (ds : List CellFacts). length ds) (sym left) in
    record {
      connected = (subst
          (λ (ds : List CellFacts). AllByRecursion (λ d. IsConnectedTo placed (length l.hardware.loans) d.workspace) ds)
          left l.invariant.connected).0;
      few_states =
          (subst (λ (ds : List CellFacts). AllByRecursion (λ d. length d.workspace.states < 2 ^ 8) ds) left
          l.invariant.few_states).0;
      few_outs = (subst (λ (ds : List CellFacts). AllByRecursion (λ d. length d.workspace.outs < 2 ^ 8) ds) left
          l.invariant.few_outs).0;
      told = record {
        heads = omega (arith, l.invariant.heads, count);
        values = omega (arith, l.invariant.values, values);
        numbers = omega (arith, l.invariant.numbers, numbers);
      };
      erred = omega (arith, l.invariant.erred, count);
    }

pub loop-cell-preserved : goal.loop-cell-preserved
loop-cell-preserved g c =
    let l = c.loop-cell in
    let i = l.cell-index in
    let item : CellFacts = slice_index_or l.cells i c.cell-item.result in
    let placed = c.args.places.now in
    let later : List CellFacts = drop (i + 1) l.cells in
    let next : List CellFacts = slice_set l.cells i c.scatter.new.self in
    let within : i < length l.cells = omega (arith, c.loop-cell-test.true) in
    let left : drop i l.cells ≡ item ∷ later = drop_more l.cells i c.cell-item.result within in
    let rest : drop (i + 1) next ≡ later = drop-set-lt (i + 1) l.cells i c.scatter.new.self (omega arith) in
    let sofar : take (i + 1) next ≡ take i l.cells ++ c.scatter.new.self ∷ [] =
    take_more_set l.cells i c.scatter.new.self within in
    let leaves = c.scatter.ensures.leaves in
    let values : all_outs (item ∷ later) ≡ all_outs (drop i l.cells) = ap all_outs (sym left) in
    let numbers : all_numbers (item ∷ later) ≡ all_numbers (drop i l.cells) = ap all_numbers (sym left) in
    let count : length (item ∷ later) ≡ length (drop i l.cells) = ap (λ (ds : List CellFacts). length ds) (sym left) in
    let values_left : all_outs (drop (i + 1) next) ≡ all_outs later = ap all_outs rest in
    let numbers_left : all_numbers (drop (i + 1) next) ≡ all_numbers later = ap all_numbers rest in
    let count_left : length (drop (i + 1) next) ≡ length later = ap (λ (ds : List CellFacts). length ds) rest in
    record {
      cells = ap₂ (λ (xs ys : List CellFacts). xs ++ map cell_put ys) sofar rest
          ∙ append_assoc (take i l.cells) (c.scatter.new.self ∷ []) (map cell_put later)
          ∙ ap (λ (d : CellFacts). take i l.cells ++ (d ∷ map cell_put later)) c.scatter.ensures.cell
          ∙ ap (λ (ds : List CellFacts). take i l.cells ++ map cell_put ds) (sym left)
          ∙ l.invariant.cells;
      flying = ap₂ (λ (ds : List CellFacts) (f : Flying). all_put placed ds f) rest c.scatter.ensures.flying
          ∙ ap (λ (ds : List CellFacts). all_put placed ds (flying l.hardware l.ran.rans l.erred.items)) (sym left)
          ∙ l.invariant.flying;
      connected = subst
          (λ (ds : List CellFacts). AllByRecursion
          (λ d. IsConnectedTo placed (length c.scatter.new.hardware.loans) d.workspace) ds) (sym rest)
          (subst (λ (n : ℕ). AllByRecursion (λ d. IsConnectedTo placed n d.workspace) later) (sym leaves.board)
          (subst (λ (ds : List CellFacts). AllByRecursion
          (λ d. IsConnectedTo placed (length l.hardware.loans) d.workspace) ds) left l.invariant.connected).1);
      few_states =
          subst (λ (ds : List CellFacts). AllByRecursion (λ d. length d.workspace.states < 2 ^ 8) ds) (sym rest)
          (subst (λ (ds : List CellFacts). AllByRecursion (λ d. length d.workspace.states < 2 ^ 8) ds) left
          l.invariant.few_states).1;
      few_outs = subst (λ (ds : List CellFacts). AllByRecursion (λ d. length d.workspace.outs < 2 ^ 8) ds) (sym rest)
          (subst (λ (ds : List CellFacts). AllByRecursion (λ d. length d.workspace.outs < 2 ^ 8) ds) left
          l.invariant.few_outs).1;
      heads = omega (arith, l.invariant.heads, leaves.heads, count, count_left);
      values = omega (arith, l.invariant.values, leaves.values, values, values_left);
      numbers = omega (arith, l.invariant.numbers, leaves.numbers, numbers, numbers_left);
      erred = omega (arith, l.invariant.erred, leaves.erred, leaves.capacity, count, count_left);
      board = leaves.board ∙ l.invariant.board;
      left_heads = omega (arith, l.invariant.left_heads, leaves.heads, count, count_left);
      left_values = omega (arith, l.invariant.left_values, leaves.values, values, values_left);
      left_numbers = omega (arith, l.invariant.left_numbers, leaves.numbers, numbers, numbers_left);
      more = omega (arith, l.invariant.more, leaves.erred, count, count_left);
      capacity = leaves.capacity ∙ l.invariant.capacity;
    }
