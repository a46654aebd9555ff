use Rattle.std.proofs.Common.{◌≡◌, true, false, Some, None, rules, sym}
use Rattle.std.specs.Prelude.{find}
use Rattle.cm_model.specs.Components.{has_move, is_available}
use Rattle.request_plan.proofs.MoveLemmas.{uses_at, rows_within, row_there, nobody_uses, in_use}
use Rattle.request_plan.proofs.moves.move_fault.Goals as goal

pub user_of-requires : goal.user_of-requires
user_of-requires c =
    rows_within c.args.checked.now c.args.relations.now c.args.order.now c.requires.relations c.requires.within

pub described_at-user-requires : goal.described_at-user-requires
described_at-user-requires c =
    row_there c.args.checked.now c.args.relations.now _ c.requires.relations c.in-Some.ensures.within

-- the first that uses it is told
pub returns-in_ok-clone-in-Some : goal.returns-in_ok-clone-in-Some
returns-in_ok-clone-in-Some c =
    let can : has_move c.args.life c.args.target ≡ true = search rules in
    let down : is_available c.args.target ≡ false = search rules in
    let found : find (uses_at c.args.checked.now c.args.component) c.args.order.now ≡ Some c.in-Some.place =
    sym (rw c.requires.relations at c.in-Some.ensures.user) in
    rw c.in_ok-clone-in-Some.ensures.cases
    (in_use c.args.checked.now c.args.component c.args.life c.args.target c.args.order.now c.in-Some.place
    c.described_at-user.result.now
    can down c.requires.within found c.described_at-user.ensures.same)

-- nobody uses it
pub returns-in-None : goal.returns-in-None
returns-in-None c =
    let can : has_move c.args.life c.args.target ≡ true = search rules in
    let down : is_available c.args.target ≡ false = search rules in
    let none : find (uses_at c.args.checked.now c.args.component) c.args.order.now ≡ None =
    sym (rw c.requires.relations at c.in-None.ensures.user) in
    nobody_uses c.args.checked.now c.args.component c.args.life c.args.target c.args.order.now can down
    c.requires.within none
