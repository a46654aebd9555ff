use Rattle.std.proofs.Common.{rules}
use Rattle.rows_desk.proofs.SessionLemmas.{are_handed_in}
use Rattle.rows_desk.proofs.shared.ends.book_of.Goals as goal

pub finish-requires : goal.finish-requires
finish-requires g c =
    are_handed_in _ _ _ _ _ _ _ _ c.args.desk.seats c.requires.count c.requires.looping (search rules)
    c.requires.sessions c.as_slice.ensures.value (c.are_numbered.ensures (search rules))
