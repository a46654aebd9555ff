use Rattle.desc_text.proofs.print.controllers.put_head.Goals as goal

pub put_whole-requires : goal.put_whole-requires
put_whole-requires c = rw c.from.ensures c.requires.rate
