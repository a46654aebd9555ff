use Rattle.std.proofs.Common.{◌∙◌}
use Rattle.std.specs.Cmp.Lexicographic.{texts_ties}
use Rattle.desc_text.proofs.keys.same_key.Goals as goal

pub returns : goal.returns
returns c = c.eq.ensures ∙ texts_ties c.args.key.now c.args.other.now
