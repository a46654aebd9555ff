use Rattle.std.proofs.Common.{◌≡◌, sym, ◌∙◌, length, rules}
use Rattle.document_text.specs.Traced.{separates}
use Rattle.document_text.proofs.PartsLemmas.{cut_at_separator, cut_nowhere}
use Rattle.document_text.proofs.parts.cut_at.Goals as goal

-- at the separator
pub returns-then-is : goal.returns-then-is
returns-then-is c =
    let divides = cut_at_separator (separates c.args.separator) c.args.bytes.now c.loop-rest.lines
    c.loop-rest.rest.now c.first_line.result.0.now c.first_line.result.1.now c.loop-rest.invariant
    c.first_line.ensures.cut c.first_line.ensures.whole (sym c.is.ensures ∙ c.if-is.true) in
    rw c.split_at.ensures.front divides

-- at the end
pub returns : goal.returns
returns c =
    let none : length c.loop-rest.rest.now ≡ 0 = search rules in
    cut_nowhere (separates c.args.separator) c.args.bytes.now c.loop-rest.lines c.loop-rest.rest.now
    c.loop-rest.invariant none
