use Rattle.std.proofs.Common.{◌≡◌, ◌+◌, ◌≤◌, length, Some, None, sym, ap, subst, ◌∙◌, arith}
use Rattle.std.specs.Prelude.{option_map, unwrap_or}
use Rattle.cm_document.specs.Lines.{parts_of, raw_lines}
use Rattle.document_text.proofs.TracedLemmas.{divides_behind, divides_none}
use Rattle.document_text.proofs.parts.divide_twice.Goals as goal

-- what stands behind the separator is divided once more
pub returns-in-Some : goal.returns-in-Some
returns-in-Some c =
    let bytes = c.args.bytes.now in
    let parts = c.divide-parts in
    let behind = c.cut_at-behind in
    let there : Some c.in-Some.text.now ≡ (parts_of bytes).script =
    sym (ap (λ o. option_map (λ t. t.now) o) c.in-Some.is) ∙ parts.ensures.script in
    let sized = subst (λ o. parts.result.lines + unwrap_or (option_map (λ t. length t.now) o) 0 ≤ length bytes)
    c.in-Some.is parts.ensures.sizes.0 in
    let counted =
    subst (λ o. length (raw_lines bytes)
    ≡ parts.result.lines + unwrap_or (option_map (λ t. 1 + length (raw_lines t.now)) o) 0) c.in-Some.is
    parts.ensures.sizes.1 in
    divides_behind bytes parts.result.description.now c.in-Some.text.now behind.result.before.now parts.result.lines
    behind.result.lines (option_map (λ t. t.now) behind.result.behind)
    parts.ensures.description parts.ensures.lines there sized counted behind.ensures

-- without a separator nothing is
pub returns-in-None : goal.returns-in-None
returns-in-None c =
    let bytes = c.args.bytes.now in
    let parts = c.divide-parts in
    let there : None ≡ (parts_of bytes).script =
    sym (ap (λ o. option_map (λ t. t.now) o) c.in-None.is) ∙ parts.ensures.script in
    let sized = subst (λ o. parts.result.lines + unwrap_or (option_map (λ t. length t.now) o) 0 ≤ length bytes)
    c.in-None.is parts.ensures.sizes.0 in
    let counted =
    subst (λ o. length (raw_lines bytes)
    ≡ parts.result.lines + unwrap_or (option_map (λ t. 1 + length (raw_lines t.now)) o) 0) c.in-None.is
    parts.ensures.sizes.1 in
    divides_none bytes parts.result.description.now parts.result.lines parts.ensures.description parts.ensures.lines
    there (omega (arith, sized)) (omega (arith, counted))
