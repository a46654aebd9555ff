use Rattle.std.proofs.Common.{length, ap, arith}
use Rattle.std.specs.Prelude.{option_map}
use Rattle.std.proofs.lemmas.Result.{err_from_is_err_and}
use Rattle.document_text.proofs.RulesLemmas.{traced-Rules}
use Rattle.document_text.proofs.TracedLemmas.{traced_whole, traced_without, traced_description}
use Rattle.document_text.proofs.PartsLemmas.{length_of}
use Rattle.document_text.proofs.TracedLemmas.{traced_script, trace_within}
use Rattle.document_text.proofs.document.read_traced.Goals as goal

-- lines have numbers of 32 bits
pub script-requires : goal.script-requires
script-requires c =
    let thirds = c.divide_twice-thirds in let size = length_of (λ t. t.now) thirds.result.script in
    omega (arith, thirds.ensures.fits, size, c.requires)

-- the first fault is told
pub returns-in_err-description-clause-reads : goal.returns-in_err-description-clause-reads
returns-in_err-description-clause-reads c =
    let p = err_from_is_err_and c.from_residual.result c.from_residual.ensures.1 in
    rw (p.1, p.2)
    (traced_description _ _ _ _ _ _ c.divide_twice-thirds.ensures c.in_err-description.field-0.0
    c.in_err-description.ensures.reads)

pub returns-in_err-script-clause-reads : goal.returns-in_err-script-clause-reads
returns-in_err-script-clause-reads c =
    let given = c.from_residual-in_err-script in
    let p = err_from_is_err_and given.result given.ensures.1 in
    rw (p.1, p.2)
    (traced_script _ _ _ _ _ _ c.divide_twice-thirds.ensures c.in_ok-description.description c.in_err-script.field-0.0
    c.in_ok-description.ensures.reads c.in_err-script.ensures.reads)

pub returns-in_default-clause-reads : goal.returns-in_default-clause-reads
returns-in_default-clause-reads c = λ other.
    traced_without _ _ _ _ _ _ c.divide_twice-thirds.ensures c.in_ok-description.description c.in_ok-script.script
    c.in_ok-description.ensures.reads c.in_ok-script.ensures.reads
    (ap (λ o. option_map (λ t. t.now) o) c.in_default.is)

-- or all of it is accepted, and then its script meets the rules and its trace is no longer than the document
pub returns-clause-reads : goal.returns-clause-reads
returns-clause-reads c =
    traced_whole _ _ _ _ _ _ c.divide_twice-thirds.ensures c.in_ok-description.description c.in_ok-script.script
    c.in-Some.trace.now c.in_ok-description.ensures.reads c.in_ok-script.ensures.reads
    (ap (λ o. option_map (λ t. t.now) o) c.in-Some.is)

pub returns-clause-keeps : goal.returns-clause-keeps
returns-clause-keeps c = (
  traced-Rules c.args.bytes.now _ (returns-clause-reads c),
  trace_within (length c.args.bytes.now) _ c.in-Some.trace.now (ap (λ o. option_map (λ t. t.now) o) c.in-Some.is)
      c.divide_twice-thirds.ensures.trace_fits,
)
