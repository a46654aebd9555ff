use Rattle.std.proofs.Common.{ℕ, ◌+◌, refl, ap, ◌∙◌, arith}
use Rattle.std.specs.Prelude.{option_map}
use Rattle.document_text.proofs.PartsLemmas.{divided, length_of, lines_of}
use Rattle.document_text.proofs.parts.divide.Goals as goal

-- its parts are what the separator divides
pub returns : goal.returns
returns c =
    let cut = c.cut_at-cut.result in
    let divides = c.cut_at-cut.ensures in
    let e = divided c.args.bytes.now cut.before.now cut.lines (option_map (λ t. t.now) cut.behind) divides in
    record {
      description = rw e refl;
      lines = rw e refl;
      script = rw e refl;
      sizes = (
        omega (arith, divides.fits, divides.few, length_of (λ t. t.now) cut.behind),
        divides.counted ∙ ap (λ (n : ℕ). cut.lines + n) (lines_of (λ t. t.now) cut.behind),
      );
    }
