use Rattle.std.proofs.Common.{sym, refl}
use Rattle.cm_document.proofs.VocabularyLemmas.{found_is_listed}
use Rattle.cm_document.proofs.vocabulary.meaning_of.Goals as goal

pub returns-in-Some : goal.returns-in-Some
returns-in-Some g c =
    rw (
      sym (found_is_listed (λ row. row.0.now) (λ row. row.1) c.args.table.now c.args.word.now),
      sym c.row_of.ensures,
      c.in-Some.is,
    ) refl

pub returns-in-None : goal.returns-in-None
returns-in-None g c =
    rw (
      sym (found_is_listed (λ row. row.0.now) (λ row. row.1) c.args.table.now c.args.word.now),
      sym c.row_of.ensures,
      c.in-None.is,
    ) refl
