use Rattle.document_text.proofs.RulesLemmas.{document-Rules}
use Rattle.cm_draw.proofs.made.draw_made.Goals as goal

pub draw_document-requires : goal.draw_document-requires
draw_document-requires g c = record { rules = (document-Rules _ _ c.in-Ok.ensures.reads).0 }
