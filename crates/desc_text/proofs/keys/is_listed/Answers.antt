use Rattle.std.proofs.Common.{rules, tests, sym, ◌∙◌}
use Rattle.std.proofs.lemmas.Iterator.{YieldsList-from_slice}
use Rattle.std.proofs.lemmas.Iterator.Search.{any_from_yields_List}
use Rattle.toml.specs.Data.{same_key}
use Rattle.sequence.proofs.ListLemmas.{any_map}
use Rattle.desc_text.proofs.keys.is_listed.Goals as goal

pub returns : goal.returns
returns c =
    any_from_yields_List (λ k. same_key c.args.key.now k.now) _ _ _ c.any.ensures.ran
    (YieldsList-from_slice c.args.listed.now cc) (λ x b q k. search (rules, tests))
    ∙ sym (any_map (same_key c.args.key.now) (λ k. k.now) c.args.listed.now)
