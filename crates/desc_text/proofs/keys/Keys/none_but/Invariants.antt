use Rattle.std.proofs.Common.{◌≡◌, map}
use Rattle.toml.specs.View.{members_view}
use Rattle.cm_document.specs.Tables.{unlisted, none_unlisted}
use Rattle.desc_text.proofs.keys.Keys.none_but.Given as goal

-- what is left of the table has the first unlisted key of the whole
abbrev pub invariant-members : goal.invariant-members
invariant-members l =
    (goal.iterator-members).can_next l.key-iterator ×
    (goal.iterator-members).is_finite l.key-iterator ×
    (none_unlisted l.self.prefix.now (unlisted (map (λ k. k.now) l.listed) (members_view l.key-iterator))
    ≡ none_unlisted l.self.prefix.now (unlisted (map (λ k. k.now) l.listed) (members_view l.self.table.now.entries)))
