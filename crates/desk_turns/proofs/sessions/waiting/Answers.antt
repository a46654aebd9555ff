use Rattle.std.proofs.Common.{◌≡◌, ◌++◌, ◌∷◌, [], rules, ap}
use Rattle.console_session.specs.Sessions.{SessionState}
use Rattle.desk_turns.proofs.NumberLemmas.{first_made, first_more, lines_more}
use Rattle.desk_turns.proofs.sessions.waiting.Goals as goal

-- the lines are those of a text
pub make-requires : goal.make-requires
make-requires c =
    rw (c.text-item.is) (c.requires.lines c.loop-text.text-index c.text-item.result c.loop-text-test.true)

-- one session more
pub loop-text-preserved : goal.loop-text-preserved
loop-text-preserved c =
    let pushed : c.push.new.self.items ≡ c.loop-text.sessions.items ++ c.make.result ∷ [] = search rules in
    record {
      first = rw pushed
          (first_more 0 c.loop-text.sessions.items c.make.result c.loop-text.invariant.first
          (first_made c.make.result _ _ _ c.make.ensures (search rules)));
      lines = rw pushed
          (lines_more c.args.texts.now c.loop-text.text-index c.text-item.result c.loop-text.sessions.items
          c.make.result c.loop-text-test.true c.text-item.is (ap (λ (x : SessionState). x.lines) c.make.ensures)
          c.loop-text.invariant.lines);
    }
