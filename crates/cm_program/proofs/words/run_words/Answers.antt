use Rattle.std.proofs.Common.{refl, sym, subst, inl, inr}
use Rattle.cm_top.proofs.ReadLemmas.{IsNoFault, untouched_minds_faults}
use Rattle.cm_program.proofs.words.run_words.Goals as goal

-- the words that the system told ran
pub returns-in-Ok-run_stocked-clause-ran : goal.returns-in-Ok-run_stocked-clause-ran
returns-in-Ok-run_stocked-clause-ran g c = inl (_, c.in-Ok-run_stocked.ensures.ran)

-- without words nothing did
pub returns-in-Err-clause-ran : goal.returns-in-Err-clause-ran
returns-in-Err-clause-ran g c =
    inr (record { cause = c.in-Err.ensures; nothing_read = refl; nothing_written = refl })

-- words that can't be had end the program before anything is read or written
pub returns-in-Err-clause-outside : goal.returns-in-Err-clause-outside
returns-in-Err-clause-outside g c =
    untouched_minds_faults _ _ c.in-Err.status
    (elim c.in-Err.ensures [
      | inl bad ↦ subst IsNoFault (sym bad) tt
      | inr memory ↦ subst IsNoFault (sym memory) tt
    ])
