-- The run of a made document.
use Rattle.std.specs.Prelude.{◌≡◌, ℕ, ◌+◌, ◌*◌, List, codes}
use Rattle.cm_model.specs.Scheduled.{scheduled}
use Rattle.cm_model.specs.declared.blanks.Blanks.{Blanks}
use Rattle.cm_model.specs.declared.entry.Entry.{Entry}
use Rattle.cm_model.specs.Blanks.{blanks_of_each}
use Rattle.cm_program.specs.declared.stock.TheConstants.{BLANKS}
use Rattle.make_document.specs.Meant.{made_document}
use Rattle.summary_text.specs.Counted.{Counted}
use Rattle.summary_text.specs.Summary.{summary}

-- the stock of the program: so many blanks of each kind
abbrev pub stocked : Blanks
stocked = blanks_of_each BLANKS

-- the history of the run of so many rounds
abbrev pub run_of : ℕ → List Entry
run_of rounds = scheduled (made_document rounds) stocked

-- its summary
abbrev pub summed_up : ℕ → List ℕ
summed_up rounds = summary (made_document rounds).description (run_of rounds)

-- the summaries of the runs of one round and of two, as they were written down by hand
abbrev pub summary_of_one : List ℕ
summary_of_one =
    codes
    "cycles 10\nentries 45\nupdates 79\nasks 3 done 3 refused 0 ended 0\njoint j0 0.000000\njoint j1 0.090000\njoint j2 0.000000\njoint j3 0.000000\njoint j4 0.000000\njoint j5 0.000000\njoint j6 0.000000\njoint j7 0.000000\n"

abbrev pub summary_of_two : List ℕ
summary_of_two =
    codes
    "cycles 20\nentries 71\nupdates 158\nasks 5 done 5 refused 0 ended 0\njoint j0 0.000000\njoint j1 0.190000\njoint j2 0.100000\njoint j3 0.000000\njoint j4 0.000000\njoint j5 0.000000\njoint j6 0.000000\njoint j7 0.000000\n"

-- The counts of so many rounds: ten cycles a round; 26 entries a round, and 19 besides; in a round eight controllers
-- are updated in each cycle but one, and in that seven; and two requests a round with one besides, which are all
-- carried out.
pub record AreCounts (rounds : ℕ) (c : Counted) : Type 0 where
  pub cycles : c.cycles ≡ 10 * rounds
  pub entries : c.entries ≡ 19 + 26 * rounds
  pub updates : c.updates ≡ 79 * rounds
  pub done : c.done ≡ 1 + 2 * rounds
  pub refused : c.refused ≡ 0
  pub ended : c.ended ≡ 0
