-- What all lines make of a replay, one after another.
use Rattle.std.proofs.Common.{◌≡◌, ℕ, zero, suc, ◌+◌, ◌<◌, ◌≤◌, Bool, true, false, List, [], ◌∷◌, ◌++◌, length, take}
use Rattle.std.proofs.Common.{map, Option, Some, None, refl, sym, ap, ap₂, subst, ◌∙◌, inl, inr, arith, length-append}
use Rattle.std.specs.Prelude.{◌==◌, ◌&&◌, if◌then◌else◌, is_none, Result, Ok, Err}
use Rattle.std.proofs.lemmas.Bool.{cases_Bool, eqb-true}
use Rattle.std.proofs.lemmas.List.{take_all}
use Rattle.cm_desk.specs.Desk.{now_of}
use Rattle.cm_document.specs.Lines.{raw_lines}
use Rattle.cm_document.specs.Reading.{◌>>=◌}
use Rattle.cm_document.specs.declared.call.Call.{Call}
use Rattle.cm_document.specs.declared.description.Description.{Description}
use Rattle.cm_document.specs.declared.document.Document.{Document}
use Rattle.cm_document.specs.declared.script.SessionText.{SessionText}
use Rattle.cm_model.proofs.HistoryLemmas.{description_stays}
use Rattle.cm_model.specs.Scheduled.{Session, Progress, next_call}
use Rattle.cm_model.specs.Sessions.{entries_by}
use Rattle.cm_model.specs.State.{State, boot}
use Rattle.cm_model.specs.declared.blanks.Blanks.{Blanks}
use Rattle.cm_model.specs.declared.entry.Entry.{Entry}
use Rattle.console_session.specs.Sessions.{SessionState, left_of}
use Rattle.desk_turns.proofs.NumberLemmas.{heads, tails}
use Rattle.desk_turns.specs.Jobs.{JobFacts, are_through}
use Rattle.trace_laws.specs.Judged.{told_by, replayed, told_before, sessions_are_through}
use Rattle.trace_laws.specs.Judged.{is_through, through_behind, judged}
use Rattle.trace_laws.specs.Next.{next_of_loop, state_of, expected_at}
use Rattle.trace_laws.specs.Told as told
use Rattle.trace_check.specs.Standing.{standing_from, LoopStands, StandsAt}
use Rattle.trace_check.specs.Steps.{HasReplayedLines}
use Rattle.trace_check.specs.declared.fault.WrongLine.{WrongLine}
use Rattle.trace_check.proofs.StandLemmas.{none_left, one_left}

abbrev as_judgement : Result (Unit {0}) told.WrongLine → Result (Unit {0}) told.WrongLine
as_judgement judgement = judgement

-- what has no byte is empty
pub nothing_left : (rest : List ℕ) → (length rest == 0) ≡ true → rest ≡ []
nothing_left [] none = refl
nothing_left (b ∷ bs) none =
    let long : suc (length bs) ≡ 0 = eqb-true (suc (length bs)) 0 none in absurd (omega (arith, long))

-- so many that are taken are there
taken_within : (k : ℕ) (xs : List Entry) → length (take k xs) ≡ k → k ≤ length xs
taken_within zero xs same = omega arith
taken_within (suc k) [] same = absurd (omega (arith, same))
taken_within (suc k) (x ∷ xs) same = let rest = taken_within k xs (omega (arith, same)) in omega (arith, rest)

-- sessions have no call left where those that stand so have none
sessions_through : (first : ℕ) (texts : List SessionText) (xs : List SessionState) (history : List Entry)
    → map left_of xs ≡ standing_from first texts history
    → are_through xs ≡ sessions_are_through first texts history
sessions_through first [] [] history same = refl
sessions_through first [] (x ∷ xs) history same = cc
sessions_through first (t ∷ texts) [] history same = cc
sessions_through first (t ∷ texts) (x ∷ xs) history same =
    ap₂ (λ (a : Bool) (b : Bool). a && b) (ap (λ (s : Session). is_none (next_call s.ticket s.lines)) (heads same))
    (sessions_through (suc first) texts xs history (tails same))

-- the loop is closed where it has none left
loop_through : (cycles : ℕ) (s : State) (es : List Entry) → LoopStands cycles s es → s.description.cycles ≡ cycles
    → s.closed ≡ is_none (next_of_loop cycles es)
loop_through cycles s es stands same = elim (cases_Bool s.closed) [
  | inl shut ↦ shut ∙ sym (ap (λ (o : Option Call). is_none o) (none_left cycles s es stands same shut))
  | inr shut ↦ shut ∙ sym (ap (λ (o : Option Call). is_none o) (one_left cycles s es stands same shut))
]

module _ (document : Document) (blanks : Blanks) (text : List ℕ) where
  -- Where the replay stands with this rest of the text: so many lines told the entries of the job, one each, and to
  -- replay the others from there is to replay them all.
  pub record HasCome (rest : List ℕ) (lines_told : ℕ) (job : JobFacts) : Type 0 where
    pub stands : StandsAt document blanks job.desk.made job
    pub many : length job.desk.made ≡ lines_told
    pub counted : lines_told + length (raw_lines rest) ≡ length (raw_lines text)
    pub short : lines_told + length rest ≤ length text
    pub replays : replayed document blanks job.desk.made (suc lines_told) (raw_lines rest)
        ≡ replayed document blanks [] 1 (raw_lines text)
    pub before : told_before document blanks job.desk.made (raw_lines rest)
        ≡ told_before document blanks [] (raw_lines text)

  pub come_first : (job : JobFacts) → StandsAt document blanks [] job → job.desk.made ≡ [] → HasCome text 0 job
  come_first job stands none = record {
    stands = subst (λ (l : List Entry). StandsAt document blanks l job) (sym none) stands;
    many = ap (λ (l : List Entry). length l) none;
    counted = omega arith;
    short = omega arith;
    replays = ap (λ (l : List Entry). replayed document blanks l 1 (raw_lines text)) none;
    before = ap (λ (l : List Entry). told_before document blanks l (raw_lines text)) none;
  }

  -- what is made of a line that tells this entry, or none
  abbrev on_line : List Entry → ℕ → List ℕ → List (List ℕ) → Option Entry → Result (List Entry) told.WrongLine
  on_line history number line lines o = elim o [
    | None ↦ Err (record { line = number; expected = expected_at document blanks history line })
    | Some e ↦ replayed document blanks (history ++ e ∷ []) (suc number) lines
  ]

  abbrev before_line : List Entry → List (List ℕ) → Option Entry → List Entry
  before_line history lines o =
      elim o [ None ↦ history | Some e ↦ told_before document blanks (history ++ e ∷ []) lines ]

  -- the entries of a job that stands behind a history
  made_is : (history : List Entry) (job : JobFacts) → StandsAt document blanks history job → job.desk.made ≡ history
  made_is history job stands = ap (λ (p : Progress). p.made) stands.progress

  -- one line more
  pub come_more : (rest line more : List ℕ) (lines_told : ℕ) (old new : JobFacts) (e : Entry)
      → HasCome rest lines_told old → raw_lines rest ≡ line ∷ raw_lines more
      → rest ≡ line ++ more → length more < length rest → told_by document blanks old.desk.made line ≡ Some e
      → StandsAt document blanks (old.desk.made ++ e ∷ []) new → HasCome more (lines_told + 1) new
  come_more rest line more lines_told old new e come cut whole shorter told stands =
      let is : new.desk.made ≡ old.desk.made ++ e ∷ [] = made_is (old.desk.made ++ e ∷ []) new stands in
      let longer : length (old.desk.made ++ e ∷ []) ≡ length old.desk.made + 1 = length-append old.desk.made (e ∷ []) in
      let next : suc (lines_told + 1) ≡ suc (suc lines_told) = omega arith in
      let lines : length (raw_lines rest) ≡ suc (length (raw_lines more)) = ap (λ (l : List (List ℕ)). length l) cut in
      record {
        stands = subst (λ (l : List Entry). StandsAt document blanks l new) (sym is) stands;
        many = ap (λ (l : List Entry). length l) is ∙ longer ∙ ap (λ k. k + 1) come.many;
        counted = omega (arith, come.counted, lines);
        short = omega (arith, come.short, shorter);
        replays =
            ap₂ (λ (l : List Entry) (k : ℕ). replayed document blanks l k (raw_lines more)) is next
            ∙ sym (ap (on_line old.desk.made (suc lines_told) line (raw_lines more)) told)
            ∙ sym (ap (replayed document blanks old.desk.made (suc lines_told)) cut) ∙ come.replays;
        before =
            ap (λ (l : List Entry). told_before document blanks l (raw_lines more)) is
            ∙ sym (ap (before_line old.desk.made (raw_lines more)) told)
            ∙ sym (ap (told_before document blanks old.desk.made) cut) ∙ come.before;
      }

  -- ---- A wrong line

  wrong_judged : (wrong : told.WrongLine) → replayed document blanks [] 1 (raw_lines text) ≡ Err wrong
      → Err wrong ≡ judged document blanks text
  unfolding judged
  wrong_judged wrong replay =
      sym (ap (λ (r : Result (List Entry) told.WrongLine). r >>= λ history. through_behind document
      (length (raw_lines text)) history) replay)

  pub come_wrong : (rest line more expected : List ℕ) (lines_told : ℕ) (old new : JobFacts) (wrong : WrongLine)
      → HasCome rest lines_told old → raw_lines rest ≡ line ∷ raw_lines more
      → told_by document blanks old.desk.made line ≡ None → expected ≡ expected_at document blanks old.desk.made line
      → take (length old.desk.made) new.desk.made ≡ old.desk.made
      → wrong.line ≡ lines_told + 1 → wrong.expected ≡ expected
      → HasReplayedLines document blanks text new lines_told (Some wrong)
  come_wrong rest line more expected lines_told old new wrong come cut none expects taken number expects_so =
      let its : lines_told + 1 ≡ suc lines_told = omega arith in
      let ends : replayed document blanks [] 1 (raw_lines text)
      ≡ Err (record { line = suc lines_told; expected = expected_at document blanks old.desk.made line }) =
      sym come.replays ∙ ap (replayed document blanks old.desk.made (suc lines_told)) cut
      ∙ ap (on_line old.desk.made (suc lines_told) line (raw_lines more)) none in
      let front : take lines_told new.desk.made ≡ old.desk.made =
      ap (λ k. take k new.desk.made) (sym come.many) ∙ taken in
      record {
        within = taken_within lines_told new.desk.made (ap (λ (l : List Entry). length l) front ∙ come.many);
        told_is =
            front ∙ sym (ap (before_line old.desk.made (raw_lines more)) none)
            ∙ sym (ap (told_before document blanks old.desk.made) cut) ∙ come.before;
        judged_so =
            ap₂ (λ (k : ℕ) (l : List ℕ). as_judgement (Err (record { line = k; expected = l }))) (number ∙ its)
            (expects_so ∙ expects)
            ∙ wrong_judged (record { line = suc lines_told; expected = expected_at document blanks old.desk.made line })
            ends;
      }

  -- ---- Behind the last line

  -- nobody has a call left where the job says so
  through_is : (history : List Entry) (job : JobFacts) → StandsAt document blanks history job
      → are_through job.sessions && (now_of job.desk).closed ≡ is_through document history
  through_is history job stands =
      let cycles = document.description.cycles in
      let s = state_of document blanks history in
      let es = entries_by (length document.script.sessions) history in
      let same : s.description.cycles ≡ cycles =
      ap (λ (d : Description). d.cycles)
      (description_stays history (boot document.description blanks (length document.script.sessions))) in
      ap₂ (λ (a : Bool) (b : Bool). a && b)
      (sessions_through 0 document.script.sessions job.sessions history
      (ap (λ (p : Progress). p.sessions) stands.progress))
      (ap (λ (p : Progress). p.state.closed) stands.progress ∙ loop_through cycles s es stands.looped same)

  -- the judgement there
  end_judged : (history : List Entry) (through : Bool) → replayed document blanks [] 1 (raw_lines text) ≡ Ok history
      → is_through document history ≡ through
      → ◌≡◌ {A = Result (Unit {0}) told.WrongLine}
      (if through then Ok tt else Err (record { line = suc (length (raw_lines text)); expected = [] }))
      (judged document blanks text)
  unfolding judged
  end_judged history through replay is =
      sym (ap (λ (r : Result (List Entry) told.WrongLine). r >>= λ history. through_behind document
      (length (raw_lines text)) history) replay
      ∙ ap (λ (b : Bool). as_judgement
      (if b then Ok tt else Err (record { line = suc (length (raw_lines text)); expected = [] }))) is)

  module _ (lines_told : ℕ) (job : JobFacts) (come : HasCome [] lines_told job) where
    ended : replayed document blanks [] 1 (raw_lines text) ≡ Ok job.desk.made
    ended = sym come.replays

    all_told : take lines_told job.desk.made ≡ job.desk.made
    all_told = take_all lines_told job.desk.made (omega (arith, come.many))

    pub come_through : are_through job.sessions && (now_of job.desk).closed ≡ true
        → HasReplayedLines document blanks text job lines_told None
    come_through through = record {
      within = omega (arith, come.many);
      told_is = all_told ∙ come.before;
      judged_so = end_judged job.desk.made true ended (sym (through_is job.desk.made job come.stands) ∙ through);
    }

    pub come_short : (wrong : WrongLine) → are_through job.sessions && (now_of job.desk).closed ≡ false
        → wrong.line ≡ lines_told + 1 → wrong.expected ≡ []
        → HasReplayedLines document blanks text job lines_told (Some wrong)
    come_short wrong through number expects =
        let last : lines_told + 1 ≡ suc (length (raw_lines text)) = omega (arith, come.counted) in
        record {
          within = omega (arith, come.many);
          told_is = all_told ∙ come.before;
          judged_so =
              ap₂ (λ (k : ℕ) (l : List ℕ). as_judgement (Err (record { line = k; expected = l }))) (number ∙ last)
              expects
              ∙ end_judged job.desk.made false ended (sym (through_is job.desk.made job come.stands) ∙ through);
        }
