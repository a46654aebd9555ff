-- Replaying a text judges it.
use Rattle.std.proofs.Common.{◌≡◌, ℕ, zero, suc, ◌+◌, ◌-◌, ◌≤◌, ◌<◌, Bool, true, false, List, [], ◌∷◌, ◌++◌}
use Rattle.std.proofs.Common.{length, map, take, Option, Some, None, refl, sym, ap, subst, ◌∙◌, arith}
use Rattle.std.specs.Prelude.{slice_get, if◌then◌else◌, IfSome, Result, Ok, Err}
use Rattle.std.specs.List.{AllByRecursion}
use Rattle.std.specs.Option.{option_map_or}
use Rattle.std.proofs.lemmas.List.{take_all}
use Rattle.std.proofs.lemmas.Option.{slice_get_past}
use Rattle.cm_document.proofs.LineLemmas.{joined_raw_lines}
use Rattle.cm_document.specs.Lines.{raw_lines, joined}
use Rattle.cm_document.specs.Reading.{◌>>=◌}
use Rattle.cm_document.specs.ScriptLaws.{MeetsRules, IsSession}
use Rattle.cm_document.specs.declared.document.Document.{Document}
use Rattle.cm_document.specs.declared.script.SessionText.{SessionText}
use Rattle.cm_model.specs.Machine.{IsLegal}
use Rattle.cm_model.specs.Sessions.{loop_calls}
use Rattle.cm_model.specs.Trace.{output}
use Rattle.cm_model.specs.declared.blanks.Blanks.{Blanks}
use Rattle.cm_model.specs.declared.entry.Entry.{Entry}
use Rattle.trace_laws.specs.Judged.{told_by, replayed, is_through, through_behind, judged}
use Rattle.trace_laws.specs.Next.{expected_at}
use Rattle.trace_laws.specs.OnTheWay.{CanFollow, IsOnItsWay}
use Rattle.trace_laws.specs.Told.{Prints, IsTold, first_lines, WrongLine, IsWrong}
use Rattle.trace_laws.proofs.LineLemmas.{lines_taken}
use Rattle.trace_laws.proofs.ReplayLemmas.{line_in, text_of, replay_is, replay_tells, nothing_replayed}
use Rattle.trace_laws.proofs.ThroughLemmas.{through_whole, whole_through, written_none}
use Rattle.trace_laws.proofs.WayLemmas.{stands_can, whole_way}

module _ (document : Document) (blanks : Blanks) (rules : MeetsRules document.script) (nothing : IsOnItsWay document [])
    (lines_are : (history : List Entry) → IsLegal document.description blanks (length document.script.sessions) history
    → IsOnItsWay document history
    → raw_lines (text_of document blanks rules history) ≡ map (line_in document blanks rules history) history) where
  -- ---- One history

  -- the lines of a text that a history prints tell it
  prints_replayed : (text : List ℕ) (history : List Entry) → Prints document blanks text history
      → replayed document blanks [] 1 (raw_lines text) ≡ Ok history
  unfolding output
  prints_replayed text history prints =
      let lines : raw_lines text ≡ map (line_in document blanks rules history) history =
      ap raw_lines prints.printed ∙ lines_are history prints.legal prints.on_its_way in
      ap (replayed document blanks [] 1) lines
      ∙ replay_tells document blanks rules [] history 1 prints.legal prints.on_its_way

  same_Ok : (a b : List Entry) → ◌≡◌ {A = Result (List Entry) WrongLine} (Ok a) (Ok b) → a ≡ b
  same_Ok a b e = cc

  pub one_history : (text : List ℕ) (one other : List Entry) → Prints document blanks text one
      → Prints document blanks text other → one ≡ other
  one_history text one other first second =
      same_Ok one other (sym (prints_replayed text one first) ∙ prints_replayed text other second)

  -- and what lines tell is begun
  begun_from : (lines : List (List ℕ)) (history : List Entry) → replayed document blanks [] 1 lines ≡ Ok history
      → Prints document blanks (joined lines) history
  unfolding output
  begun_from lines history replay =
      let is = replay_is document blanks rules lines [] history 1 [] (nothing_replayed document blanks rules nothing)
      replay in
      record { legal = is.legal; on_its_way = is.way; printed = sym is.printed }

  -- ---- The first wrong line

  -- What is known of a replay that ends at a wrong line, from this number on: each beginning before it is replayed,
  -- that line too is wrong where the text ends behind it, and this was to come.
  record EndsAt (history : List Entry) (number : ℕ) (lines : List (List ℕ)) (wrong : WrongLine) : Type 0 where
    least : number ≤ wrong.line
    most : wrong.line < number + length lines
    before : (count : ℕ) → number + count ≤ wrong.line
        → (h : List Entry) × (replayed document blanks history number (take count lines) ≡ Ok h)
    there : (count : ℕ) → wrong.line < number + count
        → replayed document blanks history number (take count lines) ≡ Err wrong
    reached : List Entry
    replay : replayed document blanks history number (take (wrong.line - number) lines) ≡ Ok reached
    expects : wrong.expected
        ≡ option_map_or (expected_at document blanks reached) (slice_get lines (wrong.line - number)) []

  -- what is made of a line that tells this entry, or none
  abbrev on_line : List Entry → ℕ → List ℕ → List (List ℕ) → Option Entry → Result (List Entry) WrongLine
  on_line history number line lines o = elim o [
    | None ↦ Err (record { line = number; expected = expected_at document blanks history line })
    | Some e ↦ replayed document blanks (history ++ e ∷ []) (suc number) lines
  ]

  same_Err : (a b : WrongLine) → ◌≡◌ {A = Result (List Entry) WrongLine} (Err a) (Err b) → a ≡ b
  same_Err a b e = cc

  ends_here : (line : List ℕ) (lines : List (List ℕ)) (history : List Entry) (number : ℕ)
      → told_by document blanks history line ≡ None
      → EndsAt history number (line ∷ lines)
      (record { line = number; expected = expected_at document blanks history line })
  ends_here line lines history number told =
      let none : number - number ≡ 0 = omega arith in
      record {
        least = omega arith;
        most = omega arith;
        before = before;
        there = there;
        reached = history;
        replay = rw none refl;
        expects = rw none refl;
      }
    where
      before : (count : ℕ) → number + count ≤ number
          → (h : List Entry) × (replayed document blanks history number (take count (line ∷ lines)) ≡ Ok h)
      before zero less = (history, refl)
      before (suc count) less = absurd (omega (arith, less))

      there : (count : ℕ) → number < number + count
          → replayed document blanks history number (take count (line ∷ lines))
          ≡ Err (record { line = number; expected = expected_at document blanks history line })
      there zero more = absurd (omega (arith, more))
      there (suc count) more = ap (on_line history number line (take count lines)) told

  ends_later : (line : List ℕ) (lines : List (List ℕ)) (history : List Entry) (number : ℕ) (e : Entry)
      (wrong : WrongLine) → told_by document blanks history line ≡ Some e
      → EndsAt (history ++ e ∷ []) (suc number) lines wrong → EndsAt history number (line ∷ lines) wrong
  ends_later line lines history number e wrong told rest =
      let later : suc number ≤ wrong.line = rest.least in
      let one_less : wrong.line - number ≡ suc (wrong.line - suc number) = omega (arith, later) in
      record {
        least = omega (arith, later);
        most = omega (arith, rest.most);
        before = before;
        there = there;
        reached = rest.reached;
        replay = rw one_less
            (ap (on_line history number line (take (wrong.line - suc number) lines)) told ∙ rest.replay);
        expects = rw one_less rest.expects;
      }
    where
      before : (count : ℕ) → number + count ≤ wrong.line
          → (h : List Entry) × (replayed document blanks history number (take count (line ∷ lines)) ≡ Ok h)
      before zero less = (history, refl)
      before (suc count) less =
          let its = rest.before count (omega (arith, less)) in
          (its.0, ap (on_line history number line (take count lines)) told ∙ its.1)

      there : (count : ℕ) → wrong.line < number + count
          → replayed document blanks history number (take count (line ∷ lines)) ≡ Err wrong
      there zero more = absurd (omega (arith, more, rest.least))
      there (suc count) more =
          ap (on_line history number line (take count lines)) told ∙ rest.there count (omega (arith, more))

  ends_at : (lines : List (List ℕ)) (history : List Entry) (number : ℕ) (wrong : WrongLine)
      → replayed document blanks history number lines ≡ Err wrong → EndsAt history number lines wrong
  ends_at [] history number wrong replay = cc
  ends_at (line ∷ lines) history number wrong replay =
      go (λ e ends. ends_at lines (history ++ e ∷ []) (suc number) wrong ends) (told_by document blanks history line)
      refl replay
    where
      go : ((e : Entry) → replayed document blanks (history ++ e ∷ []) (suc number) lines ≡ Err wrong
          → EndsAt (history ++ e ∷ []) (suc number) lines wrong)
          → (o : Option Entry) → told_by document blanks history line ≡ o
          → on_line history number line lines o ≡ Err wrong → EndsAt history number (line ∷ lines) wrong
      go rest None told ends =
          subst (EndsAt history number (line ∷ lines))
          (same_Err (record { line = number; expected = expected_at document blanks history line }) wrong ends)
          (ends_here line lines history number told)
      go rest (Some e) told ends = ends_later line lines history number e wrong told (rest e ends)

  -- each beginning of lines that are replayed is replayed
  all_replayed : (lines : List (List ℕ)) (history h : List Entry) (number : ℕ)
      → replayed document blanks history number lines ≡ Ok h
      → (count : ℕ) → (g : List Entry) × (replayed document blanks history number (take count lines) ≡ Ok g)
  all_replayed lines history h number replay zero = (history, refl)
  all_replayed [] history h number replay (suc count) = (history, refl)
  all_replayed (line ∷ lines) history h number replay (suc count) =
      go (λ e replays. all_replayed lines (history ++ e ∷ []) h (suc number) replays count)
      (told_by document blanks history line) refl replay
    where
      go : ((e : Entry) → replayed document blanks (history ++ e ∷ []) (suc number) lines ≡ Ok h
          → (g : List Entry) × (replayed document blanks (history ++ e ∷ []) (suc number) (take count lines) ≡ Ok g))
          → (o : Option Entry) → told_by document blanks history line ≡ o → on_line history number line lines o ≡ Ok h
          → (g : List Entry)
          × (on_line history number line (take count lines) (told_by document blanks history line) ≡ Ok g)
      go rest None told replays = cc
      go rest (Some e) told replays =
          let its = rest e replays in
          (its.0, ap (on_line history number line (take count lines)) told ∙ its.1)

  -- ---- The judgement

  told_prints : (text : List ℕ) (told : IsTold document blanks text) → Prints document blanks text told.history
  told_prints text told =
      record { legal = told.legal; on_its_way = whole_way document told.history told.whole; printed = told.printed }

  through_from : (lines : ℕ) (h : List Entry) → through_behind document lines h ≡ Ok tt → is_through document h ≡ true
  through_from lines h through = either (is_through document h) refl through
    where
      either : (b : Bool) → is_through document h ≡ b
          → ◌≡◌ {A = Result (Unit {0}) WrongLine}
          (if b then Ok tt else Err (record { line = suc lines; expected = [] })) (Ok tt) → is_through document h ≡ true
      either true is through = is
      either false is through = cc

  pub judged_told : (text : List ℕ) → judged document blanks text ≡ Ok tt → IsTold document blanks text
  unfolding judged
  judged_told text judgement = go (replayed document blanks [] 1 (raw_lines text)) refl judgement
    where
      go : (r : Result (List Entry) WrongLine) → replayed document blanks [] 1 (raw_lines text) ≡ r
          → (r >>= λ h. through_behind document (length (raw_lines text)) h) ≡ Ok tt → IsTold document blanks text
      go (Err wrong) at judgement = cc
      go (Ok h) at judgement =
          let prints = begun_from (raw_lines text) h at in
          record {
            history = h;
            legal = prints.legal;
            whole = through_whole document h prints.on_its_way (through_from (length (raw_lines text)) h judgement);
            printed = sym (joined_raw_lines text) ∙ prints.printed;
          }

  -- a line is wrong
  wrong_line : (text : List ℕ) (wrong : WrongLine) → replayed document blanks [] 1 (raw_lines text) ≡ Err wrong
      → IsWrong document blanks text wrong
  wrong_line text wrong replay =
      let ends = ends_at (raw_lines text) [] 1 wrong replay in
      record {
        at = record {
          not_told = λ told. let other = prints_replayed text told.history (told_prints text told) in cc;
          first = ends.least;
          last = omega (arith, ends.most);
          before = λ count less. let its =
              ends.before count (omega (arith, less)) in (its.0, begun_from (take count (raw_lines text)) its.0 its.1);
          there = λ within begun.
              let whole = ap (replayed document blanks [] 1) (sym (lines_taken text wrong.line))
              ∙ prints_replayed (first_lines wrong.line text) begun.0 begun.1 in
              let cut = ends.there wrong.line (omega arith) in cc;
        };
        history = ends.reached;
        so_far = begun_from (take (wrong.line - 1) (raw_lines text)) ends.reached ends.replay;
        expected = ends.expects;
      }

  -- a line is missing
  missing_line : (text : List ℕ) (h : List Entry) → replayed document blanks [] 1 (raw_lines text) ≡ Ok h
      → is_through document h ≡ false
      → IsWrong document blanks text (record { line = suc (length (raw_lines text)); expected = [] })
  missing_line text h replay more =
      let lines = raw_lines text in
      let n = length lines in
      let size : suc n - 1 ≡ n = omega arith in
      let whole : take (suc n - 1) lines ≡ lines = ap (λ k. take k lines) size ∙ take_all n lines (omega arith) in
      let past : slice_get lines (suc n - 1) ≡ None =
      ap (slice_get lines) size ∙ slice_get_past lines n (omega arith) in
      record {
        at = record {
          not_told = λ told.
              let same : h ≡ told.history =
              same_Ok h told.history (sym replay ∙ prints_replayed text told.history (told_prints text told)) in
              let through = whole_through document told.history told.whole in
              let other : is_through document told.history ≡ false = ap (is_through document) (sym same) ∙ more in cc;
          first = omega arith;
          last = omega arith;
          before = λ count less. let its =
              all_replayed lines [] h 1 replay count in (its.0, begun_from (take count lines) its.0 its.1);
          there = λ within begun. absurd (omega (arith, within));
        };
        history = h;
        so_far = subst (λ (l : List (List ℕ)). Prints document blanks (joined l) h) (sym whole)
            (begun_from lines h replay);
        expected = ap (λ (o : Option (List ℕ)). option_map_or (expected_at document blanks h) o []) (sym past);
      }

  pub judged_wrong : (text : List ℕ) (wrong : WrongLine) → judged document blanks text ≡ Err wrong
      → IsWrong document blanks text wrong
  unfolding judged
  judged_wrong text wrong judgement = go (replayed document blanks [] 1 (raw_lines text)) refl judgement
    where
      n : ℕ
      n = length (raw_lines text)

      same_wrong : (a b : WrongLine) → ◌≡◌ {A = Result (Unit {0}) WrongLine} (Err a) (Err b) → a ≡ b
      same_wrong a b e = cc

      behind : (h : List Entry) (b : Bool) → replayed document blanks [] 1 (raw_lines text) ≡ Ok h
          → is_through document h ≡ b
          → ◌≡◌ {A = Result (Unit {0}) WrongLine}
          (if b then Ok tt else Err (record { line = suc (length (raw_lines text)); expected = [] })) (Err wrong)
          → IsWrong document blanks text wrong
      behind h true at through ended = cc
      behind h false at through ended =
          subst (IsWrong document blanks text)
          (same_wrong (record { line = suc (length (raw_lines text)); expected = [] }) wrong ended)
          (missing_line text h at through)

      go : (r : Result (List Entry) WrongLine) → replayed document blanks [] 1 (raw_lines text) ≡ r
          → (r >>= λ h. through_behind document (length (raw_lines text)) h) ≡ Err wrong
          → IsWrong document blanks text wrong
      go (Err other) at judgement =
          wrong_line text wrong (at ∙ ap (λ (w : WrongLine). Err w) (same_wrong other wrong judgement))
      go (Ok h) at judgement = behind h (is_through document h) at refl judgement

-- ---- Before the first line

-- a session before its first line can follow its lines
nothing_follows : (sessions : List SessionText) (k : ℕ) → AllByRecursion IsSession sessions
    → IfSome (slice_get sessions k) (λ s. CanFollow s.lines [])
nothing_follows [] k all = tt
nothing_follows (s ∷ sessions) zero all =
    stands_can s.lines [] (written_none s.lines all.0.written) (record { goes = tt; in_order = refl })
nothing_follows (s ∷ sessions) (suc k) all = nothing_follows sessions k all.1

pub nothing_way : (document : Document) → MeetsRules document.script → IsOnItsWay document []
nothing_way document rules = record {
  sessions = λ k. nothing_follows document.script.sessions k rules.sessions;
  cycles = (loop_calls document.description.cycles, refl);
  nobody_else = tt;
}
