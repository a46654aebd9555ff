-- What one line makes of a replay.
use Rattle.std.proofs.Common.{◌≡◌, ℕ, suc, ◌+◌, ◌≤◌, Bool, true, false, List, [], ◌∷◌, ◌++◌, length, take, map}
use Rattle.std.proofs.Common.{Option, Some, None, refl, sym, ap, ap₂, subst, ◌∙◌, arith, append-nil, length-append}
use Rattle.std.specs.Prelude.{◌-◌, nat_lt, nat_eq, slice_get, if◌then◌else◌}
use Rattle.std.specs.Cmp.Lexicographic.{pointwise}
use Rattle.std.specs.List.{cons_option}
use Rattle.std.specs.Option.{option_map_or}
use Rattle.std.proofs.lemmas.Bool.Decides.{nat_tests}
use Rattle.std.proofs.lemmas.List.{take_all, take_at}
use Rattle.std.proofs.lemmas.Option.{same_Some}
use Rattle.std.proofs.lemmas.List.Elements.{filter_map-append}
use Rattle.cm_document.specs.Lines.{without_last}
use Rattle.cm_document.specs.ScriptLaws.{MeetsRules}
use Rattle.cm_document.specs.declared.description.Description.{Description}
use Rattle.cm_document.specs.declared.document.Document.{Document}
use Rattle.cm_document.specs.declared.script.SessionText.{SessionText}
use Rattle.cm_model.specs.Scheduled.{Session, Progress, start}
use Rattle.cm_model.specs.State.{boot}
use Rattle.cm_model.specs.Trace.{loaded_by, names_of, names_in, line_text}
use Rattle.cm_model.specs.declared.blanks.Blanks.{Blanks}
use Rattle.cm_model.specs.declared.entry.Entry.{Entry}
use Rattle.desk_turns.specs.Jobs.{JobFacts, progress_of}
use Rattle.trace_laws.specs.Judged.{if_it_prints, told_by}
use Rattle.trace_laws.specs.Next.{caller_named, first_word, next_entry, entry_by, entry_named, entry_line, expected_at}
use Rattle.trace_text.specs.OneByOne.{LinesFacts, with_name, with_line}
use Rattle.trace_check.specs.Standing.{standing_from, progress_at, StandsAt, KnowsNames}
use Rattle.trace_check.specs.Steps.{IsDescribed, made_next, HasMadeNext, named_by, with_load}
use Rattle.trace_check.proofs.NextLemmas.{next_goes}
use Rattle.trace_check.proofs.StandLemmas.{GoesSo}

-- ---- Before the first line

first_standing : (first : ℕ) (texts : List SessionText)
    → map (λ (text : SessionText). record { lines = text.lines; ticket = None }) texts ≡ standing_from first texts []
first_standing first [] = refl
first_standing first (t ∷ texts) =
    ap (λ (xs : List Session). record { lines = t.lines; ticket = None } ∷ xs) (first_standing (suc first) texts)

pub stands_first : (document : Document) (blanks : Blanks) (job : JobFacts)
    → job.desk.opening ≡ boot document.description blanks (length document.script.sessions)
    → progress_of job ≡ start document blanks → StandsAt document blanks [] job
unfolding start
stands_first document blanks job opening started = record {
  opening = opening;
  progress =
      started
      ∙ ap (λ (xs : List Session). record
      { state = boot document.description blanks (length document.script.sessions); made = []; sessions = xs })
      (first_standing 0 document.script.sessions);
  legal = tt;
  looped = record { calls = refl; within = omega arith; flying = λ up. cc; last = λ shut. cc };
}

-- ---- A call

-- A caller's next call was made, or it has none that is enabled.
pub record HasTurned (document : Document) (blanks : Blanks) (who : ℕ) (made : Bool) (old new : JobFacts) : Type 0 where
  pub none : made ≡ false → (next_entry document blanks old.desk.made who ≡ None) × (new.desk.made ≡ old.desk.made)
  pub some : made ≡ true
      → (e : Entry) × (next_entry document blanks old.desk.made who ≡ Some e)
      × StandsAt document blanks (old.desk.made ++ e ∷ []) new × IsDescribed document.description e

more_is_more : (n : ℕ) → nat_lt n (n + 1) ≡ true
more_is_more n = grind (arith, nat_tests)

same_is_none : (n : ℕ) → nat_lt n n ≡ false
same_is_none n = grind (arith, nat_tests)

module _ (document : Document) (blanks : Blanks) (rules : MeetsRules document.script) (who : ℕ)
    (few : who ≤ length document.script.sessions) where
  pub has_turned : (made : Bool) (old new : JobFacts) → StandsAt document blanks old.desk.made old
      → HasMadeNext made who old new → HasTurned document blanks who made old new
  has_turned made old new stands turn =
      let moved : progress_of new ≡ made_next who (progress_at document blanks old.desk.made) =
      turn.moved.moved ∙ ap (made_next who) stands.progress in
      go (next_entry document blanks old.desk.made who) refl
      (next_goes document blanks rules old.desk.made stands.legal stands.looped who few) moved
    where
      go : (o : Option Entry) → next_entry document blanks old.desk.made who ≡ o
          → GoesSo document blanks old.desk.made (made_next who (progress_at document blanks old.desk.made)) o
          → progress_of new ≡ made_next who (progress_at document blanks old.desk.made)
          → HasTurned document blanks who made old new
      go None next goes moved =
          let same : new.desk.made ≡ old.desk.made = ap (λ (p : Progress). p.made) (moved ∙ goes) in
          let not_made : made ≡ false =
          turn.told ∙ ap (λ (l : List Entry). nat_lt (length old.desk.made) (length l)) same
          ∙ same_is_none (length old.desk.made) in
          record { none = λ it. (next, same); some = λ it. (let wrong : true ≡ false = sym it ∙ not_made in cc) }
      go (Some e) next goes moved =
          let longer : new.desk.made ≡ old.desk.made ++ e ∷ [] =
          ap (λ (p : Progress). p.made) (moved ∙ goes.progress_is) in
          let is_made : made ≡ true =
          turn.told ∙ ap (λ (l : List Entry). nat_lt (length old.desk.made) (length l)) longer
          ∙ ap (nat_lt (length old.desk.made)) (length-append old.desk.made (e ∷ []))
          ∙ more_is_more (length old.desk.made) in
          record {
            none = λ it. (let wrong : true ≡ false = sym is_made ∙ it in cc);
            some = λ it. (
              e,
              next,
              record {
                opening = turn.moved.opening ∙ stands.opening;
                progress = moved ∙ goes.progress_is;
                legal =
                    goes.legal;
                looped = goes.looped;
              },
              goes.described,
            );
          }

-- ---- A line that tells no entry

module _ (document : Document) (blanks : Blanks) (history : List Entry) (line : List ℕ) where
  -- nobody of that name
  pub named_none : caller_named document.script.sessions (first_word line) ≡ None
      → entry_named document blanks history line ≡ None
  named_none none = ap (entry_by document blanks history) none

  -- the next entry of the one of that name
  pub named_next : (who : ℕ) (o : Option Entry) → caller_named document.script.sessions (first_word line) ≡ Some who
      → next_entry document blanks history who ≡ o
      → entry_named document blanks history line ≡ o
  named_next who o named next = ap (entry_by document blanks history) named ∙ next

  pub told_none : entry_named document blanks history line ≡ None → told_by document blanks history line ≡ None
  told_none none = ap (if_it_prints document history line) none

  pub expected_none : entry_named document blanks history line ≡ None → [] ≡ expected_at document blanks history line
  expected_none none =
      sym (ap (λ (o : Option Entry). option_map_or (λ (e : Entry). without_last 10 (entry_line document history e)) o
      []) none)

  pub told_same : (e : Entry) → entry_named document blanks history line ≡ Some e
      → pointwise nat_eq (entry_line document history e) line ≡ true → told_by document blanks history line ≡ Some e
  told_same e named same =
      ap (if_it_prints document history line) named ∙ ap (λ (b : Bool). if b then Some e else None) same

  pub told_other : (e : Entry) → entry_named document blanks history line ≡ Some e
      → pointwise nat_eq (entry_line document history e) line ≡ false → told_by document blanks history line ≡ None
  told_other e named other =
      ap (if_it_prints document history line) named ∙ ap (λ (b : Bool). if b then Some e else None) other

  pub expected_other : (e : Entry) → entry_named document blanks history line ≡ Some e
      → without_last 10 (entry_line document history e) ≡ expected_at document blanks history line
  expected_other e named =
      sym (ap (λ (o : Option Entry). option_map_or (λ (e : Entry). without_last 10 (entry_line document history e)) o
      []) named)

-- the first of some more are those that were there
pub taken_same : (xs ys : List Entry) → ys ≡ xs → take (length xs) ys ≡ xs
taken_same xs ys same = ap (take (length xs)) same ∙ take_all (length xs) xs (omega arith)

pub taken_front : (xs ys : List Entry) (e : Entry) → ys ≡ xs ++ e ∷ [] → take (length xs) ys ≡ xs
taken_front xs ys e longer = ap (take (length xs)) longer ∙ take_at xs (e ∷ []) (length xs) refl

-- ---- Names

named_with : (d : Description) (history : List Entry) (e : Entry) (lines : LinesFacts) (o : Option (List ℕ))
    → loaded_by e.call e.reply ≡ o → lines.names ≡ names_in d history
    → (named_by o lines).names ≡ names_in d (history ++ e ∷ [])
named_with d history e lines o is names =
    let more : names_of (history ++ e ∷ []) ≡ names_of history ++ cons_option o [] =
    filter_map-append (λ (each : Entry). loaded_by each.call each.reply) history (e ∷ [])
    ∙ ap (λ (name : Option (List ℕ)). names_of history ++ cons_option name []) is in
    by o more
  where
    by : (o : Option (List ℕ)) → names_of (history ++ e ∷ []) ≡ names_of history ++ cons_option o []
        → (named_by o lines).names ≡ names_in d (history ++ e ∷ [])
    by None more =
        names ∙ ap (λ l. record (names_in d history) { controllers = l }) (sym (more ∙ append-nil (names_of history)))
    by (Some name) more =
        ap (λ n. with_name n name) names ∙ ap (λ l. record (names_in d history) { controllers = l }) (sym more)

named_sessions : (lines : LinesFacts) (o : Option (List ℕ)) → (named_by o lines).sessions ≡ lines.sessions
named_sessions lines None = refl
named_sessions lines (Some name) = refl

-- with the load of the entry the names behind it are known
pub knows_more : (document : Document) (history : List Entry) (e : Entry) (lines : LinesFacts)
    → KnowsNames document history lines
    → KnowsNames document (history ++ e ∷ []) (with_line (with_load lines e) e)
knows_more document history e lines knows = record {
  sessions = named_sessions lines (loaded_by e.call e.reply) ∙ knows.sessions;
  names = named_with document.description history e lines (loaded_by e.call e.reply) refl knows.names;
}

-- and its line is made
pub line_made : (document : Document) (history : List Entry) (e : Entry) (lines : LinesFacts)
    → KnowsNames document history lines
    → (with_line (with_load lines e) e).line ≡ entry_line document history e
line_made document history e lines knows =
    let more = knows_more document history e lines knows in
    ap₂ (λ (sessions : List SessionText) names. line_text sessions names e) more.sessions more.names

-- ---- What a call comes to

last_of : (history : List Entry) (e : Entry) → slice_get (history ++ e ∷ []) (length history) ≡ Some e
last_of [] e = refl
last_of (x ∷ xs) e = last_of xs e

-- the last of some entries and one more is that one
last_is : (history made : List Entry) (e x : Entry) → made ≡ history ++ e ∷ []
    → Some x ≡ slice_get made (length made - 1) → x ≡ e
last_is history made e x whole last =
    let long : length made ≡ length history + 1 = ap length whole ∙ length-append history (e ∷ []) in
    let at : length made - 1 ≡ length history = omega (arith, long) in
    same_Some x e (last ∙ ap₂ slice_get whole at ∙ last_of history e)

module _ (document : Document) (blanks : Blanks) (who : ℕ) (old new : JobFacts) (x : Entry) where
  -- the entry that was made
  abbrev pub WasMade : Type 0
  WasMade = (e : Entry) × (next_entry document blanks old.desk.made who ≡ Some e)
      × StandsAt document blanks (old.desk.made ++ e ∷ []) new × IsDescribed document.description e

  -- it stands last in the history
  abbrev pub IsLast : Type 0
  IsLast = Some x ≡ slice_get new.desk.made (length new.desk.made - 1)

  is_it : (e : Entry) → StandsAt document blanks (old.desk.made ++ e ∷ []) new → IsLast → x ≡ e
  is_it e stands last = last_is old.desk.made new.desk.made e x (ap (λ (p : Progress). p.made) stands.progress) last

  -- what it loads is described
  pub described_last : WasMade → IsLast → IsDescribed document.description x
  described_last (e, next, stands, described) last =
      subst (IsDescribed document.description) (sym (is_it e stands last)) described

  module _ (line : List ℕ) (lines lines' : LinesFacts)
      (named : caller_named document.script.sessions (first_word line) ≡ Some who)
      (knows : KnowsNames document old.desk.made lines)
      (is_made : lines' ≡ with_line (with_load lines x) x) where
    its_line : (e : Entry) → x ≡ e → lines'.line ≡ entry_line document old.desk.made e
    its_line e same =
        ap (λ (l : LinesFacts). l.line) is_made ∙ ap (λ (y : Entry). (with_line (with_load lines y) y).line) same
        ∙ line_made document old.desk.made e lines knows

    known : (e : Entry) → x ≡ e → KnowsNames document (old.desk.made ++ e ∷ []) lines'
    known e same =
        subst (KnowsNames document (old.desk.made ++ e ∷ []))
        (sym (is_made ∙ ap (λ (y : Entry). with_line (with_load lines y) y) same))
        (knows_more document old.desk.made e lines knows)

    -- its line came
    pub line_told : WasMade → IsLast → pointwise nat_eq lines'.line line ≡ true
        → (e : Entry) × (told_by document blanks old.desk.made line ≡ Some e)
        × StandsAt document blanks (old.desk.made ++ e ∷ []) new × KnowsNames document (old.desk.made ++ e ∷ []) lines'
    line_told (e, next, stands, described) last came =
        let same = is_it e stands last in
        let entry = named_next document blanks old.desk.made line who (Some e) named next in (
          e,
          told_same document blanks old.desk.made line e entry
              (ap (λ (l : List ℕ). pointwise nat_eq l line) (sym (its_line e same)) ∙ came),
          stands,
          known e same,
        )

    -- another line came
    pub line_other : WasMade → IsLast → pointwise nat_eq lines'.line line ≡ false
        → (told_by document blanks old.desk.made line ≡ None)
        × (without_last 10 lines'.line ≡ expected_at document blanks old.desk.made line)
        × (take (length old.desk.made) new.desk.made ≡ old.desk.made)
    line_other (e, next, stands, described) last other =
        let same = is_it e stands last in
        let entry = named_next document blanks old.desk.made line who (Some e) named next in (
          told_other document blanks old.desk.made line e entry
              (ap (λ (l : List ℕ). pointwise nat_eq l line) (sym (its_line e same)) ∙ other),
          ap (without_last 10) (its_line e same) ∙ expected_other document blanks old.desk.made line e entry,
          taken_front old.desk.made new.desk.made e (ap (λ (p : Progress). p.made) stands.progress),
        )
