-- Where sessions and the loop stand, and the loop's next call.
use Rattle.std.proofs.Common.{◌≡◌, ℕ, zero, suc, ◌+◌, ◌<◌, ◌≤◌, Bool, true, false, List, []}
use Rattle.std.proofs.Common.{◌∷◌, ◌++◌, length, slice_set, Option, Some, None, ltb-true}
use Rattle.std.proofs.Common.{length-append, refl, sym, ap, ap₂, subst, ◌∙◌, inl, inr, arith}
use Rattle.std.specs.Prelude.{◌==◌, ◌&&◌, not, nat_lt, slice_get, option_map, if◌then◌else◌}
use Rattle.std.specs.List.{AllByRecursion, list_any, position_or_len}
use Rattle.std.proofs.lemmas.Bool.{cases_Bool, le-ltb}
use Rattle.std.proofs.lemmas.Bool.Decides.{nat_tests}
use Rattle.std.proofs.lemmas.Option.{cond_some, same_Some}
use Rattle.iface_names.specs.Names.{same_name}
use Rattle.cm_document.specs.ScriptLaws.{CanBeWritten}
use Rattle.cm_document.specs.declared.call.Call.{Call}
use Rattle.cm_document.specs.declared.call.Call.TheVariants.{Load, Told, Begin, End, Close}
use Rattle.cm_document.specs.declared.description.CtlDesc.{CtlDesc}
use Rattle.cm_document.specs.declared.document.Document.{Document}
use Rattle.cm_document.specs.declared.script.SessionText.{SessionText}
use Rattle.cm_model.proofs.StayLemmas.{step-IsStep, boundary-SameLoop}
use Rattle.cm_model.specs.Commit.{commit}
use Rattle.cm_model.specs.Console.{unless_refused, place_of}
use Rattle.cm_model.specs.Cycle.{after_cycle}
use Rattle.cm_model.specs.Histories.{SameLoop}
use Rattle.cm_model.specs.Machine.{IsLegal, is_loop, can_close, load_refusals, reply_of, effect, answered, step}
use Rattle.cm_model.specs.Scheduled.{Session, Progress, next_call, looped, with_entry}
use Rattle.cm_model.specs.Sessions.{IsConsole, entries_by, loop_calls}
use Rattle.cm_model.specs.State.{State}
use Rattle.cm_model.specs.declared.blanks.Blanks.{Blanks}
use Rattle.cm_model.specs.declared.entry.Entry.{Entry}
use Rattle.cm_model.specs.declared.reply.Reply.{Reply}
use Rattle.cm_model.specs.declared.reply.Reply.TheVariants as reply
use Rattle.cm_model.specs.declared.reply.Why.TheVariants as why
use Rattle.desk_turns.proofs.JobLemmas.{begin_next, close_next, end_next}
use Rattle.desk_turns.specs.Jobs.{loop_call}
use Rattle.trace_laws.specs.Next.{stands_after, next_of_loop}
use Rattle.trace_laws.proofs.ThroughLemmas.{other_split}
use Rattle.trace_laws.proofs.WayLemmas.{own_split}
use Rattle.trace_check.specs.Standing.{standing_from, progress_at, one_if, LoopStands, LoopStandsAt}
use Rattle.trace_check.specs.Steps.{IsDescribed}
use Rattle.trace_check.proofs.LoopCallLemmas.{begin_at, end_at, close_at, none_behind}

-- ---- Where sessions stand

pub own_test : (n : ℕ) → (n == n) ≡ true
own_test n = grind (arith, nat_tests)

pub differs : (m n : ℕ) → m < n → (m == n) ≡ false
differs m n less = grind (arith, nat_tests, less)

pub differs_above : (m n : ℕ) → n < m → (m == n) ≡ false
differs_above m n less = grind (arith, nat_tests, less)

pub standing_at : (first : ℕ) (texts : List SessionText) (history : List Entry) (k : ℕ) (text : SessionText)
    → slice_get texts k ≡ Some text
    → slice_get (standing_from first texts history) k ≡ Some (stands_after text.lines (entries_by (first + k) history))
standing_at first [] history k text at = cc
standing_at first (t ∷ texts) history zero text at =
    let same : t ≡ text = same_Some t text at in
    let number : first ≡ first + 0 = omega arith in
    ap (λ (x : SessionText). Some (stands_after x.lines (entries_by first history))) same
    ∙ ap (λ m. Some (stands_after text.lines (entries_by m history))) number
standing_at first (t ∷ texts) history (suc k) text at =
    let number : suc first + k ≡ first + suc k = omega arith in
    standing_at (suc first) texts history k text at
    ∙ ap (λ m. Some (stands_after text.lines (entries_by m history))) number

-- where none of them made the entry they stand as before
pub standing_past : (first : ℕ) (texts : List SessionText) (history : List Entry) (e : Entry)
    → ((k : ℕ) → k < length texts → (e.who == first + k) ≡ false)
    → standing_from first texts (history ++ e ∷ []) ≡ standing_from first texts history
standing_past first [] history e other = refl
standing_past first (t ∷ texts) history e other =
    let here : (e.who == first) ≡ false = subst (λ n. (e.who == n) ≡ false) (same_zero first) (other 0 (omega arith)) in
    ap₂ (λ (x : Session) (xs : List Session). x ∷ xs)
    (ap (stands_after t.lines) (other_split first history e here))
    (standing_past (suc first) texts history e
    (λ k less. subst (λ n. (e.who == n) ≡ false) (moved first k) (other (suc k) (omega (arith, less)))))
  where
    same_zero : (n : ℕ) → n + 0 ≡ n
    same_zero n = omega arith

    moved : (n k : ℕ) → n + suc k ≡ suc n + k
    moved n k = omega arith

-- the one that made it stands where the entry leaves it
pub standing_on : (first : ℕ) (texts : List SessionText) (history : List Entry) (k : ℕ) (text : SessionText) (e : Entry)
    (x : Session) → slice_get texts k ≡ Some text → e.who ≡ first + k
    → stands_after text.lines (entries_by (first + k) history ++ e ∷ []) ≡ x
    → standing_from first texts (history ++ e ∷ []) ≡ slice_set (standing_from first texts history) k x
standing_on first [] history k text e x at who stands = cc
standing_on first (t ∷ texts) history zero text e x at who stands =
    let same : t ≡ text = same_Some t text at in
    let number : first + 0 ≡ first = omega arith in
    let own : e.who ≡ first = who ∙ number in
    let mine : (e.who == first) ≡ true = subst (λ n. (n == first) ≡ true) (sym own) (own_test first) in
    let split : entries_by first (history ++ e ∷ []) ≡ entries_by first history ++ e ∷ [] =
    own_split first history [] e mine in
    ap₂ (λ (y : Session) (ys : List Session). y ∷ ys)
    (ap (stands_after t.lines) split
    ∙ ap (λ (each : SessionText). stands_after each.lines (entries_by first history ++ e ∷ [])) same
    ∙ subst (λ n. stands_after text.lines (entries_by n history ++ e ∷ []) ≡ x) number stands)
    (standing_past (suc first) texts history e (λ k less. differs e.who (suc first + k) (omega (arith, own))))
standing_on first (t ∷ texts) history (suc k) text e x at who stands =
    let number : first + suc k ≡ suc first + k = omega arith in
    let other : (e.who == first) ≡ false = differs_above e.who first (omega (arith, who)) in
    ap₂ (λ (y : Session) (ys : List Session). y ∷ ys) (ap (stands_after t.lines) (other_split first history e other))
    (standing_on (suc first) texts history k text e x at (who ∙ number)
    (subst (λ n. stands_after text.lines (entries_by n history ++ e ∷ []) ≡ x) number stands))

-- ---- What a load names is described

any_within : (test : CtlDesc → Bool) (cs : List CtlDesc) → position_or_len test cs < length cs → list_any test cs ≡ true
any_within test [] less = absurd (omega (arith, less))
any_within test (c ∷ cs) less = elim (cases_Bool (test c)) [
  | inl passes ↦ rw passes refl
  | inr fails ↦ let later : 1 + position_or_len test cs < suc (length cs) =
      rw fails at less in rw fails (any_within test cs (omega (arith, later)))
]

pub described_entry : (s : State) (who : ℕ) (call : Call) (r : Reply) → reply_of s call ≡ Some r
    → IsDescribed s.description (record { who = who; call = call; reply = r })
described_entry s who call (reply.Serial n) told = by_call call told
  where
    by_place : (name : List ℕ) (o : Option ℕ) → place_of s name ≡ o
        → unless_refused (load_refusals s o) (reply.Serial s.loads) ≡ reply.Serial n
        → list_any (λ (c : CtlDesc). same_name c.name name) s.description.controllers ≡ true
    by_place name None at told = let refused : reply.Not why.NotDescribed ≡ reply.Serial n = told in cc
    by_place name (Some place) at told =
        any_within (λ (c : CtlDesc). same_name c.name name) s.description.controllers
        (ltb-true _ _ (cond_some _ _ _ at).0)

    by_call : (call : Call) → reply_of s call ≡ Some (reply.Serial n)
        → IsDescribed s.description (record { who = who; call = call; reply = reply.Serial n })
    by_call (Load name) told =
        by_place name (place_of s name) refl
        (same_Some (unless_refused (load_refusals s (place_of s name)) (reply.Serial s.loads)) (reply.Serial n) told)
    by_call _ told = tt
described_entry s who call _ told = tt

-- ---- Sessions make calls of a console

written_console : (call : Call) → CanBeWritten call → IsConsole call
written_console (Begin n) can = absurd can
written_console (End n) can = absurd can
written_console Close can = absurd can
written_console _ can = tt

pub next_console : (ticket : Option ℕ) (lines : List Call) (call : Call) → AllByRecursion CanBeWritten lines
    → next_call ticket lines ≡ Some call → IsConsole call
next_console (Some ticket) lines call can next = subst IsConsole (same_Some (Told ticket) call next) tt
next_console None [] call can next = cc
next_console None (line ∷ lines) call can next = subst IsConsole (same_Some line call next) (written_console line can.0)

-- ---- The loop

-- a call of a console leaves it where it stands
pub loop_same : (cycles : ℕ) (s t : State) (es : List Entry) → SameLoop s t → LoopStands cycles s es
    → LoopStands cycles t es
loop_same cycles s t es same stands = record {
  calls = rw (same.ended, same.aloft, same.closed) stands.calls;
  within = rw same.ended stands.within;
  flying = λ up. rw same.ended (stands.flying (sym same.aloft ∙ up));
  last = λ shut. (let was = stands.last (sym same.closed ∙ shut) in (same.ended ∙ was.0, same.aloft ∙ was.1));
}

pub looped_none : (call : Call) (p : Progress) → step p.state p.state.sessions call ≡ None → looped call p ≡ p
unfolding looped
looped_none call p none = rw (none, looped) refl

pub looped_some : (call : Call) (p : Progress) (next : State) (r : Reply)
    → step p.state p.state.sessions call ≡ Some (next, r)
    → looped call p ≡ record { state = next; made = with_entry p.made p.state.sessions call r; sessions = p.sessions }
unfolding looped
looped_some call p next r stepped = rw (stepped, looped) refl

-- How a caller's next call goes on from a history: it made this entry, which a caller makes next; or nothing.
pub record HasGone (document : Document) (blanks : Blanks) (history : List Entry) (progress : Progress)
    (e : Entry) : Type 0 where
  pub progress_is : progress ≡ progress_at document blanks (history ++ e ∷ [])
  pub legal : IsLegal document.description blanks (length document.script.sessions) (history ++ e ∷ [])
  pub looped : LoopStandsAt document blanks (history ++ e ∷ [])
  pub described : IsDescribed document.description e

abbrev pub GoesSo : Document → Blanks → List Entry → Progress → Option Entry → Type 0
GoesSo document blanks history progress None = progress ≡ progress_at document blanks history
GoesSo document blanks history progress (Some e) = HasGone document blanks history progress e

pub same_progress : (s s' : State) (made : List Entry) (xs xs' : List Session) → s ≡ s' → xs ≡ xs'
    → ◌≡◌ {A = Progress} (record { state = s; made = made; sessions = xs })
    (record { state = s'; made = made; sessions = xs' })
same_progress s s' made xs xs' e f = rw (e, f) refl

-- ---- The loop's next call

cannot_close : (aloft closed : Bool) → closed ≡ true → (not aloft && not closed) ≡ false
cannot_close true closed shut = refl
cannot_close false closed shut = ap not shut

close_none : (s : State) (who : ℕ) → can_close s ≡ false → step s who Close ≡ None
unfolding step
close_none s who cannot = of (is_loop s who) (can_close s) cannot
  where
    of : (b c : Bool) → c ≡ false → (if b && c then option_map (answered s Close) (reply_of s Close) else None) ≡ None
    of true true cannot = cc
    of true false cannot = refl
    of false c cannot = refl

module _ (cycles : ℕ) (s : State) (es : List Entry) (stands : LoopStands cycles s es)
    (same : s.description.cycles ≡ cycles) where
  calls_made : (aloft closed : Bool) → s.aloft ≡ aloft → s.closed ≡ closed
      → length es ≡ (s.ended + s.ended) + (one_if aloft + one_if closed)
  calls_made aloft closed up shut =
      stands.calls ∙ ap₂ (λ (a : Bool) (c : Bool). (s.ended + s.ended) + (one_if a + one_if c)) up shut

  -- behind the close it has none
  pub none_left : s.closed ≡ true → next_of_loop cycles es ≡ None
  none_left shut =
      let last = stands.last shut in
      let calls : length es ≡ (s.ended + s.ended) + (0 + 1) = calls_made false true last.1 shut in
      let place : length es ≡ (cycles + cycles) + 1 = omega (arith, calls, last.0) in
      ap (slice_get (loop_calls cycles)) place ∙ none_behind cycles

  -- before it that of the desk
  pub one_left : s.closed ≡ false → next_of_loop cycles es ≡ Some (loop_call s)
  one_left shut = elim (cases_Bool s.aloft) [
    | inl up ↦
        let calls : length es ≡ (s.ended + s.ended) + (1 + 0) = calls_made true false up shut in
        let place : length es ≡ (s.ended + s.ended) + 1 = omega (arith, calls) in
        ap (slice_get (loop_calls cycles)) place ∙ end_at cycles s.ended (stands.flying up)
        ∙ ap (λ (c : Call). Some c) (sym (end_next s up))
    | inr down ↦
        let calls : length es ≡ (s.ended + s.ended) + (0 + 0) = calls_made false false down shut in
        elim (cases_Bool (nat_lt s.ended s.description.cycles)) [
          | inl more ↦
              let within = ltb-true s.ended s.description.cycles more in
              let place : length es ≡ s.ended + s.ended = omega (arith, calls) in
              ap (slice_get (loop_calls cycles)) place ∙ begin_at cycles s.ended (omega (arith, within, same))
              ∙ ap (λ (c : Call). Some c) (sym (begin_next s down more))
          | inr none ↦
              let past : s.description.cycles ≤ s.ended = grind (arith, nat_tests, none) in
              let place : length es ≡ cycles + cycles = omega (arith, calls, past, same, stands.within) in
              ap (slice_get (loop_calls cycles)) place ∙ close_at cycles
              ∙ ap (λ (c : Call). Some c) (sym (close_next s down none))
        ]
  ]

  -- where the loop is closed none of its calls is enabled
  pub closed_waits : s.closed ≡ true → (who : ℕ) → step s who (loop_call s) ≡ None
  closed_waits shut who =
      let last = stands.last shut in
      let none : nat_lt s.ended s.description.cycles ≡ false =
      le-ltb s.ended s.description.cycles (omega (arith, last.0, same)) in
      ap (step s who) (close_next s last.1 none) ∙ close_none s who (cannot_close s.aloft s.closed shut)

  -- a call of the loop leaves it where its entries do
  loop_after : (e : Entry) (r : Reply) → s.closed ≡ false → LoopStands cycles (effect s (loop_call s) r) (es ++ e ∷ [])
  unfolding after_cycle commit
  loop_after e r shut =
      let more : length (es ++ e ∷ []) ≡ length es + 1 = length-append es (e ∷ []) in
      elim (cases_Bool s.aloft) [
        | inl up ↦
            let calls : length es ≡ (s.ended + s.ended) + (1 + 0) = calls_made true false up shut in
            let less = stands.flying up in
            let long : length (es ++ e ∷ []) ≡ ((s.ended + 1) + (s.ended + 1)) + (0 + 0) = omega (arith, more, calls) in
            subst (λ (c : Call). LoopStands cycles (effect s c r) (es ++ e ∷ [])) (sym (end_next s up)) (record {
              calls = subst (λ (c : Bool). length (es ++ e ∷ []) ≡ ((s.ended + 1) + (s.ended + 1)) + (0 + one_if c))
                  (sym shut) long;
              within = omega (arith, less);
              flying = λ no_more. cc;
              last = λ closed. (let wrong : false ≡ true = sym shut ∙ closed in cc);
            })
        | inr down ↦
            let calls : length es ≡ (s.ended + s.ended) + (0 + 0) = calls_made false false down shut in
            elim (cases_Bool (nat_lt s.ended s.description.cycles)) [
              | inl another ↦
                  let within = ltb-true s.ended s.description.cycles another in
                  let less : s.ended < cycles = omega (arith, within, same) in
                  let stays = boundary-SameLoop s in
                  let long : length (es ++ e ∷ []) ≡ (s.ended + s.ended) + (1 + 0) = omega (arith, more, calls) in
                  subst (λ (c : Call). LoopStands cycles (effect s c r) (es ++ e ∷ []))
                  (sym (begin_next s down another)) (record {
                    calls = long
                        ∙ ap₂ (λ (k : ℕ) (c : Bool). (k + k) + (1 + one_if c)) (sym stays.ended)
                        (sym (stays.closed ∙ shut));
                    within = subst (λ k. k ≤ cycles) (sym stays.ended) stands.within;
                    flying = λ up. subst (λ k. k < cycles) (sym stays.ended) less;
                    last = λ closed. (let wrong : false ≡ true = sym shut ∙ (sym stays.closed ∙ closed) in cc);
                  })
              | inr none ↦
                  let past : s.description.cycles ≤ s.ended = grind (arith, nat_tests, none) in
                  let long : length (es ++ e ∷ []) ≡ (s.ended + s.ended) + (0 + 1) = omega (arith, more, calls) in
                  subst (λ (c : Call). LoopStands cycles (effect s c r) (es ++ e ∷ [])) (sym (close_next s down none))
                  (record {
                    calls = subst (λ (a : Bool). length (es ++ e ∷ []) ≡ (s.ended + s.ended) + (one_if a + 1))
                        (sym down) long;
                    within = stands.within;
                    flying = λ up. (let wrong : false ≡ true = sym down ∙ up in cc);
                    last = λ closed. (omega (arith, past, same, stands.within), down);
                  })
            ]
      ]

  pub loop_on : (e : Entry) (next : State) (r : Reply) → s.closed ≡ false
      → step s s.sessions (loop_call s) ≡ Some (next, r)
      → LoopStands cycles next (es ++ e ∷ [])
  loop_on e next r shut stepped =
      subst (λ (t : State). LoopStands cycles t (es ++ e ∷ []))
      (sym (step-IsStep s s.sessions (loop_call s) (next, r) stepped).next) (loop_after e r shut)
