-- Histories on their way: where their sessions stand, what comes next in them, and which of them are whole.
use Rattle.std.proofs.Common.{◌≡◌, ℕ, ◌≤◌, Bool, true, false, List, [], ◌∷◌, ◌++◌, length, drop, Option, Some}
use Rattle.std.proofs.Common.{None, refl, sym, ap, subst, ◌∙◌, inl, inr, append_assoc, append-nil, arith}
use Rattle.std.specs.Prelude.{◌==◌, not, slice_get, if◌then◌else◌, IfSome}
use Rattle.std.specs.List.{AllByRecursion}
use Rattle.std.proofs.Math.Seq.{drop-append_seam}
use Rattle.std.proofs.lemmas.Bool.Decides.{nat_tests}
use Rattle.std.proofs.lemmas.List.{length-map, map-append}
use Rattle.std.proofs.lemmas.List.Elements.{filter-append}
use Rattle.std.proofs.lemmas.Option.{slice_get_cases}
use Rattle.cm_document.specs.declared.call.Call.{Call}
use Rattle.cm_document.specs.declared.call.Call.TheVariants.{Told}
use Rattle.cm_document.specs.declared.document.Document.{Document}
use Rattle.cm_document.specs.declared.script.SessionText.{SessionText}
use Rattle.cm_model.specs.Scheduled.{next_call}
use Rattle.cm_model.specs.Sessions.{calls_of, entries_by, is_told, asked, loop_calls, Follows, IsWhole}
use Rattle.cm_model.specs.declared.entry.Entry.{Entry}
use Rattle.cm_model.specs.declared.reply.Reply.TheVariants as reply
use Rattle.trace_laws.specs.Next.{ticket_after, next_of_session, next_of_loop, next_by, next_of}
use Rattle.trace_laws.specs.OnTheWay.{BeginsWith, CanFollow, IsOnItsWay}
use Rattle.trace_laws.proofs.GoesLemmas.{Goes, asked_first, asked_gives, goes_from}
use Rattle.trace_laws.proofs.GoesLemmas.{told_each, goes_split, goes_join, ticket_past}

-- ---- Where a session stands

-- Its entries go on as they must, and are the lines before those that it has left.
pub record Stands (lines : List Call) (es : List Entry) : Type 0 where
  pub goes : Goes es None
  pub in_order : calls_of (asked es) ++ drop (length (asked es)) lines ≡ lines

-- what some entries leave of the lines
pub left_lines : (xs : List Entry) (rest lines : List Call) → calls_of xs ++ rest ≡ lines
    → drop (length xs) lines ≡ rest
left_lines xs rest lines same =
    ap (drop (length xs)) (sym same)
    ∙ ap (λ n. drop n (calls_of xs ++ rest)) (sym (length-map xs (λ (e : Entry). e.call)))
    ∙ drop-append_seam (calls_of xs) rest

-- the calls of what is asked, in two parts
pub calls_split : (xs ys : List Entry) → calls_of (asked (xs ++ ys)) ≡ calls_of (asked xs) ++ calls_of (asked ys)
calls_split xs ys =
    ap calls_of (filter-append (λ (e : Entry). not (is_told e.call)) xs ys)
    ∙ map-append (λ (e : Entry). e.call) (asked xs) (asked ys)

pub can_stand : (lines : List Call) (es : List Entry) → CanFollow lines es → Stands lines es
can_stand lines es can =
    let split : calls_of (asked es) ++ calls_of (asked can.0) ≡ lines = sym (calls_split es can.0) ∙ can.1.in_order in
    record {
      goes = (goes_split es can.0 None (goes_from (es ++ can.0) None can.1.each_told)).0;
      in_order = ap (λ left. calls_of (asked es) ++ left) (left_lines (asked es) (calls_of (asked can.0)) lines split)
          ∙ split;
    }

-- ---- What is left can be made

-- entries of these calls, each done
abbrev plain : List Call → List Entry
plain [] = []
plain (call ∷ calls) = record { who = 0; call = call; reply = reply.Done } ∷ plain calls

-- none of these calls is a Told
abbrev pub HaveNoTold : List Call → Type 0
HaveNoTold calls = AllByRecursion (λ call. is_told call ≡ false) calls

plain_goes : (calls : List Call) → HaveNoTold calls → Goes (plain calls) None
plain_goes [] none = tt
plain_goes (call ∷ calls) none = (none.0, plain_goes calls none.1)

plain_left : (calls : List Call) → HaveNoTold calls → ticket_after None (plain calls) ≡ None
plain_left [] none = refl
plain_left (call ∷ calls) none =
    let e : Entry = record { who = 0; call = call; reply = reply.Done } in
    ap (λ given. ticket_after given (plain calls)) (asked_gives e none.0) ∙ plain_left calls none.1

plain_calls : (calls : List Call) → HaveNoTold calls → calls_of (asked (plain calls)) ≡ calls
plain_calls [] none = refl
plain_calls (call ∷ calls) none =
    let e : Entry = record { who = 0; call = call; reply = reply.Done } in
    ap calls_of (asked_first e (plain calls) none.0) ∙ ap (λ l. call ∷ l) (plain_calls calls none.1)

-- with the Told of a ticket before them
abbrev to_come : Option ℕ → List Call → List Entry
to_come None calls = plain calls
to_come (Some ticket) calls = record { who = 0; call = Told ticket; reply = reply.Done } ∷ plain calls

to_come_goes : (ticket : Option ℕ) (calls : List Call) → HaveNoTold calls → Goes (to_come ticket calls) ticket
to_come_goes None calls none = plain_goes calls none
to_come_goes (Some ticket) calls none = (refl, plain_goes calls none)

to_come_left : (ticket : Option ℕ) (calls : List Call) → HaveNoTold calls
    → ticket_after ticket (to_come ticket calls) ≡ None
to_come_left None calls none = plain_left calls none
to_come_left (Some ticket) calls none = plain_left calls none

to_come_calls : (ticket : Option ℕ) (calls : List Call) → HaveNoTold calls
    → calls_of (asked (to_come ticket calls)) ≡ calls
to_come_calls None calls none = plain_calls calls none
to_come_calls (Some ticket) calls none = plain_calls calls none

pub stands_can : (lines : List Call) (es : List Entry) → HaveNoTold (drop (length (asked es)) lines) → Stands lines es
    → CanFollow lines es
stands_can lines es none stands =
    let ticket = ticket_after None es in
    let left = drop (length (asked es)) lines in
    let later = to_come ticket left in (
      later,
      record {
        in_order = calls_split es later ∙ ap (λ calls. calls_of (asked es) ++ calls) (to_come_calls ticket left none)
            ∙ stands.in_order;
        each_told =
            told_each (es ++ later) None (goes_join es later None stands.goes (to_come_goes ticket left none))
            (ticket_past es later None ∙ to_come_left ticket left none);
      },
    )

-- ---- What comes next for a session

next_at : (lines : List Call) (es later : List Entry) (e : Entry) (ticket : Option ℕ)
    → calls_of (asked (es ++ e ∷ later)) ++ drop (length (asked (es ++ e ∷ later))) lines ≡ lines
    → Goes (e ∷ later) ticket → next_call ticket (drop (length (asked es)) lines) ≡ Some e.call
next_at lines es later e (Some ticket) order goes = ap (λ call. Some call) (sym goes.0)
next_at lines es later e None order goes =
    let rest = drop (length (asked (es ++ e ∷ later))) lines in
    let split : calls_of (asked (es ++ e ∷ later)) ≡ calls_of (asked es) ++ e.call ∷ calls_of (asked later) =
    calls_split es (e ∷ later)
    ∙ ap (λ (l : List Entry). calls_of (asked es) ++ calls_of l) (asked_first e later goes.0) in
    let whole : calls_of (asked es) ++ (e.call ∷ (calls_of (asked later) ++ rest)) ≡ lines =
    sym (append_assoc (calls_of (asked es)) (e.call ∷ calls_of (asked later)) rest)
    ∙ ap (λ calls. calls ++ rest) (sym split) ∙ order in
    ap (next_call None) (left_lines (asked es) (e.call ∷ (calls_of (asked later) ++ rest)) lines whole)

pub next_fixed : (lines : List Call) (es later : List Entry) (e : Entry) → CanFollow lines (es ++ e ∷ later)
    → next_of_session lines es ≡ Some e.call
next_fixed lines es later e can =
    let stands = can_stand lines (es ++ e ∷ later) can in
    next_at lines es later e (ticket_after None es) stands.in_order (goes_split es (e ∷ later) None stands.goes).1

-- ---- What comes next for the loop

slice_at : (xs rest : List Entry) (e : Entry) (more : List Call)
    → slice_get (calls_of (xs ++ e ∷ rest) ++ more) (length xs) ≡ Some e.call
slice_at [] rest e more = refl
slice_at (x ∷ xs) rest e more = slice_at xs rest e more

loop_fixed : (cycles : ℕ) (es later : List Entry) (e : Entry)
    → BeginsWith (loop_calls cycles) (calls_of (es ++ e ∷ later)) → next_of_loop cycles es ≡ Some e.call
loop_fixed cycles es later e begins =
    ap (λ calls. slice_get calls (length es)) (sym begins.1) ∙ slice_at es later e begins.0

-- ---- What comes next for a caller

pub all_at : (P : Entry → Type 0) (xs ys : List Entry) (e : Entry) → AllByRecursion P (xs ++ e ∷ ys) → P e
all_at P [] ys e all = all.0
all_at P (x ∷ xs) ys e all = all_at P xs ys e all.1

all_front : (P : Entry → Type 0) (xs ys : List Entry) → AllByRecursion P (xs ++ ys) → AllByRecursion P xs
all_front P [] ys all = tt
all_front P (x ∷ xs) ys all = (all.0, all_front P xs ys all.1)

pub all_more : (P : Entry → Type 0) (xs : List Entry) (e : Entry) → AllByRecursion P xs → P e
    → AllByRecursion P (xs ++ e ∷ [])
all_more P [] e all one = (one, tt)
all_more P (x ∷ xs) e all one = (all.0, all_more P xs e all.1 one)

-- the entries of a caller, one of which stands here
pub own_split : (who : ℕ) (history later : List Entry) (e : Entry) → (e.who == who) ≡ true
    → entries_by who (history ++ e ∷ later) ≡ entries_by who history ++ e ∷ entries_by who later
own_split who history later e own =
    filter-append (λ (each : Entry). each.who == who) history (e ∷ later)
    ∙ ap (λ (l : List Entry). entries_by who history ++ l) (kept (e.who == who) own)
  where
    kept : (b : Bool) → b ≡ true
        → (if b then e ∷ entries_by who later else entries_by who later) ≡ e ∷ entries_by who later
    kept true own = refl
    kept false own = cc

pub past_all : (sessions : List SessionText) (who : ℕ) → slice_get sessions who ≡ None → length sessions ≤ who
past_all sessions who none = elim (slice_get_cases sessions who).1 [
  | inl at ↦ let some : slice_get sessions who ≡ Some at.0 = at.2 in cc
  | inr past ↦ past.0
]

module _ (document : Document) (history later : List Entry) (e : Entry)
    (way : IsOnItsWay document (history ++ e ∷ later)) where
  own : (e.who == e.who) ≡ true
  own = grind (arith, nat_tests)

  by_session : (o : Option SessionText) → slice_get document.script.sessions e.who ≡ o
      → next_by document history e.who o ≡ Some e.call
  by_session (Some session) at =
      let can : CanFollow session.lines (entries_by e.who (history ++ e ∷ later)) =
      subst (λ (o : Option SessionText). IfSome o
      (λ x. CanFollow x.lines (entries_by e.who (history ++ e ∷ later)))) at (way.sessions e.who) in
      next_fixed session.lines (entries_by e.who history) (entries_by e.who later) e
      (subst (CanFollow session.lines) (own_split e.who history later e own) can)
  by_session None at =
      let past : length document.script.sessions ≤ e.who = past_all document.script.sessions e.who at in
      let within : e.who ≤ length document.script.sessions =
      all_at (λ (each : Entry). each.who ≤ length document.script.sessions) history later e way.nobody_else in
      let is_loop : (e.who == length document.script.sessions) ≡ true = grind (arith, nat_tests, past, within) in
      let same : length document.script.sessions ≡ e.who = omega (arith, past, within) in
      let begins : BeginsWith (loop_calls document.description.cycles)
      (calls_of (entries_by e.who (history ++ e ∷ later))) =
      subst (λ n. BeginsWith (loop_calls document.description.cycles) (calls_of (entries_by n (history ++ e ∷ later))))
      same way.cycles in
      rw is_loop (loop_fixed document.description.cycles (entries_by e.who history) (entries_by e.who later) e
      (subst (λ (l : List Entry). BeginsWith (loop_calls document.description.cycles) (calls_of l))
      (own_split e.who history later e own) begins))

  pub next_is : next_of document history e.who ≡ Some e.call
  next_is = by_session (slice_get document.script.sessions e.who) refl

-- ---- Beginnings, and whole histories

if_some : {A : Type 0} (o : Option A) (P Q : A → Type 0) → ((a : A) → P a → Q a) → IfSome o P → IfSome o Q
if_some None P Q each holds = tt
if_some (Some a) P Q each holds = each a holds

shorter : (lines : List Call) (xs ys : List Entry) → CanFollow lines (xs ++ ys) → CanFollow lines xs
shorter lines xs ys can = (ys ++ can.0, subst (Follows lines) (append_assoc xs ys can.0) can.1)

fewer : (all : List Call) (xs ys : List Entry) → BeginsWith all (calls_of (xs ++ ys)) → BeginsWith all (calls_of xs)
fewer all xs ys begins = (
  calls_of ys ++ begins.0,
  sym (append_assoc (calls_of xs) (calls_of ys) begins.0)
      ∙ ap (λ calls. calls ++ begins.0) (sym (map-append (λ (e : Entry). e.call) xs ys)) ∙ begins.1,
)

pub way_before : (document : Document) (history later : List Entry) → IsOnItsWay document (history ++ later)
    → IsOnItsWay document history
way_before document history later way =
    let split = λ (k : ℕ). filter-append (λ (e : Entry). e.who == k) history later in
    record {
      sessions = λ k.
          if_some (slice_get document.script.sessions k) (λ x. CanFollow x.lines (entries_by k (history ++ later)))
          (λ x. CanFollow x.lines (entries_by k history))
          (λ x can. shorter x.lines (entries_by k history) (entries_by k later)
          (subst (CanFollow x.lines) (split k) can)) (way.sessions k);
      cycles =
          fewer (loop_calls document.description.cycles) (entries_by (length document.script.sessions) history)
          (entries_by (length document.script.sessions) later)
          (subst (λ (l : List Entry). BeginsWith (loop_calls document.description.cycles) (calls_of l))
          (split (length document.script.sessions)) way.cycles);
      nobody_else = all_front (λ (e : Entry). e.who ≤ length document.script.sessions) history later way.nobody_else;
    }

pub whole_way : (document : Document) (history : List Entry) → IsWhole document history → IsOnItsWay document history
whole_way document history whole = record {
  sessions = λ k.
      if_some (slice_get document.script.sessions k) (λ x. Follows x.lines (entries_by k history))
      (λ x. CanFollow x.lines (entries_by k history))
      (λ x follows. ([], subst (Follows x.lines) (sym (append-nil (entries_by k history))) follows)) (whole.sessions k);
  cycles = ([], append-nil (calls_of (entries_by (length document.script.sessions) history)) ∙ whole.cycles);
  nobody_else = whole.nobody_else;
}
