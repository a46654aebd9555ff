-- What a session makes over its console follows its lines.
use Rattle.std.proofs.Common.{◌≡◌, ℕ, zero, suc, List, [], ◌∷◌, ◌++◌, map, drop, All, Option, Some, None}
use Rattle.std.proofs.Common.{Result, Ok, Err, true, false, refl, sym, subst, ap, ◌∙◌, append-nil, arith}
use Rattle.std.specs.Prelude.{is_none, IfOk, OnErr}
use Rattle.std.specs.List.{AllByRecursion, AllZip}
use Rattle.std.proofs.lemmas.Option.{same_Some}
use Rattle.cm_document.specs.declared.call.Call.{Call}
use Rattle.cm_document.specs.declared.call.Call.TheVariants.{Told}
use Rattle.cm_model.specs.Ports.{Console}
use Rattle.cm_model.specs.Scheduled.{Session as WrittenSession, with_entry, next_call, after_call}
use Rattle.cm_model.specs.Sessions.{is_told, Comes, Follows}
use Rattle.cm_model.specs.declared.entry.Entry.{Entry}
use Rattle.cm_model.specs.declared.reply.Reply.{Reply}
use Rattle.cm_model.proofs.ComesLemmas.{none_comes, told_comes, line_comes}
use Rattle.console_session.specs.Sessions.{IsLine, AreLines, SessionState, left_of, next_of}
use Rattle.console_session.specs.Sessions.{HasRun as HasAdvanced, Advances, HasStopped}
use Rattle.console_session.specs.declared.session.Progress.{Progress}
use Rattle.console_session.specs.declared.session.Progress.TheVariants as progress
use Rattle.fixed_num.specs.declared.memory.Memory.{Memory}
use Rattle.live_run.specs.Sessions.{IsAtItsStart, GoesOn, KeepsOn, HasFollowed, HasRunLive, EachHasRun}

-- ---- Where a session has come

-- before its first line it has made none
begins_so : (es : List Entry) (lines : List Call) (line : ℕ) (ticket : Option ℕ) → es ≡ [] → line ≡ 0 → ticket ≡ None
    → Comes es lines (drop line lines) ticket
begins_so es lines line ticket none first free = rw (none, first, free) (none_comes lines)

-- no line of a session is a Told
line_no_told : (call : Call) → IsLine call → is_told call ≡ false
line_no_told (Told ticket) line = absurd line
line_no_told _ line = refl

-- it makes its next call
call_comes : (es : List Entry) (lines rest : List Call) (ticket : Option ℕ) (who : ℕ) (call : Call) (r : Reply)
    → AllByRecursion IsLine rest → next_call ticket rest ≡ Some call
    → Comes es lines rest ticket
    → Comes (with_entry es who call r) lines (after_call ticket rest r).lines (after_call ticket rest r).ticket
call_comes es lines rest (Some ticket) who call r each next comes =
    let same = same_Some (Told ticket) call next in rw (← same) (told_comes es lines rest who ticket r comes)
call_comes es lines [] None who call r each next comes = cc
call_comes es lines (first ∷ rest) None who call r each next comes =
    let same = same_Some first call next in
    rw (← same) (line_comes es lines rest who first r (line_no_told first each.0) comes)

-- without a next call it has followed its lines
through_follows : (es : List Entry) (lines rest : List Call) (ticket : Option ℕ)
    → is_none (next_call ticket rest) ≡ true → Comes es lines rest ticket → Follows lines es
through_follows es lines rest (Some ticket) next comes = cc
through_follows es lines [] None next comes =
    record { in_order = sym (append-nil _) ∙ comes.in_order; each_told = sym (append-nil _) ∙ comes.each_told }
through_follows es lines (first ∷ rest) None next comes = cc

lines_left : (n : ℕ) (lines : List Call) → AllByRecursion IsLine lines → AllByRecursion IsLine (drop n lines)
lines_left zero lines each = each
lines_left (suc n) [] each = tt
lines_left (suc n) (first ∷ lines) each = lines_left n lines each.1

-- an advance that made an entry
advance_comes : (old new : Console) (x y : SessionState) → AllByRecursion IsLine x.lines → HasAdvanced old new x y
    → Comes old.made x.lines (left_of x).lines x.ticket → Comes new.made x.lines (left_of y).lines y.ticket
advance_comes old new x y each ran comes =
    let after = call_comes old.made x.lines (drop x.line x.lines) x.ticket old.who ran.call ran.reply
    (lines_left x.line x.lines each) ran.next comes in
    let lines : (left_of y).lines ≡ (after_call x.ticket (left_of x).lines ran.reply).lines =
    ap (λ (s : WrittenSession). s.lines) ran.left in
    let ticket : y.ticket ≡ (after_call x.ticket (left_of x).lines ran.reply).ticket =
    ap (λ (s : WrittenSession). s.ticket) ran.left in
    subst (λ (made : List Entry). Comes made x.lines (left_of y).lines y.ticket) (sym ran.made.made)
    (subst (λ (rest : List Call). Comes (with_entry old.made old.who ran.call ran.reply) x.lines rest y.ticket)
    (sym lines)
    (subst (λ (t : Option ℕ). Comes (with_entry old.made old.who ran.call ran.reply) x.lines
    (after_call x.ticket (left_of x).lines ran.reply).lines t) (sym ticket) after))

-- one that made none
same_comes : (es more : List Entry) (x y : SessionState) → more ≡ es → y ≡ x
    → Comes es x.lines (left_of x).lines x.ticket → Comes more y.lines (left_of y).lines y.ticket
same_comes es more x y made stays comes =
    subst (λ (z : SessionState). Comes more z.lines (left_of z).lines z.ticket) (sym stays)
    (subst (λ (made : List Entry). Comes made x.lines (left_of x).lines x.ticket) (sym made) comes)

-- ---- A session with its console

module _ {P Ground : Type 0} (footing : P → Ground) (tells : P → Console) where
  pub start_goes_on : (p : SessionState × P) → IsAtItsStart (tells p.1) p.0 → AreLines p.0.lines
      → GoesOn footing tells p p
  start_goes_on p start are = record {
    still = refl;
    each = are.each;
    lines = refl;
    comes = begins_so (tells p.1).made p.0.lines p.0.line p.0.ticket start.none start.line start.ticket;
  }

  -- an advance that made an entry
  ran_keeps_on : (old new : SessionState × P) → HasAdvanced (tells old.1) (tells new.1) old.0 new.0
      → footing new.1 ≡ footing old.1 → KeepsOn footing tells old new
  ran_keeps_on old new ran still = λ first so_far. record {
    still = still ∙ so_far.still;
    each = so_far.each;
    lines = ran.lines ∙ so_far.lines;
    comes = subst (λ (all : List Call). Comes (tells new.1).made all (left_of new.0).lines new.0.ticket) (sym ran.lines)
        (advance_comes (tells old.1) (tells new.1) old.0 new.0
        (subst (AllByRecursion IsLine) (sym so_far.lines) so_far.each) ran so_far.comes);
  }

  -- and one that made none
  none_keeps_on : (old new : SessionState × P) → (tells new.1).made ≡ (tells old.1).made → new.0 ≡ old.0
      → footing new.1 ≡ footing old.1 → KeepsOn footing tells old new
  none_keeps_on old new none stays still = λ first so_far. record {
    still = still ∙ so_far.still;
    each = so_far.each;
    lines = ap (λ (x : SessionState). x.lines) stays ∙ so_far.lines;
    comes = same_comes (tells old.1).made (tells new.1).made old.0 new.0 none stays so_far.comes;
  }

  -- so an advance, whatever it came to
  pub advance_keeps_on : (old new : SessionState × P) (r : Result Progress Memory)
      → IfOk r (λ p. Advances p (tells old.1) (tells new.1) old.0 new.0)
      → OnErr r (HasStopped (tells old.1) (tells new.1) old.0 new.0) → footing new.1 ≡ footing old.1
      → KeepsOn footing tells old new
  advance_keeps_on old new (Ok progress.Ran) advanced kept still = ran_keeps_on old new advanced still
  advance_keeps_on old new (Ok progress.Waits) advanced kept still =
      none_keeps_on old new advanced.not_yet.none.made advanced.stays still
  advance_keeps_on old new (Ok progress.Ended) advanced kept still =
      none_keeps_on old new (ap (λ (c : Console). c.made) advanced.none) advanced.stays still
  advance_keeps_on old new (Err e) advanced kept still = none_keeps_on old new kept.none.made kept.stays still

  -- a session without a next call has followed its lines
  pub gone_has_run : (first now : SessionState × P) → GoesOn footing tells first now
      → HasRunLive footing tells first now
  gone_has_run first now so_far = record {
    still = so_far.still;
    follows = λ ended. subst (λ (lines : List Call). Follows lines (tells now.1).made) so_far.lines
        (through_follows (tells now.1).made now.0.lines (left_of now.0).lines now.0.ticket ended so_far.comes);
  }

  -- ---- All of them

  pub rest_has_run : (x y : SessionState × P) (xs ys : List (SessionState × P))
      → EachHasRun footing tells (x ∷ xs) (y ∷ ys) → EachHasRun footing tells xs ys
  rest_has_run x y xs ys ran = record {
    as_many = let as_many = ran.as_many in omega (arith, as_many);
    each = λ i d less. ran.each (suc i) d (omega (arith, less));
  }

  -- where all have ended their ports are those of sessions that followed their lines
  pub all_have_followed : (before after : List (SessionState × P)) → EachHasRun footing tells before after
      → All (λ s. is_none (next_of s.0) ≡ true) after → AllZip (HasFollowed footing tells) before (map (λ s. s.1) after)
  all_have_followed [] [] ran ended = tt
  all_have_followed [] (y ∷ ys) ran ended = absurd (let as_many = ran.as_many in omega (arith, as_many))
  all_have_followed (x ∷ xs) [] ran ended = absurd (let as_many = ran.as_many in omega (arith, as_many))
  all_have_followed (x ∷ xs) (y ∷ ys) ran ended =
      let one = ran.each 0 y (omega arith) in (
        record { still = one.still; follows = one.follows (ended 0 y (omega arith)) },
        all_have_followed xs ys (rest_has_run x y xs ys ran) (λ i d less. ended (suc i) d (omega (arith, less))),
      )

  -- the ports that stand behind none
  pub ports_have_followed : (before after left : List (SessionState × P)) (none ports : List P) → left ≡ after
      → none ≡ []
      → ports ≡ none ++ map (λ (s : SessionState × P). s.1) left → EachHasRun footing tells before after
      → All (λ s. is_none (next_of s.0) ≡ true) left → AllZip (HasFollowed footing tells) before ports
  ports_have_followed before after left none ports back empty are ran ended =
      let same : ports ≡ map (λ (s : SessionState × P). s.1) after =
      are ∙ ap (λ (first : List P). first ++ map (λ (s : SessionState × P). s.1) left) empty
      ∙ ap (map (λ (s : SessionState × P). s.1)) back in
      subst (AllZip (HasFollowed footing tells) before) (sym same)
      (all_have_followed before after ran (subst (All (λ s. is_none (next_of s.0) ≡ true)) back ended))
