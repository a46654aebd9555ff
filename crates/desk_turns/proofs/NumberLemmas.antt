-- The numbers of a job's sessions.
use Rattle.std.proofs.Common.{◌≡◌, ℕ, zero, suc, ◌+◌, ◌<◌, List, [], ◌∷◌, ◌++◌, None, length, get_or}
use Rattle.std.proofs.Common.{map, take, drop, slice_set, refl, sym, ap, ◌∙◌, arith, take-suc}
use Rattle.std.proofs.lemmas.List.{length-map, length-set, map-append, set-get_or}
use Rattle.std.proofs.lemmas.Option.{same_Some}
use Rattle.cm_desk.specs.Desk.{History}
use Rattle.cm_model.specs.Ports.{Console}
use Rattle.cm_document.specs.declared.call.Call.{Call}
use Rattle.cm_document.specs.declared.script.SessionText.{SessionText}
use Rattle.cm_model.specs.Scheduled.{Session}
use Rattle.console_session.specs.Sessions.{SessionState, at_first, left_of, Advances, HasStopped}
use Rattle.console_session.specs.declared.session.Progress.{Progress}
use Rattle.console_session.specs.declared.session.Progress.TheVariants as progress
use Rattle.desk_turns.specs.Jobs.{AreAtFirst, AreNumberedFrom, AreSessionsOf}
use Rattle.desk_turns.specs.Ports.{desk_console}

-- an advance leaves a session its number
pub advanced-who : (p : Progress) (old new : Console) (x x' : SessionState) → Advances p old new x x' → x'.who ≡ x.who
advanced-who progress.Ran old new x x' advanced = advanced.who
advanced-who progress.Waits old new x x' advanced = ap (λ (s : SessionState). s.who) advanced.stays
advanced-who progress.Ended old new x x' advanced = ap (λ (s : SessionState). s.who) advanced.stays

-- where two lists are one, so are their heads,
pub heads : {X : Type 0} {x y : X} {xs ys : List X} → x ∷ xs ≡ y ∷ ys → x ≡ y
heads {X} {x} same = ap (λ (l : List X). get_or l zero x) same

-- and what stands behind them
pub tails : {X : Type 0} {x y : X} {xs ys : List X} → x ∷ xs ≡ y ∷ ys → xs ≡ ys
tails {X} same = ap (λ (l : List X). drop (suc zero) l) same

-- ---- Before the first line

-- a session that was just made is before its first line
pub first_made : (x : SessionState) (who n : ℕ) (lines : List Call) → x ≡ at_first who lines → who ≡ n
    → x ≡ at_first n x.lines
first_made x who n lines is number = rw (is, number) refl

-- one session more, behind the others
pub first_more : (n : ℕ) (xs : List SessionState) (x : SessionState) → AreAtFirst n xs
    → x ≡ at_first (n + length xs) x.lines → AreAtFirst n (xs ++ x ∷ [])
first_more n [] x so_far next = (next ∙ ap (λ (m : ℕ). at_first m x.lines) (omega arith), tt)
first_more n (y ∷ xs) x so_far next =
    (so_far.0, first_more (suc n) xs x so_far.1 (next ∙ ap (λ (m : ℕ). at_first m x.lines) (omega arith)))

-- each has its number
pub first_numbered : (n : ℕ) (xs : List SessionState) → AreAtFirst n xs → AreNumberedFrom n xs
first_numbered n [] first = tt
first_numbered n (x ∷ xs) first = (ap (λ (s : SessionState). s.who) first.0, first_numbered (suc n) xs first.1)

-- and all its lines left
abbrev unmade : List Call → Session
unmade lines = record { lines = lines; ticket = None }

pub first_left : (n : ℕ) (xs : List SessionState) (texts : List SessionText) → AreAtFirst n xs
    → map (λ (x : SessionState). x.lines) xs ≡ map (λ (t : SessionText). t.lines) texts
    → map left_of xs ≡ map (λ (t : SessionText). unmade t.lines) texts
first_left n [] [] first same = refl
first_left n [] (t ∷ texts) first same = cc
first_left n (x ∷ xs) [] first same = cc
first_left n (x ∷ xs) (t ∷ texts) first same =
    let here : left_of x ≡ unmade t.lines = ap left_of first.0 ∙ ap unmade (heads same) in
    let rest = first_left (suc n) xs texts first.1 (tails same) in λ i. here i ∷ rest i

-- one session more has the lines of one text more
pub lines_more : (texts : List SessionText) (i : ℕ) (text : SessionText) (xs : List SessionState) (x : SessionState)
    → i < length texts → text ≡ get_or texts i text
    → x.lines ≡ text.lines → map (λ (y : SessionState). y.lines) xs ≡ map (λ (t : SessionText). t.lines) (take i texts)
    → map (λ (y : SessionState). y.lines) (xs ++ x ∷ []) ≡ map (λ (t : SessionText). t.lines) (take (i + 1) texts)
lines_more texts i text xs x less is same so_far =
    let next_place : i + 1 ≡ suc i = omega arith in
    rw (
      next_place,
      take-suc texts i text less,
      ← is,
      map-append (λ (y : SessionState). y.lines) xs (x ∷ []),
      map-append (λ (t : SessionText). t.lines) (take i texts) (text ∷ []),
      so_far,
      same,
    ) refl

-- so there are as many sessions as texts
pub as_many : (xs : List SessionState) (texts : List SessionText)
    → map (λ (x : SessionState). x.lines) xs ≡ map (λ (t : SessionText). t.lines) texts → length xs ≡ length texts
as_many xs texts same =
    sym (length-map xs (λ (x : SessionState). x.lines)) ∙ ap length same
    ∙ length-map texts (λ (t : SessionText). t.lines)

-- the number of the session at a place
pub number_at : (n : ℕ) (xs : List SessionState) (i : ℕ) (d : SessionState) → AreNumberedFrom n xs → i < length xs
    → (get_or xs i d).who ≡ n + i
number_at n [] i d numbered less = absurd (omega arith)
number_at n (x ∷ xs) zero d numbered less = omega (arith, numbered.0)
number_at n (x ∷ xs) (suc i) d numbered less = omega (arith, number_at (suc n) xs i d numbered.1 (omega (arith, less)))

-- a session that went on has its number
pub numbered_set : (n : ℕ) (xs : List SessionState) (i : ℕ) (d y : SessionState) → AreNumberedFrom n xs
    → y.who ≡ (get_or xs i d).who → AreNumberedFrom n (slice_set xs i y)
numbered_set n [] i d y numbered same = tt
numbered_set n (x ∷ xs) zero d y numbered same = (same ∙ numbered.0, numbered.1)
numbered_set n (x ∷ xs) (suc i) d y numbered same = (numbered.0, numbered_set (suc n) xs i d y numbered.1 same)

-- where one of them went on, and the desk with it, they are its sessions still
pub sessions_set : (h h' : History) (xs : List SessionState) (i : ℕ) (d y : SessionState) → h'.opening ≡ h.opening
    → y.who ≡ (get_or xs i d).who
    → AreSessionsOf h xs → AreSessionsOf h' (slice_set xs i y)
sessions_set h h' xs i d y same number these =
    record { many = rw (length-set xs i y, same) these.many; numbered = numbered_set 0 xs i d y these.numbered number }

-- so it is where the desk stands as a console leaves it
pub sessions_over_port : (first h h' last : History) (xs : List SessionState) (i : ℕ) (d y : SessionState) → h ≡ first
    → h'.opening ≡ h.opening → last ≡ h'
    → y.who ≡ (get_or xs i d).who → AreSessionsOf first xs → AreSessionsOf last (slice_set xs i y)
sessions_over_port first h h' last xs i d y lent opening left number these =
    sessions_set first last xs i d y
    (ap (λ (k : History). k.opening) left ∙ opening ∙ ap (λ (k : History). k.opening) lent) number these

-- they are the sessions of the same desk, however far it has come
pub sessions_over : (h h' : History) (xs : List SessionState) → h'.opening ≡ h.opening → AreSessionsOf h xs
    → AreSessionsOf h' xs
sessions_over h h' xs same these = record { many = rw same these.many; numbered = these.numbered }

-- a session that stopped for want of memory, and the desk with it, are as they were
pub stopped_over_port : (first h h' last : History) (xs : List SessionState) (i a b w w' : ℕ) (d y : SessionState)
    → h ≡ first → h'.opening ≡ h.opening → last ≡ h'
    → HasStopped (desk_console a h w) (desk_console b h' w') (get_or xs i d) y
    → (last ≡ first) × (slice_set xs i y ≡ xs)
stopped_over_port first h h' last xs i a b w w' d y lent opening left stopped =
    let made : h'.made ≡ h.made = same_Some _ _ stopped.none.behind in
    let same : h' ≡ h = λ k. record { opening = opening k; made = made k } in
    (left ∙ same ∙ lent, ap (slice_set xs i) stopped.stays ∙ set-get_or xs i d)
