-- Entries follow the lines of sessions: one entry more, one session, all of them, and the script of a run.
use Rattle.std.proofs.Common.{◌≡◌, ℕ, zero, suc, ◌+◌, ◌<◌, ◌≤◌, List, [], ◌∷◌, ◌++◌, length, Option, Some, None}
use Rattle.std.proofs.Common.{Bool, true, false, refl, sym, subst, ap, ◌∙◌, append-nil, inl, inr, ◌⊎◌, arith}
use Rattle.std.specs.Prelude.{◌-◌, slice_get, slice_set, flat_map, ◌==◌, IfSome}
use Rattle.std.specs.List.{AllByRecursion}
use Rattle.std.proofs.lemmas.List.Elements.{filter-append}
use Rattle.std.proofs.lemmas.Bool.Decides.{nat_tests}
use Rattle.std.proofs.lemmas.Option.{same_Some}
use Rattle.cm_document.specs.ScriptLaws.{CanBeWritten}
use Rattle.cm_document.specs.declared.call.Call.{Call}
use Rattle.cm_document.specs.declared.call.Call.TheVariants.{Told}
use Rattle.cm_model.specs.Scheduled.{Session, Advanced, Progress, with_entry, next_call, after_call, cycles}
use Rattle.cm_model.specs.Sessions.{entries_by, calls_of, is_told, with_its_told, asked, Comes, Follows}
use Rattle.cm_model.specs.State.{State}
use Rattle.cm_model.specs.declared.entry.Entry.{Entry}
use Rattle.cm_model.specs.declared.reply.Reply.{Reply}
use Rattle.cm_model.proofs.ComesLemmas.{told_comes, line_comes}
use Rattle.cm_model.proofs.WaitingLemmas.{Asks, asks}

-- ---- One entry more

-- one more of this caller
pub own_entry : (who : ℕ) (made : List Entry) (call : Call) (r : Reply)
    → entries_by who (with_entry made who call r) ≡ with_entry (entries_by who made) who call r
own_entry who made call r =
    let yes : (who == who) ≡ true = grind (arith, nat_tests) in
    filter-append (λ (e : Entry). e.who == who) made (record { who = who; call = call; reply = r } ∷ []) ∙ rw yes refl

-- one more of another caller
pub other_entry : (k who : ℕ) (made : List Entry) (call : Call) (r : Reply) → (who == k) ≡ false
    → entries_by k (with_entry made who call r) ≡ entries_by k made
other_entry k who made call r differs =
    filter-append (λ (e : Entry). e.who == k) made (record { who = who; call = call; reply = r } ∷ [])
    ∙ rw differs (append-nil (entries_by k made))

-- ---- One session

-- no line of a script is a Told
written_no_told : (call : Call) → CanBeWritten call → is_told call ≡ false
written_no_told (Told ticket) written = absurd written
written_no_told _ written = refl

-- Where a session has come: its entries, the lines that it can still make, and its ticket, which is that of a request.
pub record HasCome (made : List Entry) (s : State) (k : ℕ) (lines rest : List Call) (ticket : Option ℕ) : Type 0 where
  pub comes : Comes (entries_by k made) lines rest ticket
  pub written : AllByRecursion CanBeWritten rest
  pub given : IfSome ticket (λ t. t < length s.requests)

-- it makes its next call
pub come_on : (made : List Entry) (s after : State) (k : ℕ) (lines rest : List Call) (ticket : Option ℕ) (call : Call)
    (r : Reply) → next_call ticket rest ≡ Some call
    → Asks s after r → HasCome made s k lines rest ticket
    → HasCome (with_entry made k call r) after k lines (after_call ticket rest r).lines
    (after_call ticket rest r).ticket
come_on made s after k lines rest (Some ticket) call r next asks has =
    let same = same_Some (Told ticket) call next in
    rw (← same) (record {
      comes = rw (own_entry k made (Told ticket) r) (told_comes (entries_by k made) lines rest k ticket r has.comes);
      written = has.written;
      given = tt;
    })
come_on made s after k lines [] None call r next asks has = cc
come_on made s after k lines (first ∷ rest) None call r next asks has =
    let same = same_Some first call next in
    rw (← same) (record {
      comes = rw (own_entry k made first r)
          (line_comes (entries_by k made) lines rest k first r (written_no_told first has.written.0) has.comes);
      written = has.written.1;
      given = asks.given;
    })

-- a ticket stays that of a request
given_more : (ticket : Option ℕ) (few more : ℕ) → few ≤ more → IfSome ticket (λ t. t < few)
    → IfSome ticket (λ t. t < more)
given_more None few more grows given = tt
given_more (Some ticket) few more grows given = let less : ticket < few = given in omega (arith, grows, less)

-- another caller makes a call
pub stay : (made : List Entry) (s after : State) (k who : ℕ) (lines rest : List Call) (ticket : Option ℕ) (call : Call)
    (r : Reply) → (who == k) ≡ false
    → length s.requests ≤ length after.requests → HasCome made s k lines rest ticket
    → HasCome (with_entry made who call r) after k lines rest ticket
stay made s after k who lines rest ticket call r differs more has = record {
  comes = rw (other_entry k who made call r differs) has.comes;
  written = has.written;
  given = given_more ticket (length s.requests) (length after.requests) more has.given;
}

-- ---- All sessions

-- each of the sessions, the first of which has this number, is so with its own lines
abbrev pub AllAre : (ℕ → List Call → Session → Type 0) → ℕ → List (List Call) → List Session → Type 0
AllAre P first [] [] = Unit {0}
AllAre P first [] (x ∷ xs) = ⊥
AllAre P first (lines ∷ others) [] = ⊥
AllAre P first (lines ∷ others) (x ∷ xs) = P first lines x × AllAre P (first + 1) others xs

pub all_changed : (P Q : ℕ → List Call → Session → Type 0) (first : ℕ) (scripts : List (List Call)) (xs : List Session)
    → ((k : ℕ) (lines : List Call) (x : Session) → first ≤ k → k < first + length scripts → P k lines x → Q k lines x)
    → AllAre P first scripts xs → AllAre Q first scripts xs
all_changed P Q first [] [] each all = tt
all_changed P Q first [] (x ∷ xs) each all = absurd all
all_changed P Q first (lines ∷ others) [] each all = absurd all
all_changed P Q first (lines ∷ others) (x ∷ xs) each all = (
  each first lines x (omega arith) (omega arith) all.0,
  all_changed P Q (first + 1) others xs
      (λ k lines x more less. each k lines x (omega (arith, more)) (omega (arith, less))) all.1,
)

-- one of them changes, and the others as they may
pub one_changed : (P Q : ℕ → List Call → Session → Type 0) (who first : ℕ) (scripts : List (List Call))
    (settled : List Session) (x y : Session) (later : List Session)
    → first + length settled ≡ who
    → ((k : ℕ) (lines : List Call) (z : Session) → (who == k) ≡ false → P k lines z → Q k lines z)
    → ((lines : List Call) → P who lines x → Q who lines y) → AllAre P first scripts (settled ++ x ∷ later)
    → AllAre Q first scripts (settled ++ y ∷ later)
one_changed P Q who first [] [] x y later is others own all = absurd all
one_changed P Q who first [] (z ∷ settled) x y later is others own all = absurd all
one_changed P Q who first (lines ∷ scripts) [] x y later is others own all =
    let here : first ≡ who = omega (arith, is) in
    let later_ones =
    all_changed P Q (first + 1) scripts later
    (λ k lines z more less. others k lines z (let differs : (who == k) ≡ false = grind (arith, nat_tests) in differs))
    all.1 in
    (subst (λ (k : ℕ). Q k lines y) (sym here) (own lines (subst (λ (k : ℕ). P k lines x) here all.0)), later_ones)
one_changed P Q who first (lines ∷ scripts) (z ∷ settled) x y later is others own all =
    let differs : (who == first) ≡ false = grind (arith, nat_tests) in (
      others first lines z differs all.0,
      one_changed P Q who (first + 1) scripts settled x y later (omega (arith, is)) others own all.1,
    )

-- that of one of them
pub one_of : (P : ℕ → List Call → Session → Type 0) (who first : ℕ) (scripts : List (List Call))
    (settled : List Session)
    (x : Session) (later : List Session)
    → first + length settled ≡ who → AllAre P first scripts (settled ++ x ∷ later) → (lines : List Call) × P who lines x
one_of P who first [] [] x later is all = absurd all
one_of P who first [] (z ∷ settled) x later is all = absurd all
one_of P who first (lines ∷ scripts) [] x later is all =
    let here : first ≡ who = omega (arith, is) in (lines, subst (λ (k : ℕ). P k lines x) here all.0)
one_of P who first (lines ∷ scripts) (z ∷ settled) x later is all =
    one_of P who (first + 1) scripts settled x later (omega (arith, is)) all.1

-- where each stands after these entries in this state
abbrev pub Come : List Entry → State → ℕ → List Call → Session → Type 0
Come made s k lines x = HasCome made s k lines x.lines x.ticket

-- a session with nothing left to do
pub record IsThrough (x : Session) : Type 0 where
  pub lines : x.lines ≡ []
  pub ticket : x.ticket ≡ None

abbrev pub AllThrough : List Session → Type 0
AllThrough xs = AllByRecursion IsThrough xs

pub through_push : (settled : List Session) (x : Session) → AllThrough settled → IsThrough x
    → AllThrough (settled ++ x ∷ [])
through_push [] x all last = (last, tt)
through_push (first ∷ settled) x all last = (all.0, through_push settled x all.1 last)

-- one that is through follows its lines
through-Follows : (made : List Entry) (s : State) (k : ℕ) (lines : List Call) (x : Session) → IsThrough x
    → Come made s k lines x → Follows lines (entries_by k made)
through-Follows made s k lines x through has =
    let order : calls_of (asked (entries_by k made)) ++ [] ≡ lines = rw through.lines at has.comes.in_order in
    let told : calls_of (entries_by k made) ++ [] ≡ flat_map with_its_told (asked (entries_by k made)) =
    rw through.ticket at has.comes.each_told in
    record { in_order = sym (append-nil _) ∙ order; each_told = sym (append-nil _) ∙ told }

pub follows_at : (made : List Entry) (s : State) (k first : ℕ) (scripts : List (List Call)) (xs : List Session)
    (lines : List Call) → AllThrough xs
    → AllAre (Come made s) first scripts xs → slice_get scripts k ≡ Some lines
    → Follows lines (entries_by (first + k) made)
follows_at made s k first [] xs lines through all found = cc
follows_at made s k first (these ∷ scripts) [] lines through all found = absurd all
follows_at made s zero first (these ∷ scripts) (x ∷ xs) lines through all found =
    let same = same_Some these lines found in
    let here : first + zero ≡ first = omega arith in
    rw (← same, here) (through-Follows made s first these x through.0 all.0)
follows_at made s (suc k) first (these ∷ scripts) (x ∷ xs) lines through all found =
    let next : first + suc k ≡ (first + 1) + k = omega arith in
    rw next (follows_at made s k (first + 1) scripts xs lines through.1 all.1 found)

-- A list parted at one of its items, which may be exchanged.
pub record Parted (xs : List Session) (i : ℕ) (x : Session) : Type 0 where
  pub settled : List Session
  pub later : List Session
  pub place : length settled ≡ i
  pub whole : xs ≡ settled ++ x ∷ later
  pub changed : (y : Session) → slice_set xs i y ≡ settled ++ y ∷ later

pub parted : (xs : List Session) (i : ℕ) (x : Session) → slice_get xs i ≡ Some x → Parted xs i x
parted [] i x found = cc
parted (z ∷ xs) zero x found =
    let same = same_Some z x found in
    record {
      settled = [];
      later = xs;
      place = refl;
      whole = ap (λ (first : Session). first ∷ xs) same;
      changed =
          λ y. refl;
    }
parted (z ∷ xs) (suc i) x found =
    let rest = parted xs i x found in
    record {
      settled = z ∷ rest.settled;
      later = rest.later;
      place = ap suc rest.place;
      whole = ap (λ (l : List Session). z ∷ l) rest.whole;
      changed = λ y. ap (λ (l : List Session). z ∷ l) (rest.changed y);
    }

-- a number is below another, or it is not
pub nat_cases : (n m : ℕ) → (n < m) ⊎ (m ≤ n)
nat_cases zero zero = inr (omega arith)
nat_cases zero (suc m) = inl (omega arith)
nat_cases (suc n) zero = inr (omega arith)
nat_cases (suc n) (suc m) = elim (nat_cases n m) [
  | inl less ↦ inl (omega (arith, less))
  | inr more ↦ inr (omega (arith, more))
]

-- ---- The whole run of a script

-- how far a run has come where one session advances between these
abbrev pub between : List Session → List Session → Advanced → Progress
between settled later a = record { state = a.state; made = a.made; sessions = settled ++ a.session ∷ later }

-- nobody beyond this number calls
abbrev pub Within : ℕ → List Entry → Type 0
Within most made = AllByRecursion (λ e. e.who ≤ most) made

pub within_more : (most : ℕ) (made : List Entry) (who : ℕ) (call : Call) (r : Reply) → who ≤ most → Within most made
    → Within most (with_entry made who call r)
within_more most [] who call r less within = (less, tt)
within_more most (e ∷ made) who call r less within = (within.0, within_more most made who call r less within.1)

-- where the loop stands: how many cycles have ended, and whether one is aloft and the loop closed
pub record Loop : Type 0 where
  pub ended : ℕ
  pub aloft : Bool
  pub closed : Bool
