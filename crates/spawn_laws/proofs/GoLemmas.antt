-- How the one session of a start goes on, and the loop beside it.
use Rattle.std.proofs.Common.{◌≡◌, ℕ, zero, suc, ◌+◌, ◌≤◌, Bool, true, false, List, [], ◌∷◌, ◌++◌, Option, Some}
use Rattle.std.proofs.Common.{None, inl, inr, refl, sym, ◌∙◌, ap, ap₂, subst, append_assoc, append-nil, arith}
use Rattle.std.specs.Prelude.{if◌then◌else◌, option_map}
use Rattle.std.proofs.lemmas.Bool.{cases_lt}
use Rattle.cm_document.proofs.ReadingLemmas.{cases_Option}
use Rattle.cm_document.specs.declared.call.Call.{Call}
use Rattle.cm_document.specs.declared.call.Call.TheVariants.{Begin, End, Close}
use Rattle.cm_model.specs.Machine.{is_enabled, reply_of, answered, step}
use Rattle.cm_model.specs.Scheduled.{Session, Progress, Advanced, with_entry, ticket_in, next_call}
use Rattle.cm_model.specs.Scheduled.{stepped_on, called_on, advance, settle, settle_from}
use Rattle.cm_model.specs.Scheduled.{settle_all, looped, with_cycle, cycles, finish}
use Rattle.cm_model.specs.State.{State}
use Rattle.cm_model.specs.declared.entry.Entry.{Entry}
use Rattle.cm_model.specs.declared.reply.Reply.{Reply}
use Rattle.cm_model.proofs.AdvanceLemmas.{settle-next, settle-stays, settle-keeps}
use Rattle.cm_model.proofs.LegalLemmas.{Leads, Leads-step}

-- ---- Steps

-- a call that is enabled is answered
pub step_when : (s : State) (who : ℕ) (call : Call) → is_enabled s who call ≡ true
    → step s who call ≡ option_map (answered s call) (reply_of s call)
unfolding step
step_when s who call enabled =
    ap (λ (b : Bool). if b then option_map (answered s call) (reply_of s call) else None) enabled

-- and one that is not is not
pub step_unless : (s : State) (who : ℕ) (call : Call) → is_enabled s who call ≡ false → step s who call ≡ None
unfolding step
step_unless s who call not_enabled =
    ap (λ (b : Bool). if b then option_map (answered s call) (reply_of s call) else None) not_enabled

-- an enabled call that has this reply makes a step to what it leaves
pub step_to : (s to : State) (who : ℕ) (call : Call) (r : Reply) → is_enabled s who call ≡ true
    → reply_of s call ≡ Some r → (answered s call r).0 ≡ to → step s who call ≡ Some (to, r)
step_to s to who call r enabled replied left =
    step_when s who call enabled ∙ ap (option_map (answered s call)) replied ∙ ap (λ (t : State). Some (t, r)) left

-- ---- The session

-- the one session stands so
abbrev pub standing : State → List Entry → List Call → Option ℕ → Advanced
standing s made lines ticket = record { state = s; made = made; session = record { lines = lines; ticket = ticket } }

-- an entry of it
abbrev pub entry : Call → Reply → Entry
entry call r = record { who = 0; call = call; reply = r }

-- These calls lead it from one state to another, with these entries, and none is given a ticket.
abbrev pub Goes : State → List Call → State → List Entry → Type 0
Goes s [] to es = (to ≡ s) × (es ≡ [])
Goes s (call ∷ calls) to es =
    (mid : State) × (r : Reply) × (rest : List Entry) × (step s 0 call ≡ Some (mid, r)) × (ticket_in r ≡ None)
    × Goes mid calls to rest × (es ≡ entry call r ∷ rest)

-- it goes on by a step that it makes
advance_on : (s mid : State) (made : List Entry) (call : Call) (lines : List Call) (r : Reply)
    → step s 0 call ≡ Some (mid, r)
    → advance 0 (standing s made (call ∷ lines) None)
    ≡ Some (standing mid (with_entry made 0 call r) lines (ticket_in r))
unfolding advance
advance_on s mid made call lines r stepped = ap (stepped_on 0 (standing s made (call ∷ lines) None) call) stepped

-- and cannot where its next call is not enabled
stuck : (s : State) (made : List Entry) (lines : List Call) (ticket : Option ℕ) (call : Call)
    → next_call ticket lines ≡ Some call → step s 0 call ≡ None
    → advance 0 (standing s made lines ticket) ≡ None
unfolding advance
stuck s made lines ticket call next none =
    ap (called_on 0 (standing s made lines ticket)) next ∙ ap (stepped_on 0 (standing s made lines ticket) call) none

-- then it has settled
pub stands : (s : State) (made : List Entry) (lines : List Call) (ticket : Option ℕ) (call : Call)
    → next_call ticket lines ≡ Some call → step s 0 call ≡ None
    → settle 0 (standing s made lines ticket) ≡ standing s made lines ticket
stands s made lines ticket call next none =
    settle-stays 0 (standing s made lines ticket) (stuck s made lines ticket call next none)

-- it settles through one call,
pub settle_one : (s mid : State) (made : List Entry) (call : Call) (lines : List Call) (r : Reply)
    → step s 0 call ≡ Some (mid, r)
    → settle 0 (standing s made (call ∷ lines) None)
    ≡ settle 0 (standing mid (with_entry made 0 call r) lines (ticket_in r))
settle_one s mid made call lines r stepped =
    sym (settle-next 0 (standing s made (call ∷ lines) None)
    (standing mid (with_entry made 0 call r) lines (ticket_in r)) (advance_on s mid made call lines r stepped))

-- and through several
pub settle_on : (calls lines : List Call) (s to : State) (made es : List Entry) → Goes s calls to es
    → settle 0 (standing s made (calls ++ lines) None) ≡ settle 0 (standing to (made ++ es) lines None)
settle_on [] lines s to made es (there, none) =
    ap₂ (λ t xs. settle 0 (standing t xs lines None)) (sym there)
    (sym (append-nil made) ∙ ap (λ xs. made ++ xs) (sym none))
settle_on (call ∷ calls) lines s to made es (mid, r, rest, stepped, plain, goes, is) =
    settle_one s mid made call (calls ++ lines) r stepped
    ∙ ap (λ t. settle 0 (standing mid (with_entry made 0 call r) (calls ++ lines) t)) plain
    ∙ settle_on calls lines mid to (with_entry made 0 call r) rest goes
    ∙ ap (λ xs. settle 0 (standing to xs lines None))
    (append_assoc made (entry call r ∷ []) rest ∙ ap (λ xs. made ++ xs) (sym is))

-- calls behind calls
pub goes_append : (xs ys : List Call) (s mid to : State) (es fs : List Entry) → Goes s xs mid es → Goes mid ys to fs
    → Goes s (xs ++ ys) to (es ++ fs)
goes_append [] ys s mid to es fs (there, none) second =
    subst (λ all. Goes s ys to all) (ap (λ xs. xs ++ fs) (sym none)) (subst (λ t. Goes t ys to fs) there second)
goes_append (call ∷ xs) ys s mid to es fs (next, r, rest, stepped, plain, goes, is) second =
    (next, r, rest ++ fs, stepped, plain, goes_append xs ys next mid to rest fs goes second, ap (λ all. all ++ fs) is)

-- what leads to the first state leads on
pub goes_leads : (from : State) (calls : List Call) (s to : State) (made es : List Entry) → Leads from made s
    → Goes s calls to es → Leads from (made ++ es) to
goes_leads from [] s to made es leads (there, none) =
    subst (λ xs. Leads from xs to) (sym (append-nil made) ∙ ap (λ xs. made ++ xs) (sym none))
    (subst (Leads from made) (sym there) leads)
goes_leads from (call ∷ calls) s to made es leads (mid, r, rest, stepped, plain, goes, is) =
    subst (λ xs. Leads from xs to) (append_assoc made (entry call r ∷ []) rest ∙ ap (λ xs. made ++ xs) (sym is))
    (goes_leads from calls mid to (with_entry made 0 call r) rest (Leads-step made from s 0 call mid r leads stepped)
    goes)

-- ---- The loop

-- how far a start has come, with its one session
abbrev pub point : State → List Entry → List Call → Option ℕ → Progress
point s made lines ticket = record { state = s; made = made; sessions = record { lines = lines; ticket = ticket } ∷ [] }

-- all of it settles as its session does
pub settle_all_to : (s to : State) (made all : List Entry) (lines left : List Call) (ticket later : Option ℕ)
    → settle 0 (standing s made lines ticket) ≡ standing to all left later
    → settle_all (point s made lines ticket) ≡ point to all left later
unfolding settle_all
settle_all_to s to made all lines left ticket later settled =
    ap (λ (a : Advanced). record { state = a.state; made = a.made; sessions = a.session ∷ [] }) settled

-- the loop goes on by a step that it makes
pub looped_on : (call : Call) (p : Progress) (after : State) (r : Reply)
    → step p.state p.state.sessions call ≡ Some (after, r)
    → looped call p ≡ record p { state = after; made = with_entry p.made p.state.sessions call r }
unfolding looped
looped_on call p after r made =
    ap (λ (o : Option (State × Reply)). elim o [
      | None ↦ p
      | Some made ↦ record p { state = made.0; made = with_entry p.made p.state.sessions call made.1 }
    ]) made

-- ---- A history only grows

-- these entries are the first of those
abbrev pub Grows : List Entry → List Entry → Type 0
Grows first all = (later : List Entry) × (all ≡ first ++ later)

grows_itself : (xs : List Entry) → Grows xs xs
grows_itself xs = ([], sym (append-nil xs))

pub grows_on : (xs ys zs : List Entry) → Grows xs ys → Grows ys zs → Grows xs zs
grows_on xs ys zs (first, is) (second, so) =
    (first ++ second, so ∙ ap (λ all. all ++ second) is ∙ append_assoc xs first second)

settle_grows : (who : ℕ) (a : Advanced) (first : List Entry) → Grows first a.made → Grows first (settle who a).made
settle_grows who a first grows =
    settle-keeps (λ (each : Advanced). Grows first each.made) who
    (λ earlier after before one. grows_on first earlier.made after.made before
    (record { who = who; call = one.call; reply = one.reply } ∷ [], one.made)) a grows

settle_from_grows : (who : ℕ) (sessions settled : List Session) (s : State) (made first : List Entry) → Grows first made
    → Grows first (settle_from who sessions s made settled).made
settle_from_grows who [] settled s made first grows = grows
settle_from_grows who (session ∷ later) settled s made first grows =
    let a = settle who (record { state = s; made = made; session = session }) in
    settle_from_grows (who + 1) later (settled ++ a.session ∷ []) a.state a.made first
    (settle_grows who (record { state = s; made = made; session = session }) first grows)

settle_all_grows : (p : Progress) (first : List Entry) → Grows first p.made → Grows first (settle_all p).made
unfolding settle_all
settle_all_grows p first grows = settle_from_grows 0 p.sessions [] p.state p.made first grows

pub looped_grows : (call : Call) (p : Progress) (first : List Entry) → Grows first p.made
    → Grows first (looped call p).made
unfolding looped
looped_grows call p first grows =
    elim (cases_Option (step p.state p.state.sessions call)) [
      | inl none ↦ rw (none, looped) grows
      | inr (made, some) ↦ rw (some, looped)
          (grows_on first p.made (with_entry p.made p.state.sessions call made.1) grows
          (record { who = p.state.sessions; call = call; reply = made.1 } ∷ [], refl))
    ]

with_cycle_grows : (n : ℕ) (p : Progress) (first : List Entry) → Grows first p.made → Grows first (with_cycle n p).made
unfolding with_cycle
with_cycle_grows n p first grows =
    looped_grows (End n) (looped (Begin n) (settle_all p)) first
    (looped_grows (Begin n) (settle_all p) first (settle_all_grows p first grows))

-- what was made once a cycle begins stands at the end of it and of each later one, and behind the last
pub cycles_grow : (p : Progress) (n more : ℕ) (first : List Entry) → n ≤ more → Grows first (cycles n p).made
    → Grows first (cycles more p).made
cycles_grow p n zero first within grows =
    let e : n ≡ 0 = omega (arith, within) in subst (λ m. Grows first (cycles m p).made) e grows
cycles_grow p n (suc more) first within grows =
    elim (cases_lt n (suc more)) [
      | inl before ↦ with_cycle_grows more (cycles more p) first
          (cycles_grow p n more first (omega (arith, before)) grows)
      | inr last ↦ (let e : n ≡ suc more = omega (arith, last, within) in
          subst (λ m. Grows first (cycles m p).made) e grows)
    ]

pub finish_grows : (p : Progress) (first : List Entry) → Grows first p.made → Grows first (finish p).made
unfolding finish
finish_grows p first grows =
    settle_all_grows (looped Close (settle_all p)) first
    (looped_grows Close (settle_all p) first (settle_all_grows p first grows))
