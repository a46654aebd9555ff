-- How the entries of a session go on: behind each entry that gave a ticket stands its Told, and no Told stands
-- elsewhere.
use Rattle.std.proofs.Common.{◌≡◌, ℕ, Bool, true, false, List, [], ◌∷◌, ◌++◌, drop, Option}
use Rattle.std.proofs.Common.{Some, None, refl, sym, ap, subst, ◌∙◌, inl, inr, true≢false}
use Rattle.std.specs.Prelude.{flat_map, slice_get, if◌then◌else◌}
use Rattle.std.proofs.lemmas.Bool.{cases_Bool}
use Rattle.std.proofs.lemmas.Option.{same_Some}
use Rattle.cm_document.specs.declared.call.Call.{Call}
use Rattle.cm_document.specs.declared.call.Call.TheVariants.{Told}
use Rattle.cm_model.specs.Scheduled.{ticket_in}
use Rattle.cm_model.specs.Sessions.{calls_of, is_told, told_of, with_its_told, asked}
use Rattle.cm_model.specs.declared.entry.Entry.{Entry}
use Rattle.trace_laws.specs.Next.{ticket_given, ticket_after}

-- From here on, with this ticket to be told of, the entries go on so: first its Told, then any other call, and behind
-- that again.
abbrev pub Goes : List Entry → Option ℕ → Type 0
Goes [] ticket = Unit {0}
Goes (e ∷ es) (Some ticket) = (e.call ≡ Told ticket) × Goes es None
Goes (e ∷ es) None = (is_told e.call ≡ false) × Goes es (ticket_in e.reply)

-- ---- Tickets

-- a Told leaves none
pub told_gives : (e : Entry) (ticket : ℕ) → e.call ≡ Told ticket → ticket_given e ≡ None
told_gives e ticket told = ap (λ (call : Call). if is_told call then None else ticket_in e.reply) told

-- another call leaves the one that its reply has
pub asked_gives : (e : Entry) → is_told e.call ≡ false → ticket_given e ≡ ticket_in e.reply
asked_gives e other = ap (λ (told : Bool). if told then None else ticket_in e.reply) other

-- ---- Lists of entries

-- a Told is not among what is asked
pub asked_past : (e : Entry) (es : List Entry) → is_told e.call ≡ true → asked (e ∷ es) ≡ asked es
asked_past e es told = rw told refl

-- another call is
pub asked_first : (e : Entry) (es : List Entry) → is_told e.call ≡ false → asked (e ∷ es) ≡ e ∷ asked es
asked_first e es other = rw other refl

-- what is asked is no Told
first_asked : (es : List Entry) (f : Entry) (fs : List Entry) → asked es ≡ f ∷ fs → is_told f.call ≡ false
first_asked [] f fs same = cc
first_asked (e ∷ es) f fs same = elim (cases_Bool (is_told e.call)) [
  | inl told ↦ first_asked es f fs (sym (asked_past e es told) ∙ same)
  | inr other ↦
      let first : e ≡ f =
      same_Some e f (ap (λ (l : List Entry). slice_get l 0) (sym (asked_first e es other) ∙ same)) in
      ap (λ (each : Entry). is_told each.call) (sym first) ∙ other
]

-- ---- What follows its lines goes on so

-- the calls of what is asked do not begin with a Told
no_told_first : (asked_ones : List Entry) (call : Call) (calls : List Call)
    → ((f : Entry) (fs : List Entry) → asked_ones ≡ f ∷ fs → is_told f.call ≡ false)
    → call ∷ calls ≡ flat_map with_its_told asked_ones → is_told call ≡ false
no_told_first [] call calls none same = cc
no_told_first (f ∷ fs) call calls none same =
    let first : call ≡ f.call = same_Some call f.call (ap (λ (l : List Call). slice_get l 0) same) in
    ap is_told first ∙ none f fs refl

pub goes_from : (es : List Entry) (ticket : Option ℕ)
    → calls_of es ≡ told_of ticket ++ flat_map with_its_told (asked es) → Goes es ticket
goes_from [] ticket same = tt
goes_from (e ∷ es) (Some ticket) same =
    let told : e.call ≡ Told ticket = same_Some e.call (Told ticket) (ap (λ (l : List Call). slice_get l 0) same) in
    let rest : calls_of es ≡ flat_map with_its_told (asked (e ∷ es)) = ap (λ (l : List Call). drop 1 l) same in
    (told, goes_from es None (rest ∙ ap (flat_map with_its_told) (asked_past e es (ap is_told told))))
goes_from (e ∷ es) None same = elim (cases_Bool (is_told e.call)) [
  | inl told ↦
      let past = same ∙ ap (flat_map with_its_told) (asked_past e es told) in
      absurd (true≢false (sym told ∙ no_told_first (asked es) e.call (calls_of es) (first_asked es) past))
  | inr other ↦
      let whole = same ∙ ap (flat_map with_its_told) (asked_first e es other) in
      (other, goes_from es (ticket_in e.reply) (ap (λ (l : List Call). drop 1 l) whole))
]

-- at their end no ticket is left
pub none_left : (es : List Entry) (ticket : Option ℕ)
    → calls_of es ≡ told_of ticket ++ flat_map with_its_told (asked es) → ticket_after ticket es ≡ None
none_left [] None same = refl
none_left [] (Some ticket) same = cc
none_left (e ∷ es) (Some ticket) same =
    let told : e.call ≡ Told ticket = same_Some e.call (Told ticket) (ap (λ (l : List Call). slice_get l 0) same) in
    let rest : calls_of es ≡ flat_map with_its_told (asked (e ∷ es)) = ap (λ (l : List Call). drop 1 l) same in
    ap (λ given. ticket_after given es) (told_gives e ticket told)
    ∙ none_left es None (rest ∙ ap (flat_map with_its_told) (asked_past e es (ap is_told told)))
none_left (e ∷ es) None same = elim (cases_Bool (is_told e.call)) [
  | inl told ↦
      let past = same ∙ ap (flat_map with_its_told) (asked_past e es told) in
      absurd (true≢false (sym told ∙ no_told_first (asked es) e.call (calls_of es) (first_asked es) past))
  | inr other ↦
      let whole = same ∙ ap (flat_map with_its_told) (asked_first e es other) in
      ap (λ given. ticket_after given es) (asked_gives e other)
      ∙ none_left es (ticket_in e.reply) (ap (λ (l : List Call). drop 1 l) whole)
]

-- and what goes on so, and leaves none, has each Told where it belongs
pub told_each : (es : List Entry) (ticket : Option ℕ) → Goes es ticket → ticket_after ticket es ≡ None
    → calls_of es ≡ told_of ticket ++ flat_map with_its_told (asked es)
told_each [] None goes none = refl
told_each [] (Some ticket) goes none = cc
told_each (e ∷ es) (Some ticket) goes none =
    let rest = told_each es None goes.1
    (ap (λ given. ticket_after given es) (sym (told_gives e ticket goes.0)) ∙ none) in
    ap (λ call. call ∷ calls_of es) goes.0
    ∙ ap (λ calls. Told ticket ∷ calls) (rest ∙ ap (flat_map with_its_told) (sym (asked_past e es (ap is_told goes.0))))
told_each (e ∷ es) None goes none =
    let rest = told_each es (ticket_in e.reply) goes.1
    (ap (λ given. ticket_after given es) (sym (asked_gives e goes.0)) ∙ none) in
    ap (λ calls. e.call ∷ calls) rest ∙ ap (flat_map with_its_told) (sym (asked_first e es goes.0))

-- ---- Parts

-- a beginning goes on so, and the rest from where it leads
pub goes_split : (xs ys : List Entry) (ticket : Option ℕ) → Goes (xs ++ ys) ticket
    → Goes xs ticket × Goes ys (ticket_after ticket xs)
goes_split [] ys ticket goes = (tt, goes)
goes_split (x ∷ xs) ys (Some ticket) goes =
    let rest = goes_split xs ys None goes.1 in
    ((goes.0, rest.0), subst (λ given. Goes ys (ticket_after given xs)) (sym (told_gives x ticket goes.0)) rest.1)
goes_split (x ∷ xs) ys None goes =
    let rest = goes_split xs ys (ticket_in x.reply) goes.1 in
    ((goes.0, rest.0), subst (λ given. Goes ys (ticket_after given xs)) (sym (asked_gives x goes.0)) rest.1)

-- both go on as one
pub goes_join : (xs ys : List Entry) (ticket : Option ℕ) → Goes xs ticket → Goes ys (ticket_after ticket xs)
    → Goes (xs ++ ys) ticket
goes_join [] ys ticket first last = last
goes_join (x ∷ xs) ys (Some ticket) first last = (
  first.0,
  goes_join xs ys None first.1
      (subst (λ given. Goes ys (ticket_after given xs)) (told_gives x ticket first.0) last),
)
goes_join (x ∷ xs) ys None first last = (
  first.0,
  goes_join xs ys (ticket_in x.reply) first.1
      (subst (λ given. Goes ys (ticket_after given xs)) (asked_gives x first.0) last),
)

-- the ticket that is left is that of the last part
pub ticket_past : (xs ys : List Entry) (ticket : Option ℕ)
    → ticket_after ticket (xs ++ ys) ≡ ticket_after (ticket_after ticket xs) ys
ticket_past [] ys ticket = refl
ticket_past (x ∷ xs) ys ticket = ticket_past xs ys (ticket_given x)
