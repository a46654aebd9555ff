-- Without an option the command takes no other words than a job's, with or without hyphens.
use Rattle.std.proofs.Common.{◌≡◌, ◌⊎◌, ◌∙◌, ℕ, Bool, cond, true, false, zero, refl, sym, ap, ap₂, subst, List}
use Rattle.std.proofs.Common.{[], ◌∷◌, length, inl, inr, true≢false, Option, Some, None, Result, Ok, Err, codes}
use Rattle.std.proofs.lemmas.Bool.{cases_Bool, or_parts}
use Rattle.std.proofs.lemmas.Slice.Eq.{bytes_eq-Decides}
use Rattle.std.specs.Option.{option_map_or}
use Rattle.std.specs.Prelude.{◌||◌, option_and_then, slice_get}
use Rattle.std.specs.Str.{bytes_eq, chars}
use Rattle.clap.specs.Faults.{bundle_fault, bundle_step_fault, flag_word_fault, flags_fault}
use Rattle.clap.specs.Faults.{long_fault, step_fault, turn_fault, walk_fault, word_fault}
use Rattle.clap.specs.Kinds.{Kinds, or_else}
use Rattle.clap.specs.Simple.{Shape, built, filled, with_index}
use Rattle.clap.specs.Walk.{Held, Row, Rule, Step, Text, Walk, after_flag, after_step, bundle_met}
use Rattle.clap.specs.Walk.{bundle_step, finished, first_of, idle, long_or_other, nothing_held}
use Rattle.clap.specs.Walk.{plain, rows_after, short_or_plain, trailing, value, walked, word_met}
use Rattle.clap.specs.Words.{fault_of, matches_of}
use Rattle.clap.specs.Lexer.{long_of, short_of}
use Rattle.cm_words.specs.Accepted.{HasNoOption, IsAround, IsListed, gives_option, is_option, word_for}
use Rattle.cm_words.specs.Words.{asked, command, given, job_of, kind_named, make_rule, unless_at_fault, workers_rule}
use Rattle.cm_words.specs.declared.job.Job.{Job}
use Rattle.cm_words.specs.declared.job.JobKind.{JobKind}
use Rattle.cm_words.specs.declared.job.JobKind.TheVariants.{Run, Steps, Live, Upgrade, Check, Plan}
use Rattle.cm_words.specs.declared.job.WordsFault.{WordsFault}
use Rattle.cm_words.specs.declared.job.WordsFault.TheVariants.{Usage}

abbrev top : Shape
top = (built command).top

abbrev hyphens : Text
hyphens = codes "--"

-- what is held between two words, no bundle being read
abbrev holds : List Row → Option (Text × List Text) → Held
holds rows pending = record { rows = rows; pending = pending; skip = 0 }

-- where a reader stands before it has a word, and after it: whether hyphens were met
abbrev before : Bool → Walk
before met = record { held = nothing_held; waiting = idle; position = 1; is_trailing = met; stopped = None }

abbrev after : Bool → Text → Walk
after met v =
    record {
      held = holds [] (Some (codes "job", v ∷ []));
      waiting = idle;
      position = 2;
      is_trailing = met;
      stopped =
          None;
    }

both_none : (a b : Kinds) → or_else a b ≡ [] → (a ≡ []) × (b ≡ [])
both_none [] b e = (refl, e)
both_none (k ∷ ks) b e = cc

-- ---- A word that is refused neither as a flag nor as a bundle goes to the job

plain_first : (first : Option ℕ) (flags : Text) (k : ℕ) (rows : List Row) (pending : Option (Text × List Text))
    (v : Text)
    → bundle_step_fault top.rules false first flags zero (holds rows pending) (flags_fault top.rules false k) ≡ []
    → after_flag top.rules idle v
    (bundle_step top.rules first flags zero plain (holds rows pending) (bundle_met top.rules k)).0
    (bundle_step top.rules first flags zero plain (holds rows pending) (bundle_met top.rules k)).1
    ≡ (holds rows pending, value)
plain_first None flags k rows pending v e = refl
plain_first (Some c) flags k rows pending v e = cc

plain_short : (short : Option Text) (rows : List Row) (pending : Option (Text × List Text)) (v : Text)
    → option_map_or (λ flags. bundle_fault top.rules false flags (holds rows pending)) short [] ≡ []
    → short_or_plain top.rules idle v short (holds rows pending) ≡ (holds rows pending, value)
unfolding flags_fault bundle_met
plain_short None rows pending v e = refl
plain_short (Some []) rows pending v e = refl
plain_short (Some (x ∷ xs)) rows pending v e =
    plain_first (slice_get (chars (x ∷ xs)) 0) (x ∷ xs) (length xs) rows pending v e

-- the options, as the command reads them
abbrev first_option : Rule
first_option = with_index 2 (filled make_rule)

abbrev last_option : Rule
last_option = with_index 3 (filled workers_rule)

-- a long word that is neither option is refused
not_an_option : (b d : Bool) (first last : Rule) (text : Option Text) (h : Held) → b ≡ false → d ≡ false
    → long_fault top.rules false (cond (b || false) (Some first) (cond (d || false) (Some last) None)) text h ≡ [] → ⊥
not_an_option true d first last text h other neither e = absurd (true≢false other)
not_an_option false true first last text h other neither e = absurd (true≢false neither)
not_an_option false false first last text h other neither e = cc

plain_long : (long : Option (Text × Option Text)) (rows : List Row) (pending : Option (Text × List Text)) (v : Text)
    → option_map_or (λ named. is_option named.0) long false ≡ false
    → flag_word_fault top.rules false long v (holds rows pending) ≡ []
    → long_or_other top.rules idle v long (holds rows pending) ≡ (holds rows pending, value)
plain_long (Some p) rows pending v no_option e =
    let parts = or_parts (bytes_eq (codes "make") p.0) (bytes_eq (codes "workers") p.0) no_option in
    absurd (not_an_option (bytes_eq (codes "make") p.0) (bytes_eq (codes "workers") p.0) first_option last_option p.1
    (holds rows pending) parts.0 parts.1 e)
plain_long None rows pending v no_option e = plain_short (short_of v) rows pending v e

unless_hyphens : (b : Bool) (long : Option (Text × Option Text)) (rows : List Row) (pending : Option (Text × List Text))
    (position : ℕ) (v : Text) → b ≡ false
    → option_map_or (λ named. is_option named.0) long false ≡ false
    → cond b [] (flag_word_fault top.rules false long v (holds rows pending)) ≡ []
    → cond b (holds rows pending, trailing position) (long_or_other top.rules idle v long (holds rows pending))
    ≡ (holds rows pending, value)
unless_hyphens true long rows pending position v other no_option e = absurd (true≢false other)
unless_hyphens false long rows pending position v other no_option e = plain_long long rows pending v no_option e

plain_met : (rows : List Row) (pending : Option (Text × List Text)) (position : ℕ) (v : Text)
    → bytes_eq v hyphens ≡ false → gives_option v ≡ false
    → word_fault top [] false idle v (holds rows pending) ≡ []
    → word_met top.rules [] false idle position v (holds rows pending) ≡ (holds rows pending, value)
plain_met rows pending position v other no_option e =
    unless_hyphens (bytes_eq v hyphens) (long_of v) rows pending position v other no_option e

-- ---- One word after another

turn_parts : (w : Walk) (v : Text) (vs : List Text) → walk_fault top [] w (v ∷ vs) ≡ []
    → (turn_fault top [] w v ≡ []) × (walk_fault top [] (walked top.rules [] w v) vs ≡ [])
unfolding walk_fault
turn_parts w v vs e = both_none (turn_fault top [] w v) (walk_fault top [] (walked top.rules [] w v) vs) e

-- behind hyphens and a word nothing may follow
ends : (u : Text) (vs : List Text) → walk_fault top [] (after true u) vs ≡ [] → vs ≡ []
unfolding walk_fault
ends u [] e = refl
ends u (v ∷ vs) e = cc

-- behind hyphens one word may follow
one_more : (vs : List Text) → walk_fault top [] (before true) vs ≡ [] → (vs ≡ []) ⊎ ((v : Text) × (vs ≡ v ∷ []))
unfolding walk_fault walked
one_more [] e = inl refl
one_more (v ∷ vs) e =
    let rest : walk_fault top [] (after true v) vs ≡ [] = e in
    inr (v, ap (λ t. v ∷ t) (ends v vs rest))

-- a second word is refused
second : (u v : Text) → bytes_eq v hyphens ≡ false → gives_option v ≡ false → turn_fault top [] (after false u) v ≡ []
    → ⊥
second u v other no_option e =
    let met = word_met top.rules [] false idle 2 v (after false u).held in
    let parts = both_none (word_fault top [] false idle v (after false u).held) (step_fault top 2 met.0 met.1) e in
    let is = plain_met [] (Some (codes "job", u ∷ [])) 2 v other no_option parts.0 in
    let no : step_fault top 2 (after false u).held value ≡ [] =
    subst (λ (m : Held × Step). step_fault top 2 m.0 m.1 ≡ []) is parts.1 in
    cc

-- behind a word hyphens may follow
hyphens_after : (u : Text) (vs : List Text) → HasNoOption vs → walk_fault top [] (after false u) vs ≡ []
    → (vs ≡ []) ⊎ (vs ≡ hyphens ∷ [])
unfolding walk_fault walked
hyphens_after u [] free e = inl refl
hyphens_after u (v ∷ vs) free e = elim (cases_Bool (bytes_eq v hyphens)) [
  | inl same ↦
      let is : v ≡ hyphens = (bytes_eq-Decides v hyphens).0 same in
      let rest : walk_fault top [] (after true u) vs ≡ [] =
      subst (λ (t : Text). walk_fault top [] (after false u) (t ∷ vs) ≡ []) is e in
      inr (ap₂ (λ (a : Text) (b : List Text). a ∷ b) is (ends u vs rest))
  | inr other ↦ absurd (second u v other free.0 (turn_parts (after false u) v vs e).0)
]

-- the first word
first_step : (v : Text) → bytes_eq v hyphens ≡ false → gives_option v ≡ false → turn_fault top [] (before false) v ≡ []
    → walked top.rules [] (before false) v ≡ after false v
unfolding walked
first_step v other no_option e =
    let met = word_met top.rules [] false idle 1 v nothing_held in
    let parts = both_none (word_fault top [] false idle v nothing_held) (step_fault top 1 met.0 met.1) e in
    ap (λ (m : Held × Step). after_step top.rules v (before false) m.0 m.1)
    (plain_met [] None 1 v other no_option parts.0)

-- ---- All words

-- the text that is read of these words for an argument
abbrev read_of : Text → List Text → Option Text
read_of id words = first_of id (rows_after top.rules [] words)

-- a word is read for the job, and none for an option
abbrev IsJob : Text → List Text → Type 0
IsJob v words =
    (read_of (codes "job") words ≡ Some v)
    × ((read_of (codes "make") words ≡ None) × (read_of (codes "workers") words ≡ None))

-- no word is read for the job, or the words are around it
abbrev IsRead : List Text → Type 0
IsRead words = ((words ≡ []) ⊎ (words ≡ hyphens ∷ [])) ⊎ ((v : Text) × IsJob v words × IsAround v words)

read_behind_hyphens : (v : Text) → IsJob v (hyphens ∷ v ∷ [])
unfolding walked
read_behind_hyphens v = (refl, (refl, refl))

read_alone : (v : Text) → walked top.rules [] (before false) v ≡ after false v → IsJob v (v ∷ [])
read_alone v step = (
  ap (λ (w : Walk). first_of (codes "job") (finished top.rules w.held)) step,
  (
    ap (λ (w : Walk). first_of (codes "make") (finished top.rules w.held)) step,
    ap (λ (w : Walk). first_of (codes "workers") (finished top.rules w.held)) step,
  ),
)

read_before_hyphens : (v : Text) → walked top.rules [] (before false) v ≡ after false v → IsJob v (v ∷ hyphens ∷ [])
unfolding walked
read_before_hyphens v step = (
  ap (λ (w : Walk). first_of (codes "job") (finished top.rules (walked top.rules [] w hyphens).held)) step,
  (
    ap (λ (w : Walk). first_of (codes "make") (finished top.rules (walked top.rules [] w hyphens).held)) step,
    ap (λ (w : Walk). first_of (codes "workers") (finished top.rules (walked top.rules [] w hyphens).held)) step,
  ),
)

reads : (words : List Text) → HasNoOption words → walk_fault top [] (before false) words ≡ [] → IsRead words
unfolding walk_fault walked
reads [] free e = inl (inl refl)
reads (v ∷ vs) free e = elim (cases_Bool (bytes_eq v hyphens)) [
  | inl same ↦
      let is : v ≡ hyphens = (bytes_eq-Decides v hyphens).0 same in
      let rest : walk_fault top [] (before true) vs ≡ [] =
      subst (λ (t : Text). walk_fault top [] (before false) (t ∷ vs) ≡ []) is e in
      elim (one_more vs rest) [
        | inl none ↦ inl (inr (ap₂ (λ (a : Text) (b : List Text). a ∷ b) is none))
        | inr one ↦
            let whole : v ∷ vs ≡ hyphens ∷ one.0 ∷ [] = ap₂ (λ (a : Text) (b : List Text). a ∷ b) is one.1 in
            inr (one.0, subst (IsJob one.0) (sym whole) (read_behind_hyphens one.0), inr (inl whole))
      ]
  | inr other ↦
      let parts = turn_parts (before false) v vs e in
      let step = first_step v other free.0 parts.0 in
      let rest : walk_fault top [] (after false v) vs ≡ [] =
      subst (λ (w : Walk). walk_fault top [] w vs ≡ []) step parts.1 in
      elim (hyphens_after v vs free.1 rest) [
        | inl none ↦
            let whole : v ∷ vs ≡ v ∷ [] = ap (λ (b : List Text). v ∷ b) none in
            inr (v, subst (IsJob v) (sym whole) (read_alone v step), inl whole)
        | inr more ↦
            let whole : v ∷ vs ≡ v ∷ hyphens ∷ [] = ap (λ (b : List Text). v ∷ b) more in
            inr (v, subst (IsJob v) (sym whole) (read_before_hyphens v step), inr (inr whole))
      ]
]

-- ---- The job

-- the job of what was given for it and for the options
abbrev of_given : Option Text → Option Text → Option Text → Result Job WordsFault
of_given word make workers = job_of (option_and_then kind_named word) make workers

taken : (kinds : Kinds) (word make workers : Option Text) (job : Job)
    → of_given (unless_at_fault kinds word) (unless_at_fault kinds make) (unless_at_fault kinds workers) ≡ Ok job
    → (kinds ≡ []) × (of_given word make workers ≡ Ok job)
taken [] word make workers job e = (refl, e)
taken (k ∷ ks) word make workers job e = cc

abbrev job_in : Result Job WordsFault → Job
job_in (Ok job) = job
job_in (Err fault) = record { kind = Run; make = None; workers = 1 }

-- a word is that of its job, which makes no document and has one worker
abbrev Names : Text → Job → Type 0
Names v job = (v ≡ word_for job.kind) × ((job.make ≡ None) × (job.workers ≡ 1))

-- a word that is a kind's names the job of this kind
names : (kind : JobKind) (v : Text) (job : Job) → v ≡ word_for kind → job_of (Some kind) None None ≡ Ok job
    → Names v job
names kind v job is e = (
  is ∙ ap (λ (r : Result Job WordsFault). word_for (job_in r).kind) e,
  (
    ap (λ (r : Result Job WordsFault). (job_in r).make) (sym e),
    ap (λ (r : Result Job WordsFault). (job_in r).workers) (sym e),
  ),
)

which : (a b d u k l : Bool) (v : Text) (job : Job) → (a ≡ true → v ≡ codes "run") → (b ≡ true → v ≡ codes "steps")
    → (d ≡ true → v ≡ codes "live") → (u ≡ true → v ≡ codes "upgrade") → (k ≡ true → v ≡ codes "check")
    → (l ≡ true → v ≡ codes "plan")
    → job_of (cond a (Some Run)
    (cond b (Some Steps) (cond d (Some Live) (cond u (Some Upgrade) (cond k (Some Check) (cond l (Some Plan) None))))))
    None None ≡ Ok job → Names v job
which true b d u k l v job run steps live upgrade check plan e = names Run v job (run refl) e
which false true d u k l v job run steps live upgrade check plan e = names Steps v job (steps refl) e
which false false true u k l v job run steps live upgrade check plan e = names Live v job (live refl) e
which false false false true k l v job run steps live upgrade check plan e = names Upgrade v job (upgrade refl) e
which false false false false true l v job run steps live upgrade check plan e = names Check v job (check refl) e
which false false false false false true v job run steps live upgrade check plan e = names Plan v job (plan refl) e
which false false false false false false v job run steps live upgrade check plan e = cc

named : (v : Text) (job : Job) → of_given (Some v) None None ≡ Ok job → Names v job
named v job e =
    which (bytes_eq v (codes "run")) (bytes_eq v (codes "steps")) (bytes_eq v (codes "live"))
    (bytes_eq v (codes "upgrade")) (bytes_eq v (codes "check")) (bytes_eq v (codes "plan")) v job
    (bytes_eq-Decides v (codes "run")).0 (bytes_eq-Decides v (codes "steps")).0 (bytes_eq-Decides v (codes "live")).0
    (bytes_eq-Decides v (codes "upgrade")).0 (bytes_eq-Decides v (codes "check")).0
    (bytes_eq-Decides v (codes "plan")).0 e

-- what is given of words
abbrev given_of : List Text → Result Job WordsFault
given_of words = of_given (read_of (codes "job") words) (read_of (codes "make") words) (read_of (codes "workers") words)

-- what is given where a word is read for the job, and none for an option
alone_given : (v : Text) (words : List Text) (job : Job) → IsJob v words → given_of words ≡ Ok job
    → of_given (Some v) None None ≡ Ok job
alone_given v words job read e =
    subst (λ (n : Option Text). of_given (Some v) None n ≡ Ok job) read.1.1
    (subst (λ (m : Option Text). of_given (Some v) m (read_of (codes "workers") words) ≡ Ok job) read.1.0
    (subst (λ (w : Option Text). of_given w (read_of (codes "make") words) (read_of (codes "workers") words) ≡ Ok job)
    read.0 e))

listed : (words : List Text) (job : Job) → IsRead words → given_of words ≡ Ok job → IsListed words job
unfolding walked
listed words job (inl (inl none)) e =
    let no : given_of [] ≡ Ok job = subst (λ (t : List Text). given_of t ≡ Ok job) none e in cc
listed words job (inl (inr alone)) e =
    let no : given_of (hyphens ∷ []) ≡ Ok job = subst (λ (t : List Text). given_of t ≡ Ok job) alone e in cc
listed words job (inr (v, read, around)) e =
    let is = named v job (alone_given v words job read e) in
    record { around = subst (λ (w : Text). IsAround w words) is.0 around; reads = is.1.0; alone = is.1.1 }

pub accepted_alone : (words : List Text) (job : Job) → HasNoOption words → asked words ≡ Ok job → IsListed words job
unfolding given
accepted_alone words job free e =
    let line = codes "cm" ∷ words in
    let got = taken (fault_of command line) (first_of (codes "job") (matches_of command line))
    (first_of (codes "make") (matches_of command line))
    (first_of (codes "workers") (matches_of command line)) job e in
    let walk = both_none (walk_fault top [] (before false) words) _ got.0 in
    listed words job (reads words free walk.0) got.1
