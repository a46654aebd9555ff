-- Words that are accepted, and words that are refused: computed from the definitions.
use Rattle.std.proofs.Common.{◌≡◌, ℕ, refl, sym, subst, List, [], ◌∷◌, inl, inr, Option, None, Some, Ok, Err}
use Rattle.std.specs.Prelude.{codes}
use Rattle.clap.proofs.OnLiterals.{clap_on_literals}
use Rattle.clap.specs.Words.{Text}
use Rattle.cm_words.specs.Accepted.{IsAround, IsListed, word_for}
use Rattle.cm_words.specs.Words.{asked, given}
use Rattle.cm_words.specs.declared.job.Job.{Job}
use Rattle.cm_words.specs.declared.job.JobKind.{JobKind}
use Rattle.cm_words.specs.declared.job.JobKind.TheVariants.{Run, Steps, Live, Upgrade, Check, Plan}
use Rattle.cm_words.specs.declared.job.WordsFault.TheVariants.{Usage}

-- ---- Accepted

run : asked (codes "run" ∷ []) ≡ Ok (record { kind = Run; make = None; workers = 1 })
unfolding given clap_on_literals
run = refl

steps : asked (codes "steps" ∷ []) ≡ Ok (record { kind = Steps; make = None; workers = 1 })
unfolding given clap_on_literals
steps = refl

live : asked (codes "live" ∷ []) ≡ Ok (record { kind = Live; make = None; workers = 1 })
unfolding given clap_on_literals
live = refl

upgrade : asked (codes "upgrade" ∷ []) ≡ Ok (record { kind = Upgrade; make = None; workers = 1 })
unfolding given clap_on_literals
upgrade = refl

check : asked (codes "check" ∷ []) ≡ Ok (record { kind = Check; make = None; workers = 1 })
unfolding given clap_on_literals
check = refl

plan : asked (codes "plan" ∷ []) ≡ Ok (record { kind = Plan; make = None; workers = 1 })
unfolding given clap_on_literals
plan = refl

-- two hyphens end the options
run_and_hyphens : asked (codes "run" ∷ codes "--" ∷ []) ≡ Ok (record { kind = Run; make = None; workers = 1 })
unfolding given clap_on_literals
run_and_hyphens = refl

hyphens_and_run : asked (codes "--" ∷ codes "run" ∷ []) ≡ Ok (record { kind = Run; make = None; workers = 1 })
unfolding given clap_on_literals
hyphens_and_run = refl

steps_and_hyphens : asked (codes "steps" ∷ codes "--" ∷ []) ≡ Ok (record { kind = Steps; make = None; workers = 1 })
unfolding given clap_on_literals
steps_and_hyphens = refl

hyphens_and_steps : asked (codes "--" ∷ codes "steps" ∷ []) ≡ Ok (record { kind = Steps; make = None; workers = 1 })
unfolding given clap_on_literals
hyphens_and_steps = refl

live_and_hyphens : asked (codes "live" ∷ codes "--" ∷ []) ≡ Ok (record { kind = Live; make = None; workers = 1 })
unfolding given clap_on_literals
live_and_hyphens = refl

hyphens_and_live : asked (codes "--" ∷ codes "live" ∷ []) ≡ Ok (record { kind = Live; make = None; workers = 1 })
unfolding given clap_on_literals
hyphens_and_live = refl

upgrade_and_hyphens : asked (codes "upgrade" ∷ codes "--" ∷ [])
    ≡ Ok (record { kind = Upgrade; make = None; workers = 1 })
unfolding given clap_on_literals
upgrade_and_hyphens = refl

hyphens_and_upgrade : asked (codes "--" ∷ codes "upgrade" ∷ [])
    ≡ Ok (record { kind = Upgrade; make = None; workers = 1 })
unfolding given clap_on_literals
hyphens_and_upgrade = refl

check_and_hyphens : asked (codes "check" ∷ codes "--" ∷ []) ≡ Ok (record { kind = Check; make = None; workers = 1 })
unfolding given clap_on_literals
check_and_hyphens = refl

hyphens_and_check : asked (codes "--" ∷ codes "check" ∷ []) ≡ Ok (record { kind = Check; make = None; workers = 1 })
unfolding given clap_on_literals
hyphens_and_check = refl

plan_and_hyphens : asked (codes "plan" ∷ codes "--" ∷ []) ≡ Ok (record { kind = Plan; make = None; workers = 1 })
unfolding given clap_on_literals
plan_and_hyphens = refl

hyphens_and_plan : asked (codes "--" ∷ codes "plan" ∷ []) ≡ Ok (record { kind = Plan; make = None; workers = 1 })
unfolding given clap_on_literals
hyphens_and_plan = refl

-- so the words of each job ask for it
around_accepted : (kind : JobKind) (words : List Text) → IsAround (word_for kind) words
    → asked words ≡ Ok (record { kind = kind; make = None; workers = 1 })
around_accepted Run words (inl e) =
    subst (λ (t : List Text). asked t ≡ Ok (record { kind = Run; make = None; workers = 1 })) (sym e) run
around_accepted Run words (inr (inl e)) =
    subst (λ (t : List Text). asked t ≡ Ok (record { kind = Run; make = None; workers = 1 })) (sym e) hyphens_and_run
around_accepted Run words (inr (inr e)) =
    subst (λ (t : List Text). asked t ≡ Ok (record { kind = Run; make = None; workers = 1 })) (sym e) run_and_hyphens
around_accepted Steps words (inl e) =
    subst (λ (t : List Text). asked t ≡ Ok (record { kind = Steps; make = None; workers = 1 })) (sym e) steps
around_accepted Steps words (inr (inl e)) =
    subst (λ (t : List Text). asked t ≡ Ok (record { kind = Steps; make = None; workers = 1 })) (sym e)
    hyphens_and_steps
around_accepted Steps words (inr (inr e)) =
    subst (λ (t : List Text). asked t ≡ Ok (record { kind = Steps; make = None; workers = 1 })) (sym e)
    steps_and_hyphens
around_accepted Live words (inl e) =
    subst (λ (t : List Text). asked t ≡ Ok (record { kind = Live; make = None; workers = 1 })) (sym e) live
around_accepted Live words (inr (inl e)) =
    subst (λ (t : List Text). asked t ≡ Ok (record { kind = Live; make = None; workers = 1 })) (sym e) hyphens_and_live
around_accepted Live words (inr (inr e)) =
    subst (λ (t : List Text). asked t ≡ Ok (record { kind = Live; make = None; workers = 1 })) (sym e) live_and_hyphens
around_accepted Upgrade words (inl e) =
    subst (λ (t : List Text). asked t ≡ Ok (record { kind = Upgrade; make = None; workers = 1 })) (sym e) upgrade
around_accepted Upgrade words (inr (inl e)) =
    subst (λ (t : List Text). asked t ≡ Ok (record { kind = Upgrade; make = None; workers = 1 })) (sym e)
    hyphens_and_upgrade
around_accepted Upgrade words (inr (inr e)) =
    subst (λ (t : List Text). asked t ≡ Ok (record { kind = Upgrade; make = None; workers = 1 })) (sym e)
    upgrade_and_hyphens
around_accepted Check words (inl e) =
    subst (λ (t : List Text). asked t ≡ Ok (record { kind = Check; make = None; workers = 1 })) (sym e) check
around_accepted Check words (inr (inl e)) =
    subst (λ (t : List Text). asked t ≡ Ok (record { kind = Check; make = None; workers = 1 })) (sym e)
    hyphens_and_check
around_accepted Check words (inr (inr e)) =
    subst (λ (t : List Text). asked t ≡ Ok (record { kind = Check; make = None; workers = 1 })) (sym e)
    check_and_hyphens
around_accepted Plan words (inl e) =
    subst (λ (t : List Text). asked t ≡ Ok (record { kind = Plan; make = None; workers = 1 })) (sym e) plan
around_accepted Plan words (inr (inl e)) =
    subst (λ (t : List Text). asked t ≡ Ok (record { kind = Plan; make = None; workers = 1 })) (sym e) hyphens_and_plan
around_accepted Plan words (inr (inr e)) =
    subst (λ (t : List Text). asked t ≡ Ok (record { kind = Plan; make = None; workers = 1 })) (sym e) plan_and_hyphens

pub listed_accepted : (words : List Text) (job : Job) → IsListed words job → asked words ≡ Ok job
listed_accepted words job listed =
    subst (λ (make : Option ℕ). asked words ≡ Ok (record { kind = job.kind; make = make; workers = job.workers }))
    (sym listed.reads)
    (subst (λ (count : ℕ). asked words ≡ Ok (record { kind = job.kind; make = None; workers = count }))
    (sym listed.alone) (around_accepted job.kind words listed.around))

-- ---- Accepted with a number of rounds

making : asked (codes "run" ∷ codes "--make" ∷ codes "1" ∷ []) ≡ Ok (record { kind = Run; make = Some 1; workers = 1 })
unfolding given clap_on_literals
making = refl

making_the_most : asked (codes "steps" ∷ codes "--make" ∷ codes "1000" ∷ [])
    ≡ Ok (record { kind = Steps; make = Some 1000; workers = 1 })
unfolding given clap_on_literals
making_the_most = refl

making_first : asked (codes "--make" ∷ codes "5" ∷ codes "run" ∷ [])
    ≡ Ok (record { kind = Run; make = Some 5; workers = 1 })
unfolding given clap_on_literals
making_first = refl

making_with_a_sign : asked (codes "run" ∷ codes "--make=5" ∷ [])
    ≡ Ok (record { kind = Run; make = Some 5; workers = 1 })
unfolding given clap_on_literals
making_with_a_sign = refl

making_with_a_sign_first : asked (codes "--make=5" ∷ codes "steps" ∷ [])
    ≡ Ok (record { kind = Steps; make = Some 5; workers = 1 })
unfolding given clap_on_literals
making_with_a_sign_first = refl

making_before_hyphens : asked (codes "--make" ∷ codes "5" ∷ codes "--" ∷ codes "run" ∷ [])
    ≡ Ok (record { kind = Run; make = Some 5; workers = 1 })
unfolding given clap_on_literals
making_before_hyphens = refl

making_live : asked (codes "live" ∷ codes "--make" ∷ codes "5" ∷ [])
    ≡ Ok (record { kind = Live; make = Some 5; workers = 1 })
unfolding given clap_on_literals
making_live = refl

-- zeros may lead the number
making_with_a_zero : asked (codes "run" ∷ codes "--make" ∷ codes "05" ∷ [])
    ≡ Ok (record { kind = Run; make = Some 5; workers = 1 })
unfolding given clap_on_literals
making_with_a_zero = refl

-- ---- Accepted with a number of workers

sharing : asked (codes "run" ∷ codes "--workers" ∷ codes "2" ∷ [])
    ≡ Ok (record { kind = Run; make = None; workers = 2 })
unfolding given clap_on_literals
sharing = refl

sharing_with_the_most : asked (codes "live" ∷ codes "--workers=8" ∷ [])
    ≡ Ok (record { kind = Live; make = None; workers = 8 })
unfolding given clap_on_literals
sharing_with_the_most = refl

sharing_with_one : asked (codes "--workers" ∷ codes "1" ∷ codes "steps" ∷ [])
    ≡ Ok (record { kind = Steps; make = None; workers = 1 })
unfolding given clap_on_literals
sharing_with_one = refl

sharing_what_is_made : asked (codes "run" ∷ codes "--make" ∷ codes "1" ∷ codes "--workers" ∷ codes "4" ∷ [])
    ≡ Ok (record { kind = Run; make = Some 1; workers = 4 })
unfolding given clap_on_literals
sharing_what_is_made = refl

-- ---- Refused

-- an upgrade makes no document
making_an_upgrade : asked (codes "upgrade" ∷ codes "--make" ∷ codes "5" ∷ []) ≡ Err Usage
unfolding given clap_on_literals
making_an_upgrade = refl

-- nor does a check
making_a_check : asked (codes "check" ∷ codes "--make" ∷ codes "5" ∷ []) ≡ Err Usage
unfolding given clap_on_literals
making_a_check = refl

-- nor does a plan
making_a_plan : asked (codes "plan" ∷ codes "--make" ∷ codes "5" ∷ []) ≡ Err Usage
unfolding given clap_on_literals
making_a_plan = refl

no_words : asked [] ≡ Err Usage
unfolding given clap_on_literals
no_words = refl

another_word : asked (codes "walk" ∷ []) ≡ Err Usage
unfolding given clap_on_literals
another_word = refl

an_empty_word : asked (codes "" ∷ []) ≡ Err Usage
unfolding given clap_on_literals
an_empty_word = refl

another_case : asked (codes "Run" ∷ []) ≡ Err Usage
unfolding given clap_on_literals
another_case = refl

lives : asked (codes "lives" ∷ []) ≡ Err Usage
unfolding given clap_on_literals
lives = refl

two_jobs : asked (codes "run" ∷ codes "run" ∷ []) ≡ Err Usage
unfolding given clap_on_literals
two_jobs = refl

hyphens_alone : asked (codes "--" ∷ []) ≡ Err Usage
unfolding given clap_on_literals
hyphens_alone = refl

hyphens_for_a_job : asked (codes "--" ∷ codes "--" ∷ []) ≡ Err Usage
unfolding given clap_on_literals
hyphens_for_a_job = refl

a_flag_for_help : asked (codes "--help" ∷ []) ≡ Err Usage
unfolding given clap_on_literals
a_flag_for_help = refl

a_short_flag : asked (codes "run" ∷ codes "-h" ∷ []) ≡ Err Usage
unfolding given clap_on_literals
a_short_flag = refl

a_word_for_help : asked (codes "help" ∷ []) ≡ Err Usage
unfolding given clap_on_literals
a_word_for_help = refl

-- ---- Refused for the option

making_nothing : asked (codes "run" ∷ codes "--make" ∷ []) ≡ Err Usage
unfolding given clap_on_literals
making_nothing = refl

making_an_empty_text : asked (codes "run" ∷ codes "--make=" ∷ []) ≡ Err Usage
unfolding given clap_on_literals
making_an_empty_text = refl

making_in_short : asked (codes "run" ∷ codes "--mak" ∷ codes "5" ∷ []) ≡ Err Usage
unfolding given clap_on_literals
making_in_short = refl

making_too_much : asked (codes "run" ∷ codes "--make" ∷ codes "1001" ∷ []) ≡ Err Usage
unfolding given clap_on_literals
making_too_much = refl

making_twice : asked (codes "run" ∷ codes "--make" ∷ codes "1" ∷ codes "--make" ∷ codes "2" ∷ []) ≡ Err Usage
unfolding given clap_on_literals
making_twice = refl

making_no_rounds : asked (codes "run" ∷ codes "--make" ∷ codes "0" ∷ []) ≡ Err Usage
unfolding given clap_on_literals
making_no_rounds = refl

making_with_a_plus : asked (codes "run" ∷ codes "--make" ∷ codes "+5" ∷ []) ≡ Err Usage
unfolding given clap_on_literals
making_with_a_plus = refl

five_digits : asked (codes "run" ∷ codes "--make" ∷ codes "00005" ∷ []) ≡ Err Usage
unfolding given clap_on_literals
five_digits = refl

-- behind the hyphens there are no options
making_behind_hyphens : asked (codes "run" ∷ codes "--" ∷ codes "--make" ∷ codes "5" ∷ []) ≡ Err Usage
unfolding given clap_on_literals
making_behind_hyphens = refl

making_without_a_job : asked (codes "--make" ∷ codes "5" ∷ []) ≡ Err Usage
unfolding given clap_on_literals
making_without_a_job = refl

-- nor has one of them workers, be it one
sharing_an_upgrade : asked (codes "upgrade" ∷ codes "--workers" ∷ codes "1" ∷ []) ≡ Err Usage
unfolding given clap_on_literals
sharing_an_upgrade = refl

sharing_a_check : asked (codes "check" ∷ codes "--workers" ∷ codes "2" ∷ []) ≡ Err Usage
unfolding given clap_on_literals
sharing_a_check = refl

-- workers are told by one digit from 1 to 8
sharing_with_nine : asked (codes "run" ∷ codes "--workers" ∷ codes "9" ∷ []) ≡ Err Usage
unfolding given clap_on_literals
sharing_with_nine = refl

sharing_with_none : asked (codes "run" ∷ codes "--workers" ∷ codes "0" ∷ []) ≡ Err Usage
unfolding given clap_on_literals
sharing_with_none = refl

sharing_with_a_zero : asked (codes "run" ∷ codes "--workers" ∷ codes "02" ∷ []) ≡ Err Usage
unfolding given clap_on_literals
sharing_with_a_zero = refl
