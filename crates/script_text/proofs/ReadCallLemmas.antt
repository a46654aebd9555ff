-- A call that is read can be written, once its values, points and names are few enough, and its form is accepted.
use Rattle.std.proofs.Common.{◌≡◌, ℕ, ◌<◌, ◌≤◌, Bool, true, false, List, [], ◌∷◌, length, Option}
use Rattle.std.proofs.Common.{Some, None, Result, Ok, Err, ℤ, nat_abs, refl, arith, ltb-true}
use Rattle.std.specs.Prelude.{IfSome, option_map, filter_map, nat_le, nat_lt, if◌then◌else◌, ◌&&◌, ◌==◌}
use Rattle.std.specs.List.{AllByRecursion, list_all, cons_option}
use Rattle.std.specs.Option.{option_and_then}
use Rattle.std.specs.Char.{is_ascii_digit}
use Rattle.std.specs.Str.{all_ascii_digits}
use Rattle.std.specs.Str.Parse.{digits_value}
use Rattle.std.proofs.lemmas.Bool.{and_parts, and_from, cond_both}
use Rattle.std.proofs.lemmas.Bool.Decides.{nat_tests}
use Rattle.std.proofs.lemmas.Int.{ints}
use Rattle.std.proofs.lemmas.Option.{IfSome_then}
use Rattle.std.proofs.lemmas.Str.Parse.{digits_value_short}
use Rattle.fixed_num.specs.Micro.{IsInRange}
use Rattle.fixed_num.specs.Text.{number_of}
use Rattle.fixed_num.specs.declared.read.FxFault.{FxFault}
use Rattle.fixed_num.proofs.DigitLemmas.{own}
use Rattle.fixed_num.proofs.ReadBackLemmas.{number_of_small}
use Rattle.iface_names.specs.Names.{is_name, same_name}
use Rattle.cm_document.specs.Vocabulary.{listed, lives, strictnesses, verbs}
use Rattle.cm_document.specs.LineGrammar.{name_word, whole_word, at_most, value_word, in_front, all_words, values_in}
use Rattle.cm_document.specs.LineGrammar.{is_time, untimed, timed, time_word, point_at, later, points_after, mail_in}
use Rattle.cm_document.specs.LineGrammar.{pick_word, behind, is_signed, switch_in, where_accepted, a_call, on_name}
use Rattle.cm_document.specs.LineGrammar.{rate_in, send_in, hardware_in, lists, list_in, said, line_of}
use Rattle.cm_document.specs.ScriptRules.{mail_fits, call_fits}
use Rattle.cm_document.specs.Given.{IsName}
use Rattle.cm_document.specs.ScriptLaws.{IsPick, AreValues, ArePointsAfter, CanBeSent, CanBeAsked, CanBeWritten, allows}
use Rattle.cm_document.specs.declared.call.Call.{Call}
use Rattle.cm_document.specs.declared.call.Call.TheVariants as call
use Rattle.cm_document.specs.declared.call.Mail.{Mail}
use Rattle.cm_document.specs.declared.call.Mail.TheVariants.{Values, Points}
use Rattle.cm_document.specs.declared.call.Pick.TheVariants.{One, Group}
use Rattle.cm_document.specs.declared.call.Point2.{Point2}
use Rattle.cm_document.specs.declared.script.Grammar.{Grammar}
use Rattle.cm_document.specs.declared.script.ScriptLine.{ScriptLine}
use Rattle.cm_document.specs.declared.script.ScriptLine.TheVariants as line
use Rattle.cm_document.specs.declared.script.Verb.{Verb}
use Rattle.cm_document.specs.declared.script.Verb.TheVariants as verb

-- ---- Readings that may give nothing

-- what is kept under a test holds under it
kept : {A : Type 0} (P : A → Type 0) (b : Bool) (x : A) → (b ≡ true → P x) → IfSome (if b then Some x else None) P
kept P true x p = p refl
kept P false x p = tt

mapped : {A B : Type 0} (P : A → Type 0) (Q : B → Type 0) (f : A → B) (o : Option A) → IfSome o P
    → ((x : A) → P x → Q (f x)) → IfSome (option_map f o) Q
mapped P Q f None p q = tt
mapped P Q f (Some x) p q = q x p

chained : {A B : Type 0} (P : A → Type 0) (Q : B → Type 0) (f : A → Option B) (o : Option A) → IfSome o P
    → ((x : A) → P x → IfSome (f x) Q) → IfSome (option_and_then f o) Q
chained P Q f None p q = tt
chained P Q f (Some x) p q = q x p

-- of whatever is there nothing need be shown
anything : {A : Type 0} (o : Option A) → IfSome o (λ x. Unit {0})
anything None = tt
anything (Some x) = tt

-- two facts of what is there
both_of : {A : Type 0} (P Q : A → Type 0) (o : Option A) → IfSome o P → IfSome o Q → IfSome o (λ x. P x × Q x)
both_of P Q None p q = tt
both_of P Q (Some x) p q = (p, q)

-- ---- Words

name_word_names : (word : List ℕ) → IfSome (name_word word) IsName
name_word_names word = kept IsName (is_name word) word (λ h. h)

digits_test : (ds : List ℕ) → list_all is_ascii_digit ds ≡ true → all_ascii_digits ds ≡ true
digits_test [] h = refl
digits_test (d ∷ ds) h =
    let both = and_parts (is_ascii_digit d) (list_all is_ascii_digit ds) h in
    and_from _ _ both.0 (digits_test ds both.1)

-- nine digits are less than 10^9
whole_word_small : (word : List ℕ) → IfSome (whole_word word) (λ n. n ≤ 999999999)
whole_word_small word =
    kept (λ n. n ≤ 999999999) ((nat_le 1 (length word) && nat_le (length word) 9) && list_all is_ascii_digit word)
    (digits_value 10 word)
    (λ h.
    let both = and_parts _ (list_all is_ascii_digit word) h in
    let long = (and_parts _ (nat_le (length word) 9) both.0).1 in
    let small = digits_value_short own word 9 (digits_test word both.1) (grind (arith, nat_tests)) in
    omega arith)

at_most_small : (limit : ℕ) (o : Option ℕ) → IfSome (at_most limit o) (λ n. n ≤ limit)
at_most_small limit None = tt
at_most_small limit (Some n) = kept (λ n. n ≤ limit) (nat_le n limit) n (λ h. grind (arith, nat_tests))

size_in_range : (v : ℤ) → nat_abs v ≤ 1000000000000000 → IsInRange v
size_in_range v small = (omega (arith, ints), omega (arith, ints))

-- a number that was read is in the range
number_in_range : (r : Result ℤ FxFault) → ((v : ℤ) → r ≡ Ok v → nat_abs v ≤ 1000000000000000)
    → IfSome (elim r [ Ok n ↦ Some n | Err _ ↦ None ]) IsInRange
number_in_range (Ok v) small = size_in_range v (small v refl)
number_in_range (Err f) small = tt

value_word_in_range : (word : List ℕ) → IfSome (value_word word) IsInRange
value_word_in_range word = number_in_range (number_of word) (number_of_small word)

-- ---- Values

in_front_all : {A : Type 0} (P : A → Type 0) (o : Option A) (more : Option (List A)) → IfSome o P
    → IfSome more (AllByRecursion P) → IfSome (in_front o more) (λ xs. (1 ≤ length xs) × AllByRecursion P xs)
in_front_all P None more p q = tt
in_front_all P (Some x) None p q = tt
in_front_all P (Some x) (Some xs) p q = (omega arith, (p, q))

all_words_all : {A : Type 0} (P : A → Type 0) (read : List ℕ → Option A) (words : List (List ℕ))
    → ((w : List ℕ) → IfSome (read w) P) → IfSome (all_words read words) (AllByRecursion P)
all_words_all P read [] one = tt
all_words_all P read (w ∷ words) one =
    IfSome_then (in_front (read w) (all_words read words))
    (in_front_all P (read w) (all_words read words) (one w) (all_words_all P read words one)) (λ xs both. both.1)

-- few enough to be values for a controller
abbrev FewValues : List ℤ → Type 0
FewValues vs = nat_le (length vs) 32 ≡ true → AreValues vs

values_few : (words : List (List ℕ)) → IfSome (values_in words) FewValues
values_few [] = tt
values_few (w ∷ words) =
    IfSome_then (all_words value_word (w ∷ words))
    (in_front_all IsInRange (value_word w) (all_words value_word words) (value_word_in_range w)
    (all_words_all IsInRange value_word words value_word_in_range))
    (λ vs both few. record { some = both.0; few = grind (arith, nat_tests); in_range = both.1 })

-- ---- Points

-- each point's values are few enough
abbrev few_each : List Point2 → Bool
few_each ps = list_all (λ p. nat_le (length p.values) 32) ps

-- a point after this time, once its values are few enough
record CanStand (before : ℕ) (p : Point2) : Type 0 where
  late : before < p.at_us
  soon : p.at_us ≤ 999999999
  valued : FewValues p.values

later_kept : (before : ℕ) (p : Point2) → p.at_us ≤ 999999999 → FewValues p.values
    → IfSome (later before (Some p)) (CanStand before)
later_kept before p soon valued =
    kept (CanStand before) (nat_lt before p.at_us) p
    (λ h. record { late = ltb-true _ _ h; soon = soon; valued = valued })

point_stands : (before : ℕ) (time : Option ℕ) (values : Option (List ℤ)) → IfSome time (λ n. n ≤ 999999999)
    → IfSome values FewValues → IfSome (later before (point_at time values)) (CanStand before)
point_stands before None values t v = tt
point_stands before (Some n) None t v = tt
point_stands before (Some n) (Some vs) t v = later_kept before (record { at_us = n; values = vs }) t v

time_small : (word : List ℕ) → IfSome (time_word word) (λ n. n ≤ 999999999)
time_small [] = tt
time_small (b ∷ bs) =
    cond_both (b == 64) (whole_word bs) None (λ o. IfSome o (λ n. n ≤ 999999999)) (λ _. whole_word_small bs) (λ _. tt)

-- points after this time, once their values are few enough
abbrev FewPoints : ℕ → List Point2 → Type 0
FewPoints before ps = few_each ps ≡ true → ArePointsAfter before ps

points_few : (before : ℕ) (groups : List (List ℕ × List (List ℕ)))
    → IfSome (points_after before groups) (FewPoints before)
points_few before [] = λ _. tt
points_few before (group ∷ groups) =
    chained (CanStand before) (FewPoints before) (λ p. option_map (λ ps. p ∷ ps) (points_after p.at_us groups))
    (later before (point_at (time_word group.0) (values_in group.1)))
    (point_stands before (time_word group.0) (values_in group.1) (time_small group.0) (values_few group.1))
    (λ p stands. mapped (FewPoints p.at_us) (FewPoints before) (λ ps. p ∷ ps) (points_after p.at_us groups)
    (points_few p.at_us groups)
    (λ ps more few.
    let both = and_parts (nat_le (length p.values) 32) (few_each ps) few in
    (record { later = stands.late; soon = stands.soon; valued = stands.valued both.0 }, more both.1)))

-- one group at least is one point at least
points_some : (before : ℕ) (group : List ℕ × List (List ℕ)) (groups : List (List ℕ × List (List ℕ)))
    → IfSome (points_after before (group ∷ groups)) (λ ps. 1 ≤ length ps)
points_some before group groups =
    chained (λ p. Unit {0}) (λ ps. 1 ≤ length ps) (λ p. option_map (λ ps. p ∷ ps) (points_after p.at_us groups))
    (later before (point_at (time_word group.0) (values_in group.1)))
    (anything (later before (point_at (time_word group.0) (values_in group.1))))
    (λ p _. mapped (λ ps. Unit {0}) (λ ps. 1 ≤ length ps) (λ ps. p ∷ ps) (points_after p.at_us groups)
    (anything (points_after p.at_us groups)) (λ ps _. omega arith))

-- ---- What is sent

-- few enough to be sent
abbrev FewSent : Mail → Type 0
FewSent mail = mail_fits mail ≡ true → CanBeSent mail

values_sent : (words : List (List ℕ)) → IfSome (option_map Values (values_in words)) FewSent
values_sent words = mapped FewValues FewSent Values (values_in words) (values_few words) (λ vs few. few)

points_sent : (group : List ℕ × List (List ℕ)) (groups : List (List ℕ × List (List ℕ)))
    → IfSome (option_map Points (points_after 0 (group ∷ groups))) FewSent
points_sent group groups =
    mapped (λ ps. (1 ≤ length ps) × FewPoints 0 ps) FewSent Points (points_after 0 (group ∷ groups))
    (both_of (λ ps. 1 ≤ length ps) (FewPoints 0) (points_after 0 (group ∷ groups)) (points_some 0 group groups)
    (points_few 0 (group ∷ groups)))
    (λ ps both few.
    let fits = and_parts (nat_le (length ps) 64) (few_each ps) few in
    record { some = both.0; few = grind (arith, nat_tests, fits.0); rising = both.1 fits.1 })

mail_sent : (words : List (List ℕ)) → IfSome (mail_in words) FewSent
mail_sent [] = tt
mail_sent (w ∷ words) =
    cond_both (is_time w) (option_map Points (points_after 0 (timed (w ∷ words))))
    (option_map Values (values_in (w ∷ words))) (λ o. IfSome o FewSent)
    (λ time. rw time (points_sent (w, untimed words) (timed words)))
    (λ _. values_sent (w ∷ words))

-- ---- Switches

pick_word_picks : (word : List ℕ) → IfSome (pick_word word) IsPick
pick_word_picks [] = tt
pick_word_picks (b ∷ bs) =
    cond_both (b == 64) (option_map Group (name_word bs)) (option_map One (name_word (b ∷ bs))) (λ o. IfSome o IsPick)
    (λ _. mapped IsName IsPick Group (name_word bs) (name_word_names bs) (λ n named. named))
    (λ _. mapped IsName IsPick One (name_word (b ∷ bs)) (name_word_names (b ∷ bs)) (λ n named. named))

behind_picks : (sign : ℕ) (word : List ℕ) → IfSome (behind sign word) IsPick
behind_picks sign [] = tt
behind_picks sign (b ∷ bs) =
    cond_both (b == sign) (pick_word bs) None (λ o. IfSome o IsPick) (λ _. pick_word_picks bs) (λ _. tt)

cons_all : {A : Type 0} (P : A → Type 0) (o : Option A) (xs : List A) → IfSome o P → AllByRecursion P xs
    → AllByRecursion P (cons_option o xs)
cons_all P None xs p q = q
cons_all P (Some x) xs p q = (p, q)

-- what a reading gives of words, each time such a thing
filter_map_all : {A : Type 0} (P : A → Type 0) (read : List ℕ → Option A) (words : List (List ℕ))
    → ((w : List ℕ) → IfSome (read w) P) → AllByRecursion P (filter_map read words)
filter_map_all P read [] one = tt
filter_map_all P read (w ∷ words) one =
    cons_all P (read w) (filter_map read words) (one w) (filter_map_all P read words one)

switch_asked : (strictness : Option Bool) (words : List (List ℕ))
    → IfSome (switch_in strictness words) (λ r. call_fits (call.Switch r) ≡ true → CanBeAsked r)
switch_asked None words = tt
switch_asked (Some strict) words =
    kept (λ r. call_fits (call.Switch r) ≡ true → CanBeAsked r) (list_all is_signed words)
    (record { on = filter_map (behind 43) words; off = filter_map (behind 45) words; strict = strict })
    (λ _ few. record {
      few = grind (arith, nat_tests);
      on = filter_map_all IsPick (behind 43) words (behind_picks 43);
      off =
          filter_map_all IsPick (behind 45) words (behind_picks 45);
    })

-- ---- Lines

-- What a line that was read says: a session's name is a name, a call can be written once it is small enough, and but
-- for a session's line its form is accepted.
abbrev pub Says : Grammar → ScriptLine → Type 0
Says grammar (line.Session name) = IsName name
Says grammar (line.Call c) = (call_fits c ≡ true → CanBeWritten c) × (allows grammar c ≡ true)
Says grammar line.Schedule = grammar.schedule ≡ true
Says grammar (line.Step name) = grammar.schedule ≡ true
Says grammar line.Begin = grammar.schedule ≡ true
Says grammar line.End = grammar.schedule ≡ true

-- a form says so where it is accepted
accepted_Says : (grammar : Grammar) (accepted : Bool) (o : Option ScriptLine)
    → (accepted ≡ true → IfSome o (Says grammar)) → IfSome (where_accepted accepted o) (Says grammar)
accepted_Says grammar accepted o says = cond_both accepted o None (λ o. IfSome o (Says grammar)) says (λ _. tt)

-- a call of an accepted form
call_Says : (grammar : Grammar) (accepted : Bool) (o : Option Call)
    → IfSome o (λ c. call_fits c ≡ true → CanBeWritten c) → (accepted ≡ true → IfSome o (λ c. allows grammar c ≡ true))
    → IfSome (where_accepted accepted (a_call o)) (Says grammar)
call_Says grammar accepted o can has = accepted_Says grammar accepted (a_call o)
    (λ yes. mapped (λ c. (call_fits c ≡ true → CanBeWritten c) × (allows grammar c ≡ true)) (Says grammar) line.Call o
    (both_of (λ c. call_fits c ≡ true → CanBeWritten c) (λ c. allows grammar c ≡ true) o can (has yes))
    (λ c says. says))

-- a call on one name
named_Says : (grammar : Grammar) (accepted : Bool) (make : List ℕ → Call) (words : List (List ℕ))
    → ((name : List ℕ) → IsName name → CanBeWritten (make name))
    → (accepted ≡ true → (name : List ℕ) → allows grammar (make name) ≡ true)
    → IfSome (where_accepted accepted (on_name make words)) (Says grammar)
named_Says grammar accepted make [] can has = accepted_Says grammar accepted None (λ _. tt)
named_Says grammar accepted make (name ∷ []) can has =
    call_Says grammar accepted (option_map make (name_word name))
    (mapped IsName (λ c. call_fits c ≡ true → CanBeWritten c) make (name_word name) (name_word_names name)
    (λ n named _. can n named))
    (λ yes. mapped (λ n. Unit {0}) (λ c. allows grammar c ≡ true) make (name_word name) (anything (name_word name))
    (λ n _. has yes n))
named_Says grammar accepted make (name ∷ word ∷ words) can has = accepted_Says grammar accepted None (λ _. tt)

-- `rate NAME HZ`
rate_Says : (grammar : Grammar) (words : List (List ℕ))
    → IfSome (where_accepted grammar.rate (a_call (rate_in words))) (Says grammar)
rate_Says grammar [] = accepted_Says grammar grammar.rate None (λ _. tt)
rate_Says grammar (name ∷ []) = accepted_Says grammar grammar.rate None (λ _. tt)
rate_Says grammar (name ∷ hz ∷ []) =
    call_Says grammar grammar.rate (rate_in (name ∷ hz ∷ []))
    (chained IsName (λ c. call_fits c ≡ true → CanBeWritten c)
    (λ n. option_map (call.Rate n) (at_most 10000 (whole_word hz))) (name_word name) (name_word_names name)
    (λ n named. mapped (λ h. h ≤ 10000) (λ c. call_fits c ≡ true → CanBeWritten c) (call.Rate n)
    (at_most 10000 (whole_word hz)) (at_most_small 10000 (whole_word hz)) (λ h small _. (named, small))))
    (λ yes. chained (λ n. Unit {0}) (λ c. allows grammar c ≡ true)
    (λ n. option_map (call.Rate n) (at_most 10000 (whole_word hz))) (name_word name) (anything (name_word name))
    (λ n _. mapped (λ h. Unit {0}) (λ c. allows grammar c ≡ true) (call.Rate n) (at_most 10000 (whole_word hz))
    (anything (at_most 10000 (whole_word hz))) (λ h _. yes)))
rate_Says grammar (name ∷ hz ∷ word ∷ words) = accepted_Says grammar grammar.rate None (λ _. tt)

-- `send NAME ..`
send_Says : (grammar : Grammar) (words : List (List ℕ))
    → IfSome (where_accepted grammar.send (a_call (send_in words))) (Says grammar)
send_Says grammar [] = accepted_Says grammar grammar.send None (λ _. tt)
send_Says grammar (name ∷ words) =
    call_Says grammar grammar.send (send_in (name ∷ words))
    (chained IsName (λ c. call_fits c ≡ true → CanBeWritten c) (λ n. option_map (call.Send n) (mail_in words))
    (name_word name) (name_word_names name)
    (λ n named. mapped FewSent (λ c. call_fits c ≡ true → CanBeWritten c) (call.Send n) (mail_in words)
    (mail_sent words) (λ mail sent few. (named, sent few))))
    (λ yes. chained (λ n. Unit {0}) (λ c. allows grammar c ≡ true) (λ n. option_map (call.Send n) (mail_in words))
    (name_word name) (anything (name_word name))
    (λ n _. mapped (λ mail. Unit {0}) (λ c. allows grammar c ≡ true) (call.Send n) (mail_in words)
    (anything (mail_in words)) (λ mail _. yes)))

-- `switch ..`
switch_Says : (grammar : Grammar) (strictness : List ℕ) (words : List (List ℕ))
    → IfSome (where_accepted grammar.switch
    (a_call (option_map call.Switch (switch_in (listed strictnesses strictness) words)))) (Says grammar)
switch_Says grammar strictness words =
    let request = switch_in (listed strictnesses strictness) words in
    call_Says grammar grammar.switch (option_map call.Switch request)
    (mapped (λ r. call_fits (call.Switch r) ≡ true → CanBeAsked r) (λ c. call_fits c ≡ true → CanBeWritten c)
    call.Switch request (switch_asked (listed strictnesses strictness) words) (λ r asked. asked))
    (λ yes. mapped (λ r. Unit {0}) (λ c. allows grammar c ≡ true) call.Switch request (anything request) (λ r _. yes))

-- `hw NAME STATE`
hardware_Says : (grammar : Grammar) (words : List (List ℕ))
    → IfSome (where_accepted grammar.hardware (a_call (hardware_in words))) (Says grammar)
hardware_Says grammar [] = accepted_Says grammar grammar.hardware None (λ _. tt)
hardware_Says grammar (name ∷ []) = accepted_Says grammar grammar.hardware None (λ _. tt)
hardware_Says grammar (name ∷ state ∷ []) =
    call_Says grammar grammar.hardware (hardware_in (name ∷ state ∷ []))
    (chained IsName (λ c. call_fits c ≡ true → CanBeWritten c) (λ n. option_map (call.Hardware n) (listed lives state))
    (name_word name) (name_word_names name)
    (λ n named. mapped (λ l. Unit {0}) (λ c. call_fits c ≡ true → CanBeWritten c) (call.Hardware n) (listed lives state)
    (anything (listed lives state)) (λ l _ few. named)))
    (λ yes. chained (λ n. Unit {0}) (λ c. allows grammar c ≡ true)
    (λ n. option_map (call.Hardware n) (listed lives state)) (name_word name) (anything (name_word name))
    (λ n _. mapped (λ l. Unit {0}) (λ c. allows grammar c ≡ true) (call.Hardware n) (listed lives state)
    (anything (listed lives state)) (λ l _. yes)))
hardware_Says grammar (name ∷ state ∷ word ∷ words) = accepted_Says grammar grammar.hardware None (λ _. tt)

-- `await N`
await_Says : (grammar : Grammar) (n : List ℕ)
    → IfSome (where_accepted grammar.await_cycles (a_call (option_map call.Await (whole_word n)))) (Says grammar)
await_Says grammar n =
    call_Says grammar grammar.await_cycles (option_map call.Await (whole_word n))
    (mapped (λ k. k ≤ 999999999) (λ c. call_fits c ≡ true → CanBeWritten c) call.Await (whole_word n)
    (whole_word_small n) (λ k small _. small))
    (λ yes. mapped (λ k. Unit {0}) (λ c. allows grammar c ≡ true) call.Await (whole_word n) (anything (whole_word n))
    (λ k _. yes))

-- what holds of all listed meanings holds of the one that is found
listed_all : {A : Type 0} (P : A → Type 0) (rows : List (List ℕ × A)) (word : List ℕ)
    → AllByRecursion (λ row. P row.1) rows → IfSome (listed rows word) P
listed_all P [] word all = tt
listed_all P (row ∷ rows) word all =
    cond_both (same_name word row.0) (Some row.1) (listed rows word) (λ o. IfSome o P) (λ _. all.0)
    (λ _. listed_all P rows word all.1)

-- `list ..`
list_Says : (grammar : Grammar) (words : List (List ℕ)) → IfSome (list_in grammar words) (Says grammar)
list_Says grammar [] = tt
list_Says grammar (word ∷ []) =
    chained (λ row. row.0 ≡ true → Says grammar (line.Call row.1)) (Says grammar)
    (λ row. where_accepted row.0 (Some (line.Call row.1))) (listed (lists grammar) word)
    (listed_all (λ row. row.0 ≡ true → Says grammar (line.Call row.1)) (lists grammar) word
    ((λ yes. ((λ _. tt), yes)), (((λ yes. ((λ _. tt), yes)), ((λ yes. ((λ _. tt), yes)), tt)))))
    (λ row says. accepted_Says grammar row.0 (Some (line.Call row.1)) says)
list_Says grammar (word ∷ other ∷ words) = tt

-- a line of one word more
step_Says : (grammar : Grammar) (name : List ℕ)
    → IfSome (where_accepted grammar.schedule (option_map line.Step (name_word name))) (Says grammar)
step_Says grammar name = accepted_Says grammar grammar.schedule (option_map line.Step (name_word name))
    (λ yes. mapped (λ n. Unit {0}) (Says grammar) line.Step (name_word name) (anything (name_word name)) (λ n _. yes))

-- every form
said_Says : (grammar : Grammar) (v : Verb) (words : List (List ℕ)) → IfSome (said grammar v words) (Says grammar)
said_Says grammar verb.Session [] = tt
said_Says grammar verb.Session (name ∷ []) =
    mapped IsName (Says grammar) line.Session (name_word name) (name_word_names name) (λ n named. named)
said_Says grammar verb.Session (name ∷ word ∷ words) = tt
said_Says grammar verb.Load words =
    named_Says grammar grammar.load call.Load words (λ name named. named) (λ yes name. yes)
said_Says grammar verb.Configure words =
    named_Says grammar grammar.configure call.Configure words (λ name named. named) (λ yes name. yes)
said_Says grammar verb.Cleanup words =
    named_Says grammar grammar.cleanup call.Cleanup words (λ name named. named) (λ yes name. yes)
said_Says grammar verb.Unload words =
    named_Says grammar grammar.unload call.Unload words (λ name named. named) (λ yes name. yes)
said_Says grammar verb.Rate words = rate_Says grammar words
said_Says grammar verb.Send words = send_Says grammar words
said_Says grammar verb.Switch [] = tt
said_Says grammar verb.Switch (strictness ∷ words) = switch_Says grammar strictness words
said_Says grammar verb.Hardware words = hardware_Says grammar words
said_Says grammar verb.Await [] = tt
said_Says grammar verb.Await (n ∷ []) = await_Says grammar n
said_Says grammar verb.Await (n ∷ word ∷ words) = tt
said_Says grammar verb.List words = list_Says grammar words
said_Says grammar verb.Schedule [] = accepted_Says grammar grammar.schedule (Some line.Schedule) (λ yes. yes)
said_Says grammar verb.Schedule (word ∷ words) = tt
said_Says grammar verb.Step [] = tt
said_Says grammar verb.Step (name ∷ []) = step_Says grammar name
said_Says grammar verb.Step (name ∷ word ∷ words) = tt
said_Says grammar verb.Begin [] = accepted_Says grammar grammar.schedule (Some line.Begin) (λ yes. yes)
said_Says grammar verb.Begin (word ∷ words) = tt
said_Says grammar verb.End [] = accepted_Says grammar grammar.schedule (Some line.End) (λ yes. yes)
said_Says grammar verb.End (word ∷ words) = tt

-- a line of words
pub line_of_Says : (grammar : Grammar) (words : List (List ℕ)) → IfSome (line_of grammar words) (Says grammar)
line_of_Says grammar [] = tt
line_of_Says grammar (first ∷ words) =
    chained (λ v. Unit {0}) (Says grammar) (λ v. said grammar v words) (listed verbs first)
    (anything (listed verbs first)) (λ v _. said_Says grammar v words)
