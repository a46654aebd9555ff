-- The grammar of a script's lines: what the words of a line say. Each verb has its equation of `said`.
use Rattle.std.specs.Prelude.{ℕ, ℤ, Bool, false, ◌&&◌, ◌||◌, ◌==◌, nat_lt, nat_le, if◌then◌else◌, List, [], ◌∷◌, length}
use Rattle.std.specs.Prelude.{codes, Option, Some, None, option_map, is_some, filter_map, Ok, Err}
use Rattle.std.specs.List.{list_all}
use Rattle.std.specs.Option.{option_and_then}
use Rattle.std.specs.Char.{is_ascii_digit}
use Rattle.std.specs.Str.Parse.{digits_value}
use Rattle.fixed_num.specs.Text.{number_of}
use Rattle.iface_names.specs.Names.{is_name}
use Rattle.cm_document.specs.Vocabulary.{listed, verbs, lives, strictnesses}
use Rattle.cm_document.specs.declared.limits.TheConstants.{HIGHEST_RATE, MOST_DIGITS_OF_WHOLE}
use Rattle.cm_document.specs.declared.call.Call.{Call}
use Rattle.cm_document.specs.declared.call.Call.TheVariants as call
use Rattle.cm_document.specs.declared.call.Mail.{Mail}
use Rattle.cm_document.specs.declared.call.Mail.TheVariants.{Values, Points}
use Rattle.cm_document.specs.declared.call.Pick.{Pick}
use Rattle.cm_document.specs.declared.call.Pick.TheVariants.{One, Group}
use Rattle.cm_document.specs.declared.call.Point2.{Point2}
use Rattle.cm_document.specs.declared.call.SwitchRequest.{SwitchRequest}
use Rattle.cm_document.specs.declared.script.Grammar.{Grammar}
use Rattle.cm_document.specs.declared.script.ScriptLine.{ScriptLine}
use Rattle.cm_document.specs.declared.script.ScriptLine.TheVariants as line
use Rattle.cm_document.specs.declared.script.Verb.{Verb}
use Rattle.cm_document.specs.declared.script.Verb.TheVariants as verb

-- ---- Words

-- a name is a word by the naming rule
abbrev pub name_word : List ℕ → Option (List ℕ)
name_word word = if is_name word then Some word else None

-- a whole number has 1 to 9 digits
abbrev pub whole_word : List ℕ → Option ℕ
whole_word word =
    if (nat_le 1 (length word) && nat_le (length word) MOST_DIGITS_OF_WHOLE) && list_all is_ascii_digit word
    then Some (digits_value 10 word) else None

-- a whole number of at most so much
abbrev pub at_most : ℕ → Option ℕ → Option ℕ
at_most limit None = None
at_most limit (Some n) = if nat_le n limit then Some n else None

-- a value is a word that is a number
abbrev pub value_word : List ℕ → Option ℤ
value_word word = elim (number_of word) [ Ok n ↦ Some n | Err _ ↦ None ]

-- one more in front, where both are there
abbrev pub in_front : {A : Type 0} → Option A → Option (List A) → Option (List A)
in_front None xs = None
in_front (Some x) xs = option_map (λ more. x ∷ more) xs

-- what all words stand for, where each stands for something
abbrev pub all_words : {A : Type 0} → (List ℕ → Option A) → List (List ℕ) → Option (List A)
all_words read [] = Some []
all_words read (word ∷ words) = in_front (read word) (all_words read words)

-- ---- What is sent

-- one or more values
abbrev pub values_in : List (List ℕ) → Option (List ℤ)
values_in [] = None
values_in (word ∷ words) = all_words value_word (word ∷ words)

-- a word that begins with `@`
abbrev pub is_time : List ℕ → Bool
is_time [] = false
is_time (b ∷ bs) = b == 64

-- the words before the first time
abbrev pub untimed : List (List ℕ) → List (List ℕ)
untimed [] = []
untimed (word ∷ words) = if is_time word then [] else word ∷ untimed words

-- each time with the words after it, up to the next
abbrev pub timed : List (List ℕ) → List (List ℕ × List (List ℕ))
timed [] = []
timed (word ∷ words) = if is_time word then (word, untimed words) ∷ timed words else timed words

-- `@T` is T microseconds
abbrev pub time_word : List ℕ → Option ℕ
time_word [] = None
time_word (b ∷ bs) = if b == 64 then whole_word bs else None

-- the point at this time with these values
abbrev pub point_at : Option ℕ → Option (List ℤ) → Option Point2
point_at None values = None
point_at (Some t) values = option_map (λ vs. record { at_us = t; values = vs }) values

-- a point after this time: its own time is later, and it has one or more values
abbrev pub later : ℕ → Option Point2 → Option Point2
later before None = None
later before (Some p) = if nat_lt before p.at_us then Some p else None

-- the points of these times and words, each later than the one before it
abbrev pub points_after : ℕ → List (List ℕ × List (List ℕ)) → Option (List Point2)
points_after before [] = Some []
points_after before (group ∷ groups) =
    option_and_then (λ p. option_map (λ ps. p ∷ ps) (points_after p.at_us groups))
    (later before (point_at (time_word group.0) (values_in group.1)))

-- Values alone, or, where the first word is a time, points: the first is at 1 microsecond or later.
abbrev pub mail_in : List (List ℕ) → Option Mail
mail_in [] = None
mail_in (word ∷ words) =
    if is_time word then option_map Points (points_after 0 (timed (word ∷ words)))
    else option_map Values (values_in (word ∷ words))

-- ---- Switches

-- a controller, `NAME`, or a group, `@NAME`
abbrev pub pick_word : List ℕ → Option Pick
pick_word [] = None
pick_word (b ∷ bs) = if b == 64 then option_map Group (name_word bs) else option_map One (name_word (b ∷ bs))

-- what stands behind this sign
abbrev pub behind : ℕ → List ℕ → Option Pick
behind sign [] = None
behind sign (b ∷ bs) = if b == sign then pick_word bs else None

-- what is to be activated, `+NAME` or `+@NAME`, or deactivated, `-NAME` or `-@NAME`
abbrev pub is_signed : List ℕ → Bool
is_signed word = is_some (behind 43 word) || is_some (behind 45 word)

-- a switch of these words, where each is one of those; each list keeps its order
abbrev pub switch_in : Option Bool → List (List ℕ) → Option SwitchRequest
switch_in None words = None
switch_in (Some strict) words =
    if list_all is_signed words then Some (record {
      on = filter_map (behind 43) words;
      off = filter_map (behind 45) words;
      strict = strict;
    }) else None

-- ---- Grammar

-- what a line says where the grammar has it
abbrev pub where_accepted : Bool → Option ScriptLine → Option ScriptLine
where_accepted accepted says = if accepted then says else None

-- a call that is there
abbrev pub a_call : Option Call → Option ScriptLine
a_call made = option_map line.Call made

-- a call on one name
abbrev pub on_name : (List ℕ → Call) → List (List ℕ) → Option ScriptLine
on_name make (name ∷ []) = a_call (option_map make (name_word name))
on_name make _ = None

-- `rate NAME HZ`: at most 10,000 hertz
abbrev pub rate_in : List (List ℕ) → Option Call
rate_in (name ∷ hz ∷ []) =
    option_and_then (λ controller. option_map (call.Rate controller) (at_most HIGHEST_RATE (whole_word hz)))
    (name_word name)
rate_in _ = None

-- `send NAME ..`
abbrev pub send_in : List (List ℕ) → Option Call
send_in (name ∷ words) =
    option_and_then (λ controller. option_map (call.Send controller) (mail_in words)) (name_word name)
send_in _ = None

-- `hw NAME STATE`
abbrev pub hardware_in : List (List ℕ) → Option Call
hardware_in (name ∷ state ∷ []) =
    option_and_then (λ component. option_map (call.Hardware component) (listed lives state)) (name_word name)
hardware_in _ = None

-- the lists, each where the grammar has it
abbrev pub lists : Grammar → List (List ℕ × (Bool × Call))
lists grammar =
    (codes "controllers", (grammar.list_controllers, call.ListControllers)) ∷
    (codes "interfaces", (grammar.list_interfaces, call.ListInterfaces)) ∷
    (codes "components", (grammar.list_components, call.ListComponents)) ∷ []

-- `list controllers`, `list interfaces`, `list components`
abbrev pub list_in : Grammar → List (List ℕ) → Option ScriptLine
list_in grammar (word ∷ []) =
    option_and_then (λ row. where_accepted row.0 (Some (line.Call row.1))) (listed (lists grammar) word)
list_in grammar _ = None

-- What a line says that begins with this verb and goes on with these words. Whether a session's line is accepted
-- depends on the sessions before it, so that is asked later.
abbrev pub said : Grammar → Verb → List (List ℕ) → Option ScriptLine
said grammar verb.Session (name ∷ []) = option_map line.Session (name_word name)
said grammar verb.Load words = where_accepted grammar.load (on_name call.Load words)
said grammar verb.Configure words = where_accepted grammar.configure (on_name call.Configure words)
said grammar verb.Cleanup words = where_accepted grammar.cleanup (on_name call.Cleanup words)
said grammar verb.Unload words = where_accepted grammar.unload (on_name call.Unload words)
said grammar verb.Rate words = where_accepted grammar.rate (a_call (rate_in words))
said grammar verb.Send words = where_accepted grammar.send (a_call (send_in words))
said grammar verb.Switch (strictness ∷ words) =
    where_accepted grammar.switch (a_call (option_map call.Switch (switch_in (listed strictnesses strictness) words)))
said grammar verb.Hardware words = where_accepted grammar.hardware (a_call (hardware_in words))
said grammar verb.Await (word ∷ []) =
    where_accepted grammar.await_cycles (a_call (option_map call.Await (whole_word word)))
said grammar verb.List words = list_in grammar words
said grammar verb.Schedule [] = where_accepted grammar.schedule (Some line.Schedule)
said grammar verb.Step (name ∷ []) = where_accepted grammar.schedule (option_map line.Step (name_word name))
said grammar verb.Begin [] = where_accepted grammar.schedule (Some line.Begin)
said grammar verb.End [] = where_accepted grammar.schedule (Some line.End)
said grammar _ _ = None

-- what a line of these words says; other words say nothing
abbrev pub line_of : Grammar → List (List ℕ) → Option ScriptLine
line_of grammar [] = None
line_of grammar (first ∷ words) = option_and_then (λ v. said grammar v words) (listed verbs first)
