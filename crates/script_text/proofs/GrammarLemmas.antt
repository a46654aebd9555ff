-- What lines say that have none, one or two words after their verb.
use Rattle.std.proofs.Common.{◌≡◌, ℕ, Bool, true, false, List, [], ◌∷◌, Some, None, refl}
use Rattle.std.specs.Prelude.{option_map}
use Rattle.std.specs.Option.{option_and_then}
use Rattle.cm_document.specs.Vocabulary.{listed, lives}
use Rattle.cm_document.specs.LineGrammar.{lists, name_word, whole_word, at_most, where_accepted}
use Rattle.cm_document.specs.LineGrammar.{a_call, on_name, rate_in, hardware_in, list_in, said}
use Rattle.cm_document.specs.declared.call.Call.{Call}
use Rattle.cm_document.specs.declared.call.Call.TheVariants as call
use Rattle.cm_document.specs.declared.script.Grammar.{Grammar}
use Rattle.cm_document.specs.declared.script.ScriptLine.TheVariants as line
use Rattle.cm_document.specs.declared.script.Verb.TheVariants as verb
use Rattle.script_text.specs.FewWords.{alone, only, pair}
use Rattle.script_text.specs.SwitchWords.{switch_words}

-- nothing is said, accepted or not
not_accepted : (v : Bool) → None ≡ where_accepted v None
not_accepted true = refl
not_accepted false = refl

-- a session's line has one name
pub session_only : (grammar : Grammar) (words : List (List ℕ))
    → said grammar verb.Session words ≡ option_map line.Session (option_and_then name_word (only words))
session_only grammar [] = refl
session_only grammar (a ∷ []) = refl
session_only grammar (a ∷ b ∷ words) = refl

-- a call on one name has one name
on_name_only : (make : List ℕ → Call) (words : List (List ℕ))
    → on_name make words ≡ a_call (option_map make (option_and_then name_word (only words)))
on_name_only make [] = refl
on_name_only make (a ∷ []) = refl
on_name_only make (a ∷ b ∷ words) = refl

pub load_only : (grammar : Grammar) (words : List (List ℕ))
    → said grammar verb.Load words
    ≡ where_accepted grammar.load (a_call (option_map call.Load (option_and_then name_word (only words))))
load_only grammar words = rw (on_name_only call.Load words) refl

pub configure_only : (grammar : Grammar) (words : List (List ℕ))
    → said grammar verb.Configure words
    ≡ where_accepted grammar.configure (a_call (option_map call.Configure (option_and_then name_word (only words))))
configure_only grammar words = rw (on_name_only call.Configure words) refl

pub cleanup_only : (grammar : Grammar) (words : List (List ℕ))
    → said grammar verb.Cleanup words
    ≡ where_accepted grammar.cleanup (a_call (option_map call.Cleanup (option_and_then name_word (only words))))
cleanup_only grammar words = rw (on_name_only call.Cleanup words) refl

pub unload_only : (grammar : Grammar) (words : List (List ℕ))
    → said grammar verb.Unload words
    ≡ where_accepted grammar.unload (a_call (option_map call.Unload (option_and_then name_word (only words))))
unload_only grammar words = rw (on_name_only call.Unload words) refl

-- a switch has a strictness in front
pub switch_first : (grammar : Grammar) (words : List (List ℕ))
    → said grammar verb.Switch words
    ≡ where_accepted grammar.switch (a_call (option_map call.Switch (switch_words words)))
switch_first grammar [] = not_accepted grammar.switch
switch_first grammar (a ∷ words) = refl

-- a wait has one number
pub await_only : (grammar : Grammar) (words : List (List ℕ))
    → said grammar verb.Await words
    ≡ where_accepted grammar.await_cycles (a_call (option_map call.Await (option_and_then whole_word (only words))))
await_only grammar [] = not_accepted grammar.await_cycles
await_only grammar (a ∷ []) = refl
await_only grammar (a ∷ b ∷ words) = not_accepted grammar.await_cycles

-- nothing stands behind these
pub schedule_alone : (grammar : Grammar) (words : List (List ℕ))
    → said grammar verb.Schedule words ≡ where_accepted grammar.schedule (alone line.Schedule words)
schedule_alone grammar [] = refl
schedule_alone grammar (a ∷ words) = not_accepted grammar.schedule

pub begin_alone : (grammar : Grammar) (words : List (List ℕ))
    → said grammar verb.Begin words ≡ where_accepted grammar.schedule (alone line.Begin words)
begin_alone grammar [] = refl
begin_alone grammar (a ∷ words) = not_accepted grammar.schedule

pub end_alone : (grammar : Grammar) (words : List (List ℕ))
    → said grammar verb.End words ≡ where_accepted grammar.schedule (alone line.End words)
end_alone grammar [] = refl
end_alone grammar (a ∷ words) = not_accepted grammar.schedule

-- a step has one name
pub step_only : (grammar : Grammar) (words : List (List ℕ))
    → said grammar verb.Step words
    ≡ where_accepted grammar.schedule (option_map line.Step (option_and_then name_word (only words)))
step_only grammar [] = not_accepted grammar.schedule
step_only grammar (a ∷ []) = refl
step_only grammar (a ∷ b ∷ words) = not_accepted grammar.schedule

pub ruleset by_words = (
  session_only,
  load_only,
  configure_only,
  cleanup_only,
  unload_only,
  switch_first,
  await_only,
  schedule_alone,
  begin_alone,
  end_alone,
  step_only,
)

-- a list has one word
pub list_only : (grammar : Grammar) (words : List (List ℕ))
    → list_in grammar words
    ≡ option_and_then
    (λ word. option_and_then (λ row. where_accepted row.0 (Some (line.Call row.1))) (listed (lists grammar) word))
    (only words)
list_only grammar [] = refl
list_only grammar (a ∷ []) = refl
list_only grammar (a ∷ b ∷ words) = refl

-- a rate has a name and a number
pub rate_pair : (words : List (List ℕ))
    → rate_in words
    ≡ option_and_then
    (λ p. option_and_then (λ n. option_map (call.Rate n) (at_most 10000 (whole_word p.1))) (name_word p.0)) (pair words)
rate_pair [] = refl
rate_pair (a ∷ []) = refl
rate_pair (a ∷ b ∷ []) = refl
rate_pair (a ∷ b ∷ c ∷ words) = refl

-- a hardware call has a name and a state
pub hardware_pair : (words : List (List ℕ))
    → hardware_in words
    ≡ option_and_then (λ p. option_and_then (λ n. option_map (call.Hardware n) (listed lives p.1)) (name_word p.0))
    (pair words)
hardware_pair [] = refl
hardware_pair (a ∷ []) = refl
hardware_pair (a ∷ b ∷ []) = refl
hardware_pair (a ∷ b ∷ c ∷ words) = refl
