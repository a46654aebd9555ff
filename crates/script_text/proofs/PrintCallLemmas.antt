-- Each call prints as a line that says it.
use Rattle.std.proofs.Common.{◌≡◌, ℕ, ◌≤◌, Bool, true, false, List, [], ◌∷◌, ◌++◌, length, Some}
use Rattle.std.proofs.Common.{refl, sym, ap, ◌∙◌, arith, rules, append_assoc, length-append}
use Rattle.std.specs.Prelude.{nat_le, codes}
use Rattle.std.specs.Fmt.{decimal}
use Rattle.std.proofs.lemmas.Bool.Decides.{nat_tests}
use Rattle.std.proofs.lemmas.List.{append-nil}
use Rattle.cm_document.specs.Vocabulary.{life_word, listed, lives, strictness_word}
use Rattle.cm_document.specs.Lines.{is_comment}
use Rattle.cm_document.specs.CallText.{call_text}
use Rattle.cm_document.specs.LineGrammar.{line_of}
use Rattle.cm_document.specs.Given.{IsName}
use Rattle.cm_document.specs.ScriptLaws.{CanBeSent, CanBeAsked, CanBeWritten, allows}
use Rattle.cm_document.specs.declared.call.Call.{Call}
use Rattle.cm_document.specs.declared.call.Call.TheVariants as call
use Rattle.cm_document.specs.declared.call.Mail.{Mail}
use Rattle.cm_document.specs.declared.call.SwitchRequest.{SwitchRequest}
use Rattle.cm_document.specs.declared.life.Life.{Life}
use Rattle.cm_document.specs.declared.life.Life.TheVariants as life
use Rattle.cm_document.specs.declared.script.Grammar.{Grammar}
use Rattle.cm_document.specs.declared.script.ScriptLine.TheVariants as line
use Rattle.script_text.proofs.PrintWordLemmas.{IsWord, IsLine, spaced, spaced_long}
use Rattle.script_text.proofs.PrintValueLemmas.{name_IsWord, name_short, whole_IsWord, whole_short, whole_reads}
use Rattle.script_text.proofs.PrintMailLemmas.{mail_words, mail_spaced, mail_are_words, mail_short}
use Rattle.script_text.proofs.PrintMailLemmas.{mail_few, mail_reads, asked_words, asked_spaced}
use Rattle.script_text.proofs.PrintMailLemmas.{asked_are_words, asked_short, asked_few, asked_reads}

-- these words are the call's line, and are read as the call
pub record SaysCall (c : Call) (word : List ℕ) (ws : List (List ℕ)) : Type 0 where
  pub text : call_text c ≡ word ++ spaced ws
  pub shape : IsLine word ws
  pub says : (grammar : Grammar) → allows grammar c ≡ true → line_of grammar (word ∷ ws) ≡ Some (line.Call c)

-- one word behind a verb of at most nine bytes
pub one_behind : (verb word : List ℕ) → IsWord verb → is_comment verb ≡ false → length verb ≤ 9 → IsWord word
    → length word ≤ 64 → IsLine verb (word ∷ [])
one_behind verb word first said few behind short =
    let long = length-append verb (spaced (word ∷ [])) in
    let longer = length-append word [] in
    record { first = first; others = (behind, tt); said = said; short = omega arith }

-- two
two_behind : (verb a b : List ℕ) → IsWord verb → is_comment verb ≡ false → length verb ≤ 9 → IsWord a → length a ≤ 64
    → IsWord b → length b ≤ 64 → IsLine verb (a ∷ b ∷ [])
two_behind verb a b first said few one short other shorter =
    let long = length-append verb (spaced (a ∷ b ∷ [])) in
    let longer = length-append a (spaced (b ∷ [])) in
    let longest = length-append b [] in
    record { first = first; others = (one, (other, tt)); said = said; short = omega arith }

-- a call on one name
named : (make : List ℕ → Call) (verb name : List ℕ) → call_text (make name) ≡ verb ++ 32 ∷ name → IsWord verb
    → is_comment verb ≡ false → length verb ≤ 9
    → IsName name
    → ((grammar : Grammar) → allows grammar (make name) ≡ true
    → line_of grammar (verb ∷ name ∷ []) ≡ Some (line.Call (make name)))
    → SaysCall (make name) verb (name ∷ [])
named make verb name text first said few name_is says = record {
  text = text ∙ ap (λ t. verb ++ 32 ∷ t) (sym (append-nil name));
  shape = one_behind verb name first said few (name_IsWord name name_is) (name_short name name_is);
  says = says;
}

-- a state's word is a word, and is read as the state
life_IsWord : (l : Life) → IsWord (life_word l)
life_IsWord life.Unconfigured = search (arith, rules)
life_IsWord life.Inactive = search (arith, rules)
life_IsWord life.Active = search (arith, rules)
life_IsWord life.Finalized = search (arith, rules)

life_short : (l : Life) → length (life_word l) ≤ 64
life_short life.Unconfigured = omega arith
life_short life.Inactive = omega arith
life_short life.Active = omega arith
life_short life.Finalized = omega arith

life_reads : (l : Life) → listed lives (life_word l) ≡ Some l
life_reads life.Unconfigured = refl
life_reads life.Inactive = refl
life_reads life.Active = refl
life_reads life.Finalized = refl

-- `rate NAME HZ`
rate_says : (name : List ℕ) (hz : ℕ) → IsName name → hz ≤ 10000
    → SaysCall (call.Rate name hz) (codes "rate") (name ∷ decimal hz ∷ [])
rate_says name hz name_is small =
    let low : nat_le hz 10000 ≡ true = grind (arith, nat_tests) in
    record {
      text = ap (λ t. codes "rate " ++ t)
          (append_assoc name (codes " ") (decimal hz) ∙ ap (λ t. name ++ 32 ∷ t) (sym (append-nil (decimal hz))));
      shape = two_behind (codes "rate") name (decimal hz) (search (arith, rules)) refl (omega arith)
          (name_IsWord name name_is) (name_short name name_is)
          (whole_IsWord hz (omega arith)) (let few = whole_short hz (omega arith) in omega arith);
      says = λ grammar accepted. rw (accepted, name_is, whole_reads hz (omega arith), low) refl;
    }

-- `hw NAME STATE`
hardware_says : (name : List ℕ) (target : Life) → IsName name
    → SaysCall (call.Hardware name target) (codes "hw") (name ∷ life_word target ∷ [])
hardware_says name target name_is = record {
  text = ap (λ t. codes "hw " ++ t)
      (append_assoc name (codes " ") (life_word target)
      ∙ ap (λ t. name ++ 32 ∷ t) (sym (append-nil (life_word target))));
  shape = two_behind (codes "hw") name (life_word target) (search (arith, rules)) refl (omega arith)
      (name_IsWord name name_is) (name_short name name_is)
      (life_IsWord target) (life_short target);
  says = λ grammar accepted. rw (accepted, name_is, life_reads target) refl;
}

-- `await N`
await_says : (n : ℕ) → n ≤ 999999999 → SaysCall (call.Await n) (codes "await") (decimal n ∷ [])
await_says n small = record {
  text = ap (λ t. codes "await " ++ t) (sym (append-nil (decimal n)));
  shape = one_behind (codes "await") (decimal n) (search (arith, rules)) refl (omega arith) (whole_IsWord n small)
      (let few = whole_short n small in omega arith);
  says = λ grammar accepted. rw (accepted, whole_reads n small) refl;
}

-- `send NAME ..`
send_says : (name : List ℕ) (mail : Mail) → IsName name → CanBeSent mail
    → SaysCall (call.Send name mail) (codes "send") (name ∷ mail_words mail)
send_says name mail name_is sent =
    let few = mail_few mail sent in
    let long = spaced_long 18 (mail_words mail) (mail_short mail sent) in
    let longer = length-append name (spaced (mail_words mail)) in
    let short = name_short name name_is in
    record {
      text = ap (λ t. codes "send " ++ (name ++ t)) (mail_spaced mail);
      shape = record {
        first = search (arith, rules);
        others = (name_IsWord name name_is, mail_are_words mail sent);
        said =
            refl;
        short = omega arith;
      };
      says = λ grammar accepted. rw (accepted, name_is, mail_reads mail sent) refl;
    }

-- `switch ..`
strictness_IsWord : (strict : Bool) → IsWord (strictness_word strict)
strictness_IsWord true = search (arith, rules)
strictness_IsWord false = search (arith, rules)

strictness_short : (strict : Bool) → length (strictness_word strict) ≤ 6
strictness_short true = omega arith
strictness_short false = omega arith

switch_says : (r : SwitchRequest) → CanBeAsked r
    → SaysCall (call.Switch r) (codes "switch") (strictness_word r.strict ∷ asked_words r)
switch_says r asked =
    let few = asked_few r asked in
    let long = spaced_long 66 (asked_words r) (asked_short r asked) in
    let longer = length-append (strictness_word r.strict) (spaced (asked_words r)) in
    let short = strictness_short r.strict in
    record {
      text = ap (λ t. codes "switch " ++ t)
          (append_assoc (strictness_word r.strict) _ _ ∙ ap (λ t. strictness_word r.strict ++ t) (asked_spaced r));
      shape = record {
        first = search (arith, rules);
        others = (strictness_IsWord r.strict, asked_are_words r asked);
        said =
            refl;
        short = omega arith;
      };
      says = λ grammar accepted. rw (accepted, asked_reads r asked) refl;
    }

-- `list WORD`
list_says : (c : Call) (word : List ℕ) → call_text c ≡ codes "list " ++ word → IsWord word → length word ≤ 64
    → ((grammar : Grammar) → allows grammar c ≡ true → line_of grammar (codes "list" ∷ word ∷ []) ≡ Some (line.Call c))
    → SaysCall c (codes "list") (word ∷ [])
list_says c word text behind short says = record {
  text = text ∙ ap (λ t. codes "list " ++ t) (sym (append-nil word));
  shape = one_behind (codes "list") word (search (arith, rules)) refl (omega arith) behind short;
  says = says;
}

-- each call that can be written
pub call_says : (c : Call) → CanBeWritten c → (word : List ℕ) × (ws : List (List ℕ)) × SaysCall c word ws
call_says (call.Load name) can = (
  codes "load",
  name ∷ [],
  named call.Load (codes "load") name refl (search (arith, rules)) refl (omega arith) can
      (λ grammar accepted. rw (accepted, can) refl),
)
call_says (call.Configure name) can = (
  codes "configure",
  name ∷ [],
  named call.Configure (codes "configure") name refl (search (arith, rules)) refl (omega arith) can
      (λ grammar accepted. rw (accepted, can) refl),
)
call_says (call.Cleanup name) can = (
  codes "cleanup",
  name ∷ [],
  named call.Cleanup (codes "cleanup") name refl (search (arith, rules)) refl (omega arith) can
      (λ grammar accepted. rw (accepted, can) refl),
)
call_says (call.Unload name) can = (
  codes "unload",
  name ∷ [],
  named call.Unload (codes "unload") name refl (search (arith, rules)) refl (omega arith) can
      (λ grammar accepted. rw (accepted, can) refl),
)
call_says (call.Rate name hz) can = (codes "rate", name ∷ decimal hz ∷ [], rate_says name hz can.0 can.1)
call_says (call.Send name mail) can = (codes "send", name ∷ mail_words mail, send_says name mail can.0 can.1)
call_says (call.Switch r) can = (codes "switch", strictness_word r.strict ∷ asked_words r, switch_says r can)
call_says (call.Hardware name target) can = (codes "hw", name ∷ life_word target ∷ [], hardware_says name target can)
call_says (call.Await n) can = (codes "await", decimal n ∷ [], await_says n can)
call_says call.ListControllers can = (
  codes "list",
  codes "controllers" ∷ [],
  list_says call.ListControllers (codes "controllers") refl (search (arith, rules)) (omega arith)
      (λ grammar accepted. rw accepted refl),
)
call_says call.ListInterfaces can = (
  codes "list",
  codes "interfaces" ∷ [],
  list_says call.ListInterfaces (codes "interfaces") refl (search (arith, rules)) (omega arith)
      (λ grammar accepted. rw accepted refl),
)
call_says call.ListComponents can = (
  codes "list",
  codes "components" ∷ [],
  list_says call.ListComponents (codes "components") refl (search (arith, rules)) (omega arith)
      (λ grammar accepted. rw accepted refl),
)
call_says (call.Told ticket) can = absurd can
call_says (call.Begin n) can = absurd can
call_says (call.End n) can = absurd can
call_says call.Close can = absurd can
