-- The script of a made document is read line by line, round by round.
use Rattle.std.proofs.Common.{◌≡◌, ℕ, zero, suc, ◌+◌, ◌*◌, ◌%◌, ◌<◌, ◌≤◌, Bool, true, false, List, [], ◌∷◌}
use Rattle.std.proofs.Common.{◌++◌, length, Some, None, Result, Ok, Err, ℤ, pos, negsuc, inl, inr, refl}
use Rattle.std.proofs.Common.{sym, ap, ◌∙◌, subst, arith, rules, append_assoc, append-nil, length-append}
use Rattle.std.specs.Prelude.{◌==◌, ◌&&◌, nat_lt, nat_le, if◌then◌else◌, Option, option_map, codes, decimal}
use Rattle.std.specs.List.{AllByRecursion, list_all}
use Rattle.std.specs.Option.{option_and_then}
use Rattle.std.specs.Fmt.{digits}
use Rattle.std.proofs.lemmas.Bool.{and_parts, and_from, cases_lt, eqb-true, ltb-true, leb-true, lt-ltb}
use Rattle.fixed_num.specs.Text.{number_of}
use Rattle.fixed_num.specs.declared.read.FxFault.{FxFault}
use Rattle.iface_names.specs.Names.{is_name}
use Rattle.cm_document.specs.Reading.{◌>>=◌}
use Rattle.cm_document.specs.Lines.{raw_lines}
use Rattle.cm_document.specs.Grammars.{whole_grammar}
use Rattle.cm_document.specs.CallText.{call_text}
use Rattle.cm_document.specs.LineGrammar.{value_word, in_front, mail_in, a_call, line_of}
use Rattle.cm_document.specs.ScriptRules.{Draft, nothing, script_in, has_room, call_fits}
use Rattle.cm_document.specs.ScriptRules.{with_said, with_line, with_lines, script_with}
use Rattle.cm_document.specs.Given.{IsName}
use Rattle.cm_document.specs.ScriptLaws.{CanBeWritten, allows}
use Rattle.cm_document.specs.declared.call.Call.{Call}
use Rattle.cm_document.specs.declared.call.Call.TheVariants as call
use Rattle.cm_document.specs.declared.call.Mail.{Mail}
use Rattle.cm_document.specs.declared.call.Mail.TheVariants.{Values}
use Rattle.cm_document.specs.declared.faults.ScriptFault.{ScriptFault}
use Rattle.cm_document.specs.declared.faults.ScriptFault.TheVariants.{TooMany}
use Rattle.cm_document.specs.declared.script.ScriptLine.TheVariants as line
use Rattle.script_text.proofs.PrintWordLemmas.{IsWord, IsLine, spaced, Reads, Reads-nil, Reads-append, Reads-line}
use Rattle.script_text.proofs.PrintValueLemmas.{name_IsWord, name_short, name_reads}
use Rattle.script_text.proofs.PrintCallLemmas.{call_says}
use Rattle.make_document.specs.declared.TheConstants.{CYCLES_A_ROUND}
use Rattle.make_document.specs.Made.{of_each, controller_name, sent_to, restarted, hundredths, two_digits, send_line}
use Rattle.make_document.specs.Made.{round_lines, rounds_lines, first_switch, opening_lines, script_lines}
use Rattle.make_document.specs.Meant.{strictly, opening_calls, value_sent, round_calls, rounds_calls, script_meant}

-- ---- What holds of each number below another

-- each number below passes
abbrev each_passes : (ℕ → Bool) → ℕ → Bool
each_passes test zero = true
each_passes test (suc n) = test n && each_passes test n

passes : (test : ℕ → Bool) (n i : ℕ) → each_passes test n ≡ true → i < n → test i ≡ true
passes test zero i all below = absurd (omega arith)
passes test (suc n) i all below =
    let both = and_parts (test n) (each_passes test n) all in
    elim (cases_lt i n) [
      | inl less ↦ passes test n i both.1 less
      | inr most ↦ let same : i ≡ n = omega arith in rw same both.0
    ]

-- ---- Words

name_is : (i : ℕ) → i < 8 → IsName (controller_name i)
unfolding digits
name_is i below = passes (λ i. is_name (controller_name i)) 8 i refl below

-- so many hundredths of a unit
abbrev value_text : ℕ → List ℕ
value_text h = codes "0." ++ two_digits h

-- a text is read as so many micro-units
abbrev is_number : ℕ → Result ℤ FxFault → Bool
is_number m (Ok (pos k)) = k == m
is_number m _ = false

number_is : (m : ℕ) (read : Result ℤ FxFault) → is_number m read ≡ true → read ≡ Ok (pos m)
number_is m (Ok (pos k)) e = ap (λ k. Ok (pos k)) (eqb-true k m e)
number_is m (Ok (negsuc k)) e = cc
number_is m (Err fault) e = cc

value_is : (h : ℕ) → h < 100 → number_of (value_text h) ≡ Ok (pos (10000 * h))
unfolding digits number_of
value_is h below =
    number_is (10000 * h) (number_of (value_text h))
    (passes (λ h. is_number (10000 * h) (number_of (value_text h))) 100 h refl below)

value_reads : (word : List ℕ) (v : ℤ) → number_of word ≡ Ok v → value_word word ≡ Some v
value_reads word v e = rw (e, value_word) refl

shown_from : (word : List ℕ) → list_all (λ b. nat_lt 32 b) word ≡ true → AllByRecursion (λ b. 32 < b) word
shown_from [] all = tt
shown_from (b ∷ bs) all =
    let both = and_parts (nat_lt 32 b) (list_all (λ b. nat_lt 32 b) bs) all in
    (ltb-true 32 b both.0, shown_from bs both.1)

value_shown : (h : ℕ) → h < 100 → list_all (λ b. nat_lt 32 b) (value_text h) ≡ true
unfolding digits
value_shown h below = passes (λ h. list_all (λ b. nat_lt 32 b) (value_text h)) 100 h refl below

value_short : (h : ℕ) → h < 100 → nat_le (length (value_text h)) 64 ≡ true
unfolding digits
value_short h below = passes (λ h. nat_le (length (value_text h)) 64) 100 h refl below

value_IsWord : (h : ℕ) → h < 100 → IsWord (value_text h)
value_IsWord h below = record { some = omega arith; shown = shown_from (value_text h) (value_shown h below) }

-- ---- Lines

-- this text is one line, which says the call
record Says (text : List ℕ) (c : Call) : Type 0 where
  word : List ℕ
  words : List (List ℕ)
  text_is : text ≡ (word ++ spaced words) ++ 10 ∷ []
  shape : IsLine word words
  says : line_of whole_grammar (word ∷ words) ≡ Some (line.Call c)
  fits : call_fits c ≡ true

-- a line that is as the call prints
printed_says : (text : List ℕ) (c : Call) → text ≡ call_text c ++ 10 ∷ [] → CanBeWritten c
    → allows whole_grammar c ≡ true → call_fits c ≡ true → Says text c
printed_says text c same can allowed fits =
    let said = call_says c can in
    record {
      word = said.0;
      words = said.1;
      text_is = same ∙ ap (λ t. t ++ 10 ∷ []) said.2.text;
      shape = said.2.shape;
      says = said.2.says whole_grammar allowed;
      fits = fits;
    }

abbrev send_text : ℕ → ℕ → List ℕ
send_text i h = codes "send " ++ (controller_name i ++ (codes " 0." ++ (two_digits h ++ 10 ∷ [])))

send_words : (name word : List ℕ) (v : ℤ) → IsName name → mail_in (word ∷ []) ≡ Some (Values (v ∷ []))
    → line_of whole_grammar (codes "send" ∷ name ∷ word ∷ []) ≡ Some (line.Call (call.Send name (Values (v ∷ []))))
send_words name word v named mail =
    ap (λ (o : Option (List ℕ)). a_call
    (option_and_then (λ controller. option_map (call.Send controller) (mail_in (word ∷ []))) o)) (name_reads name named)
    ∙ ap (λ (o : Option Mail). a_call (option_map (call.Send name) o)) mail

send_says : (i h : ℕ) → i < 8 → h < 100
    → Says (send_text i h) (call.Send (controller_name i) (Values (pos (10000 * h) ∷ [])))
send_says i h known below =
    let name = controller_name i in
    let word = value_text h in
    let named = name_is i known in
    let value = value_reads word (pos (10000 * h)) (value_is h below) in
    let name_few = name_short name named in
    let word_few : length word ≤ 64 = leb-true (length word) 64 (value_short h below) in
    let all_long = length-append name (spaced (word ∷ [])) in
    let word_long = length-append word [] in
    let short : length (codes "send" ++ spaced (name ∷ word ∷ [])) ≤ 65536 = omega arith in
    let mail : mail_in (word ∷ []) ≡ Some (Values (pos (10000 * h) ∷ [])) =
    ap (λ (o : Option ℤ). option_map Values (in_front o (Some []))) value in
    record {
      word = codes "send";
      words = name ∷ word ∷ [];
      text_is = sym
          (ap (λ t. codes "send " ++ t)
          (append_assoc name (32 ∷ (word ++ [])) (10 ∷ []) ∙ ap (λ t. name ++ 32 ∷ (t ++ 10 ∷ [])) (append-nil word)));
      shape = record {
        first = search (arith, rules);
        others = (name_IsWord name named, (value_IsWord h below, tt));
        said =
            refl;
        short = short;
      };
      says = send_words name word (pos (10000 * h)) named mail;
      fits = refl;
    }

abbrev off_text : ℕ → List ℕ
off_text i = codes "switch strict -" ++ (controller_name i ++ 10 ∷ [])

off_says : (i : ℕ) → i < 8 → Says (off_text i) (call.Switch (strictly (controller_name i ∷ []) []))
off_says i known =
    let name = controller_name i in
    let few : 0 + 1 ≤ 128 = omega arith in
    printed_says (off_text i) (call.Switch (strictly (name ∷ []) [])) (simp (append_assoc, append-nil))
    (record { few = few; on = tt; off = (name_is i known, tt) }) refl refl

abbrev on_text : ℕ → List ℕ
on_text i = codes "switch strict +" ++ (controller_name i ++ 10 ∷ [])

on_says : (i : ℕ) → i < 8 → Says (on_text i) (call.Switch (strictly [] (controller_name i ∷ [])))
on_says i known =
    let name = controller_name i in
    let few : 1 + 0 ≤ 128 = omega arith in
    printed_says (on_text i) (call.Switch (strictly [] (name ∷ []))) (simp (append_assoc, append-nil))
    (record { few = few; on = (name_is i known, tt); off = tt }) refl refl

abbrev await_text : ℕ → List ℕ
await_text cycles = codes "await " ++ (decimal cycles ++ 10 ∷ [])

await_says : (cycles : ℕ) → cycles ≤ 999999999 → Says (await_text cycles) (call.Await cycles)
await_says cycles small = printed_says (await_text cycles) (call.Await cycles) refl small refl refl

-- ---- Calls

-- what stands while the session's lines are read
abbrev writing : List Call → Draft
writing calls = record { sessions = record { name = codes "a"; lines = calls } ∷ []; turns = None }

-- one call more
call_read : (text : List ℕ) (c : Call) (calls : List Call) → Says text c → length calls < 10000
    → Reads whole_grammar text (writing calls) (writing (calls ++ c ∷ []))
call_read text c calls it few =
    let sum : (0 + length calls) + 0 ≡ length calls = omega arith in
    let below : has_room (writing calls) ≡ true = ap (λ k. nat_lt k 10000) sum ∙ lt-ltb (length calls) 10000 few in
    let both : (has_room (writing calls) && call_fits c) ≡ true =
    and_from (has_room (writing calls)) (call_fits c) below it.fits in
    let read = Reads-line whole_grammar it.word it.words (writing calls) (writing (calls ++ c ∷ [])) it.shape
    (λ n. ap (with_said whole_grammar n (writing calls)) it.says
    ∙ ap (λ (b : Bool). if b then Ok (writing (calls ++ c ∷ [])) else Err (TooMany n)) both) in
    subst (λ t. Reads whole_grammar t (writing calls) (writing (calls ++ c ∷ []))) (sym it.text_is) read

-- ---- Rounds

-- the first line of a round, its parts behind one another
send_line_is : (k : ℕ) → send_line k ≡ send_text (sent_to k) (hundredths k)
send_line_is k =
    let name = decimal (sent_to k) in
    let value = two_digits (hundredths k) in
    ap (λ t. codes "send f" ++ t)
    (append_assoc (name ++ codes " 0.") value (10 ∷ []) ∙ append_assoc name (codes " 0.") (value ++ 10 ∷ []))

-- what is read of a round
round_read : (k : ℕ) (calls : List Call) → k ≤ 1000 → length calls + 4 ≤ 10000
    → Reads whole_grammar (round_lines k) (writing calls) (writing (calls ++ round_calls k))
round_read k calls few room =
    let i = sent_to k in
    let h = hundredths k in
    let r = restarted k in
    let one = call.Send (controller_name i) (Values (value_sent k ∷ [])) in
    let two = call.Switch (strictly (controller_name r ∷ []) []) in
    let three = call.Switch (strictly [] (controller_name r ∷ [])) in
    let four = call.Await (CYCLES_A_ROUND * k) in
    let a = calls ++ one ∷ [] in
    let b = a ++ two ∷ [] in
    let c = b ++ three ∷ [] in
    let d = c ++ four ∷ [] in
    let known : k % 8 < 8 = omega arith in
    let other : (k + 1) % 8 < 8 = omega arith in
    let below : 37 * k % 100 < 100 = omega arith in
    let soon : 10 * k ≤ 999999999 = omega arith in
    let long_a = length-append calls (one ∷ []) in
    let long_b = length-append a (two ∷ []) in
    let long_c = length-append b (three ∷ []) in
    let whole : d ≡ calls ++ round_calls k = simp append_assoc in
    let send = send_line k in
    let off = off_text r in
    let on = on_text r in
    let first = subst (λ t. Reads whole_grammar t (writing calls) (writing a)) (sym (send_line_is k))
    (call_read (send_text i h) one calls (send_says i h known below) (omega arith)) in
    let second = call_read off two a (off_says r other) (omega arith) in
    let third = call_read on three b (on_says r other) (omega arith) in
    let fourth =
    call_read (await_text (CYCLES_A_ROUND * k)) four c (await_says (CYCLES_A_ROUND * k) soon) (omega arith) in
    let two_lines = Reads-append whole_grammar send off (writing calls) (writing a) (writing b) first second in
    let three_lines =
    Reads-append whole_grammar (send ++ off) on (writing calls) (writing b) (writing c) two_lines third in
    let four_lines =
    Reads-append whole_grammar (send ++ off ++ on) (await_text (CYCLES_A_ROUND * k)) (writing calls) (writing c)
    (writing d) three_lines fourth in
    subst (λ cs. Reads whole_grammar (round_lines k) (writing calls) (writing cs)) whole four_lines

-- there are four calls a round
rounds_long : (rounds : ℕ) → length (rounds_calls rounds) ≡ 4 * rounds
rounds_long zero = refl
rounds_long (suc n) = omega (arith, rounds_long n, length-append (rounds_calls n) (round_calls (n + 1)))

opening_long : length opening_calls ≡ 17
unfolding opening_calls
opening_long = refl

-- all rounds
rounds_read : (rounds : ℕ) → rounds ≤ 1000
    → Reads whole_grammar (rounds_lines rounds) (writing opening_calls) (writing (opening_calls ++ rounds_calls rounds))
rounds_read zero few =
    subst (λ cs. Reads whole_grammar [] (writing opening_calls) (writing cs)) (sym (append-nil opening_calls))
    (Reads-nil whole_grammar (writing opening_calls))
rounds_read (suc n) few =
    let before = opening_calls ++ rounds_calls n in
    let long : length before + 4 ≤ 10000 =
    omega (arith, length-append opening_calls (rounds_calls n), rounds_long n, opening_long) in
    let more = subst (λ cs. Reads whole_grammar (round_lines (n + 1)) (writing before) (writing cs))
    (append_assoc opening_calls (rounds_calls n) (round_calls (n + 1)))
    (round_read (n + 1) before (omega arith) long) in
    Reads-append whole_grammar (rounds_lines n) (round_lines (n + 1)) (writing opening_calls) (writing before)
    (writing (opening_calls ++ rounds_calls (suc n))) (rounds_read n (omega arith)) more

-- ---- The script

-- the lines before the rounds, of which the first is line 80 of the document
opening_read : (rest : List ℕ)
    → with_lines whole_grammar 80 nothing (raw_lines (opening_lines ++ rest))
    ≡ with_lines whole_grammar 98 (writing opening_calls) (raw_lines rest)
unfolding with_line opening_lines first_switch of_each opening_calls digits
opening_read rest = refl

-- The script is the one that is meant.
pub script_reads : (rounds : ℕ) → rounds ≤ 1000
    → script_with whole_grammar 80 (script_lines rounds) ≡ Ok (script_meant rounds)
unfolding script_with
script_reads rounds few =
    let read = rounds_read rounds few 98 [] in
    ap (λ (r : Result Draft ScriptFault). r >>= λ w. Ok (script_in w))
    (opening_read (rounds_lines rounds)
    ∙ ap (λ t. with_lines whole_grammar 98 (writing opening_calls) (raw_lines t))
    (sym (append-nil (rounds_lines rounds)))
    ∙ read.1)
