-- A made document is short.
use Rattle.std.proofs.Common.{◌≡◌, ℕ, zero, suc, ◌+◌, ◌*◌, ◌/◌, ◌%◌, ◌<◌, ◌≤◌, ◌^◌, List}
use Rattle.std.proofs.Common.{[], ◌++◌, length, codes, decimal, arith, length-append}
use Rattle.std.specs.Fmt.{digits}
use Rattle.std.proofs.lemmas.Fmt.{length-decimal-le}
use Rattle.cm_document.specs.declared.limits.TheConstants.{LONGEST_DOCUMENT}
use Rattle.make_document.specs.Made.{all_below, of_each, first_switch, controller_name, two_digits, hundredths, sent_to}
use Rattle.make_document.specs.Made.{restarted, send_line, switch_line, await_line, round_lines, rounds_lines}
use Rattle.make_document.specs.Made.{robot_lines, robot_text, running, opening_lines, script_lines, made}

-- no more than these two together
joined : (a b : List ℕ) (m n : ℕ) → length a ≤ m → length b ≤ n → length (a ++ b) ≤ m + n
joined a b m n front rest = omega (arith, length-append a b, front, rest)

number : (n : ℕ) → n < 2 ^ 64 → length (decimal n) ≤ 20
number n small = length-decimal-le 20 n (omega arith) (omega arith) small

-- ---- A round has at most 200 bytes

controller : (i : ℕ) → i < 8 → length (controller_name i) ≤ 21
controller i few = joined (codes "f") (decimal i) 1 20 (omega arith) (number i (omega arith))

digits_of : (n : ℕ) → n < 100 → length (two_digits n) ≤ 40
digits_of n few =
    joined (decimal (n / 10)) (decimal (n % 10)) 20 20 (number (n / 10) (omega arith)) (number (n % 10) (omega arith))

send : (k : ℕ) → length (send_line k) ≤ 70
send k =
    let name = controller_name (sent_to k) in
    let value = two_digits (hundredths k) in
    joined (codes "send " ++ name ++ codes " 0." ++ value) (codes "\n") 69 1
    (joined (codes "send " ++ name ++ codes " 0.") value 29 40
    (joined (codes "send " ++ name) (codes " 0.") 26 3
    (joined (codes "send ") name 5 21 (omega arith) (controller (sent_to k) (omega arith))) (omega arith))
    (digits_of (hundredths k) (omega arith))) (omega arith)

switch : (sign : List ℕ) (i : ℕ) → length sign ≤ 1 → i < 8 → length (switch_line sign i) ≤ 37
switch sign i one few =
    joined (codes "switch strict " ++ sign ++ controller_name i) (codes "\n") 36 1
    (joined (codes "switch strict " ++ sign) (controller_name i) 15 21
    (joined (codes "switch strict ") sign 14 1 (omega arith) one) (controller i few)) (omega arith)

await : (k : ℕ) → k ≤ 1000 → length (await_line k) ≤ 27
await k few =
    joined (codes "await " ++ decimal (10 * k)) (codes "\n") 26 1
    (joined (codes "await ") (decimal (10 * k)) 6 20 (omega arith) (number (10 * k) (omega arith))) (omega arith)

round : (k : ℕ) → k ≤ 1000 → length (round_lines k) ≤ 171
round k few =
    let who : restarted k < 8 = omega arith in
    let off = switch_line (codes "-") (restarted k) in
    let on = switch_line (codes "+") (restarted k) in
    joined (send_line k ++ off ++ on) (await_line k) 144 27
    (joined (send_line k ++ off) on 107 37
    (joined (send_line k) off 70 37 (send k) (switch (codes "-") (restarted k) (omega arith) who))
    (switch (codes "+") (restarted k) (omega arith) who)) (await k few)

-- so many rounds
rounds_from : (n : ℕ) → n ≤ 1000 → length (rounds_lines n) ≤ n * 171
rounds_from zero few = omega arith
rounds_from (suc n) few =
    omega (
      arith,
      length-append (rounds_lines n) (round_lines (n + 1)),
      rounds_from n (omega arith),
      round (n + 1) (omega arith),
    )

-- ---- The rest is the same in each

robot : length robot_lines ≤ 1500
unfolding robot_lines of_each digits
robot = omega arith

opening : length opening_lines ≤ 300
unfolding opening_lines of_each first_switch digits
opening = omega arith

described : (m : ℕ) → m < 2 ^ 64 → length (running m) ≤ 1561
described m few =
    let first = codes "version = 1\nupdate_rate = 100\ncycles = " in
    joined (first ++ decimal m ++ codes "\n") robot_lines 61 1500
    (joined (first ++ decimal m) (codes "\n") 60 1 (joined first (decimal m) 40 20 (omega arith) (number m few))
    (omega arith)) robot

-- a made document of up to 1,000 rounds is far shorter than a document may be
pub made_is_short : (rounds : ℕ) → rounds ≤ 1000 → length (made rounds) ≤ LONGEST_DOCUMENT
made_is_short rounds few =
    let rest : length (rounds_lines rounds) ≤ 171000 = omega (arith, rounds_from rounds few) in
    let lines : length (script_lines rounds) ≤ 171300 =
    joined opening_lines (rounds_lines rounds) 300 171000 opening rest in
    let whole : length (made rounds) ≤ 172876 =
    joined (robot_text rounds ++ codes "--- script ---\n") (script_lines rounds) 1576 171300
    (joined (robot_text rounds) (codes "--- script ---\n") 1561 15 (described (10 * rounds) (omega arith))
    (omega arith)) lines in
    omega (arith, whole)
