-- The text of a made document, of so many rounds: a robot of eight joints with a controller for each, and a script that
-- in each round sends to one controller and starts the next one anew.
use Rattle.std.specs.Prelude.{ℕ, zero, suc, ◌+◌, ◌*◌, ◌/◌, ◌%◌, List, [], ◌++◌, codes, decimal}
use Rattle.make_document.specs.declared.TheConstants.{JOINTS, CYCLES_A_ROUND, VALUE_STEP}

-- what comes of each number below, one after another
abbrev pub all_below : {A : Type 0} → (ℕ → List A) → ℕ → List A
all_below of zero = []
all_below of (suc n) = all_below of n ++ of n

-- what comes of each joint's number
unfoldable pub of_each : (ℕ → List ℕ) → List ℕ
of_each lines = all_below lines JOINTS

-- ---- The description

-- the name of a joint: `j0` to `j7`
abbrev pub joint_name : ℕ → List ℕ
joint_name i = codes "j" ++ decimal i

-- the name of its controller: `f0` to `f7`
abbrev pub controller_name : ℕ → List ℕ
controller_name i = codes "f" ++ decimal i

-- a joint, which is commanded and measured by its position
abbrev pub joint_lines : ℕ → List ℕ
joint_lines i =
    codes
    "[[component.joint]]\nname = \"" ++ joint_name i
    ++ codes "\"\nvmax = 1\ncommand = [\"position\"]\nstate = [\"position\"]\n"

-- a controller, which claims the position of its joint
abbrev pub controller_lines : ℕ → List ℕ
controller_lines i =
    codes
    "[[controller]]\nname = \"" ++ controller_name i ++ codes "\"\ntype = \"forward\"\nclaims = [\"" ++ joint_name i
    ++ codes "/position\"]\n"

-- one component with all joints, and the controllers
unfoldable pub robot_lines : List ℕ
robot_lines =
    codes "[[component]]\nname = \"sys\"\nkind = \"system\"\n" ++ of_each joint_lines ++ of_each controller_lines

-- the description that runs for so many cycles
abbrev pub running : ℕ → List ℕ
running cycles = codes "version = 1\nupdate_rate = 100\ncycles = " ++ decimal cycles ++ codes "\n" ++ robot_lines

-- the description of so many rounds
abbrev pub robot_text : ℕ → List ℕ
robot_text rounds = running (CYCLES_A_ROUND * rounds)

-- ---- The script

-- a line for a controller, of this verb
abbrev pub line_each : List ℕ → ℕ → List ℕ
line_each verb i = verb ++ codes " " ++ controller_name i ++ codes "\n"

-- a controller as one to start
abbrev pub started : ℕ → List ℕ
started i = codes " +" ++ controller_name i

-- the switch that starts all of them
unfoldable pub first_switch : List ℕ
first_switch = codes "switch strict" ++ of_each started ++ codes "\n"

-- One session loads all controllers, configures them and starts them.
unfoldable pub opening_lines : List ℕ
opening_lines =
    codes "session a\n" ++ of_each (line_each (codes "load")) ++ of_each (line_each (codes "configure")) ++ first_switch

-- the controller that is sent to in a round, and the one that is started anew
abbrev pub sent_to : ℕ → ℕ
sent_to k = k % JOINTS

abbrev pub restarted : ℕ → ℕ
restarted k = (k + 1) % JOINTS

-- how many hundredths of a unit are sent in a round
abbrev pub hundredths : ℕ → ℕ
hundredths k = VALUE_STEP * k % 100

-- a number below 100 by its two digits
abbrev pub two_digits : ℕ → List ℕ
two_digits n = decimal (n / 10) ++ decimal (n % 10)

-- a value for a controller
abbrev pub send_line : ℕ → List ℕ
send_line k = codes "send " ++ controller_name (sent_to k) ++ codes " 0." ++ two_digits (hundredths k) ++ codes "\n"

-- a switch of one controller, by this sign
abbrev pub switch_line : List ℕ → ℕ → List ℕ
switch_line sign i = codes "switch strict " ++ sign ++ controller_name i ++ codes "\n"

-- the cycles of all rounds so far
abbrev pub await_line : ℕ → List ℕ
await_line k = codes "await " ++ decimal (CYCLES_A_ROUND * k) ++ codes "\n"

-- A round: a value is sent to a controller, the next one is stopped and started, and the cycles are awaited.
abbrev pub round_lines : ℕ → List ℕ
round_lines k =
    send_line k ++ switch_line (codes "-") (restarted k) ++ switch_line (codes "+") (restarted k) ++ await_line k

-- so many rounds, of which the first has the number 1
abbrev pub rounds_lines : ℕ → List ℕ
rounds_lines rounds = all_below (λ done. round_lines (done + 1)) rounds

-- the script of so many rounds
abbrev pub script_lines : ℕ → List ℕ
script_lines rounds = opening_lines ++ rounds_lines rounds

-- ---- The document

-- the made document of so many rounds
abbrev pub made : ℕ → List ℕ
made rounds = robot_text rounds ++ codes "--- script ---\n" ++ script_lines rounds
