-- Pieces of made documents that were written down by hand: computed from the definitions.
use Rattle.std.proofs.Common.{◌≡◌, ◌++◌, refl}
use Rattle.std.specs.Prelude.{codes}
use Rattle.std.specs.Fmt.{digits}
use Rattle.make_document.specs.Made.{of_each, robot_lines, first_switch, opening_lines, joint_lines}
use Rattle.make_document.specs.Made.{controller_lines, round_lines, rounds_lines, running}

joint : joint_lines 7
    ≡ codes "[[component.joint]]\nname = \"j7\"\nvmax = 1\ncommand = [\"position\"]\nstate = [\"position\"]\n"
unfolding digits
joint = refl

controller : controller_lines 0
    ≡ codes "[[controller]]\nname = \"f0\"\ntype = \"forward\"\nclaims = [\"j0/position\"]\n"
unfolding digits
controller = refl

first_lines : running 20 ≡ codes "version = 1\nupdate_rate = 100\ncycles = 20\n" ++ robot_lines
unfolding digits
first_lines = refl

opening : opening_lines
    ≡ codes "session a\nload f0\nload f1\nload f2\nload f3\nload f4\nload f5\nload f6\nload f7\nconfigure f0\nconfigure f1\nconfigure f2\nconfigure f3\nconfigure f4\nconfigure f5\nconfigure f6\nconfigure f7\nswitch strict +f0 +f1 +f2 +f3 +f4 +f5 +f6 +f7\n"
unfolding opening_lines first_switch of_each digits
opening = refl

-- 37, then twice 37
two_rounds : rounds_lines 2
    ≡ codes "send f1 0.37\nswitch strict -f2\nswitch strict +f2\nawait 10\nsend f2 0.74\nswitch strict -f3\nswitch strict +f3\nawait 20\n"
unfolding digits
two_rounds = refl

-- 37 times 1000 is 370 hundreds; 37 times 273 is 10101
last_round : round_lines 1000 ≡ codes "send f0 0.00\nswitch strict -f1\nswitch strict +f1\nawait 10000\n"
unfolding digits
last_round = refl

small_value : round_lines 273 ≡ codes "send f1 0.01\nswitch strict -f2\nswitch strict +f2\nawait 2730\n"
unfolding digits
small_value = refl
