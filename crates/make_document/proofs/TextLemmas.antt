-- What several pushes come to, one after another.
use Rattle.std.proofs.Common.{◌≡◌, ℕ, List, ◌++◌, Result, Ok, Err, OnOk, refl, sym, ap, ◌∙◌, append_assoc}
use Rattle.std.specs.Prelude.{codes, decimal}
use Rattle.make_document.specs.Made.{of_each, joint_name, joint_lines, controller_name, controller_lines}
use Rattle.make_document.specs.Made.{robot_lines, running, line_each, first_switch, opening_lines}

-- three pieces behind a text
three : (t a b c x y z : List ℕ) → x ≡ t ++ a → y ≡ x ++ b → z ≡ y ++ c → z ≡ t ++ (a ++ (b ++ c))
three t a b c x y z first second third =
    third ∙ ap (λ u. u ++ c) second ∙ ap (λ u. u ++ b ++ c) first ∙ append_assoc (t ++ a) b c
    ∙ append_assoc t a (b ++ c)

-- the lines of a joint, pushed in three pieces
pub joint_text : (t x y z : List ℕ) (i : ℕ) → x ≡ t ++ codes "[[component.joint]]\nname = \"" → y ≡ x ++ joint_name i
    → z ≡ y ++ codes "\"\nvmax = 1\ncommand = [\"position\"]\nstate = [\"position\"]\n" → z ≡ t ++ joint_lines i
joint_text t x y z i first second third =
    three t (codes "[[component.joint]]\nname = \"") (joint_name i)
    (codes "\"\nvmax = 1\ncommand = [\"position\"]\nstate = [\"position\"]\n") x y z first second third

-- those of a controller, in five
pub controller_text : (t v w x y z : List ℕ) (i : ℕ) → v ≡ t ++ codes "[[controller]]\nname = \""
    → w ≡ v ++ controller_name i
    → x ≡ w ++ codes "\"\ntype = \"forward\"\nclaims = [\"" → y ≡ x ++ joint_name i → z ≡ y ++ codes "/position\"]\n"
    → z ≡ t ++ controller_lines i
controller_text t v w x y z i first second third fourth fifth =
    three w (codes "\"\ntype = \"forward\"\nclaims = [\"") (joint_name i) (codes "/position\"]\n") x y z third fourth
    fifth
    ∙ three t (codes "[[controller]]\nname = \"") (controller_name i)
    (codes "\"\ntype = \"forward\"\nclaims = [\"" ++ (joint_name i ++ codes "/position\"]\n")) v w _ first second refl
    ∙ ap (λ u. t ++ (codes "[[controller]]\nname = \"f" ++ u))
    (sym (append_assoc (decimal i ++ codes "\"\ntype = \"forward\"\nclaims = [\"") (joint_name i)
    (codes "/position\"]\n")
    ∙ append_assoc (decimal i) (codes "\"\ntype = \"forward\"\nclaims = [\"") (joint_name i ++ codes "/position\"]\n")))

-- the component with its joints, and the controllers
pub robot_lines_text : {X E : Type 0} (r : Result X E) (t x y z : List ℕ)
    → x ≡ t ++ codes "[[component]]\nname = \"sys\"\nkind = \"system\"\n" → y ≡ x ++ of_each joint_lines
    → OnOk r (z ≡ y ++ of_each controller_lines) → OnOk r (z ≡ t ++ robot_lines)
unfolding robot_lines
robot_lines_text (Err e) t x y z first second third = tt
robot_lines_text (Ok made) t x y z first second third =
    three t (codes "[[component]]\nname = \"sys\"\nkind = \"system\"\n") (of_each joint_lines)
    (of_each controller_lines) x y z first second third

-- the description
pub running_text : {X E : Type 0} (r : Result X E) (t x y z : List ℕ) (m : ℕ)
    → x ≡ t ++ codes "version = 1\nupdate_rate = 100\ncycles = " → y ≡ x ++ (decimal m ++ codes "\n")
    → OnOk r (z ≡ y ++ robot_lines)
    → OnOk r (z ≡ t ++ running m)
running_text (Err e) t x y z m first second third = tt
running_text (Ok made) t x y z m first second third =
    three t (codes "version = 1\nupdate_rate = 100\ncycles = ") (decimal m ++ codes "\n") robot_lines x y z first second
    third

-- the lines before the rounds
pub opening_text : (t w x y z : List ℕ) → w ≡ t ++ codes "session a\n" → x ≡ w ++ of_each (line_each (codes "load"))
    → y ≡ x ++ of_each (line_each (codes "configure")) → z ≡ y ++ first_switch → z ≡ t ++ opening_lines
unfolding opening_lines
opening_text t w x y z first second third fourth =
    three w (of_each (line_each (codes "load"))) (of_each (line_each (codes "configure"))) first_switch x y z second
    third fourth
    ∙ ap (λ u. u ++ (of_each (line_each (codes "load")) ++ (of_each (line_each (codes "configure")) ++ first_switch)))
    first
    ∙ append_assoc t (codes "session a\n") _
    ∙ ap (λ u. t ++ (codes "session a\n" ++ u))
    (sym (append_assoc (of_each (line_each (codes "load"))) (of_each (line_each (codes "configure"))) first_switch))
