-- The line of an end of a cycle of which bodies alone are told. While they stand it is that of the cycle before, but
-- for the number.
use Rattle.std.specs.Prelude.{◌≡◌, ℕ, List, [], ◌++◌, codes, decimal, length}
use Rattle.fixed_num.specs.declared.value.BodyState.{BodyState}
use Rattle.cm_model.specs.Items.{Names, body_texts}
use Rattle.cm_model.specs.Trace.{joined}
use Rattle.cm_model.specs.declared.reply.Reply.{Reply}
use Rattle.cm_model.specs.declared.reply.Reply.TheVariants as reply

-- What stands for each number in such a line, and its bytes.
pub record StandingFacts : Type 0 where
  pub names : Names
  pub text : List ℕ

-- the end of a cycle, as it is called
abbrev pub end_call : ℕ → List ℕ
end_call cycle = codes "loop end " ++ decimal cycle

-- what stands behind it, where these bodies alone are told
abbrev pub standing_end : Names → List BodyState → List ℕ
standing_end names bodies = codes ": " ++ joined (body_texts names 0 bodies) ++ codes "\n"

-- the line, as `loop end 7: joint j1 0.000000 0.000000 0.000000`
abbrev pub standing_text : Names → ℕ → List BodyState → List ℕ
standing_text names cycle bodies = end_call cycle ++ standing_end names bodies

-- it is the line of this cycle of which these bodies are told, and the number ends at this place
pub record IsStanding (names : Names) (cycle : ℕ) (bodies : List BodyState) (head : ℕ) (line : List ℕ) : Type 0 where
  pub text : line ≡ standing_text names cycle bodies
  pub place : head ≡ length (end_call cycle)

-- the bodies that a reply tells
abbrev pub bodies_of : Reply → List BodyState
bodies_of (reply.Cycle happened) = happened.bodies
bodies_of _ = []
