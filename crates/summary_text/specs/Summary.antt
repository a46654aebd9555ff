-- The summary of a history: a function of the description and the history alone.
use Rattle.std.specs.Prelude.{ℕ, ℤ, suc, ◌+◌, List, [], ◌∷◌, ◌++◌, flat_map, codes, decimal, slice_get, option_map}
use Rattle.std.specs.Prelude.{unwrap_or}
use Rattle.fixed_num.specs.Text.{spelled}
use Rattle.fixed_num.specs.declared.value.BodyState.{BodyState}
use Rattle.cm_document.specs.Links.{joints_of}
use Rattle.cm_document.specs.declared.description.Description.{Description}
use Rattle.cm_document.specs.declared.description.JointDesc.{JointDesc}
use Rattle.cm_model.specs.declared.entry.Entry.{Entry}
use Rattle.summary_text.specs.Counted.{Counted, counted}

-- ---- Counts

-- a count behind its word
abbrev pub number_line : List ℕ → ℕ → List ℕ
number_line word n = word ++ codes " " ++ decimal n ++ codes "\n"

-- how many requests were decided, and how they ended
abbrev pub asks_line : Counted → List ℕ
asks_line c =
    codes "asks " ++ decimal (c.done + c.refused + c.ended) ++ codes " done " ++ decimal c.done
    ++ codes " refused " ++ decimal c.refused ++ codes " ended " ++ decimal c.ended ++ codes "\n"

-- all counts
abbrev pub count_lines : Counted → List (List ℕ)
count_lines c =
    number_line (codes "cycles") c.cycles
    ∷ number_line (codes "entries") c.entries
    ∷ number_line (codes "updates") c.updates
    ∷ asks_line c ∷ []

-- ---- Joints

-- where a joint is: the position of the body at its place, or as described where there is none
abbrev pub position_at : List BodyState → ℕ → JointDesc → ℤ
position_at bodies place joint = unwrap_or (option_map (λ body. body.x) (slice_get bodies place)) joint.position

-- a joint and where it is
abbrev pub joint_line : List BodyState → ℕ → JointDesc → List ℕ
joint_line bodies place joint =
    codes "joint " ++ joint.name ++ codes " " ++ spelled (position_at bodies place joint) ++ codes "\n"

-- the joints from this place on
abbrev pub joint_lines : List BodyState → ℕ → List JointDesc → List (List ℕ)
joint_lines bodies place [] = []
joint_lines bodies place (joint ∷ joints) = joint_line bodies place joint ∷ joint_lines bodies (suc place) joints

-- ---- The summary

-- the lines that tell what was counted
abbrev pub lines_of : Description → Counted → List (List ℕ)
lines_of d c = count_lines c ++ joint_lines c.bodies 0 (joints_of d.components)

-- the summary of a history
unfoldable pub summary : Description → List Entry → List ℕ
summary d history = flat_map (λ line. line) (lines_of d (counted history))
