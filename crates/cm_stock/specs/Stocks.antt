-- Blanks, counted by their kind.
use Rattle.std.specs.Prelude.{◌≡◌, List, [], ◌∷◌, length, map}
use Rattle.std.specs.List.{All}
use Rattle.cm_model.specs.Blanks.{no_blanks, with_one_more, total}
use Rattle.cm_model.specs.Controllers.{IsBlank}
use Rattle.cm_model.specs.declared.blanks.Blanks.{Blanks}
use Rattle.cm_model.specs.declared.data.CtlData.{CtlData}

-- these blanks and one more for each of the controllers
abbrev pub with_each : Blanks → List CtlData → Blanks
with_each b [] = b
with_each b (ctl ∷ ctls) = with_each (with_one_more b ctl.kind) ctls

-- how many of each kind these controllers are
abbrev pub counts_of : List CtlData → Blanks
counts_of ctls = with_each no_blanks ctls

-- These boxes are blank, and so many of each kind as this says.
pub record AreBlanks {C : Type 0} (meaning : C → CtlData) (boxes : List C) (b : Blanks) : Type 0 where
  pub blank : All (λ c. IsBlank (meaning c)) boxes
  pub counted : counts_of (map meaning boxes) ≡ b
  pub number : length boxes ≡ total b
