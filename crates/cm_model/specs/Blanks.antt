-- The stock of blank controllers, counted by their kind.
use Rattle.std.specs.Prelude.{ℕ, ◌+◌, ◌-◌, if◌then◌else◌, map, slice_index, sum_by}
use Rattle.cm_document.specs.Params.{same_controller_kind}
use Rattle.cm_document.specs.Vocabulary.{place_of}
use Rattle.cm_document.specs.declared.description.CtlKind.{CtlKind}
use Rattle.cm_document.specs.declared.description.TheConstants.{CONTROLLER_KINDS}
use Rattle.cm_model.specs.declared.blanks.Blanks.{Blanks}

-- ---- A number at the place of each kind

-- how many blanks of a kind are left
abbrev pub blanks_of : Blanks → CtlKind → ℕ
blanks_of blanks kind = slice_index blanks (place_of kind)

-- as many of each kind as this says
abbrev pub counted_by : (CtlKind → ℕ) → Blanks
counted_by count = map (λ row. count row.1) CONTROLLER_KINDS

-- ---- What is read off

-- how many blanks there are of all kinds together
abbrev pub total : Blanks → ℕ
total blanks = sum_by (λ row. blanks_of blanks row.1) CONTROLLER_KINDS

-- so many of each kind
abbrev pub blanks_of_each : ℕ → Blanks
blanks_of_each n = counted_by (λ kind. n)

-- no blank of any kind
abbrev pub no_blanks : Blanks
no_blanks = blanks_of_each 0

-- the same blanks, but so many of this kind
abbrev pub with_count : Blanks → CtlKind → ℕ → Blanks
with_count blanks kind n =
    counted_by (λ other. if same_controller_kind other kind then n else blanks_of blanks other)

-- the blanks after one of this kind was taken
abbrev pub with_one_less : Blanks → CtlKind → Blanks
with_one_less blanks kind = with_count blanks kind (blanks_of blanks kind - 1)

-- and with one more of it
abbrev pub with_one_more : Blanks → CtlKind → Blanks
with_one_more blanks kind = with_count blanks kind (blanks_of blanks kind + 1)
