-- A switch: how strict it is, and its signed names.
use Rattle.std.specs.Prelude.{ℕ, List, [], ◌∷◌, Option, None}
use Rattle.cm_document.specs.Vocabulary.{listed, strictnesses}
use Rattle.cm_document.specs.LineGrammar.{switch_in}
use Rattle.cm_document.specs.declared.call.SwitchRequest.{SwitchRequest}

-- the switch of these words, the first of which says how strict it is
abbrev pub switch_words : List (List ℕ) → Option SwitchRequest
switch_words [] = None
switch_words (strictness ∷ words) = switch_in (listed strictnesses strictness) words
