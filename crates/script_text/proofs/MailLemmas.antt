-- Values and points, read one by one from the front.
use Rattle.std.proofs.Common.{◌≡◌, ℕ, true, false, List, [], ◌∷◌, ◌++◌, Option}
use Rattle.std.proofs.Common.{Some, None, ℤ, refl, ap, append_assoc, append-nil}
use Rattle.cm_document.specs.LineGrammar.{in_front, all_words, value_word, values_in, is_time}
use Rattle.cm_document.specs.LineGrammar.{untimed, timed, time_word, point_at, later, points_after}
use Rattle.cm_document.specs.declared.call.Point2.{Point2}
use Rattle.script_text.specs.FewWords.{one_or_more}

-- what was found, and then what is still to come
abbrev pub found_before : {A : Type 0} → List A → Option (List A) → Option (List A)
found_before found None = None
found_before found (Some more) = Some (found ++ more)

-- nothing was found yet
pub found_before_none : {A : Type 0} (rest : Option (List A)) → found_before [] rest ≡ rest
found_before_none None = refl
found_before_none (Some more) = refl

-- one more was found
found_before_more : {A : Type 0} (found : List A) (x : A) (rest : Option (List A))
    → found_before (found ++ x ∷ []) rest ≡ found_before found (in_front (Some x) rest)
found_before_more found x None = refl
found_before_more found x (Some more) = ap Some (append_assoc found (x ∷ []) more)

-- nothing is to come
found_before_end : {A : Type 0} (found : List A) → found_before found (Some []) ≡ Some found
found_before_end found = ap Some (append-nil found)

-- ---- Values

-- a word that is a value
pub values_next : (found : List ℤ) (words : List (List ℕ)) (w : List ℕ) (ws : List (List ℕ)) (x : ℤ) → words ≡ w ∷ ws
    → value_word w ≡ Some x
    → found_before (found ++ x ∷ []) (all_words value_word ws) ≡ found_before found (all_words value_word words)
values_next found words w ws x cut is = rw (cut, is) (found_before_more found x (all_words value_word ws))

-- a word that is none
pub values_bad : (found : List ℤ) (words : List (List ℕ)) (w : List ℕ) (ws : List (List ℕ)) → words ≡ w ∷ ws
    → value_word w ≡ None
    → found_before found (all_words value_word words) ≡ None
values_bad found words w ws cut is = rw (cut, is) refl

-- no word is left
pub values_end : (found : List ℤ) (words : List (List ℕ)) → words ≡ []
    → found_before found (all_words value_word words) ≡ Some found
values_end found words cut = rw cut (found_before_end found)

-- a time ends the values
pub untimed_end : (words : List (List ℕ)) (w : List ℕ) (ws : List (List ℕ)) → words ≡ w ∷ ws → is_time w ≡ true
    → untimed words ≡ []
untimed_end words w ws cut at = rw (cut, at) refl

-- another word is one of them
pub untimed_next : (words : List (List ℕ)) (w : List ℕ) (ws : List (List ℕ)) → words ≡ w ∷ ws → is_time w ≡ false
    → untimed words ≡ w ∷ untimed ws
untimed_next words w ws cut at = rw (cut, at) refl

-- and the end of the words ends them
pub untimed_none : (words : List (List ℕ)) → words ≡ [] → untimed words ≡ []
untimed_none words cut = rw cut refl

pub ruleset values_so_far =
    (found_before_none, values_next, values_bad, values_end, untimed_end, untimed_next, untimed_none)

-- something in front is one at least
one_or_more_in_front : {A : Type 0} (x : Option A) (xs : Option (List A)) → in_front x xs ≡ one_or_more (in_front x xs)
one_or_more_in_front None xs = refl
one_or_more_in_front (Some x) None = refl
one_or_more_in_front (Some x) (Some xs) = refl

-- values are what all words are, where there is one at least
pub values_in_words : (words : List (List ℕ)) → values_in words ≡ one_or_more (all_words value_word words)
values_in_words [] = refl
values_in_words (w ∷ ws) = one_or_more_in_front (value_word w) (all_words value_word ws)

-- ---- Points

-- a time with its values
pub points_next : (found : List Point2) (before : ℕ) (words : List (List ℕ)) (w : List ℕ) (ws : List (List ℕ))
    (p : Point2) → words ≡ w ∷ ws → is_time w ≡ true
    → later before (point_at (time_word w) (values_in (untimed ws))) ≡ Some p
    → found_before (found ++ p ∷ []) (points_after p.at_us (timed ws))
    ≡ found_before found (points_after before (timed words))
points_next found before words w ws p cut at is =
    rw (cut, at) (rw is (found_before_more found p (points_after p.at_us (timed ws))))

-- a time without a point of its own
pub points_bad : (found : List Point2) (before : ℕ) (words : List (List ℕ)) (w : List ℕ) (ws : List (List ℕ))
    → words ≡ w ∷ ws → is_time w ≡ true
    → later before (point_at (time_word w) (values_in (untimed ws))) ≡ None
    → found_before found (points_after before (timed words)) ≡ None
points_bad found before words w ws cut at is = rw (cut, at) (rw is refl)

-- a value was read with its time
pub timed_skip : (words : List (List ℕ)) (w : List ℕ) (ws : List (List ℕ)) → words ≡ w ∷ ws → is_time w ≡ false
    → timed words ≡ timed ws
timed_skip words w ws cut at = rw (cut, at) refl

-- no word is left
pub points_end : (found : List Point2) (before : ℕ) (words : List (List ℕ)) → words ≡ []
    → found_before found (points_after before (timed words)) ≡ Some found
points_end found before words cut = rw cut (found_before_end found)

pub ruleset points_so_far = (found_before_none, points_next, points_bad, timed_skip, points_end)
