-- Worked rows of ends of cycles, by hand: of four controllers the first commands the second and that the third, and the
-- fourth stands alone.
use Rattle.std.proofs.Common.{◌≡◌, ℕ, Bool, true, false, List, [], ◌∷◌, map, refl}
use Rattle.std.specs.Prelude.{◌&&◌, ◌||◌, not}
use Rattle.cm_model.specs.Order.{Places, set_of}
use Rattle.cm_storage.specs.Ran.{Ran}
use Rattle.cm_model.specs.declared.member.Member.{Member}
use Rattle.cm_storage.specs.declared.ran.Done.{Done}
use Rattle.cm_storage.specs.declared.ran.Done.TheVariants as done
use Rattle.chain_order.specs.Links.{linked}
use Rattle.stop_plan.specs.Ending.{erred_in}
use Rattle.stop_plan.specs.Reports.{places_where, is_chained_by, changes_mode}
use Rattle.stop_plan.specs.Settled.{staying}
use Rattle.stop_plan.specs.Spread.{spread}

-- ---- The controllers

at : ℕ → ℕ → Member
at serial place = record { serial = serial; place = place }

-- in the order of their updates: the first and the fourth are preceded by none
order : List Member
order = at 6 0 ∷ at 9 3 ∷ at 2 1 ∷ at 4 2 ∷ []

followers : List (List ℕ)
followers = (1 ∷ []) ∷ (2 ∷ []) ∷ [] ∷ [] ∷ []

leaders : List (List ℕ)
leaders = [] ∷ (0 ∷ []) ∷ (1 ∷ []) ∷ [] ∷ []

all : List Bool
all = true ∷ true ∷ true ∷ true ∷ []

-- a set, as the flags of the four
flags : Places → List Bool
flags set = map set (0 ∷ 1 ∷ 2 ∷ 3 ∷ [])

-- ---- Stops

fallen : List Bool → List Bool
fallen struck = flags (spread (linked followers) order (set_of struck))

-- the last of the chain was struck: all of the chain stop, and the fourth stays
the_last_stops_its_chain : fallen (false ∷ false ∷ true ∷ false ∷ []) ≡ true ∷ true ∷ true ∷ false ∷ []
unfolding at order followers fallen flags
the_last_stops_its_chain = refl

-- the second was: the third goes on
what_follows_goes_on : fallen (false ∷ true ∷ false ∷ false ∷ []) ≡ true ∷ true ∷ false ∷ false ∷ []
unfolding at order followers fallen flags
what_follows_goes_on = refl

-- the fourth was: it stops alone
one_alone : fallen (false ∷ false ∷ false ∷ true ∷ []) ≡ false ∷ false ∷ false ∷ true ∷ []
unfolding at order followers fallen flags
one_alone = refl

-- nobody was
nobody_stops : fallen (false ∷ false ∷ false ∷ false ∷ []) ≡ false ∷ false ∷ false ∷ false ∷ []
unfolding at order followers fallen flags
nobody_stops = refl

-- ---- Restarts

-- where the first two stop, the third is chained no more
last_alone : Places
last_alone = staying order (set_of (true ∷ true ∷ false ∷ false ∷ []))

who_stays : flags last_alone ≡ false ∷ false ∷ true ∷ true ∷ []
unfolding at order flags last_alone
who_stays = refl

chained_before : flags (is_chained_by leaders (set_of all)) ≡ false ∷ true ∷ true ∷ false ∷ []
unfolding leaders all flags
chained_before = refl

chained_after : flags (is_chained_by leaders last_alone) ≡ false ∷ false ∷ false ∷ false ∷ []
unfolding at order leaders flags last_alone
chained_after = refl

-- so it is stopped with them, and it alone is started
stopped_three : flags
    (places_where (λ m. not (last_alone m.place) || changes_mode leaders (set_of all) last_alone m.place) order)
    ≡ true ∷ true ∷ true ∷ false ∷ []
unfolding at order leaders all flags last_alone
stopped_three = refl

started_one : flags
    (places_where (λ m. last_alone m.place && changes_mode leaders (set_of all) last_alone m.place) order)
    ≡ false ∷ false ∷ true ∷ false ∷ []
unfolding at order leaders all flags last_alone
started_one = refl

-- ---- Updates

ran : ℕ → Done → Ran
ran serial end = record { serial = serial; done = end; outs = []; published = [] }

-- of three updates the last two failed
two_erred : erred_in (ran 5 done.Ok ∷ ran 7 done.Error ∷ ran 2 done.Error ∷ []) ≡ 7 ∷ 2 ∷ []
unfolding ran
two_erred = refl
