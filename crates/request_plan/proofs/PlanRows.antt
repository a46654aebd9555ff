-- Worked rows of what is seen after an act, computed from the definitions alone: what is written down here is by hand.
use Rattle.std.proofs.Common.{◌≡◌, true, false, [], ◌∷◌, refl}
use Rattle.cm_document.specs.declared.life.Life.TheVariants.{Inactive, Active, Finalized}
use Rattle.cm_model.specs.declared.seen.Seen.{Seen}
use Rattle.request_plan.specs.Acts.{loaded_after, lives_after}
use Rattle.request_plan.specs.Situations.{of_serials, running}
use Rattle.request_plan.specs.declared.acts.Act.TheVariants as act
use Rattle.request_plan.specs.declared.acts.Switched.{Switched}

-- ---- Two controllers, the second above the first

abbrev below : Seen
below = record { serial = 4; place = 0; life = Active; chained = false; ready = true }

abbrev above : Seen
above = record { serial = 7; place = 1; life = Inactive; chained = false; ready = true }

-- the second comes, and the first restarts, for it is chained then
abbrev comes : Switched
comes = record
    { set = true ∷ true ∷ []; stopped = true ∷ false ∷ []; started = true ∷ true ∷ []; chained = true ∷ false ∷ [] }

-- both leave
abbrev both_leave : Switched
both_leave =
    record {
      set = false ∷ false ∷ [];
      stopped = true ∷ true ∷ [];
      started = false ∷ false ∷ [];
      chained =
          false ∷ false ∷ [];
    }

-- ---- Rows

after_it_comes : loaded_after (act.Switch comes) (below ∷ above ∷ [])
    ≡ record { serial = 4; place = 0; life = Active; chained = true; ready = true }
    ∷ record { serial = 7; place = 1; life = Active; chained = false; ready = true } ∷ []
after_it_comes = refl

after_both_left : loaded_after (act.Switch both_leave)
    (record below { chained = true } ∷ record above { life = Active } ∷ [])
    ≡ record { serial = 4; place = 0; life = Inactive; chained = false; ready = true } ∷ above ∷ []
after_both_left = refl

after_a_move : (lives_after (act.Move 1 Finalized) (Active ∷ Inactive ∷ []) ≡ Active ∷ Finalized ∷ [])
    × (loaded_after (act.Move 1 Finalized) (below ∷ []) ≡ below ∷ [])
after_a_move = (refl, refl)

-- a set by serials is one of places
by_serial : (of_serials (below ∷ above ∷ []) (7 ∷ []) 1 ≡ true) × (of_serials (below ∷ above ∷ []) (7 ∷ []) 0 ≡ false)
    × (running (below ∷ above ∷ []) 0 ≡ true)
    × (running (below ∷ above ∷ []) 1 ≡ false)
by_serial = (refl, refl, refl, refl)
