use Rattle.cm_resources.proofs.CommitLemmas.{can_connected, can_hold, can_show, can_claim}
use Rattle.cm_resources.proofs.CommitLemmas.{can_export, still_place, has_committed}
use Rattle.cm_resources.proofs.commits.commit.Goals as goal

pub commit-requires : goal.commit-requires
commit-requires g c = record {
  home = c.requires.down;
  connected = can_connected _ _ _ _ _ _ _ _ _ _ _ c.requires.can.3;
  has_room = can_hold _ _ _ _ _ _ _ _ _ _ _ c.requires.can.3;
}

-- the places stay
pub look-requires : goal.look-requires
look-requires g c =
    let p = c.requires.can in
    rw (c.as_slice.ensures)
    (still_place _ _ _ _ _ _ _ _ _ _ _ p.3 c.commit.new.self.loaded
    (c.commit.ensures.committed p.0 p.1 p.2 p.3.valid p.3.placed (can_show _ _ _ _ _ _ _ _ _ _ _ p.3) p.3.loaded
    p.3.told))

pub commit-requires-2-clause-claimers : goal.commit-requires-2-clause-claimers
commit-requires-2-clause-claimers g c = can_claim _ _ _ _ _ _ _ _ _ _ _ c.requires.can.3

pub commit-requires-2-clause-exporters : goal.commit-requires-2-clause-exporters
commit-requires-2-clause-exporters g c = can_export _ _ _ _ _ _ _ _ _ _ _ c.requires.can.3

-- the controllers are those after the commit, and so all goes by it
pub returns-clause-committed : goal.returns-clause-committed
returns-clause-committed g c = λ s set again can.
    let slots = c.commit.ensures.committed s set again can.valid can.placed (can_show _ _ _ _ _ _ _ _ _ _ _ can)
    can.loaded can.told in
    has_committed _ _ _ _ _ _ _ _ _ _ _ can c.commit.new.self.loaded c.commit-2.new.self c.look.new.self slots
    (rw (c.as_slice.ensures) at c.look.ensures.active) c.look.ensures.stale
    (rw (c.active.ensures) at c.commit-2.ensures.committed)
