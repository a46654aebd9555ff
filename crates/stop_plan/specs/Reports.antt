-- What is read off the report of a cycle.
use Rattle.std.specs.Prelude.{◌≡◌, ℕ, ◌<◌, ◌==◌, Bool, ◌&&◌, ◌||◌, List, length}
use Rattle.std.specs.List.{All, list_any}
use Rattle.cm_model.specs.Order.{Places}
use Rattle.cm_model.specs.Switches.{differ}
use Rattle.cm_model.specs.declared.member.Member.{Member}
use Rattle.chain_order.specs.Links.{linked}
use Rattle.stop_plan.specs.declared.report.Report.{Report}

-- how many controllers are described
abbrev pub count_in : Report → ℕ
count_in r = length r.relations.now.leaders

-- each described controller has its relations, and each active one is described
pub record IsReport (r : Report) : Type 0 where
  pub followers : length r.relations.now.followers ≡ count_in r
  pub components : length r.relations.now.components ≡ count_in r
  pub within : All (λ m. m.place < count_in r) r.order.now

-- the component at this place failed
abbrev pub has_failed_in : Report → ℕ → Bool
has_failed_in r k = list_any (λ part. part.place == k) r.failed.now

-- the update of the controller of this serial failed
abbrev pub has_erred_in : Report → ℕ → Bool
has_erred_in r serial = list_any (λ n. n == serial) r.erred.now

-- a controller was struck: a component of it failed, or its update did
abbrev pub is_struck_in : Report → Member → Bool
is_struck_in r m = list_any (has_failed_in r) (linked r.relations.now.components m.place) || has_erred_in r m.serial

-- the places of these controllers, where they pass the test
abbrev pub places_where : (Member → Bool) → List Member → Places
places_where test ms p = list_any (λ m. m.place == p && test m) ms

-- a controller is chained by a set: one that precedes it is a member
abbrev pub is_chained_by : List (List ℕ) → Places → ℕ → Bool
is_chained_by leaders set p = list_any set (linked leaders p)

-- its chained mode changes from the one set to the other
abbrev pub changes_mode : List (List ℕ) → Places → Places → ℕ → Bool
changes_mode leaders before after p = differ (is_chained_by leaders before p) (is_chained_by leaders after p)
