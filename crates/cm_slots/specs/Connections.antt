-- Where a loaded controller stands to the board: by the places of what it reads, of its references and of its claims.
use Rattle.std.specs.Prelude.{◌≡◌, ℕ, ℤ, ◌<◌, ◌≤◌, ◌^◌, List, length, map, IfSome, All}
use Rattle.fixed_num.specs.declared.value.Value.{Value}
use Rattle.cm_document.specs.Places.{interfaces_of}
use Rattle.cm_document.specs.declared.description.Description.{Description}
use Rattle.cm_document.specs.declared.limits.TheConstants.{MOST_STATES}
use Rattle.cm_model.specs.Claims.{number_in}
use Rattle.cm_model.specs.Controllers.{AreItsCounts}
use Rattle.cm_model.specs.State.{Loaded}
use Rattle.cm_model.specs.Values.{InterfaceValue}
use Rattle.loan_board.specs.Loans.{loan_at}
use Rattle.loan_board.specs.declared.board.Loan.{Loan}
use Rattle.chain_order.specs.Links.{linked}
use Rattle.cm_places.specs.Placed.{Placed, value_at}

-- ---- What stands at places of the board

-- what the board holds at these places
abbrev pub held_at : List Loan → List ℕ → List Value
held_at loans row = map (λ place. (loan_at loans place).value) row

-- the numbers there
abbrev pub numbers_at : List Loan → List ℕ → List ℤ
numbers_at loans row = map (λ place. number_in (loan_at loans place).value) row

-- The board holds these values of the interfaces, each at its place, and they are as described.
pub record IsShownOn (loans : List Loan) (d : Description) (values : List InterfaceValue) : Type 0 where
  pub held : (place : ℕ) → (loan_at loans place).value ≡ value_at values place
  pub described : map (λ v. v.interface) values ≡ interfaces_of d

-- ---- Connections

-- It is one of the controllers whose interfaces have places, each on a board of so many; it claims and reads fewer than
-- 256 each; and where it is configured, it has as many of each as its parameters say.
pub record IsConnected (placed : Placed) (board : ℕ) (l : Loaded) : Type 0 where
  pub few : l.place < 2 ^ 32
  pub few_reads : length (linked placed.reads l.place) < 2 ^ 8
  pub few_claims : length (linked placed.claims l.place) < 2 ^ 8
  pub reads : l.place < length placed.reads
  pub references : l.place < length placed.references
  pub claims : l.place < length placed.claims
  pub read_there : All (λ place. place < board) (linked placed.reads l.place)
  pub referred_there : All (λ place. place < board) (linked placed.references l.place)
  pub claimed_there : All (λ place. place < board) (linked placed.claims l.place)
  pub counts : IfSome l.ctl.params (λ params. AreItsCounts params
      (length (linked placed.reads l.place)) (length (linked placed.references l.place))
      (length (linked placed.claims l.place)))

-- how many states a controller of a valid description reads at most
abbrev pub widest : ℕ
widest = MOST_STATES

-- there is room for those that this controller reads
abbrev pub HasRoom : Placed → ℕ → Loaded → Type 0
HasRoom placed room l = length (linked placed.reads l.place) ≤ room
