-- The opening of a made run: all controllers are loaded, configured and started.
use Rattle.std.proofs.Common.{◌≡◌, ℕ, zero, suc, ◌<◌, List, [], ◌∷◌, ◌++◌, Some, None, refl, sym, ap, ◌∙◌, inl, inr}
use Rattle.std.specs.Fmt.{digits}
use Rattle.fixed_num.specs.declared.value.Value.{Value}
use Rattle.fixed_num.specs.declared.value.Value.TheVariants.{Unset}
use Rattle.cm_document.proofs.ReadingLemmas.{cases_Option}
use Rattle.cm_document.specs.declared.call.Call.{Call}
use Rattle.cm_document.specs.declared.description.CtlKind.TheVariants as kind
use Rattle.cm_document.specs.declared.description.Params.TheVariants as params
use Rattle.cm_model.proofs.AdvanceLemmas.{settle-next, settle-stays}
use Rattle.cm_model.specs.BestEffort.{stays_within}
use Rattle.cm_model.specs.Boundary.{concluded, all_concluded, boundary, decisions_between}
use Rattle.cm_model.specs.Commit.{commit}
use Rattle.cm_model.specs.Cycle.{reaches, begun}
use Rattle.cm_model.specs.Machine.{step}
use Rattle.cm_model.specs.Order.{rank_within}
use Rattle.cm_model.specs.Scheduled.{Advanced, advance, advances, settle, with_cycle}
use Rattle.cm_model.specs.State.{State, Loaded, boot}
use Rattle.cm_model.specs.declared.cause.Outcome.TheVariants as outcome
use Rattle.cm_model.specs.declared.request.Request.{Request}
use Rattle.cm_model.specs.declared.request.Request.TheVariants as request
use Rattle.make_document.specs.Made.{all_below, controller_name}
use Rattle.make_document.specs.Meant.{robot_meant, strictly, opening_calls}
use Rattle.made_laws.specs.Runs.{stocked}
use Rattle.made_laws.proofs.AskedLemmas.{with_request, with_done}
use Rattle.made_laws.proofs.CountingLemmas.{one_adds}
use Rattle.made_laws.proofs.CycleLemmas.{cycle_on}
use Rattle.made_laws.proofs.FlightLemmas.{stage, begun_is, Flies}
use Rattle.made_laws.proofs.SessionLemmas.{ready, waits, point, Settles}
use Rattle.made_laws.proofs.StageLemmas.{IsToBeTold}
use Rattle.made_laws.proofs.Standing.{running, eight, Held, held_in, Asked, between, plain_cycle}

-- a controller that is configured
abbrev configured : ℕ → Loaded
configured i = record {
  serial = i;
  place = i;
  rate = 0;
  divisor = Some 1;
  ctl = record { kind = kind.Forward; params = Some (params.Forward 1); run = None };
  mail = None;
}

-- each holds no value when it was started
abbrev unset_each : ℕ → List Value
unset_each i = Unset ∷ []

-- nothing was asked
abbrev nothing_asked : Asked
nothing_asked = record { requests = []; outcomes = [] }

-- all are to be started
abbrev all_start : Request
all_start = request.Switch (strictly [] (all_below (λ i. controller_name i ∷ []) 8))

abbrev pub at_boot : ℕ → State
at_boot cycles = boot (robot_meant cycles) stocked 1

-- to advance some times and then to settle is to settle
settle_after : (k who : ℕ) (a : Advanced) → settle who (advances k who a) ≡ settle who a
settle_after zero who a = refl
settle_after (suc k) who a = elim (cases_Option (advance who a)) [
  | inl none ↦ rw (none, advances) refl
  | inr (next, some) ↦ rw (some, advances) (settle_after k who next ∙ settle-next who a next some)
]

-- before the first cycle the session makes its 17 calls
opened : (cycles : ℕ) (lines : List Call)
    → Settles cycles 0 (point (at_boot cycles) [] (ready (opening_calls ++ lines)))
    (between cycles (eight configured) (held_in (at_boot cycles)) (with_request nothing_asked all_start) 0)
    (waits 0 lines) 17 0 0
unfolding opening_calls step advance digits
opened cycles lines =
    let a : Advanced = point (at_boot cycles) [] (ready (opening_calls ++ lines)) in
    let b : Advanced =
    point (between cycles (eight configured) (held_in (at_boot cycles)) (with_request nothing_asked all_start) 0)
    (advances 17 0 a).made (waits 0 lines) in
    let reached : advances 17 0 a ≡ b = refl in
    let stands : advance 0 b ≡ None = refl in
    record {
      made = (advances 17 0 a).made;
      is = sym (settle_after 17 0 a) ∙ ap (settle 0) reached ∙ settle-stays 0 b stands;
      counts = record {
        of_cycles = refl;
        of_entries = refl;
        of_updates = refl;
        of_done = refl;
        none_refused = refl;
        none_ended =
            refl;
      };
    }

-- all are started, and updated
opening_flies : (cycles : ℕ)
    → Flies cycles 0 (eight configured) (held_in (at_boot cycles)) (with_request nothing_asked all_start)
    (eight (running unset_each)) (with_done (with_request nothing_asked all_start)) 8 1
unfolding all_concluded commit rank_within stays_within reaches digits
opening_flies cycles =
    let s : State =
    between cycles (eight configured) (held_in (at_boot cycles)) (with_request nothing_asked all_start) 0 in
    let told : Asked = with_done (with_request nothing_asked all_start) in
    let h₁ : Held = held_in (concluded s all_start).state in
    let s₁ : State = between cycles (eight (running unset_each)) h₁ told 0 in
    let decided : boundary s ≡ s₁ = refl in
    record {
      flying = eight (running unset_each);
      holding = h₁;
      mails = [];
      decisions = record { ticket = Some 0; outcome = outcome.Done [] } ∷ [];
      begins = ap begun decided ∙ begun_is s₁ (refl, (refl, (refl, (refl, (refl, (refl, (refl, (refl, tt))))))));
      tells = ap (decisions_between s) decided;
      adds = one_adds 0;
      ends = plain_cycle cycles 0 unset_each h₁ told;
    }

-- the first cycle
pub opening_stage : (cycles : ℕ) (lines : List Call) → 0 < cycles
    → IsToBeTold cycles 1 0 running lines 19 8 1
    (with_cycle 0 (stage (at_boot cycles) [] (ready (opening_calls ++ lines))))
opening_stage cycles lines more = record {
  held = unset_each;
  asked = nothing_asked;
  last = all_start;
  are = record { requests = refl; outcomes = refl };
  stands = cycle_on cycles 0 (at_boot cycles) [] (ready (opening_calls ++ lines)) (waits 0 lines) (eight configured)
      (held_in (at_boot cycles)) (with_request nothing_asked all_start)
      (eight (running unset_each)) (with_done (with_request nothing_asked all_start)) 17 0 0 8 1 more
      (opened cycles lines) (opening_flies cycles);
}
