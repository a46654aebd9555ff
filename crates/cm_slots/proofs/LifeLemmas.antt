-- What a loaded controller's lifecycle state says of its data.
use Rattle.std.proofs.Common.{◌≡◌, true, false, Option, Some, None, refl, sym, ap, subst, ◌∙◌}
use Rattle.std.specs.Prelude.{not, ◌&&◌, is_some, IsSomeAnd}
use Rattle.cm_document.specs.declared.life.Life.{Life}
use Rattle.cm_document.specs.declared.life.Life.TheVariants.{Unconfigured, Inactive, Active, Finalized}
use Rattle.cm_document.specs.declared.description.Params.{Params}
use Rattle.cm_model.specs.Console.{is_inactive}
use Rattle.cm_model.specs.Controllers.{IsIdle}
use Rattle.cm_model.specs.Scene.{is_running, is_configured}
use Rattle.cm_model.specs.State.{Loaded, life_of}
use Rattle.cm_model.specs.declared.data.CtlData.{CtlData}
use Rattle.cm_model.specs.declared.data.RunData.{RunData}
use Rattle.cm_slots.specs.Lives.{IsIn, IsKept}

pub some_is : {A : Type 0} (P : A → Type 0) (o : Option A) → IsSomeAnd o P → is_some o ≡ true
some_is P None h = absurd h
some_is P (Some x) h = refl

-- what is not there is none
pub none_is : {A : Type 0} (o : Option A) → is_some o ≡ false → o ≡ None
none_is None e = refl
none_is (Some x) e = cc

there_is : {A : Type 0} (o : Option A) → is_some o ≡ true → IsSomeAnd o (λ x. Unit {0})
there_is None e = cc
there_is (Some x) e = tt

-- it runs exactly in the state that is so
pub active_in : (life : Life) (ctl : CtlData) → IsIn life ctl → is_running life ≡ is_some ctl.run
active_in Unconfigured ctl h = sym (ap (λ c. is_some c.run) h)
active_in Inactive ctl h = sym (ap is_some h.idle)
active_in Active ctl h = sym (some_is (λ r. Unit {0}) ctl.run h.running)
active_in Finalized ctl h = absurd h

-- it has parameters exactly in those that are so
configured_is : (life : Life) (ctl : CtlData) → IsIn life ctl → is_configured life ≡ is_some ctl.params
configured_is Unconfigured ctl h = sym (ap (λ c. is_some c.params) h)
configured_is Inactive ctl h = sym (some_is (λ p. Unit {0}) ctl.params h.configured)
configured_is Active ctl h = sym (some_is (λ p. Unit {0}) ctl.params h.configured)
configured_is Finalized ctl h = absurd h

pub active_is : (life : Life) (ctl : CtlData) → IsKept life ctl → is_running life ≡ is_some ctl.run
active_is life ctl h = active_in life ctl h.state

-- so it is inactive in that state alone
pub inactive_is : (life : Life) (ctl : CtlData) → IsKept life ctl
    → (is_configured life && not (is_running life)) ≡ (is_some ctl.params && not (is_some ctl.run))
inactive_is life ctl h = rw (configured_is life ctl h.state, active_in life ctl h.state) refl

life_from : (params : Option Params) (r : Option RunData) (kind : _) (life : Life) → is_configured life ≡ is_some params
    → is_running life ≡ is_some r → (life ≡ Finalized → ⊥)
    → life ≡ life_of (record { kind = kind; params = params; run = r })
life_from None None kind Unconfigured c a f = refl
life_from None (Some x) kind Unconfigured c a f = cc
life_from (Some p) r kind Unconfigured c a f = cc
life_from None r kind Inactive c a f = cc
life_from (Some p) None kind Inactive c a f = refl
life_from (Some p) (Some x) kind Inactive c a f = cc
life_from None r kind Active c a f = cc
life_from (Some p) None kind Active c a f = cc
life_from (Some p) (Some x) kind Active c a f = refl
life_from params r kind Finalized c a f = absurd (f refl)

not_final : (life : Life) (ctl : CtlData) → IsIn life ctl → life ≡ Finalized → ⊥
not_final Unconfigured ctl h e = cc
not_final Inactive ctl h e = cc
not_final Active ctl h e = cc
not_final Finalized ctl h e = h

-- and the state is that of its data
pub life_is : (life : Life) (ctl : CtlData) → IsKept life ctl → life ≡ life_of ctl
life_is life ctl h =
    life_from ctl.params ctl.run ctl.kind life (configured_is life ctl h.state) (active_in life ctl h.state)
    (not_final life ctl h.state)

idle_from : (ctl : CtlData) (p : Option Params) (r : Option RunData) → ctl.params ≡ p → ctl.run ≡ r
    → (is_some p && not (is_some r)) ≡ true → IsIdle ctl
idle_from ctl None r params run e = cc
idle_from ctl (Some p) None params run e = record { configured = rw params tt; idle = run }
idle_from ctl (Some p) (Some r) params run e = cc

-- what is found inactive is so
pub idle_where_inactive : (l : Loaded) → is_inactive l ≡ true → IsIdle l.ctl
idle_where_inactive l e = idle_from l.ctl l.ctl.params l.ctl.run refl refl e

-- what runs is in the state that is so
pub kept_where_active : (life : Life) (ctl : CtlData) → IsKept life ctl → is_some ctl.run ≡ true → IsKept Active ctl
kept_where_active life ctl h runs =
    subst (λ (l : Life). IsKept l ctl) (active_where life (active_in life ctl h.state ∙ runs)) h
  where
    active_where : (l : Life) → is_running l ≡ true → l ≡ Active
    active_where Unconfigured e = cc
    active_where Inactive e = cc
    active_where Active e = refl
    active_where Finalized e = cc
