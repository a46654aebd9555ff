-- One advance over the desk's console, one session of a loop over all, and the turns of a schedule.
use Rattle.std.proofs.Common.{◌≡◌, ℕ, suc, ◌+◌, ◌<◌, List, [], ◌∷◌, length, get_or, map, take}
use Rattle.std.proofs.Common.{drop, slice_get, slice_set, option_map, Some, None, refl, sym, ap}
use Rattle.std.proofs.Common.{subst, ◌∙◌, arith, drop-cons, take-suc-set, drop-set-lt}
use Rattle.std.proofs.lemmas.Option.{same_Some, slice_get-get_or, slice_get-map}
use Rattle.std.proofs.lemmas.List.{map-append, map-set, set-get_or}
use Rattle.cm_document.specs.declared.script.Turn.{Turn}
use Rattle.cm_document.specs.declared.script.Turn.TheVariants.{Step}
use Rattle.cm_model.specs.Scheduled.{Advanced, Progress, advance, settle, settle_from}
use Rattle.cm_model.specs.Scheduled.{turned, turns, with_cycle, cycles_from}
use Rattle.cm_model.specs.State.{State}
use Rattle.cm_model.specs.Ports.{Console}
use Rattle.cm_model.proofs.AdvanceLemmas.{settle-next, settle-stays}
use Rattle.cm_model.specs.declared.entry.Entry.{Entry}
use Rattle.cm_desk.specs.Desk.{History, now_of, IsAloftAlike}
use Rattle.console_session.specs.Sessions.{SessionState, left_of, Advances, AdvancesAsWritten}
use Rattle.console_session.specs.declared.session.Progress.{Progress as CameTo}
use Rattle.console_session.specs.declared.session.Progress.TheVariants as progress
use Rattle.desk_turns.specs.Jobs.{at, progress_of}
use Rattle.desk_turns.specs.Ports.{DeskGround, desk_console, ground_of}

-- ---- One advance

same_advanced : (s s' : State) (made made' : List Entry) (x : SessionState) → s ≡ s' → made ≡ made'
    → ◌≡◌ {A = Advanced} (record { state = s; made = made; session = left_of x })
    (record { state = s'; made = made'; session = left_of x })
same_advanced s s' made made' x e f = rw (e, f) refl

-- a session that ran over the desk's console has advanced as it is written
pub port_ran : (who w w' : ℕ) (h h' : History) (x x' : SessionState) → h'.opening ≡ h.opening
    → AdvancesAsWritten progress.Ran (desk_console who h w) (desk_console who h' w') x x'
    → advance who (at h (left_of x)) ≡ Some (at h' (left_of x'))
port_ran who w w' h h' x x' opening advanced =
    let grown = advanced h.made refl in
    let made = sym (same_Some _ _ grown.1) in
    grown.2 ∙ ap (λ (a : Advanced). Some a) (same_advanced _ _ _ _ x' (rw (opening, made) refl) made)

-- one that did not has no advance
pub port_waits : (p : CameTo) (who w w' : ℕ) (h h' : History) (x x' : SessionState) → (p ≡ progress.Ran → ⊥)
    → AdvancesAsWritten p (desk_console who h w) (desk_console who h' w') x x'
    → (advance who (at h (left_of x)) ≡ None) × (h'.made ≡ h.made)
port_waits progress.Ran who w w' h h' x x' other advanced = absurd (other refl)
port_waits progress.Waits who w w' h h' x x' other advanced =
    let grown = advanced h.made refl in (grown.2.0, same_Some _ _ grown.1 ∙ grown.2.1)
port_waits progress.Ended who w w' h h' x x' other advanced =
    let grown = advanced h.made refl in (grown.2.0, same_Some _ _ grown.1 ∙ grown.2.1)

-- its console is of the number that the session had
same_number : (p : CameTo) (who a b w w' : ℕ) (h h' : History) (x x' : SessionState) → a ≡ who → b ≡ a
    → AdvancesAsWritten p (desk_console a h w) (desk_console b h' w') x x'
    → AdvancesAsWritten p (desk_console who h w) (desk_console who h' w') x x'
same_number p who a b w w' h h' x x' same kept advanced =
    subst (λ n. AdvancesAsWritten p (desk_console n h w) (desk_console n h' w') x x') same
    (subst (λ n. AdvancesAsWritten p (desk_console a h w) (desk_console n h' w') x x') kept advanced)

same_console : (p : CameTo) (who a b w w' : ℕ) (h h' : History) (x x' : SessionState) → a ≡ who → b ≡ a
    → Advances p (desk_console a h w) (desk_console b h' w') x x'
    → Advances p (desk_console who h w) (desk_console who h' w') x x'
same_console p who a b w w' h h' x x' same kept advanced =
    subst (λ n. Advances p (desk_console n h w) (desk_console n h' w') x x') same
    (subst (λ n. Advances p (desk_console a h w) (desk_console n h' w') x x') kept advanced)

-- to advance and then to settle is to settle
pub settle_goes_on : (p : CameTo) (who a b w w' : ℕ) (h h' : History) (x x' : SessionState) → p ≡ progress.Ran → a ≡ who
    → b ≡ a → h'.opening ≡ h.opening
    → AdvancesAsWritten p (desk_console a h w) (desk_console b h' w') x x'
    → settle who (at h' (left_of x')) ≡ settle who (at h (left_of x))
settle_goes_on p who a b w w' h h' x x' ran same kept opening advanced =
    settle-next who (at h (left_of x)) (at h' (left_of x'))
    (port_ran who w w' h h' x x' opening (rw ran at (same_number p who a b w w' h h' x x' same kept advanced)))

-- a session that did not run stands where it stood
stays : (p : CameTo) (old new : Console) (x x' : SessionState) → (p ≡ progress.Ran → ⊥) → Advances p old new x x'
    → x' ≡ x
stays progress.Ran old new x x' other advanced = absurd (other refl)
stays progress.Waits old new x x' other advanced = advanced.stays
stays progress.Ended old new x x' other advanced = advanced.stays

same_at : (h h' : History) (x x' : SessionState) → h'.opening ≡ h.opening → h'.made ≡ h.made → x' ≡ x
    → at h' (left_of x') ≡ at h (left_of x)
same_at h h' x x' opening made same = rw (opening, made, same) refl

-- so it is settled, over the desk as its console leaves it
pub settle_ends : (p : CameTo) (who a b w w' : ℕ) (first h h' last : History) (x₀ x x' : SessionState)
    → (p ≡ progress.Ran → ⊥) → a ≡ who → b ≡ a → h'.opening ≡ h.opening
    → AdvancesAsWritten p (desk_console a h w) (desk_console b h' w') x x'
    → Advances p (desk_console a h w) (desk_console b h' w') x x'
    → settle who (at h (left_of x)) ≡ settle who (at first (left_of x₀)) → last ≡ h'
    → settle who (at first (left_of x₀)) ≡ at last (left_of x')
settle_ends p who a b w w' first h h' last x₀ x x' other same kept opening written advanced settled left =
    let waits = port_waits p who w w' h h' x x' other (same_number p who a b w w' h h' x x' same kept written) in
    rw left (sym settled ∙ settle-stays who (at h (left_of x)) waits.0
    ∙ sym (same_at h h' x x' opening waits.1 (stays p (desk_console a h w) (desk_console b h' w') x x' other advanced)))

-- and the same cycle is aloft, if one was
pub alike_ends : (first h h' last : History) (lent lent' who who' : ℕ) → ground_of lent' who' h' ≡ ground_of lent who h
    → IsAloftAlike first h → last ≡ h' → IsAloftAlike first last
alike_ends first h h' last lent lent' who who' still alike left = rw left (record {
  begun = ap (λ (k : DeskGround). k.begun) still ∙ alike.begun;
  aloft = ap (λ (k : DeskGround). k.aloft) still ∙ alike.aloft;
})

-- ---- All sessions

-- the next session settles, and then the sessions after it
pub settle_from_next : (who : ℕ) (xs : List SessionState) (i : ℕ) (d y : SessionState) (h next : History)
    → i < length xs
    → settle who (at h (left_of (get_or xs i d))) ≡ at next (left_of y)
    → settle_from (who + 1) (map left_of (drop (i + 1) (slice_set xs i y))) (now_of next) next.made
    (map left_of (take (i + 1) (slice_set xs i y)))
    ≡ settle_from who (map left_of (drop i xs)) (now_of h) h.made (map left_of (take i xs))
settle_from_next who xs i d y h next less settled =
    let next_place : i + 1 ≡ suc i = omega arith in
    rw (
      next_place,
      take-suc-set xs i y less,
      drop-set-lt (suc i) xs i y (omega arith),
      drop-cons xs i d less,
      map-append left_of (take i xs) (y ∷ []),
    ) (rw (settled, settle_from) refl)

-- ---- A turn

-- a session that has this number and advanced once is that turn
step_ran : (who : ℕ) (xs : List SessionState) (d y : SessionState) (h next : History) → who < length xs
    → advance who (at h (left_of (get_or xs who d))) ≡ Some (at next (left_of y))
    → progress_of (record { desk = next; sessions = slice_set xs who y })
    ≡ turned (Step who) (progress_of (record { desk = h; sessions = xs }))
step_ran who xs d y h next less ran =
    let found : slice_get (map left_of xs) who ≡ Some (left_of (get_or xs who d)) =
    slice_get-map left_of xs who ∙ ap (option_map left_of) (slice_get-get_or xs who d less) in
    rw (found, ran, map-set left_of xs who y) refl

-- one that cannot advance stands where it stood
step_waits : (who : ℕ) (xs : List SessionState) (d y : SessionState) (h next : History) → who < length xs
    → next.opening ≡ h.opening
    → (advance who (at h (left_of (get_or xs who d))) ≡ None) × (next.made ≡ h.made) → y ≡ get_or xs who d
    → progress_of (record { desk = next; sessions = slice_set xs who y })
    ≡ turned (Step who) (progress_of (record { desk = h; sessions = xs }))
step_waits who xs d y h next less opening waits stays =
    let found : slice_get (map left_of xs) who ≡ Some (left_of (get_or xs who d)) =
    slice_get-map left_of xs who ∙ ap (option_map left_of) (slice_get-get_or xs who d less) in
    rw (found, waits.0, stays, set-get_or xs who d, opening, waits.1) refl

-- so whatever its advance came to, that is the turn
pub step_made : (p : CameTo) (who w w' : ℕ) (xs : List SessionState) (d y : SessionState) (h next : History)
    → who < length xs → next.opening ≡ h.opening
    → Advances p (desk_console who h w) (desk_console who next w') (get_or xs who d) y
    → AdvancesAsWritten p (desk_console who h w) (desk_console who next w') (get_or xs who d) y
    → progress_of (record { desk = next; sessions = slice_set xs who y })
    ≡ turned (Step who) (progress_of (record { desk = h; sessions = xs }))
step_made progress.Ran who w w' xs d y h next less opening made written =
    step_ran who xs d y h next less (port_ran who w w' h next (get_or xs who d) y opening written)
step_made progress.Waits who w w' xs d y h next less opening made written =
    step_waits who xs d y h next less opening
    (port_waits progress.Waits who w w' h next (get_or xs who d) y (λ no. cc) written) made.stays
step_made progress.Ended who w w' xs d y h next less opening made written =
    step_waits who xs d y h next less opening
    (port_waits progress.Ended who w w' h next (get_or xs who d) y (λ no. cc) written) made.stays

-- over the desk as its console leaves it
pub step_over : (p : CameTo) (who a b w w' : ℕ) (xs : List SessionState) (d y : SessionState)
    (first h h' last : History) → who < length xs → a ≡ who → b ≡ a
    → h ≡ first → h'.opening ≡ h.opening
    → Advances p (desk_console a h w) (desk_console b h' w') (get_or xs who d) y
    → AdvancesAsWritten p (desk_console a h w) (desk_console b h' w') (get_or xs who d) y
    → last ≡ h' → progress_of (record { desk = last; sessions = slice_set xs who y })
    ≡ turned (Step who) (progress_of (record { desk = first; sessions = xs }))
step_over p who a b w w' xs d y first h h' last less same kept lent opening advanced written left =
    rw (left, ← lent)
    (step_made p who w w' xs d y h h' less opening
    (same_console p who a b w w' h h' (get_or xs who d) y same kept advanced)
    (same_number p who a b w w' h h' (get_or xs who d) y same kept written))

-- the next turn, and then the turns after it
pub turns_next : (ts : List Turn) (i : ℕ) (d : Turn) (p next : Progress) → i < length ts
    → next ≡ turned (get_or ts i d) p
    → turns (drop (i + 1) ts) next ≡ turns (drop i ts) p
turns_next ts i d p next less made =
    let next_place : i + 1 ≡ suc i = omega arith in
    rw (next_place, drop-cons ts i d less, made) refl

-- ---- The cycles that are left

-- one cycle more
pub one_cycle_more : (first ended past : ℕ) (p q next : Progress) → ended ≡ first → q ≡ cycles_from first past p
    → next ≡ with_cycle (ended + past) q
    → next ≡ cycles_from first (past + 1) p
one_cycle_more first ended past p q next same so_far made =
    let more : past + 1 ≡ suc past = omega arith in made ∙ rw (more, same, so_far) refl
