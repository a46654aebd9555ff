-- Where a session stands after one entry more of it.
use native.Mathlib.Numerals.{unary_clauses}
use Rattle.std.proofs.Common.{◌≡◌, ℕ, zero, suc, ◌+◌, List, [], ◌∷◌, ◌++◌, length, drop, false}
use Rattle.std.proofs.Common.{Option, Some, None, refl, sym, ap, ◌∙◌, append-nil, length-append}
use Rattle.std.specs.Prelude.{not}
use Rattle.std.proofs.lemmas.List.Elements.{filter-append}
use Rattle.std.proofs.lemmas.Option.{same_Some}
use Rattle.cm_document.specs.declared.call.Call.{Call}
use Rattle.cm_document.specs.declared.call.Call.TheVariants.{Told}
use Rattle.cm_model.specs.Scheduled.{Session, next_call, after_call, ticket_in}
use Rattle.cm_model.specs.Sessions.{asked, is_told}
use Rattle.cm_model.specs.declared.entry.Entry.{Entry}
use Rattle.cm_model.specs.declared.reply.Reply.{Reply}
use Rattle.trace_laws.proofs.GoesLemmas.{asked_first, asked_gives, asked_past, ticket_past, told_gives}
use Rattle.trace_laws.proofs.WayLemmas.{HaveNoTold}
use Rattle.trace_laws.specs.Next.{stands_after, ticket_after}

-- one line less is left behind one more that was made
drop_more : (n : ℕ) (lines : List Call) → drop 1 (drop n lines) ≡ drop (n + 1) lines
drop_more zero lines = refl
drop_more (suc n) [] = simp unary_clauses refl
drop_more (suc n) (line ∷ lines) = simp unary_clauses (simp unary_clauses at (drop_more n lines))

same_session : (lines lines' : List Call) (ticket ticket' : Option ℕ) → lines ≡ lines' → ticket ≡ ticket'
    → ◌≡◌ {A = Session} (record { lines = lines; ticket = ticket }) (record { lines = lines'; ticket = ticket' })
same_session lines lines' ticket ticket' e f = rw (e, f) refl

no_told_at : (n : ℕ) (lines : List Call) (call : Call) → HaveNoTold lines → next_call None (drop n lines) ≡ Some call
    → is_told call ≡ false
no_told_at zero [] call none next = cc
no_told_at zero (line ∷ lines) call none next = ap is_told (sym (same_Some line call next)) ∙ none.0
no_told_at (suc n) [] call none next = cc
no_told_at (suc n) (line ∷ lines) call none next = no_told_at n lines call none.1 next

-- it stands where the schedule says
pub stands_on : (lines : List Call) (es : List Entry) (who : ℕ) (call : Call) (r : Reply) (ticket : Option ℕ)
    → ticket_after None es ≡ ticket → HaveNoTold lines
    → next_call ticket (drop (length (asked es)) lines) ≡ Some call
    → stands_after lines (es ++ record { who = who; call = call; reply = r } ∷ [])
    ≡ after_call ticket (drop (length (asked es)) lines) r
stands_on lines es who call r (Some ticket) left none next =
    let e : Entry = record { who = who; call = call; reply = r } in
    let told : call ≡ Told ticket = sym (same_Some (Told ticket) call next) in
    let same : asked (es ++ e ∷ []) ≡ asked es =
    filter-append (λ (each : Entry). not (is_told each.call)) es (e ∷ [])
    ∙ ap (λ (l : List Entry). asked es ++ l) (asked_past e [] (ap is_told told)) ∙ append-nil (asked es) in
    same_session (drop (length (asked (es ++ e ∷ []))) lines) (drop (length (asked es)) lines)
    (ticket_after None (es ++ e ∷ [])) None
    (ap (λ (l : List Entry). drop (length l) lines) same) (ticket_past es (e ∷ []) None ∙ told_gives e ticket told)
stands_on lines es who call r None left none next =
    let e : Entry = record { who = who; call = call; reply = r } in
    let other : is_told call ≡ false = no_told_at (length (asked es)) lines call none next in
    let more : asked (es ++ e ∷ []) ≡ asked es ++ e ∷ [] =
    filter-append (λ (each : Entry). not (is_told each.call)) es (e ∷ [])
    ∙ ap (λ (l : List Entry). asked es ++ l) (asked_first e [] other) in
    let long : length (asked (es ++ e ∷ [])) ≡ length (asked es) + 1 =
    ap length more ∙ length-append (asked es) (e ∷ []) in
    same_session (drop (length (asked (es ++ e ∷ []))) lines) (drop 1 (drop (length (asked es)) lines))
    (ticket_after None (es ++ e ∷ [])) (ticket_in r)
    (ap (λ n. drop n lines) long ∙ sym (drop_more (length (asked es)) lines))
    (ticket_past es (e ∷ []) None ∙ asked_gives e other)
