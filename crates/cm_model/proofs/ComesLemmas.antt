-- How a session's entries go on: one entry more, and where the session has come after it.
use Rattle.std.proofs.Common.{◌≡◌, ℕ, List, [], ◌∷◌, ◌++◌, Some, None, false}
use Rattle.std.proofs.Common.{refl, sym, ap, ◌∙◌, append_assoc, append-nil}
use Rattle.std.specs.Prelude.{flat_map, not}
use Rattle.std.proofs.lemmas.List.{map-append}
use Rattle.std.proofs.lemmas.List.Concat.{flat_map-append}
use Rattle.std.proofs.lemmas.List.Elements.{filter-append}
use Rattle.cm_document.specs.declared.call.Call.{Call}
use Rattle.cm_document.specs.declared.call.Call.TheVariants.{Told}
use Rattle.cm_model.specs.Scheduled.{with_entry, ticket_in}
use Rattle.cm_model.specs.Sessions.{calls_of, is_told, told_of, with_its_told, asked, Comes}
use Rattle.cm_model.specs.declared.entry.Entry.{Entry}
use Rattle.cm_model.specs.declared.reply.Reply.{Reply}

-- ---- One entry more

-- its call is the last one
pub calls_more : (es : List Entry) (e : Entry) → calls_of (es ++ e ∷ []) ≡ calls_of es ++ e.call ∷ []
calls_more es e = map-append (λ (each : Entry). each.call) es (e ∷ [])

-- a Told is not among what is asked
pub asked_told : (es : List Entry) (who ticket : ℕ) (r : Reply) → asked (with_entry es who (Told ticket) r) ≡ asked es
asked_told es who ticket r =
    filter-append (λ (each : Entry). not (is_told each.call)) es
    (record { who = who; call = Told ticket; reply = r } ∷ []) ∙ append-nil (asked es)

-- any other call is
pub asked_more : (es : List Entry) (e : Entry) → is_told e.call ≡ false → asked (es ++ e ∷ []) ≡ asked es ++ e ∷ []
asked_more es e no_told = filter-append (λ (each : Entry). not (is_told each.call)) es (e ∷ []) ∙ rw no_told refl

-- and each stands with the Told that belongs after it
pub told_more : (es : List Entry) (e : Entry)
    → flat_map with_its_told (es ++ e ∷ []) ≡ flat_map with_its_told es ++ with_its_told e
told_more es e =
    flat_map-append with_its_told es (e ∷ [])
    ∙ ap (λ last. flat_map with_its_told es ++ last) (append-nil (with_its_told e))

-- ---- Where a session has come

-- before its first line it has made none
pub none_comes : (lines : List Call) → Comes [] lines lines None
none_comes lines = record { in_order = refl; each_told = refl }

-- it is told of its ticket
pub told_comes : (es : List Entry) (lines rest : List Call) (who ticket : ℕ) (r : Reply)
    → Comes es lines rest (Some ticket) → Comes (with_entry es who (Told ticket) r) lines rest None
told_comes es lines rest who ticket r comes = record {
  in_order = rw (asked_told es who ticket r) comes.in_order;
  each_told = append-nil _ ∙ calls_more es (record { who = who; call = Told ticket; reply = r }) ∙ comes.each_told
      ∙ ap (flat_map with_its_told) (sym (asked_told es who ticket r));
}

-- it makes its next line
pub line_comes : (es : List Entry) (lines rest : List Call) (who : ℕ) (call : Call) (r : Reply) → is_told call ≡ false
    → Comes es lines (call ∷ rest) None
    → Comes (with_entry es who call r) lines rest (ticket_in r)
line_comes es lines rest who call r no_told comes =
    let e : Entry = record { who = who; call = call; reply = r } in
    let more = asked_more es e no_told in
    let so_far : calls_of es ≡ flat_map with_its_told (asked es) = sym (append-nil (calls_of es)) ∙ comes.each_told in
    record {
      in_order = ap (λ (made : List Entry). calls_of made ++ rest) more
          ∙ ap (λ calls. calls ++ rest) (calls_more (asked es) e)
          ∙ append_assoc (calls_of (asked es)) (call ∷ []) rest ∙ comes.in_order;
      each_told = ap (λ calls. calls ++ told_of (ticket_in r)) (calls_more es e)
          ∙ append_assoc (calls_of es) (call ∷ []) (told_of (ticket_in r))
          ∙ ap (λ front. front ++ call ∷ told_of (ticket_in r)) so_far ∙ sym (told_more (asked es) e)
          ∙ ap (flat_map with_its_told) (sym more);
    }
