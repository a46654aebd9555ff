-- Each entry prints one line: no byte before its line feed ends a line.
use Rattle.std.proofs.Common.{◌≡◌, ℕ, ◌≤◌, List, [], ◌∷◌, ◌++◌, length, map, refl, sym, ap, ◌∙◌, append_assoc}
use Rattle.std.specs.Prelude.{flat_map, codes}
use Rattle.std.specs.List.{AllByRecursion}
use Rattle.iface_names.specs.Interfaces.{interface_text}
use Rattle.cm_document.proofs.DistinctLemmas.{all_so, all_map}
use Rattle.cm_document.specs.CallText.{call_text}
use Rattle.cm_document.specs.Lines.{raw_lines}
use Rattle.cm_document.specs.Links.{joints_of}
use Rattle.cm_document.specs.Places.{Interface, interfaces_of}
use Rattle.cm_document.specs.ScriptLaws.{MeetsRules}
use Rattle.cm_document.specs.Valid.{IsValid}
use Rattle.cm_document.specs.declared.description.Description.{Description}
use Rattle.cm_document.specs.declared.description.JointDesc.{JointDesc}
use Rattle.cm_document.specs.declared.document.Document.{Document}
use Rattle.cm_document.specs.declared.script.SessionText.{SessionText}
use Rattle.cm_model.specs.Items.{Names}
use Rattle.cm_model.specs.Machine.{IsLegal}
use Rattle.cm_model.specs.State.{boot}
use Rattle.cm_model.specs.Trace.{caller_text, names_in, reply_text, line_text, output}
use Rattle.cm_model.specs.declared.blanks.Blanks.{Blanks}
use Rattle.cm_model.specs.declared.entry.Entry.{Entry}
use Rattle.script_text.proofs.PrintWordLemmas.{IsPrinted, line_then, shown_IsPrinted}
use Rattle.trace_laws.specs.OnTheWay.{IsOnItsWay}
use Rattle.trace_laws.proofs.LineLemmas.{caller_shown}
use Rattle.trace_laws.proofs.NamedLemmas.{DescriptionPrints, valid_prints, joints_print, interfaces_print}
use Rattle.trace_laws.proofs.ReplyTextLemmas.{NamesPrint, replies_printed}
use Rattle.trace_laws.proofs.SaidLemmas.{said_behind, call_printed, names_printed}
use Rattle.trace_laws.proofs.SpellingLemmas.{word_printed, between, space}
use Rattle.trace_laws.proofs.StateTextLemmas.{IsSaid, StatePrints}

module _ (sessions : List SessionText) (names : Names) where
  -- what stands before the line feed
  abbrev pub front_text : Entry → List ℕ
  front_text e = caller_text sessions e.who ++ codes " " ++ call_text e.call ++ codes ": " ++ reply_text names e.reply

  -- The parts of a line have no byte that ends one.
  pub record IsPrintedEntry (e : Entry) : Type 0 where
    pub caller : IsPrinted (caller_text sessions e.who)
    pub call : IsPrinted (call_text e.call)
    pub reply : IsPrinted (reply_text names e.reply)

  front_printed : (e : Entry) → IsPrintedEntry e → IsPrinted (front_text e)
  front_printed e printed =
      let called =
      between (caller_text sessions e.who) (codes " ") (call_text e.call) printed.caller space printed.call in
      between (caller_text sessions e.who ++ codes " " ++ call_text e.call) (codes ": ") (reply_text names e.reply)
      called (word_printed (codes ": ") refl) printed.reply

  -- so the lines of a text of entries are those of the entries
  pub lines_of_printed : (es : List Entry) → AllByRecursion IsPrintedEntry es
      → raw_lines (flat_map (line_text sessions names) es) ≡ map (line_text sessions names) es
  lines_of_printed [] printed = refl
  lines_of_printed (e ∷ es) printed =
      let front = front_text e in
      let rest = flat_map (line_text sessions names) es in
      let line : line_text sessions names e ≡ front ++ 10 ∷ [] = refl in
      ap (λ text. raw_lines (text ++ rest)) line
      ∙ ap raw_lines (append_assoc front (10 ∷ []) rest)
      ∙ line_then front rest (front_printed e printed.0)
      ∙ ap (λ text. text ∷ raw_lines rest) (sym line)
      ∙ ap (λ lines. line_text sessions names e ∷ lines) (lines_of_printed es printed.1)

-- ---- Along a history

each_entry : (sessions : List SessionText) (names : Names) (es : List Entry)
    → AllByRecursion (λ (e : Entry). IsPrinted (caller_text sessions e.who)) es
    → AllByRecursion (λ (e : Entry). IsPrinted (call_text e.call)) es
    → AllByRecursion (λ (e : Entry). IsPrinted (reply_text names e.reply)) es
    → AllByRecursion (IsPrintedEntry sessions names) es
each_entry sessions names [] callers calls replies = tt
each_entry sessions names (e ∷ es) callers calls replies = (
  record { caller = callers.0; call = calls.0; reply = replies.0 },
  each_entry sessions names es callers.1 calls.1 replies.1,
)

boot_prints : (d : Description) (blanks : Blanks) (sessions : ℕ) → DescriptionPrints d
    → StatePrints (boot d blanks sessions)
boot_prints d blanks sessions described = record { described = described; requests = tt; outcomes = tt; fallbacks = tt }

names_print : (d : Description) (history : List Entry) → DescriptionPrints d
    → AllByRecursion (λ (e : Entry). IsSaid e.call) history → NamesPrint (names_in d history)
names_print d history described said = record {
  controllers = names_printed history said;
  components = described.components;
  joints = all_map IsPrinted (λ (j : JointDesc). j.name) (joints_of d.components)
      (joints_print d.components described.components);
  interfaces =
      all_map IsPrinted (λ (i : Interface). interface_text i.called.name) (interfaces_of d)
      (interfaces_print d described);
}

-- each entry of a legal history that is on its way
pub entries_printed : (document : Document) (blanks : Blanks) (history : List Entry) → IsValid document.description
    → MeetsRules document.script
    → IsLegal document.description blanks (length document.script.sessions) history → IsOnItsWay document history
    → AllByRecursion (IsPrintedEntry document.script.sessions (names_in document.description history)) history
entries_printed document blanks history valid rules legal way =
    let d = document.description in
    let sessions = document.script.sessions in
    let described = valid_prints d valid in
    let said = said_behind document rules [] history way in
    let names = names_in d history in
    each_entry sessions names history
    (all_so (λ (e : Entry). e.who ≤ length sessions) (λ (e : Entry). IsPrinted (caller_text sessions e.who))
    (λ e few. shown_IsPrinted (caller_text sessions e.who) (caller_shown document.script rules e.who few)) history
    way.nobody_else)
    (all_so (λ (e : Entry). IsSaid e.call) (λ (e : Entry). IsPrinted (call_text e.call))
    (λ e is. call_printed e.call is) history said)
    (replies_printed names (names_print d history described said) (boot d blanks (length sessions)) history
    (boot_prints d blanks (length sessions) described) legal said)

-- so its trace has a line for each
pub lines_of_history : (document : Document) (blanks : Blanks) (history : List Entry) → IsValid document.description
    → MeetsRules document.script
    → IsLegal document.description blanks (length document.script.sessions) history → IsOnItsWay document history
    → raw_lines (output document history)
    ≡ map (line_text document.script.sessions (names_in document.description history)) history
unfolding output
lines_of_history document blanks history valid rules legal way =
    lines_of_printed document.script.sessions (names_in document.description history) history
    (entries_printed document blanks history valid rules legal way)
