-- An entry of a legal history prints the same however the history goes on.
use Rattle.std.proofs.Common.{◌≡◌, ℕ, zero, suc, ◌+◌, ◌<◌, Bool, true, false, List, [], ◌∷◌, ◌++◌, length, map, Option}
use Rattle.std.proofs.Common.{Some, None, refl, sym, ap, ap₂, subst, ◌∙◌, arith, append_assoc, length-append}
use Rattle.std.specs.Prelude.{◌&&◌, not, if◌then◌else◌, codes, option_map, filter, find, IfSome}
use Rattle.std.specs.List.{AllByRecursion, Contains, IsDistinct}
use Rattle.std.proofs.lemmas.List.Elements.{filter_map-append}
use Rattle.fixed_num.specs.declared.value.BodyState.{BodyState}
use Rattle.iface_names.specs.Interfaces.{interface_text}
use Rattle.cm_document.specs.CallText.{call_text}
use Rattle.cm_document.specs.Links.{joints_of}
use Rattle.cm_document.specs.Places.{Interface, interfaces_of}
use Rattle.cm_document.specs.declared.call.Call.{Call}
use Rattle.cm_document.specs.declared.description.Description.{Description}
use Rattle.cm_document.specs.declared.script.SessionText.{SessionText}
use Rattle.cm_storage.specs.Happened.{Happened}
use Rattle.cm_storage.specs.Ran.{Ran}
use Rattle.cm_storage.specs.declared.record.FailedPart.{FailedPart}
use Rattle.cm_model.proofs.LegalLemmas.{step_of}
use Rattle.cm_model.proofs.StayLemmas.{IsStep, step-IsStep}
use Rattle.cm_model.proofs.UpdateLemmas.{cycle_tells}
use Rattle.cm_model.specs.Cycle.{active_order, is_due_now, is_held_off, updated_in, must_stop, stops, cycle}
use Rattle.cm_model.specs.Items.{Names, nth_name, owner_text, value_text, iface_text, component_text, failed_text}
use Rattle.cm_model.specs.Items.{done_text, ran_text, body_text, body_texts, stop_text, record_items}
use Rattle.cm_model.specs.Machine.{LegalFrom, IsLegal, reply_of, effect, step}
use Rattle.cm_model.specs.Serials.{serials_of, IsNumbered}
use Rattle.cm_model.specs.State.{State, Loaded, boot, is_active, owner, claims_name}
use Rattle.cm_model.specs.State.{interface_line, interface_lines_from, component_lines}
use Rattle.cm_model.specs.Trace.{loaded_by, names_of, names_in, joined, reply_text, caller_text, line_text}
use Rattle.cm_model.specs.Values.{InterfaceValue}
use Rattle.cm_model.specs.declared.blanks.Blanks.{Blanks}
use Rattle.cm_model.specs.declared.entry.Entry.{Entry}
use Rattle.cm_model.specs.declared.lines.CompLine.{CompLine}
use Rattle.cm_model.specs.declared.lines.IfaceLine.{IfaceLine}
use Rattle.cm_model.specs.declared.reply.Reply.{Reply}
use Rattle.switch_plan.proofs.ElementLemmas.{found, filter_back}
use Rattle.sound_laws.proofs.ActiveLemmas.{from_active_order}
use Rattle.sound_laws.proofs.ParamsLemmas.{all_at, all_each}
use Rattle.sound_laws.proofs.ReplyLemmas.{of_reply}
use Rattle.sound_laws.proofs.SerialLemmas.{renumbered_numbered, effect_renumbered}
use Rattle.trace_laws.proofs.LoadsLemmas.{added, loads_named}

-- what stands for each number where controllers have these names by serial
abbrev pub named : Description → List (List ℕ) → Names
named d controllers = record {
  controllers = controllers;
  components = d.components;
  joints = map (λ joint. joint.name) (joints_of d.components);
  interfaces = map (λ interface. interface_text interface.called.name) (interfaces_of d);
}

-- a name stands where it stood, whatever names come behind it
nth_same : (xs ys : List (List ℕ)) (n : ℕ) → n < length xs → nth_name (xs ++ ys) n ≡ nth_name xs n
nth_same [] ys n less = absurd (omega (arith, less))
nth_same (x ∷ xs) ys zero less = refl
nth_same (x ∷ xs) ys (suc n) less = nth_same xs ys n (omega (arith, less))

-- ---- Parts of a record that name no controller

failed_same : (d : Description) (xs ys : List (List ℕ)) (failed : List FailedPart)
    → map (failed_text (named d ys)) failed ≡ map (failed_text (named d xs)) failed
failed_same d xs ys [] = refl
failed_same d xs ys (f ∷ fs) = ap (λ texts. failed_text (named d xs) f ∷ texts) (failed_same d xs ys fs)

bodies_same : (d : Description) (xs ys : List (List ℕ)) (place : ℕ) (bodies : List BodyState)
    → body_texts (named d ys) place bodies ≡ body_texts (named d xs) place bodies
bodies_same d xs ys place [] = refl
bodies_same d xs ys place (body ∷ bodies) =
    ap (λ texts. body_text (nth_name (named d xs).joints place) body ∷ texts) (bodies_same d xs ys (suc place) bodies)

components_same : (d : Description) (xs ys : List (List ℕ)) (lines : List CompLine)
    → map (component_text (named d ys)) lines ≡ map (component_text (named d xs)) lines
components_same d xs ys [] = refl
components_same d xs ys (line ∷ lines) =
    ap (λ texts. component_text (named d xs) line ∷ texts) (components_same d xs ys lines)

-- ---- Replies of a state whose controllers have names

module _ (s : State) (numbered : IsNumbered s) (d : Description) (xs ys : List (List ℕ)) (many : length xs ≡ s.loads)
  where
    known : (l : Loaded) → Contains s.loaded l → l.serial < length xs
    known l inside =
        let below : l.serial < s.loads = below_at s.loaded numbered.below l inside in omega (arith, below, many)
      where
        below_each : (ls : List Loaded) → AllByRecursion (λ n. n < s.loads) (serials_of ls)
            → AllByRecursion (λ l. l.serial < s.loads) ls
        below_each [] below = tt
        below_each (l ∷ ls) below = (below.0, below_each ls below.1)

        below_at : (ls : List Loaded) → AllByRecursion (λ n. n < s.loads) (serials_of ls) → (l : Loaded) → Contains ls l
            → l.serial < s.loads
        below_at ls below l inside = all_at (λ (l : Loaded). l.serial < s.loads) ls (below_each ls below) l inside

    -- owners
    owner_same : (o : Option ℕ) → IfSome o (λ n. n < length xs)
        → owner_text (named d (xs ++ ys)) o ≡ owner_text (named d xs) o
    owner_same None less = refl
    owner_same (Some n) less = nth_same xs ys n less

    of_owner : (command : Bool) (o : Option Loaded) → ((l : Loaded) → o ≡ Some l → l.serial < length xs)
        → IfSome (if command then option_map (λ (l : Loaded). l.serial) o else None) (λ n. n < length xs)
    of_owner true None each = tt
    of_owner true (Some l) each = each l refl
    of_owner false o each = tt

    owner_known : (interface : Interface) → IfSome (owner s interface) (λ n. n < length xs)
    owner_known interface =
        let owns : Loaded
        → Bool = λ (l : Loaded). is_active l && claims_name s.description.controllers interface.called.name l in
        of_owner interface.called.is_command (find owns s.loaded) (λ l at. known l (found owns s.loaded l at).0)

    line_same : (line : IfaceLine) → IfSome line.owner (λ n. n < length xs)
        → iface_text (named d (xs ++ ys)) line ≡ iface_text (named d xs) line
    line_same line less =
        ap (λ owned. (if line.command then codes "command " else codes "state ")
        ++ nth_name (named d xs).interfaces line.place ++ codes " "
        ++ (if line.available then value_text line.value ++ (if line.command then codes " " ++ owned else [])
        else codes "unavailable")) (owner_same line.owner less)

    interfaces_same : (place : ℕ) (vs : List InterfaceValue)
        → map (iface_text (named d (xs ++ ys))) (interface_lines_from s place vs)
        ≡ map (iface_text (named d xs)) (interface_lines_from s place vs)
    interfaces_same place [] = refl
    interfaces_same place (v ∷ vs) =
        ap₂ (λ text texts. text ∷ texts) (line_same (interface_line s place v) (owner_known v.interface))
        (interfaces_same (place + 1) vs)

    -- who was updated and who was stopped
    ran_same : (ran : List Ran) → AllByRecursion (λ n. n < length xs) (map (λ (r : Ran). r.serial) ran)
        → map (ran_text (named d (xs ++ ys))) ran ≡ map (ran_text (named d xs)) ran
    ran_same [] less = refl
    ran_same (r ∷ ran) less =
        ap₂ (λ name texts. (codes "run " ++ name ++ done_text r r.done) ∷ texts) (nth_same xs ys r.serial less.0)
        (ran_same ran less.1)

    stops_same : (serials : List ℕ) → AllByRecursion (λ n. n < length xs) serials
        → map (stop_text (named d (xs ++ ys))) serials ≡ map (stop_text (named d xs)) serials
    stops_same [] less = refl
    stops_same (n ∷ ns) less =
        ap₂ (λ name texts. (codes "stop " ++ name) ∷ texts) (nth_same xs ys n less.0) (stops_same ns less.1)

    all_known : (ls : List Loaded) → ((l : Loaded) → Contains ls l → Contains s.loaded l)
        → AllByRecursion (λ n. n < length xs) (map (λ (l : Loaded). l.serial) ls)
    all_known ls within =
        mapped ls (all_each (λ (l : Loaded). l.serial < length xs) ls (λ l inside. known l (within l inside)))
      where
        mapped : (ls : List Loaded) → AllByRecursion (λ l. l.serial < length xs) ls
            → AllByRecursion (λ n. n < length xs) (map (λ (l : Loaded). l.serial) ls)
        mapped [] all = tt
        mapped (l ∷ ls) all = (all.0, mapped ls all.1)

    ran_known : AllByRecursion (λ n. n < length xs) (map (λ (r : Ran). r.serial) (cycle s).happened.ran)
    ran_known =
        subst (AllByRecursion (λ n. n < length xs)) (sym (cycle_tells s))
        (all_known (updated_in s)
        (λ l inside.
        (from_active_order s l
        (filter_back (λ (l : Loaded). is_due_now s l && not (is_held_off s l)) (active_order s) l inside).0).0))

    stops_known : (ran : List Ran) → AllByRecursion (λ n. n < length xs) (stops s ran)
    stops_known ran =
        all_known (filter (λ (l : Loaded). must_stop s ran l.place) (active_order s))
        (λ l inside.
        (from_active_order s l (filter_back (λ (l : Loaded). must_stop s ran l.place) (active_order s) l inside).0).0)

    record_same : (h : Happened) → AllByRecursion (λ n. n < length xs) (map (λ (r : Ran). r.serial) h.ran)
        → AllByRecursion (λ n. n < length xs) h.stops
        → record_items (named d (xs ++ ys)) h ≡ record_items (named d xs) h
    record_same h ran stopped =
        rw (
          failed_same d xs (xs ++ ys) h.failed,
          ran_same h.ran ran,
          bodies_same d xs (xs ++ ys) 0 h.bodies,
          stops_same h.stops stopped,
        ) refl

    cycle_same : record_items (named d (xs ++ ys)) (cycle s).happened ≡ record_items (named d xs) (cycle s).happened
    unfolding cycle
    cycle_same = record_same (cycle s).happened ran_known (stops_known (cycle s).happened.ran)

    pub reply_same : (call : Call) (r : Reply) → reply_of s call ≡ Some r
        → reply_text (named d (xs ++ ys)) r ≡ reply_text (named d xs) r
    reply_same call r told =
        of_reply s (λ r. reply_text (named d (xs ++ ys)) r ≡ reply_text (named d xs) r) call (record {
          refused = λ reason. refl;
          done = refl;
          serial = refl;
          controllers = refl;
          interfaces = ap joined (interfaces_same 0 s.values);
          components = ap joined (components_same d xs (xs ++ ys) (component_lines s));
          decisions = λ decides decisions. refl;
          queued = refl;
          became = λ became. refl;
          cycle = ap joined cycle_same;
        }) r told

-- ---- Along a history

-- The serials rise, and there are as many names as loads.
pub record IsKnown (s : State) (names : List (List ℕ)) : Type 0 where
  pub numbered : IsNumbered s
  pub many : length names ≡ s.loads

pub boot_known : (d : Description) (blanks : Blanks) (sessions : ℕ) → IsKnown (boot d blanks sessions) []
unfolding IsDistinct
boot_known d blanks sessions = record { numbered = record { rising = tt; once = tt; below = tt }; many = refl }

pub step_known : (s : State) (names : List (List ℕ)) (call : Call) (made : State × Reply) → IsStep s call made
    → IsKnown s names → IsKnown made.0 (names ++ added call made.1)
step_known s names call made is known = record {
  numbered = subst IsNumbered (sym is.next)
      (renumbered_numbered s (effect s call made.1) (effect_renumbered s call made.1) known.numbered);
  many =
      length-append names (added call made.1) ∙ ap (λ n. n + length (added call made.1)) known.many
      ∙ sym (loads_named s call made.1 is.replied) ∙ ap (λ (after : State). after.loads) (sym is.next);
}

-- the names of an entry come before those of the entries behind it
names_first : (e : Entry) (es : List Entry) → names_of (e ∷ es) ≡ added e.call e.reply ++ names_of es
names_first e es = filter_map-append (λ (each : Entry). loaded_by each.call each.reply) (e ∷ []) es

-- its reply prints the same, whatever entries come behind it
reply_stays : (d : Description) (history later : List Entry) (e : Entry) (s : State) (names : List (List ℕ))
    → IsKnown s names → LegalFrom s (history ++ e ∷ later)
    → reply_text (named d (names ++ names_of (history ++ e ∷ later))) e.reply
    ≡ reply_text (named d (names ++ names_of (history ++ e ∷ []))) e.reply
reply_stays d [] later e s names known legal =
    let first = step_of (step s e.who e.call) e.reply (λ after. LegalFrom after later) legal in
    let is = step-IsStep s e.who e.call (first.0, e.reply) first.1 in
    reply_same s known.numbered d names (names_of (e ∷ later)) known.many e.call e.reply is.replied
    ∙ sym (reply_same s known.numbered d names (names_of (e ∷ [])) known.many e.call e.reply is.replied)
reply_stays d (x ∷ history) later e s names known legal =
    let first = step_of (step s x.who x.call) x.reply (λ after. LegalFrom after (history ++ e ∷ later)) legal in
    let is = step-IsStep s x.who x.call (first.0, x.reply) first.1 in
    let further =
    λ (es : List Entry). ap (λ l. names ++ l) (names_first x es)
    ∙ sym (append_assoc names (added x.call x.reply) (names_of es)) in
    ap (λ l. reply_text (named d l) e.reply) (further (history ++ e ∷ later))
    ∙ reply_stays d history later e first.0 (names ++ added x.call x.reply)
    (step_known s names x.call (first.0, x.reply) is known) first.2
    ∙ ap (λ l. reply_text (named d l) e.reply) (sym (further (history ++ e ∷ [])))

-- so does its line
pub line_stays : (d : Description) (blanks : Blanks) (sessions : List SessionText) (history later : List Entry)
    (e : Entry) → IsLegal d blanks (length sessions) (history ++ e ∷ later)
    → line_text sessions (names_in d (history ++ e ∷ later)) e ≡ line_text sessions (names_in d (history ++ e ∷ [])) e
line_stays d blanks sessions history later e legal =
    ap (λ text. caller_text sessions e.who ++ codes " " ++ call_text e.call ++ codes ": " ++ text ++ codes "\n")
    (reply_stays d history later e (boot d blanks (length sessions)) [] (boot_known d blanks (length sessions)) legal)
