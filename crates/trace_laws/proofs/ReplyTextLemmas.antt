-- Each reply along a legal history prints without a byte that ends a line.
use Rattle.std.proofs.Common.{◌≡◌, ℕ, zero, suc, ◌+◌, Bool, true, false, List, [], ◌∷◌, ◌++◌}
use Rattle.std.proofs.Common.{length, drop, map, Option, Some, None, ℤ, refl, sym, subst, arith}
use Rattle.std.specs.Prelude.{if◌then◌else◌, codes, decimal, slice_get, unwrap_or, option_map, IfSome}
use Rattle.std.specs.List.{AllByRecursion}
use Rattle.std.proofs.lemmas.Option.{same_Some}
use Rattle.fixed_num.specs.Text.{spelled}
use Rattle.fixed_num.specs.declared.value.BodyState.{BodyState}
use Rattle.fixed_num.specs.declared.value.Value.{Value}
use Rattle.fixed_num.specs.declared.value.Value.TheVariants.{Unset, Num}
use Rattle.sequence.proofs.ListLemmas.{all_append}
use Rattle.cm_document.proofs.DistinctLemmas.{all_of, all_so, all_map}
use Rattle.cm_document.specs.Vocabulary.{component_word, controller_word, life_word}
use Rattle.cm_document.specs.declared.call.Call.{Call}
use Rattle.cm_document.specs.declared.call.Call.TheVariants.{Load, Configure, Cleanup, Unload, Rate, Send}
use Rattle.cm_document.specs.declared.call.Call.TheVariants.{Switch, Hardware, Told, Await, ListControllers}
use Rattle.cm_document.specs.declared.call.Call.TheVariants.{ListInterfaces, ListComponents, Begin, End, Close}
use Rattle.cm_document.specs.declared.call.Pick.TheVariants.{One}
use Rattle.cm_document.specs.declared.description.CompDesc.{CompDesc}
use Rattle.cm_document.specs.declared.description.CompKind.{CompKind}
use Rattle.cm_document.specs.declared.description.CompKind.TheVariants.{Sensor, Actuator, System}
use Rattle.cm_document.specs.declared.description.CtlKind.{CtlKind}
use Rattle.cm_document.specs.declared.description.CtlKind.TheVariants as kind
use Rattle.cm_document.specs.declared.life.Life.{Life}
use Rattle.cm_document.specs.declared.life.Life.TheVariants.{Unconfigured, Inactive, Active, Finalized}
use Rattle.cm_model.proofs.LegalLemmas.{step_of}
use Rattle.cm_model.proofs.StayLemmas.{step-IsStep}
use Rattle.cm_model.specs.Boundary.{request_refusals, request_reply, standing_in, told_of_fallbacks, boundary}
use Rattle.cm_model.specs.Boundary.{decisions_from, decisions_between, begin_reply, close_effect, close_reply}
use Rattle.cm_model.specs.Causes.{outcome_text, decided_text, decision_text}
use Rattle.cm_model.specs.Console.{unless_refused, place_of, controller_of, configure_refusals}
use Rattle.cm_model.specs.Console.{cleanup_refusals, unload_refusals, rate_refusals, send_refusals, reply_on}
use Rattle.cm_model.specs.Console.{configure_reply, cleanup_reply, unload_reply, rate_reply, send_reply}
use Rattle.cm_model.specs.Cycle.{cycle}
use Rattle.cm_model.specs.Items.{Names, nth_name, component_name, value_text, divisor_text, chained_text}
use Rattle.cm_model.specs.Items.{controller_head, controller_text, described_component, component_text}
use Rattle.cm_model.specs.Items.{owner_text, held_text, iface_text, failed_text, outs_text, numbers_text}
use Rattle.cm_model.specs.Items.{done_text, ran_text, body_text, body_texts, stop_text, record_items}
use Rattle.cm_model.specs.Machine.{LegalFrom, load_refusals, reply_of, step}
use Rattle.cm_model.specs.State.{State, Loaded, controller_line, controller_lines, interface_lines, component_lines}
use Rattle.cm_model.specs.Trace.{why_word, reply_text}
use Rattle.cm_model.specs.declared.cause.Decision.{Decision}
use Rattle.cm_model.specs.declared.cause.Outcome.{Outcome}
use Rattle.cm_model.specs.declared.entry.Entry.{Entry}
use Rattle.cm_model.specs.declared.lines.CompLine.{CompLine}
use Rattle.cm_model.specs.declared.lines.CtlLine.{CtlLine}
use Rattle.cm_model.specs.declared.lines.IfaceLine.{IfaceLine}
use Rattle.cm_model.specs.declared.reply.Reply.{Reply}
use Rattle.cm_model.specs.declared.reply.Reply.TheVariants as reply
use Rattle.cm_model.specs.declared.reply.Why.{Why}
use Rattle.cm_model.specs.declared.reply.Why.TheVariants as why
use Rattle.cm_storage.specs.Happened.{Happened}
use Rattle.cm_storage.specs.Ran.{Ran}
use Rattle.cm_storage.specs.declared.ran.Done.{Done}
use Rattle.cm_storage.specs.declared.ran.Done.TheVariants as done
use Rattle.cm_storage.specs.declared.record.FailedPart.{FailedPart}
use Rattle.script_text.proofs.PrintWordLemmas.{IsPrinted, IsPrinted-append}
use Rattle.trace_laws.proofs.CauseTextLemmas.{OutcomePrints, outcome_printed, concluded_prints}
use Rattle.trace_laws.proofs.NamedLemmas.{ControllerPrints, ComponentPrints, DescriptionPrints}
use Rattle.trace_laws.proofs.SpellingLemmas.{word_printed, between, space, decimal_printed, spelled_printed}
use Rattle.trace_laws.proofs.SpellingLemmas.{each_printed, joined_printed, each_found_so, got_so, mapped_from}
use Rattle.trace_laws.proofs.StateTextLemmas.{IsSaid, StatePrints, all_drop}
use Rattle.trace_laws.proofs.StateTextLemmas.{boundary_prints, close_prints, effect_prints}

-- ---- Words

life_printed : (life : Life) → IsPrinted (life_word life)
life_printed Unconfigured = word_printed (life_word Unconfigured) refl
life_printed Inactive = word_printed (life_word Inactive) refl
life_printed Active = word_printed (life_word Active) refl
life_printed Finalized = word_printed (life_word Finalized) refl

component_kind_printed : (of : CompKind) → IsPrinted (component_word of)
component_kind_printed Sensor = word_printed (component_word Sensor) refl
component_kind_printed Actuator = word_printed (component_word Actuator) refl
component_kind_printed System = word_printed (component_word System) refl

controller_kind_printed : (of : CtlKind) → IsPrinted (controller_word of)
controller_kind_printed kind.Forward = word_printed (controller_word kind.Forward) refl
controller_kind_printed of = word_printed (controller_word of) refl

why_printed : (reason : Why) → IsPrinted (why_word reason)
why_printed why.NotDescribed = word_printed (why_word why.NotDescribed) refl
why_printed why.Loaded = word_printed (why_word why.Loaded) refl
why_printed why.StockEmpty = word_printed (why_word why.StockEmpty) refl
why_printed why.NotLoaded = word_printed (why_word why.NotLoaded) refl
why_printed why.Active = word_printed (why_word why.Active) refl
why_printed why.Refused = word_printed (why_word why.Refused) refl
why_printed why.NotInactive = word_printed (why_word why.NotInactive) refl
why_printed why.NotActive = word_printed (why_word why.NotActive) refl
why_printed why.Chained = word_printed (why_word why.Chained) refl
why_printed why.TakesNone = word_printed (why_word why.TakesNone) refl
why_printed why.WrongCount = word_printed (why_word why.WrongCount) refl
why_printed why.LoopEnded = word_printed (why_word why.LoopEnded) refl
why_printed why.QueueFull = word_printed (why_word why.QueueFull) refl

value_printed : (v : Value) → IsPrinted (value_text v)
value_printed Unset = word_printed (value_text Unset) refl
value_printed (Num n) = spelled_printed n

-- ---- Lines of controllers

divisor_printed : (divisor : Option ℕ) → IsPrinted (divisor_text divisor)
divisor_printed None = tt
divisor_printed (Some n) =
    IsPrinted-append (codes " every ") (decimal n) (word_printed (codes " every ") refl) (decimal_printed n)

chained_printed : (chained : Bool) → IsPrinted (chained_text chained)
chained_printed true = word_printed (codes " chained") refl
chained_printed false = tt

controller_printed : (line : CtlLine) → IsPrinted line.name → IsPrinted (controller_text line)
controller_printed line named =
    let kinded =
    between line.name (codes " ") (controller_word line.kind) named space (controller_kind_printed line.kind) in
    let head = between (line.name ++ codes " " ++ controller_word line.kind) (codes " ") (life_word line.life) kinded
    space (life_printed line.life) in
    let numbered =
    between (controller_head line) (codes " ") (decimal line.serial) head space (decimal_printed line.serial) in
    between (controller_head line ++ codes " " ++ decimal line.serial) (divisor_text line.divisor)
    (chained_text line.chained) numbered (divisor_printed line.divisor) (chained_printed line.chained)

-- a line of a described controller
line_named : (s : State) → DescriptionPrints s.description
    → AllByRecursion (λ (line : CtlLine). IsPrinted line.name) (controller_lines s)
line_named s described =
    each_found_so (λ (line : CtlLine). IsPrinted line.name) (controller_line s) s.loaded
    (all_of (λ (l : Loaded). IfSome (controller_line s l) (λ (line : CtlLine). IsPrinted line.name))
    (λ (l : Loaded). mapped_from ControllerPrints (λ (line : CtlLine). IsPrinted line.name) _
    (slice_get s.description.controllers l.place)
    (got_so ControllerPrints s.description.controllers described.controllers l.place) (λ c is. is.name)) s.loaded)

-- ---- What is told by number

-- What stands for numbers in a trace prints.
pub record NamesPrint (names : Names) : Type 0 where
  pub controllers : AllByRecursion IsPrinted names.controllers
  pub components : AllByRecursion ComponentPrints names.components
  pub joints : AllByRecursion IsPrinted names.joints
  pub interfaces : AllByRecursion IsPrinted names.interfaces

nth_printed : (names : List (List ℕ)) → AllByRecursion IsPrinted names → (place : ℕ) → IsPrinted (nth_name names place)
nth_printed [] all place = tt
nth_printed (name ∷ names) all zero = all.0
nth_printed (name ∷ names) all (suc place) = nth_printed names all.1 place

module _ (names : Names) (named : NamesPrint names) where
  component_printed : (o : Option CompDesc) → IfSome o ComponentPrints
      → IsPrinted (unwrap_or (option_map (λ (c : CompDesc). c.name) o) [])
  component_printed None is = tt
  component_printed (Some c) is = is.name

  head_printed : (o : Option CompDesc) → IfSome o ComponentPrints → IsPrinted (described_component o)
  head_printed None is = tt
  head_printed (Some c) is =
      between c.name (codes " ") (component_word c.kind) is.name space (component_kind_printed c.kind)

  component_line_printed : (line : CompLine) → IsPrinted (component_text names line)
  component_line_printed line =
      between (described_component (slice_get names.components line.place)) (codes " ") (life_word line.life)
      (head_printed (slice_get names.components line.place)
      (got_so ComponentPrints names.components named.components line.place)) space (life_printed line.life)

  owner_printed : (o : Option ℕ) → IsPrinted (owner_text names o)
  owner_printed None = word_printed (codes "free") refl
  owner_printed (Some serial) = nth_printed names.controllers named.controllers serial

  interface_printed : (line : IfaceLine) → IsPrinted (iface_text names line)
  interface_printed line =
      between ((if line.command then codes "command " else codes "state ") ++ nth_name names.interfaces line.place)
      (codes " ") (held_text names line)
      (IsPrinted-append (if line.command then codes "command " else codes "state ")
      (nth_name names.interfaces line.place) (sort line.command)
      (nth_printed names.interfaces named.interfaces line.place)) space (held line.available)
    where
      sort : (command : Bool) → IsPrinted (if command then codes "command " else codes "state ")
      sort true = word_printed (codes "command ") refl
      sort false = word_printed (codes "state ") refl

      owned : (command : Bool) → IsPrinted (if command then codes " " ++ owner_text names line.owner else [])
      owned true = (omega arith, owner_printed line.owner)
      owned false = tt

      held : (available : Bool)
          → IsPrinted (if available
          then value_text line.value ++ (if line.command then codes " " ++ owner_text names line.owner else [])
          else codes "unavailable")
      held true = IsPrinted-append (value_text line.value)
          (if line.command then codes " " ++ owner_text names line.owner else []) (value_printed line.value)
          (owned line.command)
      held false = word_printed (codes "unavailable") refl

  -- ---- Records of cycles

  failed_printed : (failed : FailedPart) → IsPrinted (failed_text names failed)
  failed_printed failed =
      between (codes "fail ") (component_name names failed.place)
      (if failed.reading then codes " read" else codes " write") (word_printed (codes "fail ") refl)
      (component_printed (slice_get names.components failed.place)
      (got_so ComponentPrints names.components named.components failed.place)) (at failed.reading)
    where
      at : (reading : Bool) → IsPrinted (if reading then codes " read" else codes " write")
      at true = word_printed (codes " read") refl
      at false = word_printed (codes " write") refl

  done_printed : (ran : Ran) (how : Done) → IsPrinted (done_text ran how)
  done_printed ran done.Ok =
      between (codes " ok") (outs_text ran.outs) (numbers_text ran.published) (word_printed (codes " ok") refl)
      (each_printed (λ (v : Value). codes " " ++ value_text v) ran.outs
      (all_of _ (λ (v : Value). (omega arith, value_printed v)) ran.outs))
      (each_printed (λ (n : ℤ). codes " " ++ spelled n) ran.published
      (all_of _ (λ (n : ℤ). (omega arith, spelled_printed n)) ran.published))
  done_printed ran done.Error = word_printed (codes " error") refl

  ran_printed : (ran : Ran) → IsPrinted (ran_text names ran)
  ran_printed ran =
      between (codes "run ") (nth_name names.controllers ran.serial) (done_text ran ran.done)
      (word_printed (codes "run ") refl)
      (nth_printed names.controllers named.controllers ran.serial) (done_printed ran ran.done)

  body_printed : (joint : List ℕ) → IsPrinted joint → (body : BodyState) → IsPrinted (body_text joint body)
  body_printed joint printed body =
      let named_so = IsPrinted-append (codes "joint ") joint (word_printed (codes "joint ") refl) printed in
      let placed =
      between (codes "joint " ++ joint) (codes " ") (spelled body.x) named_so space (spelled_printed body.x) in
      let moving =
      between (codes "joint " ++ joint ++ codes " " ++ spelled body.x) (codes " ") (spelled body.v) placed space
      (spelled_printed body.v) in
      between (codes "joint " ++ joint ++ codes " " ++ spelled body.x ++ codes " " ++ spelled body.v) (codes " ")
      (spelled body.f) moving space (spelled_printed body.f)

  bodies_printed : (place : ℕ) (bodies : List BodyState) → AllByRecursion IsPrinted (body_texts names place bodies)
  bodies_printed place [] = tt
  bodies_printed place (body ∷ bodies) = (
    body_printed (nth_name names.joints place) (nth_printed names.joints named.joints place) body,
    bodies_printed (suc place) bodies,
  )

  stop_printed : (serial : ℕ) → IsPrinted (stop_text names serial)
  stop_printed serial =
      IsPrinted-append (codes "stop ") (nth_name names.controllers serial) (word_printed (codes "stop ") refl)
      (nth_printed names.controllers named.controllers serial)

  items_printed : (h : Happened) → AllByRecursion IsPrinted (record_items names h)
  items_printed h =
      let failed = map (failed_text names) h.failed in
      let ran = map (ran_text names) h.ran in
      let bodies = body_texts names 0 h.bodies in
      let stops = map (stop_text names) h.stops in
      all_append IsPrinted ((failed ++ ran) ++ bodies) stops
      (all_append IsPrinted (failed ++ ran) bodies
      (all_append IsPrinted failed ran
      (all_map IsPrinted (failed_text names) h.failed (all_of _ failed_printed h.failed))
      (all_map IsPrinted (ran_text names) h.ran (all_of _ ran_printed h.ran)))
      (bodies_printed 0 h.bodies)) (all_map IsPrinted (stop_text names) h.stops (all_of _ stop_printed h.stops))

  -- ---- Decisions

  abbrev DecisionPrints : Decision → Type 0
  DecisionPrints d = OutcomePrints d.outcome

  decision_printed : (d : Decision) → DecisionPrints d → IsPrinted (decision_text d)
  decision_printed d prints =
      between (decided_text d.ticket) (codes " ") (outcome_text d.outcome) (of d.ticket) space
      (outcome_printed d.outcome prints)
    where
      of : (ticket : Option ℕ) → IsPrinted (decided_text ticket)
      of (Some n) = decimal_printed n
      of None = word_printed (codes "fallback") refl

  decisions_printed : (ds : List Decision) → AllByRecursion DecisionPrints ds
      → IsPrinted (reply_text names (reply.Decisions ds))
  decisions_printed ds prints =
      joined_printed (map decision_text ds)
      (all_map IsPrinted decision_text ds
      (all_so DecisionPrints (λ (d : Decision). IsPrinted (decision_text d)) decision_printed ds prints))

  from_print : (n : ℕ) (os : List Outcome) → AllByRecursion OutcomePrints os
      → AllByRecursion DecisionPrints (decisions_from n os)
  from_print n [] all = tt
  from_print n (o ∷ os) all = (all.0, from_print (n + 1) os all.1)

  between_print : (before after : State) → AllByRecursion OutcomePrints after.outcomes
      → AllByRecursion DecisionPrints (decisions_between before after)
  between_print before after all =
      from_print (length before.outcomes) (drop (length before.outcomes) after.outcomes)
      (all_drop OutcomePrints (length before.outcomes) after.outcomes all)

  standing_print : (s : State) → DescriptionPrints s.description → (fallbacks : List (List ℕ))
      → AllByRecursion IsPrinted fallbacks → AllByRecursion DecisionPrints (told_of_fallbacks s fallbacks)
  standing_print s described [] all = tt
  standing_print s described (name ∷ others) all = (
    concluded_prints (record s { fallbacks = [] }) described (standing_in (name ∷ others))
        (all_map _ One (name ∷ others) all, tt),
    tt,
  )

  -- ---- Replies

  module _ (s : State) (prints : StatePrints s) where
    abbrev ReplyPrints : Reply → Type 0
    ReplyPrints r = IsPrinted (reply_text names r)

    unless_one : (applies : Bool) (reason : Why) (r : Reply) → ReplyPrints r
        → ReplyPrints (if applies then reply.Not reason else r)
    unless_one true reason r printed = why_printed reason
    unless_one false reason r printed = printed

    unless_all : (refusals : List (Bool × Why)) (r : Reply) → ReplyPrints r → ReplyPrints (unless_refused refusals r)
    unless_all [] r printed = printed
    unless_all (refusal ∷ refusals) r printed =
        unless_one refusal.0 refusal.1 (unless_refused refusals r) (unless_all refusals r printed)

    on_all : (refusals : Loaded → List (Bool × Why)) (o : Option Loaded) → ReplyPrints (reply_on refusals o)
    on_all refusals None = why_printed why.NotLoaded
    on_all refusals (Some l) = unless_all (refusals l) reply.Done (word_printed (codes "ok") refl)

    serial_printed : (n : ℕ) → ReplyPrints (reply.Serial n)
    serial_printed n = IsPrinted-append (codes "ok ") (decimal n) (word_printed (codes "ok ") refl) (decimal_printed n)

    queued_printed : (n : ℕ) → ReplyPrints (reply.Queued n)
    queued_printed n =
        IsPrinted-append (codes "queued ") (decimal n) (word_printed (codes "queued ") refl) (decimal_printed n)

    request_printed : ReplyPrints (request_reply s)
    request_printed =
        unless_all (request_refusals s) (reply.Queued (length s.requests)) (queued_printed (length s.requests))

    told_printed : (ticket : ℕ) (r : Reply)
        → option_map (λ (became : Outcome). reply.Outcome became) (slice_get s.outcomes ticket) ≡ Some r → ReplyPrints r
    told_printed ticket r told =
        of (slice_get s.outcomes ticket) (got_so OutcomePrints s.outcomes prints.outcomes ticket) told
      where
        of : (o : Option Outcome) → IfSome o OutcomePrints
            → option_map (λ (became : Outcome). reply.Outcome became) o ≡ Some r → ReplyPrints r
        of None is told = cc
        of (Some became) is told =
            subst ReplyPrints (same_Some (reply.Outcome became) r told) (outcome_printed became is)

    controllers_printed : ReplyPrints (reply.Controllers (controller_lines s))
    controllers_printed =
        joined_printed (map controller_text (controller_lines s))
        (all_map IsPrinted controller_text (controller_lines s)
        (all_so (λ (line : CtlLine). IsPrinted line.name) (λ (line : CtlLine). IsPrinted (controller_text line))
        controller_printed (controller_lines s) (line_named s prints.described)))

    interfaces_printed : ReplyPrints (reply.Interfaces (interface_lines s))
    interfaces_printed =
        joined_printed (map (iface_text names) (interface_lines s))
        (all_map IsPrinted (iface_text names) (interface_lines s) (all_of _ interface_printed (interface_lines s)))

    components_printed : ReplyPrints (reply.Components (component_lines s))
    components_printed =
        joined_printed (map (component_text names) (component_lines s))
        (all_map IsPrinted (component_text names) (component_lines s)
        (all_of _ component_line_printed (component_lines s)))

    begin_printed : ReplyPrints (begin_reply s)
    begin_printed =
        decisions_printed (told_of_fallbacks s s.fallbacks ++ decisions_between s (boundary s))
        (all_append DecisionPrints (told_of_fallbacks s s.fallbacks) (decisions_between s (boundary s))
        (standing_print s prints.described s.fallbacks prints.fallbacks)
        (between_print s (boundary s) (boundary_prints s prints)))

    close_printed : ReplyPrints (close_reply s)
    close_printed =
        decisions_printed (decisions_between s (close_effect s))
        (between_print s (close_effect s) (close_prints s prints))

    pub reply_printed : (call : Call) (r : Reply) → reply_of s call ≡ Some r → ReplyPrints r
    reply_printed (Load name) r told =
        subst ReplyPrints (same_Some (unless_refused (load_refusals s (place_of s name)) (reply.Serial s.loads)) r told)
        (unless_all (load_refusals s (place_of s name)) (reply.Serial s.loads) (serial_printed s.loads))
    reply_printed (Configure name) r told =
        subst ReplyPrints (same_Some (configure_reply s name) r told)
        (on_all (configure_refusals s) (controller_of s name))
    reply_printed (Cleanup name) r told =
        subst ReplyPrints (same_Some (cleanup_reply s name) r told) (on_all cleanup_refusals (controller_of s name))
    reply_printed (Unload name) r told =
        subst ReplyPrints (same_Some (unload_reply s name) r told) (on_all unload_refusals (controller_of s name))
    reply_printed (Rate name hz) r told =
        subst ReplyPrints (same_Some (rate_reply s name) r told) (on_all rate_refusals (controller_of s name))
    reply_printed (Send name mail) r told =
        subst ReplyPrints (same_Some (send_reply s name mail) r told)
        (on_all (send_refusals s mail) (controller_of s name))
    reply_printed (Switch asked) r told = subst ReplyPrints (same_Some (request_reply s) r told) request_printed
    reply_printed (Hardware component target) r told =
        subst ReplyPrints (same_Some (request_reply s) r told) request_printed
    reply_printed (Told ticket) r told = told_printed ticket r told
    reply_printed (Await cycles) r told =
        subst ReplyPrints (same_Some reply.Done r told) (word_printed (codes "ok") refl)
    reply_printed ListControllers r told =
        subst ReplyPrints (same_Some (reply.Controllers (controller_lines s)) r told) controllers_printed
    reply_printed ListInterfaces r told =
        subst ReplyPrints (same_Some (reply.Interfaces (interface_lines s)) r told) interfaces_printed
    reply_printed ListComponents r told =
        subst ReplyPrints (same_Some (reply.Components (component_lines s)) r told) components_printed
    reply_printed (Begin number) r told = subst ReplyPrints (same_Some (begin_reply s) r told) begin_printed
    reply_printed (End number) r told =
        subst ReplyPrints (same_Some (reply.Cycle (cycle s).happened) r told)
        (joined_printed (record_items names (cycle s).happened) (items_printed (cycle s).happened))
    reply_printed Close r told = subst ReplyPrints (same_Some (close_reply s) r told) close_printed

  -- ---- Along a history

  pub replies_printed : (s : State) (history : List Entry) → StatePrints s → LegalFrom s history
      → AllByRecursion (λ (e : Entry). IsSaid e.call) history
      → AllByRecursion (λ (e : Entry). IsPrinted (reply_text names e.reply)) history
  replies_printed s [] prints legal said = tt
  replies_printed s (e ∷ es) prints legal said =
      let first = step_of (step s e.who e.call) e.reply (λ after. LegalFrom after es) legal in
      let is = step-IsStep s e.who e.call (first.0, e.reply) first.1 in (
        reply_printed s prints e.call e.reply is.replied,
        replies_printed first.0 es (subst StatePrints (sym is.next) (effect_prints s e.call e.reply said.0 prints))
            first.2 said.1,
      )
