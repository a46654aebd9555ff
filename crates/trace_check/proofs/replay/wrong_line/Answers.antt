use Rattle.std.proofs.Common.{◌≡◌, ◌≤◌, ◌-◌, List, length, Some, None, ap, ap₂, subst, sym, ◌∙◌}
use Rattle.std.specs.Prelude.{slice_get, nat_eq}
use Rattle.std.specs.Cmp.Lexicographic.{pointwise}
use Rattle.cm_document.specs.Lines.{without_last}
use Rattle.cm_document.specs.declared.document.Document.{Document}
use Rattle.cm_model.specs.declared.entry.Entry.{Entry}
use Rattle.trace_laws.proofs.ReplayLemmas.{caller_few}
use Rattle.trace_laws.specs.Next.{caller_named, first_word}
use Rattle.trace_check.specs.Steps.{IsDescribed}
use Rattle.trace_check.proofs.LineStepLemmas.{has_turned, named_next, told_none, expected_none}
use Rattle.trace_check.proofs.LineStepLemmas.{taken_same, described_last, line_told, line_other}
use Rattle.trace_check.proofs.replay.wrong_line.Goals as goal

pub returns-then-not-branch : goal.returns-then-not-branch
returns-then-not-branch g c =
    let document : Document = record { description = c.args.checked.now; script = c.args.script.now } in
    let blanks = c.args.job.now.desk.opening.blanks in
    let line = c.args.line.now in
    let named : caller_named document.script.sessions (first_word line) ≡ Some c.in-Some.who =
    ap₂ caller_named (sym c.as_slice.ensures) (sym c.first_word.ensures) ∙ sym c.caller_named.ensures ∙ c.in-Some.is in
    let few : c.in-Some.who ≤ length document.script.sessions =
    caller_few document blanks c.requires.rules (first_word line) c.in-Some.who named in
    let turned =
    has_turned document blanks c.requires.rules c.in-Some.who few c.in_ok-make_next.field-0 c.args.job.now
    c.make_next.new.job c.requires.stands c.in_ok-make_next.ensures in
    let none = turned.none c.if-not-branch.true in
    let history = c.args.job.now.desk.made in
    let unnamed = named_next document blanks history line c.in-Some.who None named none.0 in (
      told_none document blanks history line unnamed,
      c.new-then-not-branch.ensures ∙ expected_none document blanks history line unnamed,
      taken_same history c.make_next.new.job.desk.made none.1,
    )

pub make_line-requires : goal.make_line-requires
make_line-requires g c =
    let document : Document = record { description = c.args.checked.now; script = c.args.script.now } in
    let blanks = c.args.job.now.desk.opening.blanks in
    let line = c.args.line.now in
    let named : caller_named document.script.sessions (first_word line) ≡ Some c.in-Some.who =
    ap₂ caller_named (sym c.as_slice.ensures) (sym c.first_word.ensures) ∙ sym c.caller_named.ensures ∙ c.in-Some.is in
    let few : c.in-Some.who ≤ length document.script.sessions =
    caller_few document blanks c.requires.rules (first_word line) c.in-Some.who named in
    let turned =
    has_turned document blanks c.requires.rules c.in-Some.who few c.in_ok-make_next.field-0 c.args.job.now
    c.make_next.new.job c.requires.stands c.in_ok-make_next.ensures in
    let whole : c.history.result.now ≡ c.make_next.new.job.desk.made =
    c.history.ensures ∙ ap (λ d. d.made) c.desk.ensures in
    let last : Some c.in-Some-last.entry.now
    ≡ slice_get c.make_next.new.job.desk.made (length c.make_next.new.job.desk.made - 1) =
    subst (λ (l : List Entry). Some c.in-Some-last.entry.now ≡ slice_get l (length l - 1)) whole
    c.in-Some-last.ensures.value in
    let described =
    described_last document blanks c.in-Some.who c.args.job.now c.make_next.new.job c.in-Some-last.entry.now
    (turned.some c.if-not-branch.false) last in
    record {
      described =
          subst (λ d. IsDescribed d c.in-Some-last.entry.now) (sym c.description.ensures.same) described;
    }

pub returns-then-eq : goal.returns-then-eq
returns-then-eq g c =
    let document : Document = record { description = c.args.checked.now; script = c.args.script.now } in
    let blanks = c.args.job.now.desk.opening.blanks in
    let line = c.args.line.now in
    let named : caller_named document.script.sessions (first_word line) ≡ Some c.in-Some.who =
    ap₂ caller_named (sym c.as_slice.ensures) (sym c.first_word.ensures) ∙ sym c.caller_named.ensures ∙ c.in-Some.is in
    let few : c.in-Some.who ≤ length document.script.sessions =
    caller_few document blanks c.requires.rules (first_word line) c.in-Some.who named in
    let turned =
    has_turned document blanks c.requires.rules c.in-Some.who few c.in_ok-make_next.field-0 c.args.job.now
    c.make_next.new.job c.requires.stands c.in_ok-make_next.ensures in
    let whole : c.history.result.now ≡ c.make_next.new.job.desk.made =
    c.history.ensures ∙ ap (λ d. d.made) c.desk.ensures in
    let last : Some c.in-Some-last.entry.now
    ≡ slice_get c.make_next.new.job.desk.made (length c.make_next.new.job.desk.made - 1) =
    subst (λ (l : List Entry). Some c.in-Some-last.entry.now ≡ slice_get l (length l - 1)) whole
    c.in-Some-last.ensures.value in
    line_told document blanks c.in-Some.who c.args.job.now c.make_next.new.job c.in-Some-last.entry.now line
    c.args.lines.now c.make_line.new.lines named c.requires.knows
    c.in_ok-make_line.ensures (turned.some c.if-not-branch.false) last
    (ap (λ l. pointwise nat_eq l line) (sym c.line.ensures) ∙ sym c.if-eq.ensures)

pub returns : goal.returns
returns g c =
    let document : Document = record { description = c.args.checked.now; script = c.args.script.now } in
    let blanks = c.args.job.now.desk.opening.blanks in
    let line = c.args.line.now in
    let named : caller_named document.script.sessions (first_word line) ≡ Some c.in-Some.who =
    ap₂ caller_named (sym c.as_slice.ensures) (sym c.first_word.ensures) ∙ sym c.caller_named.ensures ∙ c.in-Some.is in
    let few : c.in-Some.who ≤ length document.script.sessions =
    caller_few document blanks c.requires.rules (first_word line) c.in-Some.who named in
    let turned =
    has_turned document blanks c.requires.rules c.in-Some.who few c.in_ok-make_next.field-0 c.args.job.now
    c.make_next.new.job c.requires.stands c.in_ok-make_next.ensures in
    let whole : c.history.result.now ≡ c.make_next.new.job.desk.made =
    c.history.ensures ∙ ap (λ d. d.made) c.desk.ensures in
    let last : Some c.in-Some-last.entry.now
    ≡ slice_get c.make_next.new.job.desk.made (length c.make_next.new.job.desk.made - 1) =
    subst (λ (l : List Entry). Some c.in-Some-last.entry.now ≡ slice_get l (length l - 1)) whole
    c.in-Some-last.ensures.value in
    let other =
    line_other document blanks c.in-Some.who c.args.job.now c.make_next.new.job c.in-Some-last.entry.now line
    c.args.lines.now c.make_line.new.lines named c.requires.knows
    c.in_ok-make_line.ensures (turned.some c.if-not-branch.false) last
    (ap (λ l. pointwise nat_eq l line) (sym c.line.ensures) ∙ sym c.if-eq.ensures) in
    (other.0, c.in_ok-bare_copy.ensures ∙ ap (without_last 10) c.line-2.ensures ∙ other.1, other.2)
