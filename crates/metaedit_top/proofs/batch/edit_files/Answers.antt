use Rattle.std.proofs.Common.{◌≡◌, ◌<◌, ◌++◌, ℕ, List, Option, Some, None, length, get_or, take, sym, ap, ◌∙◌, subst}
use Rattle.std.specs.Prelude.{if◌then◌else◌}
use Rattle.std.specs.Io.KnownBytes.{Appends}
use Rattle.turn_batch.specs.declared.member.Member.{Member}
use Rattle.turn_batch.specs.Members.{is_open}
use Rattle.metaedit_top.specs.declared.batch_end.FileEnd.{FileEnd}
use Rattle.metaedit_top.specs.declared.batch_text.FileTexts.{FileTexts}
use Rattle.metaedit_top.specs.BatchText.{AreTextsOf, batch_text, done_count, last_line, texts_lines}
use Rattle.metaedit_top.proofs.BatchEnds.{all_end, depots_counted, members_counted, ready, report_is, room_counted, some_left, texts_told}
use Rattle.metaedit_top.proofs.Prints.{texts_count}
use Rattle.metaedit_top.proofs.batch.edit_files.Goals as goal

pub rounds-open-requires : goal.rounds-open-requires
rounds-open-requires g c κs within = (
  within,
  (
    depots_counted g.D.Depot.disk g.met.D.Depot.lawful c.args.words.now c.args.rounds c.args.depots.now c.start.new.depots c.requires.0 c.requires.1 c.requires.2 c.in-Ok.field-0 c.in-Ok.ensures.starts
        ∙ sym (members_counted g.D.Depot.disk g.met.D.Depot.lawful c.args.words.now c.args.rounds c.args.depots.now c.start.new.depots c.requires.0 c.requires.1 c.requires.2 c.in-Ok.field-0 c.in-Ok.ensures.starts),
    ready g.D.Depot.disk g.met.D.Depot.lawful c.args.words.now c.args.rounds c.args.depots.now c.start.new.depots c.requires.0 c.requires.1 c.requires.2 c.in-Ok.field-0 c.in-Ok.ensures.starts,
  ),
)

pub with_faults-ends-requires-clause-batch : goal.with_faults-ends-requires-clause-batch
with_faults-ends-requires-clause-batch g c =
    c.rounds-open.ensures.ran.ran.members
    ∙ members_counted g.D.Depot.disk g.met.D.Depot.lawful c.args.words.now c.args.rounds c.args.depots.now c.start.new.depots c.requires.0 c.requires.1 c.requires.2 c.in-Ok.field-0 c.in-Ok.ensures.starts

pub with_faults-ends-requires-clause-depots : goal.with_faults-ends-requires-clause-depots
with_faults-ends-requires-clause-depots g c =
    c.rounds-open.ensures.ran.ran.depots
    ∙ depots_counted g.D.Depot.disk g.met.D.Depot.lawful c.args.words.now c.args.rounds c.args.depots.now c.start.new.depots c.requires.0 c.requires.1 c.requires.2 c.in-Ok.field-0 c.in-Ok.ensures.starts

pub ended-left-requires-clause-batch : goal.ended-left-requires-clause-batch
ended-left-requires-clause-batch g c =
    c.rounds-open.ensures.ran.ran.members
    ∙ members_counted g.D.Depot.disk g.met.D.Depot.lawful c.args.words.now c.args.rounds c.args.depots.now c.start.new.depots c.requires.0 c.requires.1 c.requires.2 c.in-Ok.field-0 c.in-Ok.ensures.starts
    ∙ sym c.with_faults-ends.ensures.count ∙ sym (ap (λ (es : List FileEnd). length es) c.deref.ensures.value)

pub ended-left-requires-clause-left : goal.ended-left-requires-clause-left
ended-left-requires-clause-left g c =
    room_counted g.D.Depot.disk g.met.D.Depot.lawful c.args.words.now c.args.rounds c.args.depots.now c.start.new.depots c.requires.0 c.requires.1 c.requires.2 c.in-Ok.field-0 c.in-Ok.ensures.starts
    ∙ sym c.with_faults-ends.ensures.count ∙ sym (ap (λ (es : List FileEnd). length es) c.deref.ensures.value)

pub print_report-requires-clause-texts : goal.print_report-requires-clause-texts
print_report-requires-clause-texts g c =
    subst (λ (ts : List FileTexts). AreTextsOf ts c.deref-3.result.now) (sym c.deref-2.ensures.value)
    (subst (λ (es : List FileEnd). AreTextsOf c.in-Ok.field-0.texts.items es) (sym c.deref-3.ensures.value)
    (texts_told g.D.Depot.disk g.met.D.Depot.lawful c.args.words.now c.args.rounds c.args.depots.now c.start.new.depots c.requires.0 c.requires.1 c.requires.2 c.in-Ok.field-0 c.in-Ok.ensures.starts
    c.rounds-open.new.depots c.rounds-open.new.self c.rounds-open.ensures.ran c.with_faults-ends.result.items c.with_faults-ends.ensures.count c.with_faults-ends.ensures.told))

pub print_report-requires-clause-count : goal.print_report-requires-clause-count
print_report-requires-clause-count g c =
    texts_count c.deref-2.result.now c.deref-3.result.now
    (subst (λ (ts : List FileTexts). AreTextsOf ts c.deref-3.result.now) (sym c.deref-2.ensures.value)
    (subst (λ (es : List FileEnd). AreTextsOf c.in-Ok.field-0.texts.items es) (sym c.deref-3.ensures.value)
    (texts_told g.D.Depot.disk g.met.D.Depot.lawful c.args.words.now c.args.rounds c.args.depots.now c.start.new.depots c.requires.0 c.requires.1 c.requires.2 c.in-Ok.field-0 c.in-Ok.ensures.starts
    c.rounds-open.new.depots c.rounds-open.new.self c.rounds-open.ensures.ran c.with_faults-ends.result.items c.with_faults-ends.ensures.count c.with_faults-ends.ensures.told)))

pub returns-then-open-clause-stopped : goal.returns-then-open-clause-stopped
returns-then-open-clause-stopped g c =
    let left = c.ended-left.result.items in
    some_left g.D.Depot.disk g.met.D.Depot.lawful c.args.words.now c.args.rounds c.args.depots.now c.start.new.depots c.requires.0 c.requires.1 c.requires.2 c.in-Ok.field-0 c.in-Ok.ensures.starts
    c.rounds-open.new.depots c.rounds-open.new.self c.rounds-open.ensures.ran c.with_faults-ends.result.items c.with_faults-ends.ensures.count c.with_faults-ends.ensures.told
    left c.ended-left.ensures.count
    (subst (λ (es : List FileEnd). (i : ℕ) (m : Member) (x : FileEnd) (y : Option FileEnd) → i < length es → get_or left i y ≡ (if is_open (get_or c.rounds-open.new.self i m) then None else Some (get_or es i x)))
    c.deref.ensures.value c.ended-left.ensures.told) (sym c.rounds-open.ensures.open ∙ c.if-open.true)

pub returns-in-Ok-print_report-clause-ran : goal.returns-in-Ok-print_report-clause-ran
returns-in-Ok-print_report-clause-ran g c =
    let same : texts_lines c.deref-2.result.now c.deref-3.result.now ++ last_line (length c.deref-3.result.now) (done_count c.deref-3.result.now) ≡ batch_text c.in-Ok.ensures.starts.parts.files c.with_faults-ends.result.items =
    ap (λ (ts : List FileTexts). texts_lines ts c.deref-3.result.now ++ last_line (length c.deref-3.result.now) (done_count c.deref-3.result.now)) c.deref-2.ensures.value
    ∙ ap (λ (es : List FileEnd). texts_lines c.in-Ok.field-0.texts.items es ++ last_line (length es) (done_count es)) c.deref-3.ensures.value
    ∙ report_is g.D.Depot.disk g.met.D.Depot.lawful c.args.words.now c.args.rounds c.args.depots.now c.start.new.depots c.requires.0 c.requires.1 c.requires.2 c.in-Ok.field-0 c.in-Ok.ensures.starts
    c.rounds-open.new.depots c.rounds-open.new.self c.rounds-open.ensures.ran c.with_faults-ends.result.items c.with_faults-ends.ensures.count c.with_faults-ends.ensures.told in
    record {
      parts = c.in-Ok.ensures.starts.parts;
      is = c.in-Ok.ensures.starts.is;
      holds = (
        all_end g.D.Depot.disk g.met.D.Depot.lawful c.args.words.now c.args.rounds c.args.depots.now c.start.new.depots c.requires.0 c.requires.1 c.requires.2 c.in-Ok.field-0 c.in-Ok.ensures.starts
            c.rounds-open.new.depots c.rounds-open.new.self c.rounds-open.ensures.ran c.with_faults-ends.result.items c.with_faults-ends.ensures.count c.with_faults-ends.ensures.told
            (sym c.rounds-open.ensures.open ∙ c.if-open.false),
        subst (λ (t : List ℕ). Appends (g.K.Sink.contents c.args.out.now) (g.K.Sink.contents c.print_report.new.out) t) same c.in-Ok-print_report.ensures.ok,
      );
    }

pub returns-clause-out_fault : goal.returns-clause-out_fault
returns-clause-out_fault g c =
    let same : texts_lines c.deref-2.result.now c.deref-3.result.now ++ last_line (length c.deref-3.result.now) (done_count c.deref-3.result.now) ≡ batch_text c.in-Ok.ensures.starts.parts.files c.with_faults-ends.result.items =
    ap (λ (ts : List FileTexts). texts_lines ts c.deref-3.result.now ++ last_line (length c.deref-3.result.now) (done_count c.deref-3.result.now)) c.deref-2.ensures.value
    ∙ ap (λ (es : List FileEnd). texts_lines c.in-Ok.field-0.texts.items es ++ last_line (length es) (done_count es)) c.deref-3.ensures.value
    ∙ report_is g.D.Depot.disk g.met.D.Depot.lawful c.args.words.now c.args.rounds c.args.depots.now c.start.new.depots c.requires.0 c.requires.1 c.requires.2 c.in-Ok.field-0 c.in-Ok.ensures.starts
    c.rounds-open.new.depots c.rounds-open.new.self c.rounds-open.ensures.ran c.with_faults-ends.result.items c.with_faults-ends.ensures.count c.with_faults-ends.ensures.told in
    let front = c.in-Err.ensures.err in (
      c.in-Err.ensures.cause.failed,
      record {
        parts = c.in-Ok.ensures.starts.parts;
        is = c.in-Ok.ensures.starts.is;
        holds = (
          all_end g.D.Depot.disk g.met.D.Depot.lawful c.args.words.now c.args.rounds c.args.depots.now c.start.new.depots c.requires.0 c.requires.1 c.requires.2 c.in-Ok.field-0 c.in-Ok.ensures.starts
              c.rounds-open.new.depots c.rounds-open.new.self c.rounds-open.ensures.ran c.with_faults-ends.result.items c.with_faults-ends.ensures.count c.with_faults-ends.ensures.told
              (sym c.rounds-open.ensures.open ∙ c.if-open.false),
          (front.0, subst (λ (t : List ℕ). Appends (g.K.Sink.contents c.args.out.now) (g.K.Sink.contents c.print_report.new.out) (take front.0 t)) same front.1),
        );
      },
    )
