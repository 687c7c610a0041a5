use Rattle.std.proofs.Common.{rules, ◌≡◌, ◌++◌, List, ℕ, length, Err, Ok, sym, subst, ap, ◌∙◌}
use Rattle.metaedit_top.specs.BatchText.{Printed, done_count, last_line, texts_lines}
use Rattle.metaedit_top.proofs.Prints.{printed_as, printed_front, printed_more}
use Rattle.metaedit_top.proofs.batch_text.print_report.Goals as goal

pub returns-in_err-print_files : goal.returns-in_err-print_files
returns-in_err-print_files g c =
    let a = c.args.out.now in
    let b = c.print_files.new.out in
    let x = c.in_err-print_files.field-0.0 in
    let es = c.args.ends.now in
    let first = texts_lines c.args.texts.now es in
    let second = last_line (length es) (done_count es) in
    let same : c.from_residual.result ≡ Err x = search rules in
    subst (Printed (first ++ second) (g.K.Sink.contents a) (g.K.Sink.contents b) (g.K.Sink.faults a) (g.K.Sink.faults b)) (sym same)
    (printed_front first second (g.K.Sink.contents a) (g.K.Sink.contents b) (g.K.Sink.faults a) (g.K.Sink.faults b) x c.in_err-print_files.ensures)

pub returns : goal.returns
returns g c =
    let a = c.args.out.now in
    let b = c.print_files.new.out in
    let d = c.print_last.new.out in
    let u = c.in_ok-print_files.field-0 in
    let es = c.args.ends.now in
    printed_more (texts_lines c.args.texts.now es) (last_line (length es) (done_count es)) (g.K.Sink.contents a) (g.K.Sink.contents b) (g.K.Sink.contents d) (g.K.Sink.faults a) (g.K.Sink.faults b) (g.K.Sink.faults d) u c.print_last.result
    c.in_ok-print_files.ensures
    (printed_as (last_line (length es) c.done_count.result) (last_line (length es) (done_count es)) (g.K.Sink.contents b) (g.K.Sink.contents d) (g.K.Sink.faults b) (g.K.Sink.faults d) c.print_last.result
    (ap (last_line (length es)) c.done_count.ensures) c.print_last.ensures)
