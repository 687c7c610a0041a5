use Rattle.std.proofs.Common.{rules, ◌≡◌, ◌++◌, List, ℕ, Err, Ok, sym, subst}
use Rattle.metaedit_top.specs.BatchText.{Printed, end_line}
use Rattle.metaedit_top.proofs.Prints.{printed_as, printed_front, printed_more}
use Rattle.metaedit_top.proofs.batch_text.print_file.Goals as goal

pub returns-in_err-write_all : goal.returns-in_err-write_all
returns-in_err-write_all g c =
    let a = c.args.out.now in
    let b = c.write_all.new.self in
    let name = c.args.texts.now.name in
    let e = c.in_err-write_all.ensures in
    let x = c.in_err-write_all.field-0.0 in
    let same : c.from_residual.result ≡ Err x = search rules in
    subst (Printed (name ++ end_line c.args.end) (g.K.Sink.contents a) (g.K.Sink.contents b) (g.K.Sink.faults a) (g.K.Sink.faults b)) (sym same)
    (printed_front name (end_line c.args.end) (g.K.Sink.contents a) (g.K.Sink.contents b) (g.K.Sink.faults a) (g.K.Sink.faults b) x
    (printed_as c.as_slice.result.now name (g.K.Sink.contents a) (g.K.Sink.contents b) (g.K.Sink.faults a) (g.K.Sink.faults b) (Err x) c.as_slice.ensures
    (record { ok = e.ok; err = e.err; silent = e.silent; cause = e.cause })))

pub returns : goal.returns
returns g c =
    let a = c.args.out.now in
    let b = c.write_all.new.self in
    let d = c.print_end.new.out in
    let name = c.args.texts.now.name in
    let e = c.in_ok-write_all.ensures in
    let u = c.in_ok-write_all.field-0 in
    printed_more name (end_line c.args.end) (g.K.Sink.contents a) (g.K.Sink.contents b) (g.K.Sink.contents d) (g.K.Sink.faults a) (g.K.Sink.faults b) (g.K.Sink.faults d) u c.print_end.result
    (printed_as c.as_slice.result.now name (g.K.Sink.contents a) (g.K.Sink.contents b) (g.K.Sink.faults a) (g.K.Sink.faults b) (Ok u) c.as_slice.ensures
    (record { ok = e.ok; err = e.err; silent = e.silent; cause = e.cause })) c.print_end.ensures
