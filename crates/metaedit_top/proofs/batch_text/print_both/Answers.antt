use Rattle.std.proofs.Common.{rules, ◌≡◌, ◌++◌, Err, Ok, sym, subst}
use Rattle.metaedit_top.specs.BatchText.{Printed}
use Rattle.metaedit_top.proofs.Prints.{printed_front, printed_more}
use Rattle.metaedit_top.proofs.batch_text.print_both.Goals as goal

pub returns-in_err-write_all : goal.returns-in_err-write_all
returns-in_err-write_all g c =
    let a = c.args.out.now in
    let b = c.write_all.new.self in
    let e = c.in_err-write_all.ensures in
    let x = c.in_err-write_all.field-0.0 in
    let same : c.from_residual.result ≡ Err x = search rules in
    subst (Printed (c.args.first.now ++ c.args.second.now) (g.K.Sink.contents a) (g.K.Sink.contents b) (g.K.Sink.faults a) (g.K.Sink.faults b)) (sym same)
    (printed_front c.args.first.now c.args.second.now (g.K.Sink.contents a) (g.K.Sink.contents b) (g.K.Sink.faults a) (g.K.Sink.faults b) x (record { ok = e.ok; err = e.err; silent = e.silent; cause = e.cause }))

pub returns : goal.returns
returns g c =
    let a = c.args.out.now in
    let b = c.write_all.new.self in
    let d = c.write_all-2.new.self in
    let e = c.in_ok-write_all.ensures in
    let f = c.write_all-2.ensures in
    printed_more c.args.first.now c.args.second.now (g.K.Sink.contents a) (g.K.Sink.contents b) (g.K.Sink.contents d) (g.K.Sink.faults a) (g.K.Sink.faults b) (g.K.Sink.faults d) c.in_ok-write_all.field-0 c.write_all-2.result
    (record { ok = e.ok; err = e.err; silent = e.silent; cause = e.cause }) (record { ok = f.ok; err = f.err; silent = f.silent; cause = f.cause })
