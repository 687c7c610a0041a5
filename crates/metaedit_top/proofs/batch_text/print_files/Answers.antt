use Rattle.std.proofs.Common.{rules, ◌≡◌, ◌++◌, List, ℕ, Err, Ok, sym, subst, get_or}
use Rattle.metaedit_top.specs.declared.batch_end.FileEnd.{FileEnd}
use Rattle.metaedit_top.specs.declared.batch_text.FileTexts.{FileTexts}
use Rattle.metaedit_top.specs.BatchText.{IsTextOf, Printed, end_line, texts_lines}
use Rattle.metaedit_top.proofs.Prints.{printed_all, printed_first, printed_next, printed_stops, text_at}
use Rattle.metaedit_top.proofs.batch_text.print_files.Goals as goal

pub loop-i-init : goal.loop-i-init
loop-i-init g c = printed_first c.args.texts.now c.args.ends.now (g.K.Sink.contents c.args.out.now) (g.K.Sink.faults c.args.out.now)

pub print_file-requires : goal.print_file-requires
print_file-requires g c =
    let t = c.index-texts-i.result in
    let e = c.index-ends-i.result in
    subst (λ (x : FileTexts). IsTextOf x e) (sym c.index-texts-i.is)
    (subst (λ (y : FileEnd). IsTextOf (get_or c.args.texts.now c.loop-i.i t) y) (sym c.index-ends-i.is)
    (text_at c.args.texts.now c.args.ends.now c.loop-i.i t e c.requires.texts c.loop-i-test.true))

pub loop-i-preserved : goal.loop-i-preserved
loop-i-preserved g c =
    let a = c.args.out.now in
    let b = c.loop-i.out in
    let d = c.print_file.new.out in
    printed_next c.args.texts.now c.args.ends.now c.requires.texts c.loop-i.i c.loop-i-test.true c.index-texts-i.result c.index-ends-i.result c.index-texts-i.is c.index-ends-i.is
    (g.K.Sink.contents a) (g.K.Sink.contents b) (g.K.Sink.faults a) (g.K.Sink.faults b) c.loop-i.invariant (g.K.Sink.contents d) (g.K.Sink.faults d) c.in_ok-print_file.field-0 c.in_ok-print_file.ensures

pub returns-in_err-print_file : goal.returns-in_err-print_file
returns-in_err-print_file g c =
    let a = c.args.out.now in
    let b = c.loop-i.out in
    let d = c.print_file.new.out in
    let x = c.in_err-print_file.field-0.0 in
    let same : c.from_residual.result ≡ Err x = search rules in
    subst (Printed (texts_lines c.args.texts.now c.args.ends.now) (g.K.Sink.contents a) (g.K.Sink.contents d) (g.K.Sink.faults a) (g.K.Sink.faults d)) (sym same)
    (printed_stops c.args.texts.now c.args.ends.now c.requires.texts c.loop-i.i c.loop-i-test.true c.index-texts-i.result c.index-ends-i.result c.index-texts-i.is c.index-ends-i.is
    (g.K.Sink.contents a) (g.K.Sink.contents b) (g.K.Sink.faults a) (g.K.Sink.faults b) c.loop-i.invariant (g.K.Sink.contents d) (g.K.Sink.faults d) x c.in_err-print_file.ensures)

pub returns : goal.returns
returns g c =
    let a = c.args.out.now in
    let b = c.loop-i.out in
    printed_all c.args.texts.now c.args.ends.now c.loop-i.i (g.K.Sink.contents a) (g.K.Sink.contents b) (g.K.Sink.faults a) (g.K.Sink.faults b) c.loop-i-test.false c.loop-i.invariant
