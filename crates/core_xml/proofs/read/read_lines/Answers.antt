use Rattle.std.proofs.Common.{◌≡◌, ◌∷◌, length, rules, arith, ap, Err}
use Rattle.core_xml.specs.Table.{read_lines, start}
use Rattle.core_xml.proofs.Alike.{lines_more, lines_stop}
use Rattle.core_xml.proofs.Sound.{fine_after}
use Rattle.core_xml.proofs.read.read_lines.Goals as goal

pub returns-in_err-reading : goal.returns-in_err-reading
returns-in_err-reading c =
    let step : c.lines.lines ≡ c.in-Some.line.now ∷ c.next.new.self = search rules in
    let e = c.in_err-reading.field-0.0 in
    let same : c.from_residual.result ≡ Err e = search rules in
    rw same (lines_stop c.next.new.self c.lines.reading c.args.file.now c.in-Some.line.now c.lines.n e (read_lines start c.args.file.now 1 c.args.lines) c.in_err-reading.ensures
    (rw step at c.lines.invariant.left))

pub lines-preserved : goal.lines-preserved
lines-preserved c =
    let step : c.lines.lines ≡ c.in-Some.line.now ∷ c.next.new.self = search rules in
    record {
      fine = fine_after c.lines.n c.lines.reading c.in_ok-reading.reading c.args.file.now c.in-Some.line.now c.lines.invariant.fine c.in_ok-reading.ensures;
      few = omega (arith, ap length step, c.lines.invariant.few);
      left = lines_more c.next.new.self c.lines.reading c.in_ok-reading.reading c.args.file.now c.in-Some.line.now c.lines.n (read_lines start c.args.file.now 1 c.args.lines)
          c.in_ok-reading.ensures (rw step at c.lines.invariant.left);
    }
