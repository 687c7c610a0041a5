use Rattle.std.proofs.Common.{List, ap, arith, length}
use Rattle.edit_journal.specs.Strips.{Piece}
use Rattle.edit_journal.proofs.Runs.{cut_none}
use Rattle.edit_journal.proofs.cut.count_cuts.Goals as goal

pub returns-clause-strips : goal.returns-clause-strips
returns-clause-strips c =
    let so = c.loop-from.invariant in
    let strips = so.strips in
    omega (arith, ap (λ (ps : List Piece). length ps) (cut_none c.args.bytes.now c.loop-from.from c.loop-from-test.false))
