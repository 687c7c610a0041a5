use Rattle.std.proofs.Common.{arith}
use Rattle.container_model.proofs.Windows.{length_slice}
use Rattle.mov_file.proofs.Carried.{no_large}
use Rattle.mov_file.proofs.carriers.read_table.Goals as goal

pub returns-then-atom-gt-MOST_META-clause-table : goal.returns-then-atom-gt-MOST_META-clause-table
returns-then-atom-gt-MOST_META-clause-table g c = λ b holds.
    let k = c.args.atom.now in
    let len = length_slice b k.body.at k.body.len (c.requires.inside b holds) in
    no_large b k (omega (arith, len, c.if-atom-gt-MOST_META.true))
