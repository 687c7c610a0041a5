use Rattle.std.proofs.Common.{arith, rules}
use Rattle.qt_atoms.specs.Walk.{level_of}
use Rattle.qt_atoms.proofs.Steps.{few_stepped, front_few}
use Rattle.qt_atoms.proofs.walker.AtomWalker.next_in.Goals as goal

pub returns-in_default-clause-row : goal.returns-in_default-clause-row
returns-in_default-clause-row c =
    let at = c.args.self.now.at in
    let end = c.args.self.now.end in
    let s = level_of c.args.self.now.parent in
    few_stepped s c.args.bytes.now at end (front_few s c.args.bytes.now at end (omega arith) (search rules))
