use Rattle.std.proofs.Common.{arith}
use Rattle.qt_atoms.proofs.Steps.{begins}
use Rattle.qt_atoms.proofs.walker.AtomWalker.head.Goals as goal

pub returns-clause-front : goal.returns-clause-front
returns-clause-front g c = λ b holds.
    begins b c.args.self.now.at c.args.self.now.end c.read_at.new.into c.head_of.result (c.requires.inside b holds) (omega arith)
    (c.in_ok-read_at.ensures.bytes b holds) c.head_of.ensures.size c.head_of.ensures.kind
