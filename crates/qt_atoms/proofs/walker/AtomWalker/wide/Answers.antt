use Rattle.std.proofs.Common.{arith}
use Rattle.qt_atoms.proofs.Steps.{wide_read}
use Rattle.qt_atoms.proofs.walker.AtomWalker.wide.Goals as goal

pub returns-clause-wide : goal.returns-clause-wide
returns-clause-wide g c = λ b holds one.
    wide_read b c.args.self.now.at c.args.self.now.end c.read_at.new.into c.from_be_bytes.result (c.requires.inside b holds) (omega arith)
    (c.in_ok-read_at.ensures.bytes b holds) c.from_be_bytes.ensures
