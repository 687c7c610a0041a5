use Rattle.std.proofs.Common.{rules}
use Rattle.mov_file.proofs.Kept.{kept}
use Rattle.mov_file.proofs.Sound.{lies_met}
use Rattle.mov_file.proofs.reading.remember.Goals as goal

pub returns-clause-remembers : goal.returns-clause-remembers
returns-clause-remembers c = λ chunk before st knows. kept c.args.holder chunk c.args.atom.now before c.args.reading.now _ st knows (search rules)

pub returns-clause-lies : goal.returns-clause-lies
returns-clause-lies c = λ order. lies_met c.args.holder c.args.atom.now c.args.reading.now _ order (search rules)
