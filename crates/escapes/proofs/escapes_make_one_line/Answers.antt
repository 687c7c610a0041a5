use Rattle.std.proofs.Common.{arith, length}
use Rattle.escapes.proofs.OneLine.{printable_from, utf8_by}
use Rattle.escapes.proofs.escapes_make_one_line.Goals as goal

pub returns-clause-printable : goal.returns-clause-printable
returns-clause-printable c = λ raw small. printable_from 0 raw small tt

pub returns-clause-utf8 : goal.returns-clause-utf8
returns-clause-utf8 c = λ raw small. utf8_by (length raw) raw (omega arith) small
